use Rattle.std.proofs.Common.{◌<◌, ap, subst, ◌∙◌}
use Rattle.store_bench.proofs.Shows.{shown_none, shown_more}
use Rattle.store_bench.proofs.showing.show.Goals as goal

pub loop-g-init : goal.loop-g-init
loop-g-init c = (ap (λ z. z.table) c.begin.ensures, shown_none _ _ _ c.requires.begins.none_out (ap (λ z. z.state) c.begin.ensures))

pub loop-g-preserved : goal.loop-g-preserved
loop-g-preserved c = (
  c.show_group.ensures.table ∙ c.loop-g.invariant.0,
  shown_more c.args.plan.now c.loop-g.g c.args.writer.now.state c.loop-g.writer.state _ c.loop-g.invariant.1 (subst (λ k. c.loop-g.g < k) c.groups_of-g-end.ensures c.loop-g-test.true) c.show_group.ensures.shown,
)
