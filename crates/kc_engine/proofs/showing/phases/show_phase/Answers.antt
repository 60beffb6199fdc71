use Rattle.std.proofs.Common.{◌<◌, refl, ap, subst, ◌∙◌}
use Rattle.kc_store.proofs.lemmas.Shows.{shown_none, shown_more}
use Rattle.kc_engine.proofs.showing.phases.show_phase.Goals as goal

pub loop-g-init : goal.loop-g-init
loop-g-init g c = (refl, ap (λ z. z.table) c.begin.ensures, shown_none _ _ _ c.requires.begins.none_out (ap (λ z. z.state) c.begin.ensures))

pub loop-g-preserved : goal.loop-g-preserved
loop-g-preserved g c = (
  c.show_group.ensures.same ∙ c.loop-g.invariant.0,
  c.show_group.ensures.table ∙ c.loop-g.invariant.1,
  shown_more c.args.plan.now c.loop-g.g c.args.writer.now.state c.loop-g.writer.state _ c.loop-g.invariant.2 (subst (λ k. c.loop-g.g < k) c.groups_of-g-end.ensures c.loop-g-test.true) (rw c.new-group.ensures.place at c.show_group.ensures.shown),
)
