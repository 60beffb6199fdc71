use Rattle.std.proofs.Common.{refl, ap, ◌∙◌}
use Rattle.kc_groups.specs.declared.plans.PhasePlan.{PhasePlan}
use Rattle.kc_groups.specs.WellFormed.{vertex_at}
use Rattle.kc_store.specs.States.{with_cleared}
use Rattle.store_bench.proofs.Shows.{cleared_none, cleared_more}
use Rattle.store_bench.proofs.showing.clear_group.Goals as goal

pub loop-i-init : goal.loop-i-init
loop-i-init c = (refl, cleared_none c.args.g c.args.writer.now.state)

pub loop-i-preserved : goal.loop-i-preserved
loop-i-preserved c = (ap (λ z. z.table) c.clear.ensures ∙ c.loop-i.invariant.0, cleared_more c.args.g c.loop-i.i c.args.writer.now.state c.loop-i.writer.state _ c.loop-i.invariant.1 (ap (λ z. z.state) c.clear.ensures ∙ ap (λ (p : PhasePlan). with_cleared (vertex_at p c.args.g c.loop-i.i) c.loop-i.writer.state) c.requires.plan))
