use Rattle.std.proofs.Common.{◌<◌, ◌++◌, length, arith, ap, ◌∙◌}
use Rattle.std.specs.List.{flat_map}
use Rattle.kc_insert.specs.private.Rising.{rises}
use Rattle.kc_insert.specs.private.Crossing.{rising_near}
use Rattle.kc_insert.specs.Ranges.{Tell}
use Rattle.kc_insert.proofs.Inside.{dealt_all, inside_rows, near_inside}
use Rattle.kc_insert.proofs.range.Range.part.Goals as goal

pub overflow_add-self : goal.overflow_add-self
overflow_add-self c =
    let few = rw (← c.self.view_is) at c.requires.few in
    let steps = rw (← c.self.view_is) at c.requires.steps in
    omega (arith, few, steps, c.in_ok-self-inside.ensures.steps.1, ap length c.deref.ensures.value)

pub deal-requires : goal.deal-requires
deal-requires c = dealt_all c.step.inside.sharing.layout.width c.step.inside.graph.now.vertices c.self.inside.told.lists c.tell_parting.new.told _ (c.in_ok-self-inside.ensures.told ∙ ap (λ (t : Tell). record t { all = t.all ++ flat_map (rising_near c.args.step.now) c.deref.result.now }) c.clear.ensures)
    (inside_rows (λ v. v < c.step.inside.graph.now.vertices) (rising_near c.args.step.now) c.deref.result.now (λ x v at near. near_inside c.step.inside.graph.now x v (rises c.step.inside.levels.now) c.step.invariant.graph (rw (← c.step.view_is) at near)))
    (λ v h. (rw (← c.self.view_is) at (rw (← c.step.view_is) at c.requires.ranges)) v h)
