use Rattle.std.proofs.Common.{◌∙◌, arith}
use Rattle.kc_insert.proofs.Leaving.{has_edge_at}
use Rattle.kc_insert.proofs.passes.come_up.Goals as goal

pub rises-requires : goal.rises-requires
rises-requires c =
    let inside = (rw (← c.step.view_is) at c.requires.inside) c.m.inside.riser c.m.inside.other (has_edge_at c.args.meetings.now c.loop-m.m-index _ (c.m.inside.riser, c.m.inside.other) (omega arith) (c.m.view_is ∙ c.m-item.is)) in
    omega (arith, inside, c.step.invariant.sized)
