use Rattle.std.proofs.Common.{length, ap, refl, arith}
use Rattle.kc_graph.proofs.lemmas.Numbers.{has_number_at}
use Rattle.kc_insert.proofs.Seen.{length-seen}
use Rattle.kc_insert.proofs.passes.put_above.Goals as goal

pub bounds-now-w : goal.bounds-now-w
bounds-now-w c =
    let inside = (rw (← c.step.view_is) at c.requires.inside) _ (has_number_at _ c.args.row.now c.loop-w.w-index (omega arith) refl) in
    omega (arith, inside, c.step.invariant.sized, length-seen c.step.inside.levels.now, ap length c.as_slice-now.ensures)
