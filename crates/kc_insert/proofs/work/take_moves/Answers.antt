use Rattle.std.proofs.Common.{ℕ, List, ◌+◌, length, ap, sym, ◌∙◌, subst}
use Rattle.kc_levels.specs.Following.{AreDistinct}
use Rattle.kc_adj.specs.Degrees.{degrees}
use Rattle.kc_insert.proofs.Members.{rising_once, same_fees}
use Rattle.kc_insert.proofs.work.take_moves.Goals as goal

pub par_lift_all-requires-clause-once : goal.par_lift_all-requires-clause-once
par_lift_all-requires-clause-once g c κs within = rw c.deref.ensures.value (rising_once 0 _ c.moves_of.ensures.ascending)

pub returns-clause-cost : goal.returns-clause-cost
returns-clause-cost g c =
    let once = subst AreDistinct (sym c.in_ok-risen.ensures) c.requires.moved.once in
    c.in_ok-par_lift_all.ensures.cost ∙ ap (λ (vs : List ℕ). c.args.steps.now + (degrees c.args.adj.now.graph vs + length vs)) c.deref.ensures.value
    ∙ ap (λ k. c.args.steps.now + k) (same_fees c.args.adj.now.graph c.moves_of.new.vertices.items c.in_ok-risen.risen.items (rising_once 0 _ c.moves_of.ensures.ascending) once c.moves_of.ensures.same)
    ∙ ap (λ (vs : List ℕ). c.args.steps.now + (degrees c.args.adj.now.graph vs + length vs)) c.in_ok-risen.ensures
