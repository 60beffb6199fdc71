use Rattle.std.proofs.Common.{ℕ, ◌∷◌, [], ap, List, length, arith, length-append}
use Rattle.kc_graph.proofs.CarryLemmas.{turned}
use Rattle.kc_graph.proofs.rows.carry_down.Goals as goal

pub returns : goal.returns
returns c front x is =
    let whole = ap (λ (l : List ℕ). length l) is in
    let end = length-append front (x ∷ []) in
    turned front x c.args.place c.args.items.now c.rotate_right.new.self is (omega arith) c.rotate_right.ensures.after
