use Rattle.std.proofs.Common.{◌≡◌, ◌<◌, ◌+◌, ◌++◌, ◌∷◌, ◌∙◌, ℕ, List, [], true, get_or, take, refl, sym, ap, subst, arith, add-one}
use Rattle.std.proofs.Math.Seq.{take-suc}
use Rattle.std.proofs.lemmas.List.{take_all}
use Rattle.std.proofs.lemmas.List.Elements.{All-get_or}
use Rattle.kc_graph.specs.Numbers.{has_number}
use Rattle.kc_graph.specs.Shape.{neighbours_of}
use Rattle.kc_graph.proofs.lemmas.Numbers.{has_number_at}
use Rattle.kc_dense.proofs.RemainingLemmas.{AreFalling, next_least, falling_first, falling_more, falling_some, falling_last, rising_new}
use Rattle.kc_dense.proofs.remaining.take_next.Goals as goal

pub overflow_cast-vertex : goal.overflow_cast-vertex
overflow_cast-vertex c = omega (arith, c.first_least-vertex.ensures.inside, c.requires.remaining.sized, c.requires.remaining.few)

pub loop-u-init : goal.loop-u-init
loop-u-init c = rw c.set.ensures (falling_first _ _)

pub lower-requires-clause-some : goal.lower-requires-clause-some
lower-requires-clause-some c =
    let g = c.args.graph.now in
    let v = c.first_least-vertex.result in
    let items = c.neighbours-u-items.result.now in
    let i = c.loop-u.u-index in
    let w = get_or items i 0 in
    let next = (next_least g c.args.degrees.now v c.requires.remaining c.requires.some c.first_least-vertex.ensures).0 in
    let neighbour : has_number w (neighbours_of v g.edges) ≡ true = ap (λ (xs : List ℕ). has_number w xs) (sym c.neighbours-u-items.ensures.value) ∙ has_number_at w items i c.loop-u-test.true refl in
    let below : w < g.vertices = All-get_or (λ u. u < g.vertices) items i 0 c.loop-u-test.true c.neighbours-u-items.ensures.below in
    falling_some g c.args.degrees.now v (take i items) c.loop-u.degrees w c.requires.graph c.requires.remaining next.holds c.loop-u.invariant
    (rising_new 0 items i c.neighbours-u-items.ensures.ascending c.loop-u-test.true) neighbour (omega (arith, below, c.loop-u.invariant.sized, c.requires.remaining.sized))

pub loop-u-preserved : goal.loop-u-preserved
loop-u-preserved c =
    let g = c.args.graph.now in
    let items = c.neighbours-u-items.result.now in
    let i = c.loop-u.u-index in
    let w = get_or items i 0 in
    let below : w < g.vertices = All-get_or (λ u. u < g.vertices) items i 0 c.loop-u-test.true c.neighbours-u-items.ensures.below in
    let seen : take (i + 1) items ≡ take i items ++ (w ∷ []) = rw add-one (take-suc items i 0 c.loop-u-test.true) in
    rw (seen, c.lower.ensures)
    (falling_more c.args.degrees.now c.first_least-vertex.result (take i items) c.loop-u.degrees w c.loop-u.invariant
    (rising_new 0 items i c.neighbours-u-items.ensures.ascending c.loop-u-test.true) (omega (arith, below, c.loop-u.invariant.sized, c.requires.remaining.sized)))

pub returns-clause-next : goal.returns-clause-next
returns-clause-next c = (next_least _ _ _ c.requires.remaining c.requires.some c.first_least-vertex.ensures).0

pub returns-clause-degree : goal.returns-clause-degree
returns-clause-degree c = c.get-degree.ensures ∙ (next_least _ _ _ c.requires.remaining c.requires.some c.first_least-vertex.ensures).1

fallen : (c : goal.After-loop-u) → AreFalling c.args.degrees.now c.first_least-vertex.result (neighbours_of c.first_least-vertex.result c.args.graph.now.edges) c.loop-u.degrees
fallen c =
    let all = take_all c.loop-u.u-index c.neighbours-u-items.result.now (omega arith) ∙ c.neighbours-u-items.ensures.value in
    subst (λ (xs : List ℕ). AreFalling c.args.degrees.now c.first_least-vertex.result xs c.loop-u.degrees) all c.loop-u.invariant

pub returns-clause-others : goal.returns-clause-others
returns-clause-others c =
    let next = (next_least _ _ _ c.requires.remaining c.requires.some c.first_least-vertex.ensures).0 in
    (falling_last c.args.graph.now c.args.degrees.now c.first_least-vertex.result c.loop-u.degrees c.requires.graph c.requires.remaining next.holds (fallen c)).0

pub returns-clause-remaining : goal.returns-clause-remaining
returns-clause-remaining c =
    let next = (next_least _ _ _ c.requires.remaining c.requires.some c.first_least-vertex.ensures).0 in
    (falling_last c.args.graph.now c.args.degrees.now c.first_least-vertex.result c.loop-u.degrees c.requires.graph c.requires.remaining next.holds (fallen c)).1
