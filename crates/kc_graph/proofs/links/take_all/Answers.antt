use Rattle.std.proofs.Common.{ℕ, ◌≡◌, ◌+◌, ◌-◌, ◌<◌, ◌∙◌, List, [], length, get_or, ap}
use Rattle.std.proofs.lemmas.List.{get_or_default}
use Rattle.std.specs.Prelude.{filter, not}
use Rattle.kc_graph.specs.private.HalfLists.{halves_of}
use Rattle.kc_graph.specs.private.Halves.{has_second, AreOf}
use Rattle.kc_graph.proofs.HalfLemmas.{run_inside, taking_next}
use Rattle.kc_graph.proofs.links.take_all.Goals as goal

pub loop-run-preserved : goal.loop-run-preserved
loop-run-preserved c =
    let s = c.loop-run.invariant in
    let r = c.in-Some.ensures.some in
    let first = c.args.first in
    let row = c.in-Some.run'.v - first in
    let rest = halves_of c.loop-run.rest in
    let run = halves_of c.in-Some.run'.halves in
    let later = halves_of c.in-Some.run'.later in
    let at = run_inside first (length c.args.rows.now) rest c.in-Some.run'.v run later r s.inside in
    let lt : row < length c.loop-run.rows = rw (← s.sized) at at.1 in
    let row_is : get_or c.loop-run.rows row c.index-rows-run.result ≡ get_or c.loop-run.rows row [] = get_or_default c.loop-run.rows row _ [] lt in
    let of : AreOf (first + row) run = rw at.2 r.of in
    taking_next first c.args.rows.now c.loop-run.rows rest (halves_of c.args.halves) run later row c.remove_all.new.self s r.all of lt c.remove_all.ensures.rises (c.remove_all.ensures.value ∙ ap (λ (ns : List ℕ). filter (λ x. not (has_second x run)) ns) row_is)
