use Rattle.std.proofs.Common.{ℕ, Bool, false, ◌≡◌, ◌+◌, ◌*◌, ◌/◌, ◌%◌, ◌<◌, ◌≤◌, min, length, take, get_or, ap, sym, ◌∙◌, rules, arith}
use Rattle.std.specs.Prelude.{Ok}
use Rattle.std.proofs.lemmas.List.{length-take-le, with_items_is}
use Rattle.std.proofs.lemmas.Result.{IfOk-at_ok}
use Rattle.kc_groups.specs.Gathering.{vertices}
use Rattle.kc_groups.specs.private.Forest.{AreGathered}
use Rattle.kc_groups.specs.private.Gathering.{in_piece}
use Rattle.kc_groups.proofs.WorkLemmas.{many}
use Rattle.kc_groups.proofs.PieceLemmas.{pieces_none, pieces_joined, pieces_whole, piece_ends, last_ends}
use Rattle.kc_groups.proofs.pieces.gather_rows.Given.{Over}
use Rattle.kc_groups.proofs.pieces.gather_rows.Goals as goal

pub loop-own-init : goal.loop-own-init
loop-own-init g c = pieces_none (length c.args.moves.now) c.args.graph.now (vertices c.args.moves.now) c.as_mut_slice-parents.result.now (min (0 * c.piece_len-size.result) c.div_ceil-half.result) (omega arith) (rw c.as_mut_slice-parents.ensures.value c.in_ok-forest.ensures)

pub link_rows-requires-clause-gathered : goal.link_rows-requires-clause-gathered
link_rows-requires-clause-gathered g c = ((λ i j. false), rw c.as_mut_slice-parents.ensures.value c.in_ok-forest.ensures)

pub returns-then-half-size : goal.returns-then-half-size
returns-then-half-size g c =
    let made = c.link_rows.ensures (λ i j. false) (rw c.as_mut_slice-parents.ensures.value c.in_ok-forest.ensures) in
    rw (with_items_is c.in_ok-forest.forest c.link_rows.new.parents (omega (arith, made.sized, c.in_ok-forest.ensures.sized, c.as_mut_slice-parents.ensures.len))) made

pub loop-own-preserved : goal.loop-own-preserved
loop-own-preserved g c =
    let m = length c.args.moves.now in
    let graph = c.args.graph.now in
    let vs = vertices c.args.moves.now in
    let size = c.piece_len-size.result in
    let i = c.loop-own.own-index in
    let left : c.deref-own-items.result.now ≡ c.in_ok-found.found.items = c.deref-own-items.ensures.value in
    let within : c.loop-own.own-index < length c.in_ok-found.found.items = rw left at c.loop-own-test.true in
    let given = (c.in_ok-found.ensures.each i c.own-item.result within).1 in
    let is : get_or c.in_ok-found.found.items c.loop-own.own-index c.own-item.result ≡ Ok c.in-Ok.own =
    ap (λ xs. get_or xs c.loop-own.own-index c.own-item.result) (sym left) ∙ sym c.own-item.is ∙ c.in-Ok.is in
    let are = IfOk-at_ok (λ own. AreGathered m (in_piece graph vs (i * size) (i * size + length given.argument.now)) own.items) is given.call in
    let half = c.div_ceil-half.result in
    let low : c.div_ceil-half.result ≤ length c.args.moves.now = omega (arith, c.div_ceil-half.ensures) in
    let long : length (take c.div_ceil-half.result c.args.moves.now) ≡ c.div_ceil-half.result = length-take-le half c.args.moves.now low in
    let ends = piece_ends half size i (length given.argument.now) (rw long at given.argument_is.len) (rw long at given.argument_is.in_bounds) in
    let at : AreGathered (length c.args.moves.now) (in_piece c.args.graph.now (vertices c.args.moves.now) (min (c.loop-own.own-index * c.piece_len-size.result) c.div_ceil-half.result) (min ((c.loop-own.own-index + 1) * c.piece_len-size.result) c.div_ceil-half.result)) c.deref.result.now = rw (ends.0, sym ends.1, c.deref.ensures.value) are in
    let next : min (c.loop-own.own-index * c.piece_len-size.result) c.div_ceil-half.result ≤ min ((c.loop-own.own-index + 1) * c.piece_len-size.result) c.div_ceil-half.result = omega (arith, ends.0, ends.1) in
    pieces_joined m graph vs c.join_forest.new.parents (min (i * size) half) (min ((i + 1) * size) half) next
    (rw at.sized at (c.join_forest.ensures (in_piece graph vs (min (i * size) half) (min ((i + 1) * size) half)) (rw at.sized at) (in_piece graph vs 0 (min (i * size) half)) (rw at.sized c.loop-own.invariant)))

pub join_forest-requires-clause-forest : goal.join_forest-requires-clause-forest
join_forest-requires-clause-forest g c = (c.loop-own.invariant.roots, c.loop-own.invariant.forest)

-- the forest of a piece
own_forest : (g : Over) (c : goal.After-join_forest-arg-1 g) → (linked : ℕ → ℕ → Bool) × AreGathered (length c.args.moves.now) linked c.deref.result.now
own_forest g c =
    let m = length c.args.moves.now in
    let graph = c.args.graph.now in
    let vs = vertices c.args.moves.now in
    let size = c.piece_len-size.result in
    let i = c.loop-own.own-index in
    let left : c.deref-own-items.result.now ≡ c.in_ok-found.found.items = c.deref-own-items.ensures.value in
    let within : c.loop-own.own-index < length c.in_ok-found.found.items = rw left at c.loop-own-test.true in
    let given = (c.in_ok-found.ensures.each i c.own-item.result within).1 in
    let is : get_or c.in_ok-found.found.items c.loop-own.own-index c.own-item.result ≡ Ok c.in-Ok.own =
    ap (λ xs. get_or xs c.loop-own.own-index c.own-item.result) (sym left) ∙ sym c.own-item.is ∙ c.in-Ok.is in
    let piece = in_piece graph vs (i * size) (i * size + length given.argument.now) in
    (piece, rw (c.deref.ensures.value) (IfOk-at_ok (λ own. AreGathered m piece own.items) is given.call))

pub join_forest-requires-clause-same : goal.join_forest-requires-clause-same
join_forest-requires-clause-same g c = (own_forest g c).1.sized ∙ sym c.loop-own.invariant.sized

pub join_forest-requires-clause-small : goal.join_forest-requires-clause-small
join_forest-requires-clause-small g c = omega (arith, (own_forest g c).1.sized, c.requires.small)

pub join_forest-requires-clause-others : goal.join_forest-requires-clause-others
join_forest-requires-clause-others g c = ((own_forest g c).1.roots, (own_forest g c).1.forest)

pub returns : goal.returns
returns g c =
    let m = length c.args.moves.now in
    let half = c.div_ceil-half.result in
    let size = c.piece_len-size.result in
    let count : length c.in_ok-found.found.items ≡ c.div_ceil-half.result / c.piece_len-size.result + min 1 (c.div_ceil-half.result % c.piece_len-size.result) = search rules in
    let left : length c.deref-own-items.result.now ≡ length c.in_ok-found.found.items = ap (λ xs. length xs) c.deref-own-items.ensures.value in
    let all : c.loop-own.own-index ≡ length c.in_ok-found.found.items = omega (arith, left) in
    let end : min (c.loop-own.own-index * c.piece_len-size.result) c.div_ceil-half.result ≡ c.div_ceil-half.result = last_ends half size c.loop-own.own-index (search rules) (all ∙ count) in
    let made = pieces_whole m c.args.graph.now (vertices c.args.moves.now) c.loop-own.parents half (omega (arith, c.div_ceil-half.ensures)) (many c.args.moves.now) (rw end at c.loop-own.invariant) in
    rw (with_items_is c.in_ok-forest.forest c.loop-own.parents (omega (arith, made.sized, c.in_ok-forest.ensures.sized, c.as_mut_slice-parents.ensures.len))) made
