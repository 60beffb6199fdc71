use Rattle.std.proofs.Common.{◌≡◌, ◌<◌, length, get_or, ap, sym, ◌∙◌, arith}
use Rattle.kc_groups.proofs.WorkLemmas.{no_move, vertex_at}
use Rattle.kc_groups.proofs.DealingLemmas.{moves_first, deal_move, dealt_below}
use Rattle.kc_groups.proofs.dealing.deal_moves.Goals as goal

pub loop-k-init : goal.loop-k-init
loop-k-init c = moves_first c.args.places.now c.args.entries.now.items c.requires.empty

pub move_place_with_prefetch-place-requires-clause-dealt : goal.move_place_with_prefetch-place-requires-clause-dealt
move_place_with_prefetch-place-requires-clause-dealt c =
    rw (c.deref.ensures.value)
    (dealt_below (length c.args.places.now) c.args.places.now c.args.moves.now c.loop-k.k c.args.entries.now.items c.loop-k.entries.items (λ i d h. (c.requires.placed i d h).0) c.loop-k.invariant)

pub index_mut-requires : goal.index_mut-requires
index_mut-requires c =
    let inside : c.loop-k.k < length c.args.moves.now = omega arith in
    let place : c.move_place_with_prefetch-place.result ≡ get_or c.args.places.now (get_or c.args.moves.now c.loop-k.k no_move).vertex 0 =
    c.move_place_with_prefetch-place.ensures ∙ ap (λ v. get_or c.args.places.now v 0) (sym (vertex_at c.args.moves.now c.loop-k.k inside)) in
    omega (arith, place, (c.requires.placed c.loop-k.k no_move inside).1, c.loop-k.invariant.sized)

pub loop-k-preserved : goal.loop-k-preserved
loop-k-preserved c =
    let inside : c.loop-k.k < length c.args.moves.now = omega arith in
    let place : c.move_place_with_prefetch-place.result ≡ get_or c.args.places.now (get_or c.args.moves.now c.loop-k.k no_move).vertex 0 =
    c.move_place_with_prefetch-place.ensures ∙ ap (λ v. get_or c.args.places.now v 0) (sym (vertex_at c.args.moves.now c.loop-k.k inside)) in
    rw (c.in_ok-push_move.ensures.ok, place)
    (deal_move c.args.places.now c.args.moves.now c.loop-k.k no_move c.args.entries.now.items c.loop-k.entries.items c.index_mut.result.now inside c.loop-k.invariant (c.requires.placed c.loop-k.k no_move inside).1 (rw place at c.index_mut.ensures.value))
