use Rattle.std.proofs.Common.{◌≡◌, map, arith}
use Rattle.kc_graph.specs.private.Keys.{unpacked}
use Rattle.kc_graph.specs.private.Walks.{no_effect, walked}
use Rattle.kc_graph.proofs.CleaningLemmas.{parts_are, parts_walked, parts_counts}
use Rattle.kc_graph.proofs.walking.+walking.Goals as goal

pub walk_by-walk_both-lesser-requires-clause-front : goal.walk_by-walk_both-lesser-requires-clause-front
walk_by-walk_both-lesser-requires-clause-front g t c κs within = (parts_are c.args.graph.now.edges c.args.bits c.args.keys.now c.in-Some.front.now c.in-Some.back.now c.in-Some.ensures c.args.graph.now.vertices c.requires).0

pub walk_by-walk_both-lesser-requires-clause-back : goal.walk_by-walk_both-lesser-requires-clause-back
walk_by-walk_both-lesser-requires-clause-back g t c κs within = (parts_are c.args.graph.now.edges c.args.bits c.args.keys.now c.in-Some.front.now c.in-Some.back.now c.in-Some.ensures c.args.graph.now.vertices c.requires).1

pub walk_by-follow-requires-clause-loops : goal.walk_by-follow-requires-clause-loops
walk_by-follow-requires-clause-loops g t c =
    let edges = c.args.graph.now.edges in
    let bits = c.args.bits in
    let first : c.in_ok-cleaned.cleaned ≡ walked edges (map (unpacked bits) c.in-Some.front.now) no_effect = rw c.in_ok-cleaned.was at c.walk_both-lesser.ensures.front in
    let later : c.in_ok-later.later ≡ walked edges (map (unpacked bits) c.in-Some.back.now) no_effect = rw c.in_ok-later.was at c.walk_both-lesser.ensures.back in
    omega (arith, (parts_counts edges bits c.args.keys.now c.in-Some.front.now c.in-Some.back.now c.in-Some.ensures c.in_ok-cleaned.cleaned c.in_ok-later.later first later).0)

pub walk_by-follow-requires-clause-repeats : goal.walk_by-follow-requires-clause-repeats
walk_by-follow-requires-clause-repeats g t c =
    let edges = c.args.graph.now.edges in
    let bits = c.args.bits in
    let first : c.in_ok-cleaned.cleaned ≡ walked edges (map (unpacked bits) c.in-Some.front.now) no_effect = rw c.in_ok-cleaned.was at c.walk_both-lesser.ensures.front in
    let later : c.in_ok-later.later ≡ walked edges (map (unpacked bits) c.in-Some.back.now) no_effect = rw c.in_ok-later.was at c.walk_both-lesser.ensures.back in
    omega (arith, c.requires.few, (parts_counts edges bits c.args.keys.now c.in-Some.front.now c.in-Some.back.now c.in-Some.ensures c.in_ok-cleaned.cleaned c.in_ok-later.later first later).1)

pub walk_by-follow-requires-clause-idle : goal.walk_by-follow-requires-clause-idle
walk_by-follow-requires-clause-idle g t c =
    let edges = c.args.graph.now.edges in
    let bits = c.args.bits in
    let first : c.in_ok-cleaned.cleaned ≡ walked edges (map (unpacked bits) c.in-Some.front.now) no_effect = rw c.in_ok-cleaned.was at c.walk_both-lesser.ensures.front in
    let later : c.in_ok-later.later ≡ walked edges (map (unpacked bits) c.in-Some.back.now) no_effect = rw c.in_ok-later.was at c.walk_both-lesser.ensures.back in
    omega (arith, c.requires.few, (parts_counts edges bits c.args.keys.now c.in-Some.front.now c.in-Some.back.now c.in-Some.ensures c.in_ok-cleaned.cleaned c.in_ok-later.later first later).2)

pub walk_by-returns-in-Some : goal.walk_by-returns-in-Some
walk_by-returns-in-Some g t c =
    let edges = c.args.graph.now.edges in
    let bits = c.args.bits in
    let first : c.in_ok-cleaned.cleaned ≡ walked edges (map (unpacked bits) c.in-Some.front.now) no_effect = rw c.in_ok-cleaned.was at c.walk_both-lesser.ensures.front in
    let later : c.in_ok-later.later ≡ walked edges (map (unpacked bits) c.in-Some.back.now) no_effect = rw c.in_ok-later.was at c.walk_both-lesser.ensures.back in
    rw c.in_ok-follow.ensures (parts_walked edges bits c.args.keys.now c.in-Some.front.now c.in-Some.back.now c.in-Some.ensures c.in_ok-cleaned.cleaned c.in_ok-later.later first later)
