use Rattle.std.proofs.Common.{◌≡◌, ◌||◌, length, rules, arith}
use Rattle.kc_groups.specs.private.Gathering.{in_rows}
use Rattle.kc_groups.specs.Gathering.{vertices}
use Rattle.kc_groups.proofs.PieceLemmas.{rows_none, rows_more}
use Rattle.kc_groups.proofs.linking.link_rows.Goals as goal

pub loop-place-init : goal.loop-place-init
loop-place-init c before g = rows_none (length c.args.moves.now) c.args.graph.now (vertices c.args.moves.now) c.args.parents.now before c.args.part.start g

pub link_row-requires-clause-many : goal.link_row-requires-clause-many
link_row-requires-clause-many c = (c.loop-place.invariant c.requires.gathered.0 c.requires.gathered.1).sized

pub link_row-requires-clause-forest : goal.link_row-requires-clause-forest
link_row-requires-clause-forest c =
    let now = c.loop-place.invariant c.requires.gathered.0 c.requires.gathered.1 in
    (now.roots, now.forest)

pub loop-place-preserved : goal.loop-place-preserved
loop-place-preserved c before l =
    let g = c.args.graph.now in
    let vs = vertices c.args.moves.now in
    let k = c.loop-place.place in
    rows_more (length c.args.moves.now) g vs c.link_row.new.parents before c.args.part.start k (search rules) (c.link_row.ensures (λ i j. before i j || in_rows g vs c.args.part.start k i j) (c.loop-place.invariant before l))

pub returns : goal.returns
returns c before l =
    let all : c.loop-place.place ≡ c.args.part.end = omega arith in
    rw all at (c.loop-place.invariant before l)
