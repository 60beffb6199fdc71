use Rattle.std.proofs.Common.{◌≡◌, ◌*◌, ◌<◌, ◌++◌, length, take, drop, filter, rules, arith, ◌∙◌}
use Rattle.std.proofs.lemmas.List.Elements.{filter-append}
use Rattle.kc_rounds.proofs.Pieces.{piece_more, pieces_are_all}
use Rattle.kc_rounds.proofs.filtering.filter_round.Goals as goal

pub loop-piece-preserved : goal.loop-piece-preserved
loop-piece-preserved g c =
    let i = c.loop-piece.piece-index in
    let size = c.piece_size-size.result in
    let within : i < length c.in_ok-pieces.pieces.items = search rules in
    let given = (c.in_ok-pieces.ensures.each i c.piece-item.result within).1 in
    let more : c.in-Ok.part.items ≡ filter (g.F.RoundTest.keeps c.args.test.now) (take size (drop (i * size) c.args.candidates.now)) = grind (arith, given.call, given.argument_is.value) in
    let added : c.extend_from_slice.new.self.items ≡ c.loop-piece.kept.items ++ c.in-Ok.part.items = search rules in
    added ∙ piece_more (filter (g.F.RoundTest.keeps c.args.test.now)) (filter-append (g.F.RoundTest.keeps c.args.test.now)) _ _ _ i size c.loop-piece.invariant more

pub returns : goal.returns
returns g c = c.loop-piece.invariant ∙ pieces_are_all (filter (g.F.RoundTest.keeps c.args.test.now)) _ c.loop-piece.piece-index c.piece_size-size.result (search rules) (search rules)
