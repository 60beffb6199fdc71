use Rattle.std.proofs.Common.{◌≡◌, ◌*◌, ◌<◌, ◌++◌, ◌∷◌, length, take, drop, rules, arith, ap, ◌∙◌}
use Rattle.std.specs.List.{flat_map}
use Rattle.kc_levels.specs.declared.moves.Move.{Move}
use Rattle.kc_report.specs.Lines.{member_word}
use Rattle.kc_report.proofs.MemberLemmas.{piece_more, pieces_are_all}
use Rattle.kc_report.proofs.members.fill_pieces.Goals as goal

pub loop-piece-preserved : goal.loop-piece-preserved
loop-piece-preserved g c =
    let i = c.loop-piece.piece-index in
    let size = c.args.size in
    let within : i < length c.in_ok-pieces.pieces.items = search rules in
    let given = (c.in_ok-pieces.ensures.each i c.piece-item.result within).1 in
    let more : c.in-Ok.text ≡ flat_map (λ (m : Move). 32 ∷ member_word m) (take size (drop (i * size) c.args.moves.now)) = grind (arith, given.call, given.argument_is.value) in
    let added : c.put.new.self ≡ c.loop-piece.buf ++ c.in-Ok.text = search rules in
    added ∙ piece_more (λ (m : Move). 32 ∷ member_word m) _ _ _ _ i size c.loop-piece.invariant more

pub returns : goal.returns
returns g c =
    c.loop-piece.invariant ∙ ap (λ text. c.args.buf.now ++ text) (pieces_are_all (λ (m : Move). 32 ∷ member_word m) _ c.loop-piece.piece-index c.args.size (search rules) (search rules))
