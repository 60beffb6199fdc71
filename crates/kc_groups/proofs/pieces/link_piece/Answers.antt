use Rattle.std.proofs.Common.{false, length, arith}
use Rattle.std.proofs.lemmas.List.{with_items_is}
use Rattle.kc_groups.specs.Gathering.{vertices}
use Rattle.kc_groups.proofs.PieceLemmas.{piece_is}
use Rattle.kc_groups.proofs.WorkLemmas.{many}
use Rattle.kc_groups.proofs.pieces.link_piece.Goals as goal

pub link_rows-requires-clause-gathered : goal.link_rows-requires-clause-gathered
link_rows-requires-clause-gathered c = ((λ i j. false), rw c.as_mut_slice-parents.ensures.value c.in_ok-own.ensures)

pub link_rows-requires-2-clause-gathered : goal.link_rows-requires-2-clause-gathered
link_rows-requires-2-clause-gathered c = (_, c.link_rows.ensures (λ i j. false) (rw c.as_mut_slice-parents.ensures.value c.in_ok-own.ensures))

pub returns : goal.returns
returns c =
    let made = piece_is (length c.args.moves.now) c.args.graph.now (vertices c.args.moves.now) _ c.args.part.start c.args.part.end (many c.args.moves.now) (c.link_rows-2.ensures _ (c.link_rows.ensures (λ i j. false) (rw c.as_mut_slice-parents.ensures.value c.in_ok-own.ensures))) in
    rw (with_items_is c.in_ok-own.own c.link_rows-2.new.parents (omega (arith, made.sized, c.in_ok-own.ensures.sized, c.as_mut_slice-parents.ensures.len))) made
