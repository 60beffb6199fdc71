use Rattle.std.proofs.Common.{◌≡◌, ◌≢◌, false, refl, arith}
use Rattle.kc_graph.specs.Numbers.{has_number}
use Rattle.kc_graph.specs.Shape.{neighbours_of}
use Rattle.kc_levels.specs.declared.moves.Move.{Move}
use Rattle.kc_insert.proofs.Copying.{copied_more, copied_whole, in_same}
use Rattle.kc_insert.proofs.filing.copy_rows.Goals as goal

pub copy_row-requires-clause-vertices : goal.copy_row-requires-clause-vertices
copy_row-requires-clause-vertices c = λ v h. in_same c.args.ranges.now c.loop-m.ranges v c.loop-m.invariant.same (c.requires.vertices v h)

pub loop-m-preserved : goal.loop-m-preserved
loop-m-preserved c = copied_more (λ u (m : Move). (u ≢ m.vertex) × (has_number u (neighbours_of m.vertex c.args.fresh.graph.now.edges) ≡ false)) c.args.moves.now c.loop-m.m-index _ _ c.args.fresh.counts.now c.args.ranges.now c.loop-m.ranges _ c.loop-m-test.true refl c.loop-m.invariant c.copy_row.ensures

pub returns : goal.returns
returns c = copied_whole (λ u (m : Move). (u ≢ m.vertex) × (has_number u (neighbours_of m.vertex c.args.fresh.graph.now.edges) ≡ false)) c.args.moves.now c.loop-m.m-index c.args.fresh.counts.now c.args.ranges.now c.loop-m.ranges (omega (arith, c.loop-m-test.false)) c.loop-m.invariant
