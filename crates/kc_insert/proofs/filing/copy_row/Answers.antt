use Rattle.std.proofs.Common.{ℕ, List, ◌≡◌, ◌<◌, ◌≢◌, false, length, get_or, refl, subst, arith}
use Rattle.kc_graph.specs.Numbers.{has_number}
use Rattle.kc_insert.specs.private.Filed.{AreCopied}
use Rattle.kc_insert.proofs.Copying.{copied_none, copied_on, copied_one_vertex, copied_row, copied_row_next, in_same}
use Rattle.kc_insert.proofs.filing.copy_row.Goals as goal

pub loop-w-init : goal.loop-w-init
loop-w-init c =
    let low : c.args.v < length c.args.fresh.counts.now = omega (arith, c.args.fresh.sized, c.requires.vertex) in
    copied_on c.args.fresh.counts.now (λ u. u ≢ c.args.v) (λ u. u ≡ u) _ c.args.ranges.now c.set.new.self c.set.new.self (copied_one_vertex c.args.fresh.counts.now c.args.v (get_or c.args.fresh.counts.now c.args.v 0) c.args.ranges.now c.set.new.self (c.requires.vertices c.args.v low) refl c.set.ensures) (copied_none c.args.fresh.counts.now (λ u. u ≡ u) c.set.new.self (λ u. refl)) (λ u p q. (p, λ k d h. absurd (omega (arith, h))))

pub loop-w-preserved : goal.loop-w-preserved
loop-w-preserved c =
    let w = get_or c.neighbours-w-items.result.now c.loop-w.w-index 0 in
    let low : get_or c.neighbours-w-items.result.now c.loop-w.w-index 0 < length c.args.fresh.counts.now = omega (arith, c.neighbours-w-items.ensures.below c.loop-w.w-index 0 c.loop-w-test.true, c.args.fresh.sized) in
    copied_row_next c.args.fresh.counts.now c.neighbours-w-items.result.now c.args.v c.loop-w.w-index c.args.ranges.now c.loop-w.ranges c.set-in-loop-w.new.self c.loop-w-test.true c.loop-w.invariant (copied_one_vertex c.args.fresh.counts.now (get_or c.neighbours-w-items.result.now c.loop-w.w-index 0) (get_or c.args.fresh.counts.now (get_or c.neighbours-w-items.result.now c.loop-w.w-index 0) 0) c.loop-w.ranges c.set-in-loop-w.new.self (in_same c.args.ranges.now c.loop-w.ranges _ c.loop-w.invariant.same (c.requires.vertices _ low)) refl c.set-in-loop-w.ensures)

pub returns : goal.returns
returns c =
    subst (λ (ws : List ℕ). AreCopied c.args.fresh.counts.now (λ u. (u ≢ c.args.v) × (has_number u ws ≡ false)) c.args.ranges.now c.loop-w.ranges) c.neighbours-w-items.ensures.value
    (copied_row c.args.fresh.counts.now c.neighbours-w-items.result.now c.args.v c.loop-w.w-index c.args.ranges.now c.loop-w.ranges (omega (arith, c.loop-w-test.false)) c.loop-w.invariant)
