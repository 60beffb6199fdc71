use Rattle.std.proofs.Common.{ℕ, suc, ◌≡◌, ◌-◌, ◌<◌, length, get_or, arith, subst, ◌∙◌}
use Rattle.std.proofs.lemmas.List.{get_or_read}
use Rattle.kc_orient.proofs.Coloured.{IsColouringLevel, stamp_is_fresh, level_more}
use Rattle.kc_orient.proofs.colouring.colour_level.Goals as goal

pub least_free-requires-clause-below : goal.least_free-requires-clause-below
least_free-requires-clause-below c = rw c.deref.ensures.value (λ k d h.
    let below = c.out.ensures.below k d h in
    (omega (arith, below, c.loop-next.invariant.coloured.sized), c.loop-next.invariant.coloured.fits (get_or c.out.result.now k d) below))

pub least_free-requires-clause-few : goal.least_free-requires-clause-few
least_free-requires-clause-few c = omega (arith, c.out.ensures.fewer, c.out.ensures.small)

pub least_free-requires-clause-room : goal.least_free-requires-clause-room
least_free-requires-clause-room c =
    let v = c.loop-next.next - 1 in
    let below : c.loop-next.next - 1 < length c.args.orientation.now.levels = omega (arith, c.loop-next.invariant.within, c.loop-next-test.true) in
    rw c.out.ensures.value (c.loop-next.invariant.coloured.room v below)

pub least_free-requires-clause-fresh : goal.least_free-requires-clause-fresh
least_free-requires-clause-fresh c = λ k h e.
    let v = c.loop-next.next - 1 in
    let at : c.loop-next.next ≡ suc (c.loop-next.next - 1) = omega (arith, c.loop-next-test.true) in
    let here = subst (λ (r : ℕ). IsColouringLevel c.args.orientation.now c.args.level r c.loop-next.colours.items c.loop-next.marks.items) at c.loop-next.invariant in
    stamp_is_fresh c.args.orientation.now c.args.level v c.loop-next.colours.items c.loop-next.marks.items here.coloured (c.loop-next.invariant.here v at) k (e ∙ at)

pub loop-next-preserved : goal.loop-next-preserved
loop-next-preserved c =
    let v = c.loop-next.next - 1 in
    let at : c.loop-next.next ≡ suc (c.loop-next.next - 1) = omega (arith, c.loop-next-test.true) in
    let here = subst (λ (r : ℕ). IsColouringLevel c.args.orientation.now c.args.level r c.loop-next.colours.items c.loop-next.marks.items) at c.loop-next.invariant in
    let below : c.loop-next.next - 1 < length c.args.descent.now.nexts.items = omega (arith, c.loop-next.invariant.within, c.loop-next-test.true, c.requires.linked.sized) in
    let following = get_or_read c.args.descent.now.nexts.items v c.index-next-in-loop-next.result.now below c.index-next-in-loop-next.ensures 0 in
    level_more c.args.orientation.now c.args.level v c.index-next-in-loop-next.result.now c.least_free.result c.args.descent.now.firsts.items c.args.descent.now.nexts.items c.loop-next.colours.items c.loop-next.marks.items c.least_free.new.marks.items c.requires.oriented c.requires.linked following here
    (rw (c.out.ensures.value, c.deref.ensures.value) at c.least_free.ensures.least)
    (rw c.out.ensures.value at c.least_free.ensures.few)
    (rw at at c.least_free.ensures.marks)
