use Rattle.std.proofs.Common.{◌≡◌, ◌<◌, length, get_or, arith, refl, add-one, below_more, sym, ◌∙◌}
use Rattle.std.proofs.lemmas.List.{get_or_read}
use Rattle.kc_orient.proofs.Marking.{marking_more, marking_all, marks_few}
use Rattle.kc_orient.proofs.colouring.least_free.Goals as goal

pub loop-w-preserved : goal.loop-w-preserved
loop-w-preserved c =
    let w = get_or c.args.vertices.now c.loop-w.w-index 0 in
    let at = c.requires.below c.loop-w.w-index 0 c.loop-w-test.true in
    rw add-one (marking_more c.args.vertices.now c.args.colours.now c.args.stamp c.loop-w.w-index w (get_or c.args.colours.now w 0) c.args.marks.now.items c.loop-w.marks.items c.loop-w.invariant c.loop-w-test.true refl refl (omega (arith, at.1, c.loop-w.invariant.marked.sized)))

pub overflow_add-colour : goal.overflow_add-colour
overflow_add-colour c = omega (arith, c.requires.few, c.loop-colour.invariant.0)

pub loop-colour-preserved : goal.loop-colour-preserved
loop-colour-preserved c =
    let marks = c.loop-w.marks.items in
    let all = marking_all c.args.vertices.now c.args.colours.now c.args.stamp c.loop-w.w-index c.args.marks.now.items marks c.loop-w.invariant c.loop-w-test.false in
    let room : length c.args.vertices.now < length marks = omega (arith, c.requires.room, c.loop-w.invariant.marked.sized) in
    let here : get_or marks c.loop-colour.colour 0 ≡ c.args.stamp = sym (get_or_read marks c.loop-colour.colour c.index.result.now (omega (arith, room, c.loop-colour.invariant.0)) c.index.ensures 0) ∙ c.loop-colour-test.true in
    (rw add-one (marks_few c.args.vertices.now c.args.colours.now marks c.args.stamp c.loop-colour.colour all c.loop-colour.invariant.0 room c.loop-colour.invariant.1 here), below_more _ _ c.loop-colour.invariant.1 here)
