use Rattle.std.proofs.Common.{ℕ, suc, ◌≡◌, ◌+◌, ◌-◌, List, length, replicate, arith, rules, subst, ap, sym, ◌∙◌, refl}
use Rattle.kc_orient.specs.Shape.{OrientationShape}
use Rattle.kc_orient.specs.private.Descent.{AreLinked, IsColouredTo}
use Rattle.kc_orient.proofs.Coloured.{coloured_none, coloured_down, coloured_all}
use Rattle.kc_orient.proofs.colouring.colour.Goals as goal

pub loop-level-init : goal.loop-level-init
loop-level-init c =
    let o = c.args.orientation.now in
    let same = c.as_slice.ensures ∙ ap (λ (o : OrientationShape). o.levels) c.orientation.view_is in
    let linked = subst (λ (x : List ℕ). AreLinked x c.in_ok-descent.descent.firsts.items c.in_ok-descent.descent.nexts.items) same c.in_ok-descent.ensures in
    let blank : c.in_ok-colours.colours.items ≡ replicate (length c.args.orientation.now.levels) 0 = c.in_ok-colours.ensures.items_if_clones_equal (search rules) ∙ ap (λ n. replicate n 0) c.vertices.ensures.count in
    let clean : c.in_ok-marks.marks.items ≡ replicate (c.most_out.result + 1) 0 = c.in_ok-marks.ensures.items_if_clones_equal (search rules) in
    let all : c.len-level.result ≡ length c.in_ok-descent.descent.firsts.items = omega (arith, c.len-level.ensures, c.in_ok-descent.descent.firsts.ok) in
    subst (λ (l : ℕ). IsColouredTo c.args.orientation.now l 0 c.in_ok-colours.colours.items c.in_ok-marks.marks.items) (sym all)
    (coloured_none o c.in_ok-descent.descent.firsts.items c.in_ok-descent.descent.nexts.items c.in_ok-colours.colours.items c.in_ok-marks.marks.items c.most_out.result linked c.most_out.ensures blank clean)

pub colour_level-requires-clause-coloured : goal.colour_level-requires-clause-coloured
colour_level-requires-clause-coloured c =
    let o = c.args.orientation.now in
    let at : c.loop-level.level ≡ suc (c.loop-level.level - 1) = omega (arith, c.loop-level-test.true) in
    coloured_down o (c.loop-level.level - 1) (length o.levels) c.loop-level.colours.items c.loop-level.marks.items refl (subst (λ (l : ℕ). IsColouredTo c.args.orientation.now l 0 c.loop-level.colours.items c.loop-level.marks.items) at c.loop-level.invariant)

pub returns : goal.returns
returns c =
    let end : c.loop-level.level ≡ 0 = omega (arith, c.loop-level-test.false) in
    coloured_all c.args.orientation.now c.loop-level.colours.items c.loop-level.marks.items c.vertices.ensures.oriented (subst (λ (l : ℕ). IsColouredTo c.args.orientation.now l 0 c.loop-level.colours.items c.loop-level.marks.items) end c.loop-level.invariant)
