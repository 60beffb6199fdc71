use Rattle.std.proofs.Common.{◌≡◌, get_or, refl, ap, ◌∙◌, arith}
use Rattle.kc_graph.proofs.lemmas.Numbers.{has_number_at}
use Rattle.kc_insert.specs.Ranges.{no_part, Part, range_of}
use Rattle.kc_insert.specs.private.Telling.{times}
use Rattle.kc_insert.proofs.Direct.{heard_held, heard_one, heard_some, hear_next, in_times}
use Rattle.kc_insert.proofs.Shared.{hear_first}
use Rattle.kc_insert.proofs.sharing.hear_less_all.Goals as goal

pub loop-v-init : goal.loop-v-init
loop-v-init c = hear_first c.args.layout.width c.args.items.now

pub bounds-items-range_of : goal.bounds-items-range_of
bounds-items-range_of c =
    let v = get_or c.args.told.now c.loop-v.v-index 0 in
    let was = c.requires.held v no_part (has_number_at _ c.args.told.now c.loop-v.v-index (omega arith) refl) in
    omega (arith, c.range_of.ensures, was.0, c.loop-v.invariant.sized)

pub lessen-requires-clause-vertex : goal.lessen-requires-clause-vertex
lessen-requires-clause-vertex c =
    let v = get_or c.args.told.now c.loop-v.v-index 0 in
    let d = c.index-items-range_of.result in
    let was = c.requires.held v d (has_number_at _ c.args.told.now c.loop-v.v-index (omega arith) refl) in
    let here : c.range.inside.watched ≡ (get_or c.loop-v.items (range_of c.args.layout.width (get_or c.args.told.now c.loop-v.v-index 0)) c.index-items-range_of.result).watch = ap (λ (p : Part). p.watch) c.range.view_is ∙ ap (λ k. (get_or c.loop-v.items k c.index-items-range_of.result).watch) c.range_of.ensures in
    rw here (heard_held _ v _ _ was.1 (c.loop-v.invariant.each (range_of c.args.layout.width v) d was.0))

pub lessen-requires-clause-some : goal.lessen-requires-clause-some
lessen-requires-clause-some c =
    let v = get_or c.args.told.now c.loop-v.v-index 0 in
    let d = c.index-items-range_of.result in
    let there = has_number_at _ c.args.told.now c.loop-v.v-index (omega arith) refl in
    let was = c.requires.held v d there in
    let here : c.range.inside.watched ≡ (get_or c.loop-v.items (range_of c.args.layout.width (get_or c.args.told.now c.loop-v.v-index 0)) c.index-items-range_of.result).watch = ap (λ (p : Part). p.watch) c.range.view_is ∙ ap (λ k. (get_or c.loop-v.items k c.index-items-range_of.result).watch) c.range_of.ensures in
    rw here (heard_some _ v _ _ was.1 (c.loop-v.invariant.each (range_of c.args.layout.width v) d was.0) (times v c.args.told.now) (in_times c.args.layout.width c.loop-v.v-index c.args.told.now (omega arith)) (c.requires.enough v d there))

pub loop-v-preserved : goal.loop-v-preserved
loop-v-preserved c =
    let v = get_or c.args.told.now c.loop-v.v-index 0 in
    let d = c.index-items-range_of.result in
    let there = has_number_at _ c.args.told.now c.loop-v.v-index (omega arith) refl in
    let was = c.requires.held v d there in
    let here : c.range.inside.watched ≡ (get_or c.loop-v.items (range_of c.args.layout.width (get_or c.args.told.now c.loop-v.v-index 0)) c.index-items-range_of.result).watch = ap (λ (p : Part). p.watch) c.range.view_is ∙ ap (λ k. (get_or c.loop-v.items k c.index-items-range_of.result).watch) c.range_of.ensures in
    let s = c.loop-v.invariant.each (range_of c.args.layout.width v) d was.0 in
    rw c.range_of.ensures (hear_next c.args.layout.width c.loop-v.v-index c.args.told.now c.args.items.now c.loop-v.items (omega arith) was.0 c.loop-v.invariant d _
    (heard_one _ v _ _ was.1 s c.lessen.new.self _ (heard_some _ v _ _ was.1 s (times v c.args.told.now) (in_times c.args.layout.width c.loop-v.v-index c.args.told.now (omega arith)) (c.requires.enough v d there))
    (ap (λ (p : Part). record p { watch = c.lessen.new.self }) (c.range.view_is ∙ ap (λ k. get_or c.loop-v.items k c.index-items-range_of.result) c.range_of.ensures))
    (rw here at c.in_ok-lessen.ensures.counts) (rw here at c.in_ok-lessen.ensures.watched)))
