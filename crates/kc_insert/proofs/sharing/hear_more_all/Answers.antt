use Rattle.std.proofs.Common.{get_or, refl, arith}
use Rattle.kc_graph.proofs.lemmas.Numbers.{has_number_at}
use Rattle.kc_insert.specs.Ranges.{no_part, range_of}
use Rattle.kc_insert.specs.private.Telling.{times}
use Rattle.kc_insert.proofs.Direct.{in_times, meet_next, met_less, met_still}
use Rattle.kc_insert.proofs.Meeting.{met_one}
use Rattle.kc_insert.proofs.Shared.{meet_first}
use Rattle.kc_insert.proofs.sharing.hear_more_all.Goals as goal

pub loop-v-init : goal.loop-v-init
loop-v-init c = meet_first c.args.layout.width c.args.level c.args.most c.args.items.now

pub bounds-items-range_of : goal.bounds-items-range_of
bounds-items-range_of c =
    let v = get_or c.args.told.now c.loop-v.v-index 0 in
    let was = c.requires.held v no_part (has_number_at _ c.args.told.now c.loop-v.v-index (omega arith) refl) in
    omega (arith, c.range_of.ensures, was.0, c.loop-v.invariant.sized)

pub meet-requires-clause-vertex : goal.meet-requires-clause-vertex
meet-requires-clause-vertex c =
    let v = get_or c.args.told.now c.loop-v.v-index 0 in
    let d = c.index-items-range_of.result in
    let was = c.requires.held v d (has_number_at _ c.args.told.now c.loop-v.v-index (omega arith) refl) in
    rw c.range_of.ensures (met_still c.args.level c.args.most _ v _ _ was.1 (c.loop-v.invariant.each (range_of c.args.layout.width v) d was.0))

pub meet-requires-clause-small : goal.meet-requires-clause-small
meet-requires-clause-small c =
    let v = get_or c.args.told.now c.loop-v.v-index 0 in
    let d = c.index-items-range_of.result in
    let there = has_number_at _ c.args.told.now c.loop-v.v-index (omega arith) refl in
    let was = c.requires.held v d there in
    rw c.range_of.ensures (met_less c.args.level c.args.most _ v _ _ was.1 (c.loop-v.invariant.each (range_of c.args.layout.width v) d was.0) (times v c.args.told.now) 2147483648 (in_times c.args.layout.width c.loop-v.v-index c.args.told.now (omega arith)) (c.requires.small v d there))

pub meet-requires-clause-room : goal.meet-requires-clause-room
meet-requires-clause-room c =
    let v = get_or c.args.told.now c.loop-v.v-index 0 in
    let d = c.index-items-range_of.result in
    let was = c.requires.held v d (has_number_at _ c.args.told.now c.loop-v.v-index (omega arith) refl) in
    rw c.range_of.ensures (omega (arith, c.requires.room (range_of c.args.layout.width v) d was.0, (c.loop-v.invariant.each (range_of c.args.layout.width v) d was.0).levels))

pub loop-v-preserved : goal.loop-v-preserved
loop-v-preserved c =
    let v = get_or c.args.told.now c.loop-v.v-index 0 in
    let d = c.index-items-range_of.result in
    let was = c.requires.held v d (has_number_at _ c.args.told.now c.loop-v.v-index (omega arith) refl) in
    let s = c.loop-v.invariant.each (range_of c.args.layout.width v) d was.0 in
    rw c.range_of.ensures (meet_next c.args.layout.width c.args.level c.args.most c.loop-v.v-index c.args.told.now c.args.items.now c.loop-v.items (omega arith) was.0 c.loop-v.invariant d c.meet.new.self
    (met_one c.args.level c.args.most v _ c.meet.new.self (met_still c.args.level c.args.most _ v _ _ was.1 s) (omega (arith, c.requires.room (range_of c.args.layout.width v) d was.0, s.levels)) (rw c.range_of.ensures at c.in_ok-meet.ensures)))
