use Rattle.std.proofs.Common.{◌≡◌, List, ℕ, length, get_or, ap, sym, ◌∙◌, arith}
use Rattle.kc_history.specs.declared.entries.Entry.{Entry}
use Rattle.kc_groups.specs.Gathering.{AreInOrder}
use Rattle.kc_groups.specs.private.Gathering.{is_mover}
use Rattle.kc_groups.specs.private.Labels.{AreRooted}
use Rattle.kc_groups.proofs.DealingLemmas.{IsOpening, opening_first, opening_past, opening_more, opening_join}
use Rattle.kc_groups.proofs.WorkLemmas.{no_move}
use Rattle.kc_groups.proofs.MovedLemmas.{mover_at, mover_this, mover_first, mover_next}
use Rattle.kc_groups.proofs.dealing.open_groups.Goals as goal
use Rattle.kc_groups.proofs.dealing.open_groups.Goals.{then-label-v+in_ok-push, else-label-v}

pub loop-m-init : goal.loop-m-init
loop-m-init c =
    let order : AreInOrder (length c.args.places.now) c.as_slice-moves.result.now = rw c.as_slice-moves.ensures c.requires.order in
    let rooted : AreRooted (length c.args.places.now) (is_mover c.as_slice-moves.result.now) c.args.places.now = rw c.as_slice-moves.ensures c.requires.rooted in
    let n = length c.args.places.now in
    let labels = c.args.places.now in
    let entries = c.args.entries.now.items in
    mover_first n c.as_slice-moves.result.now order (IsOpening c.args.phase.now.number c.args.phase.now.add n labels entries labels)
    (opening_past c.args.phase.now.number c.args.phase.now.add n labels entries labels (is_mover c.as_slice-moves.result.now) rooted)
    (opening_first c.args.phase.now.number c.args.phase.now.add n labels entries rooted.sized c.requires.entries)

pub bounds-places-v : goal.bounds-places-v
bounds-places-v c =
    let order : AreInOrder (length c.args.places.now) c.as_slice-moves.result.now = rw c.as_slice-moves.ensures c.requires.order in
    omega (arith, (mover_at (length c.args.places.now) c.as_slice-moves.result.now order c.loop-m.m-index c.loop-m-test.true).0, c.loop-m.invariant.1.sized)

pub bounds-places-v-else-label-v : goal.bounds-places-v-else-label-v
bounds-places-v-else-label-v c =
    let order : AreInOrder (length c.args.places.now) c.as_slice-moves.result.now = rw c.as_slice-moves.ensures c.requires.order in
    omega (arith, (mover_at (length c.args.places.now) c.as_slice-moves.result.now order c.loop-m.m-index c.loop-m-test.true).0, c.loop-m.invariant.1.sized)

pub bounds-places-label : goal.bounds-places-label
bounds-places-label c =
    let order : AreInOrder (length c.args.places.now) c.as_slice-moves.result.now = rw c.as_slice-moves.ensures c.requires.order in
    let rooted : AreRooted (length c.args.places.now) (is_mover c.as_slice-moves.result.now) c.args.places.now = rw c.as_slice-moves.ensures c.requires.rooted in
    let n = length c.args.places.now in
    let ms = c.as_slice-moves.result.now in
    let i = c.loop-m.m-index in
    let v = (get_or c.as_slice-moves.result.now c.loop-m.m-index no_move).vertex in
    let at = mover_at n ms order i c.loop-m-test.true in
    let o = mover_this n ms order (IsOpening c.args.phase.now.number c.args.phase.now.add n c.args.places.now c.loop-m.entries.items c.loop-m.places) i c.loop-m-test.true c.loop-m.invariant in
    let label : get_or c.loop-m.places (get_or c.as_slice-moves.result.now c.loop-m.m-index no_move).vertex 0 ≡ get_or c.args.places.now (get_or c.as_slice-moves.result.now c.loop-m.m-index no_move).vertex 0 = o.1.rest v (omega arith) at.0 in
    omega (arith, label, (rooted.root v at.0 at.1).0, o.1.sized)

pub loop-m-preserved : goal.loop-m-preserved
loop-m-preserved c =
    let order : AreInOrder (length c.args.places.now) c.as_slice-moves.result.now = rw c.as_slice-moves.ensures c.requires.order in
    let rooted : AreRooted (length c.args.places.now) (is_mover c.as_slice-moves.result.now) c.args.places.now = rw c.as_slice-moves.ensures c.requires.rooted in
    let n = length c.args.places.now in
    let ms = c.as_slice-moves.result.now in
    let m = is_mover c.as_slice-moves.result.now in
    let i = c.loop-m.m-index in
    let v = (get_or c.as_slice-moves.result.now c.loop-m.m-index no_move).vertex in
    let labels = c.args.places.now in
    let at = mover_at n ms order i c.loop-m-test.true in
    let o = mover_this n ms order (IsOpening c.args.phase.now.number c.args.phase.now.add n labels c.loop-m.entries.items c.loop-m.places) i c.loop-m-test.true c.loop-m.invariant in
    let label : get_or c.loop-m.places (get_or c.as_slice-moves.result.now c.loop-m.m-index no_move).vertex 0 ≡ get_or c.args.places.now (get_or c.as_slice-moves.result.now c.loop-m.m-index no_move).vertex 0 = o.1.rest v (omega arith) at.0 in
    let next = λ (entries : List Entry) (places : List ℕ). mover_next n ms order (IsOpening c.args.phase.now.number c.args.phase.now.add n labels entries places) (opening_past c.args.phase.now.number c.args.phase.now.add n labels entries places m rooted) i c.loop-m-test.true in
    elim c.if-label-v.branch [
      | then-label-v+in_ok-push w ↦
          let count : w.len.result ≡ length c.loop-m.entries.items = omega arith in
          rw (w.places-is, w.entries-is, w.in_ok-push.ensures.items, w.open_group.ensures, count)
          (next _ _ (opening_more c.args.phase.now.number c.args.phase.now.add n labels c.loop-m.entries.items c.loop-m.places m rooted v at.0 at.1 o (sym label ∙ w.if-label-v.true)))
      | else-label-v w ↦
          rw (w.places-is, w.entries-is, ap (λ u. get_or c.loop-m.places u 0) label)
          (next _ _ (opening_join c.args.phase.now.number c.args.phase.now.add n labels c.loop-m.entries.items c.loop-m.places m rooted v at.0 at.1 o (λ e. w.if-label-v.false (label ∙ e))))
    ]
