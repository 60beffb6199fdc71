-- What callers see of the writer and of a marker before and after their steps.
use Rattle.std.proofs.Common.{◌≡◌, ℕ, ◌+◌, ◌*◌, ◌≤◌, ◌<◌, false, Some, Contains, length, sym, ap, ◌∙◌, subst, arith}
use Rattle.std.proofs.lemmas.List.Elements.{Contains-push}
use Rattle.std.proofs.lemmas.Bool.Decides.{nat_tests}
use Rattle.atomic_table.specs.Table.{step, Allows}
use Rattle.atomic_table.specs.declared.shared.Seat.{Seat}
use Rattle.kc_words.specs.Packed.{packed}
use Rattle.kc_history.specs.declared.entries.Entry.{Entry}
use Rattle.kc_groups.specs.declared.plans.PhasePlan.{PhasePlan}
use Rattle.kc_store.specs.declared.roles.WriterState.{WriterState}
use Rattle.kc_store.specs.declared.roles.MarkerState.{MarkerState}
use Rattle.kc_store.specs.declared.roles.Role.{Role}
use Rattle.kc_store.specs.Plans.{Move, IsFormed, group_at}
use Rattle.kc_store.specs.private.Plans.{IsMoveAt}
use Rattle.kc_store.specs.private.Rule.{IsKept}
use Rattle.kc_store.specs.States.{with_mark, with_marked, with_cleared, marker_mark, marker_marked, marker_cleared}
use Rattle.kc_store.specs.private.Seats.{Sat}
use Rattle.kc_store.specs.Seats.{WriterShape, MarkerShape, writer_of, marker_of, writer_shape, marker_shape, IsWriter, IsMarker}
use Rattle.kc_store.specs.private.Steps.{at_writer, at_marker, marked_at, noted_at, writer_notes, marker_notes, marks, lent_marks}
use Rattle.kc_store.proofs.Forms.{IsPlaced, placed, placed_lent}
use Rattle.kc_store.proofs.Seats.{pred_is, noted_is}
use Rattle.kc_store.proofs.Calls.{Writing, Marking, marks_from, lent_marks_from, after_writer, after_marker}

-- a move that the writer is given
pub writers_move : (s : Seat ℕ Role) (shape : WriterShape) (plan : PhasePlan) (g i : ℕ) → IsWriter s → writer_shape s ≡ shape → plan ≡ shape.state.plan → i < length (group_at plan g).moves → IsPlaced (writer_of s.me.0).vertices plan g i
writers_move s shape plan g i is view same few = placed (writer_of s.me.0).vertices (writer_of s.me.0).phase plan g i (subst (IsFormed (writer_of s.me.0).vertices (writer_of s.me.0).phase) (sym (same ∙ ap (λ z. z.state.plan) (sym view))) is.formed) few

-- a move that a marker is given
pub markers_move : (s : Seat ℕ Role) (shape : MarkerShape) (plan : PhasePlan) (i : ℕ) → IsMarker s → marker_shape s ≡ shape → plan ≡ shape.state.plan → i < shape.state.loan.to → IsPlaced (marker_of s.me.0).vertices plan (marker_of s.me.0).loan.group i
markers_move s shape plan i is view same lt = grind (arith, nat_tests, placed_lent, is.formed, is.range)

-- tables of as many words are for as many vertices
pub same_vertices : (n k words : ℕ) → words ≡ 3 * k + 1 → words ≡ 3 * n + 1 → k ≡ n
same_vertices n k words a b = omega (arith, a, b)

pub writer_went : (f : WriterState → WriterState) (old new : Seat ℕ Role) (shape : WriterShape) → IsWriter old → writer_shape old ≡ shape → new.table_id ≡ old.table_id → new.me ≡ (at_writer f old.me.0, old.me.1)
    → writer_shape new ≡ record { table = shape.table; state = f shape.state }
writer_went f old new shape is view table me = grind (arith, nat_tests, after_writer, is.me_is)

pub marker_went : (f : MarkerState → MarkerState) (old new : Seat ℕ Role) (shape : MarkerShape) → IsMarker old → marker_shape old ≡ shape → new.table_id ≡ old.table_id → new.me ≡ (at_marker f old.me.0, old.me.1)
    → marker_shape new ≡ record { table = shape.table; state = f shape.state }
marker_went f old new shape is view table me = grind (arith, nat_tests, after_marker, is.me_is)

-- a cleared move
pub writer_cleared : (old new : Seat ℕ Role) (shape : WriterShape) (v w : ℕ) → IsWriter old → writer_shape old ≡ shape → new.table_id ≡ old.table_id → new.me ≡ (at_writer (with_cleared (marked_at (v + 1))) old.me.0, old.me.1) → v ≡ w
    → writer_shape new ≡ record shape { state = with_cleared w shape.state }
writer_cleared old new shape v w is view table me same = writer_went (with_cleared (marked_at (v + 1))) old new shape is view table me ∙ ap (λ (z : ℕ). record shape { state = with_cleared z shape.state }) (pred_is v ∙ same)

pub marker_was_cleared : (old new : Seat ℕ Role) (shape : MarkerShape) (v w : ℕ) → IsMarker old → marker_shape old ≡ shape → new.table_id ≡ old.table_id → new.me ≡ (at_marker (marker_cleared (marked_at (v + 1))) old.me.0, old.me.1) → v ≡ w
    → marker_shape new ≡ record shape { state = marker_cleared w shape.state }
marker_was_cleared old new shape v w is view table me same = marker_went (marker_cleared (marked_at (v + 1))) old new shape is view table me ∙ ap (λ (z : ℕ). record shape { state = marker_cleared z shape.state }) (pred_is v ∙ same)

-- a move is noted, and then marked
pub marks_after : (key n slots id x v g i l place : ℕ) (was me : Sat) (e : Entry) (m : Move) → key ≡ n → Writing was → (writer_of was.0).vertices ≡ n → me ≡ (at_writer (writer_notes place) was.0, was.1) → place ≡ 2 * n + 1 + v
    → (writer_of was.0).published ≤ g → IsMoveAt (writer_of was.0).plan g i e m → e.label ≡ Some l → v ≡ m.vertex → x ≡ packed m.new l (writer_of was.0).phase
    → Allows (IsKept key) slots id me (v + 1) (λ _. x) (λ _. marks (step slots (v + 1) x 0 mathlib.Core.Option.none) me x)
marks_after key n slots id x v g i l place was me e m same is vertices went place_is le at named v_is x_is =
    let a = after_writer (writer_notes place) was me is went in
    let noted : noted_at (writer_of was.0).vertices place ≡ v = ap (noted_at (writer_of was.0).vertices) place_is ∙ noted_is n (writer_of was.0).vertices v vertices in
    let there : Contains (writer_notes place (writer_of was.0)).noted v = subst (Contains (writer_notes place (writer_of was.0)).noted) noted (Contains-push (writer_of was.0).noted (noted_at (writer_of was.0).vertices place)) in
    marks_from key n slots id x v g i l me e m same a.0
    (subst (λ (s : WriterState). s.published ≤ g) (sym a.1) le)
    (subst (λ (s : WriterState). IsMoveAt s.plan g i e m) (sym a.1) at)
    named
    (subst (λ (s : WriterState). Contains s.noted v) (sym a.1) there)
    v_is
    (x_is ∙ ap (λ (s : WriterState). packed m.new l s.phase) (sym a.1))

pub writer_marked : (old mid new : Seat ℕ Role) (shape : WriterShape) (n place v w : ℕ) → IsWriter old → writer_shape old ≡ shape → (writer_of old.me.0).vertices ≡ n → place ≡ 2 * n + 1 + v
    → mid.table_id ≡ old.table_id → mid.me ≡ (at_writer (writer_notes place) old.me.0, old.me.1) → new.table_id ≡ mid.table_id → new.me ≡ (at_writer (with_mark (marked_at (v + 1))) mid.me.0, mid.me.1) → v ≡ w
    → writer_shape new ≡ record shape { state = with_marked w shape.state }
writer_marked old mid new shape n place v w is view vertices place_is table me table' me' same = grind (arith, nat_tests, after_writer, noted_is, pred_is, is.me_is)

pub lent_marks_after : (key n slots id x v i l place : ℕ) (was me : Sat) (e : Entry) (m : Move) → key ≡ n → Marking was → (marker_of was.0).vertices ≡ n → me ≡ (at_marker (marker_notes place) was.0, was.1) → place ≡ 2 * n + 1 + v
    → (marker_of was.0).loan.published ≡ false → IsMoveAt (marker_of was.0).plan (marker_of was.0).loan.group i e m → e.label ≡ Some l → v ≡ m.vertex → x ≡ packed m.new l (marker_of was.0).phase
    → Allows (IsKept key) slots id me (v + 1) (λ _. x) (λ _. lent_marks (step slots (v + 1) x 0 mathlib.Core.Option.none) me x)
lent_marks_after key n slots id x v i l place was me e m same is vertices went place_is early at named v_is x_is =
    let a = after_marker (marker_notes place) was me is went in
    let noted : noted_at (marker_of was.0).vertices place ≡ v = ap (noted_at (marker_of was.0).vertices) place_is ∙ noted_is n (marker_of was.0).vertices v vertices in
    let there : Contains (marker_notes place (marker_of was.0)).noted v = subst (Contains (marker_notes place (marker_of was.0)).noted) noted (Contains-push (marker_of was.0).noted (noted_at (marker_of was.0).vertices place)) in
    lent_marks_from key n slots id x v i l me e m same a.0
    (subst (λ (s : MarkerState). s.loan.published ≡ false) (sym a.1) early)
    (subst (λ (s : MarkerState). IsMoveAt s.plan s.loan.group i e m) (sym a.1) at)
    named
    (subst (λ (s : MarkerState). Contains s.noted v) (sym a.1) there)
    v_is
    (x_is ∙ ap (λ (s : MarkerState). packed m.new l s.phase) (sym a.1))

pub marker_was_marked : (old mid new : Seat ℕ Role) (shape : MarkerShape) (n place v w : ℕ) → IsMarker old → marker_shape old ≡ shape → (marker_of old.me.0).vertices ≡ n → place ≡ 2 * n + 1 + v
    → mid.table_id ≡ old.table_id → mid.me ≡ (at_marker (marker_notes place) old.me.0, old.me.1) → new.table_id ≡ mid.table_id → new.me ≡ (at_marker (marker_mark (marked_at (v + 1))) mid.me.0, mid.me.1) → v ≡ w
    → marker_shape new ≡ record shape { state = marker_marked w shape.state }
marker_was_marked old mid new shape n place v w is view vertices place_is table me table' me' same = grind (arith, nat_tests, after_marker, noted_is, pred_is, is.me_is)
