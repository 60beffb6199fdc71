-- The steps as the calls make them: of any seat that is the writer's, a marker's or a pass's.
use Rattle.std.proofs.Common.{◌≡◌, ◌≢◌, ℕ, ◌+◌, ◌*◌, ◌^◌, ◌≤◌, true, false, Some, ◌<◌, List, [], Contains, sym, refl, ap, ◌∙◌, subst, arith}
use Rattle.std.proofs.lemmas.Bool.Decides.{nat_tests}
use mathlib.Core.List.{IsPrefix}
use Rattle.atomic_table.specs.Table.{step, Allows}
use Rattle.atomic_table.specs.declared.shared.Seat.{Seat}
use Rattle.kc_words.specs.Packed.{packed, unpacked}
use Rattle.kc_history.specs.declared.entries.Entry.{Entry}
use Rattle.kc_history.specs.private.Ends.{level_of}
use Rattle.kc_groups.specs.declared.plans.PhasePlan.{PhasePlan}
use Rattle.kc_store.specs.declared.roles.WriterState.{WriterState}
use Rattle.kc_store.specs.declared.roles.MarkerState.{MarkerState}
use Rattle.kc_store.specs.declared.roles.Role.{Role}
use Rattle.kc_store.specs.declared.roles.Role.TheVariants.{Writes, Marks, Reads, Looks, FoundBelow}
use Rattle.kc_store.specs.Plans.{Move}
use Rattle.kc_store.specs.private.Plans.{IsMoveAt}
use Rattle.kc_store.specs.private.Rule.{IsKept}
use Rattle.kc_store.specs.private.Seats.{Sat}
use Rattle.kc_store.specs.Seats.{writer_of, marker_of, vertices_of, seen_of, made_of, IsWriter}
use Rattle.kc_store.specs.States.{with_phase}
use Rattle.kc_store.specs.private.Steps.{at_writer, at_marker, begins, notes, marks, clears, publishes, lent_notes, lent_marks, lent_clears, pending, HasSeen, first_load, second_load, third_load}
use Rattle.kc_store.proofs.Forms.{CanBegin, CanPublish}
use Rattle.kc_store.proofs.Seats.{pred_is, notes_allowed, marks_allowed, clears_allowed, lent_notes_allowed, lent_marks_allowed, lent_clears_allowed}
use Rattle.kc_store.proofs.Phases.{begins_allowed, publishes_allowed}
use Rattle.kc_store.proofs.Loads.{first, second, third}

abbrev pub Writing : Sat → Type 0
Writing me = me ≡ (Writes (writer_of me.0), [])

abbrev pub Reading : Sat → Type 0
Reading me = me ≡ (Reads (vertices_of me.0) (seen_of me.0) (made_of me.0), [])

abbrev pub Marking : Sat → Type 0
Marking me = me ≡ (Marks (marker_of me.0), [])

pub begins_from : (key n slots id x : ℕ) (me : Sat) (plan : PhasePlan) → key ≡ n → Writing me → CanBegin (writer_of me.0) plan → x ≡ plan.quiet.phase
    → Allows (IsKept key) slots id me 0 (λ _. x) (λ _. begins plan (step slots 0 x 0 mathlib.Core.Option.none) me x)
begins_from key n slots id x me plan same is may x_is =
    let e : x ≡ (writer_of me.0).phase + 1 = x_is ∙ may.formed.phase_is in
    subst (λ (z : ℕ × ℕ × Sat). Allows (IsKept z.0) slots id z.2 0 (λ _. z.1) (λ _. begins plan (step slots 0 z.1 0 mathlib.Core.Option.none) z.2 z.1)) (λ i. (sym same i, sym e i, sym is i))
    (begins_allowed n slots id (writer_of me.0) plan may)

pub notes_from : (key n slots id place x v g i l : ℕ) (me : Sat) (e : Entry) (m : Move) → key ≡ n → Writing me → (writer_of me.0).published ≤ g → IsMoveAt (writer_of me.0).plan g i e m → e.label ≡ Some l → m.old < 2 ^ 16 → v ≡ m.vertex → place ≡ 2 * n + 1 + v → x ≡ m.old
    → Allows (IsKept key) slots id me place (λ _. x) (λ _. notes (step slots place x 0 mathlib.Core.Option.none) me x)
notes_from key n slots id place x v g i l me e m same is le at named short v_is place_is x_is =
    let p : place ≡ 2 * n + 1 + m.vertex = place_is ∙ ap (λ (z : ℕ). 2 * n + 1 + z) v_is in
    subst (λ (z : (ℕ × ℕ) × ℕ × Sat). Allows (IsKept z.0.0) slots id z.2 z.0.1 (λ _. z.1) (λ _. notes (step slots z.0.1 z.1 0 mathlib.Core.Option.none) z.2 z.1)) (λ j. ((sym same j, sym p j), sym x_is j, sym is j))
    (notes_allowed n slots id g i l (writer_of me.0) e m le at named short)

pub marks_from : (key n slots id x v g i l : ℕ) (me : Sat) (e : Entry) (m : Move) → key ≡ n → Writing me → (writer_of me.0).published ≤ g → IsMoveAt (writer_of me.0).plan g i e m → e.label ≡ Some l → Contains (writer_of me.0).noted v → v ≡ m.vertex → x ≡ packed m.new l (writer_of me.0).phase
    → Allows (IsKept key) slots id me (v + 1) (λ _. x) (λ _. marks (step slots (v + 1) x 0 mathlib.Core.Option.none) me x)
marks_from key n slots id x v g i l me e m same is le at named noted v_is x_is =
    subst (λ (z : (ℕ × ℕ) × ℕ × Sat). Allows (IsKept z.0.0) slots id z.2 (z.0.1 + 1) (λ _. z.1) (λ _. marks (step slots (z.0.1 + 1) z.1 0 mathlib.Core.Option.none) z.2 z.1)) (λ j. ((sym same j, sym v_is j), sym x_is j, sym is j))
    (marks_allowed n slots id g i l (writer_of me.0) e m le at named (subst (Contains (writer_of me.0).noted) v_is noted))

pub clears_from : (key n slots id x v g i : ℕ) (me : Sat) (e : Entry) (m : Move) → key ≡ n → Writing me → g < (writer_of me.0).published → IsMoveAt (writer_of me.0).plan g i e m → v ≡ m.vertex → x ≡ packed m.new 0 0
    → Allows (IsKept key) slots id me (v + 1) (λ _. x) (λ _. clears (step slots (v + 1) x 0 mathlib.Core.Option.none) me x)
clears_from key n slots id x v g i me e m same is lt at v_is x_is =
    subst (λ (z : (ℕ × ℕ) × ℕ × Sat). Allows (IsKept z.0.0) slots id z.2 (z.0.1 + 1) (λ _. z.1) (λ _. clears (step slots (z.0.1 + 1) z.1 0 mathlib.Core.Option.none) z.2 z.1)) (λ j. ((sym same j, sym v_is j), sym x_is j, sym is j))
    (clears_allowed n slots id g i (writer_of me.0) e m lt at)

pub lent_notes_from : (key n slots id place x v i l : ℕ) (me : Sat) (e : Entry) (m : Move) → key ≡ n → Marking me → (marker_of me.0).loan.published ≡ false → IsMoveAt (marker_of me.0).plan (marker_of me.0).loan.group i e m → e.label ≡ Some l → m.old < 2 ^ 16 → v ≡ m.vertex → place ≡ 2 * n + 1 + v → x ≡ m.old
    → Allows (IsKept key) slots id me place (λ _. x) (λ _. lent_notes (step slots place x 0 mathlib.Core.Option.none) me x)
lent_notes_from key n slots id place x v i l me e m same is early at named short v_is place_is x_is =
    let p : place ≡ 2 * n + 1 + m.vertex = place_is ∙ ap (λ (z : ℕ). 2 * n + 1 + z) v_is in
    subst (λ (z : (ℕ × ℕ) × ℕ × Sat). Allows (IsKept z.0.0) slots id z.2 z.0.1 (λ _. z.1) (λ _. lent_notes (step slots z.0.1 z.1 0 mathlib.Core.Option.none) z.2 z.1)) (λ j. ((sym same j, sym p j), sym x_is j, sym is j))
    (lent_notes_allowed n slots id i l (marker_of me.0) e m early at named short)

pub lent_marks_from : (key n slots id x v i l : ℕ) (me : Sat) (e : Entry) (m : Move) → key ≡ n → Marking me → (marker_of me.0).loan.published ≡ false → IsMoveAt (marker_of me.0).plan (marker_of me.0).loan.group i e m → e.label ≡ Some l → Contains (marker_of me.0).noted v → v ≡ m.vertex → x ≡ packed m.new l (marker_of me.0).phase
    → Allows (IsKept key) slots id me (v + 1) (λ _. x) (λ _. lent_marks (step slots (v + 1) x 0 mathlib.Core.Option.none) me x)
lent_marks_from key n slots id x v i l me e m same is early at named noted v_is x_is =
    subst (λ (z : (ℕ × ℕ) × ℕ × Sat). Allows (IsKept z.0.0) slots id z.2 (z.0.1 + 1) (λ _. z.1) (λ _. lent_marks (step slots (z.0.1 + 1) z.1 0 mathlib.Core.Option.none) z.2 z.1)) (λ j. ((sym same j, sym v_is j), sym x_is j, sym is j))
    (lent_marks_allowed n slots id i l (marker_of me.0) e m early at named (subst (Contains (marker_of me.0).noted) v_is noted))

pub lent_clears_from : (key n slots id x v i : ℕ) (me : Sat) (e : Entry) (m : Move) → key ≡ n → Marking me → (marker_of me.0).loan.published ≡ true → IsMoveAt (marker_of me.0).plan (marker_of me.0).loan.group i e m → v ≡ m.vertex → x ≡ packed m.new 0 0
    → Allows (IsKept key) slots id me (v + 1) (λ _. x) (λ _. lent_clears (step slots (v + 1) x 0 mathlib.Core.Option.none) me x)
lent_clears_from key n slots id x v i me e m same is late at v_is x_is =
    subst (λ (z : (ℕ × ℕ) × ℕ × Sat). Allows (IsKept z.0.0) slots id z.2 (z.0.1 + 1) (λ _. z.1) (λ _. lent_clears (step slots (z.0.1 + 1) z.1 0 mathlib.Core.Option.none) z.2 z.1)) (λ j. ((sym same j, sym v_is j), sym x_is j, sym is j))
    (lent_clears_allowed n slots id i (marker_of me.0) e m late at)

pub publishes_from : (key n slots id x l g : ℕ) (me : Sat) → key ≡ n → Writing me → (may : CanPublish (writer_of me.0) g) → may.group.label ≡ Some l → x ≡ (writer_of me.0).phase
    → Allows (IsKept key) slots id me (n + 1 + l) (λ _. x) (λ _. publishes (step slots (n + 1 + l) x 0 mathlib.Core.Option.none) me x)
publishes_from key n slots id x l g me same is may named x_is =
    subst (λ (z : ℕ × ℕ × Sat). Allows (IsKept z.0) slots id z.2 (n + 1 + l) (λ _. z.1) (λ _. publishes (step slots (n + 1 + l) z.1 0 mathlib.Core.Option.none) z.2 z.1)) (λ i. (sym same i, sym x_is i, sym is i))
    (publishes_allowed n slots id l (writer_of me.0) may.group may.group_is named may.all_marked may.none_out)

-- what a writer's step makes of its seat
pub after_writer : (f : WriterState → WriterState) (me new : Sat) → Writing me → new ≡ (at_writer f me.0, me.1) → Writing new × (writer_of new.0 ≡ f (writer_of me.0))
after_writer f me new is e = grind (arith, nat_tests)

pub after_marker : (f : MarkerState → MarkerState) (me new : Sat) → Marking me → new ≡ (at_marker f me.0, me.1) → Marking new × (marker_of new.0 ≡ f (marker_of me.0))
after_marker f me new is e = grind (arith, nat_tests)

pub first_from : (key n slots id v : ℕ) (me : Sat) → key ≡ n → Reading me → v < vertices_of me.0 → vertices_of me.0 ≡ n → Allows (IsKept key) slots id me (v + 1) (λ n. n) (first_load (step slots (v + 1) 0 0 mathlib.Core.Option.none) me)
first_from key n slots id v me same is inside vertices =
    subst (λ (z : ℕ × Sat). Allows (IsKept z.0) slots id z.1 (v + 1) (λ n. n) (first_load (step slots (v + 1) 0 0 mathlib.Core.Option.none) z.1)) (λ i. (sym same i, sym is i))
    (first n slots id v (vertices_of me.0) (made_of me.0) (seen_of me.0) (subst (λ (k : ℕ). v < k) vertices inside))

-- a pass that waits for its second load, and what it read before
abbrev pub LooksAfter : Sat → ℕ → ℕ → List Entry → Sat → Type 0
LooksAfter was v word from me = me ≡ (Looks (pending was.0 v word from), [])

abbrev pub BelowAfter : Sat → ℕ → ℕ → List Entry → Sat → Type 0
BelowAfter was v word from me = me ≡ (FoundBelow (pending was.0 v word from), [])

pub second_from : (key n slots id v word place : ℕ) (was me : Sat) (from : List Entry) → key ≡ n → LooksAfter was v word from me → place ≡ n + 1 + (unpacked word).label
    → Allows (IsKept key) slots id me place (λ n. n) (second_load (step slots place 0 0 mathlib.Core.Option.none) me)
second_from key n slots id v word place was me from same is place_is =
    subst (λ (z : ℕ × ℕ × Sat). Allows (IsKept z.0) slots id z.2 z.1 (λ n. n) (second_load (step slots z.1 0 0 mathlib.Core.Option.none) z.2)) (λ i. (sym same i, sym place_is i, sym is i)) (second n slots id (pending was.0 v word from))

pub third_from : (key n slots id v word place : ℕ) (was me : Sat) (from : List Entry) → key ≡ n → BelowAfter was v word from me → place ≡ 2 * n + 1 + v
    → Allows (IsKept key) slots id me place (λ n. n) (third_load (step slots place 0 0 mathlib.Core.Option.none) me)
third_from key n slots id v word place was me from same is place_is =
    subst (λ (z : ℕ × ℕ × Sat). Allows (IsKept z.0) slots id z.2 z.1 (λ n. n) (third_load (step slots z.1 0 0 mathlib.Core.Option.none) z.2)) (λ i. (sym same i, sym place_is i, sym is i)) (third n slots id (pending was.0 v word from))

-- the pass has read, and has now seen more
pub record HasRead (old new : Sat) (v l : ℕ) : Type 0 where
  pub me_is : Reading new
  pub vertices_is : vertices_of new.0 ≡ vertices_of old.0
  pub made_is : made_of new.0 ≡ made_of old.0
  pub later : IsPrefix (seen_of old.0) (seen_of new.0)
  pub level_is : level_of 0 (seen_of new.0) v ≡ l

has_read_of : (old new : Sat) (now : List Entry) (v l : ℕ) → new ≡ (Reads (vertices_of old.0) now (made_of old.0), []) → HasSeen (seen_of old.0) now v l → HasRead old new v l
has_read_of old new now v l n h = subst (λ (z : Sat). HasRead old z v l) (sym n) record { me_is = refl; vertices_is = refl; made_is = refl; later = h.later; level_is = h.level_is }

none_held : (me : Sat) → Reading me → me.1 ≡ []
none_held me is = ap (λ (z : Sat). z.1) is

pub first_done : (slots v word : ℕ) (old new : Sat) → Reading old → first_load (step slots (v + 1) 0 0 mathlib.Core.Option.none) old word new → (unpacked word).phase ≡ 0 → HasRead old new v (unpacked word).new
first_done slots v word old new is h none = grind (arith, nat_tests, has_read_of, none_held, pred_is, h.1)

pub first_left : (slots v word : ℕ) (old new : Sat) → Reading old → first_load (step slots (v + 1) 0 0 mathlib.Core.Option.none) old word new → (unpacked word).phase ≢ 0 → (from : List Entry) × LooksAfter old v word from new
first_left slots v word old new is h some = grind (arith, nat_tests, pred_is, none_held, h.2)

pub second_done : (slots place v word found : ℕ) (old mid new : Sat) (from : List Entry) → LooksAfter old v word from mid → second_load (step slots place 0 0 mathlib.Core.Option.none) mid found new → (unpacked word).phase ≤ found → HasRead old new v (unpacked word).new
second_done slots place v word found old mid new from went h le = grind (arith, nat_tests, has_read_of)

pub second_left : (slots place v word found : ℕ) (old mid new : Sat) (from : List Entry) → LooksAfter old v word from mid → second_load (step slots place 0 0 mathlib.Core.Option.none) mid found new → found < (unpacked word).phase → BelowAfter old v word from new
second_left slots place v word found old mid new from went h lt = (subst (λ (z : Sat). second_load (step slots place 0 0 mathlib.Core.Option.none) z found new) went h).1 lt

pub third_done : (slots place v word found : ℕ) (old mid new : Sat) (from : List Entry) → BelowAfter old v word from mid → third_load (step slots place 0 0 mathlib.Core.Option.none) mid found new → (found < 2 ^ 16) × HasRead old new v found
third_done slots place v word found old mid new from went h = grind (arith, nat_tests, has_read_of)

-- the writer's seat after a phase began
pub begun_writer : (old new : Seat ℕ Role) (plan : PhasePlan) → IsWriter old → new.table_id ≡ old.table_id → new.me ≡ (at_writer (with_phase plan) old.me.0, old.me.1) → CanBegin (writer_of old.me.0) plan → IsWriter new
begun_writer old new plan is table me may = grind (arith, nat_tests, after_writer, is.me_is, is.sized, is.small, may.phase_in, may.formed)
