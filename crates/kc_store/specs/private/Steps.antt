-- What the caller learns of each step of the table: how the role of its seat changes.
use Rattle.std.specs.Prelude.{◌≡◌, ◌≢◌, ℕ, pred, ◌+◌, ◌-◌, ◌*◌, ◌^◌, ◌<◌, ◌≤◌, List, length}
use mathlib.Core.List.{IsPrefix}
use Rattle.atomic_table.specs.Table.{Step}
use Rattle.kc_words.specs.Packed.{unpacked}
use Rattle.kc_history.specs.declared.entries.Entry.{Entry}
use Rattle.kc_history.specs.private.Ends.{level_of}
use Rattle.kc_groups.specs.declared.plans.PhasePlan.{PhasePlan}
use Rattle.kc_store.specs.declared.roles.WriterState.{WriterState}
use Rattle.kc_store.specs.declared.roles.MarkerState.{MarkerState}
use Rattle.kc_store.specs.declared.roles.Pending.{Pending}
use Rattle.kc_store.specs.declared.roles.Role.{Role}
use Rattle.kc_store.specs.declared.roles.Role.TheVariants.{Spent, Writes, Marks, Reads, Looks, FoundBelow}
use Rattle.kc_store.specs.States.{opened, with_phase, with_noted, with_mark, with_cleared, with_published, with_joined, with_loan, with_returned, marker_for, marker_noted, marker_mark, marker_cleared}
use Rattle.kc_store.specs.private.Seats.{Sat}
use Rattle.kc_store.specs.Seats.{writer_of, vertices_of, seen_of, made_of}
use Rattle.kc_store.specs.private.Rule.{AllBegin}

abbrev pub first_role : ℕ → ℕ → Role
first_role n before = Writes (opened n before)

abbrev pub at_writer : (WriterState → WriterState) → Role → Role
at_writer f (Writes s) = Writes (f s)
at_writer f v = v

abbrev pub at_marker : (MarkerState → MarkerState) → Role → Role
at_marker f (Marks m) = Marks (f m)
at_marker f v = v

-- the vertex whose packed word is at this place
abbrev pub marked_at : ℕ → ℕ
marked_at place = pred place

-- the vertex whose old-level word is at this place of a table for n vertices
abbrev pub noted_at : ℕ → ℕ → ℕ
noted_at n place = place - (2 * n + 1)

abbrev pub writer_notes : ℕ → WriterState → WriterState
writer_notes place s = with_noted (noted_at s.vertices place) s

abbrev pub marker_notes : ℕ → MarkerState → MarkerState
marker_notes place m = marker_noted (noted_at m.vertices place) m

abbrev pub begins : PhasePlan → Step ℕ → Sat → ℕ → Sat → Type 0
begins plan st m found m' = m' ≡ (at_writer (with_phase plan) m.0, m.1)

abbrev pub notes : Step ℕ → Sat → ℕ → Sat → Type 0
notes st m found m' = m' ≡ (at_writer (writer_notes st.word) m.0, m.1)

abbrev pub marks : Step ℕ → Sat → ℕ → Sat → Type 0
marks st m found m' = m' ≡ (at_writer (with_mark (marked_at st.word)) m.0, m.1)

abbrev pub clears : Step ℕ → Sat → ℕ → Sat → Type 0
clears st m found m' = m' ≡ (at_writer (with_cleared (marked_at st.word)) m.0, m.1)

abbrev pub publishes : Step ℕ → Sat → ℕ → Sat → Type 0
publishes st m found m' = m' ≡ (at_writer with_published m.0, m.1)

abbrev pub lent_notes : Step ℕ → Sat → ℕ → Sat → Type 0
lent_notes st m found m' = m' ≡ (at_marker (marker_notes st.word) m.0, m.1)

abbrev pub lent_marks : Step ℕ → Sat → ℕ → Sat → Type 0
lent_marks st m found m' = m' ≡ (at_marker (marker_mark (marked_at st.word)) m.0, m.1)

abbrev pub lent_clears : Step ℕ → Sat → ℕ → Sat → Type 0
lent_clears st m found m' = m' ≡ (at_marker (marker_cleared (marked_at st.word)) m.0, m.1)

-- the pass has seen this part of the history, and may read again
abbrev pub has_read : Role → List Entry → Role
has_read v now = Reads (vertices_of v) now (made_of v)

-- the pass has loaded the packed word of a vertex when the history was `from`
abbrev pub pending : Role → ℕ → ℕ → List Entry → Pending
pending v vertex word from = record { vertices = vertices_of v; seen = seen_of v; made = made_of v; vertex = vertex; word = word; from = from }

-- v has the level l at the end of `now`, which begins with the part of the history that was seen before
pub record HasSeen (before now : List Entry) (v l : ℕ) : Type 0 where
  pub later : IsPrefix before now
  pub level_is : level_of 0 now v ≡ l

-- the first load of a read: if the phase is 0, the level is known; otherwise the pass keeps the word
abbrev pub first_load : Step ℕ → Sat → ℕ → Sat → Type 0
first_load st m found m' =
    ((unpacked found).label < vertices_of m.0)
    × ((unpacked found).phase ≡ 0 → (now : List Entry) × (m' ≡ (has_read m.0 now, m.1)) × HasSeen (seen_of m.0) now (marked_at st.word) (unpacked found).new)
    × ((unpacked found).phase ≢ 0 → (from : List Entry) × (m' ≡ (Looks (pending m.0 (marked_at st.word) found from), m.1)) × IsPrefix (seen_of m.0) from)

abbrev pub pending_of : Role → Pending
pending_of (Looks q) = q
pending_of (FoundBelow q) = q
pending_of v = pending v 0 0 (seen_of v)

-- the second load: if the stamp is at least the word's phase, the new level is known; otherwise the pass keeps that it
-- isn't
abbrev pub second_load : Step ℕ → Sat → ℕ → Sat → Type 0
second_load st m found m' =
    ((unpacked (pending_of m.0).word).phase ≤ found → (now : List Entry) × (m' ≡ (has_read m.0 now, m.1)) × HasSeen (seen_of m.0) now (pending_of m.0).vertex (unpacked (pending_of m.0).word).new)
    × (found < (unpacked (pending_of m.0).word).phase → m' ≡ (FoundBelow (pending_of m.0), m.1))

-- the third load: the level is the word that was found
abbrev pub third_load : Step ℕ → Sat → ℕ → Sat → Type 0
third_load st m found m' = (found < 2 ^ 16) × ((now : List Entry) × (m' ≡ (has_read m.0 now, m.1)) × HasSeen (seen_of m.0) now (pending_of m.0).vertex found)

-- each list that the writer keeps of a pass is a beginning of the history
abbrev pub told : Step ℕ → Sat → ℕ → Sat → Type 0
told st m found m' = (m' ≡ m) × AllBegin (writer_of m.0).history (writer_of m.0).joined

-- a pass that has seen the whole history
abbrev pub new_pass : Role → Role
new_pass (Writes s) = Reads s.vertices s.history (length s.history)
new_pass _ = Spent

-- the writer takes a seat back: it keeps the part of the history that a pass had seen, and what a marker did
abbrev pub took_back : Role → Role → Role
took_back (Writes s) (Reads n seen made) = Writes (with_joined seen s)
took_back (Writes s) (Marks m) = Writes (with_returned m s)
took_back v _ = v

abbrev pub lender : ℕ → ℕ → ℕ → Role → Role
lender g from to (Writes s) = Writes (with_loan g from to s)
lender g from to v = v

abbrev pub lent_to : ℕ → ℕ → ℕ → Role → Role
lent_to g from to (Writes s) = Marks (marker_for g from to s)
lent_to g from to _ = Spent
