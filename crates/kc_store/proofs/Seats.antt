-- The steps of writer and markers that store a word of a vertex keep the rule.
use Rattle.std.proofs.Common.{◌≡◌, ◌≢◌, ℕ, pred, ◌+◌, ◌*◌, ◌^◌, ◌<◌, ◌≤◌, true, false, List, [], ◌∷◌, ◌++◌, Some, Contains, set, get_or, sym, refl, ap, ◌∙◌, subst, ⊎_elim, arith}
use Rattle.std.proofs.lemmas.Bool.Decides.{nat_tests}
use mathlib.Core.Option.{some}
use lib.ListN.{get_elem?}
use lib.Seq.{set-get_or}
use Rattle.atomic_table.specs.Table.{State, step, keeps, Allows}
use Rattle.atomic_table.proofs.Lists.{at_set}
use Rattle.kc_words.specs.Packed.{packed}
use Rattle.kc_history.specs.declared.entries.Entry.{Entry}
use Rattle.kc_groups.specs.declared.plans.PhasePlan.{PhasePlan}
use Rattle.kc_store.specs.declared.roles.Loan.{Loan}
use Rattle.kc_store.specs.declared.roles.WriterState.{WriterState}
use Rattle.kc_store.specs.declared.roles.MarkerState.{MarkerState}
use Rattle.kc_store.specs.declared.roles.Role.{Role}
use Rattle.kc_store.specs.declared.roles.Role.TheVariants.{Spent, Writes, Marks, Reads, Looks, FoundBelow}
use Rattle.kc_store.specs.Plans.{Move}
use Rattle.kc_store.specs.private.Plans.{IsMoveAt, group_of}
use Rattle.kc_store.specs.States.{with_noted, with_mark, with_cleared, marker_noted, marker_mark, marker_cleared}
use Rattle.kc_store.specs.private.Steps.{noted_at, notes, marks, clears, lent_notes, lent_marks, lent_clears}
use Rattle.kc_store.specs.private.Rule.{AllBegin, IsUnmoved, IsNoted, IsSoundMark, IsSoundOld, WriterHolds, MarkerHolds, SeatHolds, IsKept, number_of, AreOwnLoans, rest_of}
use Rattle.kc_store.proofs.Points.{before_more, waits_found}
use Rattle.kc_store.proofs.Storing.{sound_mark, sound_clear, mark_facts, mark_holds, mark_adds, clear_adds, mark_look, mark_below, note_facts, note_holds, note_adds, note_look, note_below}
use Rattle.kc_store.proofs.Places.{move_in_place, group_waits, free_done}

pub all_longer : (log : List Entry) (e : Entry) (ks : List (List Entry)) → AllBegin log ks → AllBegin (log ++ e ∷ []) ks
all_longer log e [] h = tt
all_longer log e (k ∷ ks) h = (before_more k log e h.0, all_longer log e ks h.1)

pub seats_stay : (K K' : ℕ → Role → Type 0) (vs : List Role) (me : ℕ) (w : Role) → K' me w → ((j : ℕ) (v : Role) → j ≢ me → K j v → K' j v)
    → ((j : ℕ) (v : Role) → get_elem? vs j ≡ some v → K j v) → (j : ℕ) (v : Role) → get_elem? (set vs me w) j ≡ some v → K' j v
seats_stay K K' vs me w mine others all j v e = grind (arith, nat_tests, ⊎_elim, at_set)

pub own_set : (vs : List Role) (id : ℕ) (v w : Role) → get_elem? vs id ≡ some v → ((k : ℕ) → number_of w ≡ Some k → number_of v ≡ Some k) → AreOwnLoans vs → AreOwnLoans (set vs id w)
own_set vs id v w at same all i j k a b ai bj na nb = grind (arith, nat_tests, ⊎_elim, at_set)

-- a step of the writer, which goes from its state d to d'
pub writer_step : (n : ℕ) (s : State ℕ Role) (r : IsKept n s) (id i x : ℕ) (d d' : WriterState) → get_elem? s.views id ≡ some (Writes d) → (WriterHolds n d s.words → WriterHolds n d' (set s.words i x))
    → (WriterHolds n d s.words → (j : ℕ) (v : Role) → j ≢ r.writer → SeatHolds n d r.writer s.words j v → SeatHolds n d' r.writer (set s.words i x) j v)
    → IsKept n record { words = set s.words i x; homes = s.homes; views = set s.views id (Writes d') }
writer_step n s r id i x d d' at stands others =
    let mine = r.seats id (Writes d) at in
    let now : WriterHolds n d s.words = subst (λ (z : WriterState). WriterHolds n z s.words) (sym mine.1) r.writes in record {
      state = d';
      writer = r.writer;
      writes = stands now;
      seats = seats_stay (SeatHolds n r.state r.writer s.words) (SeatHolds n d' r.writer (set s.words i x)) s.views id (Writes d') (mine.0, refl)
          (λ j v o k. others now j v (λ e. o (e ∙ sym mine.0)) (subst (λ (z : WriterState). SeatHolds n z r.writer s.words j v) (sym mine.1) k)) r.seats;
      own = own_set s.views id (Writes d) (Writes d') at (λ k h. h) r.own;
    }

-- a load, which leaves the words
pub reader_step : (n : ℕ) (s : State ℕ Role) (r : IsKept n s) (id i : ℕ) (v w : Role) → get_elem? s.views id ≡ some v → ((k : ℕ) → number_of w ≡ Some k → number_of v ≡ Some k) → SeatHolds n r.state r.writer s.words id w
    → IsKept n record { words = set s.words i (get_or s.words i 0); homes = s.homes; views = set s.views id w }
reader_step n s r id i v w at number mine = subst (λ (ws : List ℕ). IsKept n record { words = ws; homes = s.homes; views = set s.views id w }) (sym (set-get_or s.words i 0)) record {
  state = r.state;
  writer = r.writer;
  writes = r.writes;
  seats = seats_stay (SeatHolds n r.state r.writer s.words) (SeatHolds n r.state r.writer s.words) s.views id w mine (λ j v o k. k) r.seats;
  own = own_set s.views id v w at number r.own;
}

-- a move of a group that is not published yet may be noted
early_note : (n : ℕ) (d : WriterState) (ws : List ℕ) (g i l : ℕ) (e : Entry) (m : Move) → WriterHolds n d ws → d.published ≤ g → IsMoveAt d.plan g i e m → e.label ≡ Some l → m.old < 2 ^ 16
    → (m.vertex < n) × IsSoundOld d.history m.vertex m.old
early_note n d ws g i l e m st le at named short =
    let gr = st.plan.formed.groups g e at.group_is in
    let w = waits_found n d.phase d.history l (rest_of d) e st.facts.groups.waiting (group_waits n d.phase d.published g l d.plan e st.plan.formed le at.group_is named) in
    let h = w.moves m.vertex m (move_in_place e.moves i m gr.distinct at.move_is) in (h.0, record { level_is = h.1; short = short })

-- and marked once it is noted
early_mark : (n : ℕ) (d : WriterState) (ws : List ℕ) (g i l : ℕ) (e : Entry) (m : Move) → WriterHolds n d ws → d.published ≤ g → IsMoveAt d.plan g i e m → e.label ≡ Some l → IsNoted (rest_of d) m.vertex (get_or ws (2 * n + 1 + m.vertex) 0)
    → (m.vertex < n) × IsSoundMark n d.history (rest_of d) d.phase m.vertex (packed m.new l d.phase) (get_or ws (2 * n + 1 + m.vertex) 0)
early_mark n d ws g i l e m st le at named noted =
    let gr = st.plan.formed.groups g e at.group_is in
    let found = move_in_place e.moves i m gr.distinct at.move_is in
    let group : group_of l (rest_of d) ≡ Some e = group_waits n d.phase d.published g l d.plan e st.plan.formed le at.group_is named in
    let good = gr.moves i m at.move_is in (
      good.inside,
      sound_mark n d.history (rest_of d) d.phase ws m.vertex l (get_or ws (2 * n + 1 + m.vertex) 0) e m st.facts group found (noted l e m group found),
    )

-- a move of a group that is published may be cleared
late_clear : (n : ℕ) (d : WriterState) (ws : List ℕ) (g i : ℕ) (e : Entry) (m : Move) → WriterHolds n d ws → g < d.published → IsMoveAt d.plan g i e m
    → (m.vertex < n) × IsUnmoved (rest_of d) m.vertex × IsSoundMark n d.history (rest_of d) d.phase m.vertex (packed m.new 0 0) (get_or ws (2 * n + 1 + m.vertex) 0)
late_clear n d ws g i e m st lt at =
    let gr = st.plan.formed.groups g e at.group_is in
    let good = gr.moves i m at.move_is in
    let found = move_in_place e.moves i m gr.distinct at.move_is in
    let free = free_done n d.phase d.published g m.vertex d.plan e m st.plan.formed lt at.group_is found in (
      good.inside,
      free,
      sound_clear n d.history (rest_of d) d.phase m.vertex m.new (get_or ws (2 * n + 1 + m.vertex) 0) good.inside (st.plan.shown g e m.vertex m lt at.group_is found) free,
    )

-- a packed word of v is stored
module _ (n : ℕ) (d : WriterState) (writer : ℕ) (ws : List ℕ) (v k : ℕ) (inside : v < n) (st : WriterHolds n d ws) (sound : IsSoundMark n d.history (rest_of d) d.phase v k (get_or ws (2 * n + 1 + v) 0)) where
  mark_marker : (m : MarkerState) → MarkerHolds n d.loans d.lent d.phase d.plan d.published ws m → MarkerHolds n d.loans d.lent d.phase d.plan d.published (set ws (v + 1) k) m
  mark_marker m h = record {
    listed = h.listed;
    number_in = h.number_in;
    vertices_is = h.vertices_is;
    phase_is = h.phase_is;
    plan_is = h.plan_is;
    early = h.early;
    late = h.late;
    marks = mark_holds n d.history (rest_of d) d.phase ws v k inside st.facts.sized sound m.noted m.marked m.cleared h.marks;
  }

  marker_marks : (m : MarkerState) → Contains m.noted v → MarkerHolds n d.loans d.lent d.phase d.plan d.published ws m → MarkerHolds n d.loans d.lent d.phase d.plan d.published (set ws (v + 1) k) (marker_mark v m)
  marker_marks m noted h = record {
    listed = h.listed;
    number_in = h.number_in;
    vertices_is = h.vertices_is;
    phase_is = h.phase_is;
    plan_is = h.plan_is;
    early = h.early;
    late = h.late;
    marks = mark_adds n d.history (rest_of d) d.phase ws v k inside st.facts.sized sound m.noted m.marked m.cleared noted h.marks;
  }

  marker_clears : IsUnmoved (rest_of d) v → (m : MarkerState) → MarkerHolds n d.loans d.lent d.phase d.plan d.published ws m → MarkerHolds n d.loans d.lent d.phase d.plan d.published (set ws (v + 1) k) (marker_cleared v m)
  marker_clears free m h = record {
    listed = h.listed;
    number_in = h.number_in;
    vertices_is = h.vertices_is;
    phase_is = h.phase_is;
    plan_is = h.plan_is;
    early = h.early;
    late = h.late;
    marks = clear_adds n d.history (rest_of d) d.phase ws v k inside st.facts.sized sound m.noted m.marked m.cleared free h.marks;
  }

  -- whoever stores it, each other seat knows what it knew
  mark_seat : (j : ℕ) (x : Role) → SeatHolds n d writer ws j x → SeatHolds n d writer (set ws (v + 1) k) j x
  mark_seat j Spent h = tt
  mark_seat j (Writes c) h = h
  mark_seat j (Marks m) h = mark_marker m h
  mark_seat j (Reads vertices seen made) h = h
  mark_seat j (Looks q) h = mark_look n d.history (rest_of d) d.phase ws v k inside st.facts.sized sound q h
  mark_seat j (FoundBelow q) h = mark_below n d.history (rest_of d) d.phase ws v k inside st.facts.sized sound q h

  mark_writer : WriterHolds n d (set ws (v + 1) k)
  mark_writer = record {
    vertices_is = st.vertices_is;
    phases_are = st.phases_are;
    grown = st.grown;
    facts = mark_facts n d.history (rest_of d) d.phase ws v k inside st.facts.sized sound st.facts;
    plan = st.plan;
    marks = mark_holds n d.history (rest_of d) d.phase ws v k inside st.facts.sized sound d.noted d.marked d.cleared st.marks;
    begin = st.begin;
  }

  writer_marks : Contains d.noted v → WriterHolds n (with_mark v d) (set ws (v + 1) k)
  writer_marks noted = record {
    vertices_is = st.vertices_is;
    phases_are = st.phases_are;
    grown = st.grown;
    facts = mark_facts n d.history (rest_of d) d.phase ws v k inside st.facts.sized sound st.facts;
    plan = st.plan;
    marks = mark_adds n d.history (rest_of d) d.phase ws v k inside st.facts.sized sound d.noted d.marked d.cleared noted st.marks;
    begin = st.begin;
  }

  writer_clears : IsUnmoved (rest_of d) v → WriterHolds n (with_cleared v d) (set ws (v + 1) k)
  writer_clears free = record {
    vertices_is = st.vertices_is;
    phases_are = st.phases_are;
    grown = st.grown;
    facts = mark_facts n d.history (rest_of d) d.phase ws v k inside st.facts.sized sound st.facts;
    plan = st.plan;
    marks = clear_adds n d.history (rest_of d) d.phase ws v k inside st.facts.sized sound d.noted d.marked d.cleared free st.marks;
    begin = st.begin;
  }

-- an old level of v is stored
module _ (n : ℕ) (d : WriterState) (writer : ℕ) (ws : List ℕ) (v o : ℕ) (inside : v < n) (st : WriterHolds n d ws) (sound : IsSoundOld d.history v o) where
  note_marker : (m : MarkerState) → MarkerHolds n d.loans d.lent d.phase d.plan d.published ws m → MarkerHolds n d.loans d.lent d.phase d.plan d.published (set ws (2 * n + 1 + v) o) m
  note_marker m h = record {
    listed = h.listed;
    number_in = h.number_in;
    vertices_is = h.vertices_is;
    phase_is = h.phase_is;
    plan_is = h.plan_is;
    early = h.early;
    late = h.late;
    marks = note_holds n d.history (rest_of d) d.phase ws v o inside st.facts sound m.noted m.marked m.cleared h.marks;
  }

  marker_notes_it : (m : MarkerState) → MarkerHolds n d.loans d.lent d.phase d.plan d.published ws m → MarkerHolds n d.loans d.lent d.phase d.plan d.published (set ws (2 * n + 1 + v) o) (marker_noted v m)
  marker_notes_it m h = record {
    listed = h.listed;
    number_in = h.number_in;
    vertices_is = h.vertices_is;
    phase_is = h.phase_is;
    plan_is = h.plan_is;
    early = h.early;
    late = h.late;
    marks = note_adds n d.history (rest_of d) d.phase ws v o inside st.facts sound m.noted m.marked m.cleared h.marks;
  }

  note_seat : (j : ℕ) (x : Role) → SeatHolds n d writer ws j x → SeatHolds n d writer (set ws (2 * n + 1 + v) o) j x
  note_seat j Spent h = tt
  note_seat j (Writes c) h = h
  note_seat j (Marks m) h = note_marker m h
  note_seat j (Reads vertices seen made) h = h
  note_seat j (Looks q) h = note_look n d.history (rest_of d) d.phase ws v o inside st.facts sound q h
  note_seat j (FoundBelow q) h = note_below n d.history (rest_of d) d.phase ws v o inside st.facts sound q h

  note_writer : WriterHolds n d (set ws (2 * n + 1 + v) o)
  note_writer = record {
    vertices_is = st.vertices_is;
    phases_are = st.phases_are;
    grown = st.grown;
    facts = note_facts n d.history (rest_of d) d.phase ws v o inside st.facts sound;
    plan = st.plan;
    marks = note_holds n d.history (rest_of d) d.phase ws v o inside st.facts sound d.noted d.marked d.cleared st.marks;
    begin = st.begin;
  }

  writer_notes_it : WriterHolds n (with_noted v d) (set ws (2 * n + 1 + v) o)
  writer_notes_it = record {
    vertices_is = st.vertices_is;
    phases_are = st.phases_are;
    grown = st.grown;
    facts = note_facts n d.history (rest_of d) d.phase ws v o inside st.facts sound;
    plan = st.plan;
    marks = note_adds n d.history (rest_of d) d.phase ws v o inside st.facts sound d.noted d.marked d.cleared st.marks;
    begin = st.begin;
  }

-- what the other seats know doesn't hang on what the writer noted, marked or cleared
module _ (n : ℕ) (d : WriterState) (v writer : ℕ) (ws : List ℕ) where
  others_noted : (j : ℕ) (x : Role) → j ≢ writer → SeatHolds n d writer ws j x → SeatHolds n (with_noted v d) writer ws j x
  others_noted j x o k = grind (arith, nat_tests)

  others_marked : (j : ℕ) (x : Role) → j ≢ writer → SeatHolds n d writer ws j x → SeatHolds n (with_mark v d) writer ws j x
  others_marked j x o k = grind (arith, nat_tests)

  others_cleared : (j : ℕ) (x : Role) → j ≢ writer → SeatHolds n d writer ws j x → SeatHolds n (with_cleared v d) writer ws j x
  others_cleared j x o k = grind (arith, nat_tests)

pub pred_is : (v : ℕ) → pred (v + 1) ≡ v
pred_is v = omega arith

pub noted_is : (n k v : ℕ) → k ≡ n → noted_at k (2 * n + 1 + v) ≡ v
noted_is n k v same = omega (arith, same)

pub notes_allowed : (n slots id g i l : ℕ) (d : WriterState) (e : Entry) (m : Move) → d.published ≤ g → IsMoveAt d.plan g i e m → e.label ≡ Some l → m.old < 2 ^ 16
    → Allows (IsKept n) slots id (Writes d, []) (2 * n + 1 + m.vertex) (λ _. m.old) (λ _. notes (step slots (2 * n + 1 + m.vertex) m.old 0 mathlib.Core.Option.none) (Writes d, []) m.old)
notes_allowed n slots id g i l d e m le at' named short s r homes at bound =
    let mine = r.seats id (Writes d) at in
    let same : d.vertices ≡ n = ap (λ (z : WriterState). z.vertices) mine.1 ∙ r.writes.vertices_is in (
      Writes (with_noted m.vertex d),
      keeps,
      tt,
      writer_step n s r id (2 * n + 1 + m.vertex) m.old d (with_noted m.vertex d) at
          (λ st. let z = early_note n d s.words g i l e m st le at' named short in writer_notes_it n d r.writer s.words m.vertex m.old z.0 st z.1)
          (λ st j v o k. let z = early_note n d s.words g i l e m st le at' named short in others_noted n d m.vertex r.writer (set s.words (2 * n + 1 + m.vertex) m.old) j v o (note_seat n d r.writer s.words m.vertex m.old z.0 st z.1 j v k)),
      (λ j. (Writes (with_noted (sym (noted_is n d.vertices m.vertex same) j) d), [])),
    )

pub marks_allowed : (n slots id g i l : ℕ) (d : WriterState) (e : Entry) (m : Move) → d.published ≤ g → IsMoveAt d.plan g i e m → e.label ≡ Some l → Contains d.noted m.vertex
    → Allows (IsKept n) slots id (Writes d, []) (m.vertex + 1) (λ _. packed m.new l d.phase) (λ _. marks (step slots (m.vertex + 1) (packed m.new l d.phase) 0 mathlib.Core.Option.none) (Writes d, []) (packed m.new l d.phase))
marks_allowed n slots id g i l d e m le at' named noted s r homes at bound =
    let x : ℕ = packed m.new l d.phase in (
      Writes (with_mark m.vertex d),
      keeps,
      tt,
      writer_step n s r id (m.vertex + 1) x d (with_mark m.vertex d) at
          (λ st. let z = early_mark n d s.words g i l e m st le at' named (st.marks.notes m.vertex noted).1 in writer_marks n d r.writer s.words m.vertex x z.0 st z.1 noted)
          (λ st j v o k. let z = early_mark n d s.words g i l e m st le at' named (st.marks.notes m.vertex noted).1 in others_marked n d m.vertex r.writer (set s.words (m.vertex + 1) x) j v o (mark_seat n d r.writer s.words m.vertex x z.0 st z.1 j v k)),
      (λ j. (Writes (with_mark (sym (pred_is m.vertex) j) d), [])),
    )

pub clears_allowed : (n slots id g i : ℕ) (d : WriterState) (e : Entry) (m : Move) → g < d.published → IsMoveAt d.plan g i e m
    → Allows (IsKept n) slots id (Writes d, []) (m.vertex + 1) (λ _. packed m.new 0 0) (λ _. clears (step slots (m.vertex + 1) (packed m.new 0 0) 0 mathlib.Core.Option.none) (Writes d, []) (packed m.new 0 0))
clears_allowed n slots id g i d e m lt at' s r homes at bound =
    let x : ℕ = packed m.new 0 0 in (
      Writes (with_cleared m.vertex d),
      keeps,
      tt,
      writer_step n s r id (m.vertex + 1) x d (with_cleared m.vertex d) at
          (λ st. let z = late_clear n d s.words g i e m st lt at' in writer_clears n d r.writer s.words m.vertex x z.0 st z.2 z.1)
          (λ st j v o k. let z = late_clear n d s.words g i e m st lt at' in others_cleared n d m.vertex r.writer (set s.words (m.vertex + 1) x) j v o (mark_seat n d r.writer s.words m.vertex x z.0 st z.2 j v k)),
      (λ j. (Writes (with_cleared (sym (pred_is m.vertex) j) d), [])),
    )

-- a marker's store, from its state a to b
marker_step : (n : ℕ) (s : State ℕ Role) (r : IsKept n s) (id i x : ℕ) (a b : MarkerState) → get_elem? s.views id ≡ some (Marks a) → b.loan ≡ a.loan → WriterHolds n r.state (set s.words i x)
    → ((j : ℕ) (y : Role) → SeatHolds n r.state r.writer s.words j y → SeatHolds n r.state r.writer (set s.words i x) j y)
    → MarkerHolds n r.state.loans r.state.lent r.state.phase r.state.plan r.state.published (set s.words i x) b → IsKept n record { words = set s.words i x; homes = s.homes; views = set s.views id (Marks b) }
marker_step n s r id i x a b at same writes others mine = record {
  state = r.state;
  writer = r.writer;
  writes = writes;
  seats = seats_stay (SeatHolds n r.state r.writer s.words) (SeatHolds n r.state r.writer (set s.words i x)) s.views id (Marks b) mine (λ j y o k. others j y k) r.seats;
  own = own_set s.views id (Marks a) (Marks b) at (λ k h. ap (λ (l : Loan). Some l.number) (sym same) ∙ h) r.own;
}

pub lent_notes_allowed : (n slots id i l : ℕ) (a : MarkerState) (e : Entry) (m : Move) → a.loan.published ≡ false → IsMoveAt a.plan a.loan.group i e m → e.label ≡ Some l → m.old < 2 ^ 16
    → Allows (IsKept n) slots id (Marks a, []) (2 * n + 1 + m.vertex) (λ _. m.old) (λ _. lent_notes (step slots (2 * n + 1 + m.vertex) m.old 0 mathlib.Core.Option.none) (Marks a, []) m.old)
lent_notes_allowed n slots id i l a e m early at' named short s r homes at bound =
    let h = r.seats id (Marks a) at in
    let z = early_note n r.state s.words a.loan.group i l e m r.writes (h.early early) (subst (λ (p : PhasePlan). IsMoveAt p a.loan.group i e m) h.plan_is at') named short in (
      Marks (marker_noted m.vertex a),
      keeps,
      tt,
      marker_step n s r id (2 * n + 1 + m.vertex) m.old a (marker_noted m.vertex a) at refl (note_writer n r.state r.writer s.words m.vertex m.old z.0 r.writes z.1)
          (note_seat n r.state r.writer s.words m.vertex m.old z.0 r.writes z.1) (marker_notes_it n r.state r.writer s.words m.vertex m.old z.0 r.writes z.1 a h),
      (λ j. (Marks (marker_noted (sym (noted_is n a.vertices m.vertex h.vertices_is) j) a), [])),
    )

pub lent_marks_allowed : (n slots id i l : ℕ) (a : MarkerState) (e : Entry) (m : Move) → a.loan.published ≡ false → IsMoveAt a.plan a.loan.group i e m → e.label ≡ Some l → Contains a.noted m.vertex
    → Allows (IsKept n) slots id (Marks a, []) (m.vertex + 1) (λ _. packed m.new l a.phase) (λ _. lent_marks (step slots (m.vertex + 1) (packed m.new l a.phase) 0 mathlib.Core.Option.none) (Marks a, []) (packed m.new l a.phase))
lent_marks_allowed n slots id i l a e m early at' named noted s r homes at bound =
    let h = r.seats id (Marks a) at in
    let o : ℕ = get_or s.words (2 * n + 1 + m.vertex) 0 in
    let z = early_mark n r.state s.words a.loan.group i l e m r.writes (h.early early) (subst (λ (p : PhasePlan). IsMoveAt p a.loan.group i e m) h.plan_is at') named (h.marks.notes m.vertex noted).1 in
    let x : ℕ = packed m.new l a.phase in
    let sound : IsSoundMark n r.state.history (rest_of r.state) r.state.phase m.vertex x o = subst (λ (p : ℕ). IsSoundMark n r.state.history (rest_of r.state) r.state.phase m.vertex (packed m.new l p) o) (sym h.phase_is) z.1 in (
      Marks (marker_mark m.vertex a),
      keeps,
      tt,
      marker_step n s r id (m.vertex + 1) x a (marker_mark m.vertex a) at refl (mark_writer n r.state r.writer s.words m.vertex x z.0 r.writes sound)
          (mark_seat n r.state r.writer s.words m.vertex x z.0 r.writes sound) (marker_marks n r.state r.writer s.words m.vertex x z.0 r.writes sound a noted h),
      (λ j. (Marks (marker_mark (sym (pred_is m.vertex) j) a), [])),
    )

pub lent_clears_allowed : (n slots id i : ℕ) (a : MarkerState) (e : Entry) (m : Move) → a.loan.published ≡ true → IsMoveAt a.plan a.loan.group i e m
    → Allows (IsKept n) slots id (Marks a, []) (m.vertex + 1) (λ _. packed m.new 0 0) (λ _. lent_clears (step slots (m.vertex + 1) (packed m.new 0 0) 0 mathlib.Core.Option.none) (Marks a, []) (packed m.new 0 0))
lent_clears_allowed n slots id i a e m late at' s r homes at bound =
    let h = r.seats id (Marks a) at in
    let z = late_clear n r.state s.words a.loan.group i e m r.writes (h.late late) (subst (λ (p : PhasePlan). IsMoveAt p a.loan.group i e m) h.plan_is at') in
    let x : ℕ = packed m.new 0 0 in (
      Marks (marker_cleared m.vertex a),
      keeps,
      tt,
      marker_step n s r id (m.vertex + 1) x a (marker_cleared m.vertex a) at refl (mark_writer n r.state r.writer s.words m.vertex x z.0 r.writes z.2)
          (mark_seat n r.state r.writer s.words m.vertex x z.0 r.writes z.2) (marker_clears n r.state r.writer s.words m.vertex x z.0 r.writes z.2 z.1 a h),
      (λ j. (Marks (marker_cleared (sym (pred_is m.vertex) j) a), [])),
    )
