-- A phase begins, and a group is published.
use Rattle.std.proofs.Common.{◌≡◌, ◌≢◌, ℕ, ◌+◌, ◌*◌, ◌<◌, ◌≤◌, List, [], ◌∷◌, ◌++◌, drop, length, Some, None, Contains, set, get_or, sym, refl, ap, ◌∙◌, subst, ⊎_elim, arith, get_or-set_other}
use Rattle.std.specs.List.{slice_get}
use Rattle.std.proofs.lemmas.Option.{slice_get_within}
use Rattle.std.proofs.Math.Seq.{drop-length}
use Rattle.std.proofs.lemmas.Bool.Decides.{nat_tests}
use mathlib.Core.Logic.{dite}
use native.Mathlib.Decide.{ℕ_discrete}
use Rattle.atomic_table.specs.Table.{step, keeps, Allows}
use Rattle.kc_words.specs.Packed.{unpacked}
use Rattle.kc_history.specs.declared.entries.Entry.{Entry}
use Rattle.kc_history.specs.Ends.{last_move}
use Rattle.kc_history.specs.private.Ends.{level_of, stamp_of}
use Rattle.kc_groups.specs.declared.plans.PhasePlan.{PhasePlan}
use Rattle.kc_store.specs.declared.roles.Loan.{Loan}
use Rattle.kc_store.specs.declared.roles.WriterState.{WriterState}
use Rattle.kc_store.specs.declared.roles.Pending.{Pending}
use Rattle.kc_store.specs.declared.roles.Role.{Role}
use Rattle.kc_store.specs.declared.roles.Role.TheVariants.{Spent, Writes, Marks, Reads, Looks, FoundBelow}
use Rattle.kc_store.specs.Plans.{Move, IsFormed}
use Rattle.kc_store.specs.private.Plans.{group_of}
use Rattle.kc_store.specs.States.{with_entry_if, with_phase}
use Rattle.kc_store.specs.private.Rule.{Waits, AllWait, ApartFrom, Facts, LookHolds, BelowHolds, AllNoted, AllMarked, IsNoted, AllCleared, MarksHold, AllShown, IsUnmoved, WriterHolds, SeatHolds, IsKept, rest_of}
use Rattle.kc_store.specs.private.Steps.{publishes, begins}
use Rattle.kc_store.proofs.Points.{before_more, waits_found, group_here, group_past, group_label, label_found, apart_found, level_moved, level_stays}
use Rattle.kc_store.proofs.Publishing.{mark, publish, publish_look, publish_below, maybe_cases}
use Rattle.kc_store.proofs.Beginning.{begin, begin_look, begin_below}
use Rattle.kc_store.proofs.Places.{move_found, drop_cons, waits_all, apart_formed}
use Rattle.kc_store.proofs.Forms.{CanBegin}
use Rattle.kc_store.proofs.Growth.{phases_begun, phases_stay, grown_begun, grown_published}
use Rattle.kc_store.proofs.Seats.{all_longer, writer_step}

group_more : (e : Entry) (es : List Entry) (g : ℕ) (f : Entry) → ApartFrom e es → ((a : ℕ) × (e.label ≡ Some a)) → group_of g es ≡ Some f → group_of g (e ∷ es) ≡ Some f
group_more e es g f apart named is =
    let ap' = apart_found e g es f apart is in
    let label : f.label ≡ Some g = label_found g f.label (group_label g es f is) in
    let other : g ≢ named.0 = (λ s. ap'.labels (named.1 ∙ (ap Some (sym s) ∙ sym label))) in
    group_past e es g named.0 named.1 other ∙ is

no_none : (A : Type 0) (B : Type 0) (b : B) → None ≡ Some b → A
no_none A B b h = cc

none_in : (v : ℕ) → Contains [] v → ⊥
none_in v on = let lt = on.1 in omega (arith, lt)

pub no_marks : (n : ℕ) (rest : List Entry) (p : ℕ) (ws : List ℕ) → MarksHold n rest p ws [] [] []
no_marks n rest p ws = record { notes = λ v on. absurd (none_in v on); marks = λ v on. absurd (none_in v on); marks_noted = λ v on. absurd (none_in v on); clears = λ v on. absurd (none_in v on) }

module _ (n : ℕ) (d : WriterState) (e : Entry) (l : ℕ) (ws : List ℕ) (group : slice_get d.plan.groups d.published ≡ Some e) (named : e.label ≡ Some l) (all : (i : ℕ) (m : Move) → slice_get e.moves i ≡ Some m → Contains d.marked m.vertex) (st : WriterHolds n d ws) where
  abbrev es : List Entry
  es = drop (d.published + 1) d.plan.groups

  abbrev After : WriterState
  After = record d { history = d.history ++ e ∷ []; published = d.published + 1 }

  abbrev place : ℕ
  place = n + 1 + l

  abbrev now : List ℕ
  now = set ws place d.phase

  rest_is : rest_of d ≡ e ∷ es
  rest_is = drop_cons d.published d.plan.groups e group

  facts' : Facts n d.history (e ∷ es) d.phase ws
  facts' = subst (λ (z : List Entry). Facts n d.history z d.phase ws) rest_is st.facts

  w : Waits n d.phase d.history e
  w = facts'.groups.waiting.0

  label_is : l ≡ w.label
  label_is = let same : Some l ≡ Some w.label = sym named ∙ w.label_is in cc

  marks' : AllMarked (e ∷ es) d.phase ws d.marked
  marks' = subst (λ (z : List Entry). AllMarked z d.phase ws d.marked) rest_is st.marks.marks

  marks_are : (v : ℕ) (m : Move) → last_move v e.moves ≡ Some m → unpacked (get_or ws (v + 1) 0) ≡ mark m.new w.label d.phase
  marks_are v m is =
      let i = move_found v e.moves m is in
      let on : Contains d.marked v = subst (λ (z : ℕ). Contains d.marked z) i.2 (all i.0 m i.1) in
      marks' v on w.label e m (group_here e es w.label w.label_is) is

  facts_after : Facts n (d.history ++ e ∷ []) es d.phase now
  facts_after = subst (λ (z : ℕ). Facts n (d.history ++ e ∷ []) es d.phase (set ws (n + 1 + z) d.phase)) (sym label_is) (publish n d.history e es d.phase w ws facts' marks_are)

  mark_stays : (v : ℕ) → v < n → get_or now (v + 1) 0 ≡ get_or ws (v + 1) 0
  mark_stays v lt = get_or-set_other ws place (v + 1) d.phase 0 (λ k. omega arith)

  old_stays : (v : ℕ) → v < n → get_or now (2 * n + 1 + v) 0 ≡ get_or ws (2 * n + 1 + v) 0
  old_stays v lt = let inside = w.label_in in let same = label_is in get_or-set_other ws place (2 * n + 1 + v) d.phase 0 (λ k. omega (arith, k, inside, same))

  unmoved_on : (v : ℕ) → IsUnmoved (e ∷ es) v → IsUnmoved es v
  unmoved_on v free g f is = free g f (group_more e es g f facts'.groups.apart.0 (w.label, w.label_is) is)

  noted_on : (vs : List ℕ) → AllNoted n (rest_of d) ws vs → AllNoted n es now vs
  noted_on vs h v on =
      let h' = subst (λ (z : List Entry). AllNoted n z ws vs) rest_is h in
      let c = h' v on in (c.0, subst (IsNoted es v) (sym (old_stays v c.0)) (λ g f m is moves. c.1 g f m (group_more e es g f facts'.groups.apart.0 (w.label, w.label_is) is) moves))

  marked_on : (vs : List ℕ) → AllMarked (rest_of d) d.phase ws vs → AllMarked es d.phase now vs
  marked_on vs h v on g f m is moves =
      let h' = subst (λ (z : List Entry). AllMarked z d.phase ws vs) rest_is h in
      let inside = ((waits_found n d.phase d.history g es f facts'.groups.waiting.1 is).moves v m moves).0 in
      ap unpacked (mark_stays v inside) ∙ h' v on g f m (group_more e es g f facts'.groups.apart.0 (w.label, w.label_is) is) moves

  cleared_on : (vs : List ℕ) → AllCleared n (rest_of d) ws vs → AllCleared n es now vs
  cleared_on vs h v on =
      let h' = subst (λ (z : List Entry). AllCleared n z ws vs) rest_is h in
      let c = h' v on in (c.0, unmoved_on v c.1, subst (λ (z : ℕ). (unpacked z).phase ≡ 0) (sym (mark_stays v c.0)) c.2)

  marks_on : (ns ms cs : List ℕ) → MarksHold n (rest_of d) d.phase ws ns ms cs → MarksHold n es d.phase now ns ms cs
  marks_on ns ms cs h = record { notes = noted_on ns h.notes; marks = marked_on ms h.marks; marks_noted = h.marks_noted; clears = cleared_on cs h.clears }

  shown_on : AllShown (d.history ++ e ∷ []) d.plan.groups (d.published + 1)
  shown_on k f v m lt is moves = dite (ℕ_discrete k d.published)
      (λ s.
      let there : Some e ≡ Some f = sym group ∙ (ap (slice_get d.plan.groups) (sym s) ∙ is) in
      let same : e ≡ f = cc in
      level_moved d.history e v m (subst (λ (z : Entry). last_move v z.moves ≡ Some m) (sym same) moves))
      (λ o.
      let less : k < d.published = omega (arith, lt, o) in
      let apart = st.plan.formed.ascend k d.published f e less is group in
      let none : last_move v e.moves ≡ None = ⊎_elim (λ (t : last_move v e.moves ≡ None). t) (λ (t : (b : Move) × (last_move v e.moves ≡ Some b)). no_none (last_move v e.moves ≡ None) Move m (sym (apart.vertices v t.0 t.1) ∙ moves)) (maybe_cases (last_move v e.moves)) in
      level_stays d.history e v none ∙ st.plan.shown k f v m less is moves)

  pub writer_publishes : d.published + 1 ≤ length d.plan.groups → WriterHolds n After now
  writer_publishes le = record {
    vertices_is = st.vertices_is;
    phases_are = phases_stay d.history e l d.phase d.before named st.phases_are;
    grown = grown_published n d.before d.history d.plan d.published e group st.grown;
    facts = facts_after;
    plan = record { formed = st.plan.formed; published_in = le; shown = shown_on };
    marks = marks_on d.noted d.marked d.cleared st.marks;
    begin = all_longer d.history e d.joined st.begin;
  }

  look_on : (q : Pending) → LookHolds n d.history (rest_of d) d.phase ws q → LookHolds n (d.history ++ e ∷ []) es d.phase now q
  look_on q k = subst (λ (z : ℕ). LookHolds n (d.history ++ e ∷ []) es d.phase (set ws (n + 1 + z) d.phase) q) (sym label_is)
      (publish_look n d.history e es d.phase w ws q facts'.stamps.below facts'.groups.apart.0 (subst (λ (z : List Entry). LookHolds n d.history z d.phase ws q) rest_is k))

  below_on : (q : Pending) → BelowHolds n d.history ws q → BelowHolds n (d.history ++ e ∷ []) now q
  below_on q k = subst (λ (z : ℕ). BelowHolds n (d.history ++ e ∷ []) (set ws (n + 1 + z) d.phase) q) (sym label_is) (publish_below n d.history e es d.phase w ws q k)

  pub others_publish : ((x : Loan) → Contains d.loans x → x.group ≢ d.published) → (writer j : ℕ) (x : Role) → j ≢ writer → SeatHolds n d writer ws j x → SeatHolds n After writer now j x
  others_publish none writer j Spent o k = tt
  others_publish none writer j (Writes c) o k = absurd (o k.0)
  others_publish none writer j (Marks m) o k = record {
    listed = k.listed;
    number_in = k.number_in;
    vertices_is = k.vertices_is;
    phase_is = k.phase_is;
    plan_is = k.plan_is;
    early = λ t. let le = k.early t in let other = none m.loan k.listed in omega (arith, le, other);
    late = λ t. let lt = k.late t in omega (arith, lt);
    marks = marks_on m.noted m.marked m.cleared k.marks;
  }
  others_publish none writer j (Reads vertices seen made) o k = (k.0, before_more seen d.history e k.1, k.2)
  others_publish none writer j (Looks q) o k = look_on q k
  others_publish none writer j (FoundBelow q) o k = below_on q k

within : (es : List Entry) (k : ℕ) (e : Entry) → slice_get es k ≡ Some e → k + 1 ≤ length es
within es k e is = let lt : k < length es = slice_get_within es k e is in omega (arith, lt)

pub publishes_allowed : (n slots id l : ℕ) (d : WriterState) (e : Entry) → slice_get d.plan.groups d.published ≡ Some e → e.label ≡ Some l → ((i : ℕ) (m : Move) → slice_get e.moves i ≡ Some m → Contains d.marked m.vertex) → ((x : Loan) → Contains d.loans x → x.group ≢ d.published)
    → Allows (IsKept n) slots id (Writes d, []) (n + 1 + l) (λ _. d.phase) (λ _. publishes (step slots (n + 1 + l) d.phase 0 mathlib.Core.Option.none) (Writes d, []) d.phase)
publishes_allowed n slots id l d e group named all none s r homes at bound = (
  Writes (record d { history = d.history ++ e ∷ []; published = d.published + 1 }),
  keeps,
  tt,
  writer_step n s r id (n + 1 + l) d.phase d (record d { history = d.history ++ e ∷ []; published = d.published + 1 }) at
      (λ st. writer_publishes n d e l s.words group named all st (within d.plan.groups d.published e group))
      (λ st j v o k. others_publish n d e l s.words group named all st none r.writer j v o k),
  (λ i. (Writes (record d { history = with_entry_if (sym group i) d.history; published = d.published + 1 }), [])),
)

-- a plan that may begin waits as a whole
waits_begun : (n : ℕ) (d : WriterState) (plan : PhasePlan) → d.vertices ≡ n → ((g : ℕ) → stamp_of 0 d.history g ≤ d.phase) → CanBegin d plan → AllWait n (d.phase + 1) d.history plan.groups
waits_begun n d plan same below may = waits_all n (d.phase + 1) d.history plan.groups (λ k e is.
    let gr = may.formed.groups k e is in
    let b = below gr.label in record {
      phase_is = gr.phase_is;
      label = gr.label;
      label_is = gr.label_is;
      label_in = omega (arith, gr.label_in, same);
      older = omega (arith, b);
      moves = λ v m found.
          let i = move_found v e.moves m found in
          let good = gr.moves i.0 m i.1 in
          let there = i.2 in (omega (arith, good.inside, there, same), ap (level_of 0 d.history) (sym there) ∙ may.old k e i.0 m is i.1, good.differ);
    })

pub begins_allowed : (n slots id : ℕ) (d : WriterState) (plan : PhasePlan) → CanBegin d plan
    → Allows (IsKept n) slots id (Writes d, []) 0 (λ _. d.phase + 1) (λ _. begins plan (step slots 0 (d.phase + 1) 0 mathlib.Core.Option.none) (Writes d, []) (d.phase + 1))
begins_allowed n slots id d plan may s r homes at bound = (
  Writes (with_phase plan d),
  keeps,
  tt,
  writer_step n s r id 0 (d.phase + 1) d (with_phase plan d) at
      (λ st. record {
        vertices_is = st.vertices_is;
        phases_are = phases_begun d.history plan.quiet d.phase d.before may.formed.no_label st.phases_are;
        grown = grown_begun n d.before d.phase d.history d.plan plan d.published may.all_published st.plan.formed.phase_is (subst (λ (z : ℕ). IsFormed z (d.phase + 1) plan) st.vertices_is may.formed) st.grown;
        facts = begin n d.history plan.quiet plan.groups d.phase may.formed.no_label may.formed.no_moves s.words (subst (λ (z : List Entry). Facts n d.history z d.phase s.words) none st.facts) may.phase_in
            (waits_begun n d plan st.vertices_is st.facts.stamps.below may) (apart_formed d.vertices (d.phase + 1) plan may.formed);
        plan = record { formed = subst (λ (z : ℕ). IsFormed z (d.phase + 1) plan) st.vertices_is may.formed; published_in = omega arith; shown = λ k e v m lt is moves. absurd (omega (arith, lt)) };
        marks = no_marks n plan.groups (d.phase + 1) (set s.words 0 (d.phase + 1));
        begin = all_longer d.history plan.quiet d.joined st.begin;
      })
      (λ st. others),
  refl,
)
  where
    none : rest_of d ≡ []
    none = ap (λ (k : ℕ). drop k d.plan.groups) may.all_published ∙ drop-length d.plan.groups

    no_loan : (l : Loan) → Contains d.loans l → ⊥
    no_loan l on = let few : length d.loans ≡ 0 = ap (length {A = Loan}) may.none_out in let lt = on.1 in omega (arith, few, lt)

    others : (j : ℕ) (v : Role) → j ≢ r.writer → SeatHolds n d r.writer s.words j v → SeatHolds n (with_phase plan d) r.writer (set s.words 0 (d.phase + 1)) j v
    others j v o k = grind (arith, nat_tests, no_loan, before_more, begin_look, none, begin_below, may.formed.no_label, may.formed.no_moves, s.words)
