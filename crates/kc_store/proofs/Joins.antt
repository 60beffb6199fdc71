-- Opening the table, and the steps by which a pass or a marker comes and goes.
use Rattle.std.proofs.Common.{◌≡◌, ◌≢◌, ◌⊎◌, ℕ, zero, suc, ◌+◌, ◌*◌, ◌<◌, ◌≤◌, Bool, true, false, List, [], ◌∷◌, ◌++◌, Some, None, Contains, drop, length, nat_eq, nat_lt, if◌then◌else◌, set, get_or, sym, refl, ap, ◌∙◌, subst, inl, inr, ⊎_elim, arith, le_refl, zero-le}
use Rattle.std.proofs.lemmas.Bool.Decides.{nat_tests}
use Rattle.std.proofs.lemmas.List.Elements.{Contains-append_cases, Contains-append_left, Contains-append_right}
use mathlib.Core.Option.{some, some-injective, some-ne-none}
use mathlib.Core.List.{IsPrefix}
use lib.ListN.{get_elem?}
use Rattle.atomic_table.specs.Table.{step, keeps, Allows, Splits, Joins, opening}
use Rattle.atomic_table.proofs.Lists.{at_set, at_snoc, set_again}
use Rattle.kc_words.specs.Packed.{unpacked}
use Rattle.kc_graph.specs.declared.limits.TheConstants.{MAX_VERTICES}
use Rattle.kc_history.specs.declared.limits.TheConstants.{MAX_PHASE}
use Rattle.kc_history.specs.declared.entries.Entry.{Entry}
use Rattle.kc_store.specs.declared.roles.WriterState.{WriterState}
use Rattle.kc_store.specs.declared.roles.Loan.{Loan}
use Rattle.kc_store.specs.declared.roles.MarkerState.{MarkerState}
use Rattle.kc_store.specs.declared.roles.Role.{Role}
use Rattle.kc_store.specs.declared.roles.Role.TheVariants.{Spent, Writes, Marks, Reads, Looks, FoundBelow}
use Rattle.kc_store.specs.private.Rule.{Fits, AllBegin, AreMarkedNoted, MarksHold, WriterHolds, MarkerHolds, SeatHolds, IsKept, AreOwnLoans, number_of, rest_of}
use Rattle.kc_store.specs.private.Seats.{Sat}
use Rattle.kc_store.specs.Seats.{writer_of, marker_of, vertices_of, seen_of, made_of}
use Rattle.kc_store.specs.States.{opened, with_joined, with_loan, marker_for, without_loan, with_returned}
use Rattle.kc_store.specs.private.Steps.{first_role, new_pass, took_back, told, lender, lent_to}
use Rattle.kc_store.proofs.Points.{before_itself}
use Rattle.kc_store.proofs.Phases.{no_marks}
use Rattle.kc_store.proofs.Seats.{seats_stay, own_set, reader_step}

zero_fits : (n v k o p : ℕ) → 0 < n → k ≡ 0 → Fits n [] [] p v (unpacked k) o
zero_fits n v k o p some_vertex is = grind (arith, nat_tests)

pub opens : (n p : ℕ) (ws : List ℕ) → 1 ≤ n → n ≤ MAX_VERTICES → p ≤ MAX_PHASE → length ws ≡ 3 * n + 1 → get_or ws 0 0 ≡ p → ((i : ℕ) → 0 < i → i < length ws → get_or ws i 0 ≡ 0) → IsKept n (opening ws [] (first_role n p))
opens n p ws some_vertex small short sized head zeros = record {
  state = opened n p;
  writer = 0;
  writes = record {
    vertices_is = refl;
    phases_are = omega arith;
    grown = inl (refl, refl, refl);
    facts = record {
      sized = sized;
      small = small;
      phase_is = head;
      phase_in = short;
      stamps = record { words = λ g lt. zeros (n + 1 + g) (omega arith) (omega (arith, sized, lt)); below = λ g. zero-le };
      groups = record { waiting = tt; apart = tt };
      vertices = λ v lt. zero_fits n v (get_or ws (v + 1) 0) (get_or ws (2 * n + 1 + v) 0) p (omega (arith, some_vertex)) (zeros (v + 1) (omega arith) (omega (arith, sized, lt)));
      olds = λ v lt. let is = zeros (2 * n + 1 + v) (omega arith) (omega (arith, sized, lt)) in omega (arith, is);
    };
    plan = record {
      formed = record { phase_is = refl; no_label = refl; no_moves = refl; groups = λ k e is. cc; ascend = λ k l e f lt a b. cc };
      published_in = zero-le;
      shown = λ k e v m lt is moves. absurd (omega (arith, lt));
    };
    marks = no_marks n [] p ws;
    begin = tt;
  };
  seats = λ j v e. first j v e;
  own = λ i j k v w a b x y. absurd (no_marker i v a k x);
}
  where
    first : (j : ℕ) (v : Role) → get_elem? (first_role n p ∷ []) j ≡ some v → SeatHolds n (opened n p) 0 ws j v
    first j v e = grind (arith, nat_tests)

    no_marker : (j : ℕ) (v : Role) → get_elem? (first_role n p ∷ []) j ≡ some v → (k : ℕ) → number_of v ≡ Some k → ⊥
    no_marker j v e k h = grind (arith, nat_tests)

tells : (n slots id : ℕ) (d : WriterState) → Allows (IsKept n) slots id (Writes d, []) 0 (λ n. n) (told (step slots 0 0 0 mathlib.Core.Option.none) (Writes d, []))
tells n slots id d s r homes at bound =
    let mine = r.seats id (Writes d) at in (
      Writes d,
      keeps,
      tt,
      reader_step n s r id 0 (Writes d) (Writes d) at (λ k h. h) mine,
      (refl, subst (λ (z : WriterState). AllBegin z.history z.joined) (sym mine.1) r.writes.begin),
    )

pub tells_from : (key n slots id : ℕ) (me : Sat) → key ≡ n → me ≡ (Writes (writer_of me.0), []) → Allows (IsKept key) slots id me 0 (λ n. n) (told (step slots 0 0 0 mathlib.Core.Option.none) me)
tells_from key n slots id me same is = subst (λ (m : Sat). Allows (IsKept key) slots id m 0 (λ n. n) (told (step slots 0 0 0 mathlib.Core.Option.none) m)) (sym is) (tells key slots id (writer_of me.0))

at_end : (l : List Role) (a b : Role) (j : ℕ) → get_elem? (l ++ a ∷ []) j ≡ some b → (get_elem? l j ≡ some b) ⊎ ((j ≡ length l) × (a ≡ b))
at_end [] a b zero e = inr (refl, some-injective a b e)
at_end [] a b (suc j) e = absurd (some-ne-none b (sym e))
at_end (x ∷ xs) a b zero e = inl e
at_end (x ∷ xs) a b (suc j) e = ⊎_elim (λ (t : get_elem? xs j ≡ some b). inl t) (λ (t : (j ≡ length xs) × (a ≡ b)). inr (ap suc t.0, t.1)) (at_end xs a b j e)

-- a new seat, whose number no other has
own_new : (vs : List Role) (w : Role) → ((i k : ℕ) (v : Role) → get_elem? vs i ≡ some v → number_of v ≡ Some k → number_of w ≡ Some k → ⊥) → AreOwnLoans vs → AreOwnLoans (vs ++ w ∷ [])
own_new vs w none all i j k a b x y na nb = grind (arith, nat_tests, ⊎_elim, at_end)

cuts : (n id : ℕ) (d : WriterState) → Splits (IsKept n) id (Writes d) (Writes d) (Reads d.vertices d.history (length d.history))
cuts n id d s r at =
    let mine = r.seats id (Writes d) at in
    let w : Role = Reads d.vertices d.history (length d.history) in record {
      state = r.state;
      writer = r.writer;
      writes = r.writes;
      seats = λ j v e. ⊎_elim (λ was. r.seats j v (subst (λ (l : List Role). get_elem? l j ≡ some v) (set_again s.views id (Writes d) at) was))
          (λ (same : w ≡ v). subst (SeatHolds n r.state r.writer s.words j) same (ap (λ (z : WriterState). z.vertices) mine.1 ∙ r.writes.vertices_is, subst (λ (z : WriterState). IsPrefix d.history z.history) mine.1 (before_itself d.history), le_refl (length d.history)))
          (at_snoc (set s.views id (Writes d)) w v j e);
      own = own_new (set s.views id (Writes d)) w (λ i k v e h g. let z : None ≡ Some k = g in cc) (own_set s.views id (Writes d) (Writes d) at (λ k h. h) r.own);
    }

pub cuts_from : (key id : ℕ) (me : Sat) → me ≡ (Writes (writer_of me.0), []) → Splits (IsKept key) id me.0 me.0 (new_pass me.0)
cuts_from key id me is = subst (λ (m : Sat). Splits (IsKept key) id m.0 m.0 (new_pass m.0)) (sym is) (cuts key id (writer_of me.0))

joined_writes : (n : ℕ) (d : WriterState) (seen : List Entry) (ws : List ℕ) → IsPrefix seen d.history → WriterHolds n d ws → WriterHolds n (with_joined seen d) ws
joined_writes n d seen ws p f = record {
  vertices_is = f.vertices_is;
  phases_are = f.phases_are;
  grown = f.grown;
  facts = f.facts;
  plan = f.plan;
  marks = f.marks;
  begin = (p, f.begin);
}

others_joined : (n : ℕ) (d : WriterState) (seen : List Entry) (writer : ℕ) (ws : List ℕ) (j : ℕ) (v : Role) → j ≢ writer → SeatHolds n d writer ws j v → SeatHolds n (with_joined seen d) writer ws j v
others_joined n d seen writer ws j v o k = grind (arith, nat_tests)

glues : (n id other vertices made : ℕ) (d : WriterState) (seen : List Entry) → Joins (IsKept n) id (Writes d) other (Reads vertices seen made) (Writes (with_joined seen d)) Spent
glues n id other vertices made d seen s r at apart at' =
    let mine = r.seats id (Writes d) at in
    let w : Role = Writes (with_joined seen d) in
    let theirs = ⊎_elim (λ (t : (other ≡ id) × (w ≡ Reads vertices seen made)). absurd (apart t.0)) (λ (t : (other ≢ id) × (get_elem? s.views other ≡ some (Reads vertices seen made))). r.seats other (Reads vertices seen made) t.1)
    (at_set s.views id other w (Reads vertices seen made) at') in
    let d' : WriterState = with_joined seen r.state in
    let all = seats_stay (SeatHolds n r.state r.writer s.words) (SeatHolds n d' r.writer s.words) s.views id w (mine.0, ap (with_joined seen) mine.1)
    (λ j v o k. others_joined n r.state seen r.writer s.words j v (λ e. o (e ∙ sym mine.0)) k) r.seats in record {
      state = d';
      writer = r.writer;
      writes = joined_writes n r.state seen s.words theirs.1 r.writes;
      seats = seats_stay (SeatHolds n d' r.writer s.words) (SeatHolds n d' r.writer s.words) (set s.views id w) other Spent tt (λ j v o k. k) all;
      own = own_set (set s.views id w) other (Reads vertices seen made) Spent at' (λ k h. h) (own_set s.views id (Writes d) w at (λ k h. h) r.own);
    }

pub glues_from : (key id other : ℕ) (me you : Sat) → me ≡ (Writes (writer_of me.0), []) → you ≡ (Reads (vertices_of you.0) (seen_of you.0) (made_of you.0), []) → Joins (IsKept key) id me.0 other you.0 (took_back me.0 you.0) Spent
glues_from key id other me you is is' = grind (arith, nat_tests, glues)

pub glued_writer : (me you new : Sat) → me ≡ (Writes (writer_of me.0), []) → you ≡ (Reads (vertices_of you.0) (seen_of you.0) (made_of you.0), []) → new ≡ (took_back me.0 you.0, me.1)
    → (new ≡ (Writes (writer_of new.0), [])) × (writer_of new.0 ≡ with_joined (seen_of you.0) (writer_of me.0))
glued_writer me you new is is' e = grind (arith, nat_tests)

-- a loan more
published_flag : (g k : ℕ) → (nat_lt g k ≡ false → k ≤ g) × (nat_lt g k ≡ true → g < k)
published_flag g k = ((λ t. grind (arith, nat_tests, t)), (λ t. grind (arith, nat_tests, t)))

listed_more : (l x : Loan) (ls : List Loan) → Contains ls x → Contains (l ∷ ls) x
listed_more l x ls on = let lt = on.1 in (suc on.0, omega (arith, lt), on.2)

listed_first : (l : Loan) (ls : List Loan) → Contains (l ∷ ls) l
listed_first l ls = (0, omega arith, refl)

listed_cases : (l x : Loan) (ls : List Loan) → Contains (l ∷ ls) x → (l ≡ x) ⊎ Contains ls x
listed_cases l x ls on = grind (arith, nat_tests, on.0, on.1, on.2)

others_lent : (n g from to : ℕ) (d : WriterState) (writer : ℕ) (ws : List ℕ) (j : ℕ) (v : Role) → j ≢ writer → SeatHolds n d writer ws j v → SeatHolds n (with_loan g from to d) writer ws j v
others_lent n g from to d writer ws j v o k = grind (arith, nat_tests, listed_more)

lends : (n id g from to : ℕ) (d : WriterState) → Splits (IsKept n) id (Writes d) (Writes (with_loan g from to d)) (Marks (marker_for g from to d))
lends n id g from to d s r at =
    let mine = r.seats id (Writes d) at in
    let w : Role = Marks (marker_for g from to d) in
    let d' : WriterState = with_loan g from to r.state in
    let all = seats_stay (SeatHolds n r.state r.writer s.words) (SeatHolds n d' r.writer s.words) s.views id (Writes (with_loan g from to d)) (mine.0, ap (with_loan g from to) mine.1)
    (λ j v o k. others_lent n g from to r.state r.writer s.words j v (λ e. o (e ∙ sym mine.0)) k) r.seats in
    let own = own_set s.views id (Writes d) (Writes (with_loan g from to d)) at (λ k h. h) r.own in
    let new : MarkerHolds n d'.loans d'.lent d'.phase d'.plan d'.published s.words (marker_for g from to r.state) = record {
      listed = listed_first _ r.state.loans;
      number_in = omega arith;
      vertices_is = r.writes.vertices_is;
      phase_is = refl;
      plan_is = refl;
      early = (published_flag g r.state.published).0;
      late = (published_flag g r.state.published).1;
      marks = no_marks n (drop r.state.published r.state.plan.groups) r.state.phase s.words;
    } in record {
      state = d';
      writer = r.writer;
      writes = record {
        vertices_is = r.writes.vertices_is;
        phases_are = r.writes.phases_are;
        grown = r.writes.grown;
        facts = r.writes.facts;
        plan = r.writes.plan;
        marks = r.writes.marks;
        begin = r.writes.begin;
      };
      seats = λ j v e. ⊎_elim (λ was. all j v was)
          (λ (same : w ≡ v). subst (SeatHolds n d' r.writer s.words j) same (subst (λ (z : WriterState). MarkerHolds n d'.loans d'.lent d'.phase d'.plan d'.published s.words (marker_for g from to z)) (sym mine.1) new))
          (at_snoc (set s.views id (Writes (with_loan g from to d))) w v j e);
      own = own_new (set s.views id (Writes (with_loan g from to d))) w (λ i k v e h t.
          let low : k < r.state.lent = below i v e k h in
          let is : Some d.lent ≡ Some k = t in
          let same : d.lent ≡ k = cc in
          let desk : d.lent ≡ r.state.lent = ap (λ (z : WriterState). z.lent) mine.1 in absurd (omega (arith, low, same, desk))) own;
    }
  where
    number_below : (j : ℕ) (v : Role) → SeatHolds n r.state r.writer s.words j v → (k : ℕ) → number_of v ≡ Some k → k < r.state.lent
    number_below j v h k is = grind (arith, nat_tests)

    below : (j : ℕ) (v : Role) → get_elem? (set s.views id (Writes (with_loan g from to d))) j ≡ some v → (k : ℕ) → number_of v ≡ Some k → k < r.state.lent
    below = seats_stay (SeatHolds n r.state r.writer s.words) (λ j v. (k : ℕ) → number_of v ≡ Some k → k < r.state.lent) s.views id (Writes (with_loan g from to d)) (λ k h. let z : None ≡ Some k = h in cc) (λ j v o h. number_below j v h) r.seats

pub lends_from : (key id g from to a b c : ℕ) (me : Sat) → a ≡ g → b ≡ from → c ≡ to → me ≡ (Writes (writer_of me.0), []) → Splits (IsKept key) id me.0 (lender a b c me.0) (lent_to a b c me.0)
lends_from key id g from to a b c me x y z is = subst (λ (m : Sat). Splits (IsKept key) id m.0 (lender a b c m.0) (lent_to a b c m.0)) (sym is) (lends key id a b c (writer_of me.0))

-- giving back
listed_still : (k : ℕ) (l : Loan) (ls : List Loan) → l.number ≢ k → Contains ls l → Contains (without_loan k ls) l
listed_still k l [] o on = let lt = on.1 in absurd (omega (arith, lt))
listed_still k l (x ∷ xs) o on = go (nat_eq x.number k) refl (listed_still k l xs o)
  where
    go : (b : Bool) → nat_eq x.number k ≡ b → (Contains xs l → Contains (without_loan k xs) l) → Contains (without_loan k (x ∷ xs)) l
    go true t h = subst (λ b. Contains (if b then without_loan k xs else x ∷ without_loan k xs) l) (sym t)
        (⊎_elim (λ (s : x ≡ l). absurd (o (let e : x.number ≡ k = grind (arith, nat_tests, t) in sym (ap (λ (z : Loan). z.number) s) ∙ e))) (λ (r : Contains xs l). h r) (listed_cases x l xs on))
    go false t h = subst (λ b. Contains (if b then without_loan k xs else x ∷ without_loan k xs) l) (sym t)
        (⊎_elim (λ (s : x ≡ l). subst (λ (z : Loan). Contains (x ∷ without_loan k xs) z) s (listed_first x (without_loan k xs))) (λ (r : Contains xs l). listed_more x l (without_loan k xs) (h r)) (listed_cases x l xs on))

others_returned : (n : ℕ) (a : MarkerState) (d : WriterState) (writer : ℕ) (ws : List ℕ) (j : ℕ) (v : Role) → j ≢ writer → ((k : ℕ) → number_of v ≡ Some k → k ≢ a.loan.number) → SeatHolds n d writer ws j v → SeatHolds n (with_returned a d) writer ws j v
others_returned n a d writer ws j Spent o m k = tt
others_returned n a d writer ws j (Writes c) o m k = absurd (o k.0)
others_returned n a d writer ws j (Marks b) o m k = record {
  listed = listed_still a.loan.number b.loan d.loans (m b.loan.number refl) k.listed;
  number_in = k.number_in;
  vertices_is = k.vertices_is;
  phase_is = k.phase_is;
  plan_is = k.plan_is;
  early = k.early;
  late = k.late;
  marks = k.marks;
}
others_returned n a d writer ws j (Reads vertices s made) o m k = k
others_returned n a d writer ws j (Looks q) o m k = k
others_returned n a d writer ws j (FoundBelow q) o m k = k

both_noted : (marked noted more others : List ℕ) → AreMarkedNoted marked noted → AreMarkedNoted more others → AreMarkedNoted (marked ++ more) (noted ++ others)
both_noted marked noted more others a b x on = ⊎_elim (λ (t : Contains marked x). Contains-append_left noted others x (a x t)) (λ (t : Contains more x). Contains-append_right noted others x (b x t)) (Contains-append_cases marked more x on)

both_mark : (n : ℕ) (rest : List Entry) (p : ℕ) (ws ns ms cs ns' ms' cs' : List ℕ) → MarksHold n rest p ws ns ms cs → MarksHold n rest p ws ns' ms' cs' → MarksHold n rest p ws (ns ++ ns') (ms ++ ms') (cs ++ cs')
both_mark n rest p ws ns ms cs ns' ms' cs' g h = record {
  notes = λ v on. ⊎_elim (λ (t : Contains ns v). g.notes v t) (λ (t : Contains ns' v). h.notes v t) (Contains-append_cases ns ns' v on);
  marks = λ v on. ⊎_elim (λ (t : Contains ms v). g.marks v t) (λ (t : Contains ms' v). h.marks v t) (Contains-append_cases ms ms' v on);
  marks_noted = both_noted ms ns ms' ns' g.marks_noted h.marks_noted;
  clears = λ v on. ⊎_elim (λ (t : Contains cs v). g.clears v t) (λ (t : Contains cs' v). h.clears v t) (Contains-append_cases cs cs' v on);
}

gives : (n id other : ℕ) (d : WriterState) (a : MarkerState) → Joins (IsKept n) id (Writes d) other (Marks a) (Writes (with_returned a d)) Spent
gives n id other d a s r at apart at' =
    let mine = r.seats id (Writes d) at in
    let w : Role = Writes (with_returned a d) in
    let d' : WriterState = with_returned a r.state in
    let there : get_elem? s.views other ≡ some (Marks a) = ⊎_elim (λ (t : (other ≡ id) × (w ≡ Marks a)). absurd (apart t.0)) (λ (t : (other ≢ id) × (get_elem? s.views other ≡ some (Marks a))). t.1) (at_set s.views id other w (Marks a) at') in
    let theirs = r.seats other (Marks a) there in record {
      state = d';
      writer = r.writer;
      writes = record {
        vertices_is = r.writes.vertices_is;
        phases_are = r.writes.phases_are;
        grown = r.writes.grown;
        facts = r.writes.facts;
        plan = r.writes.plan;
        marks = both_mark n (rest_of r.state) r.state.phase s.words r.state.noted r.state.marked r.state.cleared a.noted a.marked a.cleared r.writes.marks theirs.marks;
        begin = r.writes.begin;
      };
      seats = λ j v e. ⊎_elim (λ (t : (j ≡ other) × (Spent ≡ v)). subst (SeatHolds n d' r.writer s.words j) t.1 tt)
          (λ (t : (j ≢ other) × (get_elem? (set s.views id w) j ≡ some v)). ⊎_elim
          (λ (u : (j ≡ id) × (w ≡ v)). subst (SeatHolds n d' r.writer s.words j) u.1 (u.0 ∙ mine.0, ap (with_returned a) mine.1))
          (λ (u : (j ≢ id) × (get_elem? s.views j ≡ some v)). others_returned n a r.state r.writer s.words j v (λ x. u.0 (x ∙ sym mine.0))
          (λ k h x. t.0 (r.own j other k v (Marks a) u.1 there h (ap Some (sym x)))) (r.seats j v u.1))
          (at_set s.views id j w v t.1))
          (at_set (set s.views id w) other j Spent v e);
      own = own_set (set s.views id w) other (Marks a) Spent at' (λ k h. let z : None ≡ Some k = h in cc) (own_set s.views id (Writes d) w at (λ k h. h) r.own);
    }

pub gives_from : (key id other : ℕ) (me you : Sat) → me ≡ (Writes (writer_of me.0), []) → you ≡ (Marks (marker_of you.0), []) → Joins (IsKept key) id me.0 other you.0 (took_back me.0 you.0) Spent
gives_from key id other me you is is' = subst (λ (m : Sat × Sat). Joins (IsKept key) id m.0.0 other m.1.0 (took_back m.0.0 m.1.0) Spent) (λ i. (sym is i, sym is' i)) (gives key id other (writer_of me.0) (marker_of you.0))
