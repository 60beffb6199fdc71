-- Markers are lent, work side by side, and are given back.
use Rattle.std.proofs.Common.{◌≡◌, ◌≢◌, ◌⊎◌, ℕ, ◌+◌, ◌*◌, ◌<◌, ◌≤◌, List, [], ◌∷◌, ◌++◌, length, get_or, All, Contains, refl, sym, ap, ◌∙◌, subst, arith, ⊎_elim, append-nil, Bool, true, false, nat_eq, nat_lt, if◌then◌else◌}
use Rattle.std.proofs.lemmas.List.Elements.{All-nil, All-cons, All-head, All-tail, All-push, All-weaker, Contains-get_or, Contains-push, Contains-append_left, Contains-append_right}
use Rattle.std.proofs.lemmas.Bool.Decides.{nat_tests}
use Rattle.std.proofs.lemmas.Bool.{le-ltb, lt-ltb}
use mathlib.Core.Logic.{dite}
use native.Mathlib.Decide.{dec_le}
use Rattle.atomic_table.specs.Seated.{TableId}
use Rattle.kc_groups.specs.declared.plans.PhasePlan.{PhasePlan}
use Rattle.kc_groups.specs.WellFormed.{vertex_at}
use Rattle.kc_store.specs.declared.roles.Loan.{Loan}
use Rattle.kc_store.specs.declared.roles.WriterState.{WriterState}
use Rattle.kc_store.specs.Seats.{MarkerShape}
use Rattle.kc_store.specs.States.{loan_of, with_loan, without_loan, with_returned, marker_for}
use Rattle.kc_store.proofs.lemmas.Shows.{lent_marked, lent_cleared}
use Rattle.kc_engine.specs.private.Lending.{IsHeld, IsLentBy, AreLent, is_late, IsDue, MayDo, HasDoneRange, AreDone, all_returned, done_in, HasDoneGroup}
use Rattle.kc_engine.specs.declared.showing.side_by_side.Task.{Task}
use Rattle.kc_engine.specs.declared.showing.side_by_side.Task.TheVariants.{Mark, Clear}

cases_of : {A : Type 0} → (x y : A) (xs : List A) → Contains (x ∷ xs) y → (x ≡ y) ⊎ Contains xs y
cases_of x y xs on = grind (arith, nat_tests, on.0, on.1, on.2)

-- the next range is lent
pub lent_more : (table : TableId) (g from to : ℕ) (old mid new : WriterState) (ms ns : List MarkerShape) (m : MarkerShape) → AreLent table g from old mid ms → from ≤ to → new ≡ with_loan g from to mid → m ≡ record { table = table; state = marker_for g from to mid } → ns ≡ ms ++ m ∷ []
    → AreLent table g to old new ns
lent_more table g from to old mid new ms ns m h later is made longer =
    let n : MarkerShape = record { table = table; state = marker_for g from to mid } in
    subst (λ (z : WriterState × List MarkerShape). AreLent table g to old z.0 z.1) (λ i. (sym is i, sym (longer ∙ ap (λ (x : MarkerShape). ms ++ x ∷ []) made) i)) (next n refl)
  where
    next : (n : MarkerShape) → n ≡ record { table = table; state = marker_for g from to mid } → AreLent table g to old (with_loan g from to mid) (ms ++ n ∷ [])
    next n e = record {
      same = ap (λ (s : WriterState). record s { loans = loan_of g from to mid ∷ mid.loans; lent = mid.lent + 1 }) h.same;
      held = All-cons (IsHeld (ms ++ n ∷ [])) (loan_of g from to mid) mid.loans (n, Contains-push ms n, ap (λ (z : MarkerShape). z.state.loan.number) e)
          (All-weaker (IsHeld ms) (IsHeld (ms ++ n ∷ [])) (λ l q. (q.0, Contains-append_left ms (n ∷ []) q.0 q.1, q.2)) mid.loans h.held);
      before = All-cons (λ (l : Loan). l.to ≤ to) (loan_of g from to mid) mid.loans (omega arith)
          (All-weaker (λ (l : Loan). l.to ≤ from) (λ (l : Loan). l.to ≤ to) (λ l q. omega (arith, q, later)) mid.loans h.before);
      each = All-push (IsLentBy table g old) ms n h.each record {
        table_is = ap (λ (z : MarkerShape). z.table) e;
        plan_is = ap (λ (z : MarkerShape). z.state.plan) e ∙ ap (λ (s : WriterState). s.plan) h.same;
        group_is = ap (λ (z : MarkerShape). z.state.loan.group) e;
        published_is = ap (λ (z : MarkerShape). z.state.loan.published) e ∙ ap (λ (s : WriterState). nat_lt g s.published) h.same;
      };
      covered = λ i lt. dite (dec_le from i)
          (λ le. (n, Contains-push ms n, subst (λ (z : MarkerShape). z.state.loan.from ≤ i) (sym e) le, subst (λ (z : MarkerShape). i < z.state.loan.to) (sym e) lt))
          (λ o. let c = h.covered i (omega (arith, o)) in (c.0, Contains-append_left ms (n ∷ []) c.0 c.1, c.2, c.3));
    }

pub next_place : (k size : ℕ) → (k + 1) * size ≡ k * size + size
next_place k size = omega arith

due_test : (task : Task) (g p : ℕ) → IsDue task g p → nat_lt g p ≡ is_late task
due_test task g p le = grind (arith, nat_tests, le-ltb, lt-ltb)

pub may_do : (table other : TableId) (plan : PhasePlan) (task : Task) (g end : ℕ) (old new : WriterState) (ms : List MarkerShape) → table ≡ other → plan ≡ old.plan → IsDue task g old.published → AreLent table g end old new ms → All (MayDo other plan task) ms
may_do table other plan task g end old new ms t is due h k d lt = grind (arith, nat_tests, due_test, h.each)

-- what each marker became
partner : (R : MarkerShape → MarkerShape → Type 0) (ms ns : List MarkerShape) (m : MarkerShape) → length ns ≡ length ms → ((i : ℕ) (d : MarkerShape) → i < length ms → R (get_or ms i d) (get_or ns i d)) → Contains ms m → (n : MarkerShape) × Contains ns n × R m n
partner R ms ns m long each on =
    (get_or ns on.0 m, Contains-get_or ns on.0 m (omega (arith, on.1, long)), subst (λ (z : MarkerShape). R z (get_or ns on.0 m)) on.2 (each on.0 m on.1))

held_on : (R : MarkerShape → MarkerShape → Type 0) (ms ns : List MarkerShape) (ls : List Loan) → ((m n : MarkerShape) → R m n → n.state.loan.number ≡ m.state.loan.number) → length ns ≡ length ms
    → ((i : ℕ) (d : MarkerShape) → i < length ms → R (get_or ms i d) (get_or ns i d)) → All (IsHeld ms) ls → All (IsHeld ns) ls
held_on R ms ns ls number long each h = All-weaker (IsHeld ms) (IsHeld ns) (λ l q. let p = partner R ms ns q.0 long each q.1 in (p.0, p.1, number q.0 p.0 p.2 ∙ q.2)) ls h

pub done_tables : (table other : TableId) (task : Task) (g end : ℕ) (old new : WriterState) (ms ns : List MarkerShape) → table ≡ other → AreLent table g end old new ms → AreDone task ms ns → All (λ (m : MarkerShape). m.table ≡ other) ns
done_tables table other task g end old new ms ns t h a k d lt = let long = a.long in let inside : k < length ms = omega (arith, lt, long) in (a.each k d inside).table ∙ ((h.each k d inside).table_is ∙ t)

-- a marker that did its task has the loan that it had
same_number : (task : Task) (m n : MarkerShape) → HasDoneRange task m n → n.state.loan.number ≡ m.state.loan.number
same_number task m n r = grind (arith, nat_tests)

-- giving back
pub returned_last : (ms : List MarkerShape) (m : MarkerShape) (s : WriterState) → all_returned (ms ++ m ∷ []) s ≡ all_returned ms (with_returned m.state s)
returned_last [] m s = refl
returned_last (x ∷ xs) m s = ap (with_returned x.state) (returned_last xs m s)

returned_same : (ms : List MarkerShape) (s : WriterState) → all_returned ms s ≡ record s { noted = (all_returned ms s).noted; marked = (all_returned ms s).marked; cleared = (all_returned ms s).cleared; loans = (all_returned ms s).loans }
returned_same [] s = refl
returned_same (m ∷ ms) s = ap (with_returned m.state) (returned_same ms s)

returned_marked : (ms : List MarkerShape) (s : WriterState) (m : MarkerShape) (v : ℕ) → Contains ms m → Contains m.state.marked v → Contains (all_returned ms s).marked v
returned_marked [] s m v on h = let lt = on.1 in absurd (omega (arith, lt))
returned_marked (x ∷ xs) s m v on h = ⊎_elim
    (λ (e : x ≡ m). Contains-append_right (all_returned xs s).marked x.state.marked v (subst (λ (z : MarkerShape). Contains z.state.marked v) (sym e) h))
    (λ (r : Contains xs m). Contains-append_left (all_returned xs s).marked x.state.marked v (returned_marked xs s m v r h))
    (cases_of x m xs on)

returned_cleared : (ms : List MarkerShape) (s : WriterState) (m : MarkerShape) (v : ℕ) → Contains ms m → Contains m.state.cleared v → Contains (all_returned ms s).cleared v
returned_cleared [] s m v on h = let lt = on.1 in absurd (omega (arith, lt))
returned_cleared (x ∷ xs) s m v on h = ⊎_elim
    (λ (e : x ≡ m). Contains-append_right (all_returned xs s).cleared x.state.cleared v (subst (λ (z : MarkerShape). Contains z.state.cleared v) (sym e) h))
    (λ (r : Contains xs m). Contains-append_left (all_returned xs s).cleared x.state.cleared v (returned_cleared xs s m v r h))
    (cases_of x m xs on)

returned_kept : (ms : List MarkerShape) (s : WriterState) (v : ℕ) → Contains s.cleared v → Contains (all_returned ms s).cleared v
returned_kept [] s v h = h
returned_kept (x ∷ xs) s v h = Contains-append_left (all_returned xs s).cleared x.state.cleared v (returned_kept xs s v h)

held_other : (m : MarkerShape) (rs : List MarkerShape) (l : Loan) → l.number ≢ m.state.loan.number → IsHeld (m ∷ rs) l → IsHeld rs l
held_other m rs l o h = grind (arith, nat_tests, ⊎_elim, cases_of, h.0, h.2, h.1)

held_fewer : (m : MarkerShape) (rs : List MarkerShape) (ls : List Loan) → All (IsHeld (m ∷ rs)) ls → All (IsHeld rs) (without_loan m.state.loan.number ls)
held_fewer m rs [] h = All-nil (IsHeld rs)
held_fewer m rs (x ∷ xs) h = go (nat_eq x.number m.state.loan.number) refl (held_fewer m rs xs (All-tail (IsHeld (m ∷ rs)) x xs h))
  where
    go : (b : Bool) → nat_eq x.number m.state.loan.number ≡ b → All (IsHeld rs) (without_loan m.state.loan.number xs) → All (IsHeld rs) (without_loan m.state.loan.number (x ∷ xs))
    go true t r = subst (λ b. All (IsHeld rs) (if b then without_loan m.state.loan.number xs else x ∷ without_loan m.state.loan.number xs)) (sym t) r
    go false t r =
        let differ : x.number ≢ m.state.loan.number = (λ e. grind (arith, nat_tests, t, e)) in
        subst (λ b. All (IsHeld rs) (if b then without_loan m.state.loan.number xs else x ∷ without_loan m.state.loan.number xs)) (sym t)
        (All-cons (IsHeld rs) x (without_loan m.state.loan.number xs) (held_other m rs x differ (All-head (IsHeld (m ∷ rs)) x xs h)) r)

held_moved : (m : MarkerShape) (ms rs : List MarkerShape) (l : Loan) → IsHeld (m ∷ (ms ++ rs)) l → IsHeld (ms ++ m ∷ rs) l
held_moved m [] rs l h = h
held_moved m (x ∷ xs) rs l h = ⊎_elim
    (λ (e : m ≡ h.0). let t = held_moved m xs rs l (m, (0, omega arith, refl), ap (λ (z : MarkerShape). z.state.loan.number) e ∙ h.2) in (t.0, Contains-append_right (x ∷ []) (xs ++ m ∷ rs) t.0 t.1, t.2))
    (λ (r : Contains (x ∷ (xs ++ rs)) h.0). ⊎_elim
    (λ (f : x ≡ h.0). (x, (0, omega arith, refl), ap (λ (z : MarkerShape). z.state.loan.number) f ∙ h.2))
    (λ (q : Contains (xs ++ rs) h.0). let t = held_moved m xs rs l (h.0, Contains-append_right (m ∷ []) (xs ++ rs) h.0 q, h.2) in (t.0, Contains-append_right (x ∷ []) (xs ++ m ∷ rs) t.0 t.1, t.2))
    (cases_of x h.0 (xs ++ rs) r))
    (cases_of m h.0 (x ∷ (xs ++ rs)) h.1)

returned_held : (ms rs : List MarkerShape) (s : WriterState) → All (IsHeld (ms ++ rs)) s.loans → All (IsHeld rs) (all_returned ms s).loans
returned_held [] rs s h = h
returned_held (m ∷ ms) rs s h = held_fewer m rs (all_returned ms s).loans (returned_held ms (m ∷ rs) s (All-weaker (IsHeld (m ∷ (ms ++ rs))) (IsHeld (ms ++ m ∷ rs)) (held_moved m ms rs) s.loans h))

none_held : (ls : List Loan) → All (IsHeld []) ls → ls ≡ []
none_held [] h = refl
none_held (x ∷ xs) h = let q = All-head (IsHeld []) x xs h in let lt = q.1.1 in absurd (omega (arith, lt))

returned_none : (ms : List MarkerShape) (s : WriterState) → All (IsHeld ms) s.loans → (all_returned ms s).loans ≡ []
returned_none ms s h = none_held (all_returned ms s).loans (returned_held ms [] s (subst (λ (zs : List MarkerShape). All (IsHeld zs) s.loans) (sym (append-nil ms)) h))

returned_over : (table : TableId) (g count : ℕ) (old mid : WriterState) (ms ns : List MarkerShape) → AreLent table g count old mid ms
    → all_returned ns mid ≡ record old { noted = (all_returned ns mid).noted; marked = (all_returned ns mid).marked; cleared = (all_returned ns mid).cleared; loans = (all_returned ns mid).loans; lent = (all_returned ns mid).lent }
returned_over table g count old mid ms ns h = grind (arith, nat_tests, returned_same, h.same)

-- what one of the markers did counts once all are given back
returned_done : (task : Task) (ns : List MarkerShape) (s : WriterState) (m n : MarkerShape) (i : ℕ) → Contains ns n → HasDoneRange task m n → m.state.loan.from ≤ i → i < m.state.loan.to → Contains (done_in task (all_returned ns s)) (vertex_at m.state.plan m.state.loan.group i)
returned_done Mark ns s m n i on r from to = returned_marked ns s n (vertex_at m.state.plan m.state.loan.group i) on (lent_marked m.state.loan.to i m.state n.state r.done from to)
returned_done Clear ns s m n i on r from to = returned_cleared ns s n (vertex_at m.state.plan m.state.loan.group i) on (lent_cleared m.state.loan.to i m.state n.state r.done from to)

pub group_done : (table : TableId) (task : Task) (g count : ℕ) (old mid new : WriterState) (ms ns : List MarkerShape) → AreLent table g count old mid ms → AreDone task ms ns → new ≡ all_returned ns mid → HasDoneGroup task g count old new
group_done table task g count old mid new ms ns h a is = subst (HasDoneGroup task g count old) (sym is) record {
  same = returned_over table g count old mid ms ns h;
  loans = returned_none ns mid (held_on (HasDoneRange task) ms ns mid.loans (same_number task) a.long a.each h.held);
  kept = λ v on. returned_kept ns mid v (subst (λ (s : WriterState). Contains s.cleared v) (sym h.same) on);
  each = λ i lt.
      let c = h.covered i lt in
      let p = partner (HasDoneRange task) ms ns c.0 a.long a.each c.1 in
      let b = lent_of c.0 c.1 in
      subst (λ (z : PhasePlan × ℕ). Contains (done_in task (all_returned ns mid)) (vertex_at z.0 z.1 i)) (λ t. (b.plan_is t, b.group_is t)) (returned_done task ns mid c.0 p.0 i p.1 p.2 c.2 c.3);
}
  where
    lent_of : (m : MarkerShape) → Contains ms m → IsLentBy table g old m
    lent_of m on = subst (IsLentBy table g old) on.2 (h.each on.0 m on.1)
