-- Moves and groups by their places.
use Rattle.std.proofs.Common.{◌≡◌, ℕ, zero, suc, ◌+◌, ◌-◌, ◌<◌, ◌≤◌, Bool, true, false, List, [], ◌∷◌, drop, Option, Some, None, if◌then◌else◌, nat_eq, sym, refl, ap, ◌∙◌, subst, ⊎_elim, arith}
use Rattle.std.proofs.lemmas.Bool.Decides.{nat_tests}
use Rattle.std.specs.List.{slice_get}
use Rattle.std.proofs.lemmas.Option.{cond_some}
use Rattle.kc_history.specs.declared.entries.Entry.{Entry}
use Rattle.kc_history.specs.Ends.{or_else, last_move}
use Rattle.kc_history.specs.private.Ends.{is_label}
use Rattle.kc_groups.specs.declared.plans.PhasePlan.{PhasePlan}
use Rattle.kc_store.specs.Plans.{Move, AreDistinct, IsFormed}
use Rattle.kc_store.specs.private.Plans.{group_of}
use Rattle.kc_store.specs.private.Rule.{Waits, AllWait, AreApart, ApartFrom, AllApart, IsUnmoved}
use Rattle.kc_store.proofs.Points.{group_here, label_found}
use Rattle.kc_store.proofs.Publishing.{maybe_cases}

pub move_found : (v : ℕ) (ms : List Move) (m : Move) → last_move v ms ≡ Some m → (i : ℕ) × (slice_get ms i ≡ Some m) × (m.vertex ≡ v)
move_found v [] m is = cc
move_found v (x ∷ xs) m is = go (last_move v xs) refl (move_found v xs m)
  where
    go : (o : Option Move) → last_move v xs ≡ o → (last_move v xs ≡ Some m → (i : ℕ) × (slice_get xs i ≡ Some m) × (m.vertex ≡ v)) → (i : ℕ) × (slice_get (x ∷ xs) i ≡ Some m) × (m.vertex ≡ v)
    go (Some y) t on =
        let h : Some y ≡ Some m = sym (ap (λ o. or_else o (if nat_eq x.vertex v then Some x else None)) t) ∙ is in
        let r = on (t ∙ h) in (suc r.0, r.1, r.2)
    go None t on =
        let h : (if nat_eq x.vertex v then Some x else None) ≡ Some m = sym (ap (λ o. or_else o (if nat_eq x.vertex v then Some x else None)) t) ∙ is in
        let s = cond_some (nat_eq x.vertex v) x m h in
        let e : x.vertex ≡ v = grind (arith, nat_tests, s.0) in (0, ap Some s.1, ap (λ (z : Move). z.vertex) (sym s.1) ∙ e)

pub move_in_place : (ms : List Move) (i : ℕ) (m : Move) → AreDistinct ms → slice_get ms i ≡ Some m → last_move m.vertex ms ≡ Some m
move_in_place [] i m d is = cc
move_in_place (x ∷ xs) zero m d is = grind (arith, nat_tests, nat_eq, d.0)
move_in_place (x ∷ xs) (suc i) m d is = ap (λ o. or_else o (if nat_eq x.vertex m.vertex then Some x else None)) (move_in_place xs i m d.1 is)

pub apart_at : (e : Entry) (es : List Entry) (k : ℕ) (f : Entry) → ApartFrom e es → slice_get es k ≡ Some f → AreApart e f
apart_at e [] k f all is = cc
apart_at e (x ∷ xs) zero f all is = let s : x ≡ f = cc in subst (AreApart e) s all.0
apart_at e (x ∷ xs) (suc k) f all is = apart_at e xs k f all.1 is

pub group_found : (es : List Entry) (k : ℕ) (e : Entry) (g : ℕ) → AllApart es → slice_get es k ≡ Some e → e.label ≡ Some g → group_of g es ≡ Some e
group_found [] k e g all is l = cc
group_found (x ∷ xs) zero e g all is l = let s : x ≡ e = cc in group_here x xs g (ap (λ (z : Entry). z.label) s ∙ l) ∙ ap Some s
group_found (x ∷ xs) (suc k) e g all is l = grind (arith, nat_tests, group_found xs k e g all.1 is l, apart_at, label_found, all.1, all.0)

pub group_index : (g : ℕ) (es : List Entry) (f : Entry) → group_of g es ≡ Some f → (j : ℕ) × (slice_get es j ≡ Some f)
group_index g [] f is = cc
group_index g (x ∷ xs) f is = go (is_label g x.label) refl (group_index g xs f)
  where
    go : (b : Bool) → is_label g x.label ≡ b → (group_of g xs ≡ Some f → (j : ℕ) × (slice_get xs j ≡ Some f)) → (j : ℕ) × (slice_get (x ∷ xs) j ≡ Some f)
    go true t on = (0, sym (ap (λ b. if b then Some x else group_of g xs) t) ∙ is)
    go false t on = let r = on (sym (ap (λ b. if b then Some x else group_of g xs) t) ∙ is) in (suc r.0, r.1)

apart_from_all : (e : Entry) (es : List Entry) → ((k : ℕ) (f : Entry) → slice_get es k ≡ Some f → AreApart e f) → ApartFrom e es
apart_from_all e [] h = tt
apart_from_all e (x ∷ xs) h = (h 0 x refl, apart_from_all e xs (λ k f is. h (suc k) f is))

pub apart_all : (es : List Entry) → ((k l : ℕ) (e f : Entry) → k < l → slice_get es k ≡ Some e → slice_get es l ≡ Some f → AreApart e f) → AllApart es
apart_all [] h = tt
apart_all (x ∷ xs) h = (apart_from_all x xs (λ k f is. h 0 (suc k) x f (omega arith) refl is), apart_all xs (λ k l e f lt a b. h (suc k) (suc l) e f (omega (arith, lt)) a b))

pub apart_formed : (n p : ℕ) (plan : PhasePlan) → IsFormed n p plan → AllApart plan.groups
apart_formed n p plan formed = apart_all plan.groups (λ k l e f lt a b.
    let x = formed.groups k e a in let y = formed.groups l f b in let z = formed.ascend k l e f lt a b in record {
      labels = λ same.
          let s : Some x.label ≡ Some y.label = sym x.label_is ∙ (same ∙ y.label_is) in
          let t : x.label ≡ y.label = cc in
          let u = z.labels x.label y.label x.label_is y.label_is in absurd (omega (arith, t, u));
      vertices = z.vertices;
    })

pub waits_all : (n p : ℕ) (log es : List Entry) → ((k : ℕ) (e : Entry) → slice_get es k ≡ Some e → Waits n p log e) → AllWait n p log es
waits_all n p log [] h = tt
waits_all n p log (x ∷ xs) h = (h 0 x refl, waits_all n p log xs (λ k e is. h (suc k) e is))

pub drop_get : (k : ℕ) (es : List Entry) (i : ℕ) → slice_get (drop k es) i ≡ slice_get es (k + i)
drop_get zero es i = let h : i ≡ 0 + i = omega arith in ap (slice_get es) h
drop_get (suc k) [] i = refl
drop_get (suc k) (x ∷ xs) i = let h : suc (k + i) ≡ suc k + i = omega arith in drop_get k xs i ∙ ap (slice_get (x ∷ xs)) h

drop_suc : (k : ℕ) (es : List Entry) (e : Entry) → slice_get es k ≡ Some e → drop k es ≡ e ∷ drop (suc k) es
drop_suc k [] e is = cc
drop_suc zero (x ∷ xs) e is = let s : x ≡ e = cc in ap (λ (z : Entry). z ∷ xs) s
drop_suc (suc k) (x ∷ xs) e is = drop_suc k xs e is

pub drop_cons : (k : ℕ) (es : List Entry) (e : Entry) → slice_get es k ≡ Some e → drop k es ≡ e ∷ drop (k + 1) es
drop_cons k es e is = let h : suc k ≡ k + 1 = omega arith in drop_suc k es e is ∙ ap (λ (z : ℕ). e ∷ drop z es) h

pub apart_drop : (k : ℕ) (es : List Entry) → AllApart es → AllApart (drop k es)
apart_drop zero es all = all
apart_drop (suc k) [] all = tt
apart_drop (suc k) (x ∷ xs) all = apart_drop k xs all.1

pub free_done : (n p done k v : ℕ) (plan : PhasePlan) (e : Entry) (m : Move) → IsFormed n p plan → k < done → slice_get plan.groups k ≡ Some e → last_move v e.moves ≡ Some m → IsUnmoved (drop done plan.groups) v
free_done n p done k v plan e m formed lt is moves g f group =
    let j = group_index g (drop done plan.groups) f group in
    let there : slice_get plan.groups (done + j.0) ≡ Some f = sym (drop_get done plan.groups j.0) ∙ j.1 in
    let before = formed.ascend k (done + j.0) e f (omega (arith, lt)) is there in
    ⊎_elim (λ (none : last_move v f.moves ≡ None). none)
    (λ (s : (b : Move) × (last_move v f.moves ≡ Some b)). let n : None ≡ Some m = sym (before.vertices v s.0 s.1) ∙ moves in cc)
    (maybe_cases (last_move v f.moves))

pub group_waits : (n p done k g : ℕ) (plan : PhasePlan) (e : Entry) → IsFormed n p plan → done ≤ k → slice_get plan.groups k ≡ Some e → e.label ≡ Some g → group_of g (drop done plan.groups) ≡ Some e
group_waits n p done k g plan e formed le is l =
    let i : ℕ = k - done in
    let same : done + i ≡ k = omega (arith, le) in
    group_found (drop done plan.groups) i e g (apart_drop done plan.groups (apart_formed n p plan formed)) (drop_get done plan.groups i ∙ (ap (slice_get plan.groups) same ∙ is)) l
