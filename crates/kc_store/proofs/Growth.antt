-- How the history grows: whole phases, and then the open one.
use Rattle.std.proofs.Common.{◌≡◌, ℕ, zero, suc, ◌+◌, List, [], ◌∷◌, ◌++◌, take, length, Some, None, sym, ap, ◌∙◌, subst, inr, ⊎_elim, arith, append_assoc, append-nil}
use Rattle.std.specs.List.{slice_get}
use Rattle.std.proofs.lemmas.Bool.Decides.{nat_tests}
use Rattle.std.proofs.Math.Seq.{take-length}
use Rattle.std.proofs.lemmas.List.{length_push}
use Rattle.kc_history.specs.declared.entries.Entry.{Entry}
use Rattle.kc_history.specs.private.Ends.{begins_phase, phases_in}
use Rattle.kc_groups.specs.declared.plans.PhasePlan.{PhasePlan}
use Rattle.kc_groups.specs.Entries.{entries_of, entries_in}
use Rattle.kc_store.specs.Plans.{IsFormed}
use Rattle.kc_store.specs.States.{empty_plan}
use Rattle.kc_store.specs.private.Rule.{AllFormed, IsGrown}

phases_snoc : (es : List Entry) (e : Entry) → phases_in (es ++ e ∷ []) ≡ phases_in es + begins_phase e.label
phases_snoc [] e = omega arith
phases_snoc (x ∷ xs) e = let h = phases_snoc xs e in omega (arith, h)

pub phases_begun : (es : List Entry) (e : Entry) (phase before : ℕ) → e.label ≡ None → phase ≡ before + phases_in es → phase + 1 ≡ before + phases_in (es ++ e ∷ [])
phases_begun es e phase before none h = let t = phases_snoc es e in let q : begins_phase e.label ≡ 1 = ap begins_phase none in omega (arith, h, t, q)

pub phases_stay : (es : List Entry) (e : Entry) (l phase before : ℕ) → e.label ≡ Some l → phase ≡ before + phases_in es → phase ≡ before + phases_in (es ++ e ∷ [])
phases_stay es e l phase before some h = let t = phases_snoc es e in let q : begins_phase e.label ≡ 0 = ap begins_phase some in omega (arith, h, t, q)

take_snoc : (es : List Entry) (k : ℕ) (e : Entry) → slice_get es k ≡ Some e → take (suc k) es ≡ take k es ++ e ∷ []
take_snoc [] k e is = cc
take_snoc (x ∷ xs) zero e is = let s : x ≡ e = cc in ap (λ (z : Entry). z ∷ []) s
take_snoc (x ∷ xs) (suc k) e is = ap (λ (zs : List Entry). x ∷ zs) (take_snoc xs k e is)

pub take_more : (plan : PhasePlan) (k : ℕ) (e : Entry) → slice_get plan.groups k ≡ Some e → take (k + 1 + 1) (entries_of plan) ≡ take (k + 1) (entries_of plan) ++ e ∷ []
take_more plan k e is = grind (arith, nat_tests, take_snoc)

entries_snoc : (plans : List PhasePlan) (plan : PhasePlan) → entries_in (plans ++ plan ∷ []) ≡ entries_in plans ++ entries_of plan
entries_snoc [] plan = append-nil (entries_of plan)
entries_snoc (x ∷ xs) plan = ap (λ (zs : List Entry). entries_of x ++ zs) (entries_snoc xs plan) ∙ sym (append_assoc (entries_of x) (entries_in xs) (entries_of plan))

take_all : (plan : PhasePlan) (count : ℕ) → count ≡ length plan.groups → take (count + 1) (entries_of plan) ≡ entries_of plan
take_all plan count all = grind (arith, nat_tests, take-length)

-- the last plan's phase
last_phase : (n before : ℕ) (plans : List PhasePlan) (plan : PhasePlan) → AllFormed n before (plans ++ plan ∷ []) → plan.quiet.phase ≡ before + length plans + 1
last_phase n before [] plan all = let h = all.0.phase_is in omega (arith, h)
last_phase n before (x ∷ xs) plan all = let h = last_phase n (before + 1) xs plan all.1 in omega (arith, h)

-- one more plan, of the phase after the last
formed_snoc : (n before phase : ℕ) (plans : List PhasePlan) (plan : PhasePlan) → AllFormed n before plans → phase ≡ before + length plans + 1 → IsFormed n phase plan → AllFormed n before (plans ++ plan ∷ [])
formed_snoc n before phase [] plan all is formed = let s : phase ≡ before + 1 = omega (arith, is) in (subst (λ (p : ℕ). IsFormed n p plan) s formed, tt)
formed_snoc n before phase (x ∷ xs) plan all is formed = (all.0, formed_snoc n (before + 1) phase xs plan all.1 (omega (arith, is)) formed)

-- the next phase begins
pub grown_begun : (n before phase : ℕ) (log : List Entry) (old new : PhasePlan) (count : ℕ) → count ≡ length old.groups → old.quiet.phase ≡ phase → IsFormed n (phase + 1) new → IsGrown n before log old count → IsGrown n before (log ++ new.quiet ∷ []) new 0
grown_begun n before phase log old new count all now formed h = ⊎_elim
    (λ (t : (log ≡ []) × (old ≡ empty_plan before) × (count ≡ 0)).
    let first : old.quiet.phase ≡ before = ap (λ (p : PhasePlan). p.quiet.phase) t.1 in
    inr ([], formed_snoc n before (phase + 1) [] new tt (omega (arith, first, now)) formed, ap (λ (zs : List Entry). zs ++ new.quiet ∷ []) t.0))
    (λ (t : (whole : List PhasePlan) × AllFormed n before (whole ++ old ∷ []) × (log ≡ entries_in whole ++ take (count + 1) (entries_of old))).
    let last = last_phase n before t.0 old t.1 in
    let more = length_push t.0 old in
    inr (
      t.0 ++ old ∷ [],
      formed_snoc n before (phase + 1) (t.0 ++ old ∷ []) new t.1 (omega (arith, last, now, more)) formed,
      ap (λ (zs : List Entry). zs ++ new.quiet ∷ []) (t.2 ∙ (ap (λ (zs : List Entry). entries_in t.0 ++ zs) (take_all old count all) ∙ sym (entries_snoc t.0 old))),
    ))
    h

-- the next group is published
pub grown_published : (n before : ℕ) (log : List Entry) (plan : PhasePlan) (count : ℕ) (e : Entry) → slice_get plan.groups count ≡ Some e → IsGrown n before log plan count → IsGrown n before (log ++ e ∷ []) plan (count + 1)
grown_published n before log plan count e is h = grind (arith, nat_tests, ⊎_elim, append_assoc, take_more)
