-- Phases are shown one after another.
use Rattle.std.proofs.Common.{◌≡◌, ℕ, ◌+◌, ◌<◌, ◌≤◌, List, [], ◌∷◌, ◌++◌, length, get_or, take, drop, suc, refl, sym, ap, ◌∙◌, subst, arith, append_assoc, append-nil}
use Rattle.std.proofs.lemmas.Bool.Decides.{nat_tests}
use Rattle.std.proofs.lemmas.List.{drop_more}
use Rattle.std.proofs.Math.Seq.{take-length}
use Rattle.kc_history.specs.declared.limits.TheConstants.{MAX_PHASE}
use Rattle.kc_groups.specs.declared.plans.PhasePlan.{PhasePlan}
use Rattle.kc_groups.specs.Entries.{entries_of, entries_in}
use Rattle.kc_store.specs.declared.roles.WriterState.{WriterState}
use Rattle.kc_store.specs.States.{MayBegin}
use Rattle.kc_store.specs.private.Showing.{HasShown}
use Rattle.kc_store.specs.Showing.{IsIdle}
use Rattle.kc_store.proofs.lemmas.Shows.{idle_shown}
use Rattle.kc_engine.specs.Showing.{GoOn, AreShown}

-- the first of the phases are shown, and the rest goes on from there
pub record IsOnTheWay (n : ℕ) (plans rest : List PhasePlan) (old new : WriterState) : Type 0 where
  pub vertices : new.vertices ≡ old.vertices
  pub history : new.history ++ entries_in rest ≡ old.history ++ entries_in plans
  pub phase : new.phase + length rest ≡ old.phase + length plans
  pub idle : IsIdle new
  pub goes_on : GoOn n new.phase new.history rest

pub way_begins : (n : ℕ) (plans : List PhasePlan) (s : WriterState) → IsIdle s → GoOn n s.phase s.history plans → IsOnTheWay n plans plans s s
way_begins n plans s idle on = record { vertices = refl; history = refl; phase = refl; idle = idle; goes_on = on }

pub may_begin : (n : ℕ) (plans rest : List PhasePlan) (plan : PhasePlan) (old mid : WriterState) → old.vertices ≡ n → old.phase + length plans ≤ MAX_PHASE → IsOnTheWay n plans (plan ∷ rest) old mid → MayBegin mid plan
may_begin n plans rest plan old mid vertices few h = grind (arith, nat_tests, h.goes_on.0, h.vertices, h.phase, h.idle.published, h.idle.cleared, h.idle.loans)

take_whole : (plan : PhasePlan) → take (length plan.groups + 1) (entries_of plan) ≡ entries_of plan
take_whole plan = let e : length plan.groups + 1 ≡ suc (length plan.groups) = omega arith in ap (λ (k : ℕ). take k (entries_of plan)) e ∙ take-length (entries_of plan)

pub way_more : (n : ℕ) (plans rest : List PhasePlan) (plan : PhasePlan) (old mid new : WriterState) → IsOnTheWay n plans (plan ∷ rest) old mid → HasShown plan (length plan.groups) mid new → IsOnTheWay n plans rest old new
way_more n plans rest plan old mid new h k = grind (arith, nat_tests, take_whole, append_assoc, idle_shown, k.history, k.phase, h.phase, k.vertices, h.vertices, h.history, h.goes_on.1)

pub way_ends : (n : ℕ) (plans rest : List PhasePlan) (old new : WriterState) → rest ≡ [] → IsOnTheWay n plans rest old new → AreShown plans old new
way_ends n plans rest old new none h = grind (arith, nat_tests, append-nil, h.phase, h.vertices, h.history, h.idle)

pub drop_none : (xs : List PhasePlan) → drop 0 xs ≡ xs
drop_none xs = grind (arith, nat_tests)

pub way_at : (n : ℕ) (plans : List PhasePlan) (i : ℕ) (plan : PhasePlan) (old mid : WriterState) → i < length plans → plan ≡ get_or plans i plan → IsOnTheWay n plans (drop i plans) old mid → IsOnTheWay n plans (plan ∷ drop (i + 1) plans) old mid
way_at n plans i plan old mid lt is h = subst (λ (zs : List PhasePlan). IsOnTheWay n plans zs old mid) (drop_more plans i plan lt ∙ ap (λ (q : PhasePlan). q ∷ drop (i + 1) plans) (sym is)) h
