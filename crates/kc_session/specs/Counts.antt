-- The counts of batches.
use Rattle.std.specs.Prelude.{ℕ, ◌+◌, ◌-◌, ◌^◌, Bool, true, false, List, [], ◌∷◌, length, min}
use Rattle.std.specs.List.{sum_by}
use Rattle.kc_batch.specs.declared.batch.Next.{Next}
use Rattle.kc_history.specs.declared.entries.Entry.{Entry}
use Rattle.kc_groups.specs.declared.plans.PhasePlan.{PhasePlan}
use Rattle.kc_engine.specs.States.{State}
use Rattle.kc_session.specs.States.{Step, is_refused}

-- a count that stops at 4,294,967,295
abbrev pub capped : ℕ → ℕ
capped count = min count (2 ^ 32 - 1)

-- the number of moves in these entries
abbrev pub moves_in : List Entry → ℕ
moves_in entries = sum_by (λ (e : Entry). length e.moves) entries

-- the number of moving groups in these phases
abbrev pub groups_of : List PhasePlan → ℕ
groups_of plans = sum_by (λ (p : PhasePlan). length p.groups) plans

-- the number of moves in these phases
abbrev pub moves_of : List PhasePlan → ℕ
moves_of plans = sum_by (λ (p : PhasePlan). moves_in p.groups) plans

abbrev pub one_if : Bool → ℕ
one_if true = 1
one_if false = 0

-- the number of refused batches
abbrev pub refused_in : State → List Next → List Step → ℕ
refused_in s [] ts = 0
refused_in s (b ∷ bs) [] = 0
refused_in s (b ∷ bs) (t ∷ ts) = one_if (is_refused s b) + refused_in t.state bs ts

-- the number of moving groups, and of moves, in all phases of these steps
abbrev pub all_groups : List Step → ℕ
all_groups steps = sum_by (λ (t : Step). groups_of t.phases) steps

abbrev pub all_moves : List Step → ℕ
all_moves steps = sum_by (λ (t : Step). moves_of t.phases) steps
