-- Lowering: what a fall keeps, whatever the order of the falls, and that it leads to the one lowered list.
use Rattle.std.proofs.Common.{ℕ, suc, zero, ◌-◌, ◌≤◌, ◌<◌, ◌≡◌, ◌⊎◌, inl, List, length, get_or, set, sym, ◌∙◌, arith}
use Rattle.std.proofs.lemmas.List.{length-set}
use Rattle.std.proofs.lemmas.Grind.{same_number_lists}
use Rattle.std.proofs.lemmas.Bool.Decides.{nat_tests}
use Rattle.kc_graph.specs.Shape.{GraphShape}
use Rattle.kc_levels.specs.declared.profile.Profile.{Profile}
use Rattle.kc_levels.specs.Thresholds.{group_of}
use Rattle.kc_levels.specs.LevelList.{IsBelow, IsHeld, MeetsLower, IsDesired, IsLowerable, IsLowered}
use Rattle.kc_levels.specs.private.LevelList.{IsLowering}
use Rattle.kc_levels.proofs.Sequences.{low-mono}
use Rattle.kc_levels.proofs.Groups.{group_of-mono}
use Rattle.kc_levels.proofs.Places.{changed}
use Rattle.kc_levels.proofs.AtLeast.{at_least-mono, at_least-down}

-- where no level fell, v is still held
pub held_mono : (p : Profile) (g : GraphShape) (z y : List ℕ) (v l : ℕ) → length z ≡ g.vertices → IsBelow g.vertices z y → IsHeld p g z v l → IsHeld p g y v l
held_mono p g z y v zero long below held = tt
held_mono p g z y v (suc l) long below held = omega (arith, held, at_least-mono g z y v l long below)

-- what is held on a level is held on each lower one
pub held_down : (p : Profile) (g : GraphShape) (x : List ℕ) (v k l : ℕ) → 1 ≤ g.vertices → k ≤ l → IsHeld p g x v l → IsHeld p g x v k
held_down p g x v zero l some le held = tt
held_down p g x v (suc k) zero some le held = absurd (omega arith)
held_down p g x v (suc k) (suc l) some le held =
    omega (arith, held, at_least-down g x v k l (omega arith), low-mono p (group_of p g.vertices k) (group_of p g.vertices l) (group_of-mono p g.vertices k l some (omega arith)))

pub held_or_not : (p : Profile) (g : GraphShape) (y : List ℕ) (v l : ℕ) → IsHeld p g y v l ⊎ ¬ (IsHeld p g y v l)
held_or_not p g y v zero = inl tt
held_or_not p g y v (suc l) = grind (arith, nat_tests)

-- the list that lowering begins with
pub lowering_first : (p : Profile) (g : GraphShape) (x : List ℕ) → length x ≡ g.vertices → IsLowering p g x x
lowering_first p g x long = record { sized = long; under = λ v h. omega arith; greatest = λ z r. r.under }

-- no level above l, up to its own, holds v
pub record IsOver (p : Profile) (g : GraphShape) (y : List ℕ) (v l : ℕ) : Type 0 where
  pub under : l ≤ get_or y v 0
  pub above : (k : ℕ) → l < k → k ≤ get_or y v 0 → ¬ (IsHeld p g y v k)

-- a level that no lowerable list passes
stays_under : (p : Profile) (g : GraphShape) (x y z : List ℕ) (v l : ℕ) → IsLowering p g x y → v < g.vertices → IsOver p g y v l → IsLowerable p g x z → get_or z v 0 ≤ l
stays_under p g x y z v l r h over lowerable = grind (arith, nat_tests, held_mono, over.above, r.greatest, lowerable.sized, lowerable.lower)

-- a vertex falls to its desired level
pub lowering_more : (p : Profile) (g : GraphShape) (x y : List ℕ) (v l : ℕ) → IsLowering p g x y → v < g.vertices → IsDesired p g y v l → IsLowering p g x (set y v l)
lowering_more p g x y v l r h d = record {
  sized = length-set y v l ∙ r.sized;
  under = λ w at. changed y v l inside (λ u k. k ≤ get_or x u 0) w (omega (arith, d.under, r.under v h)) (λ ne. r.under w at);
  greatest = λ z lowerable w at. changed y v l inside (λ u k. get_or z u 0 ≤ k) w (stays_under p g x y z v l r h (record { under = d.under; above = d.above }) lowerable) (λ ne. r.greatest z lowerable w at);
}
  where
    inside : v < length y
    inside = omega (arith, r.sized)

-- lowering ends where each vertex meets Lower
pub lowering_done : (p : Profile) (g : GraphShape) (x y : List ℕ) → IsLowering p g x y → ((v : ℕ) → v < g.vertices → MeetsLower p g y v) → IsLowered p g x y
lowering_done p g x y r lower = record { lowerable = record { sized = r.sized; under = r.under; lower = lower }; greatest = r.greatest }

-- two lists lowered from one are one
pub lowered_same : (p : Profile) (g : GraphShape) (x y z : List ℕ) → IsLowered p g x y → IsLowered p g x z → y ≡ z
lowered_same p g x y z r s =
    same_number_lists y z (r.lowerable.sized ∙ sym s.lowerable.sized)
    (λ v h. let at : v < g.vertices = omega (arith, r.lowerable.sized) in omega (arith, r.greatest z s.lowerable v at, s.greatest y r.lowerable v at))
