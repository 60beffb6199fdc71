-- How the thresholds fit together.
use Rattle.std.proofs.Common.{ℕ, suc, zero, ◌+◌, ◌-◌, ◌≤◌, ◌<◌, ◌≡◌, inl, inr, Bool, true, false, leb, ltb, get_or, refl, arith}
use Rattle.std.proofs.lemmas.Bool.{cases_Bool, cases_lt, lt-ltb, le-leb}
use Rattle.kc_levels.specs.declared.profile.Profile.{Profile}
use Rattle.kc_levels.specs.declared.profile.Profile.TheVariants.{One, Two}
use Rattle.kc_levels.specs.Thresholds.{low, high, grow, least, height, last_group, group_of}
use Rattle.kc_levels.specs.LevelList.{at_least, IsHeld}
use Rattle.kc_levels.specs.Laws.{SequencesRise, HeightIsLeast, LastGroupIsLeast, TopIsLow, NoneBreaksBoth}
use Rattle.kc_levels.proofs.Least.{least-le}
use Rattle.kc_levels.proofs.Sequences.{low-mono, high-mono, lo-mono, grow-mono, low-high}
use Rattle.kc_levels.proofs.Groups.{grow-height, last_group-pos, high-last_group, top_level-le, group_of-mono}
use Rattle.kc_levels.proofs.AtLeast.{at_least-down}

pub sequences_rise : SequencesRise
sequences_rise = record { low_rises = low-mono; high_rises = high-mono; lo_rises = lo-mono; grow_rises = grow-mono; next_is_reached = low-high }

-- nothing before the least number passes
before_least : (test : ℕ → Bool) (n k : ℕ) → k < least test n → test k ≡ false
before_least test n k h = elim (cases_Bool (test k)) [
  | inl passes ↦ let le : least test n ≤ k = least-le test n k passes in absurd (omega arith)
  | inr fails ↦ fails
]

height_least : (p : Profile) (n j : ℕ) → j < height p n → grow p j ≤ n
unfolding height
height_least p n j h = elim (cases_lt n (grow p j)) [
  | inl over ↦ let e = before_least (λ k. ltb n (grow p k)) n j h in let t : ltb n (grow p j) ≡ true = lt-ltb n (grow p j) over in absurd cc
  | inr within ↦ within
]

pub height_is_least : HeightIsLeast
height_is_least = record { over = grow-height; least = height_least }

last_group_least : (p : Profile) (n i : ℕ) → 1 ≤ i → i < last_group p n → high p i < n - 1
unfolding last_group
last_group_least p n zero some h = absurd (omega arith)
last_group_least p n (suc i) some h =
    let place : 1 + i ≡ suc i = omega arith in
    let e : leb (n - 1) (high p (1 + i)) ≡ false = before_least (λ k. leb (n - 1) (high p (1 + k))) n i (omega arith) in
    elim (cases_lt (high p (suc i)) (n - 1)) [
      | inl below ↦ below
      | inr enough ↦ let t : leb (n - 1) (high p (1 + i)) ≡ true = le-leb (n - 1) (high p (1 + i)) (rw place enough) in absurd cc
    ]

pub last_group_is_least : LastGroupIsLeast
last_group_is_least = record { some = last_group-pos; allows = high-last_group; least = last_group_least }

pub top_is_low : TopIsLow
top_is_low = record { one = top_level-le One; two = top_level-le Two }

-- a vertex that breaks the upper invariant is held on its level
pub none_breaks_both : NoneBreaksBoth
none_breaks_both p g x v graph some breaks = held (get_or x v 0) refl
  where
    held : (l : ℕ) → get_or x v 0 ≡ l → IsHeld p g x v l
    held zero e = tt
    held (suc l) e = elim (cases_lt (high p (group_of p g.vertices (get_or x v 0))) (at_least g x v (get_or x v 0))) [
      | inr meets ↦ absurd (breaks meets)
      | inl many ↦
          let reached : low p (group_of p g.vertices l) ≤ low p (group_of p g.vertices (get_or x v 0)) = low-mono p _ _ (group_of-mono p g.vertices l (get_or x v 0) some (omega arith)) in
          let enough : low p (group_of p g.vertices (get_or x v 0)) ≤ high p (group_of p g.vertices (get_or x v 0)) + 1 = low-high p _ in
          let below : at_least g x v (get_or x v 0) ≤ at_least g x v l = at_least-down g x v l (get_or x v 0) (omega arith) in
          omega arith
    ]
