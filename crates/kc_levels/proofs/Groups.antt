-- The height, the last group, the top and the group of a level.
use Rattle.std.proofs.Common.{ℕ, suc, zero, ◌+◌, ◌-◌, ◌*◌, ◌/◌, ◌^◌, ◌≤◌, ◌<◌, ◌≡◌, inl, inr, ltb, leb, ap, arith, add-zero, one-add}
use Rattle.std.proofs.lemmas.Bool.{cases_lt, lt-ltb, le-ltb, ltb-true, le-leb, lt-leb, leb-true}
use Rattle.std.proofs.lemmas.Nat.{mul-le, le-div, div_below, div-mul-add}
use Rattle.std.proofs.Math.Nat.{div-mul-le_self}
use Rattle.std.proofs.lemmas.Bool.Decides.{nat_tests}
use Rattle.kc_graph.specs.declared.limits.TheConstants.{MAX_VERTICES}
use Rattle.kc_levels.specs.declared.profile.Profile.{Profile}
use Rattle.kc_levels.specs.Thresholds.{low, high, grow, high_over, height, last_group, top_level, group_of}
use Rattle.kc_levels.proofs.ProfileFacts.{most_height, most_group, grow-most, high-most, low-most, top-most, most_group-pos, most_group-small, high_over-ge}
use Rattle.kc_levels.proofs.Least.{least_is, least-le, least-passes, least-pos, least-le-bound}
use Rattle.kc_levels.proofs.Sequences.{high-at, high-ge, low-ge, low-mono, grow-ge, grow-mono}

pub height-pos : (p : Profile) (n : ℕ) → 1 ≤ n → 1 ≤ height p n
unfolding height grow
height-pos p n some = least-pos (λ j. ltb n (grow p j)) n some (le-ltb n 1 some)

pub height-le : (p : Profile) (n : ℕ) → n ≤ MAX_VERTICES → height p n ≤ most_height p
unfolding height
height-le p n small = least-le (λ j. ltb n (grow p j)) n (most_height p) (lt-ltb n (grow p (most_height p)) (omega (arith, grow-most p)))

pub grow-height : (p : Profile) (n : ℕ) → n < grow p (height p n)
unfolding height
grow-height p n = grind (arith, nat_tests, ltb-true, least-passes, least-le-bound, grow-ge)

-- a count of levels that a graph can't outgrow is short
pub grow-few : (p : Profile) (j : ℕ) → grow p j ≤ MAX_VERTICES → j < most_height p
grow-few p j le = elim (cases_lt j (most_height p)) [
  | inl lt ↦ lt
  | inr ge ↦ absurd (omega (arith, grow-most p, grow-mono p (most_height p) j ge))
]

pub height-is : (p : Profile) (n j : ℕ) → n < grow p j → ((i : ℕ) → i < j → grow p i ≤ n) → height p n ≡ j
unfolding height
height-is p n j above before = least_is (λ i. ltb n (grow p i)) n j within (λ h. lt-ltb n (grow p j) above) (λ i h. le-ltb n (grow p i) (before i h))
  where
    within : j ≤ n
    within = grind (arith, nat_tests, grow-ge)

pub last_group-pos : (p : Profile) (n : ℕ) → 1 ≤ last_group p n
unfolding last_group
last_group-pos p n = omega arith

pub last_group-le : (p : Profile) (n : ℕ) → n ≤ MAX_VERTICES → last_group p n ≤ most_group p
unfolding last_group
last_group-le p n small = grind (arith, nat_tests, most_group-pos, high-most, least-le, le-leb)

-- no vertex has more neighbours than the last group allows
pub high-last_group : (p : Profile) (n : ℕ) → n - 1 ≤ high p (last_group p n)
unfolding last_group
high-last_group p n = grind (arith, nat_tests, leb-true, least-passes, least-le-bound, high-ge)

-- the last group of a table that has lows up to group k + 1 and ends there
pub last_group-is : (p : Profile) (n k : ℕ) → n - 1 ≤ high_over p (low p (1 + k)) → ((i : ℕ) → i < k → high_over p (low p (1 + i)) < n - 1) → last_group p n ≡ 1 + k
unfolding last_group
last_group-is p n k above before =
    ap (λ m. 1 + m) (least_is (λ i. leb (n - 1) (high p (1 + i))) n k within
    (λ h. le-leb (n - 1) (high p (1 + k)) (rw (high-at p (1 + k) (omega arith)) above))
    (λ i h. lt-leb (n - 1) (high p (1 + i)) (rw (high-at p (1 + i) (omega arith)) (before i h))))
  where
    within : k ≤ n
    within = grind (arith, nat_tests, high_over-ge, low-ge)

pub low-small : (p : Profile) (n i : ℕ) → n ≤ MAX_VERTICES → i ≤ last_group p n → low p i < 2 ^ 24
low-small p n i small at = omega (arith, low-most p, low-mono p i (most_group p) (omega (arith, last_group-le p n small)))

-- the top from the length of a table of low
pub record IsTop (tall long : ℕ) : Type 0 where
  pub long_enough : 2 ≤ long
  pub short_enough : long < 20001
  pub product : (long - 2) * tall < 19999

pub top-fits : (p : Profile) (n tall long : ℕ) → n ≤ MAX_VERTICES → tall ≡ height p n → long ≡ 1 + last_group p n → IsTop tall long
top-fits p n tall long small tall_is long_is = grind (arith, nat_tests, most_group, most_height, mul-le, last_group-le, height-le, last_group-pos, most_group-small, top-most)

pub group_of-at : (p : Profile) (n l : ℕ) → 1 ≤ l → group_of p n l ≡ 1 + (l - 1) / height p n
group_of-at p n zero h = absurd (omega arith)
group_of-at p n (suc l) h = let e : l ≡ suc l - 1 = omega arith in ap (λ m. 1 + m / height p n) e

pub group_of-within : (p : Profile) (n l : ℕ) → 1 ≤ n → l ≤ top_level p n → group_of p n l ≤ last_group p n
group_of-within p n zero some h = omega arith
group_of-within p n (suc l) some h =
    let tall : 1 ≤ height p n = height-pos p n some in
    let last : 1 ≤ last_group p n = last_group-pos p n in
    let below = div_below l (height p n) (last_group p n) (omega arith) (fits (last_group p n) (height p n) last tall (omega arith)) in
    omega arith
  where
    fits : (t k : ℕ) → 1 ≤ t → 1 ≤ k → suc l ≤ 1 + (t - 1) * k → l < t * k
    fits zero k some tall at = absurd (omega arith)
    fits (suc t) k some tall at = grind arith

pub group_of-top : (p : Profile) (n : ℕ) → 1 ≤ n → group_of p n (top_level p n) ≡ last_group p n
group_of-top p n some = rw one-add (rest (last_group p n) (height p n) (last_group-pos p n) (height-pos p n some))
  where
    rest : (t k : ℕ) → 1 ≤ t → 1 ≤ k → 1 + (t - 1) * k / k ≡ t
    rest t k last tall = let e = rw add-zero at (div-mul-add (t - 1) k 0 tall) in omega arith

pub group_of-mono : (p : Profile) (n k l : ℕ) → 1 ≤ n → k ≤ l → group_of p n k ≤ group_of p n l
group_of-mono p n zero l some le = omega arith
group_of-mono p n (suc k) zero some le = absurd (omega arith)
group_of-mono p n (suc k) (suc l) some le =
    let tall : 1 ≤ height p n = height-pos p n some in
    let under : k / height p n * height p n ≤ k = div-mul-le_self k (height p n) in
    let more : k / height p n ≤ l / height p n = le-div (k / height p n) l (height p n) tall (omega arith) in
    omega arith

pub top_level-le : (p : Profile) (n : ℕ) → n ≤ MAX_VERTICES → top_level p n ≤ 1 + (most_group p - 1) * most_height p
top_level-le p n small = grind (arith, nat_tests, mul-le, last_group-le, height-le)

pub top_level-small : (p : Profile) (n : ℕ) → n ≤ MAX_VERTICES → top_level p n < 20000
top_level-small p n small = omega (arith, top_level-le p n small, top-most p)
