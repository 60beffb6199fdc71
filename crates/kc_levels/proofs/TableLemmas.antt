-- A table of low as it grows by one group at a time.
use Rattle.std.proofs.Common.{ℕ, suc, zero, ◌+◌, ◌-◌, ◌^◌, ◌≤◌, ◌<◌, ◌≡◌, List, [], ◌∷◌, ◌++◌, length, get_or, refl, ap, ◌∙◌, arith}
use Rattle.std.proofs.lemmas.List.{length_push, get_or_push, get_or_append_left}
use Rattle.std.proofs.lemmas.Bool.Decides.{nat_tests}
use Rattle.kc_graph.specs.declared.limits.TheConstants.{MAX_VERTICES}
use Rattle.kc_levels.specs.declared.profile.Profile.{Profile}
use Rattle.kc_levels.specs.Thresholds.{low, last_group, next_low, high_over}
use Rattle.kc_levels.proofs.ProfileFacts.{next_low-near, high_over-ge}
use Rattle.kc_levels.proofs.Sequences.{low-next}
use Rattle.kc_levels.proofs.Groups.{last_group-is}

-- lows of group 0 and on, up to one whose low is `last`; no group before it is the last group
pub record IsLowTable (p : Profile) (n last : ℕ) (lows : List ℕ) : Type 0 where
  pub long : 2 ≤ length lows
  pub last_is : last ≡ low p (length lows - 1)
  pub small : last < 2 ^ 25
  pub lows_are : (i : ℕ) → i < length lows → get_or lows i 0 ≡ low p i
  pub before : (i : ℕ) → i + 2 < length lows → high_over p (low p (1 + i)) < n - 1

pub low_table-first : (p : Profile) (n : ℕ) → IsLowTable p n 1 (1 ∷ 1 ∷ [])
unfolding low
low_table-first p n = record {
  long = omega arith;
  last_is = refl;
  small = omega arith;
  lows_are = at;
  before = λ i h. absurd (omega arith);
}
  where
    at : (i : ℕ) → i < 2 → get_or (1 ∷ 1 ∷ []) i 0 ≡ low p i
    at zero h = refl
    at (suc zero) h = refl
    at (suc (suc i)) h = absurd (omega arith)

pub low_table-more : (p : Profile) (n last next : ℕ) (lows : List ℕ) → IsLowTable p n last lows → high_over p last < n - 1 → n ≤ MAX_VERTICES → next ≡ next_low p last → IsLowTable p n next (lows ++ next ∷ [])
low_table-more p n last next lows t more small is = record {
  long = omega (arith, longer, t.long);
  last_is = next_is ∙ ap (low p) (omega (arith, longer, t.long));
  small = omega (arith, is, next_low-near p last, high_over-ge p last);
  lows_are = at;
  before = above;
}
  where
    longer : length (lows ++ next ∷ []) ≡ length lows + 1
    longer = length_push lows next

    next_is : next ≡ low p (length lows)
    next_is = grind (arith, nat_tests, low-next, t.long, t.last_is)

    at : (i : ℕ) → i < length (lows ++ next ∷ []) → get_or (lows ++ next ∷ []) i 0 ≡ low p i
    at i h = grind (arith, nat_tests, get_or_append_left, longer, get_or_push, next_is, t.lows_are)

    above : (i : ℕ) → i + 2 < length (lows ++ next ∷ []) → high_over p (low p (1 + i)) < n - 1
    above i h = grind (arith, nat_tests, longer, t.before, t.last_is)

pub low_table-end : (p : Profile) (n last : ℕ) (lows : List ℕ) → IsLowTable p n last lows → n - 1 ≤ high_over p last → length lows ≡ 1 + last_group p n
low_table-end p n last lows t done =
    let place : length lows - 1 ≡ 1 + (length lows - 2) = omega (arith, t.long) in
    let here : high_over p last ≡ high_over p (low p (1 + (length lows - 2))) = ap (high_over p) (t.last_is ∙ ap (low p) place) in
    let groups : last_group p n ≡ 1 + (length lows - 2) = last_group-is p n (length lows - 2) (omega arith) (λ i h. t.before i (omega (arith, t.long))) in
    omega (arith, t.long)
