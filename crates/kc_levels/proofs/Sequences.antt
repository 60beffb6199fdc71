-- The sequences low, high, grow and lo of a profile: their steps, and that they never fall.
use Rattle.std.proofs.Common.{ℕ, suc, zero, ◌+◌, ◌-◌, ◌≤◌, ◌≡◌, refl, ap, arith, add-one, ◌*◌}
use Rattle.kc_levels.specs.declared.profile.Profile.{Profile}
use Rattle.kc_levels.specs.declared.profile.Profile.TheVariants.{Two}
use Rattle.kc_levels.specs.Thresholds.{low, high, grow, lo, est, next_low, high_over, next_grow, lo_after}
use Rattle.kc_levels.proofs.ProfileFacts.{next_low-above, high_over-ge, high_over-near, high_over-mono, high-lo, high-lo-two, next_grow-above, lo_after-pos, lo_after-mono}
use Rattle.kc_levels.proofs.Least.{steps-mono}

pub low-next : (p : Profile) (i : ℕ) → 1 ≤ i → low p (i + 1) ≡ next_low p (low p i)
unfolding low
low-next p zero h = absurd (omega arith)
low-next p (suc i) h = rw add-one refl

pub high-at : (p : Profile) (i : ℕ) → 1 ≤ i → high p i ≡ high_over p (low p i)
unfolding high
high-at p zero h = absurd (omega arith)
high-at p (suc i) h = refl

pub grow-next : (p : Profile) (j : ℕ) → grow p (j + 1) ≡ next_grow p (grow p j)
unfolding grow
grow-next p j = rw add-one refl

pub lo-at : (p : Profile) (j : ℕ) → 2 ≤ j → lo p j ≡ lo_after p (low p (j - 1))
unfolding lo
lo-at p zero h = absurd (omega arith)
lo-at p (suc zero) h = absurd (omega arith)
lo-at p (suc (suc j)) h = let e : suc j ≡ suc (suc j) - 1 = omega arith in ap (λ i. lo_after p (low p i)) e

pub low-step : (p : Profile) (i : ℕ) → low p i ≤ low p (suc i)
unfolding low
low-step p zero = omega arith
low-step p (suc i) = omega (arith, next_low-above p (low p (suc i)))

pub low-mono : (p : Profile) (i j : ℕ) → i ≤ j → low p i ≤ low p j
low-mono p i j le = steps-mono (low p) (low-step p) i j le

pub low-ge : (p : Profile) (i : ℕ) → i ≤ low p i
unfolding low
low-ge p zero = omega arith
low-ge p (suc zero) = omega arith
low-ge p (suc (suc i)) = omega (arith, low-ge p (suc i), next_low-above p (low p (suc i)))

pub low-pos : (p : Profile) (i : ℕ) → 1 ≤ low p i
unfolding low
low-pos p zero = omega arith
low-pos p (suc i) = omega (arith, low-ge p (suc i))

pub high-step : (p : Profile) (i : ℕ) → high p i ≤ high p (suc i)
unfolding high
high-step p zero = omega arith
high-step p (suc i) = high_over-mono p (low p (suc i)) (low p (suc (suc i))) (low-step p (suc i))

pub high-mono : (p : Profile) (i j : ℕ) → i ≤ j → high p i ≤ high p j
high-mono p i j le = steps-mono (high p) (high-step p) i j le

pub high-ge : (p : Profile) (i : ℕ) → i ≤ high p i
unfolding high
high-ge p zero = omega arith
high-ge p (suc i) = omega (arith, low-ge p (suc i), high_over-ge p (low p (suc i)))

-- a vertex that may no longer be in group i can be in group i + 1
pub low-high : (p : Profile) (i : ℕ) → low p i ≤ high p i + 1
unfolding high low
low-high p zero = omega arith
low-high p (suc i) = omega (arith, high_over-ge p (low p (suc i)))

pub grow-ge : (p : Profile) (j : ℕ) → suc j ≤ grow p j
unfolding grow
grow-ge p zero = omega arith
grow-ge p (suc j) = omega (arith, grow-ge p j, next_grow-above p (grow p j) (omega (arith, grow-ge p j)))

pub grow-step : (p : Profile) (j : ℕ) → grow p j ≤ grow p (suc j)
unfolding grow
grow-step p j = omega (arith, next_grow-above p (grow p j) (omega (arith, grow-ge p j)))

pub grow-mono : (p : Profile) (i j : ℕ) → i ≤ j → grow p i ≤ grow p j
grow-mono p i j le = steps-mono (grow p) (grow-step p) i j le

pub lo-step : (p : Profile) (j : ℕ) → lo p j ≤ lo p (suc j)
unfolding lo
lo-step p zero = omega arith
lo-step p (suc zero) = lo_after-pos p (low p 1)
lo-step p (suc (suc j)) = lo_after-mono p (low p (suc j)) (low p (suc (suc j))) (low-step p (suc j))

pub lo-mono : (p : Profile) (i j : ℕ) → i ≤ j → lo p i ≤ lo p j
lo-mono p i j le = steps-mono (lo p) (lo-step p) i j le

pub high-est : (p : Profile) (j : ℕ) → high p j ≤ 3 * est p j
unfolding high lo low
high-est p zero = omega arith
high-est p (suc zero) = omega (arith, high_over-near p 1)
high-est p (suc (suc j)) = high-lo p (low p (suc j)) (low-pos p (suc j))

pub high-est-two : (j : ℕ) → high Two j ≤ 2 * est Two j
unfolding high lo low
high-est-two zero = omega arith
high-est-two (suc zero) = omega arith
high-est-two (suc (suc j)) = high-lo-two (low Two (suc j)) (low-pos Two (suc j))
