-- The least number that passes a test, and rising sequences.
use Rattle.std.proofs.Common.{ℕ, suc, zero, ◌≤◌, ◌<◌, ◌≡◌, inl, inr, Bool, true, false, cond, refl, ap, arith}
use Rattle.std.proofs.lemmas.Bool.{cases_lt}
use Rattle.kc_levels.specs.Thresholds.{least}

pub least_is : (test : ℕ → Bool) (n k : ℕ) → k ≤ n → (k < n → test k ≡ true) → ((i : ℕ) → i < k → test i ≡ false) → least test n ≡ k
unfolding least
least_is test zero k le passes none = omega arith
least_is test (suc n) zero le passes none = rw (passes (omega arith)) refl
least_is test (suc n) (suc k) le passes none =
    rw (none 0 (omega arith)) (ap suc (least_is (λ i. test (suc i)) n k (omega arith) (λ h. passes (omega arith)) (λ i h. none (suc i) (omega arith))))

pub least-le : (test : ℕ → Bool) (n k : ℕ) → test k ≡ true → least test n ≤ k
unfolding least
least-le test zero k h = omega arith
least-le test (suc n) zero h = rw h (omega arith)
least-le test (suc n) (suc k) h =
    let later : least (λ i. test (suc i)) n ≤ k = least-le (λ i. test (suc i)) n k h in
    elim (test 0) as (λ t. cond t 0 (suc (least (λ i. test (suc i)) n)) ≤ suc k) [ true ↦ omega arith | false ↦ omega arith ]

pub least-passes : (test : ℕ → Bool) (n : ℕ) → least test n < n → test (least test n) ≡ true
unfolding least
least-passes test zero h = absurd (omega arith)
least-passes test (suc n) h = go (λ k. least-passes (λ i. test (suc i)) n k) (test 0) refl h
  where
    go : (least (λ i. test (suc i)) n < n → test (suc (least (λ i. test (suc i)) n)) ≡ true) → (t : Bool) → test 0 ≡ t → cond t 0 (suc (least (λ i. test (suc i)) n)) < suc n → test (cond t 0 (suc (least (λ i. test (suc i)) n))) ≡ true
    go later true e k = e
    go later false e k = later (omega arith)

pub least-pos : (test : ℕ → Bool) (n : ℕ) → 1 ≤ n → test 0 ≡ false → 1 ≤ least test n
unfolding least
least-pos test zero h e = absurd (omega arith)
least-pos test (suc n) h e = rw e (omega arith)

pub least-le-bound : (test : ℕ → Bool) (n : ℕ) → least test n ≤ n
unfolding least
least-le-bound test zero = omega arith
least-le-bound test (suc n) =
    let later : least (λ i. test (suc i)) n ≤ n = least-le-bound (λ i. test (suc i)) n in
    elim (test 0) as (λ t. cond t 0 (suc (least (λ i. test (suc i)) n)) ≤ suc n) [ true ↦ omega arith | false ↦ omega arith ]

-- a sequence that never falls at a step never falls
pub steps-mono : (f : ℕ → ℕ) → ((i : ℕ) → f i ≤ f (suc i)) → (i j : ℕ) → i ≤ j → f i ≤ f j
steps-mono f step i zero h = let e : i ≡ 0 = omega arith in rw e (omega arith)
steps-mono f step i (suc j) h = elim (cases_lt j i) [
  | inl lt ↦ let e : i ≡ suc j = omega arith in rw e (omega arith)
  | inr ge ↦ let before : f i ≤ f j = steps-mono f step i j ge in let last : f j ≤ f (suc j) = step j in omega arith
]
