-- What is asked of a profile: that its lo and its grow keep up with each other. A further profile adds a line to each
-- lemma that has `One`, and changes nothing else here.
use Rattle.std.proofs.Common.{ℕ, suc, zero, ◌+◌, ◌-◌, ◌*◌, ◌/◌, ◌≤◌, ◌≡◌, inl, inr, arith}
use Rattle.std.proofs.lemmas.Bool.{cases_lt}
use Rattle.std.proofs.Math.Nat.{mul-le-mul, mul-le-mul_left, mul-le-mul_right}
use Rattle.std.proofs.lemmas.Bool.Decides.{nat_tests}
use Rattle.kc_levels.specs.declared.profile.Profile.{Profile}
use Rattle.kc_levels.specs.declared.profile.Profile.TheVariants.{One, Two}
use Rattle.kc_levels.specs.Thresholds.{next_grow, lo_after}

-- a step of growth by 1 / a, where t and m stand in the ratio of a to a + 1 or less
pub grows_by : (a t m r s g : ℕ) → (a + 1) * t ≤ a * m → 1 ≤ m → 1 ≤ g → g ≤ r → m * r ≤ t * s → (a + 1) * g ≤ a * s
grows_by a zero m r s g ratio some one le more =
    let plenty : 1 ≤ r = omega arith in
    absurd (omega (arith, mul-le-mul some plenty))
grows_by a (suc t) m r s g ratio some one le more = elim (cases_lt (a * s) ((a + 1) * g)) [
  | inr ge ↦ ge
  | inl lt ↦
      let wide : (a + 1) * g ≤ (a + 1) * r = mul-le-mul_left (a + 1) le in
      let first : (a + 1) * suc t * r ≤ a * m * r = mul-le-mul_right r ratio in
      let second : a * (m * r) ≤ a * (suc t * s) = mul-le-mul_left a more in
      let third : suc t * (a * s + 1) ≤ suc t * ((a + 1) * r) = mul-le-mul_left (suc t) (omega arith) in
      absurd (omega arith)
]

pub lo_after-le : (p : Profile) (l : ℕ) → lo_after p l ≤ l + 1
lo_after-le p l = grind (arith, nat_tests)

-- Of l neighbours of a vertex at most one less than `lo_after p l` are left when it is taken away, so the others went
-- before it: where r vertices go, the level below them loses at least as many as grow says.
pub growth-step : (p : Profile) (l r s g : ℕ) → 1 ≤ l → 1 ≤ g → g ≤ r → (l - (lo_after p l - 1)) * r ≤ (lo_after p l - 1) * s → next_grow p g ≤ s
growth-step One l r s g some one le more =
    let t_is : 4 * l / 9 + 1 - 1 ≡ 4 * l / 9 = omega arith in
    omega (arith, grows_by 4 (4 * l / 9) (l - 4 * l / 9) r s g (omega arith) (omega arith) one le (rw t_is at more))
growth-step Two l r s g some one le more =
    let t_is : 8 * l / 17 + 1 - 1 ≡ 8 * l / 17 = omega arith in
    omega (arith, grows_by 8 (8 * l / 17) (l - 8 * l / 17) r s g (omega arith) (omega arith) one le (rw t_is at more))
