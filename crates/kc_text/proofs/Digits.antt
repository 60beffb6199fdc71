-- Steps of a number that is read digit by digit.
use Rattle.std.proofs.Common.{ℕ, ◌+◌, ◌-◌, ◌*◌, ◌^◌, ◌<◌, ◌≤◌, ◌≡◌, Bool, true, false, List, [], ◌∷◌, length, drop, refl, arith, add-one, drop-cons, get_or}
use Rattle.std.specs.Prelude.{Option, Some, None, ◌&&◌, nat_lt, nat_le, if◌then◌else◌}
use Rattle.std.specs.List.{list_all}
use Rattle.std.proofs.lemmas.Bool.Decides.{nat_tests}
use Rattle.std.proofs.Math.ListN.{drop_of_length-le}
use Rattle.kc_text.specs.Numbers.{value_from, is_digit, number_of}

-- digits after a value, read as long as the value is below 2 ^ 32
unfoldable pub number_from : ℕ → List ℕ → Option ℕ
number_from value [] = Some value
number_from value (d ∷ ds) = if is_digit d && nat_lt (10 * value + (d - 48)) (2 ^ 32) then number_from (10 * value + (d - 48)) ds else None

pub number_step : (v i : ℕ) (bs : List ℕ) → i < length bs
    → number_from v (drop i bs) ≡ (if is_digit (get_or bs i 0) && nat_lt (10 * v + (get_or bs i 0 - 48)) (2 ^ 32) then number_from (10 * v + (get_or bs i 0 - 48)) (drop (i + 1) bs) else None)
unfolding number_from
number_step v i bs h = rw (add-one, drop-cons bs i 0) refl

pub number_end : (v i : ℕ) (bs : List ℕ) → length bs ≤ i → number_from v (drop i bs) ≡ Some v
unfolding number_from
number_end v i bs h = rw drop_of_length-le refl

-- a value never falls
pub value_rises : (v : ℕ) (ds : List ℕ) → v ≤ value_from v ds
unfolding value_from
value_rises v [] = omega arith
value_rises v (d ∷ ds) = omega (arith, value_rises (10 * v + (d - 48)) ds)

too_large : (v : ℕ) (ds : List ℕ) → 2 ^ 32 ≤ v → nat_lt (value_from v ds) (2 ^ 32) ≡ false
too_large v ds h = grind (arith, nat_tests, value_rises v ds)

-- a byte that is no digit, or a digit that doesn't fit, ends both
step_same : (digit fits all small : Bool) (value : ℕ) (rest : Option ℕ) → (fits ≡ false → small ≡ false) → (fits ≡ true → rest ≡ (if all && small then Some value else None))
    → (if digit && fits then rest else None) ≡ (if (digit && all) && small then Some value else None)
step_same digit fits all small value rest h k = grind (arith, nat_tests)

at_least : (v : ℕ) → nat_lt v (2 ^ 32) ≡ false → 2 ^ 32 ≤ v
at_least v h = grind (arith, nat_tests)

-- reading digit by digit gives the value of all digits
pub from_is : (v : ℕ) (ds : List ℕ) → v < 2 ^ 32 → number_from v ds ≡ (if list_all is_digit ds && nat_lt (value_from v ds) (2 ^ 32) then Some (value_from v ds) else None)
unfolding number_from value_from
from_is v [] h = let e : nat_lt v (2 ^ 32) ≡ true = grind (arith, nat_tests) in rw e refl
from_is v (d ∷ ds) h = step_same (is_digit d) (nat_lt (10 * v + (d - 48)) (2 ^ 32)) (list_all is_digit ds) _ _ _
    (λ e. too_large (10 * v + (d - 48)) ds (at_least _ e))
    (λ e. from_is (10 * v + (d - 48)) ds (grind (arith, nat_tests, e)))

pub number_is : (bs : List ℕ) → number_of bs ≡ (if nat_lt 0 (length bs) && nat_le (length bs) 10 then number_from 0 bs else None)
number_is bs = grind (arith, nat_tests, from_is)

pub ruleset steps = (number_step, number_end, nat_tests, number_is)
