-- A list of numbers after a write at one place.
use Rattle.std.proofs.Common.{ℕ, ◌<◌, ◌≢◌, List, length, get_or, set, arith}
use Rattle.std.proofs.lemmas.List.{get_or-set_same, get_or-set_other}
use Rattle.std.proofs.lemmas.Bool.Decides.{nat_tests}

-- what holds of the number written at v, and of the old number at every other place, holds at each place
pub changed : (xs : List ℕ) (v k : ℕ) → v < length xs → (P : ℕ → ℕ → Type 0) (w : ℕ) → P v k → (w ≢ v → P w (get_or xs w 0)) → P w (get_or (set xs v k) w 0)
changed xs v k inside P w here other = grind (arith, nat_tests, get_or-set_same, get_or-set_other)
