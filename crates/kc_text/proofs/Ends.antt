-- The place of the first end of a line.
use Rattle.std.proofs.Common.{ℕ, ◌<◌, ◌≤◌, ◌≡◌, List, length, take, arith, get_or}
use Rattle.std.specs.Prelude.{Some, None}
use Rattle.std.proofs.lemmas.List.{length-take-le, get_or-take}
use Rattle.std.proofs.lemmas.Bool.Decides.{nat_tests}
use Rattle.std.proofs.lemmas.Bool.{false_from_ne_true}
use Rattle.memchr.specs.Find.{IsFirstByte, is_byte}
use Rattle.kc_text.proofs.Passing.{HasNoEnd}

pub record FirstEnd (ready : List ℕ) (within at : ℕ) : Type 0 where
  pub below : at < within
  pub before : HasNoEnd (take at ready)
  pub here : get_or ready at 0 ≡ 10

pub first_end : (ready : List ℕ) (within at : ℕ) → within ≤ length ready → IsFirstByte (is_byte 10) (take within ready) (Some at) → FirstEnd ready within at
first_end ready within at h f = grind (arith, nat_tests, length-take-le, get_or-take, false_from_ne_true, f.0.high, f.0.before, f.1)

pub no_end : (ready : List ℕ) (within : ℕ) → IsFirstByte (is_byte 10) (take within ready) None → HasNoEnd (take within ready)
no_end ready within f = λ k lt. false_from_ne_true _ (f k (omega arith) lt)
