-- A refused header of an input, if the source tells its bytes or not.
use Rattle.std.proofs.Common.{ℕ, ◌≡◌, refl}
use Rattle.std.specs.Prelude.{Option, Some, None}
use Rattle.std.specs.Option.{option_map}
use Rattle.kc_batch.specs.BatchInputs.{BatchInput, HeaderRefused}
use Rattle.kcore.specs.private.Opening.{IsSaid}

pub is_refused : {X : Type 0} → (line : ℕ) (said : Option BatchInput) (there : Option X) → said ≡ option_map (λ _. HeaderRefused line) there → IsSaid said (HeaderRefused line)
is_refused line said None e = rw e tt
is_refused line said (Some x) e = rw e refl
