use Rattle.std.proofs.Common.{ℕ, ◌≡◌, ◌≤◌, ◌+◌, ◌*◌, ◌++◌, ◌∷◌}
use Rattle.std.specs.Prelude.{decimal}
use Rattle.std.specs.List.{flat_map}
use Rattle.arrayvec.specs.ArrayVec.{array_vec_len}
use Rattle.kc_session.specs.Generated.{first_numbers}
use Rattle.kc_session.proofs.generator.fill_ask.Given as goal

abbrev pub invariant-loop-v : goal.invariant-loop-v
invariant-loop-v l = (l.line.items ≡ l.initial.line.items ++ flat_map (λ (w : ℕ). 32 ∷ decimal w) (first_numbers l.v)) × (array_vec_len l.line ≤ 5 + 11 * l.v)
