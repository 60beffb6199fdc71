use Rattle.std.proofs.Common.{refl}
use Rattle.kc_levels.proofs.Sequences.{high-est, high-est-two}
use Rattle.kc_levels.proofs.laws.estimate_is_near.Goals as goal

pub returns : goal.returns
returns c = record { twice = λ p j. refl; near = high-est; nearer = high-est-two }
