use Rattle.std.proofs.Common.{refl}
use Rattle.kc_text.specs.Numbers.{value_from}
use Rattle.kc_text.proofs.laws.numbers_at_limits.Goals as goal

pub returns : goal.returns
unfolding value_from
returns c = record { greatest = refl; greater = refl; zeros = refl; eleven = refl; letter = refl; nothing = refl }
