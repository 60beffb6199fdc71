use Rattle.std.proofs.Common.{refl}
use Rattle.kc_session.specs.Generated.{next_state}
use Rattle.kc_session.proofs.laws.states_from_zero.Goals as goal

pub returns : goal.returns
unfolding next_state
returns c = refl
