use Rattle.std.proofs.Common.{refl}
use Rattle.kc_session.specs.Generated.{next_state}
use Rattle.kc_session.proofs.generator.next_state.Goals as goal

pub returns : goal.returns
unfolding next_state
returns c = refl
