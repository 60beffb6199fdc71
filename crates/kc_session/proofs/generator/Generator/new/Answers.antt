use Rattle.std.proofs.Common.{refl}
use Rattle.kc_session.specs.Generated.{generated}
use Rattle.kc_session.specs.Generating.{words_left}
use Rattle.kc_session.proofs.generator.Generator.new.Goals as goal

pub returns-clause-text : goal.returns-clause-text
unfolding generated words_left
returns-clause-text c = refl
