use Rattle.std.proofs.Common.{refl}
use Rattle.kc_text.specs.Words.{words_from}
use Rattle.kc_text.proofs.laws.words_between_blanks.Goals as goal

pub returns : goal.returns
unfolding words_from
returns c = refl
