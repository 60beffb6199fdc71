use Rattle.std.proofs.Common.{refl}
use Rattle.kc_text.specs.Lines.{lines_from}
use Rattle.kc_text.specs.Numbers.{value_from}
use Rattle.kc_text.specs.Words.{words_from}
use Rattle.kc_batch.specs.Headers.{profile_in, vertices_in, ask_in, asks_from, after_profile, header_of}
use Rattle.kc_batch.specs.Tokens.{kind_of_words}
use Rattle.kc_batch.specs.Batches.{batches_from}
use Rattle.kc_batch.proofs.laws.lines_passed_over.Goals as goal

pub returns : goal.returns
unfolding lines_from value_from words_from kind_of_words profile_in vertices_in ask_in asks_from after_profile header_of batches_from
returns c = record { example = refl; first_fault = refl; wrong_line = refl; input_ends = refl; limit_between = refl; limit_within = refl; limit_after_fault = refl }
