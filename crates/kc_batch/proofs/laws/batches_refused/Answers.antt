use Rattle.std.proofs.Common.{refl}
use Rattle.kc_text.specs.Lines.{lines_from}
use Rattle.kc_text.specs.Numbers.{value_from}
use Rattle.kc_text.specs.Words.{words_from}
use Rattle.kc_batch.specs.Headers.{profile_in, vertices_in, ask_in, asks_from, after_profile, header_of}
use Rattle.kc_batch.specs.Tokens.{kind_of_words}
use Rattle.kc_batch.specs.Batches.{batches_from}
use Rattle.kc_batch.proofs.laws.batches_refused.Goals as goal

pub returns : goal.returns
unfolding lines_from value_from words_from kind_of_words profile_in vertices_in ask_in asks_from after_profile header_of batches_from
returns c = record { line_long = refl; long_comment = refl; one_word = refl; sign = refl; no_number = refl; four_words = refl; batch_within = refl; late_ask = refl; bad_vertex = refl; too_many = refl; bad_line_first = refl; bad_vertex_before_too_many = refl; truncated = refl; input_limit = refl }
