use Rattle.std.proofs.Common.{refl}
use Rattle.kc_text.specs.Lines.{lines_from}
use Rattle.kc_text.specs.Numbers.{value_from}
use Rattle.kc_text.specs.Words.{words_from}
use Rattle.kc_batch.specs.Headers.{profile_in, vertices_in, ask_in, asks_from, after_profile, header_of}
use Rattle.kc_batch.specs.Tokens.{kind_of_words}
use Rattle.kc_batch.specs.Batches.{batches_from}
use Rattle.kc_batch.proofs.laws.headers_read.Goals as goal

pub returns : goal.returns
unfolding lines_from value_from words_from kind_of_words profile_in vertices_in ask_in asks_from after_profile header_of batches_from
returns c = record { no_batch = refl; asks = refl; nothing = refl; version = refl; second_version = refl; third_version = refl; no_vertices = refl; most_vertices = refl; too_many_vertices = refl; no_second_line = refl; limit = refl; long_line = refl }
