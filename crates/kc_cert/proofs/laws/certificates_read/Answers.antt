use Rattle.std.proofs.Common.{refl}
use Rattle.kc_levels.specs.Thresholds.{low, high, grow, least, height, last_group}
use Rattle.kc_text.specs.Lines.{lines_from}
use Rattle.kc_text.specs.Numbers.{value_from}
use Rattle.kc_text.specs.Words.{words_from}
use Rattle.kc_cert.specs.Documents.{read_from}
use Rattle.kc_cert.specs.Tokens.{only_word, two_numbers, kind_of_words, kind_of_text, tokens}
use Rattle.kc_cert.proofs.laws.certificates_read.Goals as goal

pub returns : goal.returns
unfolding low high grow least height last_group lines_from value_from words_from read_from only_word two_numbers kind_of_words kind_of_text tokens
returns c = record {
  whole = refl;
  skipped = refl;
  nothing = refl;
  version = refl;
  profile = refl;
  no_vertices = refl;
  too_many_vertices = refl;
  too_many_edges = refl;
  vertex = refl;
  order = refl;
  turned = refl;
  early_level = refl;
  late_edge = refl;
  level_vertex = refl;
  level_order = refl;
  top = refl;
  early_end = refl;
  no_end = refl;
  more = refl;
  long_line = refl;
  limit = refl;
}
