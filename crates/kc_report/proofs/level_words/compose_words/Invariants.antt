use Rattle.std.proofs.Common.{ℕ, ◌<◌, length, slice_index}
use Rattle.kc_report.specs.private.LevelWords.{AreLevelWords, AreShort}
use Rattle.kc_report.proofs.level_words.compose_words.Given as goal

abbrev pub invariant-loop-level : goal.invariant-loop-level
invariant-loop-level l = record {
  words : AreLevelWords l.th.profile l.th.vertices l.words.items;
  short : AreShort l.words.items;
  enough : (v : ℕ) → v < l.level-index → slice_index l.levels v < length l.words.items;
}
