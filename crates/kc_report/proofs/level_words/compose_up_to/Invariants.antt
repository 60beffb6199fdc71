use Rattle.std.proofs.Common.{◌≡◌, length}
use Rattle.kc_report.specs.private.LevelWords.{AreLevelWords, AreShort}
use Rattle.kc_report.proofs.level_words.compose_up_to.Given as goal

abbrev pub invariant-loop-next : goal.invariant-loop-next
invariant-loop-next l = record {
  words : AreLevelWords l.th.profile l.th.vertices l.words.items;
  short : AreShort l.words.items;
  sized : length l.words.items ≡ l.next;
}
