use Rattle.std.proofs.Common.{◌≡◌, ◌≤◌, [], length}
use Rattle.std.specs.Prelude.{All}
use Rattle.std.specs.Option.{option_map}
use Rattle.kc_text.specs.Reading.{budget}
use Rattle.kc_text.specs.Kept.{kept_left}
use Rattle.kc_batch.specs.Headers.{asks_from, IsAsk}
use Rattle.kc_batch.proofs.header.read_asks.Given as goal

abbrev pub invariant-loop-asks : goal.invariant-loop-asks
invariant-loop-asks g l = record {
  same : option_map (asks_from l.profile l.n []) (kept_left l.fn.reader (g.S.Source.left l.fn.src)) ≡ option_map (asks_from l.profile l.n l.asks) (kept_left l.reader (g.S.Source.left l.src));
  few : length l.asks ≤ 64;
  asks : All (IsAsk l.n) l.asks;
  budget : budget l.reader ≤ budget l.fn.reader;
  faults : g.S.Source.faults l.src ≡ g.S.Source.faults l.fn.src;
}

abbrev pub decreases-loop-asks : goal.decreases-loop-asks
decreases-loop-asks g l = budget l.reader
