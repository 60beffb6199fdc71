use Rattle.std.proofs.Common.{◌≡◌, ℕ, ◌≤◌, ◌<◌, ◌-◌, [], length, take, get_or}
use Rattle.std.specs.Option.{option_map}
use Rattle.kc_levels.specs.Thresholds.{top_level}
use Rattle.kc_cert.specs.Tokens.{tokens_left}
use Rattle.kc_cert.specs.Documents.{AtBody, read_from}
use Rattle.kc_cert.proofs.read.read_levels.Given as goal

abbrev pub invariant-loop-v : goal.invariant-loop-v
invariant-loop-v g l = record {
  same : option_map (read_from (AtBody (record { profile = l.fn.profile; graph = l.graph; levels = [] }) 0 0 0 l.graph.vertices)) (tokens_left l.fn.reader (g.S.Source.left l.fn.src))
      ≡ option_map (read_from (AtBody (record { profile = l.fn.profile; graph = l.graph; levels = take l.v l.levels }) 0 0 0 (l.n - l.v))) (tokens_left l.reader (g.S.Source.left l.src));
  top : l.top ≡ top_level l.fn.profile l.graph.vertices;
  sized : length l.levels ≡ l.n;
  capped : (w : ℕ) → w < l.v → get_or l.levels w 0 ≤ l.top;
  faults : g.S.Source.faults l.src ≡ g.S.Source.faults l.fn.src;
}
