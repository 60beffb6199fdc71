use Rattle.std.proofs.Common.{◌≡◌, ◌+◌, ◌≤◌, length, map}
use Rattle.std.specs.Prelude.{All}
use Rattle.kc_graph.specs.declared.limits.TheConstants.{MAX_ITEMS}
use Rattle.kc_graph.specs.private.Keys.{unpacked}
use Rattle.kc_graph.specs.private.Walks.{no_effect, walked, IsKeyInside}
use Rattle.kc_graph.proofs.walking.walk.Given as goal

abbrev pub invariant-loop-key : goal.invariant-loop-key
invariant-loop-key l = record {
  known : walked l.graph.edges (map (unpacked l.bits) l.rest) l.cleaned ≡ walked l.graph.edges (map (unpacked l.bits) l.keys) no_effect;
  inside : All (IsKeyInside l.graph.vertices) (map (unpacked l.bits) l.rest);
  repeats : l.cleaned.repeats + length l.rest ≤ MAX_ITEMS;
  idle : l.cleaned.idle + length l.rest ≤ MAX_ITEMS;
}

abbrev pub decreases-loop-key : goal.decreases-loop-key
decreases-loop-key l = length l.rest
