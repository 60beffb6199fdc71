use Rattle.std.proofs.Common.{◌≡◌, ◌++◌, length}
use Rattle.std.specs.Option.{option_map}
use Rattle.kc_cert.specs.Tokens.{tokens_left}
use Rattle.kc_cert.specs.Documents.{AtBody, empty_certificate, read_from}
use Rattle.kc_cert.proofs.EdgeSteps.{MayFollow, edges_due}
use Rattle.kc_cert.proofs.read.read_edges.Given as goal

abbrev pub invariant-loop-i : goal.invariant-loop-i
invariant-loop-i g l = record {
  same : option_map (read_from (AtBody (empty_certificate l.fn.head.profile l.fn.head.n) l.fn.head.edges 0 0 l.fn.head.n)) (tokens_left l.fn.reader (g.S.Source.left l.fn.src))
      ≡ option_map (read_from (edges_due l.fn.head.profile (record { vertices = l.fn.head.n; edges = l.graph.edges ++ l.waiting.items }) l.fn.head.n l.fn.head.edges l.i l.low.0 l.low.1)) (tokens_left l.reader (g.S.Source.left l.src));
  vertices : l.graph.vertices ≡ l.fn.head.n;
  follow : MayFollow l.fn.head.n l.low.0 l.low.1 (l.graph.edges ++ l.waiting.items);
  counted : length (l.graph.edges ++ l.waiting.items) ≡ l.i;
  faults : g.S.Source.faults l.src ≡ g.S.Source.faults l.fn.src;
}
