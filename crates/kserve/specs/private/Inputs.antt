-- For private contracts: what range the number of vertices in a head has.
use Rattle.std.specs.Prelude.{◌≤◌}
use Rattle.kc_graph.specs.declared.limits.TheConstants.{MAX_VERTICES}
use Rattle.kserve.specs.declared.head.Head.{Head}
use Rattle.kserve.specs.declared.head.Head.TheVariants as head

-- the range of a number of vertices
abbrev pub HasRange : Head → Type 0
HasRange (head.Vertices n) = (1 ≤ n) × (n ≤ MAX_VERTICES)
HasRange (head.Refused line) = Unit {0}
