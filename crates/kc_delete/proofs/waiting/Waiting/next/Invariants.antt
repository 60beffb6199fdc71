use Rattle.std.proofs.Common.{◌-◌, length}
use Rattle.kc_delete.specs.private.Waiting.{AreFiled, IsSifted}
use Rattle.kc_delete.proofs.waiting.Waiting.next.Given as goal

abbrev pub invariant-loop-taken : goal.invariant-loop-taken
invariant-loop-taken g l = record {
  filed : AreFiled l.self-inside.first l.self-inside.filed l.self-inside.round.items l.self-inside.marks.items;
  sifted : IsSifted l.capped.th.now.profile l.capped.adj.now.graph l.capped.adj.now.levels l.initial.self-inside.marks.items l.self-inside.marks.items;
}

abbrev pub decreases-loop-taken : goal.decreases-loop-taken
decreases-loop-taken g l = length l.self-inside.filed - l.self-inside.first
