use Rattle.std.proofs.Common.{◌≡◌, ◌≤◌, ◌+◌, length}
use Rattle.kc_graph.specs.declared.limits.TheConstants.{MAX_ITEMS}
use Rattle.kc_intake.specs.Updates.{all_updates}
use Rattle.kserve.specs.declared.limits.TheConstants.{CAPACITY}
use Rattle.kserve.specs.Batches.{start}
use Rattle.kserve.specs.private.Faults.{StopCause}
use Rattle.kserve.specs.private.Clients.{AreDrained}
use Rattle.kserve.specs.private.Serving.{Serves}
use Rattle.kserve.proofs.ServerLemmas.{IsRunning}
use Rattle.kserve.proofs.server.Server.run.Given as goal

abbrev pub invariant-loop-turn : goal.invariant-loop-turn
invariant-loop-turn g l = record {
  served : Serves l.fn.context.n (start l.fn.context.n) l.drainer.taken l.self.engine.state (g.K.Sink.taken l.fn.sink) (g.K.Sink.taken l.sink) l.course;
  running : IsRunning l.drained l.self.engine l.course;
  drained : AreDrained l.intake l.fn.drainer l.drainer;
  count : l.drained ≡ length (all_updates l.drainer.taken);
  number : l.number ≡ length l.drainer.taken;
  fewer : l.number ≤ l.drained;
  few : l.drained ≤ MAX_ITEMS + CAPACITY;
  cause : StopCause (g.K.Sink.faults l.fn.sink) (g.K.Sink.faults l.sink) l.course;
}
