-- The fault of a batch that the engine refuses.
use Rattle.kc_engine.specs.declared.faults.EngineFault.{EngineFault}
use Rattle.kc_engine.specs.declared.faults.EngineFault.TheVariants as engine
use Rattle.kc_service.specs.declared.faults.ApplyFault.{ApplyFault}
use Rattle.kc_service.specs.declared.faults.ApplyFault.TheVariants.{Halted, EdgeLimit, PhaseLimit, Memory}

-- the fault of a batch whose plan is refused for this reason
abbrev pub fault_of : EngineFault → ApplyFault
fault_of engine.Halted = Halted
fault_of (engine.EdgeLimit edges) = EdgeLimit edges
fault_of (engine.PhaseLimit phase) = PhaseLimit phase
fault_of (engine.Memory error) = Memory error
