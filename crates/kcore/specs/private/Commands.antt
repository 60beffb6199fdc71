-- The workers of a command.
use Rattle.std.specs.Prelude.{◌≤◌, Option, Some, None}
use Rattle.kc_session.specs.Generated.{IsLoad}
use Rattle.kcore.specs.declared.command.Command.{Command}
use Rattle.kcore.specs.declared.command.Command.TheVariants.{Run, Final, Orient, Exact, Check, Audit, Dense, Gen}

-- the workers of a command are 1 to 64, and the numbers of a load are in their ranges
abbrev pub FitsWorkers : Option Command → Type 0
FitsWorkers (Some (Run workers)) = (1 ≤ workers) × (workers ≤ 64)
FitsWorkers (Some (Final workers)) = (1 ≤ workers) × (workers ≤ 64)
FitsWorkers (Some (Orient workers)) = (1 ≤ workers) × (workers ≤ 64)
FitsWorkers (Some (Gen seed n batches items workers)) = ((1 ≤ workers) × (workers ≤ 64)) × IsLoad n batches items
FitsWorkers (Some Exact) = Unit {0}
FitsWorkers (Some Check) = Unit {0}
FitsWorkers (Some Audit) = Unit {0}
FitsWorkers (Some Dense) = Unit {0}
FitsWorkers None = Unit {0}
