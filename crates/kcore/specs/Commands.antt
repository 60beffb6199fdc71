-- The command lines, and the text of each command for the bytes that it reads.
use Rattle.std.specs.Prelude.{ℕ, ◌≡◌, ◌*◌, nat_le, Bool, true, false, ◌&&◌, List, [], ◌∷◌, Option, Some, None, if◌then◌else◌, codes, ◌⊎◌}
use Rattle.std.specs.Str.{bytes_eq}
use Rattle.kc_text.specs.Causes.{Rose}
use Rattle.kc_text.specs.Numbers.{number_of}
use Rattle.kc_graph.specs.declared.limits.TheConstants.{MAX_VERTICES, MAX_ITEMS}
use Rattle.kc_shell.specs.Workers.{few_workers}
use Rattle.kc_session.specs.Generated.{generated}
use Rattle.kcore.specs.declared.command.Command.{Command}
use Rattle.kcore.specs.declared.command.Command.TheVariants.{Run, Final, Orient, Exact, Check, Audit, Dense, Gen}
use Rattle.kc_shell.specs.declared.status.Status.{Status}
use Rattle.kc_shell.specs.declared.status.Status.TheVariants.{Done, Refused, Usage, ReadFault, WriteFault, Memory}
use Rattle.kcore.specs.Inputs.{input_said}
use Rattle.kcore.specs.RunText.{IsRunText}
use Rattle.kcore.specs.CheckText.{IsCheckText}
use Rattle.kcore.specs.AuditText.{IsAuditText}
use Rattle.kcore.specs.ExactText.{IsExactText}
use Rattle.kcore.specs.FinalText.{IsFinalText}
use Rattle.kcore.specs.OrientText.{IsOrientText, OrientsSparsely}
use Rattle.kcore.specs.DenseText.{IsDenseText}
use Rattle.kcore.specs.LoadText.{IsLoadText}
use Rattle.kcore.specs.Texts.{WritesWhole, WritesPrefix}
use Rattle.kcore.specs.Laws.{HoldsThroughout, FitsExactly, HasHalfDensity}

-- the command of this name with this number of workers
abbrev pub with_workers : List ℕ → Option ℕ → Option Command
with_workers name None = None
with_workers name (Some workers) =
    if bytes_eq name (codes "run") then Some (Run workers)
    else if bytes_eq name (codes "final") then Some (Final workers)
    else if bytes_eq name (codes "orient") then Some (Orient workers)
    else None

-- the numbers of a load
--
-- These are 1 to 16,777,216 vertices, and 1 to 1,024 batches of at most 1,048,576 items, which are at most 33,554,432
-- in all.
abbrev pub fits_load : ℕ → ℕ → ℕ → Bool
fits_load n batches items =
    (nat_le 1 n && nat_le n MAX_VERTICES) && ((nat_le 1 batches && nat_le batches 1024) && (nat_le items MAX_ITEMS && nat_le (batches * items) 33554432))

-- `gen` with these numbers: a seed, those of a load, and the number of workers
abbrev pub gen_with : Option ℕ → Option ℕ → Option ℕ → Option ℕ → Option ℕ → Option Command
gen_with (Some seed) (Some n) (Some batches) (Some items) (Some workers) = if fits_load n batches items then Some (Gen seed n batches items workers) else None
gen_with (Some seed) (Some n) (Some batches) (Some items) None = None
gen_with (Some seed) (Some n) (Some batches) None workers = None
gen_with (Some seed) (Some n) None items workers = None
gen_with (Some seed) None batches items workers = None
gen_with None n batches items workers = None

-- the command of a command line without the program's name
unfoldable pub command_of : List (List ℕ) → Option Command
command_of [] = None
command_of (w ∷ []) =
    if bytes_eq w (codes "exact") then Some Exact
    else if bytes_eq w (codes "check") then Some Check
    else if bytes_eq w (codes "audit") then Some Audit
    else if bytes_eq w (codes "dense") then Some Dense
    else None
command_of (w ∷ a ∷ []) = with_workers w (few_workers (number_of a))
command_of (w ∷ s ∷ n ∷ b ∷ m ∷ a ∷ []) =
    if bytes_eq w (codes "gen") then gen_with (number_of s) (number_of n) (number_of b) (number_of m) (few_workers (number_of a))
    else None
command_of _ = None

-- the text is that of the command for these bytes, for any number of workers
--
-- `refused` says whether the command refuses them, or a part of them.
abbrev pub IsText : Command → List ℕ → List ℕ → Bool → Type 0
IsText (Run workers) bytes text refused = IsRunText (input_said bytes) text refused
IsText (Final workers) bytes text refused = IsFinalText (input_said bytes) text refused
IsText (Orient workers) bytes text refused = IsOrientText (input_said bytes) text refused
IsText Exact bytes text refused = IsExactText (input_said bytes) text refused
IsText Check bytes text refused = IsCheckText bytes text refused
IsText Audit bytes text refused = IsAuditText bytes text refused
IsText Dense bytes text refused = IsDenseText (input_said bytes) text refused
IsText (Gen seed n batches items workers) bytes text refused = IsLoadText (input_said bytes) text refused

-- the bytes that a sink took from a command over these bytes: a whole text with Done and Refused, else a prefix of one
abbrev pub Wrote : Command → List ℕ → Option (List ℕ) → Option (List ℕ) → Status → Type 0
Wrote command bytes before now Done = WritesWhole (IsText command bytes) before now false
Wrote command bytes before now Refused = WritesWhole (IsText command bytes) before now true
Wrote command bytes before now Usage = ⊥
Wrote command bytes before now ReadFault = WritesPrefix (IsText command bytes) before now
Wrote command bytes before now WriteFault = WritesPrefix (IsText command bytes) before now
Wrote command bytes before now Memory = WritesPrefix (IsText command bytes) before now

-- the bytes that a command works on, if they are known
--
-- `gen` makes them itself; for the other commands the source tells them.
abbrev pub worked_on : Command → Option (List ℕ) → Option (List ℕ)
worked_on (Gen seed n batches items workers) left = Some (generated seed n batches items)
worked_on command left = left

-- what Wrote says, if the bytes are known
abbrev pub WroteOf : Command → Option (List ℕ) → Option (List ℕ) → Option (List ℕ) → Status → Type 0
WroteOf command None before now status = Unit {0}
WroteOf command (Some bytes) before now status = Wrote command bytes before now status

-- the bytes that a sink took, if the words are a command and its bytes are known
--
-- With Done and Refused they are the text of the command for these bytes, refused exactly if the command refuses some
-- of them. With a fault, or if there was no memory, they are a prefix of it.
abbrev pub Answers : Option Command → Option (List ℕ) → Option (List ℕ) → Option (List ℕ) → Status → Type 0
Answers None left before now status = Unit {0}
Answers (Some command) left before now status = WroteOf command (worked_on command left) before now status

-- the command reads nothing
abbrev pub ReadsNothing : Option Command → Type 0
ReadsNothing (Some (Gen seed n batches items workers)) = Unit {0}
ReadsNothing _ = ⊥

-- the facts that hold of a command, if the source tells its bytes
--
-- In each state of `final`, `orient` and `exact` both invariants hold, and the bounds of each level bound the coreness.
-- In an exact text they also bound the printed coreness on each line of a vertex. In the last state of `orient` no
-- vertex has many out-neighbours for its coreness. The members of `dense` are at least half as dense as any vertices.
-- For `run` the facts are in its text.
abbrev pub Holds : Option Command → Option (List ℕ) → Type 0
Holds None left = Unit {0}
Holds (Some command) None = Unit {0}
Holds (Some (Run workers)) (Some bytes) = Unit {0}
Holds (Some (Final workers)) (Some bytes) = HoldsThroughout (input_said bytes)
Holds (Some (Orient workers)) (Some bytes) = HoldsThroughout (input_said bytes) × OrientsSparsely (input_said bytes)
Holds (Some Check) (Some bytes) = Unit {0}
Holds (Some Audit) (Some bytes) = Unit {0}
Holds (Some Exact) (Some bytes) = HoldsThroughout (input_said bytes) × FitsExactly (input_said bytes)
Holds (Some Dense) (Some bytes) = HasHalfDensity (input_said bytes)
Holds (Some (Gen seed n batches items workers)) (Some bytes) = Unit {0}

-- the bytes decide whether the command refuses them, or a part of them
--
-- They have a text, and each of their texts says the same about it.
pub record Decide (command : Command) (bytes : List ℕ) (refused : Bool) : Type 0 where
  pub text : List ℕ
  pub is_text : IsText command bytes text refused
  pub same : (other : List ℕ) (says : Bool) → IsText command bytes other says → says ≡ refused

-- the status of a command that ran to its end: whether it refused something
abbrev pub ending : Bool → Status
ending false = Done
ending true = Refused

-- the command ended as the bytes decide, or there was no memory
pub record EndsAsDecided (command : Command) (bytes : List ℕ) (status : Status) : Type 0 where
  pub refused : Bool
  pub decided : Decide command bytes refused
  pub ended : (status ≡ ending refused) ⊎ (status ≡ Memory)

-- there is no other answer than that which the bytes decide, or Memory
--
-- The condition is that the words are a command, its bytes are known, and neither count of faults rose.
abbrev pub IsComplete : Option Command → Option (List ℕ) → ℕ → ℕ → ℕ → ℕ → Status → Type 0
IsComplete asked left r0 r1 w0 w1 status =
    (command : Command) (bytes : List ℕ) → asked ≡ Some command → worked_on command left ≡ Some bytes → ¬ (Rose r0 r1) → ¬ (Rose w0 w1) → EndsAsDecided command bytes status
