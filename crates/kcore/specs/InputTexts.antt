-- The text of a command for a batch input.
use Rattle.std.specs.Prelude.{ℕ, ◌≡◌, Bool, true, List}
use Rattle.kc_batch.specs.declared.batch.Next.{Next}
use Rattle.kc_batch.specs.HeaderShape.{HeaderShape}
use Rattle.kc_batch.specs.Batches.{batches}
use Rattle.kc_batch.specs.BatchInputs.{BatchInput, WithBatches, HeaderRefused}
use Rattle.kc_report.specs.Lines.{header_refused_line}

-- the text of an input, and whether the input, or a part of it, is refused
--
-- `IsText` defines the texts for the batches after a header, each with whether some of them are refused.
abbrev pub IsTextOf : (HeaderShape → List Next → List ℕ → Bool → Type 0) → BatchInput → List ℕ → Bool → Type 0
IsTextOf IsText (HeaderRefused line) text refused = (text ≡ header_refused_line line) × (refused ≡ true)
IsTextOf IsText (WithBatches header batches) text refused = IsText header batches text refused
