-- The content of an input, if the source tells its bytes or not: its header first, and the batches of the rest.
use Rattle.std.proofs.Common.{ℕ, ◌≡◌, List, refl, ◌∙◌}
use Rattle.std.specs.Prelude.{Option, None, Some, Result, Ok, Err}
use Rattle.std.specs.Option.{option_map}
use Rattle.kc_text.specs.declared.line.Line.{Line}
use Rattle.kc_text.specs.Lines.{lines}
use Rattle.kc_text.specs.Reading.{Reading, lines_left}
use Rattle.kc_text.specs.Kept.{kept_left}
use Rattle.kc_batch.specs.HeaderShape.{HeaderShape}
use Rattle.kc_batch.specs.declared.header.HeaderFault.{HeaderFault}
use Rattle.kc_batch.specs.declared.header.HeaderFault.TheVariants as fault
use Rattle.kc_batch.specs.Headers.{HeaderText, Accepted, refused_at, header_of, Answers}
use Rattle.kc_batch.specs.Tokens.{tokens}
use Rattle.kc_batch.specs.Batches.{batches}
use Rattle.kc_batch.specs.BatchInputs.{BatchInput, WithBatches, HeaderRefused, rules_of, behind_header, input_of}

-- an answer of what is left is an answer of the whole
pub answer_before : (rule later : List Line → HeaderText) (before mid now : Option (List Line)) (result : Result HeaderShape HeaderFault)
    → option_map rule before ≡ option_map later mid → Answers later mid now result → Answers rule before now result
answer_before rule later before mid now (Ok header) e h = e ∙ h
answer_before rule later before mid now (Err (fault.Refused line)) e h = e ∙ h
answer_before rule later before mid now (Err fault.ReadFault) e h = tt
answer_before rule later before mid now (Err (fault.Memory _)) e h = tt

-- the meanings of the lines that a reader has still to give, if it stands before the header
abbrev pub input_left : ℕ → Option (List Line) → Option BatchInput
input_left item_limit left = option_map (behind_header item_limit) (option_map header_of left)

-- a new reader has the whole input to give
pub told_input : (line_limit input_limit item_limit : ℕ) (r : Reading) (left : Option (List ℕ)) → lines_left r left ≡ option_map (lines line_limit input_limit) left
    → input_left item_limit (kept_left r left) ≡ option_map (input_of line_limit input_limit item_limit) left
told_input line_limit input_limit item_limit r None e = rw e refl
told_input line_limit input_limit item_limit r (Some bytes) e = rw e refl

-- an input with a header is that header, and the batches of the rest
pub told_accepted : (item_limit : ℕ) (header : HeaderShape) (before now : Option (List Line)) → option_map header_of before ≡ option_map (Accepted header) now
    → input_left item_limit before ≡ option_map (WithBatches header) (option_map (batches (rules_of header item_limit)) (option_map tokens now))
told_accepted item_limit header before None e = rw e refl
told_accepted item_limit header before (Some rest) e = rw e refl

-- an input without a header is refused at that line
pub told_refused : (item_limit line : ℕ) (before now : Option (List Line)) → option_map header_of before ≡ option_map (refused_at line) now
    → input_left item_limit before ≡ option_map (λ _. HeaderRefused line) now
told_refused item_limit line before None e = rw e refl
told_refused item_limit line before (Some rest) e = rw e refl
