-- The blank ledger from which a phase makes the counter of its steps.
use Rattle.std.specs.Prelude.{ℕ, ◌≡◌, ◌<◌}

-- a blank ledger of this name and number of parts is for the ledger `name`, which has some parts
pub record IsBlankFor (name parts blank_name blank_parts : ℕ) : Type 0 where
  pub name_is : blank_name ≡ name
  pub parts_are : blank_parts ≡ parts
  pub some_part : 0 < parts
