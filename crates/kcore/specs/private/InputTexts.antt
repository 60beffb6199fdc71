-- The batches after each header have a text.
use Rattle.std.specs.Prelude.{ℕ, Bool, List}
use Rattle.kc_graph.specs.declared.limits.TheConstants.{MAX_ITEMS}
use Rattle.kc_batch.specs.declared.token.Token.{Token}
use Rattle.kc_batch.specs.declared.batch.Next.{Next}
use Rattle.kc_batch.specs.HeaderShape.{HeaderShape}
use Rattle.kc_batch.specs.Batches.{batches}
use Rattle.kc_batch.specs.BatchInputs.{rules_of}

-- the batches after each header have a text
abbrev pub HasTexts : (HeaderShape → List Next → List ℕ → Bool → Type 0) → Type 0
HasTexts IsText = (header : HeaderShape) (said : List Token) → (text : List ℕ) × ((refused : Bool) × IsText header (batches (rules_of header MAX_ITEMS) said) text refused)
