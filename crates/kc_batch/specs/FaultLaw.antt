-- The first fault decides: the result for a batch of lines, stated without the order of reading.
use Rattle.std.specs.Prelude.{ℕ, ◌≡◌, ◌≤◌, nat_le, Bool, true, false, List, [], ◌∷◌, ◌++◌, length, All}
use Rattle.kc_graph.specs.declared.items.Item.{Item}
use Rattle.kc_text.specs.declared.reason.Reason.{Reason}
use Rattle.kc_batch.specs.declared.rules.Rules.{Rules}
use Rattle.kc_batch.specs.declared.token.Token.{Token}
use Rattle.kc_batch.specs.declared.token.Kind.{Kind}
use Rattle.kc_batch.specs.declared.token.Kind.TheVariants as kind
use Rattle.kc_batch.specs.declared.turn.Turn.TheVariants.{Pass, Stop}
use Rattle.kc_batch.specs.declared.batch.Next.TheVariants.{Refused}
use Rattle.kc_batch.specs.Turns.{turn_of, IsItemOf}
use Rattle.kc_batch.specs.Batches.{whole, after_end, batch_of, batches, behind_batch}

abbrev pub line_at : ℕ → Kind → Token
line_at number kind = record { number = number; kind = kind }

-- lines of these items, each with its number
abbrev pub item_lines : List (ℕ × Item) → List Token
item_lines [] = []
item_lines (l ∷ ls) = line_at l.0 (kind.Item l.1) ∷ item_lines ls

abbrev pub items_of : List (ℕ × Item) → List Item
items_of [] = []
items_of (l ∷ ls) = l.1 ∷ items_of ls

-- after a fault a line of this kind is passed over, and the next line is read
abbrev pub is_passed : Kind → Bool
is_passed kind.BatchEnd = false
is_passed kind.Limit = false
is_passed kind.InputEnd = false
is_passed _ = true

-- the batch of `batch`, some items that are allowed, and then a line that ends the items
--
-- That line is `end`, a fault, or the place where the input ends.
pub record FirstFaultDecides : Type 0 where
  pub accepted : (rules : Rules) (first last : ℕ) (ls : List (ℕ × Item)) (rest : List Token) → All (λ l. IsItemOf rules l.1) ls → length ls ≤ rules.item_limit
      → batch_of rules (line_at first kind.BatchStart ∷ item_lines ls ++ line_at last kind.BatchEnd ∷ rest) ≡ (whole (items_of ls) last, rest)
  pub refused : (rules : Rules) (first last : ℕ) (ls : List (ℕ × Item)) (k : Kind) (reason : Reason) (rest : List Token) → All (λ l. IsItemOf rules l.1) ls → length ls ≤ rules.item_limit
      → turn_of rules (nat_le rules.item_limit (length ls)) k ≡ Pass reason
      → batch_of rules (line_at first kind.BatchStart ∷ item_lines ls ++ line_at last k ∷ rest) ≡ (Refused last reason, after_end rest)
  pub stopped : (rules : Rules) (first last : ℕ) (ls : List (ℕ × Item)) (k : Kind) (reason : Reason) (rest : List Token) → All (λ l. IsItemOf rules l.1) ls → length ls ≤ rules.item_limit
      → turn_of rules (nat_le rules.item_limit (length ls)) k ≡ Stop reason
      → batch_of rules (line_at first kind.BatchStart ∷ item_lines ls ++ line_at last k ∷ rest) ≡ (Refused last reason, line_at last k ∷ [])
  -- all lines up to and with the next `end` are passed over
  pub passed : (ts rest : List Token) (last : ℕ) → All (λ t. is_passed t.kind ≡ true) ts → after_end (ts ++ line_at last kind.BatchEnd ∷ rest) ≡ rest

-- the batches of lines, as a command applies them
--
-- They are the batch to which the first-fault law leads, and then the batches of the lines after it.
abbrev pub BatchesFollow : Type 0
BatchesFollow = (rules : Rules) (ts : List Token) → batches rules ts ≡ behind_batch (batch_of rules ts).0 (batches rules (batch_of rules ts).1)
