-- What an input of scripts says: `kserve 1`, then `vertices N`, then a block for each client. All lines are lines that
-- aren't skipped; `Limit` or `End` is the last of them, so there is always one.
use Rattle.std.specs.Prelude.{ℕ, ◌+◌, nat_le, nat_lt, Bool, false, ◌&&◌, List, [], ◌∷◌, ◌++◌, length, Option, Some, None, if◌then◌else◌, codes}
use Rattle.std.specs.Str.{bytes_eq}
use Rattle.std.specs.List.{sum_by}
use Rattle.kc_graph.specs.declared.items.Item.{Item}
use Rattle.kc_graph.specs.declared.limits.TheConstants.{MAX_ITEMS}
use Rattle.kc_levels.specs.declared.profile.Profile.TheVariants.{One}
use Rattle.kc_text.specs.declared.line.Line.{Line}
use Rattle.kc_text.specs.declared.reason.Reason.{Reason}
use Rattle.kc_text.specs.declared.reason.Reason.TheVariants.{Header, TooMany}
use Rattle.kc_text.specs.Lines.{lines}
use Rattle.kc_text.specs.Words.{words}
use Rattle.kc_text.specs.Kept.{kept, text_of}
use Rattle.kc_batch.specs.declared.rules.Rules.{Rules}
use Rattle.kc_batch.specs.declared.batch.Next.{Next}
use Rattle.kc_batch.specs.declared.batch.Next.TheVariants as next
use Rattle.kc_batch.specs.Headers.{vertices_in}
use Rattle.kc_batch.specs.Tokens.{tokens}
use Rattle.kc_batch.specs.Batches.{batches}
use Rattle.kc_intake.specs.declared.limits.TheConstants.{MAX_CLIENTS}
use Rattle.kserve.specs.declared.limits.TheConstants.{LINE_LIMIT, INPUT_LIMIT}
use Rattle.kserve.specs.declared.head.Head.{Head}
use Rattle.kserve.specs.declared.head.Head.TheVariants as head

-- a number of vertices and the script of each client, in the order of their numbers
--
-- Or the line at which the input is refused, and the reason.
pub data ScriptInput : Type 0 where
  WithScripts : (n : ℕ) (scripts : List (List Item)) → ScriptInput
  Refused : (line : ℕ) (reason : Reason) → ScriptInput

-- what a block has to keep to: it is a batch of the first profile
abbrev pub rules_for : ℕ → Rules
rules_for n = record { n = n; profile = One; item_limit = MAX_ITEMS }

-- how many items scripts have together
abbrev pub items_in : List (List Item) → ℕ
items_in scripts = sum_by length scripts

-- a script of `more` items may follow `scripts` others, which have `count` items together: there are at most 64
-- scripts, and at most 1,048,576 items
abbrev pub has_room : ℕ → ℕ → ℕ → Bool
has_room scripts count more = nat_lt scripts MAX_CLIENTS && nat_le (count + more) MAX_ITEMS

-- the scripts of these and of further blocks, in order
--
-- The first block that is refused decides, or the first for which there is no room. That one is refused at its `end`,
-- as too many.
unfoldable pub scripts_from : ℕ → List (List Item) → List Next → ScriptInput
scripts_from n found [] = WithScripts n found
scripts_from n found (next.Items batch ∷ rest) =
    if has_room (length found) (items_in found) (length batch.items) then scripts_from n (found ++ batch.items ∷ []) rest
    else Refused batch.line TooMany
scripts_from n found (next.Refused line reason ∷ rest) = Refused line reason
scripts_from n found (next.End ∷ rest) = WithScripts n found

-- after a head: the blocks of a graph of n vertices; or the refused line of the head
abbrev pub after_head : Head → List Line → ScriptInput
after_head (head.Vertices n) rest = scripts_from n [] (batches (rules_for n) (tokens rest))
after_head (head.Refused line) rest = Refused line Header

-- the two words `kserve` and `1`
unfoldable pub is_magic : List (List ℕ) → Bool
is_magic (name ∷ version ∷ []) = bytes_eq name (codes "kserve") && bytes_eq version (codes "1")
is_magic _ = false

abbrev pub head_of : ℕ → Option ℕ → Head
head_of line (Some n) = head.Vertices n
head_of line None = head.Refused line

-- after the first line the number of vertices is due
unfoldable pub after_magic : List Line → ScriptInput
after_magic [] = Refused 0 Header
after_magic (line ∷ rest) = after_head (head_of line.number (vertices_in (words (text_of line.body)))) rest

-- `kserve 1` is due
unfoldable pub input_from : List Line → ScriptInput
input_from [] = Refused 0 Header
input_from (line ∷ rest) = if is_magic (words (text_of line.body)) then after_magic rest else Refused line.number Header

-- lines have at most 65,536 bytes, and the input at most 1,073,741,824
abbrev pub input_said : List ℕ → ScriptInput
input_said bytes = input_from (kept (lines LINE_LIMIT INPUT_LIMIT bytes))
