-- Bytes that are whole lines, each of which says an item.
use Rattle.std.specs.Prelude.{ℕ, ◌+◌, ◌≡◌, ◌≤◌, All, List, [], ◌∷◌, ◌++◌, length, take}
use Rattle.kc_graph.specs.declared.items.Item.{Item}
use Rattle.kc_text.specs.Lines.{lines_from}
use Rattle.kc_text.specs.Kept.{kept}
use Rattle.kc_batch.specs.declared.rules.Rules.{Rules}
use Rattle.kc_batch.specs.declared.token.Token.{Token}
use Rattle.kc_batch.specs.declared.token.Kind.TheVariants as kind
use Rattle.kc_batch.specs.Tokens.{tokens}
use Rattle.kc_batch.specs.Turns.{IsItemOf}

-- the tokens of bytes that begin with line n; at most `room` of them are made into lines
abbrev pub tokens_in : ℕ → ℕ → ℕ → List ℕ → List Token
tokens_in limit n room bytes = tokens (kept (lines_from limit n room [] bytes))

-- one token for each item, of lines n and on
abbrev pub item_tokens : ℕ → List Item → List Token
item_tokens n [] = []
item_tokens n (item ∷ rest) = record { number = n; kind = kind.Item item } ∷ item_tokens (n + 1) rest

-- these bytes are whole lines, and each line says one of these items, wherever in an input the bytes stand
pub record SayItems (limit : ℕ) (bytes : List ℕ) (items : List Item) : Type 0 where
  pub few : length items ≤ length bytes
  pub tokens : (n room total : ℕ) (rest : List ℕ) → total ≡ length bytes + room → tokens_in limit n total (bytes ++ rest) ≡ item_tokens n items ++ tokens_in limit (n + length items) room rest

-- these bytes are whole lines that say items, which a batch may have; the new list is the old one and these items
pub record AddLines (rules : Rules) (limit : ℕ) (bytes : List ℕ) (old new : List Item) : Type 0 where
  pub added : List Item
  pub new_is : new ≡ old ++ added
  pub say : SayItems limit bytes added
  pub sound : All (IsItemOf rules) added

-- the first `len` bytes add items, which fit the batch
pub record WalksLines (rules : Rules) (limit : ℕ) (bytes : List ℕ) (old new : List Item) (len : ℕ) : Type 0 where
  pub few : length new ≤ rules.item_limit
  pub within : len ≤ length bytes
  pub adds : AddLines rules limit (take len bytes) old new
