-- The order of tokens that come from a reader.
use Rattle.std.specs.Prelude.{ℕ, ◌<◌, ◌≤◌, List, [], ◌∷◌, Option, Some, None, if◌then◌else◌}
use Rattle.kc_graph.specs.declared.items.Item.{Item}
use Rattle.kc_graph.specs.declared.items.Item.TheVariants.{Insert, Delete}
use Rattle.kc_text.specs.declared.number_line.Sign.{Sign}
use Rattle.kc_text.specs.declared.number_line.Sign.TheVariants.{Plus, Minus}
use Rattle.kc_text.specs.Words.{words, is_skip}
use Rattle.kc_batch.specs.declared.token.Token.{Token}
use Rattle.kc_batch.specs.declared.token.Kind.{Kind}
use Rattle.kc_batch.specs.declared.token.Kind.TheVariants.{Limit, InputEnd}
use Rattle.kc_batch.specs.Tokens.{kind_of_words}

-- the meaning of a text, unless it is skipped
unfoldable pub kind_of_text : List ℕ → Option Kind
kind_of_text text = if is_skip (words text) then None else Some (kind_of_words (words text))

-- the item of two numbers with this sign, or none, before them
abbrev pub item_of : Option Sign → ℕ → ℕ → Item
item_of None u v = Insert u v
item_of (Some Plus) u v = Insert u v
item_of (Some Minus) u v = Delete u v

-- the tokens that follow one of this kind: none after the end of the input or its limit
abbrev pub behind_kind : Kind → List Token → List Token
behind_kind Limit rest = []
behind_kind InputEnd rest = []
behind_kind _ rest = rest

-- a token, and the tokens that follow it
abbrev pub onto_token : Token → List Token → List Token
onto_token t rest = t ∷ behind_kind t.kind rest

-- a token that comes again at each later call
abbrev pub IsLastKind : Kind → Type 0
IsLastKind Limit = Unit {0}
IsLastKind InputEnd = Unit {0}
IsLastKind _ = ⊥

-- a token takes some of a reader's budget, and the last gives none back
abbrev pub TakesToken : Kind → ℕ → ℕ → Type 0
TakesToken Limit old new = new ≤ old
TakesToken InputEnd old new = new ≤ old
TakesToken _ old new = new < old
