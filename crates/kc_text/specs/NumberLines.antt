-- The fast path for lines of two numbers: what it returns, and for which lines it returns nothing.
--
-- Most lines of large inputs are two numbers, such as `12 345`, `+ 12 345` or `edge 12 345`. `LineReader::number_line`
-- and `numbers_after` read such a line in the reader's memory, if it lies whole there. Every other line goes the usual
-- way: `next_line` and then the words of its text.
--
-- Both ways give the same. `SayNumbers` and `SayNamed` state what the fast path returns over `words` and `number_of`,
-- which are all that the usual way uses. So no definition of an input's content rests on this page, and a reader of
-- those definitions can pass over it.
use Rattle.std.specs.Prelude.{ℕ, ◌+◌, ◌≡◌, true, List, [], ◌∷◌, length, take, drop, get_or, Option, Some, None, codes}
use Rattle.std.specs.List.{slice_range}
use Rattle.kc_text.specs.declared.number_line.Sign.{Sign}
use Rattle.kc_text.specs.declared.number_line.Sign.TheVariants.{Plus, Minus}
use Rattle.kc_text.specs.Words.{is_blank}
use Rattle.kc_text.specs.Numbers.{number_of}

-- 1. What the fast path returns, as words of the line.

-- words with the word of a sign before them, if there is one
abbrev pub with_sign : Option Sign → List (List ℕ) → List (List ℕ)
with_sign None ws = ws
with_sign (Some Plus) ws = codes "+" ∷ ws
with_sign (Some Minus) ws = codes "-" ∷ ws

-- these are two words that say `first` and `second`, with the word of a sign before them, if there is one
pub record SayNumbers (ws : List (List ℕ)) (sign : Option Sign) (first second : ℕ) : Type 0 where
  pub one : List ℕ
  pub two : List ℕ
  pub words_are : ws ≡ with_sign sign (one ∷ two ∷ [])
  pub one_is : number_of one ≡ Some first
  pub two_is : number_of two ≡ Some second

-- these are a name and two words that say `first` and `second`
pub record SayNamed (ws : List (List ℕ)) (name : List ℕ) (first second : ℕ) : Type 0 where
  pub one : List ℕ
  pub two : List ℕ
  pub words_are : ws ≡ name ∷ one ∷ two ∷ []
  pub one_is : number_of one ≡ Some first
  pub two_is : number_of two ≡ Some second

-- 2. The lines that the fast path takes, as bytes: it returns None for no other reason than that a line isn't one.

-- from `start` on a text is two numbers with one blank between them
pub record EndsInNumbers (text : List ℕ) (start first second : ℕ) : Type 0 where
  pub middle : ℕ
  pub one : number_of (slice_range text start middle) ≡ Some first
  pub blank : is_blank (get_or text middle 0) ≡ true
  pub two : number_of (drop (middle + 1) text) ≡ Some second

-- nothing before `start`, or a sign and a blank
abbrev pub IsFront : List ℕ → Option Sign → ℕ → Type 0
IsFront text None start = start ≡ 0
IsFront text (Some Plus) start = (start ≡ 2) × ((get_or text 0 0 ≡ 43) × (is_blank (get_or text 1 0) ≡ true))
IsFront text (Some Minus) start = (start ≡ 2) × ((get_or text 0 0 ≡ 45) × (is_blank (get_or text 1 0) ≡ true))

-- a text of two numbers with one blank between them, or of a sign, a blank and such numbers
pub record IsTwoNumbers (text : List ℕ) (sign : Option Sign) (first second : ℕ) : Type 0 where
  pub start : ℕ
  pub front : IsFront text sign start
  pub numbers : EndsInNumbers text start first second

-- a text that isn't one of two numbers
abbrev pub IsNoNumberLine : List ℕ → Type 0
IsNoNumberLine text = (sign : Option Sign) (first second : ℕ) → IsTwoNumbers text sign first second → ⊥

-- a text that begins with a name and a blank
pub record BeginsWithName (text name : List ℕ) : Type 0 where
  pub name_is : take (length name) text ≡ name
  pub blank : is_blank (get_or text (length name) 0) ≡ true

-- a text of a name, a blank, and two numbers with one blank between them
pub record IsNamedNumbers (text name : List ℕ) (first second : ℕ) : Type 0 where
  pub front : BeginsWithName text name
  pub numbers : EndsInNumbers text (length name + 1) first second

-- a text that isn't one of the name and two numbers
abbrev pub IsNoNamedLine : List ℕ → List ℕ → Type 0
IsNoNamedLine text name = (first second : ℕ) → IsNamedNumbers text name first second → ⊥
