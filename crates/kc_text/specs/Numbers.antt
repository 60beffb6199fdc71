-- Numbers of a text.
use Rattle.std.specs.Prelude.{ℕ, ◌≡◌, ◌≤◌, ◌+◌, ◌-◌, ◌*◌, ◌^◌, nat_le, nat_lt, Bool, ◌&&◌, List, [], ◌∷◌, length, drop, Option, Some, None, if◌then◌else◌}
use Rattle.std.specs.List.{list_all}
use Rattle.kc_text.specs.Words.{words}

-- an ASCII digit
abbrev pub is_digit : ℕ → Bool
is_digit b = nat_le 48 b && nat_le b 57

-- the value of digits that stand after digits of the value given
unfoldable pub value_from : ℕ → List ℕ → ℕ
value_from value [] = value
value_from value (d ∷ ds) = value_from (10 * value + (d - 48)) ds

-- one to ten digits, of a value below 2 ^ 32
abbrev pub is_number : List ℕ → Bool
is_number bs = (nat_lt 0 (length bs) && nat_le (length bs) 10) && (list_all is_digit bs && nat_lt (value_from 0 bs) (2 ^ 32))

-- the number of these bytes, if they are one
abbrev pub number_of : List ℕ → Option ℕ
number_of bs = if is_number bs then Some (value_from 0 bs) else None

-- the first word at or after `from` is this number, and the other words lie after its end
pub record NumberAt (line : List ℕ) (from value end : ℕ) : Type 0 where
  pub word : List ℕ
  pub within : end ≤ length line
  pub words_are : words (drop from line) ≡ word ∷ words (drop end line)
  pub number : number_of word ≡ Some value

-- the first of the words is no number, or there is no word
abbrev pub IsNoNumber : List (List ℕ) → Type 0
IsNoNumber [] = Unit {0}
IsNoNumber (w ∷ ws) = number_of w ≡ None
