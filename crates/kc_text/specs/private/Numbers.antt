-- The digits at a place of a line.
use Rattle.std.specs.Prelude.{ℕ, ◌≡◌, ◌<◌, ◌≤◌, true, false, List, length, drop, get_or, Some}
use Rattle.std.specs.List.{list_all, slice_range}
use Rattle.kc_text.specs.Words.{words, words_from}
use Rattle.kc_text.specs.Numbers.{is_digit, value_from, number_of}

-- the bytes from `start` to `end` are digits of this value
pub record DigitsAt (line : List ℕ) (start value end : ℕ) : Type 0 where
  pub after : start ≤ end
  pub within : end ≤ length line
  pub digits : list_all is_digit (slice_range line start end) ≡ true
  pub value_is : value_from 0 (slice_range line start end) ≡ value
  pub words_are : words (drop start line) ≡ words_from (slice_range line start end) (drop end line)

-- the bytes from `start` to `end` are digits of this number, which fits in 32 bits
pub record DigitsTo (line : List ℕ) (start value end : ℕ) : Type 0 where
  pub after : start < end
  pub within : end ≤ length line
  pub digits : list_all is_digit (slice_range line start end) ≡ true
  pub number : number_of (slice_range line start end) ≡ Some value

-- no digit follows the digits before this place
abbrev pub StopsAt : List ℕ → ℕ → Type 0
StopsAt line end = is_digit (get_or line end 0) ≡ false

-- digits from `start` on, of any length, are no number
abbrev pub HasNoNumber : List ℕ → ℕ → Type 0
HasNoNumber line start = (value end : ℕ) → DigitsTo line start value end → StopsAt line end → ⊥
