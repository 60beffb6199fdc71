-- Runs of digits of any length.
use Rattle.std.proofs.Common.{ℕ, ◌+◌, ◌-◌, ◌*◌, ◌<◌, ◌≤◌, ◌≡◌, ◌^◌, Bool, true, false, List, [], ◌∷◌, ◌++◌, length, drop, refl, sym, ap, ◌∙◌, arith, get_or}
use Rattle.std.specs.Prelude.{Some, None, nat_lt, nat_le, ◌&&◌, if◌then◌else◌}
use Rattle.std.specs.List.{list_all, slice_range}
use Rattle.std.proofs.lemmas.Bool.Decides.{nat_tests}
use Rattle.std.proofs.lemmas.Option.{same_Some}
use Rattle.std.proofs.lemmas.List.{get_or-take, get_or-drop, get_or_past, drop-drop}
use Rattle.std.proofs.lemmas.List.Sums.{AllPass-from_list_all}
use Rattle.std.proofs.Math.Seq.{take-add}
use Rattle.kc_text.specs.Numbers.{is_digit, value_from, number_of}
use Rattle.kc_text.specs.private.Numbers.{DigitsAt, DigitsTo, StopsAt, HasNoNumber}
use Rattle.kc_text.proofs.Digits.{value_rises}
use Rattle.kc_text.proofs.Numbering.{more_digits, number_is, range_length}

-- a part of a list, cut in two
pub range_split : (xs : List ℕ) (a b c : ℕ) → a ≤ b → b ≤ c → slice_range xs a c ≡ slice_range xs a b ++ slice_range xs b c
range_split xs a b c h l =
    let e : c - a ≡ (b - a) + (c - b) = omega arith in
    let j : a + (b - a) ≡ b = omega arith in
    rw (e, take-add (b - a) (c - b) (drop a xs), drop-drop, j) refl

pub range_at : (xs : List ℕ) (a b k : ℕ) → a ≤ k → k < b → get_or (slice_range xs a b) (k - a) 0 ≡ get_or xs k 0
range_at xs a b k h l = grind (arith, nat_tests, get_or-take, get_or-drop)

-- a run of at most ten digits that says a number
pub digits_end : (bytes : List ℕ) (start value end : ℕ) → DigitsAt bytes start value end → start < end → end - start ≤ 10 → value < 2 ^ 32 → DigitsTo bytes start value end
digits_end bytes start value end d h l s = grind (arith, nat_tests, range_length, number_is, d.after, d.within, d.digits, d.value_is)

-- each byte of a run is a digit
pub digit_in : (line : List ℕ) (start end k : ℕ) → end ≤ length line → list_all is_digit (slice_range line start end) ≡ true → start ≤ k → k < end → is_digit (get_or line k 0) ≡ true
digit_in line start end k w d h l =
    let n = range_length line start end (omega arith) w in
    let all = AllPass-from_list_all is_digit (slice_range line start end) d (k - start) 0 (omega (arith, n)) in
    rw (range_at line start end k h l) at all

pub differ : (b : Bool) → b ≡ true → b ≡ false → ⊥
differ b e f = grind (arith, nat_tests)

-- a run that stops is no shorter than another from the same place
no_shorter : (line : List ℕ) (start end k : ℕ) → end ≤ length line → list_all is_digit (slice_range line start end) ≡ true → start ≤ k → StopsAt line k → end ≤ k
no_shorter line start end k w d h s = grind (arith, nat_tests, differ, digit_in)

-- so two runs from one place are the same if both stop
pub same_end : (line : List ℕ) (start first one second two : ℕ) → DigitsTo line start first one → StopsAt line one → DigitsTo line start second two → StopsAt line two → one ≡ two
same_end line start first one second two a s b t = grind (arith, nat_tests, no_shorter, a.within, a.digits, b.after, b.within, b.digits, a.after)

value_append : (v : ℕ) (a b : List ℕ) → value_from v (a ++ b) ≡ value_from (value_from v a) b
unfolding value_from
value_append v [] b = refl
value_append v (x ∷ xs) b = value_append (10 * v + (x - 48)) xs b

-- the facts about the bytes of a number
pub record Number (w : List ℕ) (value : ℕ) : Type 0 where
  pub some : 0 < length w
  pub few : length w ≤ 10
  pub digits : list_all is_digit w ≡ true
  pub value_is : value_from 0 w ≡ value
  pub small : value < 2 ^ 32

number_parts : (w : List ℕ) (some few digits small : Bool) (x value : ℕ) → nat_lt 0 (length w) ≡ some → nat_le (length w) 10 ≡ few → list_all is_digit w ≡ digits → nat_lt x (2 ^ 32) ≡ small → value_from 0 w ≡ x
    → (if (some && few) && (digits && small) then Some x else None) ≡ Some value → Number w value
number_parts w some few digits small x value a b d s v e = grind (arith, nat_tests, same_Some)

pub number_has : (w : List ℕ) (value : ℕ) → number_of w ≡ Some value → Number w value
number_has w value e = number_parts w _ _ _ _ (value_from 0 w) value refl refl refl refl refl e

-- no number stands where the digits have too large a value
pub too_large : (line : List ℕ) (start value at more : ℕ) → DigitsAt line start value at → at < length line → is_digit (get_or line at 0) ≡ true → more ≡ 10 * value + (get_or line at 0 - 48)
    → 2 ^ 32 ≤ more → HasNoNumber line start
too_large line start value at more d l e m h = λ v end n s.
    let r = more_digits line start value at more d l e m in
    let long = no_shorter line start (at + 1) end r.within r.digits (omega (arith, n.after)) s in
    let w = number_has (slice_range line start end) v n.number in
    let split = range_split line start (at + 1) end r.after long in
    let all : v ≡ value_from more (slice_range line (at + 1) end) = sym w.value_is ∙ ap (value_from 0) split ∙ value_append 0 (slice_range line start (at + 1)) (slice_range line (at + 1) end)
    ∙ ap (λ x. value_from x (slice_range line (at + 1) end)) r.value_is in
    omega (arith, h, w.small, all, value_rises more (slice_range line (at + 1) end))

-- no number stands where there is no digit
pub no_digit : (line : List ℕ) (start : ℕ) → StopsAt line start → HasNoNumber line start
no_digit line start stop = λ v end n s. differ _ (digit_in line start end start n.within n.digits (omega arith) n.after) stop

-- no number stands where there are too many digits
pub too_many : (line : List ℕ) (start value at : ℕ) → DigitsAt line start value at → StopsAt line at → 10 < at - start → HasNoNumber line start
too_many line start value at d stop h = grind (arith, nat_tests, no_shorter, number_has, range_length, d.within, d.digits)

pub past_stops : (line : List ℕ) (at : ℕ) → length line ≤ at → StopsAt line at
past_stops line at h = rw (get_or_past line at 0 h) refl

pub ruleset digit_steps = (digits_end, no_digit, too_many, nat_tests)
