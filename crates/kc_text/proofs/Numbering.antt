-- Steps of a number that is read where it stands in a line.
use Rattle.std.proofs.Common.{ℕ, zero, suc, ◌+◌, ◌-◌, ◌*◌, ◌^◌, ◌<◌, ◌≤◌, ◌≡◌, true, false, List, [], ◌∷◌, ◌++◌, length, drop, refl, subst, ◌∙◌, arith, add-one, get_or}
use Rattle.std.specs.Prelude.{Some}
use Rattle.std.specs.List.{list_all, slice_range}
use Rattle.std.proofs.lemmas.Bool.Decides.{nat_tests}
use Rattle.std.proofs.Math.Nat.{pow-succ'}
use Rattle.std.proofs.lemmas.List.{length-take, length-drop}
use Rattle.std.proofs.lemmas.List.Folds.{list_all-append}
use Rattle.kc_text.specs.Numbers.{is_digit, value_from, number_of, NumberAt}
use Rattle.kc_text.specs.private.Numbers.{DigitsAt}
use Rattle.kc_text.specs.Words.{words, words_from, is_blank, closed}
use Rattle.kc_text.proofs.Wording.{range_more, word_goes_on, word_stop, word_end, closed_some}

pub value_last : (v : ℕ) (bs : List ℕ) (d : ℕ) → value_from v (bs ++ d ∷ []) ≡ 10 * value_from v bs + (d - 48)
unfolding value_from
value_last v [] d = refl
value_last v (b ∷ bs) d = value_last (10 * v + (b - 48)) bs d

pub digit_no_blank : (d : ℕ) → is_digit d ≡ true → is_blank d ≡ false
digit_no_blank d e = grind (arith, nat_tests, e)

pub empty_range : (line : List ℕ) (start : ℕ) → slice_range line start start ≡ []
empty_range line start = let z : start - start ≡ 0 = omega arith in rw z refl

-- no digits yet
pub no_digits : (line : List ℕ) (start : ℕ) → start ≤ length line → DigitsAt line start 0 start
unfolding value_from
no_digits line start h = record {
  after = omega arith;
  within = h;
  digits = rw (empty_range line start) refl;
  value_is = rw (empty_range line start) refl;
  words_are = rw (empty_range line start) refl;
}

-- one more digit
pub more_digits : (line : List ℕ) (start value at more : ℕ) → DigitsAt line start value at → at < length line → is_digit (get_or line at 0) ≡ true → more ≡ 10 * value + (get_or line at 0 - 48)
    → DigitsAt line start more (at + 1)
more_digits line start value at more d l e m = record {
  after = omega (arith, d.after);
  within = omega arith;
  digits = rw (range_more line start at d.after l, list_all-append is_digit (slice_range line start at) (get_or line at 0 ∷ []), d.digits, e) refl;
  value_is = rw (range_more line start at d.after l, value_last 0 (slice_range line start at) (get_or line at 0), d.value_is, m) refl;
  words_are = d.words_are ∙ word_goes_on line start at d.after l (digit_no_blank (get_or line at 0) e);
}

-- one more digit after a count of them
pub count_digit : (line : List ℕ) (start value count more : ℕ) → DigitsAt line start value (start + count) → start + count < length line → is_digit (get_or line (start + count) 0) ≡ true
    → more ≡ 10 * value + (get_or line (start + count) 0 - 48) → DigitsAt line start more (start + (count + 1))
count_digit line start value count more d l e m =
    let next : start + count + 1 ≡ start + (count + 1) = omega arith in
    subst (λ k. DigitsAt line start more k) next (more_digits line start value (start + count) more d l e m)

-- a value of so many digits, and of one digit more
ten_rises : (k c : ℕ) → 10 ^ c ≤ 10 ^ (k + c)
ten_rises zero c = let z : zero + c ≡ c = omega arith in rw z (omega arith)
ten_rises (suc k) c = let s : suc k + c ≡ suc (k + c) = omega arith in rw s (omega (arith, pow-succ' 10 (k + c), ten_rises k c))

pub near_value : (v c : ℕ) → v < 10 ^ c → c ≤ 8 → v < 10 ^ 8
near_value v c h l =
    let e : 8 - c + c ≡ 8 = omega arith in
    omega (arith, subst (λ n. 10 ^ c ≤ 10 ^ n) e (ten_rises (8 - c) c))

pub next_value : (v c d : ℕ) → v < 10 ^ c → d < 10 → 10 * v + d < 10 ^ (c + 1)
next_value v c d h e = let p : 10 ^ (c + 1) ≡ 10 * 10 ^ c = rw add-one (pow-succ' 10 c) in omega arith

pub next_near : (v c d : ℕ) → v < 10 ^ c → c < 8 → d < 10 → 10 * v + d < 10 ^ 8
next_near v c d h l e = near_value _ (c + 1) (next_value v c d h e) (omega arith)

pub number_is : (bs : List ℕ) (value : ℕ) → 0 < length bs → length bs ≤ 10 → list_all is_digit bs ≡ true → value_from 0 bs ≡ value → value < 2 ^ 32 → number_of bs ≡ Some value
number_is bs value a b d e s = grind (arith, nat_tests)

pub range_length : (line : List ℕ) (start end : ℕ) → start ≤ end → end ≤ length line → length (slice_range line start end) ≡ end - start
range_length line start end h l = simp (length-take, length-drop) (omega arith)

-- the digits are a word
number_at : (line : List ℕ) (start value end : ℕ) → DigitsAt line start value end → start < end → end - start ≤ 10 → value < 2 ^ 32
    → words_from (slice_range line start end) (drop end line) ≡ closed (slice_range line start end) (words (drop end line)) → NumberAt line start value end
number_at line start value end d h l s e = grind (arith, nat_tests, range_length, closed_some, number_is, d.after, d.within, d.words_are, d.digits, d.value_is)

pub number_before_blank : (line : List ℕ) (start value end : ℕ) → DigitsAt line start value end → start < end → end - start ≤ 10 → value < 2 ^ 32 → end < length line → is_blank (get_or line end 0) ≡ true
    → NumberAt line start value end
number_before_blank line start value end d h l s b e = number_at line start value end d h l s (word_stop (slice_range line start end) line end b e)

pub number_at_end : (line : List ℕ) (start value end : ℕ) → DigitsAt line start value end → start < end → end - start ≤ 10 → value < 2 ^ 32 → length line ≤ end → NumberAt line start value end
number_at_end line start value end d h l s b = number_at line start value end d h l s (word_end (slice_range line start end) line end b)

pub ruleset digit_steps = (no_digits, more_digits, nat_tests)

pub ruleset number_steps = (number_before_blank, number_at_end, nat_tests)
