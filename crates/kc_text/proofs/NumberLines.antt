-- Lines of two numbers that are read in one pass.
use Rattle.std.proofs.Common.{ℕ, ◌+◌, ◌-◌, ◌<◌, ◌≤◌, ◌≡◌, Bool, true, false, List, [], ◌∷◌, ◌++◌, length, take, drop, refl, sym, ap, subst, ◌∙◌, arith, get_or, inl, inr}
use Rattle.std.specs.Prelude.{Option, Some, None, IfNone, nat_lt, ◌==◌, if◌then◌else◌}
use Rattle.std.specs.List.{list_all, slice_range}
use Rattle.std.proofs.lemmas.Bool.{cases_lt}
use Rattle.std.proofs.lemmas.Bool.Decides.{nat_tests}
use Rattle.std.proofs.lemmas.List.{length-take-le, length-take, length-drop, get_or-take, get_or_past, drop-take}
use Rattle.std.proofs.lemmas.Option.{same_Some}
use Rattle.std.proofs.lemmas.List.Sums.{AllPass-from_list_all}
use Rattle.std.proofs.Math.Seq.{take-add, take-take}
use Rattle.kc_text.specs.declared.number_line.Sign.{Sign}
use Rattle.kc_text.specs.declared.number_line.Sign.TheVariants.{Plus, Minus}
use Rattle.kc_text.specs.Lines.{without_cr}
use Rattle.kc_text.specs.Words.{words, words_from, is_blank}
use Rattle.kc_text.specs.Laws.{HasNoBlank}
use Rattle.kc_text.specs.Numbers.{is_digit, number_of}
use Rattle.kc_text.specs.NumberLines.{with_sign, IsFront, EndsInNumbers, IsTwoNumbers}
use Rattle.kc_text.specs.private.WholeLines.{EndsAt}
use Rattle.kc_text.specs.private.Numbers.{DigitsTo, StopsAt, HasNoNumber}
use Rattle.kc_text.specs.private.NumberLines.{sign_of, front_by, front_of, BeginsAt, ClosesAt, NumbersStand, HaveNoNumbers, HaveNoNumberLine, NumbersTo, IsNumberLine, is_plain}
use Rattle.kc_text.proofs.DigitRuns.{range_split, digit_in, same_end, number_has, differ}
use Rattle.kc_text.proofs.Numbering.{range_length, empty_range, digit_no_blank}
use Rattle.kc_text.proofs.Runs.{run_goes_on, last_run}
use Rattle.kc_text.proofs.Wording.{range_more, closed_some}

-- a byte, and the part after it
range_first : (xs : List ℕ) (a c : ℕ) → a < c → a < length xs → slice_range xs a c ≡ get_or xs a 0 ∷ slice_range xs (a + 1) c
range_first xs a c h l =
    let one : slice_range xs a (a + 1) ≡ get_or xs a 0 ∷ [] = rw (range_more xs a a (omega arith) l, empty_range xs a) refl in
    range_split xs a (a + 1) c (omega arith) (omega arith) ∙ ap (λ ys. ys ++ slice_range xs (a + 1) c) one

-- a line's sign
pub begins_bare : (bytes : List ℕ) → BeginsAt bytes (with_sign None) 0
begins_bare bytes = record { within = omega arith; words_are = λ rest. refl; plain = λ k lt. absurd (omega arith) }

abbrev byte_of : Sign → ℕ
byte_of Plus = 43
byte_of Minus = 45

sign_byte : (x : ℕ) (plus minus : Bool) (sign : Sign) → (x == 43) ≡ plus → (x == 45) ≡ minus → Some sign ≡ (if plus then Some Plus else if minus then Some Minus else None) → x ≡ byte_of sign
sign_byte x plus minus sign e f h = grind (arith, nat_tests, same_Some)

plain_two : (x y : ℕ) (more : List ℕ) → (x == 10) ≡ false → (y == 10) ≡ false → (k : ℕ) → k < 2 → (get_or (x ∷ y ∷ more) k 0 == 10) ≡ false
plain_two x y more e f it lt = grind (arith, nat_tests)

pub blank_no_end : (b : ℕ) → is_blank b ≡ true → (b == 10) ≡ false
blank_no_end b e = grind (arith, nat_tests, e)

begins : (sign : Sign) (x y : ℕ) (more : List ℕ) → x ≡ byte_of sign → is_blank y ≡ true → BeginsAt (x ∷ y ∷ more) (with_sign (Some sign)) 2
unfolding words_from
begins sign x y more e b = grind (arith, nat_tests, plain_two, blank_no_end)

sign_in : (found sign : Option Sign) (at start : ℕ) → ◌≡◌ {A = Option (Option Sign × ℕ)} (Some (found, at)) (Some (sign, start)) → sign ≡ found
sign_in found sign at start e = ap (λ (p : Option Sign × ℕ). p.0) (sym (same_Some _ _ e))

start_in : (found sign : Option Sign) (at start : ℕ) → ◌≡◌ {A = Option (Option Sign × ℕ)} (Some (found, at)) (Some (sign, start)) → start ≡ at
start_in found sign at start e = ap (λ (p : Option Sign × ℕ). p.1) (sym (same_Some _ _ e))

begins_by : (x y : ℕ) (more : List ℕ) (found : Option Sign) (blank : Bool) (sign : Option Sign) (start : ℕ) → found ≡ sign_of x → is_blank y ≡ blank → front_by found y ≡ Some (sign, start)
    → BeginsAt (x ∷ y ∷ more) (with_sign sign) start
begins_by x y more None blank sign start e b f = rw (sign_in _ _ _ _ f, start_in _ _ _ _ f) (begins_bare (x ∷ y ∷ more))
begins_by x y more (Some found) false sign start e b f = absurd cc
begins_by x y more (Some found) true sign start e b f =
    let g = rw b at f in
    rw (sign_in _ _ _ _ g, start_in _ _ _ _ g) (begins found x y more (sign_byte x (x == 43) (x == 45) found refl refl e) b)

front_is : (x y : ℕ) (more : List ℕ) → front_of (x ∷ y ∷ more) ≡ front_by (sign_of x) y
unfolding front_of
front_is x y more = let long : nat_lt (length (x ∷ y ∷ more)) 2 ≡ false = grind (arith, nat_tests) in rw long refl

-- a line that begins with these bytes has the words of its front
pub begins_front : (bytes : List ℕ) (sign : Option Sign) (start : ℕ) → ◌≡◌ {A = Option (Option Sign × ℕ)} (Some (sign, start)) (front_of bytes) → BeginsAt bytes (with_sign sign) start
unfolding front_of
begins_front bytes sign start f = grind (arith, nat_tests, begins_by, front_is)

-- a line's end
pub closes_here : (bytes : List ℕ) (end : ℕ) → end < length bytes → get_or bytes end 0 ≡ 10 → ClosesAt bytes end end
closes_here bytes end h e = record { after = omega arith; near = omega arith; within = h; here = e; before = λ l. absurd (omega arith) }

pub closes_behind : (bytes : List ℕ) (end : ℕ) → end + 1 < length bytes → get_or bytes end 0 ≡ 13 → get_or bytes (end + 1) 0 ≡ 10 → ClosesAt bytes end (end + 1)
closes_behind bytes end h c e = record { after = omega arith; near = omega arith; within = h; here = e; before = λ _. c }

pub ruleset close_steps = (closes_here, closes_behind, nat_tests)

-- two runs with a blank between them
two_words : (one two : List ℕ) (b : ℕ) → HasNoBlank one → HasNoBlank two → 0 < length one → 0 < length two → is_blank b ≡ true → words (one ++ b ∷ two) ≡ one ∷ two ∷ []
unfolding words_from
two_words one two b h k l m e =
    let rest : words two ≡ two ∷ [] = last_run two k ∙ closed_some two [] m in
    run_goes_on [] one (b ∷ two) h ∙ rw e (closed_some one (words two) l ∙ ap (λ ws. one ∷ ws) rest)

digits_run : (run : List ℕ) → list_all is_digit run ≡ true → HasNoBlank run
digits_run run e = let all = AllPass-from_list_all is_digit run e in λ k d lt. digit_no_blank (get_or run k d) (all k d lt)

-- each byte of a number is a digit
digit_there : (bytes : List ℕ) (start value end k : ℕ) → DigitsTo bytes start value end → start ≤ k → k < end → is_plain (get_or bytes k 0) ≡ true
digit_there bytes start value end k d h l = grind (arith, nat_tests, digit_in, d.within, d.digits)

blank_there : (b : ℕ) → is_blank b ≡ true → is_plain b ≡ true
blank_there b e = grind (arith, nat_tests, e)

pub numbers : (bytes : List ℕ) (start first middle second end len : ℕ) → DigitsTo bytes start first middle → is_blank (get_or bytes middle 0) ≡ true
    → DigitsTo bytes (middle + 1) second end → ClosesAt bytes end len → NumbersTo bytes start first second len
numbers bytes start first middle second end len d b e c =
    let dn = range_length bytes start middle (omega (arith, d.after)) d.within in
    let en = range_length bytes (middle + 1) end (omega (arith, e.after)) e.within in
    record {
      end = end;
      after = omega (arith, d.after, e.after);
      closes = c;
      plain = λ k h l. elim (cases_lt k middle) [
        | inl before ↦ digit_there bytes start first middle k d h before
        | inr after ↦ elim (cases_lt middle k) [
          | inl behind ↦ digit_there bytes (middle + 1) second end k e (omega arith) l
          | inr here ↦ let at : k ≡ middle = omega arith in rw at (blank_there (get_or bytes middle 0) b)
        ]
      ];
      says = record {
        one = slice_range bytes start middle;
        two = slice_range bytes (middle + 1) end;
        words_are = ap words (range_split bytes start middle end (omega (arith, d.after)) (omega (arith, e.after)) ∙ ap (λ ys. slice_range bytes start middle ++ ys) (range_first bytes middle end (omega (arith, e.after)) (omega (arith, e.after, e.within))))
            ∙ two_words (slice_range bytes start middle) (slice_range bytes (middle + 1) end) (get_or bytes middle 0) (digits_run _ d.digits) (digits_run _ e.digits) (omega (arith, dn, d.after)) (omega (arith, en, e.after)) b;
        one_is = d.number;
        two_is = e.number;
      };
    }

blank_stops : (b : ℕ) → is_blank b ≡ true → is_digit b ≡ false
blank_stops b e = grind (arith, nat_tests, e)

close_stops : (bytes : List ℕ) (end len : ℕ) → ClosesAt bytes end len → StopsAt bytes end
close_stops bytes end len c = grind (arith, nat_tests, c.before, c.after, c.here)

-- the first number stands where digits were found
there : (bytes : List ℕ) (start value middle first second len : ℕ) → DigitsTo bytes start value middle → StopsAt bytes middle → (s : NumbersStand bytes start first second len) → s.middle ≡ middle
there bytes start value middle first second len d e s = same_end bytes start first s.middle value middle s.one (blank_stops (get_or bytes s.middle 0) s.blank) d e

-- no two numbers stand where no first one stands
pub no_first : (bytes : List ℕ) (start : ℕ) → HasNoNumber bytes start → HaveNoNumbers bytes start
no_first bytes start h = λ first second len s. h first s.middle s.one (blank_stops (get_or bytes s.middle 0) s.blank)

pub no_more : (bytes : List ℕ) (start value middle : ℕ) → DigitsTo bytes start value middle → StopsAt bytes middle → length bytes ≤ middle → HaveNoNumbers bytes start
no_more bytes start value middle d e h = λ first second len s.
    omega (arith, there bytes start value middle first second len d e s, h, s.two.after, s.two.within)

pub no_blank : (bytes : List ℕ) (start value middle : ℕ) → DigitsTo bytes start value middle → StopsAt bytes middle → is_blank (get_or bytes middle 0) ≡ false → HaveNoNumbers bytes start
no_blank bytes start value middle d e h = λ first second len s.
    differ _ (subst (λ m. is_blank (get_or bytes m 0) ≡ true) (there bytes start value middle first second len d e s) s.blank) h

pub no_second : (bytes : List ℕ) (start value middle : ℕ) → DigitsTo bytes start value middle → StopsAt bytes middle → HasNoNumber bytes (middle + 1) → HaveNoNumbers bytes start
no_second bytes start value middle d e h = λ first second len s.
    h second s.end (subst (λ m. DigitsTo bytes (m + 1) second s.end) (there bytes start value middle first second len d e s) s.two) (close_stops bytes s.end len s.closes)

pub no_close : (bytes : List ℕ) (start value middle other end : ℕ) → DigitsTo bytes start value middle → StopsAt bytes middle → DigitsTo bytes (middle + 1) other end → StopsAt bytes end
    → ((len : ℕ) → ClosesAt bytes end len → ⊥) → HaveNoNumbers bytes start
no_close bytes start value middle other end d e f t h = λ first second len s.
    let two = subst (λ m. DigitsTo bytes (m + 1) second s.end) (there bytes start value middle first second len d e s) s.two in
    let at = same_end bytes (middle + 1) second s.end other end two (close_stops bytes s.end len s.closes) f t in
    h len (subst (λ k. ClosesAt bytes k len) at s.closes)

pub ruleset number_steps = (numbers, no_first, nat_tests)

plain_no_end : (b : ℕ) → is_plain b ≡ true → (b == 10) ≡ false
plain_no_end b e = grind (arith, nat_tests, e)

plain_no_cr : (b : ℕ) → is_plain b ≡ true → (b == 13) ≡ false
plain_no_cr b e = grind (arith, nat_tests, e)

cr_no_end : (b : ℕ) → b ≡ 13 → (b == 10) ≡ false
cr_no_end b e = rw e refl

-- a last byte that is no carriage return stays
stays : (bytes : List ℕ) (n : ℕ) → 0 < n → n ≤ length bytes → (get_or bytes (n - 1) 0 == 13) ≡ false → without_cr (take n bytes) ≡ take n bytes
stays bytes n h l e = rw (length-take-le n bytes l, get_or-take n bytes (n - 1) 0 (omega arith), e) refl

-- a carriage return is dropped
goes : (bytes : List ℕ) (n : ℕ) → n < length bytes → get_or bytes n 0 ≡ 13 → without_cr (take (n + 1) bytes) ≡ take n bytes
goes bytes n l e = grind (arith, nat_tests, length-take-le, get_or-take, take-take)

text_is : (bytes : List ℕ) (end len : ℕ) → 0 < end → ClosesAt bytes end len → is_plain (get_or bytes (end - 1) 0) ≡ true → without_cr (take len bytes) ≡ take end bytes
text_is bytes end len h c p = grind (arith, nat_tests, goes, stays, plain_no_cr, c.near, c.within, c.before, c.after)

-- a line ends where the numbers after its front do
pub line_ends : (bytes : List ℕ) (front : List (List ℕ) → List (List ℕ)) (start first second len : ℕ) → BeginsAt bytes front start → NumbersTo bytes start first second len → EndsAt bytes len
line_ends bytes front start first second len b n = record {
  within = n.closes.within;
  here = n.closes.here;
  before = λ k lt. grind (arith, nat_tests, plain_no_end, cr_no_end, b.plain, n.end, n.plain, n.closes.near, n.closes.before);
}

-- the words of the line are those of the front and the two numbers
pub line_words : (bytes : List ℕ) (front : List (List ℕ) → List (List ℕ)) (start first second len : ℕ) → BeginsAt bytes front start → (n : NumbersTo bytes start first second len)
    → words (without_cr (take len bytes)) ≡ front (n.says.one ∷ n.says.two ∷ [])
line_words bytes front start first second len b n =
    let text = text_is bytes n.end len (omega (arith, n.after)) n.closes (n.plain (n.end - 1) (omega (arith, n.after)) (omega (arith, n.after))) in
    let e : n.end ≡ start + (n.end - start) = omega (arith, n.after) in
    let all : take n.end bytes ≡ take start bytes ++ slice_range bytes start n.end = ap (λ k. take k bytes) e ∙ take-add start (n.end - start) bytes in
    ap words (text ∙ all) ∙ b.words_are (slice_range bytes start n.end) ∙ ap front n.says.words_are

pub number_line : (bytes : List ℕ) (sign : Option Sign) (start first second len : ℕ) → ◌≡◌ {A = Option (Option Sign × ℕ)} (Some (sign, start)) (front_of bytes) → NumbersTo bytes start first second len
    → IsNumberLine bytes (record { sign = sign; first = first; second = second; len = len })
number_line bytes sign start first second len f n =
    let b = begins_front bytes sign start f in
    record {
      ends = line_ends bytes (with_sign sign) start first second len b n;
      says = record {
        one = n.says.one;
        two = n.says.two;
        words_are = line_words bytes (with_sign sign) start first second len b n;
        one_is = n.says.one_is;
        two_is = n.says.two_is;
      };
    }

-- the bytes of a line before its end
pub record Text (bytes : List ℕ) (len : ℕ) : Type 0 where
  pub end : ℕ
  pub closes : ClosesAt bytes end len
  pub is : without_cr (take len bytes) ≡ take end bytes

nothing_taken : (bytes : List ℕ) → (get_or (take 0 bytes) (0 - 1) 0 == 13) ≡ true → ⊥
nothing_taken bytes e = cc

pub text_with : (bytes : List ℕ) (len : ℕ) (cr : Bool) → len < length bytes → get_or bytes len 0 ≡ 10 → (get_or (take len bytes) (len - 1) 0 == 13) ≡ cr → Text bytes len
text_with bytes len false l h e = record { end = len; closes = closes_here bytes len l h; is = rw (length-take-le len bytes (omega arith), e) refl }
text_with bytes len true l h e = grind (arith, nat_tests, cases_lt 0 len, get_or-take, closes_behind, goes, nothing_taken)

-- a part of a list's beginning
range_take : (n : ℕ) (xs : List ℕ) (a b : ℕ) → a ≤ b → b ≤ n → slice_range (take n xs) a b ≡ slice_range xs a b
range_take n xs a b h l =
    let e : n ≡ a + (n - a) = omega arith in
    let cut : drop a (take n xs) ≡ take (n - a) (drop a xs) = ap (λ k. drop a (take k xs)) e ∙ drop-take a (n - a) xs in
    ap (take (b - a)) cut ∙ take-take (b - a) (n - a) (drop a xs) (omega arith)

drop_range : (n : ℕ) (xs : List ℕ) (a : ℕ) → a ≤ n → drop a (take n xs) ≡ slice_range xs a n
drop_range n xs a h =
    let e : n ≡ a + (n - a) = omega arith in
    ap (λ k. drop a (take k xs)) e ∙ drop-take a (n - a) xs

digits_of : (bytes : List ℕ) (start end value : ℕ) → start ≤ end → end ≤ length bytes → number_of (slice_range bytes start end) ≡ Some value → DigitsTo bytes start value end
digits_of bytes start end value h l e = grind (arith, nat_tests, number_has, range_length)

front_whole : (n : ℕ) (bytes : List ℕ) (sign : Option Sign) (start : ℕ) → 2 ≤ n → IsFront (take n bytes) sign start → IsFront bytes sign start
front_whole n bytes sign start h f = grind (arith, nat_tests, get_or-take)

no_blank_past : (b : ℕ) → b ≡ 0 → is_blank b ≡ true → ⊥
no_blank_past b z e = differ (is_blank b) e (rw z refl)

-- the places of the numbers that end a line
pub record Standing (bytes : List ℕ) (end start first second len : ℕ) : Type 0 where
  pub after : start + 1 < end
  pub numbers : NumbersStand bytes start first second len

pub numbers_in : (bytes : List ℕ) (end len start first second : ℕ) → ClosesAt bytes end len → EndsInNumbers (take end bytes) start first second → Standing bytes end start first second len
numbers_in bytes end len start first second c t = grind (arith, nat_tests, length-take-le, number_has, length-take, length-drop, no_blank_past, get_or_past, numbers, digits_of, range_take, get_or-take, drop_range, c.after, c.within, t.middle, t.one, t.blank, t.two)

-- a line that begins with these bytes has this sign, or none, and its numbers begin at `start`
record FrontStands (bytes : List ℕ) (sign : Option Sign) (start : ℕ) : Type 0 where
  more : 2 ≤ length bytes
  front : IsFront bytes sign start
  digit : is_digit (get_or bytes start 0) ≡ true

digit_no_sign : (b : ℕ) → is_digit b ≡ true → sign_of b ≡ None
digit_no_sign b e = grind (arith, nat_tests, e)

front_found : (bytes : List ℕ) (sign : Option Sign) (start : ℕ) → FrontStands bytes sign start → front_of bytes ≡ Some (sign, start)
unfolding front_of
front_found bytes sign start f = grind (arith, nat_tests, front_is, digit_no_sign)

-- the places of the parts of a line of two numbers
record Stands (bytes : List ℕ) (sign : Option Sign) (first second len : ℕ) : Type 0 where
  start : ℕ
  front : FrontStands bytes sign start
  numbers : NumbersStand bytes start first second len

stands_in : (bytes : List ℕ) (end len : ℕ) (sign : Option Sign) (first second : ℕ) → ClosesAt bytes end len → IsTwoNumbers (take end bytes) sign first second → Stands bytes sign first second len
stands_in bytes end len sign first second c t =
    let s = numbers_in bytes end len t.start first second c t.numbers in
    let one = s.numbers.one in
    record {
      start = t.start;
      front = record {
        more = omega (arith, s.after, c.after, c.within);
        front = front_whole end bytes sign t.start (omega (arith, s.after)) t.front;
        digit = digit_in bytes t.start s.numbers.middle t.start one.within one.digits (omega arith) one.after;
      };
      numbers = s.numbers;
    }

stands : (bytes : List ℕ) (len : ℕ) (sign : Option Sign) (first second : ℕ) → EndsAt bytes len → IsTwoNumbers (without_cr (take len bytes)) sign first second → Stands bytes sign first second len
stands bytes len sign first second e t =
    let text = text_with bytes len _ e.within e.here refl in
    stands_in bytes text.end len sign first second text.closes (subst (λ x. IsTwoNumbers x sign first second) text.is t)

-- no line of two numbers begins the bytes if its front or its numbers don't stand there
pub no_front : (bytes : List ℕ) → None ≡ front_of bytes → HaveNoNumberLine bytes
no_front bytes h = λ len e sign first second t.
    let s = stands bytes len sign first second e t in
    let found : front_of bytes ≡ Some (sign, s.start) = front_found bytes sign s.start s.front in
    cc

pub no_numbers : (bytes : List ℕ) (sign : Option Sign) (start : ℕ) → ◌≡◌ {A = Option (Option Sign × ℕ)} (Some (sign, start)) (front_of bytes) → HaveNoNumbers bytes start → HaveNoNumberLine bytes
no_numbers bytes sign start f h = λ len e other first second t.
    let s = stands bytes len other first second e t in
    let at = start_in sign other start s.start (f ∙ front_found bytes other s.start s.front) in
    h first second len (subst (λ k. NumbersStand bytes k first second len) at s.numbers)

pub none_weaker : {T P Q : Type 0} (r : Option T) → (P → Q) → IfNone r P → IfNone r Q
none_weaker r f p = grind (arith, nat_tests)
