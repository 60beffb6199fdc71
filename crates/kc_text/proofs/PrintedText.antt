-- Printed text is read back as itself.
use Rattle.std.proofs.Common.{ℕ, suc, zero, ◌+◌, ◌-◌, ◌/◌, ◌%◌, ◌^◌, ◌≤◌, ◌<◌, ◌≡◌, Bool, true, false, List, [], ◌∷◌, ◌++◌, length, refl, ap, ◌∙◌, arith, append_assoc, length-append}
use Rattle.std.specs.Prelude.{nat_lt, nat_le, ◌&&◌, ◌==◌, decimal, slice_index}
use Rattle.std.specs.List.{list_all, join_with_byte}
use Rattle.std.proofs.lemmas.Bool.{and_parts, and_from}
use Rattle.std.proofs.lemmas.Bool.Decides.{nat_tests}
use Rattle.std.proofs.lemmas.Fmt.{decimal_by_steps, length-decimal-le, decimal_nonempty}
use Rattle.std.proofs.lemmas.List.{append-nil}
use Rattle.std.proofs.lemmas.List.Elements.{All-nil, All-cons}
use Rattle.std.proofs.lemmas.List.Folds.{list_all-append}
use Rattle.kc_text.specs.declared.line.Line.{Line}
use Rattle.kc_text.specs.declared.line.Body.TheVariants.{Text, End}
use Rattle.kc_text.specs.Laws.{HasNoBlank}
use Rattle.kc_text.specs.Lines.{lines, lines_from, numbered_line}
use Rattle.kc_text.specs.Numbers.{is_digit, value_from}
use Rattle.kc_text.specs.Words.{words, is_blank}
use Rattle.kc_text.specs.Printing.{is_word, is_line, printed_line, printed, lines_of_words}
use Rattle.kc_text.specs.ReadBack.{WordsAreReadBack, NumbersAreReadBack, LinesAreReadBack}
use Rattle.kc_text.proofs.Numbering.{value_last, number_is}
use Rattle.kc_text.proofs.Passing as pass
use Rattle.kc_text.proofs.Runs.{are_longest_runs}

-- words
not_blank : (b : ℕ) → nat_lt 32 b ≡ true → is_blank b ≡ false
not_blank b h = grind (arith, nat_tests, h)

no_blank : (w : List ℕ) → list_all (λ b. nat_lt 32 b) w ≡ true → HasNoBlank w
no_blank [] e = All-nil (λ b. is_blank b ≡ false)
no_blank (b ∷ w) e =
    let p = and_parts (nat_lt 32 b) (list_all (λ x. nat_lt 32 x) w) e in
    All-cons (λ x. is_blank x ≡ false) b w (not_blank b p.0) (no_blank w p.1)

last_word : (w : List ℕ) → is_word w ≡ true → words w ≡ w ∷ []
last_word [] e = absurd cc
last_word (x ∷ xs) e = are_longest_runs.last [] x xs (All-nil (λ b. is_blank b ≡ true)) (no_blank (x ∷ xs) (and_parts _ _ e).1)

pub first_word : (w : List ℕ) (b : ℕ) (rest : List ℕ) → is_word w ≡ true → is_blank b ≡ true → words (w ++ b ∷ rest) ≡ w ∷ words rest
first_word [] b rest e h = absurd cc
first_word (x ∷ xs) b rest e h = are_longest_runs.first [] x xs b rest (All-nil (λ c. is_blank c ≡ true)) (no_blank (x ∷ xs) (and_parts _ _ e).1) h

no_words : words [] ≡ []
no_words = are_longest_runs.none [] (All-nil (λ b. is_blank b ≡ true))

pub words_back : WordsAreReadBack
words_back [] e = no_words
words_back (w ∷ []) e = last_word w (and_parts (is_word w) true e).0
words_back (w ∷ v ∷ ws) e =
    let p = and_parts (is_word w) (list_all is_word (v ∷ ws)) e in
    first_word w 32 (join_with_byte 32 (v ∷ ws)) p.0 refl ∙ ap (λ (l : List (List ℕ)). w ∷ l) (words_back (v ∷ ws) p.1)

-- numbers
record Reads (n : ℕ) (ds : List ℕ) : Type 0 where
  digits : list_all is_digit ds ≡ true
  value : value_from 0 ds ≡ n

digit : (d : ℕ) → d < 10 → (is_digit (48 + d) && true) ≡ true
digit d h = grind (arith, nat_tests, h)

reads_one : (n : ℕ) → n < 10 → Reads n ((48 + n) ∷ [])
unfolding value_from
reads_one n h = record { digits = digit n h; value = omega arith }

reads_more : (n : ℕ) (ds : List ℕ) → 10 ≤ n → Reads (n / 10) ds → Reads n (ds ++ ((48 + n % 10) ∷ []))
reads_more n ds h r = record {
  digits = list_all-append is_digit ds ((48 + n % 10) ∷ []) ∙ rw (r.digits, digit (n % 10) (omega arith)) refl;
  value = value_last 0 ds (48 + n % 10) ∙ rw r.value (omega arith);
}

reads : (n : ℕ) → n < 2 ^ 32 → Reads n (decimal n)
reads n h = decimal_by_steps Reads reads_one reads_more n (omega (arith, h))

above_blank : (d : ℕ) → is_digit d ≡ true → nat_lt 32 d ≡ true
above_blank d h = grind (arith, nat_tests, h)

digits_print : (ds : List ℕ) → list_all is_digit ds ≡ true → list_all (λ b. nat_lt 32 b) ds ≡ true
digits_print [] e = refl
digits_print (d ∷ ds) e =
    let p = and_parts (is_digit d) (list_all is_digit ds) e in
    and_from _ _ (above_blank d p.0) (digits_print ds p.1)

short : (n : ℕ) → n < 2 ^ 32 → length (decimal n) ≤ 10
short n h = length-decimal-le 10 n (omega arith) (omega (arith, h)) (omega (arith, h))

some : (n : ℕ) → n < 2 ^ 32 → 0 < length (decimal n)
some n h = decimal_nonempty n (omega (arith, h))

is_some : (n : ℕ) → 0 < n → nat_lt 0 n ≡ true
is_some n h = grind (arith, nat_tests, h)

pub numbers_back : NumbersAreReadBack
numbers_back = record {
  value = λ n h. let r = reads n h in number_is (decimal n) n (some n h) (short n h) r.digits r.value h;
  word = λ n h. and_from _ _ (is_some (length (decimal n)) (some n h)) (digits_print (decimal n) (reads n h).digits);
  short = short;
}

-- lines: bytes that neither end a line nor stand before its end
is_text : List ℕ → Bool
is_text text = list_all (λ b. nat_lt 31 b) text

above : (b : ℕ) → nat_lt 32 b ≡ true → nat_lt 31 b ≡ true
above b h = grind (arith, nat_tests, h)

word_text : (w : List ℕ) → list_all (λ b. nat_lt 32 b) w ≡ true → is_text w ≡ true
unfolding is_text
word_text [] e = refl
word_text (b ∷ w) e =
    let p = and_parts (nat_lt 32 b) (list_all (λ x. nat_lt 32 x) w) e in
    and_from _ _ (above b p.0) (word_text w p.1)

text_append : (xs ys : List ℕ) → is_text xs ≡ true → is_text ys ≡ true → is_text (xs ++ ys) ≡ true
unfolding is_text
text_append xs ys h k = list_all-append (λ b. nat_lt 31 b) xs ys ∙ and_from _ _ h k

blank_text : (text : List ℕ) → is_text text ≡ true → is_text (32 ∷ text) ≡ true
unfolding is_text
blank_text text h = h

words_text : (ws : List (List ℕ)) → list_all is_word ws ≡ true → is_text (join_with_byte 32 ws) ≡ true
unfolding is_text
words_text [] e = refl
words_text (w ∷ []) e = word_text w (and_parts _ _ (and_parts (is_word w) true e).0).1
words_text (w ∷ v ∷ ws) e =
    let p = and_parts (is_word w) (list_all is_word (v ∷ ws)) e in
    text_append w (32 ∷ join_with_byte 32 (v ∷ ws)) (word_text w (and_parts _ _ p.0).1) (blank_text (join_with_byte 32 (v ∷ ws)) (words_text (v ∷ ws) p.1))

no_feed : (b : ℕ) → nat_lt 31 b ≡ true → (b == 10) ≡ false
no_feed b h = grind (arith, nat_tests, h)

no_return : (b : ℕ) → nat_lt 31 b ≡ true → (b == 13) ≡ false
no_return b h = grind (arith, nat_tests, h)

no_end : (text : List ℕ) → is_text text ≡ true → pass.HasNoEnd text
unfolding is_text
no_end [] e k lt = absurd (omega arith)
no_end (b ∷ text) e zero lt = no_feed b (and_parts (nat_lt 31 b) _ e).0
no_end (b ∷ text) e (suc k) lt = no_end text (and_parts (nat_lt 31 b) (list_all (λ x. nat_lt 31 x) text) e).1 k (omega arith)

no_return_at : (text : List ℕ) (k : ℕ) → is_text text ≡ true → (slice_index text k == 13) ≡ false
unfolding is_text
no_return_at [] k e = refl
no_return_at (b ∷ text) zero e = no_return b (and_parts (nat_lt 31 b) _ e).0
no_return_at (b ∷ text) (suc k) e = no_return_at text k (and_parts (nat_lt 31 b) (list_all (λ x. nat_lt 31 x) text) e).1

line_is : (limit n : ℕ) (text : List ℕ) → is_text text ≡ true → nat_le (length text) limit ≡ true → numbered_line limit n text ≡ record { number = n; body = Text text }
line_is limit n text e h = rw (h, no_return_at text (length text - 1) e) refl

-- the first line apart from what follows it
apart : (text rest more : List ℕ) → ((text ++ 10 ∷ []) ++ rest) ++ more ≡ text ++ 10 ∷ (rest ++ more)
apart text rest more = simp append_assoc refl

lines_front : (limit n room : ℕ) (ls : List (List (List ℕ))) (more : List ℕ) → list_all (is_line limit) ls ≡ true
    → lines_from limit n (length (printed ls) + room) [] (printed ls ++ more) ≡ lines_of_words n ls ++ lines_from limit (n + length ls) room [] more
unfolding printed lines_of_words
lines_front limit n room [] more e =
    let a : 0 + room ≡ room = omega arith in
    let b : n + 0 ≡ n = omega arith in
    rw (a, b) refl
lines_front limit n room (ws ∷ ls) more e =
    let p = and_parts (is_line limit ws) (list_all (is_line limit) ls) e in
    let q = and_parts (list_all is_word ws) (nat_le (length (join_with_byte 32 ws)) limit) p.0 in
    let text = words_text ws q.0 in
    let total : length (printed (ws ∷ ls)) + room ≡ length (join_with_byte 32 ws) + suc (length (printed ls) + room) =
    omega (arith, length-append (printed_line ws) (printed ls), length-append (join_with_byte 32 ws) (10 ∷ [])) in
    let count : n + 1 + length ls ≡ n + suc (length ls) = omega arith in
    let rest = rw count at (lines_front limit (n + 1) room ls more p.1) in
    ap (λ (bs : List ℕ). lines_from limit n (length (printed (ws ∷ ls)) + room) [] bs) (apart (join_with_byte 32 ws) (printed ls) more)
    ∙ (pass.line_closed limit n (length (printed ls) + room) (length (printed (ws ∷ ls)) + room) [] (join_with_byte 32 ws) (printed ls ++ more) total (no_end (join_with_byte 32 ws) text)
    ∙ rw (line_is limit n (join_with_byte 32 ws) text q.1) (ap (λ (ls : List Line). record { number = n; body = Text (join_with_byte 32 ws) } ∷ ls) rest))

lines_whole : (limit room : ℕ) (ls : List (List (List ℕ))) → list_all (is_line limit) ls ≡ true → length (printed ls) ≤ room
    → lines limit room (printed ls) ≡ lines_of_words 1 ls ++ record { number = 1 + length ls; body = End } ∷ []
unfolding lines_from
lines_whole limit room ls e h =
    let all : length (printed ls) + (room - length (printed ls)) ≡ room = omega arith in
    rw (all, append-nil) at (lines_front limit 1 (room - length (printed ls)) ls [] e)

pub lines_back : LinesAreReadBack
lines_back = record { front = lines_front; whole = lines_whole }
