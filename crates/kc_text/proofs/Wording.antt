-- Steps over the words of a line.
use Rattle.std.proofs.Common.{ℕ, ◌+◌, ◌-◌, ◌<◌, ◌≤◌, ◌≡◌, true, false, List, [], ◌∷◌, ◌++◌, length, drop, refl, arith, add-one, drop-cons, ◌∙◌, get_or}
use Rattle.std.specs.List.{slice_range}
use Rattle.std.proofs.lemmas.List.{take_more, length-drop, length-take, get_or-drop}
use Rattle.std.proofs.Math.ListN.{drop_of_length-le}
use Rattle.std.proofs.lemmas.Bool.Decides.{nat_tests}
use Rattle.kc_text.specs.Words.{words, words_from, closed, is_blank, WordAt}

pub words_blank : (line : List ℕ) (i : ℕ) → i < length line → is_blank (get_or line i 0) ≡ true → words (drop i line) ≡ words (drop (i + 1) line)
unfolding words_from
words_blank line i h e = rw (add-one, drop-cons line i 0, e) refl

pub word_more : (piece line : List ℕ) (i : ℕ) → i < length line → is_blank (get_or line i 0) ≡ false → words_from piece (drop i line) ≡ words_from (piece ++ get_or line i 0 ∷ []) (drop (i + 1) line)
unfolding words_from
word_more piece line i h e = rw (add-one, drop-cons line i 0, e) refl

pub word_stop : (piece line : List ℕ) (i : ℕ) → i < length line → is_blank (get_or line i 0) ≡ true → words_from piece (drop i line) ≡ closed piece (words (drop i line))
unfolding words_from
word_stop piece line i h e = rw (drop-cons line i 0, e) refl

pub word_end : (piece line : List ℕ) (i : ℕ) → length line ≤ i → words_from piece (drop i line) ≡ closed piece (words (drop i line))
unfolding words_from
word_end piece line i h = rw drop_of_length-le refl

pub no_words : (line : List ℕ) (i : ℕ) → length line ≤ i → words (drop i line) ≡ []
unfolding words_from
no_words line i h = rw drop_of_length-le refl

pub range_more : (line : List ℕ) (start i : ℕ) → start ≤ i → i < length line → slice_range line start (i + 1) ≡ slice_range line start i ++ get_or line i 0 ∷ []
range_more line start i h l =
    let e : i + 1 - start ≡ (i - start) + 1 = omega arith in
    let j : start + (i - start) ≡ i = omega arith in
    rw (e, take_more (drop start line) (i - start) 0 (simp length-drop (omega arith)), get_or-drop, j) refl

pub word_begins : (line : List ℕ) (i : ℕ) → i < length line → is_blank (get_or line i 0) ≡ false → words (drop i line) ≡ words_from (slice_range line i (i + 1)) (drop (i + 1) line)
word_begins line i h e = grind (arith, nat_tests, range_more, word_more)

pub word_goes_on : (line : List ℕ) (start i : ℕ) → start ≤ i → i < length line → is_blank (get_or line i 0) ≡ false
    → words_from (slice_range line start i) (drop i line) ≡ words_from (slice_range line start (i + 1)) (drop (i + 1) line)
word_goes_on line start i s h e = rw (range_more line start i s h) (word_more (slice_range line start i) line i h e)

pub closed_some : (piece : List ℕ) (rest : List (List ℕ)) → 0 < length piece → closed piece rest ≡ piece ∷ rest
closed_some piece rest h = grind (arith, nat_tests)

pub length_range : (line : List ℕ) (start end : ℕ) → start < end → end ≤ length line → 0 < length (slice_range line start end)
length_range line start end h l = simp (length-take, length-drop) (omega arith)

pub word_at : (line : List ℕ) (from start end : ℕ) → from ≤ start → start < end → end ≤ length line → words (drop from line) ≡ words (drop start line)
    → words (drop start line) ≡ closed (slice_range line start end) (words (drop end line)) → WordAt line from start end
word_at line from start end a b d e f = record {
  after = a;
  some = b;
  within = d;
  words = e ∙ f ∙ closed_some (slice_range line start end) _ (length_range line start end b d);
}

pub ruleset word_steps = (words_blank, no_words, word_begins, word_goes_on, word_stop, word_end, word_at)
