-- Lines of a name and two numbers that are read in one pass.
use Rattle.std.proofs.Common.{ℕ, ◌+◌, ◌<◌, ◌≡◌, true, false, List, [], ◌∷◌, ◌++◌, length, take, refl, sym, ap, subst, ◌∙◌, arith, get_or, append_assoc}
use Rattle.std.specs.Prelude.{nat_lt, ◌==◌}
use Rattle.std.proofs.lemmas.Bool.{cases_lt, and_parts}
use Rattle.std.proofs.lemmas.Bool.Decides.{nat_tests}
use Rattle.std.proofs.lemmas.List.{get_or-take, take_more}
use Rattle.std.proofs.lemmas.List.Sums.{AllPass-from_list_all}
use Rattle.std.proofs.Math.Seq.{take-take}
use Rattle.kc_text.specs.Lines.{without_cr}
use Rattle.kc_text.specs.Words.{is_blank}
use Rattle.kc_text.specs.Printing.{is_word}
use Rattle.kc_text.specs.NumberLines.{BeginsWithName, IsNamedNumbers}
use Rattle.kc_text.specs.private.WholeLines.{EndsAt}
use Rattle.kc_text.specs.private.NumberLines.{BeginsAt, NumbersStand, HaveNoNumbers, NumbersTo, IsNamedLine, HaveNoNamedLine}
use Rattle.kc_text.proofs.NumberLines.{blank_no_end, line_ends, line_words, text_with, numbers_in}
use Rattle.kc_text.proofs.PrintedText.{first_word}

-- no byte of a word ends a line
above_no_end : (b : ℕ) → nat_lt 32 b ≡ true → (b == 10) ≡ false
above_no_end b e = grind (arith, nat_tests, e)

word_no_end : (name : List ℕ) (k : ℕ) → is_word name ≡ true → k < length name → (get_or name k 0 == 10) ≡ false
word_no_end name k e h = above_no_end _ (AllPass-from_list_all (λ b. nat_lt 32 b) name (and_parts _ _ e).1 k 0 h)

-- a line that begins with a name and a blank
pub begins_named : (bytes name : List ℕ) → is_word name ≡ true → take (length name) bytes ≡ name → length name < length bytes → is_blank (get_or bytes (length name) 0) ≡ true
    → BeginsAt bytes (λ ws. name ∷ ws) (length name + 1)
begins_named bytes name w s l b =
    let all : take (length name + 1) bytes ≡ name ++ get_or bytes (length name) 0 ∷ [] = take_more bytes (length name) 0 l ∙ ap (λ ys. ys ++ get_or bytes (length name) 0 ∷ []) s in
    record {
      within = omega arith;
      words_are = λ rest. rw (all, append_assoc) (first_word name (get_or bytes (length name) 0) rest w b);
      plain = λ k lt. grind (arith, nat_tests, cases_lt k (length name), get_or-take, word_no_end, blank_no_end);
    }

pub named_line : (bytes name : List ℕ) (start first second len : ℕ) → BeginsAt bytes (λ ws. name ∷ ws) start → NumbersTo bytes start first second len
    → IsNamedLine bytes name (record { first = first; second = second; len = len })
named_line bytes name start first second len b n = record {
  ends = line_ends bytes (λ ws. name ∷ ws) start first second len b n;
  says = record {
    one = n.says.one;
    two = n.says.two;
    words_are = line_words bytes (λ ws. name ∷ ws) start first second len b n;
    one_is = n.says.one_is;
    two_is = n.says.two_is;
  };
}

-- the places of the parts of a line of a name and two numbers
record Stands (bytes name : List ℕ) (first second len : ℕ) : Type 0 where
  front : BeginsWithName bytes name
  numbers : NumbersStand bytes (length name + 1) first second len

stands : (bytes name : List ℕ) (len first second : ℕ) → EndsAt bytes len → IsNamedNumbers (without_cr (take len bytes)) name first second → Stands bytes name first second len
stands bytes name len first second e t =
    let text = text_with bytes len _ e.within e.here refl in
    let u = subst (λ x. IsNamedNumbers x name first second) text.is t in
    let s = numbers_in bytes text.end len (length name + 1) first second text.closes u.numbers in
    record {
      front = record {
        name_is = sym (take-take (length name) text.end bytes (omega (arith, s.after))) ∙ u.front.name_is;
        blank = rw (get_or-take text.end bytes (length name) 0 (omega (arith, s.after))) at u.front.blank;
      };
      numbers = s.numbers;
    }

pub no_numbers : (bytes name : List ℕ) → HaveNoNumbers bytes (length name + 1) → HaveNoNamedLine bytes name
no_numbers bytes name h = λ len e first second t. h first second len (stands bytes name len first second e t).numbers
