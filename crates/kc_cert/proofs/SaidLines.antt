-- What the lines of a certificate say.
use Rattle.std.proofs.Common.{ℕ, ◌≤◌, ◌<◌, ◌≡◌, ◌^◌, true, false, List, [], ◌∷◌, length, refl, arith, length-append}
use Rattle.std.specs.Prelude.{decimal, codes}
use Rattle.std.specs.List.{list_all, join_with_byte}
use Rattle.std.proofs.lemmas.Bool.{and_from, le-leb}
use Rattle.std.proofs.lemmas.Bool.Decides.{nat_tests}
use Rattle.kc_levels.specs.declared.profile.Profile.{Profile}
use Rattle.kc_text.specs.Words.{is_skip}
use Rattle.kc_text.specs.Printing.{is_word, is_line}
use Rattle.kc_text.proofs.lemmas.Printing.{numbers_are_read_back}
use Rattle.kc_cert.specs.declared.token.Kind.{Kind}
use Rattle.kc_cert.specs.declared.token.Kind.TheVariants as kind
use Rattle.kc_cert.specs.Texts.{profile_word}
use Rattle.kc_cert.specs.Tokens.{only_word, two_numbers, kind_of_words}

-- words that say this as a line of at most 32 bytes
pub record Says (ws : List (List ℕ)) (k : Kind) : Type 0 where
  pub words_are : list_all is_word ws ≡ true
  pub short : length (join_with_byte 32 ws) ≤ 32
  pub said : is_skip ws ≡ false
  pub kind_is : kind_of_words ws ≡ k

-- they may be printed
pub says_line : (limit : ℕ) (ws : List (List ℕ)) (k : Kind) → 32 ≤ limit → Says ws k → is_line limit ws ≡ true
says_line limit ws k h s = and_from _ _ s.words_are (le-leb _ _ (omega (arith, h, s.short)))

pub says_magic : Says (codes "kcore-cert" ∷ codes "1" ∷ []) kind.Magic
unfolding kind_of_words only_word
says_magic = record { words_are = refl; short = omega arith; said = refl; kind_is = refl }

pub says_profile : (p : Profile) → Says (codes "profile" ∷ profile_word p ∷ []) (kind.Profile p)
unfolding kind_of_words only_word
says_profile p = grind (arith, nat_tests)

pub says_end : Says (codes "end" ∷ []) kind.Close
unfolding kind_of_words
says_end = record { words_are = refl; short = omega arith; said = refl; kind_is = refl }

pub says_vertices : (n : ℕ) → n < 2 ^ 32 → Says (codes "vertices" ∷ decimal n ∷ []) (kind.Vertices n)
unfolding kind_of_words only_word
says_vertices n h = record {
  words_are = rw (numbers_are_read_back.word n h) refl;
  short = omega (arith, numbers_are_read_back.short n h);
  said = refl;
  kind_is = rw (numbers_are_read_back.value n h) refl;
}

pub says_count : (m : ℕ) → m < 2 ^ 32 → Says (codes "edges" ∷ decimal m ∷ []) (kind.EdgeCount m)
unfolding kind_of_words only_word
says_count m h = record {
  words_are = rw (numbers_are_read_back.word m h) refl;
  short = omega (arith, numbers_are_read_back.short m h);
  said = refl;
  kind_is = rw (numbers_are_read_back.value m h) refl;
}

pub says_edge : (a b : ℕ) → a < 2 ^ 32 → b < 2 ^ 32 → Says (codes "edge" ∷ decimal a ∷ decimal b ∷ []) (kind.Edge a b)
unfolding kind_of_words only_word two_numbers
says_edge a b h k = record {
  words_are = rw (numbers_are_read_back.word a h, numbers_are_read_back.word b k) refl;
  short = omega (arith, numbers_are_read_back.short a h, numbers_are_read_back.short b k, length-append (decimal a) (32 ∷ decimal b));
  said = refl;
  kind_is = rw (numbers_are_read_back.value a h, numbers_are_read_back.value b k) refl;
}

pub says_level : (v l : ℕ) → v < 2 ^ 32 → l < 2 ^ 32 → Says (codes "level" ∷ decimal v ∷ decimal l ∷ []) (kind.Level v l)
unfolding kind_of_words only_word two_numbers
says_level v l h k = record {
  words_are = rw (numbers_are_read_back.word v h, numbers_are_read_back.word l k) refl;
  short = omega (arith, numbers_are_read_back.short v h, numbers_are_read_back.short l k, length-append (decimal v) (32 ∷ decimal l));
  said = refl;
  kind_is = rw (numbers_are_read_back.value v h, numbers_are_read_back.value l k) refl;
}
