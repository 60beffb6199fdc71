-- Lines of `edge` or `level` and two numbers.
use Rattle.std.proofs.Common.{ℕ, ◌≡◌, List, refl}
use Rattle.std.specs.Prelude.{Some, codes}
use Rattle.kc_text.specs.Words.{words}
use Rattle.kc_text.specs.NumberLines.{SayNamed}
use Rattle.kc_cert.specs.declared.token.Kind.TheVariants.{Edge, Level}
use Rattle.kc_cert.specs.Tokens.{only_word, two_numbers, kind_of_words, kind_of_text}

pub says_edge : (text : List ℕ) (a b : ℕ) → SayNamed (words text) (codes "edge") a b → kind_of_text text ≡ Some (Edge a b)
unfolding only_word two_numbers kind_of_words kind_of_text
says_edge text a b s = rw (s.words_are, s.one_is, s.two_is) refl

pub says_level : (text : List ℕ) (v l : ℕ) → SayNamed (words text) (codes "level") v l → kind_of_text text ≡ Some (Level v l)
unfolding only_word two_numbers kind_of_words kind_of_text
says_level text v l s = rw (s.words_are, s.one_is, s.two_is) refl
