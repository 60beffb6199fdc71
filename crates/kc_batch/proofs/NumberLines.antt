-- Lines of two numbers, with or without a sign before them.
use Rattle.std.proofs.Common.{ℕ, ◌≡◌, Bool, true, false, List, [], ◌∷◌, refl, arith}
use Rattle.std.specs.Prelude.{Option, Some, None, if◌then◌else◌, ◌==◌, slice_index}
use Rattle.std.proofs.lemmas.Bool.Decides.{nat_tests}
use Rattle.kc_text.specs.Words.{words}
use Rattle.kc_text.specs.Numbers.{is_number, number_of, value_from}
use Rattle.kc_text.specs.declared.number_line.Sign.{Sign}
use Rattle.kc_text.specs.declared.number_line.Sign.TheVariants.{Plus, Minus}
use Rattle.kc_text.specs.NumberLines.{SayNumbers}
use Rattle.kc_batch.specs.declared.token.Kind.TheVariants.{Item}
use Rattle.kc_batch.specs.Tokens.{kind_of_words}
use Rattle.kc_batch.specs.private.Tokens.{kind_of_text, item_of}
use Rattle.kc_batch.proofs.Saying.{Says, says}

chosen : (b : Bool) (x y : ℕ) → (if b then Some x else None) ≡ Some y → b ≡ true
chosen true x y e = refl
chosen false x y e = absurd cc

-- no number begins with `#`
number_no_hash : (w : List ℕ) (u : ℕ) → number_of w ≡ Some u → (slice_index w 0 == 35) ≡ false
number_no_hash [] u e = let b = chosen (is_number []) (value_from 0 []) u e in absurd cc
number_no_hash (x ∷ xs) u e = let b = chosen (is_number (x ∷ xs)) (value_from 0 (x ∷ xs)) u e in grind (arith, nat_tests, b)

says_number : (text : List ℕ) (sign : Option Sign) (u v : ℕ) → SayNumbers (words text) sign u v → kind_of_text text ≡ Some (Item (item_of sign u v))
unfolding kind_of_text kind_of_words
says_number text None u v a = rw (a.words_are, number_no_hash a.one u a.one_is, a.one_is, a.two_is) refl
says_number text (Some Plus) u v a = rw (a.words_are, a.one_is, a.two_is) refl
says_number text (Some Minus) u v a = rw (a.words_are, a.one_is, a.two_is) refl

-- the meaning of a line of two numbers is its item, with or without a sign before them
pub number_item : (text : List ℕ) (sign : Option Sign) (u v : ℕ) → SayNumbers (words text) sign u v → Says text (Item (item_of sign u v))
number_item text sign u v a = says text (Item (item_of sign u v)) (says_number text sign u v a)
