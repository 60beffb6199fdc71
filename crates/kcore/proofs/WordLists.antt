-- Command lines by their number of words.
use Rattle.std.proofs.Common.{ℕ, ◌≡◌, ◌≢◌, true, false, List, [], ◌∷◌, length, refl, ap, ◌∙◌, arith}
use Rattle.std.specs.Prelude.{Some, None, slice_get, codes}
use Rattle.std.specs.Str.{bytes_eq}
use Rattle.std.proofs.lemmas.Option.{same_Some}
use Rattle.std.proofs.lemmas.Bool.Decides.{nat_tests}
use Rattle.kc_text.specs.Numbers.{number_of}
use Rattle.kc_shell.specs.Workers.{few_workers}
use Rattle.kcore.specs.Commands.{gen_with, command_of}

pub two_words : (ws : List (List ℕ)) (a b : List ℕ) → length ws ≡ 2 → slice_get ws 0 ≡ Some a → slice_get ws 1 ≡ Some b → ws ≡ a ∷ b ∷ []
two_words [] a b n e f = absurd (omega arith)
two_words (x ∷ []) a b n e f = absurd (omega arith)
two_words (x ∷ y ∷ []) a b n e f = let p : x ≡ a = same_Some _ _ e in let q : y ≡ b = same_Some _ _ f in rw (p, q) refl
two_words (x ∷ y ∷ z ∷ more) a b n e f = absurd (omega arith)

pub one_word : (ws : List (List ℕ)) (a : List ℕ) → length ws ≡ 1 → slice_get ws 0 ≡ Some a → ws ≡ a ∷ []
one_word [] a n e = absurd (omega arith)
one_word (x ∷ []) a n e = let p : x ≡ a = same_Some _ _ e in rw p refl
one_word (x ∷ y ∷ more) a n e = absurd (omega arith)

six_words : (ws : List (List ℕ)) (a b c d e f : List ℕ) → length ws ≡ 6 → slice_get ws 0 ≡ Some a → slice_get ws 1 ≡ Some b → slice_get ws 2 ≡ Some c → slice_get ws 3 ≡ Some d → slice_get ws 4 ≡ Some e → slice_get ws 5 ≡ Some f
    → ws ≡ a ∷ b ∷ c ∷ d ∷ e ∷ f ∷ []
six_words [] a b c d e f n k0 k1 k2 k3 k4 k5 = absurd (omega arith)
six_words (x0 ∷ []) a b c d e f n k0 k1 k2 k3 k4 k5 = absurd (omega arith)
six_words (x0 ∷ x1 ∷ []) a b c d e f n k0 k1 k2 k3 k4 k5 = absurd (omega arith)
six_words (x0 ∷ x1 ∷ x2 ∷ []) a b c d e f n k0 k1 k2 k3 k4 k5 = absurd (omega arith)
six_words (x0 ∷ x1 ∷ x2 ∷ x3 ∷ []) a b c d e f n k0 k1 k2 k3 k4 k5 = absurd (omega arith)
six_words (x0 ∷ x1 ∷ x2 ∷ x3 ∷ x4 ∷ []) a b c d e f n k0 k1 k2 k3 k4 k5 = absurd (omega arith)
six_words (x0 ∷ x1 ∷ x2 ∷ x3 ∷ x4 ∷ x5 ∷ []) a b c d e f n k0 k1 k2 k3 k4 k5 = grind (arith, nat_tests, same_Some)
six_words (x0 ∷ x1 ∷ x2 ∷ x3 ∷ x4 ∷ x5 ∷ x6 ∷ more) a b c d e f n k0 k1 k2 k3 k4 k5 = absurd (omega arith)

named_load : (a b c d e f : List ℕ) → bytes_eq a (codes "gen") ≡ true → command_of (a ∷ b ∷ c ∷ d ∷ e ∷ f ∷ []) ≡ gen_with (number_of b) (number_of c) (number_of d) (number_of e) (few_workers (number_of f))
unfolding command_of
named_load a b c d e f named = rw named refl

-- six words with the name `gen`
pub load_words : (ws : List (List ℕ)) (a b c d e f : List ℕ) → length ws ≡ 6 → slice_get ws 0 ≡ Some a → slice_get ws 1 ≡ Some b → slice_get ws 2 ≡ Some c → slice_get ws 3 ≡ Some d → slice_get ws 4 ≡ Some e → slice_get ws 5 ≡ Some f → bytes_eq a (codes "gen") ≡ true
    → command_of ws ≡ gen_with (number_of b) (number_of c) (number_of d) (number_of e) (few_workers (number_of f))
load_words ws a b c d e f n k0 k1 k2 k3 k4 k5 named = ap command_of (six_words ws a b c d e f n k0 k1 k2 k3 k4 k5) ∙ named_load a b c d e f named

-- six words with another name
pub no_load : (ws : List (List ℕ)) (a : List ℕ) → length ws ≡ 6 → slice_get ws 0 ≡ Some a → bytes_eq a (codes "gen") ≡ false → command_of ws ≡ None
unfolding command_of
no_load [] a n k named = absurd (omega arith)
no_load (x0 ∷ []) a n k named = absurd (omega arith)
no_load (x0 ∷ x1 ∷ []) a n k named = absurd (omega arith)
no_load (x0 ∷ x1 ∷ x2 ∷ []) a n k named = absurd (omega arith)
no_load (x0 ∷ x1 ∷ x2 ∷ x3 ∷ []) a n k named = absurd (omega arith)
no_load (x0 ∷ x1 ∷ x2 ∷ x3 ∷ x4 ∷ []) a n k named = absurd (omega arith)
no_load (x0 ∷ x1 ∷ x2 ∷ x3 ∷ x4 ∷ x5 ∷ []) a n k named = let p : x0 ≡ a = same_Some _ _ k in rw (p, named) refl
no_load (x0 ∷ x1 ∷ x2 ∷ x3 ∷ x4 ∷ x5 ∷ x6 ∷ more) a n k named = absurd (omega arith)

pub other_words : (ws : List (List ℕ)) → length ws ≢ 1 → length ws ≢ 2 → length ws ≢ 6 → command_of ws ≡ None
unfolding command_of
other_words [] n m k = refl
other_words (x0 ∷ []) n m k = absurd (n refl)
other_words (x0 ∷ x1 ∷ []) n m k = absurd (m refl)
other_words (x0 ∷ x1 ∷ x2 ∷ []) n m k = refl
other_words (x0 ∷ x1 ∷ x2 ∷ x3 ∷ []) n m k = refl
other_words (x0 ∷ x1 ∷ x2 ∷ x3 ∷ x4 ∷ []) n m k = refl
other_words (x0 ∷ x1 ∷ x2 ∷ x3 ∷ x4 ∷ x5 ∷ []) n m k = absurd (k refl)
other_words (x0 ∷ x1 ∷ x2 ∷ x3 ∷ x4 ∷ x5 ∷ x6 ∷ more) n m k = refl
