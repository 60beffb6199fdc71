-- Words are the longest runs of bytes that aren't blank.
use Rattle.std.proofs.Common.{ℕ, suc, ◌≡◌, List, [], ◌∷◌, ◌++◌, arith, refl, true, false, append_assoc, ◌∙◌}
use Rattle.std.specs.Prelude.{All}
use Rattle.std.proofs.lemmas.List.{append-nil}
use Rattle.kc_text.specs.Words.{words, words_from, closed, is_blank}
use Rattle.kc_text.specs.Laws.{IsBlank, HasNoBlank, AreLongestRuns}

rest_all : (P : ℕ → Type 0) (x : ℕ) (xs : List ℕ) → All P (x ∷ xs) → All P xs
rest_all P x xs h = λ k d lt. h (suc k) d (omega arith)

-- blanks before words change nothing
blanks_before : (blanks rest : List ℕ) → IsBlank blanks → words (blanks ++ rest) ≡ words rest
unfolding words_from
blanks_before [] rest h = refl
blanks_before (b ∷ bs) rest h =
    let here : is_blank b ≡ true = h 0 0 (omega arith) in
    rw here (blanks_before bs rest (rest_all (λ x. is_blank x ≡ true) b bs h))

-- a run goes into the word that has begun
pub run_goes_on : (piece run rest : List ℕ) → HasNoBlank run → words_from piece (run ++ rest) ≡ words_from (piece ++ run) rest
unfolding words_from
run_goes_on piece [] rest h = simp append-nil refl
run_goes_on piece (x ∷ xs) rest h =
    let here : is_blank x ≡ false = h 0 0 (omega arith) in
    rw here (rw append_assoc at (run_goes_on (piece ++ x ∷ []) xs rest (rest_all (λ y. is_blank y ≡ false) x xs h)))

pub last_run : (run : List ℕ) → HasNoBlank run → words run ≡ closed run []
unfolding words_from
last_run run h = rw append-nil at (run_goes_on [] run [] h)

first_run : (x : ℕ) (xs : List ℕ) (b : ℕ) (rest : List ℕ) → HasNoBlank (x ∷ xs) → is_blank b ≡ true → words ((x ∷ xs) ++ b ∷ rest) ≡ (x ∷ xs) ∷ words rest
unfolding words_from
first_run x xs b rest h e = run_goes_on [] (x ∷ xs) (b ∷ rest) h ∙ rw e refl

all_blank : (blanks : List ℕ) → IsBlank blanks → words blanks ≡ []
unfolding words_from
all_blank blanks h = rw append-nil at (blanks_before blanks [] h)

pub are_longest_runs : AreLongestRuns
are_longest_runs = record {
  none = all_blank;
  last = λ blanks x xs h n. blanks_before blanks (x ∷ xs) h ∙ last_run (x ∷ xs) n;
  first = λ blanks x xs b rest h n e. rw append_assoc (blanks_before blanks ((x ∷ xs) ++ b ∷ rest) h ∙ first_run x xs b rest n e);
}
