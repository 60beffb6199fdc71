-- Command lines by their number of words.
use Rattle.std.proofs.Common.{ℕ, ◌≡◌, ◌≢◌, List, [], ◌∷◌, length, refl, arith}
use Rattle.std.specs.Prelude.{Some, None, slice_get}
use Rattle.std.proofs.lemmas.Option.{same_Some}
use Rattle.kserve.specs.Ending.{workers_of}

pub one_word : (ws : List (List ℕ)) (a : List ℕ) → length ws ≡ 1 → slice_get ws 0 ≡ Some a → ws ≡ a ∷ []
one_word [] a n e = absurd (omega arith)
one_word (x ∷ []) a n e = let p : x ≡ a = same_Some _ _ e in rw p refl
one_word (x ∷ y ∷ more) a n e = absurd (omega arith)

pub other_words : (ws : List (List ℕ)) → length ws ≢ 1 → workers_of ws ≡ None
unfolding workers_of
other_words [] n = refl
other_words (x ∷ []) n = absurd (n refl)
other_words (x ∷ y ∷ more) n = refl
