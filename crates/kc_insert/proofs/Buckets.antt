-- What stands in the buckets after a vertex came into one, or left it.
use Rattle.std.proofs.Common.{ℕ, ◌<◌, ◌≡◌, ◌≢◌, ◌⊎◌, Bool, true, ◌&&◌, List, [], ◌∷◌, ◌++◌, length, get_or, set, refl, ◌∙◌, arith}
use Rattle.std.specs.Prelude.{filter}
use Rattle.std.proofs.lemmas.Bool.Decides.{nat_tests}
use Rattle.std.proofs.lemmas.List.{get_or-set_same, get_or-set_other}
use Rattle.kc_graph.specs.Numbers.{has_number}
use Rattle.kc_graph.proofs.lemmas.Numbers.{has_number-append, has_number-push}

-- what holds of a new bucket at its level, and of the old bucket at each other level, holds at every level
pub placed : (queue : List (List ℕ)) (a k : ℕ) (new : List ℕ) → a < length queue → (P : List ℕ → Type 0) → (k ≡ a → P new) → (k ≢ a → P (get_or queue k [])) → P (get_or (set queue a new) k [])
placed queue a k new inside P here there = grind (arith, nat_tests, get_or-set_same, get_or-set_other)

pub has_last : (v : ℕ) (xs : List ℕ) → has_number v (xs ++ v ∷ []) ≡ true
has_last v xs = has_number-push v v xs ∙ grind (arith, nat_tests)

pub pushed_is : (u v : ℕ) (xs : List ℕ) → has_number u (xs ++ v ∷ []) ≡ true → (u ≡ v) ⊎ (has_number u xs ≡ true)
pushed_is u v xs there = grind (arith, nat_tests, has_number-push)

pub has_number-filter : (u : ℕ) (p : ℕ → Bool) (xs : List ℕ) → has_number u (filter p xs) ≡ has_number u xs && p u
has_number-filter u p [] = refl
has_number-filter u p (x ∷ xs) = grind (arith, nat_tests, has_number-filter u p xs)

-- a bucket gets more vertices
module _ (queue : List (List ℕ)) (a : ℕ) (more : List ℕ) (inside : a < length queue) where
  pub still_there : (k u : ℕ) → has_number u (get_or queue k []) ≡ true → has_number u (get_or (set queue a (get_or queue a [] ++ more)) k []) ≡ true
  still_there k u there = placed queue a k (get_or queue a [] ++ more) inside (λ xs. has_number u xs ≡ true)
      (λ e. let old : has_number u (get_or queue a []) ≡ true = rw e at there in has_number-append u (get_or queue a []) more ∙ grind (arith, nat_tests, old))
      (λ ne. there)

  pub now_there : (u : ℕ) → has_number u more ≡ true → has_number u (get_or (set queue a (get_or queue a [] ++ more)) a []) ≡ true
  now_there u new = rw (get_or-set_same queue a (get_or queue a [] ++ more) [] inside) (has_number-append u (get_or queue a []) more ∙ grind (arith, nat_tests, new))
