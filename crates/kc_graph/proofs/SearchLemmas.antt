-- What a binary search in a rising list tells, and what the edit at its place makes.
use Rattle.std.proofs.Common.{ℕ, suc, zero, ◌≤◌, ◌<◌, ◌≡◌, false, List, [], ◌∷◌, ◌++◌, length, get_or, refl, sym, ◌∙◌, arith}
use Rattle.std.proofs.lemmas.Bool.Decides.{nat_tests}
use Rattle.std.specs.List.{insert, remove}
use Rattle.std.specs.Prelude.{All, Result, Ok, Err, is_ok}
use Rattle.std.specs.Ordering.{nat_cmp}
use Rattle.std.specs.List.Sorted.{IsBinarySearchResult}
use Rattle.std.proofs.lemmas.List.Sorted.{searched}
use Rattle.kc_graph.specs.Numbers.{RisesFrom, has_number}
use Rattle.kc_graph.specs.private.Numbers.{put, without, Found}
use Rattle.kc_graph.proofs.NumberLemmas.{rises_at_least, rises_in_order, has_number_at, has_number_nowhere, has_number_below, rises_from_put, rises_without, without_absent, put_present, put_last}

pub found : (xs : List ℕ) (x : ℕ) (r : Result ℕ ℕ) → RisesFrom 0 xs → IsBinarySearchResult (λ y. nat_cmp y x) xs r → Found xs x r
found xs x r up is = searched xs x r is (λ i j le h. rises_in_order 0 xs i j up le h)

absent_from_sides : (xs : List ℕ) (x i : ℕ) → Found xs x (Err i) → has_number x xs ≡ false
absent_from_sides xs x i f = grind (arith, nat_tests, has_number_nowhere, f.1, f.2)

pub is_ok-found : (xs : List ℕ) (x : ℕ) (r : Result ℕ ℕ) → Found xs x r → is_ok r ≡ has_number x xs
is_ok-found xs x (Ok i) f = sym (has_number_at x xs i f.0 f.1)
is_ok-found xs x (Err i) f = sym (absent_from_sides xs x i f)

insert_is_put : (xs : List ℕ) (i x : ℕ) → i ≤ length xs → ((k : ℕ) → k < i → get_or xs k 0 < x) → ((k : ℕ) → i ≤ k → k < length xs → x < get_or xs k 0) → insert xs i x ≡ put x xs
insert_is_put [] zero x le below above = refl
insert_is_put [] (suc i) x le below above = absurd (omega arith)
insert_is_put (y ∷ ys) zero x le below above =
    let first : x < y = above 0 (omega arith) (omega arith) in grind (arith, nat_tests)
insert_is_put (y ∷ ys) (suc i) x le below above =
    let low : y < x = below 0 (omega arith) in
    let later : insert ys i x ≡ put x ys = insert_is_put ys i x (omega arith) (λ k h. below (suc k) (omega arith)) (λ k h w. above (suc k) (omega arith) (omega arith)) in
    grind (arith, nat_tests)

remove_is_without : (low : ℕ) (xs : List ℕ) (i x : ℕ) → RisesFrom low xs → i < length xs → get_or xs i 0 ≡ x → remove xs i ≡ without x xs
remove_is_without low [] i x up h e = absurd (omega arith)
remove_is_without low (y ∷ ys) zero x up h e = grind (arith, nat_tests, without_absent, has_number_below, up.1)
remove_is_without low (y ∷ ys) (suc i) x up h e = grind (arith, nat_tests, remove_is_without (suc y) ys i x up.1 (omega arith) e, rises_at_least, up.1)

-- the list after an insertion at the place that the search told
pub inserted : (xs ys : List ℕ) (x i : ℕ) → RisesFrom 0 xs → Found xs x (Err i) → ys ≡ insert xs i x → (ys ≡ put x xs) × RisesFrom 0 ys
inserted xs ys x i up f e =
    let same : ys ≡ put x xs = e ∙ insert_is_put xs i x f.0 f.1 f.2 in
    (same, rw same (rises_from_put 0 x xs up (omega arith)))

-- the list after a removal at the place that the search told
pub removed : (xs ys : List ℕ) (x i : ℕ) → RisesFrom 0 xs → Found xs x (Ok i) → ys ≡ remove xs i → (ys ≡ without x xs) × RisesFrom 0 ys
removed xs ys x i up f e =
    let same : ys ≡ without x xs = e ∙ remove_is_without 0 xs i x up f.0 f.1 in
    (same, rw same (rises_without 0 x xs up))

-- a search that found the number: putting it in changes nothing
pub put_found : (xs : List ℕ) (x i : ℕ) → RisesFrom 0 xs → Found xs x (Ok i) → put x xs ≡ xs
put_found xs x i up f = put_present 0 x xs up (has_number_at x xs i f.0 f.1)

-- a search that found no such number: taking it out changes nothing
pub without_not_found : (xs : List ℕ) (x i : ℕ) → Found xs x (Err i) → without x xs ≡ xs
without_not_found xs x i f = without_absent x xs (absent_from_sides xs x i f)

-- the list after a push of a number above all others
pub pushed : (xs ys : List ℕ) (x : ℕ) → RisesFrom 0 xs → All (λ y. y < x) xs → ys ≡ xs ++ x ∷ [] → (ys ≡ put x xs) × RisesFrom 0 ys
pushed xs ys x up above e =
    let same : ys ≡ put x xs = e ∙ sym (put_last x xs (λ k h. above k 0 h)) in
    (same, rw same (rises_from_put 0 x xs up (omega arith)))
