-- The vertices that move and their moves, as ascending lists.
use Rattle.std.proofs.Common.{ℕ, suc, zero, ◌+◌, ◌≤◌, ◌<◌, ◌≡◌, Bool, true, false, ◌&&◌, ltb, List, [], ◌∷◌, ◌++◌, length, map, refl, ap, sym, ◌∙◌, arith}
use Rattle.std.specs.List.{All}
use Rattle.std.proofs.lemmas.Bool.Decides.{nat_tests}
use Rattle.std.proofs.lemmas.List.{length-map, length_push}
use Rattle.std.proofs.lemmas.List.Elements.{All-push, All-map}
use Rattle.kc_graph.specs.Numbers.{RisesFrom, AllBelow, has_number, count_below}
use Rattle.kc_graph.proofs.lemmas.Numbers.{has_number-push, same_rising}
use Rattle.kc_levels.specs.declared.moves.Move.{Move}
use Rattle.kc_levels.specs.Moved.{is_moved, moved_count, pushed_if, moved_below, move_of, moves_between}

pub rises_push : (low k : ℕ) (xs : List ℕ) → RisesFrom low xs → AllBelow k xs → low ≤ k → RisesFrom low (xs ++ k ∷ [])
rises_push low k [] up below le = (le, tt)
rises_push low k (x ∷ xs) up below le = (up.0, rises_push (suc x) k xs up.1 below.1 (omega (arith, below.0)))

pub below_push : (k : ℕ) (xs : List ℕ) → AllBelow k xs → AllBelow (suc k) (xs ++ k ∷ [])
below_push k [] below = (omega arith, tt)
below_push k (x ∷ xs) below = (omega (arith, below.0), below_push k xs below.1)

pub below_next : (k : ℕ) (xs : List ℕ) → AllBelow k xs → AllBelow (suc k) xs
below_next k [] below = tt
below_next k (x ∷ xs) below = (omega (arith, below.0), below_next k xs below.1)

pub all_pushed : {A : Type 0} (P : A → Type 0) (b : Bool) (x : A) (xs : List A) → All P xs → (b ≡ true → P x) → All P (pushed_if b x xs)
all_pushed P true x xs all here = All-push P xs x all (here refl)
all_pushed P false x xs all here = all

pub rises_pushed : (b : Bool) (k : ℕ) (xs : List ℕ) → RisesFrom 0 xs × AllBelow k xs → RisesFrom 0 (pushed_if b k xs) × AllBelow (suc k) (pushed_if b k xs)
rises_pushed true k xs before = (rises_push 0 k xs before.0 before.1 (omega arith), below_push k xs before.1)
rises_pushed false k xs before = (before.0, below_next k xs before.1)

-- each vertex of the list is below the bound and moves
pub moved_all : (moved : ℕ → Bool) (n k : ℕ) → k ≤ n → All (λ v. (v < n) × (moved v ≡ true)) (moved_below moved k)
moved_all moved n zero le = λ i d h. absurd (omega arith)
moved_all moved n (suc k) le = all_pushed (λ v. (v < n) × (moved v ≡ true)) (moved k) k (moved_below moved k) (moved_all moved n k (omega arith)) (λ e. (omega arith, e))

pub moved_rise : (moved : ℕ → Bool) (k : ℕ) → RisesFrom 0 (moved_below moved k) × AllBelow k (moved_below moved k)
moved_rise moved zero = (tt, tt)
moved_rise moved (suc k) = rises_pushed (moved k) k (moved_below moved k) (moved_rise moved k)

-- a vertex is in the list exactly where it is below the bound and moves
pub has_number-moved_below : (moved : ℕ → Bool) (k v : ℕ) → has_number v (moved_below moved k) ≡ ltb v k && moved v
has_number-moved_below moved zero v = grind (arith, nat_tests)
has_number-moved_below moved (suc k) v = grind (arith, nat_tests, has_number-moved_below moved k v, has_number-push)

pub length-moved_below : (moved : ℕ → Bool) (k : ℕ) → length (moved_below moved k) ≡ count_below k moved
length-moved_below moved zero = refl
length-moved_below moved (suc k) = grind (arith, nat_tests, length-moved_below moved k, length_push)

-- a rising list of just the vertices below n that move is the list of those
pub moved_below_is : (moved : ℕ → Bool) (n : ℕ) (vs : List ℕ) → RisesFrom 0 vs → ((v : ℕ) → has_number v vs ≡ ltb v n && moved v) → vs ≡ moved_below moved n
moved_below_is moved n vs up each = same_rising 0 vs (moved_below moved n) up (moved_rise moved n).0 (λ v. each v ∙ sym (has_number-moved_below moved n v))

module _ (n : ℕ) (x y : List ℕ) where
  pub length-moves_between : length (moves_between n x y) ≡ moved_count n x y
  length-moves_between = length-map (moved_below (is_moved x y) n) (move_of x y) ∙ length-moved_below (is_moved x y) n

  -- the vertices of the moves are those that move
  pub vertices_between : map (λ (m : Move). m.vertex) (moves_between n x y) ≡ moved_below (is_moved x y) n
  vertices_between = go (moved_below (is_moved x y) n)
    where
      go : (vs : List ℕ) → map (λ (m : Move). m.vertex) (map (move_of x y) vs) ≡ vs
      go [] = refl
      go (v ∷ vs) = ap (λ us. v ∷ us) (go vs)

  -- each move is that of a vertex below n which moves
  pub moves_own : All (λ m. (m.vertex < n) × (is_moved x y m.vertex ≡ true) × (m ≡ move_of x y m.vertex)) (moves_between n x y)
  moves_own =
      All-map (λ (m : Move). (m.vertex < n) × (is_moved x y m.vertex ≡ true) × (m ≡ move_of x y m.vertex)) (move_of x y) (moved_below (is_moved x y) n) (λ i d h.
      let own = moved_all (is_moved x y) n n (omega arith) i d h in
      (own.0, own.1, refl))
