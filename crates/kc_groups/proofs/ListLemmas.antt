-- The lists of labels and of moves, over plain lists.
use Rattle.std.proofs.Common.{ℕ, suc, zero, ◌≤◌, ◌<◌, ◌≡◌, inl, inr, Bool, true, false, ◌||◌, eqb, List, [], ◌∷◌, length, get_or, take, map, refl, ap, sym, ◌∙◌, arith, subst}
use Rattle.std.specs.List.{All, Contains}
use Rattle.std.proofs.lemmas.Bool.{cases_eq}
use Rattle.std.proofs.lemmas.Bool.Decides.{nat_tests}
use Rattle.std.proofs.lemmas.List.{map_push}
use Rattle.std.proofs.lemmas.List.Elements.{Contains-push, Contains-append_left}
use Rattle.std.proofs.lemmas.Grind.{common_steps}
use Rattle.kc_graph.specs.Numbers.{RisesFrom, AllBelow, has_number}
use Rattle.kc_graph.proofs.lemmas.Numbers.{rises_at_least, has_number-push, has_number_below}
use Rattle.kc_levels.specs.declared.moves.Move.{Move}
use Rattle.kc_levels.specs.Moved.{pushed_if, move_of}
use Rattle.kc_levels.proofs.lemmas.Moves.{rises_push, below_push, below_next, all_pushed}
use Rattle.kc_groups.specs.Entries.{labels_below, moves_below}

pub labels_rise : (labels : List ℕ) (k : ℕ) → RisesFrom 0 (labels_below labels k) × AllBelow k (labels_below labels k)
labels_rise labels zero = (tt, tt)
labels_rise labels (suc k) = grind (arith, nat_tests, common_steps, labels_rise labels k, rises_push, below_push, below_next)

pub labels_own : (labels : List ℕ) (n k : ℕ) → k ≤ n → All (λ r. (get_or labels r 0 ≡ r) × (r < n)) (labels_below labels k)
labels_own labels n zero le = λ i d h. absurd (omega arith)
labels_own labels n (suc k) le =
    all_pushed (λ r. (get_or labels r 0 ≡ r) × (r < n)) (eqb (get_or labels k 0) k) k (labels_below labels k) (labels_own labels n k (omega arith)) (λ e. (grind (arith, nat_tests, e), omega arith))

-- each label below k is in the list
pub has_label : (labels : List ℕ) (k l : ℕ) → l < k → get_or labels l 0 ≡ l → has_number l (labels_below labels k) ≡ true
has_label labels zero l h e = absurd (omega arith)
has_label labels (suc k) l h e = elim (cases_eq l k) [
  | inl same ↦ here (eqb (get_or labels k 0) k) same (grind (arith, nat_tests, sym (ap (λ u. get_or labels u 0) same) ∙ e ∙ same))
  | inr ne ↦ more (eqb (get_or labels k 0) k) (has_label labels k l (omega arith) e)
]
  where
    here : (b : Bool) → l ≡ k → b ≡ true → has_number l (pushed_if b k (labels_below labels k)) ≡ true
    here b same t = rw t (has_number-push l k (labels_below labels k) ∙ grind (arith, nat_tests, same))

    more : (b : Bool) → has_number l (labels_below labels k) ≡ true → has_number l (pushed_if b k (labels_below labels k)) ≡ true
    more true has = has_number-push l k (labels_below labels k) ∙ grind (arith, nat_tests, has)
    more false has = has

-- the vertices of moves
abbrev pub vertices : List Move → List ℕ
vertices ms = map (λ (m : Move). m.vertex) ms

-- what holds of the move of each vertex of the label l holds of each move of its list
pub all_moves : (labels x y : List ℕ) (l n k : ℕ) (P : Move → Type 0) → k ≤ n → ((v : ℕ) → v < n → get_or labels v 0 ≡ l → P (move_of x y v)) → All P (moves_below labels x y l k)
all_moves labels x y l n zero P le f = λ i d h. absurd (omega arith)
all_moves labels x y l n (suc k) P le f = grind (arith, nat_tests, common_steps, all_moves labels x y l n k P (omega arith) f, all_pushed)

pub moves_rise : (labels x y : List ℕ) (l k : ℕ) → RisesFrom 0 (vertices (moves_below labels x y l k)) × AllBelow k (vertices (moves_below labels x y l k))
moves_rise labels x y l zero = (tt, tt)
moves_rise labels x y l (suc k) = grind (arith, nat_tests, common_steps, moves_rise labels x y l k, map_push, rises_push, below_push, below_next)

-- the move of each vertex of the label l is in the list
pub has_move : (labels x y : List ℕ) (l k v : ℕ) → v < k → get_or labels v 0 ≡ l → Contains (moves_below labels x y l k) (move_of x y v)
has_move labels x y l zero v h e = absurd (omega arith)
has_move labels x y l (suc k) v h e = elim (cases_eq v k) [
  | inl same ↦ subst (λ u. Contains (moves_below labels x y l (suc k)) (move_of x y u)) (sym same) (here (eqb (get_or labels k 0) l) (grind (arith, nat_tests, sym (ap (λ u. get_or labels u 0) same) ∙ e)))
  | inr ne ↦ more (eqb (get_or labels k 0) l) (has_move labels x y l k v (omega arith) e)
]
  where
    here : (b : Bool) → b ≡ true → Contains (pushed_if b (move_of x y k) (moves_below labels x y l k)) (move_of x y k)
    here b t = rw t (Contains-push (moves_below labels x y l k) (move_of x y k))

    more : (b : Bool) → Contains (moves_below labels x y l k) (move_of x y v) → Contains (pushed_if b (move_of x y k) (moves_below labels x y l k)) (move_of x y v)
    more true has = Contains-append_left (moves_below labels x y l k) (move_of x y k ∷ []) (move_of x y v) has
    more false has = has

pub rises_apart : (xs : List ℕ) (low i j : ℕ) → RisesFrom low xs → i < length xs → j < length xs → get_or xs i 0 ≡ get_or xs j 0 → i ≡ j
rises_apart [] low i j up h k e = absurd (omega arith)
rises_apart (x ∷ xs) low zero zero up h k e = refl
rises_apart (x ∷ xs) low zero (suc j) up h k e = absurd (omega (arith, rises_at_least (suc x) xs j up.1 (omega arith)))
rises_apart (x ∷ xs) low (suc i) zero up h k e = absurd (omega (arith, rises_at_least (suc x) xs i up.1 (omega arith)))
rises_apart (x ∷ xs) low (suc i) (suc j) up h k e = ap suc (rises_apart xs (suc x) i j up.1 (omega arith) (omega arith) e)

pub rises_less : (xs : List ℕ) (low i j : ℕ) → RisesFrom low xs → i < j → j < length xs → get_or xs i 0 < get_or xs j 0
rises_less [] low i j up lt h = absurd (omega arith)
rises_less (x ∷ xs) low zero (suc j) up lt h = omega (arith, rises_at_least (suc x) xs j up.1 (omega arith))
rises_less (x ∷ xs) low (suc i) (suc j) up lt h = rises_less xs (suc x) i j up.1 (omega arith) (omega arith)
rises_less (x ∷ xs) low i zero up lt h = absurd (omega arith)

-- a number below the one at place p is among the first p, if it is in the list
pub low_first : (x : ℕ) (xs : List ℕ) (low p : ℕ) → RisesFrom low xs → p < length xs → x < get_or xs p 0 → has_number x (take p xs) ≡ has_number x xs
low_first x [] low p up h lt = absurd (omega arith)
low_first x (y ∷ ys) low zero up h lt = sym (has_number_below y x (y ∷ ys) (omega arith, up.1) lt)
low_first x (y ∷ ys) low (suc p) up h lt = ap (λ b. eqb y x || b) (low_first x ys (suc y) p up.1 (omega arith) lt)
