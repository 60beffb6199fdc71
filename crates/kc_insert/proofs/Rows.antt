-- Passes over the rows of a list of vertices, one vertex after another: what is told, and which of a row pass a test.
use Rattle.std.proofs.Common.{ℕ, ◌+◌, ◌≤◌, ◌<◌, ◌≡◌, List, [], ◌∷◌, ◌++◌, length, get_or, take, ap, sym, ◌∙◌, arith, suc, zero, Bool, true, ◌&&◌, ◌*◌, refl}
use Rattle.std.specs.List.{flat_map}
use Rattle.std.proofs.lemmas.List.{take_more, append-nil, flat_map_more}
use Rattle.std.specs.Prelude.{count_by, filter}
use Rattle.std.proofs.lemmas.Bool.Decides.{nat_tests}
use Rattle.kc_graph.specs.Shape.{GraphShape, neighbours_of}
use Rattle.kc_adj.specs.Degrees.{degrees}
use Rattle.kc_graph.specs.Numbers.{has_number}
use Rattle.kc_graph.proofs.lemmas.Numbers.{has_number_at}
use Rattle.kc_insert.specs.Ranges.{Tell}
use Rattle.kc_insert.specs.private.Crossing.{with_levels}
use Rattle.kc_insert.proofs.Buckets.{has_number-filter}
use Rattle.kc_insert.proofs.Efforts.{degrees-append}

-- the steps of a loop that went through the rows of the first i vertices of the list
pub record AreSteps (g : GraphShape) (vs : List ℕ) (i steps : ℕ) : Type 0 where
  pub total : steps ≡ degrees g (take i vs)
  pub few : steps ≤ 16777216 * i

pub degrees_more : (g : GraphShape) (xs : List ℕ) (i : ℕ) → i < length xs → degrees g (take (i + 1) xs) ≡ degrees g (take i xs) + length (neighbours_of (get_or xs i 0) g.edges)
degrees_more g xs i at = ap (degrees g) (take_more xs i 0 at) ∙ degrees-append g (take i xs) (get_or xs i 0 ∷ []) ∙ omega arith

-- the rows of the first i vertices of the list were told
pub told_first : (f : ℕ → List ℕ) (xs : List ℕ) (a : Tell) → a ≡ record a { all = a.all ++ flat_map f (take 0 xs) }
told_first f xs a = ap (λ ys. record a { all = ys }) (sym (append-nil a.all))

pub told_next : (f : ℕ → List ℕ) (xs : List ℕ) (i : ℕ) (a b c : Tell) → i < length xs → b ≡ record a { all = a.all ++ flat_map f (take i xs) } → c ≡ record b { all = b.all ++ f (get_or xs i 0) } → c ≡ record a { all = a.all ++ flat_map f (take (i + 1) xs) }
told_next f xs i a b c at is more = grind (arith, nat_tests, flat_map_more, take_more)

-- what is at a place passes
pub passes_at : (p : ℕ → Bool) (ws : List ℕ) (i : ℕ) → i < length (filter p ws) → (has_number (get_or (filter p ws) i 0) ws ≡ true) × (p (get_or (filter p ws) i 0) ≡ true)
passes_at p ws i at = both _ _ (sym (has_number-filter (get_or (filter p ws) i 0) p ws) ∙ has_number_at (get_or (filter p ws) i 0) (filter p ws) i at refl)
  where
    both : (a b : Bool) → a && b ≡ true → (a ≡ true) × (b ≡ true)
    both a b e = (grind (arith, nat_tests, e), grind (arith, nat_tests, e))

-- of `items` those in `rest` are still to be looked at: a vertex that passes the first test is counted; one that passes
-- the second is kept, followed by its level
pub record IsLookingUp (p q : ℕ → Bool) (x items rest : List ℕ) (count : ℕ) (found : List ℕ) : Type 0 where
  pub counted : count + count_by p rest ≡ count_by p items
  pub kept : found ++ with_levels x (filter q rest) ≡ with_levels x (filter q items)

-- what is at the places of a list with levels
pub length-with_levels : (x ws : List ℕ) → length (with_levels x ws) ≡ 2 * length ws
length-with_levels x [] = refl
length-with_levels x (w ∷ ws) = omega (arith, length-with_levels x ws)

pub vertex_at : (x ws : List ℕ) (i : ℕ) → get_or (with_levels x ws) (2 * i) 0 ≡ get_or ws i 0
vertex_at x [] i = refl
vertex_at x (w ∷ ws) zero = refl
vertex_at x (w ∷ ws) (suc i) = grind (arith, nat_tests, vertex_at x ws i)

pub level_at : (x ws : List ℕ) (i : ℕ) → i < length ws → get_or (with_levels x ws) (2 * i + 1) 0 ≡ get_or x (get_or ws i 0) 0
level_at x [] i at = absurd (omega arith)
level_at x (w ∷ ws) zero at = refl
level_at x (w ∷ ws) (suc i) at = grind (arith, nat_tests, level_at x ws i (omega arith))
