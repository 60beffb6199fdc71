-- The first level on which one of the ranges has something.
use Rattle.std.proofs.Common.{ℕ, suc, zero, ◌+◌, ◌≤◌, ◌<◌, ◌≡◌, inl, inr, List, [], ◌∷◌, ◌++◌, length, get_or, refl, ap, sym, ◌∙◌, arith}
use Rattle.std.specs.Prelude.{All}
use Rattle.std.specs.List.{flat_map}
use Rattle.std.proofs.lemmas.Bool.{cases_eq}
use Rattle.std.proofs.lemmas.Bool.Decides.{nat_tests}
use Rattle.kc_insert.specs.Ranges.{no_part, Part}

module _ {X : Type 0} (of : Part → List (List X)) where
  -- of the ranges the first i were looked at: from the level `from` on none of them has anything before `next`
  pub record IsNearest (items : List Part) (i from next : ℕ) : Type 0 where
    pub first : i ≡ 0 → next ≡ 65535
    pub above : from ≤ next
    pub none : (k j : ℕ) (d : Part) → from ≤ k → k < next → j < i → get_or (of (get_or items j d)) k [] ≡ []
    pub some : (n : ℕ) → 0 < i → All (λ p. length (of p) ≡ n) items → (next ≤ n) × (((j : ℕ) (d : Part) → j < i → get_or (of (get_or items j d)) next [] ≡ []) → n ≤ next)

  pub nearest_first : (items : List Part) (from : ℕ) → from ≤ 65535 → IsNearest items 0 from 65535
  nearest_first items from small = record {
    first = λ e. refl;
    above = small;
    none = λ k j d a b h. absurd (omega (arith, h));
    some = λ n h all. absurd (omega (arith, h));
  }

  -- the next range has something on `level` first
  module _ (items : List Part) (i from next level : ℕ) (at : i < length items) (s : IsNearest items i from next) (small : level ≤ 65535) (above : from ≤ level) (inside : (d : Part) → level ≤ length (of (get_or items i d))) (none : (d : Part) (k : ℕ) → from ≤ k → k < level → get_or (of (get_or items i d)) k [] ≡ []) (some : (d : Part) → get_or (of (get_or items i d)) level [] ≡ [] → length (of (get_or items i d)) ≤ level) where
    none_of : (most : ℕ) → most ≤ next → most ≤ level → (k j : ℕ) (d : Part) → from ≤ k → k < most → j < i + 1 → get_or (of (get_or items j d)) k [] ≡ []
    none_of most a b k j d over below h = grind (arith, nat_tests, s.none)

    pub nearest_lower : level < next → IsNearest items (i + 1) from level
    nearest_lower lt = record {
      first = λ e. absurd (omega (arith, e));
      above = above;
      none = none_of level (omega (arith, lt)) (omega arith);
      some = λ n h all. (
        omega (arith, inside no_part, all i no_part at),
        λ empty. omega (arith, some no_part (empty i no_part (omega arith)), all i no_part at),
      );
    }

    pub nearest_kept : next ≤ level → IsNearest items (i + 1) from next
    nearest_kept le = record {
      first = λ e. absurd (omega (arith, e));
      above = s.above;
      none = none_of next (omega arith) le;
      some = λ n h all. (
        omega (arith, le, inside no_part, all i no_part at),
        λ empty. elim (cases_eq next level) [
          | inl e ↦ omega (arith, e, some no_part (ap (λ k. get_or (of (get_or items i no_part)) k []) (sym e) ∙ empty i no_part (omega arith)), all i no_part at)
          | inr ne ↦ grind (arith, nat_tests, cases_eq i 0, s.first, s.some)
        ],
      );
    }

nothing_first : {X : Type 0} (xs ys : List X) → xs ++ ys ≡ [] → xs ≡ []
nothing_first [] ys e = refl
nothing_first (x ∷ xs) ys e = cc

nothing_second : {X : Type 0} (xs ys : List X) → xs ++ ys ≡ [] → ys ≡ []
nothing_second [] ys e = e
nothing_second (x ∷ xs) ys e = cc

-- nothing in all is nothing in each
pub flat_none : {P X : Type 0} (f : P → List X) (ps : List P) → ((k : ℕ) (d : P) → k < length ps → f (get_or ps k d) ≡ []) → flat_map f ps ≡ []
flat_none f [] none = refl
flat_none {P} {X} f (p ∷ ps) none = ap (λ (xs : List X). xs ++ flat_map f ps) (none 0 p (omega arith)) ∙ flat_none f ps (λ k d h. none (suc k) d (omega (arith, h)))

pub flat_nothing : {P X : Type 0} (f : P → List X) (ps : List P) → flat_map f ps ≡ [] → (k : ℕ) (d : P) → k < length ps → f (get_or ps k d) ≡ []
flat_nothing f [] e k d h = absurd (omega arith)
flat_nothing f (p ∷ ps) e zero d h = nothing_first (f p) (flat_map f ps) e
flat_nothing f (p ∷ ps) e (suc k) d h = flat_nothing f ps (nothing_second (f p) (flat_map f ps) e) k d (omega arith)
