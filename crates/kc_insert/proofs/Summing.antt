-- What all ranges tell: as one list, and the list that each has for each.
use Rattle.std.proofs.Common.{ℕ, suc, ◌<◌, ◌≡◌, true, Bool, List, [], ◌∷◌, ◌++◌, length, get_or, refl, ap, sym, ◌∙◌, arith}
use Rattle.std.specs.List.{flat_map}
use Rattle.kc_insert.specs.Ranges.{no_part, Part, Tell}
use Rattle.kc_insert.specs.private.Sharing.{AreTold, told_all}
use Rattle.kc_insert.specs.private.Telling.{in_range}

-- what all told is what each tells
pub tells_are : (f : Part → List ℕ) (parts : List Part) (told : List Tell) → length told ≡ length parts → ((i : ℕ) (d : Tell) (e : Part) → i < length parts → (get_or told i d).all ≡ f (get_or parts i e)) → told_all told ≡ flat_map f parts
tells_are f [] [] same each = refl
tells_are f [] (t ∷ ts) same each = absurd (omega (arith, same))
tells_are f (p ∷ ps) [] same each = absurd (omega (arith, same))
tells_are f (p ∷ ps) (t ∷ ts) same each =
    ap (λ (ys : List ℕ). ys ++ told_all ts) (each 0 t p (omega arith))
    ∙ ap (λ (ys : List ℕ). f p ++ ys) (tells_are f ps ts (omega (arith, same)) (λ i d e h. each (suc i) d e (omega (arith, h))))

-- the lists that the ranges told, in the places of these
pub lists_told : (width n : ℕ) (is_dealt : Bool) (parts : List Part) (told : List Tell) → length told ≡ length parts → ((i : ℕ) (d : Part) (e : Tell) → i < length parts → get_or told i e ≡ (get_or parts i d).tell) → ((i : ℕ) → i < length parts → length (get_or parts i no_part).tell.lists ≡ n) → (is_dealt ≡ true → (i : ℕ) → i < length parts → (k : ℕ) → k < n → get_or (get_or parts i no_part).tell.lists k [] ≡ in_range width k (get_or parts i no_part).tell.all) → AreTold width is_dealt n told
lists_told width n is_dealt parts told same tells lists dealt = record {
  sized = λ i t h. ap (λ (u : Tell). length u.lists) (tells i no_part t (omega (arith, h, same))) ∙ lists i (omega (arith, h, same));
  dealt = λ is i t h k at.
      let there : i < length parts = omega (arith, h, same) in
      ap (λ (u : Tell). get_or u.lists k []) (tells i no_part t there) ∙ dealt is i there k at ∙ ap (λ (u : Tell). in_range width k u.all) (sym (tells i no_part t there));
}
