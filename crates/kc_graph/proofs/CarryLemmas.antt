-- A number that was pushed comes down to its place, by a turn of all from there on.
use Rattle.std.proofs.Common.{ℕ, ◌-◌, ◌≤◌, ◌≡◌, List, [], ◌∷◌, ◌++◌, length, take, drop, refl, sym, ap, ◌∙◌, append_assoc, append-nil, arith, length-append, length-drop}
use Rattle.std.proofs.lemmas.List.{take-append-drop, length-take-le, take_at, drop_at, take_all, drop_all}
use Rattle.std.specs.List.{insert}
use Rattle.std.specs.Prelude.{Err}
use mathlib.Core.Path.{ap₂}
use borrow.Rule.Slice.PartMut.{mid_of, put_mid}
use Rattle.smallvec.specs.SmallVec.{SmallVec, with_items}
use Rattle.smallvec.proofs.SmallVecLemmas.{items-with_items}
use Rattle.kc_graph.specs.Numbers.{RisesFrom}
use Rattle.kc_graph.specs.private.Numbers.{put, Found}
use Rattle.kc_graph.proofs.SearchLemmas.{inserted}

-- the list with x at place a, after a turn of the part from a on by one
pub turned : (front : List ℕ) (x a : ℕ) (xs ys : List ℕ) → xs ≡ front ++ x ∷ [] → a ≤ length front
    → (let m = mid_of a (length xs - a) xs in ys ≡ drop (length m - 1) m ++ take (length m - 1) m)
    → put_mid a (length xs - a) xs ys ≡ insert front a x
turned front x a xs ys is le turn =
    let k = length xs - a in
    let bs = take a front in
    let ps = drop a front in
    let m = mid_of a k xs in
    let below = length-take-le a front le in
    let cut = length-drop a xs in
    let parted : xs ≡ bs ++ (ps ++ x ∷ []) =
    is ∙ ap (λ (l : List ℕ). l ++ x ∷ []) (sym (take-append-drop a front)) ∙ append_assoc bs ps (x ∷ []) in
    let part : m ≡ ps ++ x ∷ [] =
    take_all k (drop a xs) (omega arith) ∙ ap (drop a) parted ∙ drop_at bs (ps ++ x ∷ []) a below in
    let long : length m - 1 ≡ length ps = omega (arith, ap (λ (l : List ℕ). length l) part, length-append ps (x ∷ [])) in
    let first : ys ≡ x ∷ ps =
    turn ∙ ap (λ n. drop n m ++ take n m) long
    ∙ ap (λ (l : List ℕ). drop (length ps) l ++ take (length ps) l) part
    ∙ ap₂ (λ (u v : List ℕ). u ++ v) (drop_at ps (x ∷ []) (length ps) refl) (take_at ps (x ∷ []) (length ps) refl) in
    ap₂ (λ (u v : List ℕ). u ++ v) (ap (take a) parted ∙ take_at bs (ps ++ x ∷ []) a below)
    (ap₂ (λ (u v : List ℕ). u ++ v) first (drop_all k (drop a xs) (omega arith)) ∙ append-nil (x ∷ ps))

-- a row with x, which was pushed, at the place that the search told: the row shows its numbers, and these change
pub carried : (v : SmallVec ℕ) (shown ys xs : List ℕ) (x i : ℕ) → RisesFrom 0 xs → Found xs x (Err i)
    → v.items ≡ xs ++ x ∷ [] → shown ≡ v.items → length ys ≡ length shown
    → ((front : List ℕ) (z : ℕ) → shown ≡ front ++ z ∷ [] → ys ≡ insert front i z)
    → ((with_items v ys).items ≡ put x xs) × RisesFrom 0 (with_items v ys).items
carried v shown ys xs x i up found came same long carry =
    inserted xs _ x i up found (items-with_items v ys (long ∙ ap (λ (l : List ℕ). length l) same) ∙ carry xs x (same ∙ came))
