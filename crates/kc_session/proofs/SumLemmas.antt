-- Sums and the greatest item of a list, while they are computed.
use Rattle.std.proofs.Common.{ℕ, suc, ◌≡◌, ◌<◌, ◌+◌, List, ◌∷◌, [], ◌++◌, take, length, get_or, max, refl, sym, ap, ◌∙◌, arith}
use Rattle.std.specs.List.{sum_by, fold}
use Rattle.std.proofs.Math.Seq.{take-suc, take-length}
use Rattle.std.proofs.lemmas.List.Sums.{sum_by_push}
use Rattle.kc_session.specs.Ended.{greatest}

-- a sum, while it is added up
pub sum_next : (X : Type 0) (f : X → ℕ) (xs : List X) (i : ℕ) (d : X) (old more new : ℕ) → i < length xs → old ≡ sum_by f (take i xs) → more ≡ f (get_or xs i d) → new ≡ old + more → new ≡ sum_by f (take (i + 1) xs)
sum_next X f xs i d old more new lt h m e =
    let s : i + 1 ≡ suc i = omega arith in
    let sum : sum_by f (take (i + 1) xs) ≡ sum_by f (take i xs) + f (get_or xs i d) =
    ap (λ j. sum_by f (take j xs)) s ∙ (ap (λ (ys : List X). sum_by f ys) (take-suc xs i d lt) ∙ sum_by_push f (take i xs) (get_or xs i d)) in
    omega (arith, h, m, e, sum)

pub sum_all : (X : Type 0) (f : X → ℕ) (xs : List X) (i old : ℕ) → i ≡ length xs → old ≡ sum_by f (take i xs) → old ≡ sum_by f xs
sum_all X f xs i old all h = h ∙ ap (λ (ys : List X). sum_by f ys) (ap (λ j. take j xs) all ∙ take-length xs)

-- the greatest item, while it is searched
fold_push : (a : ℕ) (xs : List ℕ) (x : ℕ) → fold max a (xs ++ x ∷ []) ≡ max (fold max a xs) x
fold_push a [] x = refl
fold_push a (y ∷ ys) x = fold_push (max a y) ys x

pub greatest_next : (xs : List ℕ) (i d old new : ℕ) → i < length xs → old ≡ greatest (take i xs) → new ≡ max old (get_or xs i d) → new ≡ greatest (take (i + 1) xs)
greatest_next xs i d old new lt h e =
    let s : i + 1 ≡ suc i = omega arith in
    let more : greatest (take (i + 1) xs) ≡ max (greatest (take i xs)) (get_or xs i d) =
    ap (λ j. greatest (take j xs)) s ∙ (ap (λ (ys : List ℕ). greatest ys) (take-suc xs i d lt) ∙ fold_push 0 (take i xs) (get_or xs i d)) in
    e ∙ (ap (λ k. max k (get_or xs i d)) h ∙ sym more)

pub greatest_all : (xs : List ℕ) (i old : ℕ) → i ≡ length xs → old ≡ greatest (take i xs) → old ≡ greatest xs
greatest_all xs i old all h = h ∙ ap (λ (ys : List ℕ). greatest ys) (ap (λ j. take j xs) all ∙ take-length xs)
