-- Lists, item by item.
use Rattle.std.proofs.Common.{ℕ, suc, zero, ◌≡◌, ◌+◌, ◌<◌, List, [], ◌∷◌, ◌++◌, length, get_or, take, ap, sym, ◌∙◌, arith, append_assoc, length-append, subst}
use Rattle.std.specs.Prelude.{All}
use Rattle.std.proofs.lemmas.Bool.Decides.{nat_tests}
use Rattle.std.proofs.Math.Seq.{get_or-append_seam}

take_suc : {A : Type 0} → (xs : List A) (i : ℕ) (d x : A) → i < length xs → x ≡ get_or xs i d → take (suc i) xs ≡ take i xs ++ x ∷ []
take_suc [] i d x lt is = absurd (omega (arith, lt))
take_suc (y ∷ ys) zero d x lt is = ap (λ z. z ∷ []) (sym is)
take_suc (y ∷ ys) (suc i) d x lt is = ap (λ zs. y ∷ zs) (take_suc ys i d x (omega (arith, lt)) is)

-- one more item
pub take_snoc : {A : Type 0} → (xs : List A) (i : ℕ) (d x : A) → i < length xs → x ≡ get_or xs i d → take (i + 1) xs ≡ take i xs ++ x ∷ []
take_snoc xs i d x lt is = let e : i + 1 ≡ suc i = omega arith in ap (λ k. take k xs) e ∙ take_suc xs i d x lt is

-- one item was taken of those that are left
pub moved_over : {A : Type 0} → (all past rest later : List A) (x : A) → past ++ rest ≡ all → rest ≡ x ∷ later → (past ++ x ∷ []) ++ later ≡ all
moved_over all past rest later x e f = append_assoc past (x ∷ []) later ∙ (ap (λ zs. past ++ zs) (sym f) ∙ e)

-- a fact about all items holds of the next one
pub next_of_all : {A : Type 0} → (P : A → Type 0) (all past rest later : List A) (x : A) → All P all → past ++ rest ≡ all → rest ≡ x ∷ later → P x
next_of_all P all past rest later x every e f =
    let whole : past ++ x ∷ later ≡ all = ap (λ zs. past ++ zs) (sym f) ∙ e in
    let size : length past < length all = (let z = ap (λ zs. length zs) whole in let y = length-append past (x ∷ later) in omega (arith, z, y)) in
    let here : get_or all (length past) x ≡ x = ap (λ zs. get_or zs (length past) x) (sym whole) ∙ get_or-append_seam past x later x in
    subst P here (every (length past) x size)

-- before an item there are fewer than in all
pub fewer_past : {A : Type 0} → (all past rest later : List A) (x : A) → past ++ rest ≡ all → rest ≡ x ∷ later → length past < length all
fewer_past all past rest later x e f = grind (arith, nat_tests, length-append)
