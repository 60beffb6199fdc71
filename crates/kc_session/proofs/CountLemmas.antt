-- Counts that stop at the greatest number of 32 bits, while they are added up.
use Rattle.std.proofs.Common.{ℕ, suc, ◌≡◌, ◌<◌, ◌+◌, List, take, length, get_or, min, refl, sym, ap, ◌∙◌, arith}
use Rattle.std.specs.List.{sum_by}
use Rattle.std.proofs.Math.Seq.{take-suc, take-length}
use Rattle.std.proofs.lemmas.List.Sums.{sum_by_push}
use Rattle.std.proofs.lemmas.Bool.Decides.{nat_tests}
use Rattle.kc_session.specs.declared.counts.Counts.{Counts}
use Rattle.kc_session.specs.Counts.{capped}

pub capped_more : (a b c : ℕ) → c ≡ capped a → capped (c + b) ≡ capped (a + b)
capped_more a b c e = grind (arith, nat_tests, min)

-- one more item of a list was added
pub capped_next : (X : Type 0) (f : X → ℕ) (xs : List X) (i : ℕ) (d : X) (first old more new : ℕ) → i < length xs → old ≡ capped (first + sum_by f (take i xs)) → more ≡ f (get_or xs i d) → new ≡ capped (old + more)
    → new ≡ capped (first + sum_by f (take (i + 1) xs))
capped_next X f xs i d first old more new lt h m e =
    let s : i + 1 ≡ suc i = omega arith in
    let sum : sum_by f (take (i + 1) xs) ≡ sum_by f (take i xs) + more =
    ap (λ j. sum_by f (take j xs)) s ∙ (ap (λ (ys : List X). sum_by f ys) (take-suc xs i d lt) ∙ (sum_by_push f (take i xs) (get_or xs i d) ∙ ap (λ k. sum_by f (take i xs) + k) (sym m))) in
    let whole : (first + sum_by f (take i xs)) + more ≡ first + sum_by f (take (i + 1) xs) = omega (arith, sum) in
    e ∙ (capped_more (first + sum_by f (take i xs)) more old h ∙ ap capped whole)

-- the whole list was added
pub capped_all : (X : Type 0) (f : X → ℕ) (xs : List X) (i : ℕ) (first old : ℕ) → i ≡ length xs → old ≡ capped (first + sum_by f (take i xs)) → old ≡ capped (first + sum_by f xs)
capped_all X f xs i first old all h = h ∙ ap (λ (ys : List X). capped (first + sum_by f ys)) (ap (λ j. take j xs) all ∙ take-length xs)

pub counts_same : (c d : Counts) → c.batches ≡ d.batches → c.refused ≡ d.refused → c.groups ≡ d.groups → c.moves ≡ d.moves → c ≡ d
counts_same c d e f g h = rw (e, f, g, h) refl
