-- The bytes that were taken of an open line.
use Rattle.std.proofs.Common.{ℕ, ◌+◌, ◌<◌, ◌≤◌, ◌≡◌, List, [], ◌++◌, length, arith, refl, true, false, cond, nat_le, replicate}
use Rattle.std.proofs.lemmas.List.{length-append, length-replicate}
use Rattle.std.proofs.lemmas.Bool.Decides.{nat_tests}
use Rattle.kc_text.specs.private.OpenLines.{piece_of, Grows}

-- nothing is kept of a line of which nothing is taken
pub piece_none : (limit : ℕ) (part : List ℕ) → part ≡ [] → piece_of limit 0 part ≡ []
piece_none limit part e = let none : List ℕ = [] in rw e (elim (nat_le 0 limit) as (λ b. cond b none none ≡ none) [ true ↦ refl | false ↦ refl ])

piece_small : (limit taken : ℕ) (part : List ℕ) → taken ≤ limit → piece_of limit taken part ≡ part
piece_small limit taken part h = grind (arith, nat_tests)

piece_large : (limit taken : ℕ) (part : List ℕ) → limit < taken → piece_of limit taken part ≡ replicate taken 0
piece_large limit taken part h = grind (arith, nat_tests)

pub piece_grows : (limit n taken taken' : ℕ) (part more part' : List ℕ) → length (piece_of limit taken part) ≡ taken → taken' ≡ taken + length more
    → (taken + length more ≤ limit → part' ≡ part ++ more)
    → Grows (record { limit = limit; number = n; piece = piece_of limit taken part }) more (record { limit = limit; number = n; piece = piece_of limit taken' part' })
piece_grows limit n taken taken' part more part' h e k = grind (arith, nat_tests, piece_large, length-replicate, piece_small, length-append)
