-- Lines of a rest whose front is known.
use Rattle.std.proofs.Common.{ℕ, zero, suc, ◌+◌, ◌<◌, ◌≡◌, ◌==◌, List, [], ◌∷◌, ◌++◌, length, arith, refl, sym, ◌∙◌, append_assoc, get_or, false}
use Rattle.std.proofs.lemmas.List.{append-nil, length-append}
use Rattle.std.proofs.lemmas.Bool.Decides.{nat_tests}
use Rattle.kc_text.specs.Lines.{lines_from, numbered_line, last_of, at_limit, body_of}
use Rattle.kc_text.specs.declared.line.Body.TheVariants.{TooLong, End}

-- no byte ends a line
abbrev pub HasNoEnd : List ℕ → Type 0
HasNoEnd c = (k : ℕ) → k < length c → (get_or c k 0 == 10) ≡ false

pub pass_over : (limit n room total : ℕ) (piece c bs : List ℕ) → total ≡ length c + room → HasNoEnd c → lines_from limit n total piece (c ++ bs) ≡ lines_from limit n room (piece ++ c) bs
unfolding lines_from
pass_over limit n room total piece [] bs e h =
    let e' : total ≡ room = omega arith in
    rw (e', append-nil) refl
pass_over limit n room zero piece (x ∷ xs) bs e h = absurd (omega arith)
pass_over limit n room (suc t) piece (x ∷ xs) bs e h =
    let e' : t ≡ length xs + room = omega arith in
    let hx : (x == 10) ≡ false = h 0 (omega arith) in
    rw hx (rw append_assoc at (pass_over limit n room t (piece ++ x ∷ []) xs bs e' (λ k lt. h (suc k) (omega arith))))

pub too_long : (limit : ℕ) (piece : List ℕ) → limit < length piece → body_of limit piece ≡ TooLong
too_long limit piece h = grind (arith, nat_tests)

last_long : (limit n : ℕ) (piece : List ℕ) → limit < length piece → last_of limit n piece ≡ record { number = n; body = TooLong } ∷ record { number = n + 1; body = End } ∷ []
last_long limit n piece h = grind (arith, nat_tests, too_long)

pub over_same : (limit n room : ℕ) (piece other bs : List ℕ) → limit < length piece → limit < length other → lines_from limit n room piece bs ≡ lines_from limit n room other bs
unfolding lines_from
over_same limit n room piece other [] p q = last_long limit n piece p ∙ sym (last_long limit n other q)
over_same limit n zero piece other (b ∷ bs) p q = refl
over_same limit n (suc room) piece other (b ∷ bs) p q = grind (arith, nat_tests, over_same limit n room (piece ++ b ∷ []) (other ++ b ∷ []) bs (simp length-append (omega arith)) (simp length-append (omega arith)), too_long, length-append)

-- the piece that a line's end closes
pub line_closed : (limit n room total : ℕ) (piece c bs : List ℕ) → total ≡ length c + suc room → HasNoEnd c → lines_from limit n total piece (c ++ 10 ∷ bs) ≡ numbered_line limit n (piece ++ c) ∷ lines_from limit (n + 1) room [] bs
unfolding lines_from
line_closed limit n room total piece c bs e h = pass_over limit n (suc room) total piece c (10 ∷ bs) e h

-- the limit of the input within a line
pub limit_met : (limit n total : ℕ) (piece c : List ℕ) (b : ℕ) (bs : List ℕ) → total ≡ length c → HasNoEnd c → lines_from limit n total piece (c ++ b ∷ bs) ≡ at_limit n
unfolding lines_from
limit_met limit n total piece c b bs e h = pass_over limit n 0 total piece c (b ∷ bs) (omega arith) h
