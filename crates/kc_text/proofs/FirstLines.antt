-- Bytes that begin with a whole line.
use Rattle.std.proofs.Common.{ℕ, ◌+◌, ◌≤◌, ◌≡◌, List, [], ◌∷◌, ◌++◌, take, arith, add-one, append_assoc}
use Rattle.std.proofs.Math.Seq.{take-suc}
use Rattle.std.proofs.lemmas.List.{length-take-le, get_or-take}
use Rattle.std.proofs.lemmas.Bool.Decides.{nat_tests}
use Rattle.kc_text.specs.declared.line.Body.TheVariants.{Text}
use Rattle.kc_text.specs.Lines.{lines_from, without_cr}
use Rattle.kc_text.specs.WholeLines.{EndsAt}
use Rattle.kc_text.proofs.Giving.{short}
use Rattle.kc_text.proofs.Passing.{line_closed}

ended : (bytes : List ℕ) (len : ℕ) → EndsAt bytes len → take (len + 1) bytes ≡ take len bytes ++ 10 ∷ []
ended bytes len h = rw (add-one, ← h.here) (take-suc bytes len 0 h.within)

-- the lines of bytes that begin with a line
pub first_line : (limit n room total len : ℕ) (bytes rest : List ℕ) → EndsAt bytes len → len ≤ limit → total ≡ len + 1 + room
    → lines_from limit n total [] (take (len + 1) bytes ++ rest) ≡ record { number = n; body = Text (without_cr (take len bytes)) } ∷ lines_from limit (n + 1) room [] rest
first_line limit n room total len bytes rest h few e = grind (arith, nat_tests, length-take-le, short, ended, append_assoc, line_closed, get_or-take, h.within, h.before)
