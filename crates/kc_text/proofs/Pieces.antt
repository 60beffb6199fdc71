-- Lines are the pieces between line feeds.
use Rattle.std.proofs.Common.{ℕ, suc, ◌+◌, ◌-◌, ◌≡◌, List, [], ◌∷◌, ◌++◌, length, arith, refl, ap, ◌∙◌, append_assoc}
use Rattle.std.specs.Prelude.{All}
use Rattle.std.proofs.lemmas.List.{append-nil, length-append}
use Rattle.std.proofs.lemmas.List.Elements.{All-tail, All-head}
use Rattle.std.proofs.lemmas.Bool.{ne_eqb}
use Rattle.kc_text.specs.Lines.{lines_from, numbered_line}
use Rattle.kc_text.specs.Laws.{HasNoEnd, joined, numbered, CutsAtEnds, StopsAtLimit}
use Rattle.kc_text.proofs.Passing as pass

-- a piece without a line feed, byte by byte
no_end : (c : List ℕ) → HasNoEnd c → pass.HasNoEnd c
no_end c h = λ k lt. ne_eqb _ _ (h k 0 lt)

-- the open piece at the end of the pieces
pieces_before : (limit n room room' : ℕ) (pieces : List (List ℕ)) (last more : List ℕ) → All HasNoEnd pieces → HasNoEnd last → room ≡ length (joined pieces last) + room'
    → lines_from limit n room [] (joined pieces last ++ more) ≡ numbered limit n pieces ++ lines_from limit (n + length pieces) room' last more
pieces_before limit n room room' [] last more h hl e = let here : n + 0 ≡ n = omega arith in rw here (pass.pass_over limit n room' room [] last more e (no_end last hl))
pieces_before limit n room room' (p ∷ ps) last more h hl e =
    let then : ℕ = length (joined ps last) + room' in
    let len : room ≡ length p + suc then = omega (arith, e, simp length-append at e) in
    let count : n + 1 + length ps ≡ n + suc (length ps) = omega arith in
    let go = rw count at (pieces_before limit (n + 1) then room' ps last more (All-tail HasNoEnd p ps h) hl refl) in
    rw append_assoc (pass.line_closed limit n then room [] p (joined ps last ++ more) len (no_end p (All-head HasNoEnd p ps h)) ∙ ap (λ rest. numbered_line limit n p ∷ rest) go)

pub cuts_at_ends : CutsAtEnds
unfolding lines_from
cuts_at_ends limit room pieces last h hl small =
    rw append-nil at (pieces_before limit 1 room (room - length (joined pieces last)) pieces last [] h hl (omega arith))

pub stops_at_limit : StopsAtLimit
unfolding lines_from
stops_at_limit limit room pieces last b more h hl full =
    pieces_before limit 1 room 0 pieces last (b ∷ more) h hl (omega arith)
