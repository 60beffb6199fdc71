use Rattle.std.proofs.Common.{◌≡◌, true, false, ap, sym, inl, inr, ◌∙◌, arith, refl}
use Rattle.std.specs.Prelude.{Result, Ok, Err}
use Rattle.std.specs.Result.{is_ok, is_err}
use Rattle.std.proofs.lemmas.Bool.{cases_lt}
use Rattle.std.proofs.lemmas.List.{get_or_default}
use Rattle.kc_adj.proofs.passes.are_made.Goals as goal

ok_from : {X E : Type 0} (r : Result X E) → is_err r ≡ false → is_ok r ≡ true
ok_from (Ok x) e = refl
ok_from (Err x) e = absurd (cc)

pub loop-piece-preserved : goal.loop-piece-preserved
loop-piece-preserved c = λ k d h. elim (cases_lt k c.loop-piece.piece-index) [
  | inl lt ↦ c.loop-piece.invariant k d lt
  | inr ge ↦
      let e : k ≡ c.loop-piece.piece-index = omega (arith, ge, h) in
      rw e (ap is_ok (get_or_default c.args.pieces.now c.loop-piece.piece-index d c.piece-item.result c.loop-piece-test.true ∙ sym c.piece-item.is) ∙ ok_from c.piece-item.result (sym c.is_err.ensures.value ∙ c.if-is_err.false))
]
