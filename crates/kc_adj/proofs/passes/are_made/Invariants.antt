use Rattle.std.proofs.Common.{ℕ, ◌≡◌, ◌<◌, true, get_or}
use Rattle.std.specs.Prelude.{Result}
use Rattle.std.specs.Result.{is_ok}
use Rattle.std.specs.declared.alloc.AllocError.{AllocError}
use Rattle.kc_adj.specs.declared.passes.Passed.{Passed}
use Rattle.kc_adj.proofs.passes.are_made.Given as goal

abbrev pub invariant-loop-piece : goal.invariant-loop-piece
invariant-loop-piece l = (k : ℕ) (d : Result Passed AllocError) → k < l.piece-index → is_ok (get_or l.pieces k d) ≡ true
