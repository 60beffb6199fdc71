use Rattle.std.proofs.Common.{◌≡◌, drop, false, take, get_or}
use Rattle.std.specs.Prelude.{All}
use Rattle.kc_history.specs.Points.{with_moves}
use Rattle.kc_audit.specs.Runs.{moves_of}
use Rattle.kc_audit.proofs.walk.move_members.Given as goal

abbrev pub invariant-loop-member : goal.invariant-loop-member
invariant-loop-member l = record {
  levels : with_moves l.levels (moves_of (drop l.member-index l.members)) ≡ with_moves l.fn.levels (moves_of l.members);
  unmet : l.met ≡ false → All (λ m. get_or l.awaited m.vertex false ≡ false) (take l.member-index l.members);
}
