use Rattle.std.proofs.Common.{◌≡◌, ◌≤◌, leb, get_or, take}
use Rattle.std.specs.Prelude.{count_by}
use Rattle.kc_cert.proofs.verdict.counts.Given as goal

abbrev pub invariant-loop-w : goal.invariant-loop-w
invariant-loop-w l = record {
  up : l.up ≡ count_by (λ w. leb l.level (get_or l.levels w 0)) (take l.w-index l.neighbours);
  down : l.down ≡ count_by (λ w. leb l.below (get_or l.levels w 0)) (take l.w-index l.neighbours);
  up_few : l.up ≤ l.w-index;
  down_few : l.down ≤ l.w-index;
}
