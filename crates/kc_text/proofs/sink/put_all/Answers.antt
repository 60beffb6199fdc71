use Rattle.std.proofs.Common.{◌∙◌, arith}
use Rattle.kc_text.proofs.Known.{append_take}
use Rattle.kc_text.proofs.sink.put_all.Goals as goal

pub loop-at-preserved : goal.loop-at-preserved
loop-at-preserved g c = record {
  within = omega (arith, c.in_ok-at.ensures.bound);
  taken = append_take _ _ _ _ _ _ c.loop-at.invariant.taken c.in_ok-at.ensures.taken;
  faults = c.in_ok-at.ensures.quiet ∙ c.loop-at.invariant.faults;
}
