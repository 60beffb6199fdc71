use Rattle.std.proofs.Common.{drop}
use Rattle.kc_adj.specs.private.Lifting.{gains, AreGaining}
use Rattle.kc_adj.proofs.passes.gain_all.Given as goal

abbrev pub invariant-loop-w : goal.invariant-loop-w
invariant-loop-w l =
    AreGaining (gains l.lift l.from l.to 0) l.touched (drop l.w-index l.touched) l.initial.counts.own.items l.counts.own.items
    × AreGaining (gains l.lift l.from l.to 1) l.touched (drop l.w-index l.touched) l.initial.counts.below.items l.counts.below.items
