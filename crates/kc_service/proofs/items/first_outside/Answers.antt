use Rattle.std.proofs.lemmas.List.{take_all}
use Rattle.std.proofs.lemmas.List.Elements.{All-more}
use Rattle.kc_graph.specs.Cleaning.{IsInside}
use Rattle.kc_service.proofs.items.first_outside.Goals as goal

pub loop-i-preserved : goal.loop-i-preserved
loop-i-preserved c =
    All-more (IsInside c.args.n) c.args.items.now c.loop-i.i _ c.loop-i-test.true c.loop-i.invariant c.if-not-is_inside.ensures.inside

pub returns : goal.returns
returns c = rw (take_all c.loop-i.i c.args.items.now c.loop-i-test.false) at c.loop-i.invariant
