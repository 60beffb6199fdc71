use Rattle.std.proofs.Common.{◌≡◌, true, take}
use Rattle.kserve.specs.Fitting.{items_of}
use Rattle.kserve.specs.private.Fitting.{are_due}
use Rattle.kserve.proofs.applying.items_of.Given as goal

abbrev pub invariant-loop-update : goal.invariant-loop-update
invariant-loop-update l = record {
  items : l.items.items ≡ items_of (take l.update-index l.updates);
  due : are_due l.n (take l.update-index l.updates) ≡ true;
}
