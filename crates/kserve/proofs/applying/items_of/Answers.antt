use Rattle.std.proofs.Common.{◌∙◌, sym}
use Rattle.std.proofs.lemmas.List.Folds.{list_all_at}
use Rattle.kserve.specs.private.Fitting.{is_due}
use Rattle.kserve.proofs.LineLemmas.{none}
use Rattle.kserve.proofs.ItemLemmas.{items_more, due_more}
use Rattle.kserve.proofs.applying.items_of.Goals as goal

pub returns-then-not-is_due : goal.returns-then-not-is_due
returns-then-not-is_due c = list_all_at (λ u. is_due c.args.n u.item) c.args.updates.now c.loop-update.update-index none c.loop-update-test.true (sym c.is_due.ensures ∙ c.if-not-is_due.true)

pub loop-update-preserved : goal.loop-update-preserved
loop-update-preserved c = record {
  items = items_more c.args.updates.now c.loop-update.update-index none _ _ c.loop-update-test.true c.loop-update.invariant.items c.in_ok-push.ensures.items;
  due = due_more c.args.n c.args.updates.now c.loop-update.update-index none c.loop-update-test.true c.loop-update.invariant.due (sym c.is_due.ensures ∙ c.if-not-is_due.false);
}
