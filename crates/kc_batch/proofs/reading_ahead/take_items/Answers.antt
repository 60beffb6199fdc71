use Rattle.kc_batch.proofs.BatchRanges.{no_items}
use Rattle.kc_batch.proofs.reading_ahead.take_items.Goals as goal

pub add_items-requires-clause-items : goal.add_items-requires-clause-items
add_items-requires-clause-items c = rw c.new-items.ensures (no_items c.args.rules)
