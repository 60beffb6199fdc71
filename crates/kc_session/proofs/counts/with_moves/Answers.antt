use Rattle.std.proofs.Common.{length, arith}
use Rattle.kc_history.specs.declared.entries.Entry.{Entry}
use Rattle.kc_session.proofs.CountLemmas.{capped_next, capped_all}
use Rattle.kc_session.proofs.counts.with_moves.Goals as goal

pub loop-entry-preserved : goal.loop-entry-preserved
loop-entry-preserved c = capped_next Entry (λ (e : Entry). length e.moves) c.args.entries.now c.loop-entry.entry-index c.entry-item.result c.args.count c.loop-entry.count c.len.result _ c.loop-entry-test.true c.loop-entry.invariant (rw c.entry-item.is at c.len.ensures) c.capped_sum-count.ensures

pub returns : goal.returns
returns c = let last = c.loop-entry-test.false in let below = c.loop-entry.auto.entry-index-end in capped_all Entry (λ (e : Entry). length e.moves) c.args.entries.now c.loop-entry.entry-index c.args.count c.loop-entry.count (omega (arith, last, below)) c.loop-entry.invariant
