use Rattle.std.proofs.Common.{ℕ, ◌≡◌, ◌≤◌, List}
use Rattle.std.specs.Prelude.{Option}
use Rattle.kc_text.specs.Reading.{budget}
use Rattle.kc_batch.specs.declared.rules.Rules.{Rules}
use Rattle.kc_batch.specs.Batches.{batches_left}
use Rattle.kc_batch.proofs.reading_ahead.take_start.Given as goal

abbrev pub invariant-loop-text : goal.invariant-loop-text
invariant-loop-text l = record {
  same : (rules : Rules) (left : Option (List ℕ)) → batches_left rules l.fn.reader left ≡ batches_left rules l.reader left;
  budget : budget l.reader ≤ budget l.fn.reader;
}

abbrev pub decreases-loop-text : goal.decreases-loop-text
decreases-loop-text l = budget l.reader
