use Rattle.std.proofs.Common.{◌≡◌, ◌≤◌, ◌-◌, true, [], length, All}
use Rattle.std.specs.Option.{option_map}
use Rattle.kc_graph.specs.declared.limits.TheConstants.{MAX_ITEMS}
use Rattle.kc_batch.specs.Batches.{batches_left}
use Rattle.kc_intake.specs.declared.limits.TheConstants.{MAX_CLIENTS}
use Rattle.kserve.specs.private.Fitting.{is_due}
use Rattle.kserve.specs.Inputs.{rules_for, items_in, scripts_from}
use Rattle.kserve.proofs.reading.read_scripts.Given as goal

abbrev pub invariant-loop-scripts : goal.invariant-loop-scripts
invariant-loop-scripts g l = record {
  told : option_map (scripts_from l.fn.n []) (batches_left (rules_for l.fn.n) l.fn.lines (g.S.Source.left l.fn.src)) ≡ option_map (scripts_from l.fn.n l.scripts.items) (batches_left (rules_for l.fn.n) l.lines (g.S.Source.left l.src));
  few : length l.scripts.items ≤ MAX_CLIENTS;
  count : l.count ≡ items_in l.scripts.items;
  few_items : l.count ≤ MAX_ITEMS;
  due : All (All (λ item. is_due l.fn.n item ≡ true)) l.scripts.items;
  faults : g.S.Source.faults l.src ≡ g.S.Source.faults l.fn.src;
}

abbrev pub decreases-loop-scripts : goal.decreases-loop-scripts
decreases-loop-scripts g l = MAX_CLIENTS - length l.scripts.items
