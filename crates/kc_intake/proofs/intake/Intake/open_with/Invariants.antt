use Rattle.std.proofs.Common.{◌≡◌, ◌≤◌, [], map}
use Rattle.std.specs.Prelude.{vec_len, vec_capacity}
use Rattle.std.specs.List.{range_with_len}
use Rattle.crossbeam_queue.specs.Passes.{view}
use Rattle.kc_intake.specs.Views.{intake_of, drained_of, IsDrainer, new_client}
use Rattle.kc_intake.proofs.intake.Intake.open_with.Given as goal

abbrev pub invariant-loop-number : goal.invariant-loop-number
invariant-loop-number g l =
    IsDrainer l.pass
    × (l.pass.table_id ≡ l.queue.table.shared.table_id)
    × (drained_of (view l.pass) ≡ record { clients = l.number; taken = []; joined = [] })
    × (l.opened.items ≡ map (new_client (intake_of l.queue.table.shared.table_id)) (range_with_len 0 l.number))
    × (vec_len l.opened ≡ l.number)
    × (l.clients ≤ vec_capacity l.opened)
