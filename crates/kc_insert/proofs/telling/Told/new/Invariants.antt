use Rattle.std.proofs.Common.{◌≡◌, replicate, []}
use Rattle.kc_insert.proofs.telling.Told.new.Given as goal

abbrev pub invariant-loop : goal.invariant-loop
invariant-loop l = l.lists.items ≡ replicate l.counter []
