use Rattle.std.proofs.Common.{◌≡◌, replicate, []}
use Rattle.kc_adj.proofs.level_lists.LevelLists.new.Given as goal

abbrev pub invariant-loop : goal.invariant-loop
invariant-loop g l = l.lists.items ≡ replicate l.counter []
