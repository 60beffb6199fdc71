use Rattle.std.proofs.Common.{◌≡◌, replicate, [], length, take}
use Rattle.kc_insert.proofs.telling.Told.clear_lists.Given as goal

abbrev pub invariant-loop-i : goal.invariant-loop-i
invariant-loop-i l =
    (l.self-inside.all.items ≡ l.initial.self-inside.all.items)
    × (l.self-inside.count ≡ l.initial.self-inside.count)
    × (length l.self-inside.lists.items ≡ length l.initial.self-inside.lists.items)
    × (take l.i l.self-inside.lists.items ≡ replicate l.i [])
