use Rattle.std.proofs.Common.{ℕ, ◌≡◌, ◌≤◌, ◌<◌, ◌+◌, ◌-◌, ◌*◌, ◌/◌, [], length, get_or}
use Rattle.kc_adj.specs.LevelLists.{AreMarked}
use Rattle.kc_adj.proofs.level_lists.LevelLists.reach.Given as goal

abbrev pub invariant-loop-self : goal.invariant-loop-self
invariant-loop-self g l = AreMarked l.self-inside.lists.items l.self-inside.marks.items l.self-inside.end × (l.self-inside.lists.items ≡ l.initial.self-inside.lists.items)

abbrev pub decreases-loop-self : goal.decreases-loop-self
decreases-loop-self g l = l.level / 64 + 1 - length l.self-inside.marks.items

abbrev pub invariant-loop-alloc : goal.invariant-loop-alloc
invariant-loop-alloc g l = record {
  marked : AreMarked l.self-inside.lists.items l.self-inside.marks.items l.self-inside.end;
  wide : l.level < 64 * length l.self-inside.marks.items;
  longer : length l.initial.self-inside.lists.items ≤ length l.self-inside.lists.items;
  same : (k : ℕ) → get_or l.self-inside.lists.items k [] ≡ get_or l.initial.self-inside.lists.items k [];
}

abbrev pub decreases-loop-alloc : goal.decreases-loop-alloc
decreases-loop-alloc g l = l.level + 1 - length l.self-inside.lists.items
