use Rattle.std.proofs.Common.{ℕ, ◌≡◌, ◌<◌, length, get_or}
use Rattle.kc_groups.proofs.linking.lone_places.Given as goal

abbrev pub invariant-loop-place : goal.invariant-loop-place
invariant-loop-place l = (length l.parents.items ≡ l.place) × ((i : ℕ) → i < length l.parents.items → get_or l.parents.items i 0 ≡ i)
