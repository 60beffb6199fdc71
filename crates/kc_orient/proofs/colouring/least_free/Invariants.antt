use Rattle.std.proofs.Common.{ℕ, ◌≡◌, ◌-◌, ◌<◌, ◌≤◌, length, get_or}
use Rattle.kc_orient.proofs.Marking.{IsMarking}
use Rattle.kc_orient.proofs.colouring.least_free.Given as goal

abbrev pub invariant-loop-w : goal.invariant-loop-w
invariant-loop-w l = IsMarking l.vertices l.colours l.stamp l.w-index l.fn.marks.items l.marks.items

abbrev pub invariant-loop-colour : goal.invariant-loop-colour
invariant-loop-colour l = (l.colour ≤ length l.vertices) × ((j : ℕ) → j < l.colour → get_or l.marks.items j 0 ≡ l.stamp)

abbrev pub decreases-loop-colour : goal.decreases-loop-colour
decreases-loop-colour l = length l.marks.items - l.colour
