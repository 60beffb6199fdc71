use Rattle.kc_orient.proofs.Coloured.{IsColouringLevel}
use Rattle.kc_orient.proofs.colouring.colour_level.Given as goal

abbrev pub invariant-loop-next : goal.invariant-loop-next
invariant-loop-next l = IsColouringLevel l.orientation l.level l.next l.colours.items l.marks.items

abbrev pub decreases-loop-next : goal.decreases-loop-next
decreases-loop-next l = l.next
