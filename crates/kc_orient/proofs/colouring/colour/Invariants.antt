use Rattle.kc_orient.specs.private.Descent.{IsColouredTo}
use Rattle.kc_orient.proofs.colouring.colour.Given as goal

abbrev pub invariant-loop-level : goal.invariant-loop-level
invariant-loop-level l = IsColouredTo l.orientation l.level 0 l.colours.items l.marks.items
