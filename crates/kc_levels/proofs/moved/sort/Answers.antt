use Rattle.std.proofs.Common.{length, refl, arith}
use Rattle.std.proofs.lemmas.Bool.Decides.{nat_tests}
use Rattle.std.proofs.lemmas.List.Sorted.{IsNonDecreasingBy-from_sort}
use Rattle.kc_levels.specs.Moved.{is_moved}
use Rattle.kc_levels.proofs.Ascending.{moved_inside, sorted_rises, sorted_same}
use Rattle.kc_levels.proofs.MovesBetween.{has_number-moved_below, moved_rise}
use Rattle.kc_levels.proofs.moved.sort.Goals as goal

pub returns-in-Ok-clause-rises : goal.returns-in-Ok-clause-rises
returns-in-Ok-clause-rises c = rw (c.in-Ok.ensures) ((moved_rise (is_moved c.args.before.now c.args.after.now) (length c.args.before.now)).0)

pub returns-in-Ok-clause-same : goal.returns-in-Ok-clause-same
returns-in-Ok-clause-same c v = rw (c.in-Ok.ensures, c.requires.moved v, has_number-moved_below (is_moved c.args.before.now c.args.after.now) (length c.args.before.now) v) (grind (arith, nat_tests, moved_inside _ c.args.before.now c.args.after.now v refl c.requires.sized))

pub returns-clause-rises : goal.returns-clause-rises
returns-clause-rises c = sorted_rises c.args.vertices.now.items _ c.requires.once c.sort_numbers.ensures.same (IsNonDecreasingBy-from_sort (λ x. x) _ c.sort_numbers.ensures.in_order)

pub returns-clause-same : goal.returns-clause-same
returns-clause-same c = sorted_same c.args.vertices.now.items _ c.requires.once c.sort_numbers.ensures.same
