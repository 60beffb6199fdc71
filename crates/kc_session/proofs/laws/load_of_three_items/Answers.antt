use Rattle.std.proofs.Common.{refl}
use Rattle.std.specs.Fmt.{digits}
use Rattle.kc_text.specs.Printing.{printed}
use Rattle.kc_session.specs.Generated.{next_state, drawn_items, after_items, drawn_batches, first_numbers, generated}
use Rattle.kc_session.proofs.laws.load_of_three_items.Goals as goal

pub returns : goal.returns
unfolding digits printed next_state drawn_items after_items drawn_batches first_numbers generated
returns c = refl
