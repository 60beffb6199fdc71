-- Lines that are read ahead, and the batches after them.
use Rattle.std.proofs.Common.{ℕ, ◌≡◌, Bool, true, List, [], ◌∷◌, ◌++◌, refl, nat_le, length, arith}
use Rattle.std.proofs.lemmas.Bool.Decides.{nat_tests}
use Rattle.kc_graph.specs.Cleaning.{IsInside}
use Rattle.kc_graph.specs.declared.items.Item.{Item}
use Rattle.kc_graph.specs.declared.items.Item.TheVariants.{Insert, Delete, Isolate}
use Rattle.kc_batch.specs.declared.rules.Rules.{Rules}
use Rattle.kc_batch.specs.declared.token.Token.{Token}
use Rattle.kc_batch.specs.declared.token.Kind.TheVariants as kind
use Rattle.kc_batch.specs.declared.turn.Turn.TheVariants.{Add}
use Rattle.kc_batch.specs.private.Tokens.{onto_token}
use Rattle.kc_batch.specs.Turns.{is_inside, turn_of}
use Rattle.kc_batch.specs.Batches.{batches_from, Between, Within}
use Rattle.kc_batch.proofs.Stepping.{going_turn, turn_here}

-- a line that begins a batch
pub between_start : (rules : Rules) (t : Token) → t.kind ≡ kind.BatchStart → (rest : List Token) → batches_from rules Between (onto_token t rest) ≡ batches_from rules (Within []) rest
unfolding batches_from
between_start rules t e rest = rw e refl

-- a line that adds an item to a batch
pub within_add : (rules : Rules) (items : List Item) (t : Token) (item : Item) (full : Bool) → full ≡ nat_le rules.item_limit (length items) → turn_of rules full t.kind ≡ Add item
    → (rest : List Token) → batches_from rules (Within items) (onto_token t rest) ≡ batches_from rules (Within (items ++ item ∷ [])) rest
unfolding batches_from
within_add rules items t item full f e rest =
    rw (turn_here rules items t.kind (Add item) full f e, going_turn rules full t.kind (λ r s. cc) rest) refl

-- the vertices of an item inside n are below n, as `inside_is` says the other way
pub is_inside_of : (n : ℕ) (item : Item) → IsInside n item → is_inside n item ≡ true
is_inside_of n (Insert u v) h = grind (arith, nat_tests, h)
is_inside_of n (Delete u v) h = grind (arith, nat_tests, h)
is_inside_of n (Isolate v) h = grind (arith, nat_tests, h)
