-- The items of a drained batch: they may be applied.
use Rattle.std.proofs.Common.{ℕ, ◌≡◌, ◌≤◌, List, length, sym, ap, subst, arith}
use Rattle.std.specs.Prelude.{Some, None, All}
use Rattle.std.proofs.lemmas.List.{length-map}
use Rattle.kc_graph.specs.declared.items.Item.{Item}
use Rattle.kc_graph.specs.declared.limits.TheConstants.{MAX_EDGES, MAX_ITEMS}
use Rattle.kc_graph.specs.Cleaning.{IsInside, cleaned}
use Rattle.kc_engine.specs.States.{State, IsSound}
use Rattle.kc_engine.specs.Batches.{refusal_of}
use Rattle.kc_intake.specs.declared.updates.Update.{Update}
use Rattle.kserve.specs.private.Engines.{HasRoom}
use Rattle.kserve.specs.private.Serving.{AreItems}
use Rattle.kserve.proofs.Leads.{inside_all, accepted}

-- the items may be applied
pub items_inside : (n m : ℕ) (us : List Update) (items : List Item) → m ≡ n → AreItems n us (Some items) → All (IsInside m) items
items_inside n m us items e a = subst (λ (z : ℕ × List Item). All (IsInside z.0) z.1) (λ i. (sym e i, sym a.0 i)) (inside_all n us a.1)

pub items_few : (n : ℕ) (us : List Update) (items : List Item) → AreItems n us (Some items) → length us ≤ MAX_ITEMS → length items ≤ MAX_ITEMS
items_few n us items a few = let size = length-map us (λ (u : Update). u.item) in let same = ap (λ (xs : List Item). length xs) a.0 in omega (arith, size, same, few)

pub items_accepted : (n : ℕ) (s : State) (us : List Update) (items : List Item) → s.graph.vertices ≡ n → IsSound MAX_EDGES s → HasRoom s → AreItems n us (Some items) → length us ≤ MAX_ITEMS → refusal_of MAX_EDGES s (cleaned s.graph items) ≡ None
items_accepted n s us items e k room a few = accepted s items k room (items_inside n s.graph.vertices us items e a) (items_few n us items a few)
