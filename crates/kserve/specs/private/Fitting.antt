-- For private contracts: which items the server applies.
use Rattle.std.specs.Prelude.{ℕ, nat_lt, Bool, false, ◌&&◌, List}
use Rattle.std.specs.List.{list_all}
use Rattle.kc_graph.specs.declared.items.Item.{Item}
use Rattle.kc_graph.specs.declared.items.Item.TheVariants.{Insert, Delete, Isolate}
use Rattle.kc_intake.specs.declared.updates.Update.{Update}

-- an insertion or a deletion of two vertices below n
abbrev pub is_due : ℕ → Item → Bool
is_due n (Insert u v) = nat_lt u n && nat_lt v n
is_due n (Delete u v) = nat_lt u n && nat_lt v n
is_due n (Isolate v) = false

-- the items of all updates are
abbrev pub are_due : ℕ → List Update → Bool
are_due n updates = list_all (λ u. is_due n u.item) updates
