-- The updates of a client.
use Rattle.std.specs.Prelude.{◌≡◌, ℕ, ◌+◌, ◌==◌, List, [], ◌∷◌, filter, map}
use Rattle.std.specs.List.{flat_map}
use Rattle.kc_graph.specs.declared.items.Item.{Item}
use Rattle.kc_intake.specs.declared.updates.Update.{Update}
use Rattle.kc_intake.specs.declared.roles.Submitted.{Submitted}

-- the updates of client c, in order
abbrev pub updates_of : ℕ → List Update → List Update
updates_of c updates = filter (λ u. u.client == c) updates

-- the updates of client c with these items, numbered from n
abbrev pub numbered : ℕ → ℕ → List Item → List Update
numbered c n [] = []
numbered c n (item ∷ items) = record { client = c; serial = n; item = item } ∷ numbered c (n + 1) items

-- the updates that a client submitted
abbrev pub updates_in : Submitted → List Update
updates_in s = numbered s.client 0 s.items

-- the updates of these batches, in order
abbrev pub all_updates : List (List Update) → List Update
all_updates batches = flat_map (λ batch. batch) batches

-- the updates of each client in these batches are numbered from 0
abbrev pub AreNumbered : List (List Update) → Type 0
AreNumbered batches = (c : ℕ) → updates_of c (all_updates batches) ≡ numbered c 0 (map (λ u. u.item) (updates_of c (all_updates batches)))
