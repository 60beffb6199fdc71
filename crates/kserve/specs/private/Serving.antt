-- What the server has done with the batches that it drained.
use Rattle.std.specs.Prelude.{ℕ, ◌≡◌, true, false, List, Option, Some, None, Result, Ok, Err}
use Rattle.std.specs.Io.KnownBytes.{append_known}
use Rattle.kc_text.specs.declared.buf.SendFault.{SendFault}
use Rattle.kc_text.specs.declared.buf.SendFault.TheVariants.{WriteFault, Memory}
use Rattle.kc_text.specs.Writing.{IsPrefix}
use Rattle.kc_graph.specs.declared.items.Item.{Item}
use Rattle.kc_graph.specs.Cleaning.{cleaned}
use Rattle.kc_engine.specs.States.{State}
use Rattle.kc_engine.specs.Batches.{IsAfterBatch}
use Rattle.kc_intake.specs.declared.updates.Update.{Update}
use Rattle.kc_intake.specs.Updates.{all_updates}
use Rattle.kserve.specs.declared.fault.Stop.{Stop}
use Rattle.kserve.specs.declared.fault.Stop.TheVariants.{Fault, Stray}
use Rattle.kserve.specs.Batches.{start, LeadTo}
use Rattle.kserve.specs.private.Fitting.{are_due}
use Rattle.kserve.specs.Fitting.{items_of, Fit}
use Rattle.kserve.specs.Lines.{batch_text, batch_lines}

-- the items of updates that are due, or none if one of them isn't
abbrev pub AreItems : ℕ → List Update → Option (List Item) → Type 0
AreItems n updates (Some items) = (items ≡ items_of updates) × (are_due n updates ≡ true)
AreItems n updates None = are_due n updates ≡ false

-- a batch was applied to the state s, which became t, and printed with its number; or a prefix of its text was printed
abbrev pub TakesBatch : {T : Type 0} → ℕ → ℕ → List Update → State → State → Option (List ℕ) → Option (List ℕ) → Result T Stop → Type 0
TakesBatch n number batch s t before now (Ok _) = (are_due n batch ≡ true) × (IsAfterBatch s (cleaned s.graph (items_of batch)) t × (now ≡ append_known before (batch_text number batch)))
TakesBatch n number batch s t before now (Err (Fault _)) = IsPrefix before now (batch_text number batch)
TakesBatch n number batch s t before now (Err Stray) = (are_due n batch ≡ false) × IsPrefix before now (batch_text number batch)

-- that, if the server has gone on so far; once it has stopped, nothing is applied or printed
abbrev pub GoesOn : {T : Type 0} → ℕ → ℕ → List Update → State → State → Option (List ℕ) → Option (List ℕ) → Result T Stop → Result T Stop → Type 0
GoesOn n number batch s t before now (Ok _) result = TakesBatch n number batch s t before now result
GoesOn n number batch s t before now (Err stop) result = (result ≡ Err stop) × (now ≡ before)

-- nothing is applied or printed: the server goes on, or stops as a write failed; once it has stopped, it stays so
abbrev pub IsHandedOn : {T : Type 0} → Result T Stop → Result T Stop → Type 0
IsHandedOn (Ok _) (Ok _) = Unit {0}
IsHandedOn (Ok _) (Err (Fault WriteFault)) = Unit {0}
IsHandedOn (Ok _) (Err (Fault (Memory _))) = ⊥
IsHandedOn (Ok _) (Err Stray) = ⊥
IsHandedOn (Err stop) result = result ≡ Err stop

-- batches were applied to the state s, which became t, and printed
pub record HaveServed (n : ℕ) (s : State) (batches : List (List Update)) (t : State) (before now : Option (List ℕ)) : Type 0 where
  pub due : are_due n (all_updates batches) ≡ true
  pub lead : LeadTo s batches t
  pub taken : now ≡ append_known before (batch_lines 1 batches)

-- that, or a prefix of their text was printed
abbrev pub Serves : {T : Type 0} → ℕ → State → List (List Update) → State → Option (List ℕ) → Option (List ℕ) → Result T Stop → Type 0
Serves n s batches t before now (Ok _) = HaveServed n s batches t before now
Serves n s batches t before now (Err (Fault _)) = IsPrefix before now (batch_lines 1 batches)
Serves n s batches t before now (Err Stray) = (are_due n (all_updates batches) ≡ false) × IsPrefix before now (batch_lines 1 batches)

-- the batches fit the scripts, and lead to the state t
pub record HaveServedAll (n : ℕ) (scripts : List (List Item)) (t : State) (before now : Option (List ℕ)) : Type 0 where
  pub batches : List (List Update)
  pub fit : Fit scripts batches
  pub lead : LeadTo (start n) batches t
  pub taken : now ≡ append_known before (batch_lines 1 batches)

-- a prefix of the text of such batches was printed
pub record StoppedServing (scripts : List (List Item)) (before now : Option (List ℕ)) : Type 0 where
  pub batches : List (List Update)
  pub fit : Fit scripts batches
  pub prefix : IsPrefix before now (batch_lines 1 batches)

-- the scripts of clients were served and printed; or a prefix of the text was printed
abbrev pub ServesAll : {T : Type 0} → ℕ → List (List Item) → State → Option (List ℕ) → Option (List ℕ) → Result T SendFault → Type 0
ServesAll n scripts t before now (Ok _) = HaveServedAll n scripts t before now
ServesAll n scripts t before now (Err _) = StoppedServing scripts before now
