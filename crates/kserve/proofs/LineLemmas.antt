-- Lines as they are put together, and as their definitions have them.
use Rattle.std.proofs.Common.{ℕ, ◌≡◌, List, [], ◌∷◌, ◌++◌, append_assoc}
use Rattle.std.specs.Prelude.{decimal, codes}
use Rattle.kc_graph.specs.declared.items.Item.TheVariants.{Insert}
use Rattle.kc_intake.specs.declared.updates.Update.{Update}
use Rattle.kserve.specs.Lines.{batch_line}

pub batch_filled : (number : ℕ) (buffer old : List ℕ) → old ≡ [] → buffer ≡ (old ++ codes "batch ") ++ decimal number → buffer ++ 10 ∷ [] ≡ batch_line number
batch_filled number buffer old e f = rw (f, e) (simp append_assoc)

-- an update that stands for no place of a list
abbrev pub none : Update
none = record { client = 0; serial = 0; item = Insert 0 0 }
