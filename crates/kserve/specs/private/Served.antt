-- For private contracts: the text of served scripts, and what a sink has taken of it.
use Rattle.std.specs.Prelude.{ℕ, List, Option, Result, Ok, Err}
use Rattle.kc_text.specs.declared.buf.SendFault.{SendFault}
use Rattle.kc_graph.specs.declared.items.Item.{Item}
use Rattle.kserve.specs.Served.{IsServed, WritesWhole, WritesPrefix}

-- it took a whole text of these scripts, or after a fault a prefix of one
abbrev pub Writes : {T : Type 0} → ℕ → List (List Item) → Option (List ℕ) → Option (List ℕ) → Result T SendFault → Type 0
Writes n scripts before now (Ok _) = WritesWhole (IsServed n scripts) before now
Writes n scripts before now (Err _) = WritesPrefix (IsServed n scripts) before now
