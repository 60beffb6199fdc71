-- The part of a text that a sink has taken.
use Rattle.std.specs.Prelude.{ℕ, ◌≡◌, ◌<◌, List, [], ◌++◌, length, Option, Result, Ok, Err}
use Rattle.std.specs.Io.KnownBytes.{append_known}
use Rattle.kc_text.specs.Causes.{Rose}
use Rattle.kc_text.specs.declared.buf.SendFault.{SendFault}
use Rattle.kc_text.specs.declared.buf.SendFault.TheVariants.{WriteFault, Memory}

-- a prefix of the text was taken: nothing, some or all of it
pub record IsPrefix (before now : Option (List ℕ)) (text : List ℕ) : Type 0 where
  pub said : List ℕ
  pub rest : List ℕ
  pub all : text ≡ said ++ rest
  pub taken : now ≡ append_known before said

-- a proper prefix of the text was taken: nothing or some, and not all of it
pub record IsProperPrefix (before now : Option (List ℕ)) (text : List ℕ) : Type 0 where
  pub said : List ℕ
  pub rest : List ℕ
  pub all : text ≡ said ++ rest
  pub more : 0 < length rest
  pub taken : now ≡ append_known before said

-- one line: all of it was taken, or after a write fault a proper prefix, or nothing if there was no memory
abbrev pub Sends : {T : Type 0} → Option (List ℕ) → Option (List ℕ) → List ℕ → Result T SendFault → Type 0
Sends before now text (Ok _) = now ≡ append_known before text
Sends before now text (Err WriteFault) = IsProperPrefix before now text
Sends before now text (Err (Memory _)) = now ≡ before

-- a line after a fault in sending it: gone after a write fault, and as it was if there was no memory
abbrev pub KeptAfter : List ℕ → List ℕ → SendFault → Type 0
KeptAfter old new WriteFault = new ≡ []
KeptAfter old new (Memory _) = new ≡ old

-- several lines: all of the text was taken, or after either fault a prefix of it
abbrev pub Appends : {T : Type 0} → Option (List ℕ) → Option (List ℕ) → List ℕ → Result T SendFault → Type 0
Appends before now text (Ok _) = now ≡ append_known before text
Appends before now text (Err _) = IsPrefix before now text

-- a write fault comes only if the sink's count of faults rose, and otherwise the count stays
abbrev pub WriteCause : {T : Type 0} → ℕ → ℕ → Result T SendFault → Type 0
WriteCause before now (Err WriteFault) = Rose before now
WriteCause before now (Err (Memory _)) = now ≡ before
WriteCause before now (Ok _) = now ≡ before
