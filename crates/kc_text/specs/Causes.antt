-- The causes of faults: the count of faults of a source or sink before a call and after it.
use Rattle.std.specs.Prelude.{Bool, ℕ, ◌+◌, ◌-◌, ◌^◌, ◌≤◌, ◌≡◌, min, List, Option, Result, Ok, Err}
use Rattle.kc_text.specs.declared.line.LineFault.{LineFault}
use Rattle.kc_text.specs.declared.line.LineFault.TheVariants.{ReadFault, Memory}
use Rattle.kc_text.specs.declared.document_fault.DocumentFault.{DocumentFault}
use Rattle.kc_text.specs.declared.document_fault.DocumentFault.TheVariants as document

-- the count rose, or stands at its last value
abbrev pub Rose : ℕ → ℕ → Type 0
Rose before now = min (before + 1) (2 ^ 64 - 1) ≤ now

-- a read fault comes only if the count rose, and otherwise the count stays
abbrev pub ReadCause : {T : Type 0} → ℕ → ℕ → Result T LineFault → Type 0
ReadCause before now (Err ReadFault) = Rose before now
ReadCause before now (Err (Memory _)) = now ≡ before
ReadCause before now (Ok _) = now ≡ before

-- the fault of a document for a line that the reader didn't give
abbrev pub fault_of : LineFault → DocumentFault
fault_of ReadFault = document.ReadFault
fault_of (Memory e) = document.Memory e

-- a read fault of a document comes only if the source's count of faults rose, and otherwise the count stays
abbrev pub DocumentCause : {T : Type 0} → ℕ → ℕ → Result T DocumentFault → Type 0
DocumentCause before now (Err document.ReadFault) = Rose before now
DocumentCause before now (Err (document.Refused _ _)) = now ≡ before
DocumentCause before now (Err (document.Memory _)) = now ≡ before
DocumentCause before now (Ok _) = now ≡ before

-- what holds if a read failed
abbrev pub OnReadFault : {T : Type 0} → Result T LineFault → Type 0 → Type 0
OnReadFault (Err ReadFault) P = P
OnReadFault (Err (Memory _)) P = Unit {0}
OnReadFault (Ok _) P = Unit {0}

-- what contracts see of a source over a reader: the bytes not yet read, if it tells them, and its count of faults
pub record Inlet : Type 0 where
  pub left : Option (List ℕ)
  pub faults : ℕ

-- what contracts see of a sink over a writer
--
-- These are the bytes taken so far, if the sink tells them, and its count of faults. Contracts also see whether the
-- writer was flushed since the last write.
pub record Outlet : Type 0 where
  pub taken : Option (List ℕ)
  pub faults : ℕ
  pub is_flushed : Bool
