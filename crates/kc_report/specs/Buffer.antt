-- What the calls that write a report leave in the line buffer.
use Rattle.std.specs.Prelude.{ℕ, ◌≡◌, List, [], Result, Ok, Err}
use Rattle.kc_text.specs.declared.buf.SendFault.{SendFault}
use Rattle.kc_text.specs.declared.buf.SendFault.TheVariants.{WriteFault, Memory}

-- the buffer is empty, but after `Memory` it may hold lines, or a part of one, that weren't sent
abbrev pub IsCleared : {T : Type 0} → List ℕ → Result T SendFault → Type 0
IsCleared buffer (Ok _) = buffer ≡ []
IsCleared buffer (Err WriteFault) = buffer ≡ []
IsCleared buffer (Err (Memory _)) = Unit {0}
