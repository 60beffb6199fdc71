-- Lines that lie whole in a reader's memory: another part of the fast path.
--
-- A caller can look at such a line where it lies, by `whole_line`, `number_line` or `numbers_after`, and then take it
-- by `pass_line`. It is the line that `next_line` would give, without a copy of its text. `ready_lines` lends all bytes
-- in which such lines can lie. A caller finds lines there by `first_numbers`, and takes them at once by `pass_lines`.
use Rattle.std.specs.Prelude.{ℕ, ◌+◌, ◌-◌, ◌==◌, ◌≡◌, ◌<◌, ◌≤◌, false, List, [], length, take, drop, get_or, None}
use Rattle.kc_text.specs.declared.line.Line.{Line}
use Rattle.kc_text.specs.declared.line.Body.TheVariants.{Text}
use Rattle.kc_text.specs.Lines.{without_cr}
use Rattle.kc_text.specs.Scanning.{Scan}
use Rattle.kc_text.specs.Reading.{Reading}

-- the next line is the first `len` of the bytes that were read
--
-- No line feed is among these bytes. A line feed follows them, within the room, and the line isn't too long.
pub record IsWhole (len : ℕ) (r : Scan) : Type 0 where
  pub fresh : r.piece ≡ []
  pub few : len ≤ r.limit
  pub room : len < r.room
  pub within : len < length r.ready
  pub end : get_or r.ready len 0 ≡ 10
  pub before : (k : ℕ) → k < len → (get_or r.ready k 0 == 10) ≡ false

-- the text of such a line
abbrev pub whole_text : ℕ → Scan → List ℕ
whole_text len r = without_cr (take len r.ready)

-- the line itself, of this number
abbrev pub whole_line : ℕ → ℕ → Scan → Line
whole_line number len r = record { number = number; body = Text (whole_text len r) }

-- no line was put back or is repeated, and the next line lies whole among the bytes that were read
pub record HasWhole (len : ℕ) (r : Reading) : Type 0 where
  pub held : r.held ≡ None
  pub last : r.last ≡ None
  pub scan : IsWhole len r.scan

-- the first line feed of these bytes stands at `len`
pub record EndsAt (bytes : List ℕ) (len : ℕ) : Type 0 where
  pub within : len < length bytes
  pub here : get_or bytes len 0 ≡ 10
  pub before : (k : ℕ) → k < len → (get_or bytes k 0 == 10) ≡ false

-- these are the bytes that were read, up to the room, and the first of them begins the next line
pub record Offers (bytes : List ℕ) (r : Scan) : Type 0 where
  pub fresh : r.piece ≡ []
  pub bytes_are : bytes ≡ take r.room r.ready

-- no line was put back or is repeated, and the lines still to give begin with these bytes
pub record OffersLines (bytes : List ℕ) (r : Reading) : Type 0 where
  pub held : r.held ≡ None
  pub last : r.last ≡ None
  pub scan : Offers bytes r.scan

-- the next `len` bytes were read and are within the room, and `count` is at most `len`
--
-- Each line has a line feed, so there can't be more. That these bytes are `count` lines is for the caller to know.
pub record AreReady (len count : ℕ) (r : Scan) : Type 0 where
  pub fresh : r.piece ≡ []
  pub room : len ≤ r.room
  pub within : len ≤ length r.ready
  pub few : count ≤ len

-- the scan after the first `len` of the bytes that were read, if these are `count` lines
abbrev pub scan_after : ℕ → ℕ → Scan → Scan
scan_after len count r = record r { number = r.number + count; room = r.room - len; ready = drop len r.ready }
