-- A mark in one word of 64 bits. From the lowest bit: the phase in 24 bits, the label in 24, the new level in 16.
use Rattle.std.specs.Prelude.{◌≡◌, ℕ, ◌+◌, ◌*◌, ◌/◌, ◌%◌, ◌^◌, ◌<◌}
use Rattle.kc_words.specs.declared.marks.Mark.{Mark}

abbrev pub packed : ℕ → ℕ → ℕ → ℕ
packed new label phase = new * 2 ^ 48 + label * 2 ^ 24 + phase

abbrev pub unpacked : ℕ → Mark
unpacked word = record { new = word / 2 ^ 48; label = word / 2 ^ 24 % 2 ^ 24; phase = word % 2 ^ 24 }

-- unpacking what was packed gives the three numbers
abbrev pub UnpackUndoesPack : Type 0
UnpackUndoesPack = (new label phase : ℕ) → label < 2 ^ 24 → phase < 2 ^ 24 → unpacked (packed new label phase) ≡ record { new = new; label = label; phase = phase }

-- packing what was unpacked gives the word
abbrev pub PackUndoesUnpack : Type 0
PackUndoesUnpack = (word : ℕ) → packed (unpacked word).new (unpacked word).label (unpacked word).phase ≡ word
