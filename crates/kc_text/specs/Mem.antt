-- Sources and sinks in memory whose failing calls are chosen.
use Rattle.std.specs.Prelude.{ℕ, ◌+◌, ◌-◌, ◌^◌, ◌==◌, nat_lt, nat_le, Bool, ◌&&◌, ◌||◌, List, length, min}
use Rattle.std.specs.List.{list_any}

-- the number of the call that follows `calls` calls; 4,294,967,296 stands for every call that has no number
abbrev pub next_number : ℕ → ℕ
next_number calls = min (calls + 1) (2 ^ 32)

-- the call of this number was chosen to fail
abbrev pub is_failing : List ℕ → ℕ → Bool
is_failing failing number = nat_lt number (2 ^ 32) && list_any (λ k. k == number) failing

-- a count of faults that rises by one, and stands still at the last value of its type
abbrev pub one_more : ℕ → ℕ
one_more faults = min (faults + 1) (2 ^ 64 - 1)

-- a source
--
-- The fields are the bytes not yet read, the most bytes of one call, and the numbers of the calls that fail. Then come
-- the number of the last call and the count of faults.
pub record MemInput : Type 0 where
  pub left : List ℕ
  pub piece : ℕ
  pub failing : List ℕ
  pub calls : ℕ
  pub faults : ℕ

-- the next read fails
abbrev pub read_fails : MemInput → Bool
read_fails m = is_failing m.failing (next_number m.calls)

-- the number of bytes that a read gives if it doesn't fail and has room for `room` bytes
abbrev pub read_size : MemInput → ℕ → ℕ
read_size m room = min (min m.piece room) (length m.left)

-- a sink
--
-- The fields are the bytes taken, the most bytes in all, the most bytes of one call, and the numbers of the calls that
-- fail. Then come the number of the last call and the count of faults.
pub record MemOutput : Type 0 where
  pub taken : List ℕ
  pub capacity : ℕ
  pub piece : ℕ
  pub failing : List ℕ
  pub calls : ℕ
  pub faults : ℕ

-- the next write fails: it was chosen to fail, or the sink is full
abbrev pub write_fails : MemOutput → Bool
write_fails m = is_failing m.failing (next_number m.calls) || nat_le m.capacity (length m.taken)

-- the number of bytes that a write takes if it doesn't fail and offers `offered` bytes
abbrev pub write_size : MemOutput → ℕ → ℕ
write_size m offered = min (min m.piece offered) (m.capacity - length m.taken)
