-- Numbers of workers.
use Rattle.std.specs.Prelude.{ℕ, nat_le, Option, Some, None, ◌&&◌, if◌then◌else◌}

-- a number of workers, which is 1 to 64
abbrev pub few_workers : Option ℕ → Option ℕ
few_workers None = None
few_workers (Some workers) = if nat_le 1 workers && nat_le workers 64 then Some workers else None
