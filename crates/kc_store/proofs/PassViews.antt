-- What callers see of a pass that has read.
use Rattle.std.proofs.Common.{◌≡◌, ℕ, ◌<◌, sym, ◌∙◌}
use Rattle.kc_store.specs.States.{last_level}
use Rattle.kc_store.specs.private.Seats.{Sat}
use Rattle.kc_store.specs.Seats.{seen_of}
use Rattle.kc_store.proofs.LastLevels.{ends_at}
use Rattle.kc_store.proofs.Calls.{HasRead}

pub read_level : (n : ℕ) (old new : Sat) (v l k : ℕ) → v < n → HasRead old new v l → k ≡ l → last_level n (seen_of new.0) v ≡ k
read_level n old new v l k inside h same = ends_at n (seen_of new.0) v l inside h.level_is ∙ sym same
