-- A batch under any profile.
use Rattle.std.specs.Prelude.{ℕ}
use Rattle.kc_graph.specs.declared.limits.TheConstants.{MAX_ITEMS}
use Rattle.kc_levels.specs.declared.profile.Profile.{Profile}
use Rattle.kc_batch.specs.declared.batch.Next.{Next}
use Rattle.kc_batch.specs.Batches.{IsNext}

-- a batch for n vertices, under any profile
abbrev pub IsBatchFor : ℕ → Next → Type 0
IsBatchFor n next = (p : Profile) × IsNext (record { n = n; profile = p; item_limit = MAX_ITEMS }) next
