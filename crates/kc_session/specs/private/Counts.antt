-- The counts of batches, one after another.
use Rattle.std.specs.Prelude.{◌+◌, List, length}
use Rattle.kc_batch.specs.declared.batch.Next.{Next}
use Rattle.kc_engine.specs.States.{State}
use Rattle.kc_session.specs.declared.counts.Counts.{Counts}
use Rattle.kc_session.specs.States.{Step, is_refused}
use Rattle.kc_session.specs.Counts.{capped, groups_of, moves_of, one_if, refused_in, all_groups, all_moves}

-- the counts of batches with these steps
abbrev pub counts_of : State → List Next → List Step → Counts
counts_of s batches steps = record { batches = length steps; refused = refused_in s batches steps; groups = capped (all_groups steps); moves = capped (all_moves steps) }

-- the counts after a batch that isn't the end
abbrev pub counted : State → Next → Step → Counts → Counts
counted s b t c = record { batches = c.batches + 1; refused = c.refused + one_if (is_refused s b); groups = capped (c.groups + groups_of t.phases); moves = capped (c.moves + moves_of t.phases) }
