-- The counts at the end of a session.
use Rattle.std.specs.Prelude.{ℕ, ◌≡◌, List, length, max}
use Rattle.std.specs.List.{sum_by, fold}
use Rattle.kc_batch.specs.declared.batch.Next.{Next}
use Rattle.kc_batch.specs.HeaderShape.{HeaderShape}
use Rattle.kc_history.specs.declared.replies.Reply.{Reply}
use Rattle.kc_engine.specs.States.{State}
use Rattle.kc_session.specs.declared.counts.Counts.{Counts}
use Rattle.kc_session.specs.declared.ended.Ended.{Ended}
use Rattle.kc_session.specs.Counts.{capped, refused_in, all_groups, all_moves}
use Rattle.kc_session.specs.States.{Step, start, last_state}

-- the greatest of the levels
abbrev pub greatest : List ℕ → ℕ
greatest levels = fold max 0 levels

-- the number of replies
abbrev pub replies_in : List (List Reply) → ℕ
replies_in lists = sum_by (λ (rs : List Reply). length rs) lists

-- the counts of a session that ends in this state: those of its batches, its number of replies, and its greatest level
abbrev pub ended_with : Counts → State → ℕ → List ℕ → Ended
ended_with c s replies levels =
    record { batches = c.batches; refused = c.refused; phases = s.phases; groups = c.groups; moves = c.moves; edges = length s.graph.edges; replies = replies; top = greatest levels }

-- the counts at the end of a session whose batches led to these steps
--
-- They count the batches, the phases, groups and moves in them, the edges at the end, and the replies. The greatest
-- level at the end is among them.
pub record IsEnded (header : HeaderShape) (batches : List Next) (steps : List Step) (lists : List (List Reply)) (e : Ended) : Type 0 where
  pub count : e.batches ≡ length batches
  pub refused : e.refused ≡ refused_in (start header.profile header.n) batches steps
  pub phases : e.phases ≡ (last_state (start header.profile header.n) steps).phases
  pub groups : e.groups ≡ capped (all_groups steps)
  pub moves : e.moves ≡ capped (all_moves steps)
  pub edges : e.edges ≡ length (last_state (start header.profile header.n) steps).graph.edges
  pub replies : e.replies ≡ replies_in lists
  pub top : e.top ≡ greatest (last_state (start header.profile header.n) steps).levels
