-- The questions and replies of agents.
use Rattle.std.specs.Prelude.{ℕ, ◌≡◌, ◌+◌, true, List, [], ◌∷◌}
use mathlib.Core.List.{IsPrefix}
use Rattle.kc_history.specs.declared.entries.Entry.{Entry}
use Rattle.kc_history.specs.declared.replies.Reply.{Reply}
use Rattle.kc_history.specs.Replies.{AreExplained, vertices_of}
use Rattle.kc_batch.specs.declared.ask.Ask.{Ask}
use Rattle.kc_store.specs.Seats.{StoreShape}
use Rattle.kc_session.specs.Agents.{AgentShape, questions, agent_for}

-- the agent has run: its replies answer all of its questions, and the history that its pass has seen by now explains
-- them
pub record HasRun (old new : AgentShape) : Type 0 where
  pub same : new ≡ record old { seen = new.seen; replies = new.replies; has_run = true }
  pub later : IsPrefix old.seen new.seen
  pub answers : vertices_of new.replies ≡ questions old.ask
  pub explained : AreExplained old.store.vertices new.seen old.made new.replies

-- each of the agents has run, in order
abbrev pub HaveRun : List AgentShape → List AgentShape → Type 0
HaveRun [] [] = Unit {0}
HaveRun [] (b ∷ more) = ⊥
HaveRun (a ∷ rest) [] = ⊥
HaveRun (a ∷ rest) (b ∷ more) = HasRun a b × HaveRun rest more

-- an agent for each ask, in order; the first has this number
abbrev pub agents_for : StoreShape → List Entry → ℕ → List Ask → List AgentShape
agents_for store history reader [] = []
agents_for store history reader (ask ∷ asks) = agent_for store history reader ask ∷ agents_for store history (reader + 1) asks

-- the replies fit the asks
--
-- For each ask, in order, there is one list, and its vertices are the questions of the ask in order.
abbrev pub Fit : List Ask → List (List Reply) → Type 0
Fit [] [] = Unit {0}
Fit [] (rs ∷ more) = ⊥
Fit (ask ∷ asks) [] = ⊥
Fit (ask ∷ asks) (rs ∷ more) = (vertices_of rs ≡ questions ask) × Fit asks more

-- these are the replies of the agents, in order
--
-- From the point at which an agent was opened, the history explains its replies.
abbrev pub AreClosed : List Entry → List AgentShape → List (List Reply) → Type 0
AreClosed history [] [] = Unit {0}
AreClosed history [] (rs ∷ more) = ⊥
AreClosed history (a ∷ rest) [] = ⊥
AreClosed history (a ∷ rest) (rs ∷ more) = ((rs ≡ a.replies) × ((vertices_of rs ≡ questions a.ask) × AreExplained a.store.vertices history a.made rs)) × AreClosed history rest more
