-- The view of an agent in contracts, and the facts that hold of each.
use Rattle.std.specs.Prelude.{ℕ, zero, suc, ◌≡◌, ◌≤◌, ◌<◌, ◌*◌, Bool, false, true, List, [], ◌++◌, length, take, All}
use Rattle.kc_history.specs.declared.entries.Entry.{Entry}
use Rattle.kc_history.specs.declared.replies.Reply.{Reply}
use Rattle.kc_history.specs.Replies.{AreExplained, vertices_of}
use Rattle.kc_batch.specs.declared.ask.Ask.{Ask}
use Rattle.kc_store.specs.Seats.{StoreShape, PassShape}

-- the list vs, k times over
abbrev pub repeated : ℕ → List ℕ → List ℕ
repeated zero vs = []
repeated (suc k) vs = repeated k vs ++ vs

-- the questions of an ask: its vertices in order, the whole list `times` times over
abbrev pub questions : Ask → List ℕ
questions ask = repeated ask.times ask.vertices

-- an agent
--
-- The fields are the store that it reads, its number, its ask, and the history that its pass has seen. Then come the
-- length of the history when the pass was made, its replies, and whether it has run.
pub record AgentShape : Type 0 where
  pub store : StoreShape
  pub reader : ℕ
  pub ask : Ask
  pub seen : List Entry
  pub made : ℕ
  pub replies : List Reply
  pub has_run : Bool

-- an agent that has just been opened, at the end of a history
abbrev pub agent_for : StoreShape → List Entry → ℕ → Ask → AgentShape
agent_for store history reader ask = record { store = store; reader = reader; ask = ask; seen = history; made = length history; replies = []; has_run = false }

-- the facts that hold of each agent
--
-- Its replies answer the first questions of its ask, in order; once it has run they answer all of them. From the point
-- at which its pass was made, the history that the pass has seen explains them.
pub record IsAgent (a : AgentShape) : Type 0 where
  pub first : vertices_of a.replies ≡ take (length a.replies) (questions a.ask)
  pub all : a.has_run ≡ true → vertices_of a.replies ≡ questions a.ask
  pub explained : AreExplained a.store.vertices a.seen a.made a.replies

-- the replies that an agent gives of those that it keeps: none before it has run
abbrev pub given : Bool → List Reply → List Reply
given false kept = []
given true kept = kept

-- an agent by its fields
abbrev pub agent_shape : PassShape → ℕ → ℕ → Ask → List Reply → Bool → AgentShape
agent_shape pass vertices reader ask kept has_run =
    record { store = record { table = pass.table; vertices = vertices }; reader = reader; ask = ask; seen = pass.seen; made = pass.made; replies = given has_run kept; has_run = has_run }

-- an agent that keeps these replies, one for each question
pub record IsKept (a : AgentShape) (kept : List Reply) : Type 0 where
  pub agent : IsAgent a
  pub made_in : a.made ≤ length a.seen
  pub below : All (λ v. v < a.store.vertices) a.ask.vertices
  pub few : a.ask.times * length a.ask.vertices ≤ 65536
  pub vertices : vertices_of kept ≡ questions a.ask
