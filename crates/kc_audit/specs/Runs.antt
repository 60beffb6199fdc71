-- A recorded run: its group lines as a history, and the runs that can be audited.
use Rattle.std.specs.Prelude.{ℕ, ◌<◌, ◌≤◌, nat_lt, Bool, true, List, [], length, map, All, Some}
use Rattle.std.specs.List.{list_all}
use Rattle.kc_levels.specs.declared.moves.Move.{Move}
use Rattle.kc_history.specs.declared.entries.Entry.{Entry}
use Rattle.kc_history.specs.declared.replies.Reply.{Reply}
use Rattle.kc_audit.specs.declared.groups.GroupLine.{GroupLine}
use Rattle.kc_audit.specs.declared.run_text.RunText.{RunText}

-- the move of a member to its new level
--
-- Run texts don't have the level before a move, and no point of a history depends on it.
abbrev pub move_of : Reply → Move
move_of r = record { vertex = r.vertex; old = 0; new = r.level }

abbrev pub moves_of : List Reply → List Move
moves_of members = map move_of members

-- the entry of a group line
--
-- Run texts don't have the edges, and no level depends on them.
abbrev pub entry_of : GroupLine → Entry
entry_of line = record { phase = line.phase; label = Some line.label; add = true; moves = moves_of line.members; edges = [] }

-- the group lines as a history
abbrev pub history_of : List GroupLine → List Entry
history_of lines = map entry_of lines

abbrev pub IsBelow : ℕ → Reply → Type 0
IsBelow n r = r.vertex < n

-- whether the vertices of replies are below n, as a test and as a fact
abbrev pub are_below : ℕ → List Reply → Bool
are_below n rs = list_all (λ r. nat_lt r.vertex n) rs

abbrev pub AreBelow : ℕ → List Reply → Type 0
AreBelow n rs = All (IsBelow n) rs

-- what an audit requires of a run: each vertex is one of the run, and readers and replies can be numbered
pub record IsAuditable (run : RunText) : Type 0 where
  pub members : All (λ line. AreBelow run.vertices line.members) run.groups
  pub replies : All (AreBelow run.vertices) run.readers
  pub readers : length run.readers ≤ 4294967294
  pub asks : All (λ rs. length rs ≤ 4294967294) run.readers
