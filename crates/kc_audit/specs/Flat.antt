-- Group lines whose members are stored in one list.
use Rattle.std.specs.Prelude.{ℕ, ◌≡◌, ◌≤◌, List, [], ◌∷◌}
use Rattle.std.specs.List.{slice_range}
use Rattle.kc_history.specs.declared.replies.Reply.{Reply}
use Rattle.kc_audit.specs.declared.flat.Head.{Head}
use Rattle.kc_audit.specs.declared.groups.GroupLine.{GroupLine}

-- the lines, if the members of the first one begin at `from`
abbrev pub lines_from : ℕ → List Head → List Reply → List GroupLine
lines_from from [] members = []
lines_from from (h ∷ hs) members = record { phase = h.phase; label = h.label; members = slice_range members from h.end } ∷ lines_from h.end hs members

-- the ends never fall, from `from` on, and the last is `end`
abbrev pub EndFrom : ℕ → List Head → ℕ → Type 0
EndFrom from [] end = from ≡ end
EndFrom from (h ∷ hs) end = (from ≤ h.end) × EndFrom h.end hs end
