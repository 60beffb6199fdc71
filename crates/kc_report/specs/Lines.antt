-- The lines of a run, and those of an exact text. `printed_line` of `kc_text` makes a line of its words.
use Rattle.std.specs.Prelude.{ℕ, Bool, true, false, List, [], ◌∷◌, ◌++◌, length, map, Option, Some, None, decimal, codes}
use Rattle.std.specs.List.{flat_map}
use Rattle.kc_graph.specs.declared.cleaning.Cleaned.{Cleaned}
use Rattle.kc_groups.specs.declared.plans.PhasePlan.{PhasePlan}
use Rattle.kc_history.specs.declared.entries.Entry.{Entry}
use Rattle.kc_history.specs.declared.replies.Reply.{Reply}
use Rattle.kc_levels.specs.declared.moves.Move.{Move}
use Rattle.kc_levels.specs.declared.thresholds.Estimate.{Estimate}
use Rattle.kc_text.specs.declared.reason.Reason.{Reason}
use Rattle.kc_text.specs.Printing.{printed_line}
use Rattle.kc_text.specs.Reasons.{reason_word}

abbrev pub magic_line : List ℕ
magic_line = printed_line (codes "kcore-run" ∷ codes "1" ∷ [])

abbrev pub vertices_line : ℕ → List ℕ
vertices_line n = printed_line (codes "vertices" ∷ decimal n ∷ [])

-- the first two lines of a text: the words that say what text it is, and the number of vertices
abbrev pub opening_text : List ℕ → ℕ → List ℕ
opening_text words n = (words ++ 10 ∷ []) ++ vertices_line n

-- the first two lines of a run
abbrev pub head_text : ℕ → List ℕ
head_text n = magic_line ++ vertices_line n

-- the line of an accepted batch: its number, the counts of its cleaning, and how many edges it removed and added
abbrev pub batch_line : ℕ → Cleaned → List ℕ
batch_line number c =
    printed_line (codes "batch" ∷ decimal number
    ∷ codes "loops" ∷ decimal c.loops ∷ codes "repeats" ∷ decimal c.repeats ∷ codes "idle" ∷ decimal c.idle
    ∷ codes "removed" ∷ decimal (length c.removed) ∷ codes "added" ∷ decimal (length c.added) ∷ [])

abbrev pub direction_word : Bool → List ℕ
direction_word true = codes "insert"
direction_word false = codes "delete"

-- the line of a phase: its number, whether its edges come in or leave, and how many of them are quiet
abbrev pub phase_line : PhasePlan → List ℕ
phase_line plan =
    printed_line (codes "phase" ∷ decimal plan.quiet.phase ∷ direction_word plan.quiet.add
    ∷ codes "quiet" ∷ decimal (length plan.quiet.edges) ∷ [])

-- the word of a vertex that moved: the vertex and its new level
abbrev pub member_word : Move → List ℕ
member_word m = decimal m.vertex ++ (58 ∷ decimal m.new)

-- the word of a group's label; each group has a label
abbrev pub label_word : Option ℕ → List ℕ
label_word (Some label) = decimal label
label_word None = []

-- the line of a group: the number of its phase, its label, and its vertices
abbrev pub group_line : Entry → List ℕ
group_line group = printed_line (codes "group" ∷ decimal group.phase ∷ label_word group.label ∷ map member_word group.moves)

-- the line of a phase, and then those of its groups
abbrev pub phase_text : PhasePlan → List ℕ
phase_text plan = phase_line plan ++ flat_map group_line plan.groups

-- the line of an accepted batch, and then the lines of its phases
abbrev pub batch_text : ℕ → Cleaned → List PhasePlan → List ℕ
batch_text number c phases = batch_line number c ++ flat_map phase_text phases

-- the one line of a text whose input is refused: the line and the reason of the first fault
abbrev pub refusal_line : ℕ → Reason → List ℕ
refusal_line line reason = printed_line (codes "refused" ∷ codes "line" ∷ decimal line ∷ reason_word reason ∷ [])

-- the line of a refused batch: its number, and the line and the reason of its first fault
abbrev pub refused_line : ℕ → ℕ → Reason → List ℕ
refused_line number line reason =
    printed_line (codes "batch" ∷ decimal number
    ∷ codes "refused" ∷ codes "line" ∷ decimal line ∷ reason_word reason ∷ [])

-- the one line of a run whose header is refused
abbrev pub header_refused_line : ℕ → List ℕ
header_refused_line line = printed_line (codes "refused" ∷ codes "line" ∷ decimal line ∷ codes "header" ∷ [])

-- the word of a reply: the vertex and the level that the reply gives
abbrev pub reply_word : Reply → List ℕ
reply_word r = decimal r.vertex ++ (61 ∷ decimal r.level)

-- the line of a reader: its number, and its replies
abbrev pub reader_line : ℕ → List Reply → List ℕ
reader_line number replies = printed_line (codes "reader" ∷ decimal number ∷ map reply_word replies)

-- the line of a vertex: its level, what the level says of its coreness, and two counts of neighbours
--
-- `up` are the neighbours on the vertex's level or above, `down` those on the level below or above.
abbrev pub vertex_line : ℕ → ℕ → Estimate → ℕ → ℕ → List ℕ
vertex_line v level e up down =
    printed_line (codes "vertex" ∷ decimal v ∷ codes "level" ∷ decimal level
    ∷ codes "est" ∷ decimal e.est ∷ codes "low" ∷ decimal e.lo ∷ codes "high" ∷ decimal e.hi
    ∷ codes "up" ∷ decimal up ∷ codes "down" ∷ decimal down ∷ [])

abbrev pub end_line : List ℕ
end_line = printed_line (codes "end" ∷ [])

-- the line of a refused batch as a comment, before a text that has no lines for batches
abbrev pub note_line : ℕ → ℕ → Reason → List ℕ
note_line number line reason = codes "# " ++ refused_line number line reason

abbrev pub exact_magic_line : List ℕ
exact_magic_line = printed_line (codes "kcore-exact" ∷ codes "1" ∷ [])

-- the first two lines of an exact text
abbrev pub exact_head_text : ℕ → List ℕ
exact_head_text n = exact_magic_line ++ vertices_line n

-- the line of a vertex of an exact text: its coreness, and what its level says of it
abbrev pub coreness_line : ℕ → ℕ → Estimate → List ℕ
coreness_line v coreness e =
    printed_line (codes "vertex" ∷ decimal v ∷ codes "coreness" ∷ decimal coreness
    ∷ codes "low" ∷ decimal e.lo ∷ codes "est" ∷ decimal e.est ∷ codes "high" ∷ decimal e.hi ∷ [])
