-- A run text as it is read, line after line, and the first line that doesn't fit.
--
-- All lines here are lines that aren't skipped. The last of them is `Limit` or `End`, so there is always one.
use Rattle.std.specs.Prelude.{ℕ, suc, ◌==◌, nat_le, nat_lt, Bool, true, false, ◌&&◌, List, [], ◌∷◌, ◌++◌, length, Option, Some, None, Result, Ok, Err, if◌then◌else◌}
use Rattle.kc_graph.specs.declared.limits.TheConstants.{MAX_VERTICES}
use Rattle.kc_text.specs.declared.line.Line.{Line}
use Rattle.kc_text.specs.Lines.{lines}
use Rattle.kc_text.specs.declared.reason.Reason.{Reason}
use Rattle.kc_text.specs.declared.reason.Reason.TheVariants.{LineLong, BadLine, BadVertex, Truncated, InputLimit}
use Rattle.kc_text.specs.Kept.{kept}
use Rattle.kc_history.specs.declared.replies.Reply.{Reply}
use Rattle.kc_audit.specs.declared.run_text.RunText.{RunText}
use Rattle.kc_audit.specs.declared.stage.PhasesLeft.{PhasesLeft}
use Rattle.kc_audit.specs.declared.stage.PhasesLeft.TheVariants.{NoPhase, Insertion, AnyPhase}
use Rattle.kc_audit.specs.declared.stage.Place.{Place}
use Rattle.kc_audit.specs.declared.stage.Stage.{Stage}
use Rattle.kc_audit.specs.declared.stage.Stage.TheVariants.{Batches, Groups, Readers, VertexLines, Closed}
use Rattle.kc_audit.specs.Kinds.{Kind, kind_of}
use Rattle.kc_audit.specs.Kinds as kind
use Rattle.kc_audit.specs.Runs.{are_below}
use Rattle.kc_audit.specs.Words.{pairs_of}

-- what lines are: a run, or the first line that doesn't fit with its reason
pub data Document : Type 0 where
  Accepted : (run : RunText) → Document
  Refused : (line : ℕ) (reason : Reason) → Document

-- what a line does: the run goes on, maybe with one more group or reader, or the run ends, or the line doesn't fit
pub data Step : Type 0 where
  Goes : (run : RunText) (stage : Stage) → Step
  Ends : (run : RunText) → Step
  Stops : (reason : Reason) → Step

-- why a line doesn't fit if a line of another kind is due
abbrev pub misfit : Kind → Reason
misfit kind.TooLong = LineLong
misfit kind.Limit = InputLimit
misfit kind.InputEnd = Truncated
misfit _ = BadLine

-- `number` is the one after `last`
abbrev pub is_next : ℕ → ℕ → Bool
is_next last number = number == suc last

-- the step of a batch line: batches are numbered without a gap
abbrev pub batch_step : RunText → Place → ℕ → PhasesLeft → Step
batch_step run place batch left =
    if is_next place.batch batch then Goes run (Batches (record { batch = batch; phase = place.phase; left = left })) else Stops BadLine

-- the phases that may follow a phase of the same batch: of two, the first deletes and the second inserts
abbrev pub left_after : PhasesLeft → Bool → Option PhasesLeft
left_after AnyPhase false = Some Insertion
left_after AnyPhase true = Some NoPhase
left_after Insertion true = Some NoPhase
left_after Insertion false = None
left_after NoPhase add = None

-- the step of a phase line, by the phases that may follow it in its batch; none if the phase may not come
abbrev pub groups_after : RunText → ℕ → ℕ → Option PhasesLeft → Step
groups_after run batch phase (Some left) = Goes run (Groups (record { batch = batch; phase = phase; left = left }) 0)
groups_after run batch phase None = Stops BadLine

-- the step of a phase line: phases are numbered without a gap
abbrev pub phase_step : RunText → Place → ℕ → Bool → Step
phase_step run place phase add = if is_next place.phase phase then groups_after run place.batch phase (left_after place.left add) else Stops BadLine

-- the vertices ascend strictly, from `low` on
abbrev pub rises_from : ℕ → List Reply → Bool
rises_from low [] = true
rises_from low (m ∷ ms) = nat_le low m.vertex && rises_from (suc m.vertex) ms

-- the members of a group with this label: the label is the first member, and the members ascend
abbrev pub is_group : ℕ → List Reply → Bool
is_group label [] = false
is_group label (m ∷ ms) = (m.vertex == label) && rises_from label (m ∷ ms)

-- the run with one more group line
abbrev pub with_group : RunText → ℕ → ℕ → List Reply → RunText
with_group run phase label ms = record { vertices = run.vertices; groups = run.groups ++ record { phase = phase; label = label; members = ms } ∷ []; readers = run.readers }

-- the step of a group line by its members, if its words are pairs: members ascend from the label and are vertices
abbrev pub members_step : RunText → Place → ℕ → Option (List Reply) → Step
members_step run place label (Some ms) =
    if is_group label ms then (if are_below run.vertices ms then Goes (with_group run place.phase label ms) (Groups place (suc label)) else Stops BadVertex)
    else Stops BadLine
members_step run place label None = Stops BadLine

-- the step of a group line of the open phase, whose label is at least `low`
abbrev pub group_step : RunText → Place → ℕ → ℕ → ℕ → List (List ℕ) → Step
group_step run place low phase label members = if (phase == place.phase) && nat_le low label then members_step run place label (pairs_of 58 members) else Stops BadLine

-- the run with one more reader
abbrev pub with_reader : RunText → List Reply → RunText
with_reader run rs = record { vertices = run.vertices; groups = run.groups; readers = run.readers ++ rs ∷ [] }

-- the step of a reader line by its replies, if its words are pairs: there is one, and all are of vertices
abbrev pub replies_step : RunText → Option (List Reply) → Step
replies_step run (Some rs) =
    if nat_lt 0 (length rs) then (if are_below run.vertices rs then Goes (with_reader run rs) Readers else Stops BadVertex)
    else Stops BadLine
replies_step run None = Stops BadLine

-- the step of a reader line: readers are numbered from 0 without a gap, and there are at most 64
abbrev pub reader_step : RunText → ℕ → List (List ℕ) → Step
reader_step run reader replies = if (reader == length run.readers) && nat_lt reader 64 then replies_step run (pairs_of 61 replies) else Stops BadLine

-- the step of a vertex line: these lines name the vertices in order
abbrev pub vertex_step : RunText → ℕ → ℕ → Step
vertex_step run next v = if (v == next) && nat_lt v run.vertices then Goes run (VertexLines (suc v)) else Stops BadLine

-- the step of a line after the batches or a reader line
abbrev pub readers_step : RunText → Kind → Step
readers_step run (kind.Reader reader replies) = reader_step run reader replies
readers_step run (kind.Vertex v) = vertex_step run 0 v
readers_step run k = Stops (misfit k)

-- the step of a line after a batch line, or of the first line of the batches
abbrev pub batches_step : RunText → Place → Kind → Step
batches_step run place (kind.Accepted batch) = batch_step run place batch AnyPhase
batches_step run place (kind.Refused batch) = batch_step run place batch NoPhase
batches_step run place (kind.Phase phase add) = phase_step run place phase add
batches_step run place k = readers_step run k

-- the step of a line after a phase line or a group line
abbrev pub groups_step : RunText → Place → ℕ → Kind → Step
groups_step run place low (kind.Group phase label members) = group_step run place low phase label members
groups_step run place low k = batches_step run place k

-- the step of a line after a vertex line
abbrev pub vertices_step : RunText → ℕ → Kind → Step
vertices_step run next (kind.Vertex v) = vertex_step run next v
vertices_step run next kind.Close = if next == run.vertices then Goes run Closed else Stops BadLine
vertices_step run next k = Stops (misfit k)

-- the step of a line after `end`
abbrev pub closed_step : RunText → Kind → Step
closed_step run kind.InputEnd = Ends run
closed_step run k = Stops (misfit k)

-- what a line of this kind does
abbrev pub step_of : RunText → Stage → Kind → Step
step_of run (Batches place) k = batches_step run place k
step_of run (Groups place low) k = groups_step run place low k
step_of run Readers k = readers_step run k
step_of run (VertexLines next) k = vertices_step run next k
step_of run Closed k = closed_step run k

-- the document after the step of a line; `next` gives the document of the lines that follow
abbrev pub act : ℕ → Step → (RunText → Stage → Document) → Document
act number (Goes run stage) next = next run stage
act number (Ends run) next = Accepted run
act number (Stops reason) next = Refused number reason

-- the document of lines that follow those of this run
unfoldable pub read_from : RunText → Stage → List Line → Document
read_from run stage [] = Refused 0 Truncated
read_from run stage (line ∷ rest) = act line.number (step_of run stage (kind_of line.body)) (λ more next. read_from more next rest)

-- a run of n vertices without groups and readers
abbrev pub empty_run : ℕ → RunText
empty_run n = record { vertices = n; groups = []; readers = [] }

-- the place before the first batch
abbrev pub first_place : Place
first_place = record { batch = 0; phase = 0; left = NoPhase }

-- whether a line is `kcore-run 1`, or why it isn't
abbrev pub head_of : Kind → Result (Unit {0}) Reason
head_of kind.Head = Ok tt
head_of k = Err (misfit k)

-- the N of the line `vertices N`, or why there is no such N
abbrev pub vertices_of : Kind → Result ℕ Reason
vertices_of (kind.Vertices n) = if nat_le 1 n && nat_le n MAX_VERTICES then Ok n else Err BadLine
vertices_of k = Err (misfit k)

-- the document after a line that may not fit
abbrev pub onward : {T : Type 0} → ℕ → Result T Reason → (T → Document) → Document
onward number (Ok x) next = next x
onward number (Err reason) next = Refused number reason

-- the document of lines after `kcore-run 1`
unfoldable pub after_head : List Line → Document
after_head [] = Refused 0 Truncated
after_head (line ∷ rest) = onward line.number (vertices_of (kind_of line.body)) (λ n. read_from (empty_run n) (Batches first_place) rest)

-- the document of lines
unfoldable pub document_of : List Line → Document
document_of [] = Refused 0 Truncated
document_of (line ∷ rest) = onward line.number (head_of (kind_of line.body)) (λ u. after_head rest)

-- the document of bytes: at most `limit` bytes a line, of the first `room` bytes
abbrev pub document_in : ℕ → ℕ → List ℕ → Document
document_in limit room bytes = document_of (kept (lines limit room bytes))
