-- Laws of verdicts and histories; each is the contract of a function in `laws`.
use Rattle.std.specs.Prelude.{ℕ, ◌<◌, ◌≡◌, List, [], ◌∷◌, length, map, All, Option, Some, None}
use Rattle.kc_levels.specs.declared.moves.Move.{Move}
use Rattle.kc_history.specs.declared.entries.Entry.{Entry}
use Rattle.kc_history.specs.declared.replies.Reply.{Reply}
use Rattle.kc_history.specs.Replies.{AreExplained}
use Rattle.kc_audit.specs.declared.groups.GroupLine.{GroupLine}
use Rattle.kc_audit.specs.declared.run_text.RunText.{RunText}
use Rattle.kc_audit.specs.declared.verdict.AuditVerdict.{AuditVerdict}
use Rattle.kc_audit.specs.declared.verdict.AuditVerdict.TheVariants.{Explained}
use Rattle.kc_audit.specs.Runs.{history_of}
use Rattle.kc_audit.specs.Verdicts.{replies_of, IsExplained, IsVerdict}

-- a run whose readers are explained gets the verdict `Explained`
abbrev pub ExplainedPasses : Type 0
ExplainedPasses = (run : RunText) (verdict : AuditVerdict) → ((r : ℕ) → r < length run.readers → IsExplained run (replies_of run r)) → IsVerdict run verdict → verdict ≡ Explained

-- each run has a verdict
abbrev pub HasVerdict : Type 0
HasVerdict = (run : RunText) → (verdict : AuditVerdict) × IsVerdict run verdict

-- two verdicts on one run are the same
abbrev pub IsOneVerdict : Type 0
IsOneVerdict = (run : RunText) (first second : AuditVerdict) → IsVerdict run first → IsVerdict run second → first ≡ second

-- a move as it is printed
abbrev pub member_of : Move → Reply
member_of m = record { vertex = m.vertex; level = m.new }

-- the group line of an entry with a label, before other lines
abbrev pub line_before : Entry → Option ℕ → List GroupLine → List GroupLine
line_before e None rest = rest
line_before e (Some label) rest = record { phase = e.phase; label = label; members = map member_of e.moves } ∷ rest

-- the group lines of a history
abbrev pub lines_of : List Entry → List GroupLine
lines_of [] = []
lines_of (e ∷ es) = line_before e e.label (lines_of es)

-- an entry without a label moves nothing
abbrev pub IsQuietUnlessLabelled : Entry → Type 0
IsQuietUnlessLabelled e = e.label ≡ None → e.moves ≡ []

-- if a history explains replies, its group lines explain them too
abbrev pub LinesExplain : Type 0
LinesExplain =
    (n : ℕ) (history : List Entry) (rs : List Reply) → All IsQuietUnlessLabelled history → AreExplained n history 0 rs → AreExplained n (history_of (lines_of history)) 0 rs
