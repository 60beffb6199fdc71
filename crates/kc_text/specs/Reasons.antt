-- The words of reasons.
use Rattle.std.specs.Prelude.{ℕ, List, codes}
use Rattle.kc_text.specs.declared.reason.Reason.{Reason}
use Rattle.kc_text.specs.declared.reason.Reason.TheVariants.{Header, LineLong, BadLine, BadVertex, TooMany, Truncated, InputLimit, EdgeLimit, PhaseLimit}

-- the word for a reason in written texts
abbrev pub reason_word : Reason → List ℕ
reason_word Header = codes "header"
reason_word LineLong = codes "line-long"
reason_word BadLine = codes "bad-line"
reason_word BadVertex = codes "bad-vertex"
reason_word TooMany = codes "too-many"
reason_word Truncated = codes "truncated"
reason_word InputLimit = codes "input-limit"
reason_word EdgeLimit = codes "edge-limit"
reason_word PhaseLimit = codes "phase-limit"
