-- A certificate as it is read, line after line, and the first line that doesn't fit.
--
-- All lines here are lines that aren't skipped. The last of them is `Limit` or `InputEnd`, so there is always one.
use Rattle.std.specs.Prelude.{ℕ, zero, suc, ◌==◌, nat_le, nat_lt, Bool, ◌&&◌, ◌||◌, List, [], ◌∷◌, ◌++◌, length, Result, Ok, Err, if◌then◌else◌}
use Rattle.kc_graph.specs.declared.limits.TheConstants.{MAX_VERTICES, MAX_EDGES}
use Rattle.kc_graph.specs.Shape.{Pair}
use Rattle.kc_levels.specs.declared.profile.Profile.{Profile}
use Rattle.kc_levels.specs.Thresholds.{top_level}
use Rattle.kc_text.specs.declared.reason.Reason.{Reason}
use Rattle.kc_text.specs.declared.reason.Reason.TheVariants.{LineLong, BadLine, BadVertex, Truncated, InputLimit}
use Rattle.kc_cert.specs.declared.certificate.Certificate.{Certificate}
use Rattle.kc_cert.specs.declared.token.Token.{Token}
use Rattle.kc_cert.specs.declared.token.Kind.{Kind}
use Rattle.kc_cert.specs.declared.token.Kind.TheVariants as kind

-- what lines are: a certificate, or the first line that doesn't fit with its reason
pub data Document : Type 0 where
  Accepted : (cert : Certificate) → Document
  Refused : (line : ℕ) (reason : Reason) → Document

-- which line is due
pub data Stage : Type 0 where
  AtMagic : Stage
  AtProfile : Stage
  AtVertices : (p : Profile) → Stage
  AtEdgeCount : (p : Profile) (n : ℕ) → Stage
  -- `edges` edges, the next not before (a, b), then `levels` levels, and then `end`
  --
  -- `cert` has the edges and levels that were read.
  AtBody : (cert : Certificate) (edges a b levels : ℕ) → Stage
  -- the end of the input
  AtInputEnd : (cert : Certificate) → Stage
  -- nothing
  Done : (cert : Certificate) → Stage

-- no edges and no levels
abbrev pub empty_certificate : Profile → ℕ → Certificate
empty_certificate p n = record { profile = p; graph = record { vertices = n; edges = [] }; levels = [] }

-- one more edge after all others
abbrev pub with_last_edge : Certificate → Pair → Certificate
with_last_edge cert e = record { profile = cert.profile; graph = record { vertices = cert.graph.vertices; edges = cert.graph.edges ++ e ∷ [] }; levels = cert.levels }

-- the level of the next vertex
abbrev pub with_last_level : Certificate → ℕ → Certificate
with_last_level cert l = record { profile = cert.profile; graph = cert.graph; levels = cert.levels ++ l ∷ [] }

-- why a line doesn't fit if a line of another kind is due
abbrev pub misfit : Kind → Reason
misfit kind.TooLong = LineLong
misfit kind.Limit = InputLimit
misfit kind.InputEnd = Truncated
misfit _ = BadLine

-- the value of a line of this kind if the first line is due, or why it doesn't fit
abbrev pub magic_of : Kind → Result (Unit {0}) Reason
magic_of kind.Magic = Ok tt
magic_of k = Err (misfit k)

-- the same if a profile is due
abbrev pub profile_of : Kind → Result Profile Reason
profile_of (kind.Profile p) = Ok p
profile_of k = Err (misfit k)

-- the same if the number of vertices is due
abbrev pub vertices_of : Kind → Result ℕ Reason
vertices_of (kind.Vertices n) = if nat_le 1 n && nat_le n MAX_VERTICES then Ok n else Err BadLine
vertices_of k = Err (misfit k)

-- the same if the number of edges is due
abbrev pub edge_count_of : Kind → Result ℕ Reason
edge_count_of (kind.EdgeCount m) = if nat_le m MAX_EDGES then Ok m else Err BadLine
edge_count_of k = Err (misfit k)

-- x < y, and (x, y) is not before (a, b)
abbrev pub is_next_edge : ℕ → ℕ → ℕ → ℕ → Bool
is_next_edge a b x y = nat_lt x y && (nat_lt a x || ((a == x) && nat_le b y))

-- the same if an edge between vertices below n is due, not before (a, b)
abbrev pub edge_of : ℕ → ℕ → ℕ → Kind → Result Pair Reason
edge_of n a b (kind.Edge x y) = if nat_lt x n && nat_lt y n then (if is_next_edge a b x y then Ok (x, y) else Err BadLine) else Err BadVertex
edge_of n a b k = Err (misfit k)

-- the same if the level of vertex `next` below n is due, at most `top`
abbrev pub level_of : ℕ → ℕ → ℕ → Kind → Result ℕ Reason
level_of n top next (kind.Level v l) = if nat_lt v n then (if (v == next) && nat_le l top then Ok l else Err BadLine) else Err BadVertex
level_of n top next k = Err (misfit k)

-- the same if `end` is due
abbrev pub close_of : Kind → Result (Unit {0}) Reason
close_of kind.Close = Ok tt
close_of k = Err (misfit k)

-- the same if the input has to end
abbrev pub input_end_of : Kind → Result (Unit {0}) Reason
input_end_of kind.InputEnd = Ok tt
input_end_of k = Err (misfit k)

-- the stage after a line that fits
abbrev pub onward : {T : Type 0} → (T → Stage) → Result T Reason → Result Stage Reason
onward next (Ok x) = Ok (next x)
onward next (Err reason) = Err reason

-- the stage after a line of this kind, or why the line doesn't fit
abbrev pub stage_after : Stage → Kind → Result Stage Reason
stage_after AtMagic k = onward (λ u. AtProfile) (magic_of k)
stage_after AtProfile k = onward (λ p. AtVertices p) (profile_of k)
stage_after (AtVertices p) k = onward (λ n. AtEdgeCount p n) (vertices_of k)
stage_after (AtEdgeCount p n) k = onward (λ m. AtBody (empty_certificate p n) m 0 0 n) (edge_count_of k)
stage_after (AtBody cert (suc edges) a b levels) k = onward (λ e. AtBody (with_last_edge cert e) edges e.0 (suc e.1) levels) (edge_of cert.graph.vertices a b k)
stage_after (AtBody cert zero a b (suc levels)) k =
    onward (λ l. AtBody (with_last_level cert l) zero a b levels) (level_of cert.graph.vertices (top_level cert.profile cert.graph.vertices) (length cert.levels) k)
stage_after (AtBody cert zero a b zero) k = onward (λ u. AtInputEnd cert) (close_of k)
stage_after (AtInputEnd cert) k = onward (λ u. Done cert) (input_end_of k)
stage_after (Done cert) k = Err (misfit k)

-- the document after a line that leads to a stage or doesn't fit; `next` gives the document of the lines that follow
abbrev pub act : ℕ → Result Stage Reason → (Stage → Document) → Document
act number (Ok stage) next = next stage
act number (Err reason) next = Refused number reason

-- the result if no line is left
abbrev pub last_of : Stage → Document
last_of (Done cert) = Accepted cert
last_of _ = Refused 0 Truncated

-- the result of lines from a stage on
unfoldable pub read_from : Stage → List Token → Document
read_from stage [] = last_of stage
read_from stage (t ∷ rest) = act t.number (stage_after stage t.kind) (λ next. read_from next rest)

-- the result of lines as a certificate
abbrev pub document_of : List Token → Document
document_of ts = read_from AtMagic ts
