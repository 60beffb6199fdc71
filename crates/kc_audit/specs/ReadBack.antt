-- A run text by the kinds of its lines as they are written, and the reading of it: as the run that was written.
use Rattle.std.specs.Prelude.{ℕ, zero, suc, ◌≡◌, ◌≤◌, ◌<◌, nat_le, Bool, true, false, List, [], ◌∷◌, ◌++◌, length, map, decimal}
use Rattle.std.specs.List.{list_all}
use Rattle.kc_graph.specs.declared.limits.TheConstants.{MAX_VERTICES}
use Rattle.kc_text.specs.declared.line.Line.{Line}
use Rattle.kc_history.specs.declared.replies.Reply.{Reply}
use Rattle.kc_audit.specs.declared.groups.GroupLine.{GroupLine}
use Rattle.kc_audit.specs.Kinds.{Kind, Head, Vertices, Accepted, Refused, Phase, Group, Reader, Vertex, Close, InputEnd, kind_of}
use Rattle.kc_audit.specs.Runs.{are_below}
use Rattle.kc_audit.specs.Documents.{is_group, document_of}
use Rattle.kc_audit.specs.Documents as document

-- the word of a vertex and a level, with this mark between them
abbrev pub pair_word : ℕ → Reply → List ℕ
pair_word mark r = decimal r.vertex ++ mark ∷ decimal r.level

abbrev pub pair_words : ℕ → List Reply → List (List ℕ)
pair_words mark rs = map (pair_word mark) rs

-- a phase as it is written: its direction, and its group lines
pub record PhaseText : Type 0 where
  pub add : Bool
  pub groups : List GroupLine

-- a batch as it is written: accepted with its phases, or refused
pub data BatchText : Type 0 where
  Took : (phases : List PhaseText) → BatchText
  Left : BatchText

abbrev pub group_kinds : List GroupLine → List Kind → List Kind
group_kinds [] rest = rest
group_kinds (g ∷ gs) rest = Group g.phase g.label (pair_words 58 g.members) ∷ group_kinds gs rest

-- the kinds of phases after phase p, and then of what follows the last of them
abbrev pub phase_kinds : ℕ → List PhaseText → (ℕ → List Kind) → List Kind
phase_kinds p [] rest = rest p
phase_kinds p (x ∷ xs) rest = Phase (suc p) x.add ∷ group_kinds x.groups (phase_kinds (suc p) xs rest)

-- the kinds of batches after batch t and phase p
abbrev pub batch_kinds : ℕ → ℕ → List BatchText → List Kind → List Kind
batch_kinds t p [] rest = rest
batch_kinds t p (Took xs ∷ bs) rest = Accepted (suc t) ∷ phase_kinds p xs (λ q. batch_kinds (suc t) q bs rest)
batch_kinds t p (Left ∷ bs) rest = Refused (suc t) ∷ batch_kinds (suc t) p bs rest

-- the kinds of readers from reader r on
abbrev pub reader_kinds : ℕ → List (List Reply) → List Kind → List Kind
reader_kinds r [] rest = rest
reader_kinds r (x ∷ xs) rest = Reader r (pair_words 61 x) ∷ reader_kinds (suc r) xs rest

-- the kinds of `more` vertices from v on
abbrev pub vertex_kinds : ℕ → ℕ → List Kind → List Kind
vertex_kinds v zero rest = rest
vertex_kinds v (suc more) rest = Vertex v ∷ vertex_kinds (suc v) more rest

-- the kinds of the lines of a run, up to the end of the input
abbrev pub run_kinds : ℕ → List BatchText → List (List Reply) → List Kind
run_kinds n bs rs = Head ∷ Vertices n ∷ batch_kinds 0 0 bs (reader_kinds 0 rs (vertex_kinds 0 n (Close ∷ InputEnd ∷ [])))

-- each level has 16 bits
abbrev pub have_levels : List Reply → Bool
have_levels rs = list_all (λ r. nat_le r.level 65535) rs

-- a group line of phase p whose label is at least `low`
pub record GroupFits (n p low : ℕ) (g : GroupLine) : Type 0 where
  pub phase : g.phase ≡ p
  pub label : low ≤ g.label
  pub rises : is_group g.label g.members ≡ true
  pub below : are_below n g.members ≡ true
  pub levels : have_levels g.members ≡ true

-- group lines of phase p with ascending labels
abbrev pub GroupsFit : ℕ → ℕ → ℕ → List GroupLine → Type 0
GroupsFit n p low [] = Unit {0}
GroupsFit n p low (g ∷ gs) = GroupFits n p low g × GroupsFit n p (suc g.label) gs

-- the phases of a batch after phase p: none, one, or one that deletes and then one that inserts
abbrev pub PhasesFit : ℕ → ℕ → List PhaseText → Type 0
PhasesFit n p [] = Unit {0}
PhasesFit n p (x ∷ []) = GroupsFit n (suc p) 0 x.groups
PhasesFit n p (x ∷ y ∷ []) = (x.add ≡ false) × ((y.add ≡ true) × (GroupsFit n (suc p) 0 x.groups × GroupsFit n (suc (suc p)) 0 y.groups))
PhasesFit n p (x ∷ y ∷ z ∷ xs) = ⊥

-- the number of the last phase after these, if it was p before them
abbrev pub last_phase : ℕ → List PhaseText → ℕ
last_phase p [] = p
last_phase p (x ∷ xs) = last_phase (suc p) xs

abbrev pub BatchesFit : ℕ → ℕ → List BatchText → Type 0
BatchesFit n p [] = Unit {0}
BatchesFit n p (Took xs ∷ bs) = PhasesFit n p xs × BatchesFit n (last_phase p xs) bs
BatchesFit n p (Left ∷ bs) = BatchesFit n p bs

-- the replies of a reader
pub record ReaderFits (n : ℕ) (rs : List Reply) : Type 0 where
  pub some : 0 < length rs
  pub below : are_below n rs ≡ true
  pub levels : have_levels rs ≡ true

abbrev pub ReadersFit : ℕ → List (List Reply) → Type 0
ReadersFit n [] = Unit {0}
ReadersFit n (x ∷ xs) = ReaderFits n x × ReadersFit n xs

abbrev pub phase_groups : List PhaseText → List GroupLine
phase_groups [] = []
phase_groups (x ∷ xs) = x.groups ++ phase_groups xs

-- all group lines
abbrev pub batch_groups : List BatchText → List GroupLine
batch_groups [] = []
batch_groups (Took xs ∷ bs) = phase_groups xs ++ batch_groups bs
batch_groups (Left ∷ bs) = batch_groups bs

-- lines that have the kinds of a run and aren't skipped are read as this run
abbrev pub RunIsReadBack : Type 0
RunIsReadBack = (n : ℕ) (bs : List BatchText) (rs : List (List Reply)) (ls : List Line) → 1 ≤ n → n ≤ MAX_VERTICES → BatchesFit n 0 bs → length rs ≤ 64 → ReadersFit n rs
    → map (λ l. kind_of l.body) ls ≡ run_kinds n bs rs → document_of ls ≡ document.Accepted (record { vertices = n; groups = batch_groups bs; readers = rs })
