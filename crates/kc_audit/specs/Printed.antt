-- The lines of a run by their words as they are printed, and the kinds that these lines have.
use Rattle.std.specs.Prelude.{ℕ, ◌≡◌, ◌<◌, ◌≤◌, ◌^◌, Bool, true, false, List, [], ◌∷◌, length, codes, decimal, if◌then◌else◌}
use Rattle.std.specs.List.{list_all}
use Rattle.kc_graph.specs.declared.limits.TheConstants.{MAX_VERTICES}
use Rattle.kc_text.specs.declared.reason.Reason.{Reason}
use Rattle.kc_text.specs.declared.reason.Reason.TheVariants as reason
use Rattle.kc_text.specs.Printing.{is_word, is_line, printed}
use Rattle.kc_text.specs.Reasons.{reason_word}
use Rattle.kc_text.specs.Words.{is_skip}
use Rattle.kc_history.specs.declared.replies.Reply.{Reply}
use Rattle.kc_audit.specs.Kinds.{Kind, Head, Vertices, Accepted, Refused, Phase, Group, Reader, Vertex, Close, InputEnd, kind_of_words}
use Rattle.kc_audit.specs.Documents.{document_in}
use Rattle.kc_audit.specs.Documents as document
use Rattle.kc_audit.specs.ReadBack.{pair_words, BatchText, BatchesFit, ReadersFit, batch_groups, run_kinds}

abbrev pub IsSmall : ℕ → Type 0
IsSmall n = n < 2 ^ 32

-- numbers that can be printed in pairs
abbrev pub AreSmall : List Reply → Type 0
AreSmall [] = Unit {0}
AreSmall (r ∷ rs) = (IsSmall r.vertex × IsSmall r.level) × AreSmall rs

-- these are the words of a line that isn't skipped, and the line is of this kind
pub record Says (ws : List (List ℕ)) (k : Kind) : Type 0 where
  pub words : list_all is_word ws ≡ true
  pub kept : is_skip ws ≡ false
  pub kind : kind_of_words ws ≡ k

abbrev pub IsRefusedReason : Reason → Type 0
IsRefusedReason reason.Header = ⊥
IsRefusedReason _ = Unit {0}

abbrev pub direction_word : Bool → List ℕ
direction_word add = if add then codes "insert" else codes "delete"

-- the first two lines of a run and its last line have their kinds
pub record FrameSaysKinds : Type 0 where
  pub head : Says (codes "kcore-run" ∷ codes "1" ∷ []) Head
  pub vertices : (n : ℕ) → IsSmall n → Says (codes "vertices" ∷ decimal n ∷ []) (Vertices n)
  pub end : Says (codes "end" ∷ []) Close

-- the lines of batches, of phases and of groups have their kinds
pub record BatchesSayKinds : Type 0 where
  pub accepted : (t a b c d i : ℕ) → IsSmall t → IsSmall a → IsSmall b → IsSmall c → IsSmall d → IsSmall i
      → Says (codes "batch" ∷ decimal t ∷ codes "loops" ∷ decimal a ∷ codes "repeats" ∷ decimal b ∷ codes "idle" ∷ decimal c ∷ codes "removed" ∷ decimal d ∷ codes "added" ∷ decimal i ∷ []) (Accepted t)
  pub refused : (t n : ℕ) (r : Reason) → IsSmall t → IsSmall n → IsRefusedReason r
      → Says (codes "batch" ∷ decimal t ∷ codes "refused" ∷ codes "line" ∷ decimal n ∷ reason_word r ∷ []) (Refused t)
  pub phase : (p e : ℕ) (add : Bool) → IsSmall p → IsSmall e → Says (codes "phase" ∷ decimal p ∷ direction_word add ∷ codes "quiet" ∷ decimal e ∷ []) (Phase p add)
  pub group : (p label : ℕ) (ms : List Reply) → IsSmall p → IsSmall label → AreSmall ms
      → Says (codes "group" ∷ decimal p ∷ decimal label ∷ pair_words 58 ms) (Group p label (pair_words 58 ms))

-- the lines of readers and of vertices have their kinds
pub record LevelsSayKinds : Type 0 where
  pub reader : (r : ℕ) (rs : List Reply) → IsSmall r → AreSmall rs → Says (codes "reader" ∷ decimal r ∷ pair_words 61 rs) (Reader r (pair_words 61 rs))
  pub vertex : (v l e lo hi u d : ℕ) → IsSmall v → IsSmall l → IsSmall e → IsSmall lo → IsSmall hi → IsSmall u → IsSmall d
      → Says (codes "vertex" ∷ decimal v ∷ codes "level" ∷ decimal l ∷ codes "est" ∷ decimal e ∷ codes "low" ∷ decimal lo ∷ codes "high" ∷ decimal hi ∷ codes "up" ∷ decimal u ∷ codes "down" ∷ decimal d ∷ []) (Vertex v)

-- each line of a run has its kind
pub record LinesSayKinds : Type 0 where
  pub frame : FrameSaysKinds
  pub batches : BatchesSayKinds
  pub levels : LevelsSayKinds

-- lines of words have these kinds, and the input ends after the lines
abbrev pub SayAll : List (List (List ℕ)) → List Kind → Type 0
SayAll [] [] = ⊥
SayAll [] (k ∷ []) = k ≡ InputEnd
SayAll [] (k ∷ j ∷ ks) = ⊥
SayAll (ws ∷ ls) [] = ⊥
SayAll (ws ∷ ls) (k ∷ ks) = Says ws k × SayAll ls ks

-- the printed lines of a run are read as this run, if they are within the limits of a line and of the input
abbrev pub PrintedRunIsReadBack : Type 0
PrintedRunIsReadBack = (limit room n : ℕ) (bs : List BatchText) (rs : List (List Reply)) (ls : List (List (List ℕ))) → 1 ≤ n → n ≤ MAX_VERTICES → BatchesFit n 0 bs → length rs ≤ 64 → ReadersFit n rs
    → SayAll ls (run_kinds n bs rs) → list_all (is_line limit) ls ≡ true → length (printed ls) ≤ room
    → document_in limit room (printed ls) ≡ document.Accepted (record { vertices = n; groups = batch_groups bs; readers = rs })
