-- Levels after moves.
use Rattle.std.proofs.Common.{ℕ, zero, suc, ◌+◌, ◌<◌, ◌≡◌, ◌≢◌, List, [], ◌∷◌, length, take, drop, get_or, set, refl, ap, sym, ◌∙◌, arith, get_or-set_other}
use Rattle.std.specs.Prelude.{All, IfSome, slice_get}
use Rattle.std.proofs.lemmas.Option.{slice_get-get_or}
use Rattle.std.proofs.lemmas.List.{drop_more, take_more}
use Rattle.std.proofs.lemmas.List.Elements.{All-head, All-tail}
use Rattle.kc_history.specs.declared.replies.Reply.{Reply}
use Rattle.kc_history.specs.declared.entries.Entry.{Entry}
use Rattle.kc_history.specs.Points.{with_moves, levels_at}
use Rattle.kc_history.proofs.lemmas.Points.{levels_after-append}
use Rattle.kc_audit.specs.declared.groups.GroupLine.{GroupLine}
use Rattle.kc_audit.specs.Runs.{moves_of, entry_of, history_of}

pub moves_more : (xs : List ℕ) (ms : List Reply) (i : ℕ) (d : Reply) → i < length ms
    → with_moves xs (moves_of (drop i ms)) ≡ with_moves (set xs (get_or ms i d).vertex (get_or ms i d).level) (moves_of (drop (i + 1) ms))
moves_more xs ms i d h = rw (drop_more ms i d h) refl

-- a vertex that no member names keeps its level
pub moves_other : (xs : List ℕ) (ms : List Reply) (v : ℕ) → All (λ m. m.vertex ≢ v) ms → get_or (with_moves xs (moves_of ms)) v 0 ≡ get_or xs v 0
moves_other xs [] v h = refl
moves_other xs (m ∷ ms) v h =
    let ne : v ≢ m.vertex = λ e. All-head (λ (r : Reply). r.vertex ≢ v) m ms h (sym e) in
    moves_other (set xs m.vertex m.level) ms v (All-tail (λ (r : Reply). r.vertex ≢ v) m ms h) ∙ get_or-set_other xs m.vertex v m.level 0 ne

pub length-history : (groups : List GroupLine) → length (history_of groups) ≡ length groups
length-history [] = refl
length-history (g ∷ gs) = ap suc (length-history gs)

entry_at : (groups : List GroupLine) (p : ℕ) (d : Entry) (g : GroupLine) → p < length groups → get_or (history_of groups) p d ≡ entry_of (get_or groups p g)
entry_at [] p d g h = absurd (omega (arith, h))
entry_at (x ∷ gs) zero d g h = refl
entry_at (x ∷ gs) (suc p) d g h = entry_at gs p d g (omega (arith, h))

-- the levels at the next point are those after the moves of its group line
pub levels_next : (n : ℕ) (groups : List GroupLine) (p : ℕ) (g : GroupLine) → p < length groups
    → levels_at n (history_of groups) (p + 1) ≡ with_moves (levels_at n (history_of groups) p) (moves_of (get_or groups p g).members)
levels_next n groups p g h =
    let inside : p < length (history_of groups) = omega (arith, h, length-history groups) in
    rw (take_more (history_of groups) p (entry_of g) inside, entry_at groups p (entry_of g) g h)
    (levels_after-append _ (take p (history_of groups)) (entry_of (get_or groups p g) ∷ []))

-- no group line, for places where there is none
pub no_line : GroupLine
no_line = record { phase = 0; label = 0; members = [] }

-- the members of line p, where a slice was told to be those
pub members_at : (groups : List GroupLine) (p : ℕ) (ms : List Reply) → p < length groups → IfSome (slice_get groups p) (λ line. ms ≡ line.members) → ms ≡ (get_or groups p no_line).members
members_at groups p ms lt e = rw (slice_get-get_or groups p no_line lt) at e
