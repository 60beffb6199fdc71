-- Replies that group lines explain tell levels of their members, or 0.
use Rattle.std.proofs.Common.{ℕ, zero, suc, ◌≤◌, ◌≡◌, true, List, [], ◌∷◌, ◌++◌, take, set, get_or, replicate, refl, arith}
use Rattle.std.specs.Prelude.{nat_le, All}
use Rattle.std.proofs.lemmas.Bool.{and_from, and_parts, le-leb, leb-true}
use Rattle.std.proofs.lemmas.List.Elements.{All-nil, All-cons, All-append, All-head, All-tail}
use Rattle.std.proofs.lemmas.Bool.Decides.{nat_tests}
use Rattle.kc_history.specs.declared.replies.Reply.{Reply}
use Rattle.kc_history.specs.Points.{with_moves, levels_after}
use Rattle.kc_history.specs.Replies.{AreExplained}
use Rattle.kc_audit.specs.declared.groups.GroupLine.{GroupLine}
use Rattle.kc_audit.specs.Runs.{moves_of, history_of}
use Rattle.kc_audit.specs.ReadBack.{PhaseText, BatchText, Took, Left, have_levels, GroupsFit, PhasesFit, BatchesFit, last_phase, phase_groups, batch_groups}

abbrev pub HaveLevels : GroupLine → Type 0
HaveLevels g = have_levels g.members ≡ true

-- each level has 16 bits
abbrev AreLow : List ℕ → Type 0
AreLow x = (v : ℕ) → get_or x v 0 ≤ 65535

set_low : (x : List ℕ) (i level : ℕ) → AreLow x → level ≤ 65535 → AreLow (set x i level)
set_low [] i level low here = low
set_low (l ∷ ls) zero level low here = λ v. elim v as (λ u. get_or (level ∷ ls) u 0 ≤ 65535) [ zero ↦ here | suc u ↦ low (suc u) ]
set_low (l ∷ ls) (suc i) level low here =
    let rest = set_low ls i level (λ u. low (suc u)) here in
    λ v. elim v as (λ u. get_or (l ∷ set ls i level) u 0 ≤ 65535) [ zero ↦ low 0 | suc u ↦ rest u ]

moves_low : (ms : List Reply) (x : List ℕ) → AreLow x → have_levels ms ≡ true → AreLow (with_moves x (moves_of ms))
moves_low [] x low h = low
moves_low (m ∷ ms) x low h =
    let p = and_parts (nat_le m.level 65535) (have_levels ms) h in
    moves_low ms (set x m.vertex m.level) (set_low x m.vertex m.level low (leb-true m.level 65535 p.0)) p.1

after_low : (gs : List GroupLine) (p : ℕ) (x : List ℕ) → AreLow x → All HaveLevels gs → AreLow (levels_after x (take p (history_of gs)))
after_low gs zero x low h = low
after_low [] (suc p) x low h = low
after_low (g ∷ gs) (suc p) x low h = after_low gs p (with_moves x (moves_of g.members)) (moves_low g.members x low (All-head HaveLevels g gs h)) (All-tail HaveLevels g gs h)

zeros_low : (n : ℕ) → AreLow (replicate n 0)
zeros_low zero = λ v. omega arith
zeros_low (suc n) = λ v. elim v as (λ u. get_or (0 ∷ replicate n 0) u 0 ≤ 65535) [ zero ↦ omega arith | suc u ↦ zeros_low n u ]

pub reply_levels : (n : ℕ) (gs : List GroupLine) (from : ℕ) (rs : List Reply) → All HaveLevels gs → AreExplained n (history_of gs) from rs → have_levels rs ≡ true
reply_levels n gs from [] h e = refl
reply_levels n gs from (r ∷ rs) h e = grind (arith, nat_tests, reply_levels n gs e.0 rs h e.1.1.1, after_low, zeros_low, and_from, le-leb, e.0, e.1.1.0.level, e.1.1.1)

-- the levels of the members of a run that fits have 16 bits
groups_low : (n p low : ℕ) (gs : List GroupLine) → GroupsFit n p low gs → All HaveLevels gs
groups_low n p low [] f = All-nil HaveLevels
groups_low n p low (g ∷ gs) f = All-cons HaveLevels g gs f.0.levels (groups_low n p (suc g.label) gs f.1)

phases_low : (n p : ℕ) (xs : List PhaseText) → PhasesFit n p xs → All HaveLevels (phase_groups xs)
phases_low n p [] f = All-nil HaveLevels
phases_low n p (x ∷ []) f = All-append HaveLevels x.groups [] (groups_low n (suc p) 0 x.groups f) (All-nil HaveLevels)
phases_low n p (x ∷ y ∷ []) f =
    All-append HaveLevels x.groups (y.groups ++ []) (groups_low n (suc p) 0 x.groups f.1.1.0) (All-append HaveLevels y.groups [] (groups_low n (suc (suc p)) 0 y.groups f.1.1.1) (All-nil HaveLevels))
phases_low n p (x ∷ y ∷ z ∷ xs) f = absurd f

pub batches_low : (n p : ℕ) (bs : List BatchText) → BatchesFit n p bs → All HaveLevels (batch_groups bs)
batches_low n p [] f = All-nil HaveLevels
batches_low n p (Took xs ∷ bs) f = All-append HaveLevels (phase_groups xs) (batch_groups bs) (phases_low n p xs f.0) (batches_low n (last_phase p xs) bs f.1)
batches_low n p (Left ∷ bs) f = batches_low n p bs f
