-- Group lines whose members stand in one list.
use Rattle.std.proofs.Common.{ℕ, zero, suc, ◌+◌, ◌-◌, ◌≤◌, ◌<◌, ◌≡◌, List, [], ◌∷◌, ◌++◌, length, take, drop, get_or, refl, ap, ◌∙◌, arith}
use Rattle.std.specs.Prelude.{Some, slice_get}
use Rattle.std.specs.List.{slice_range}
use Rattle.std.proofs.lemmas.List.{take-append-le, drop-append-le, take_all}
use Rattle.std.proofs.Math.Seq.{drop-append_seam}
use Rattle.std.proofs.lemmas.Bool.Decides.{nat_tests}
use Rattle.kc_history.specs.declared.replies.Reply.{Reply}
use Rattle.kc_audit.specs.declared.flat.Head.{Head}
use Rattle.kc_audit.specs.Flat.{lines_from, EndFrom}
use Rattle.kc_audit.specs.private.Flat.{start_of}

pub length-lines : (from : ℕ) (hs : List Head) (ms : List Reply) → length (lines_from from hs ms) ≡ length hs
length-lines from [] ms = refl
length-lines from (h ∷ hs) ms = ap suc (length-lines h.end hs ms)

pub end_above : (from : ℕ) (hs : List Head) (end : ℕ) → EndFrom from hs end → from ≤ end
end_above from [] end e = omega (arith, e)
end_above from (h ∷ hs) end e = omega (arith, e.0, end_above h.end hs end e.1)

-- line i by its head
pub line_at : (from : ℕ) (hs : List Head) (ms : List Reply) (i : ℕ) (d : Head) → i < length hs
    → slice_get (lines_from from hs ms) i ≡ Some (record { phase = (get_or hs i d).phase; label = (get_or hs i d).label; members = slice_range ms (start_of from hs i) (get_or hs i d).end })
line_at from [] ms i d h = absurd (omega (arith, h))
line_at from (x ∷ hs) ms zero d h = refl
line_at from (x ∷ hs) ms (suc i) d h = line_at x.end hs ms i d (omega (arith, h))

-- the members of line i lie inside
pub record LiesInside (start end all : ℕ) : Type 0 where
  pub rising : start ≤ end
  pub within : end ≤ all

pub lies_inside : (from : ℕ) (hs : List Head) (all i : ℕ) (d : Head) → EndFrom from hs all → i < length hs → LiesInside (start_of from hs i) (get_or hs i d).end all
lies_inside from [] all i d e h = absurd (omega (arith, h))
lies_inside from (x ∷ hs) all zero d e h = record { rising = e.0; within = end_above x.end hs all e.1 }
lies_inside from (x ∷ hs) all (suc i) d e h = lies_inside x.end hs all i d e.1 (omega (arith, h))

start_next : (from : ℕ) (hs : List Head) (i : ℕ) (d : Head) → i < length hs → start_of from hs (suc i) ≡ (get_or hs i d).end
start_next from [] i d h = absurd (omega (arith, h))
start_next from (x ∷ []) zero d h = refl
start_next from (x ∷ y ∷ hs) zero d h = refl
start_next from (x ∷ hs) (suc i) d h = start_next x.end hs i d (omega (arith, h))

-- the first line begins at the start, and each other one where the one before it ends
pub start_first : (from : ℕ) (hs : List Head) (i : ℕ) → i ≡ 0 → start_of from hs i ≡ from
start_first from [] i e = refl
start_first from (x ∷ hs) i e = rw e refl

pub start_after : (from : ℕ) (hs : List Head) (i : ℕ) (d : Head) → 0 < i → i < length hs → start_of from hs i ≡ (get_or hs (i - 1) d).end
start_after from hs zero d some h = absurd (omega (arith, some))
start_after from hs (suc i) d some h =
    let e : suc i - 1 ≡ i = omega arith in
    rw e (start_next from hs i d (omega (arith, h)))

range_front : (ms new : List Reply) (from to : ℕ) → from ≤ to → to ≤ length ms → slice_range (ms ++ new) from to ≡ slice_range ms from to
range_front ms new from to a b =
    ap (λ (xs : List Reply). take (to - from) xs) (drop-append-le from ms new (omega (arith, a, b)))
    ∙ take-append-le (to - from) (drop from ms) new (omega (arith, a, b, length-dropped))
  where
    length-dropped : length (drop from ms) ≡ length ms - from
    length-dropped = Rattle.std.proofs.lemmas.List.length-drop from ms

range_back : (ms new : List Reply) (from to : ℕ) → from ≡ length ms → to ≡ length ms + length new → slice_range (ms ++ new) from to ≡ new
range_back ms new from to a b = grind (arith, nat_tests, drop-append_seam, take_all)

-- a line at the end
pub lines_push : (from : ℕ) (hs : List Head) (ms : List Reply) (h : Head) (new : List Reply) → EndFrom from hs (length ms) → h.end ≡ length ms + length new
    → lines_from from (hs ++ h ∷ []) (ms ++ new) ≡ lines_from from hs ms ++ record { phase = h.phase; label = h.label; members = new } ∷ []
lines_push from [] ms h new e to = ap (λ (m : List Reply). record { phase = h.phase; label = h.label; members = m } ∷ []) (range_back ms new from h.end e to)
lines_push from (x ∷ hs) ms h new e to = grind (arith, nat_tests, lines_push x.end hs ms h new e.1 to, range_front, end_above, e.0, e.1)

pub end_push : (from : ℕ) (hs : List Head) (all : ℕ) (h : Head) (end : ℕ) → EndFrom from hs all → all ≤ h.end → h.end ≡ end → EndFrom from (hs ++ h ∷ []) end
end_push from [] all h end e a b = (omega (arith, e, a), b)
end_push from (x ∷ hs) all h end e a b = (e.0, end_push x.end hs all h end e.1 a b)
