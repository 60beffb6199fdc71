-- How a sweep begins, goes on to the next level where a vertex waits, and ends.
use Rattle.std.proofs.Common.{ℕ, ◌≤◌, ◌<◌, ◌≡◌, true, List, [], length, ap, sym, ◌∙◌, arith}
use Rattle.std.proofs.lemmas.Bool.{true≢false}
use Rattle.std.proofs.lemmas.Bool.Decides.{nat_tests}
use Rattle.kc_graph.specs.Numbers.{has_number}
use Rattle.kc_graph.specs.Shape.{GraphShape, Pair, IsGraph}
use Rattle.kc_levels.specs.declared.profile.Profile.{Profile}
use Rattle.kc_levels.specs.Thresholds.{top_level}
use Rattle.kc_levels.specs.LevelList.{IsCapped, IsRaised}
use Rattle.kc_levels.proofs.lemmas.Raising.{raising_first, raising_done, top_meets_upper}
use Rattle.kc_insert.specs.private.Sweeping.{AreCounted, IsFirst, IsPaid, IsQueued, IsSweeping, Sweeping}
use Rattle.kc_insert.proofs.Efforts.{effort_none}

sweeping_first : (p : Profile) (g : GraphShape) (x y : List ℕ) (count : ℕ → ℕ) (rising risen : List ℕ) (waits : ℕ → List ℕ) (meets : ℕ → List Pair) → length x ≡ g.vertices → IsCapped p g.vertices x → y ≡ x → AreCounted g x count → IsQueued p g x waits → rising ≡ [] → risen ≡ [] → ((k : ℕ) → meets k ≡ []) → IsSweeping p g x (record { level = 0; levels = y; count = count; rising = rising; risen = risen; waits = waits; meets = meets })
sweeping_first p g x y count rising risen waits meets long capped same counted q none none_yet empty = grind (arith, nat_tests, raising_first, true≢false, q.waiting, q.found)

-- the sweep is put on the lowest level
pub sweeping_starts : (p : Profile) (g : GraphShape) (x : List ℕ) (s : Sweeping) → IsFirst p g x s → IsSweeping p g x (record s { level = 0 })
sweeping_starts p g x s f = sweeping_first p g x s.levels s.count s.rising s.risen s.waits s.meets f.sized f.capped f.levels f.counted f.queued f.none.0 f.none.1 f.none.2

paid_first : (g : GraphShape) (x y : List ℕ) (count : ℕ → ℕ) (rising risen : List ℕ) (waits : ℕ → List ℕ) (meets : ℕ → List Pair) (now : ℕ) → y ≡ x → rising ≡ [] → risen ≡ [] → IsPaid g x (record { level = 0; levels = y; count = count; rising = rising; risen = risen; waits = waits; meets = meets }) now now
paid_first g x y count rising risen waits meets now same none none_yet = rw (same, none, none_yet) (omega (arith, effort_none g x g.vertices))

pub paid_starts : (p : Profile) (g : GraphShape) (x : List ℕ) (s : Sweeping) (now : ℕ) → IsFirst p g x s → IsPaid g x (record s { level = 0 }) now now
paid_starts p g x s now f = paid_first g x s.levels s.count s.rising s.risen s.waits s.meets now f.levels f.none.0 f.none.1

-- if no vertex rises, and none waits on the level and on those that follow up to another level, the sweep is at that level
pub sweeping_on : (p : Profile) (g : GraphShape) (x : List ℕ) (s : Sweeping) (k : ℕ) → s.rising ≡ [] → s.level ≤ k → ((j : ℕ) → s.level ≤ j → j < k → s.waits j ≡ []) → IsSweeping p g x s → IsSweeping p g x (record s { level = k })
sweeping_on p g x s k none le bare i = record {
  placed = record { start = i.placed.start; raising = i.placed.raising; stood = λ v at off. i.placed.stood v (omega (arith, at, le)) off };
  rise = record { came = λ v there. absurd (nobody v there); distinct = i.rise.distinct; moved = i.rise.moved; once = i.rise.once };
  awaited = record {
    counted = i.awaited.counted;
    waiting = λ j v at there. i.awaited.waiting j v (omega (arith, at, le)) there;
    found = λ v h. grind (arith, nat_tests, i.awaited.found v h, nobody, true≢false, i.awaited.found);
    met = λ j v w at there. i.awaited.met j v w (omega (arith, at, le)) there;
    each = λ j v w at rose it. i.awaited.each j v w (omega (arith, at, le)) rose it;
    apart = λ j at. i.awaited.apart j (omega (arith, at, le));
  };
}
  where
    nobody : (v : ℕ) → has_number v s.rising ≡ true → ⊥
    nobody v there = true≢false (sym there ∙ ap (has_number v) none)

-- at the top no vertex breaks the upper invariant
pub sweeping_last : (p : Profile) (g : GraphShape) (x : List ℕ) (s : Sweeping) → IsGraph g → top_level p g.vertices ≤ s.level → IsSweeping p g x s → IsRaised p g x s.levels
sweeping_last p g x s graph end i = grind (arith, nat_tests, raising_done, top_meets_upper, i.placed.raising, i.awaited.found, i.rise.came, i.placed.raising.capped)
