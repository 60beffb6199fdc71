-- What is stated of a sweep depends on what its tests say alone.
use Rattle.std.proofs.Common.{ℕ, ◌≡◌, List, ap, sym, ◌∙◌, subst, arith}
use Rattle.std.proofs.lemmas.Bool.Decides.{nat_tests}
use Rattle.kc_graph.specs.Numbers.{has_number}
use Rattle.kc_graph.specs.Shape.{GraphShape, Pair, has_edge}
use Rattle.kc_levels.specs.declared.profile.Profile.{Profile}
use Rattle.kc_insert.specs.private.Meetings.{AreApart}
use Rattle.kc_insert.specs.private.Sweeping.{IsPaid, IsSame, IsSweeping, Sweeping}

-- the counts, waiting vertices and meetings are given by other functions of the same values
pub sweeping_as : (p : Profile) (g : GraphShape) (x : List ℕ) (s : Sweeping) (count : ℕ → ℕ) (waits : ℕ → List ℕ) (meets : ℕ → List Pair) → ((v : ℕ) → count v ≡ s.count v) → ((k : ℕ) → waits k ≡ s.waits k) → ((k : ℕ) → meets k ≡ s.meets k) → IsSweeping p g x s → IsSweeping p g x (record s { count = count; waits = waits; meets = meets })
sweeping_as p g x s count waits meets counted waiting met i = record {
  placed = record { start = i.placed.start; raising = i.placed.raising; stood = i.placed.stood };
  rise = record { came = i.rise.came; distinct = i.rise.distinct; moved = i.rise.moved; once = i.rise.once };
  awaited = record {
    counted = λ v h. counted v ∙ i.awaited.counted v h;
    waiting = λ k v at there. i.awaited.waiting k v at (ap (has_number v) (sym (waiting k)) ∙ there);
    found = λ v h. grind (arith, nat_tests, i.awaited.found v h, i.awaited.found);
    met = λ k v w at there. i.awaited.met k v w at (ap (has_edge (v, w)) (sym (met k)) ∙ there);
    each = λ k v w at rose it. ap (has_edge (v, w)) (met k) ∙ i.awaited.each k v w at rose it;
    apart = λ k at. subst AreApart (sym (met k)) (i.awaited.apart k at);
  };
}

renamed : (p : Profile) (g : GraphShape) (x : List ℕ) (l l' : ℕ) (y y' : List ℕ) (count : ℕ → ℕ) (us us' vs vs' : List ℕ) (waits : ℕ → List ℕ) (meets : ℕ → List Pair) → l' ≡ l → y' ≡ y → us' ≡ us → vs' ≡ vs → IsSweeping p g x (record { level = l; levels = y; count = count; rising = us; risen = vs; waits = waits; meets = meets }) → IsSweeping p g x (record { level = l'; levels = y'; count = count; rising = us'; risen = vs'; waits = waits; meets = meets })
renamed p g x l l' y y' count us us' vs vs' waits meets e f a b i = rw (e, f, a, b) i

pub same_sweeping : (p : Profile) (g : GraphShape) (x : List ℕ) (s t : Sweeping) → IsSame s t → IsSweeping p g x s → IsSweeping p g x t
same_sweeping p g x s t same i = renamed p g x s.level t.level s.levels t.levels t.count s.rising t.rising s.risen t.risen t.waits t.meets same.level same.levels same.lists.0 same.lists.1 (sweeping_as p g x s t.count t.waits t.meets same.count same.waits same.meets i)

repaid : (g : GraphShape) (x : List ℕ) (l l' : ℕ) (y y' : List ℕ) (count count' : ℕ → ℕ) (us us' vs vs' : List ℕ) (waits waits' : ℕ → List ℕ) (meets meets' : ℕ → List Pair) (first now : ℕ) → y' ≡ y → us' ≡ us → vs' ≡ vs → IsPaid g x (record { level = l; levels = y; count = count; rising = us; risen = vs; waits = waits; meets = meets }) first now → IsPaid g x (record { level = l'; levels = y'; count = count'; rising = us'; risen = vs'; waits = waits'; meets = meets' }) first now
repaid g x l l' y y' count count' us us' vs vs' waits waits' meets meets' first now e a b paid = rw (e, a, b) paid

pub same_paid : (g : GraphShape) (x : List ℕ) (s t : Sweeping) (first now : ℕ) → IsSame s t → IsPaid g x s first now → IsPaid g x t first now
same_paid g x s t first now same paid = repaid g x s.level t.level s.levels t.levels s.count t.count s.rising t.rising s.risen t.risen s.waits t.waits s.meets t.meets first now same.levels same.lists.0 same.lists.1 paid
