-- How the sweep of a phase begins, and what is left of it.
use Rattle.std.proofs.Common.{ℕ, suc, replicate, ◌+◌, ◌≤◌, ◌<◌, ◌≡◌, true, false, List, [], ◌∷◌, ◌++◌, length, get_or, filter, refl, ap, sym, subst, ◌∙◌, arith}
use Rattle.std.specs.List.{flat_map}
use Rattle.std.proofs.lemmas.Bool.{true≢false}
use Rattle.std.proofs.lemmas.Bool.Decides.{nat_tests}
use Rattle.std.proofs.lemmas.List.{get_or_default, get_or_past, length-replicate}
use Rattle.std.specs.Prelude.{All}
use Rattle.kc_graph.specs.Numbers.{has_number}
use Rattle.kc_graph.specs.Shape.{GraphShape, IsGraph, has_edge}
use Rattle.kc_levels.specs.declared.profile.Profile.{Profile}
use Rattle.kc_levels.specs.LevelList.{IsCapped, IsRaised}
use Rattle.kc_levels.specs.Thresholds.{top_level}
use Rattle.kc_adj.specs.Degrees.{degrees}
use Rattle.kc_adj.proofs.lemmas.Lists.{empty_list}
use Rattle.kc_insert.specs.Effort.{effort}
use Rattle.kc_insert.specs.declared.rising.RisingLevels.{RisingLevels}
use Rattle.kc_insert.specs.private.LevelStep.{AreInOrder}
use Rattle.kc_insert.specs.Ranges.{all_began, all_risen, AreQuiet, Cut, HasVertex, meets, no_part, Part, part_at, range_of, Tell, waits, Watch}
use Rattle.kc_insert.specs.private.Ranges.{count_of}
use Rattle.kc_insert.specs.private.Rising.{all_at, rises, seen}
use Rattle.kc_insert.specs.private.Sweeping.{AreCounted, IsPaid, IsQueued, IsSame, IsSweeping, sweeping_of}
use Rattle.kc_insert.proofs.Joined.{joined_of, pairs_of}
use Rattle.kc_insert.proofs.Kept.{kept_at, kept_listed}
use Rattle.kc_insert.proofs.Staying.{nobody_rises}
use Rattle.kc_insert.proofs.SweepSame.{same_paid, same_sweeping}
use Rattle.kc_insert.proofs.Sweeps.{paid_starts, sweeping_last, sweeping_starts}

-- no level that there is stands for a vertex that rises
pub none_rises : (p : Profile) (n : ℕ) (s : RisingLevels) → length s.stored ≡ n → IsCapped p n s.stored → top_level p n < 65535 → (v : ℕ) → rises s v ≡ false
unfolding rises
none_rises p n s long capped small v = grind (arith, nat_tests, get_or_past)

-- a sweep begins with the levels that stand in the list, and goes to level 0
module _ (p : Profile) (g : GraphShape) (s t : RisingLevels) (r : Cut) (quiet : AreQuiet p g r) (long : length s.stored ≡ g.vertices) (capped : IsCapped p g.vertices s.stored) (tops : top_level p g.vertices < 65535) (on : t.level ≡ 0) (same : (v : ℕ) → rises t v ≡ rises s v) (goes : (risers : List ℕ) → ((v : ℕ) → rises s v ≡ has_number v risers) → seen t ≡ all_at (seen s) risers 0) where
  nobody : (v : ℕ) → rises s v ≡ false
  nobody v = none_rises p g.vertices s long capped tops v

  levels_are : seen t ≡ s.stored
  levels_are = goes [] (λ v. nobody v) ∙ sym (nobody_rises s nobody)

  none_began : (j v : ℕ) → j < length r.parts → has_number v (part_at r j).began ≡ true → ⊥
  none_began j v at there = true≢false (sym (joined_of (λ (q : Part). q.began) r.parts v j at there) ∙ ap (has_number v) quiet.none.0)

  pub starts_order : AreInOrder p g t r
  starts_order = record {
    shape = quiet.shape;
    kept = record {
      began = λ v up. absurd (true≢false (sym up ∙ same v ∙ nobody v));
      own = λ j v at there. absurd (none_began j v at there);
      risen = λ j v at there. absurd (none_began j v at there);
      few = λ v up low. absurd (true≢false (sym up ∙ same v ∙ nobody v));
      inside = quiet.inside;
    };
    rest = record {
      own = λ j k v w at there. absurd (true≢false (sym (pairs_of (λ (q : Part). get_or q.meetings k []) r.parts (v, w) j at there) ∙ ap (has_edge (v, w)) (quiet.none.2 k)));
      begun = quiet.begun;
      steps = quiet.steps;
    };
  }

  module _ (counted : AreCounted g s.stored (count_of r)) (queued : IsQueued p g s.stored (waits r)) where
    first : IsSame (record (sweeping_of t r) { level = 0 }) (sweeping_of t r)
    first = record { level = on; levels = refl; count = λ v. refl; lists = (refl, refl); waits = λ k. refl; meets = λ k. refl }

    pub starts_sweeping : IsSweeping p g s.stored (sweeping_of t r)
    starts_sweeping = same_sweeping p g s.stored (record (sweeping_of t r) { level = 0 }) (sweeping_of t r) first (sweeping_starts p g s.stored (sweeping_of t r) (record { sized = long; capped = capped; levels = levels_are; counted = counted; queued = queued; none = (ap (filter (rises t)) quiet.none.0, quiet.none.1, quiet.none.2) }))

    pub starts_paid : (now : ℕ) → IsPaid g s.stored (sweeping_of t r) now now
    starts_paid now = same_paid g s.stored (record (sweeping_of t r) { level = 0 }) (sweeping_of t r) now now first (paid_starts p g s.stored (sweeping_of t r) now (record { sized = long; capped = capped; levels = levels_are; counted = counted; queued = queued; none = (ap (filter (rises t)) quiet.none.0, quiet.none.1, quiet.none.2) }))

-- a sweep ends at the top
module _ (p : Profile) (g : GraphShape) (x : List ℕ) (s : RisingLevels) (r : Cut) (graph : IsGraph g) (order : AreInOrder p g s r) (i : IsSweeping p g x (sweeping_of s r)) where
  pub ends_raised : top_level p g.vertices ≤ s.level → IsRaised p g x (seen s)
  ends_raised end = sweeping_last p g x (sweeping_of s r) graph end i

  pub ends_paid : (start now : ℕ) → IsPaid g x (sweeping_of s r) start now → now + (degrees g (all_risen r) + length (all_risen r)) ≤ start + effort g x (seen s) g.vertices
  ends_paid start now paid = omega (arith, paid)

  -- a vertex that rises is on a level that there is
  pub ends_small : (v : ℕ) → rises s v ≡ true → s.level ≤ top_level p g.vertices
  ends_small v up = let came = i.rise.came v (kept_listed s r order.kept v ∙ up) in omega (arith, came.1, i.placed.raising.capped v came.0)

  -- the vertices that are kept have levels, and each that rises is kept
  pub ends_inside : (j v : ℕ) (d : Part) → j < length r.parts → has_number v (get_or r.parts j d).began ≡ true → v < length (seen s)
  ends_inside j v d at there = omega (arith, (order.shape.own j v at (order.kept.own j v at (ap (λ (q : Part). has_number v q.began) (sym (get_or_default r.parts j d no_part at)) ∙ there))).0, i.placed.raising.sized)

  pub ends_began : (v : ℕ) → rises s v ≡ true → has_number v (all_began r) ≡ true
  ends_began v up = (kept_at s r order.kept v up).1

empty_lists : {A : Type 0} (f : Part → List A) (ps : List Part) → ((j : ℕ) → j < length ps → f (get_or ps j no_part) ≡ []) → flat_map f ps ≡ []
empty_lists f [] each = refl
empty_lists f (q ∷ qs) each = ap (λ ys. ys ++ flat_map f qs) (each 0 (omega arith)) ∙ empty_lists f qs (λ j at. each (suc j) (omega (arith, at)))

-- nothing is left of a phase once all ranges forgot it
module _ (p : Profile) (g : GraphShape) (s : RisingLevels) (r t : Cut) (order : AreInOrder p g s r) (sized : length t.parts ≡ length r.parts) (forgot : (j : ℕ) (d : Part) → j < length r.parts → get_or t.parts j d ≡ record (get_or r.parts j d) { began = []; risen = []; queue = replicate (length (get_or r.parts j d).queue) []; meetings = replicate (length (get_or r.parts j d).meetings) [] }) (width : t.width ≡ r.width) (told : t.told ≡ r.told) where
  forgot_at : (j : ℕ) → j < length t.parts → part_at t j ≡ record (part_at r j) { began = []; risen = []; queue = replicate (length (part_at r j).queue) []; meetings = replicate (length (part_at r j).meetings) [] }
  forgot_at j at = forgot j no_part (omega (arith, at, sized))

  within : (j : ℕ) → j < length t.parts → j < length r.parts
  within j at = omega (arith, at, sized)

  watch_same : (j : ℕ) → j < length t.parts → (part_at t j).watch ≡ (part_at r j).watch
  watch_same j at = ap (λ (q : Part). q.watch) (forgot_at j at)

  range_same : (v : ℕ) → range_of t.width v ≡ range_of r.width v
  range_same v = ap (λ b. range_of b v) width

  pub forgot_count : (v : ℕ) → count_of t v ≡ count_of r v
  forgot_count v = grind (arith, nat_tests, range_same, watch_same, get_or_past)

  pub forgot_waits : (k : ℕ) → waits t k ≡ []
  forgot_waits k = empty_lists (λ (q : Part). get_or q.queue k []) t.parts (λ j at. ap (λ (q : Part). get_or q.queue k []) (forgot_at j at) ∙ empty_list (length (part_at r j).queue) k)

  pub forgot_meets : (k : ℕ) → meets t k ≡ []
  forgot_meets k = empty_lists (λ (q : Part). get_or q.meetings k []) t.parts (λ j at. ap (λ (q : Part). get_or q.meetings k []) (forgot_at j at) ∙ empty_list (length (part_at r j).meetings) k)

  pub forgot_quiet : AreQuiet p g t
  forgot_quiet = record {
    shape = record {
      wide = omega (arith, order.shape.wide, width);
      vertex = λ v h.
          let it = order.shape.vertex v h in
          let at : range_of r.width v < length t.parts = omega (arith, it.place, sized) in
          record {
            place = omega (arith, at, range_same v);
            held = subst (λ j. HasVertex (part_at t j).watch v) (sym (range_same v)) (subst (λ w. HasVertex w v) (sym (watch_same (range_of r.width v) at)) it.held);
          };
      own = λ j v at held. let it = order.shape.own j v (within j at) (subst (λ w. HasVertex w v) (watch_same j at) held) in (it.0, range_same v ∙ it.1);
      queues = λ j at. ap (λ (q : Part). length q.queue) (forgot_at j at) ∙ length-replicate (length (part_at r j).queue) [] ∙ order.shape.queues j (within j at);
      meetings = λ j at. ap (λ (q : Part). length q.meetings) (forgot_at j at) ∙ length-replicate (length (part_at r j).meetings) [] ∙ order.shape.meetings j (within j at);
      tells = λ j at. ap (λ (q : Part). length q.tell.lists) (forgot_at j at) ∙ order.shape.tells j (within j at) ∙ sym sized;
      told = (
        ap (λ (ts : List Tell). length ts) told ∙ order.shape.told.0 ∙ sym sized,
        λ j d at. ap (λ (ts : List Tell). length (get_or ts j d).lists) told ∙ order.shape.told.1 j d (within j at) ∙ sym sized,
      );
    };
    none = (
      empty_lists (λ (q : Part). q.began) t.parts (λ j at. ap (λ (q : Part). q.began) (forgot_at j at)),
      empty_lists (λ (q : Part). q.risen) t.parts (λ j at. ap (λ (q : Part). q.risen) (forgot_at j at)),
      forgot_meets,
    );
    begun = λ j at. ap (λ (q : Part). q.begun) (forgot_at j at) ∙ order.rest.begun j (within j at);
    steps = λ j at. ap (λ (q : Part). q.steps) (forgot_at j at) ∙ order.rest.steps j (within j at);
    inside = λ j v at there. subst (λ w. HasVertex w v) (sym (watch_same j at)) (order.kept.inside j v (within j at) (ap (λ (w : Watch). has_number v w.doubtful) (sym (watch_same j at)) ∙ there));
  }

-- each range has a list for each level
pub queues_long : (p : Profile) (g : GraphShape) (s : RisingLevels) (r : Cut) (l : ℕ) → AreInOrder p g s r → l ≤ top_level p g.vertices + 1 → All (λ (q : Part). l ≤ length q.queue) r.parts
queues_long p g s r l order le j d at = subst (λ (q : Part). l ≤ length q.queue) (get_or_default r.parts j no_part d at) (omega (arith, le, order.shape.queues j at))

pub queues_same : (p : Profile) (g : GraphShape) (s : RisingLevels) (r : Cut) → AreInOrder p g s r → All (λ (q : Part). length q.queue ≡ top_level p g.vertices + 1) r.parts
queues_same p g s r order j d at = subst (λ (q : Part). length q.queue ≡ top_level p g.vertices + 1) (get_or_default r.parts j no_part d at) (order.shape.queues j at)

-- a graph that has a vertex has a range
pub some_range : (p : Profile) (g : GraphShape) (s : RisingLevels) (r : Cut) → AreInOrder p g s r → 0 < g.vertices → 0 < length r.parts
some_range p g s r order some = omega (arith, (order.shape.vertex 0 some).place)

-- no vertex rises any more
pub stopped_order : (p : Profile) (g : GraphShape) (s t : RisingLevels) (r : Cut) → ((v : ℕ) → rises t v ≡ false) → AreInOrder p g s r → AreInOrder p g t r
stopped_order p g s t r none order = record {
  shape = order.shape;
  kept = record {
    began = λ v up. absurd (true≢false (sym up ∙ none v));
    own = order.kept.own;
    risen = order.kept.risen;
    few = λ v up low. absurd (true≢false (sym up ∙ none v));
    inside = order.kept.inside;
  };
  rest = order.rest;
}
