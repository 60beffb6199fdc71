-- A step of a sweep: what its calls ask, up to the vertices that begin.
use Rattle.std.proofs.Common.{ℕ, ◌+◌, ◌^◌, ◌≤◌, ◌<◌, ◌≡◌, inl, inr, Bool, true, false, cond, leb, not, List, [], length, get_or, filter, ap, sym, subst, ◌∙◌, arith}
use Rattle.std.specs.Prelude.{count_by}
use Rattle.std.specs.List.{flat_map}
use Rattle.std.proofs.lemmas.Bool.{and_right, cases_Bool, le-leb, true≢false}
use Rattle.std.proofs.lemmas.List.{get_or_default}
use Rattle.std.proofs.lemmas.Bool.Decides.{nat_tests}
use Rattle.kc_graph.specs.Numbers.{has_number}
use Rattle.kc_graph.specs.Shape.{GraphShape, IsGraph, neighbours_of}
use Rattle.kc_levels.specs.declared.profile.Profile.{Profile}
use Rattle.kc_levels.specs.LevelList.{at_least}
use Rattle.kc_levels.proofs.lemmas.AtLeast.{count_by-mono}
use Rattle.kc_insert.specs.declared.rising.RisingLevels.{RisingLevels}
use Rattle.kc_insert.specs.private.Crossing.{rising_near}
use Rattle.kc_insert.specs.private.Parts.{CanPart}
use Rattle.kc_insert.specs.Ranges.{HasVertex, IsIn, no_part, Part, range_of, Tell, Watch}
use Rattle.kc_insert.specs.private.Ranges.{AllLetStay, CanLetStay, CanLiftOff, is_over, TookWaiting}
use Rattle.kc_insert.specs.private.Rising.{all_at, rises, seen}
use Rattle.kc_insert.specs.private.Sharing.{CanPartAll}
use Rattle.kc_insert.specs.private.Sweeping.{sweeping_of}
use Rattle.kc_insert.specs.private.Watched.{count_at}
use Rattle.kc_insert.proofs.Adding.{times_rows}
use Rattle.kc_insert.proofs.Buckets.{has_number-filter}
use Rattle.kc_insert.proofs.Inside.{inside_rows, near_inside}
use Rattle.kc_insert.proofs.Joined.{distinct_part, joined_in}
use Rattle.kc_insert.proofs.Lifting.{length-all_at, all_at_other}
use Rattle.kc_insert.proofs.Members.{few_distinct}
use Rattle.kc_insert.proofs.RoundParts.{at_place, count_in, stay_in, step_at, waits_in}
use Rattle.kc_insert.proofs.RoundRising.{AreKeeping, began_at, began_in, cut_of, listed, own_count, vertex_in}
use Rattle.kc_insert.proofs.Stepping.{count_at_level, waits_here}
use Rattle.kc_insert.proofs.Tests.{and_first, and_on}

module _ (p : Profile) (g : GraphShape) (x : List ℕ) (width most levels : ℕ) (s0 : RisingLevels) (p0 : List Part) (t0 : List Tell) (k : AreKeeping p g x width most levels s0 p0 t0) where
  -- the vertices that wait are vertices
  pub ask_movers : (p1 : List Part) (t1 : List Tell) → TookWaiting s0.level p0 p1 → (v : ℕ) → has_number v (waits_in s0.level p0) ≡ true → IsIn (cut_of width p1 t1) v
  ask_movers p1 t1 took v there =
      let it = vertex_in p g x width most levels s0 p0 t0 k v (waits_here p g x (sweeping_of s0 (cut_of width p0 t0)) k.sweeping s0.level v (omega arith) there).0 in
      record {
        place = omega (arith, it.0, took.sized);
        held = subst (λ (q : Part). HasVertex q.watch v) (sym (took.each (range_of width v) no_part it.0)) it.1;
      }

  -- the watch lists have vertices of their own ranges
  pub ask_stay : (p1 : List Part) → TookWaiting s0.level p0 p1 → s0.level < 65535 → g.vertices ≤ 2 ^ 24 → CanLetStay s0 p1
  ask_stay p1 took small few = record {
    small = small;
    few = omega (arith, few, k.sweeping.placed.raising.sized);
    inside = λ j v d at there.
        let within : j < length p0 = omega (arith, at, took.sized) in
        let is = get_or_default p1 j d no_part at ∙ took.each j no_part within in
        let held = k.kept.inside j v within (ap (λ (q : Part). has_number v q.watch.doubtful) (sym is) ∙ there) in
        let own = k.shape.own j v within held in
        (omega (arith, own.0, k.sweeping.placed.raising.sized), subst (λ (q : Part). HasVertex q.watch v) (sym is) held);
  }

  -- after some vertices stopped
  module _ (p1 p2 : List Part) (s1 : RisingLevels) (took : TookWaiting s0.level p0 p1) (stopped : AllLetStay s0 s1 p1 p2) where
    long : length p2 ≡ length p0
    long = stopped.sized ∙ took.sized

    watch_is : (j : ℕ) → j < length p0 → (at_place p2 j).watch ≡ record (at_place p0 j).watch { doubtful = [] }
    watch_is j at = ap (λ (q : Part). q.watch) (stopped.each j no_part (omega (arith, at, took.sized))) ∙ ap (λ (q : Part). record q.watch { doubtful = [] }) (took.each j no_part at)

    stay_is : (j v : ℕ) → j < length p0 → has_number v (at_place p2 j).stay ≡ true → (rises s0 v ≡ true) × (v < g.vertices)
    stay_is j v at there = grind (arith, nat_tests, own_count, stopped.stays)

    stay_vertex : (v : ℕ) → has_number v (stay_in p2) ≡ true → (rises s0 v ≡ true) × (v < g.vertices)
    stay_vertex v there = let in_ = joined_in (λ (q : Part). q.stay) p2 v there in stay_is in_.0 v (omega (arith, in_.1, long)) in_.2

    pub was_rising : (v : ℕ) → rises s1 v ≡ true → rises s0 v ≡ true
    was_rising v on = and_first (rises s0 v) (not (has_number v (stay_in p2))) (sym (stopped.rises_on v) ∙ on)

    here : (v : ℕ) → rises s0 v ≡ true → get_or (seen s0) v 0 ≡ s0.level
    here v up = (k.sweeping.rise.came v (listed p g x width most levels s0 p0 t0 k v ∙ up)).1

    -- a vertex that goes on counts each neighbour that stays
    counts_stay : (v : ℕ) → v < g.vertices → rises s1 v ≡ true → count_by (λ u. has_number u (stay_in p2)) (neighbours_of v g.edges) ≤ count_in width p0 v
    unfolding at_least
    counts_stay v h on = omega (
      arith,
      count_by-mono (λ u. has_number u (stay_in p2)) (λ u. leb s0.level (get_or (seen s0) u 0)) (neighbours_of v g.edges) (λ u there. le-leb s0.level (get_or (seen s0) u 0) (omega (arith, here u (stay_vertex u there).0))),
      count_at_level p g x (sweeping_of s0 (cut_of width p0 t0)) k.sweeping v s0.level h (here v (was_rising v on)),
    )

    lists_are : (i : ℕ) → i < length p0 → length (at_place p2 i).tell.lists ≡ length p0
    lists_are i at = ap (λ (q : Part). length q.tell.lists) (stopped.each i no_part (omega (arith, at, took.sized)) ∙ ap (λ (q : Part). record q { watch = record q.watch { doubtful = [] }; stay = (at_place p2 i).stay }) (took.each i no_part at)) ∙ k.shape.tells i at

    pub ask_part : (tells : List Tell) (dealt : Bool) → IsGraph g → g.vertices ≤ 2 ^ 24 → length tells ≡ length p0 → ((i : ℕ) (e : Tell) → i < length p0 → length (get_or tells i e).lists ≡ length p0) → CanPartAll (step_at g s1 width s0.level dealt) p2 tells
    ask_part tells dealt graph few sized heard = record {
      told = sized ∙ sym long;
      heard = λ i e at. heard i e (omega (arith, at, long)) ∙ sym long;
      each = λ i d at. subst (CanPart (step_at g s1 width s0.level dealt)) (sym (get_or_default p2 i d no_part at)) (one i (omega (arith, at, long)));
      lists = λ i d at. ap (λ (q : Part). length q.tell.lists) (get_or_default p2 i d no_part at) ∙ lists_are i (omega (arith, at, long)) ∙ sym long;
      lessen = record {
        held = λ v d there.
            let it = vertex_in p g x width most levels s0 p0 t0 k v (inside v there) in
            (omega (arith, it.0, long), subst (λ (q : Part). HasVertex q.watch v) (sym (get_or_default p2 (range_of width v) d no_part (omega (arith, it.0, long)))) (held_on v (range_of width v) it.0 it.1));
        enough = λ v d there.
            let it = vertex_in p g x width most levels s0 p0 t0 k v (inside v there) in
            omega (
              arith,
              ap (λ (q : Part). count_at q.watch v) (get_or_default p2 (range_of width v) d no_part (omega (arith, it.0, long))),
              ap (λ (w : Watch). count_at w v) (watch_is (range_of width v) it.0),
              times_rows g graph (rises s1) v (stay_in p2) stopped.distinct,
              less v (inside v there),
            );
      };
    }
      where
        steps_are : (i : ℕ) → i < length p0 → (at_place p2 i).steps ≡ 0
        steps_are i at = ap (λ (q : Part). q.steps) (stopped.each i no_part (omega (arith, at, took.sized)) ∙ ap (λ (q : Part). record q { watch = record q.watch { doubtful = [] }; stay = (at_place p2 i).stay }) (took.each i no_part at)) ∙ k.rest.steps i at

        one : (i : ℕ) → i < length p0 → CanPart (step_at g s1 width s0.level dealt) (at_place p2 i)
        one i at = record {
          vertices = λ v there. (stay_is i v at there).1;
          few = omega (arith, few, few_distinct g.vertices (at_place p2 i).stay (distinct_part (λ (q : Part). q.stay) p2 i (omega (arith, at, long)) stopped.distinct) (λ v there. (stay_is i v at there).1));
          steps = omega (arith, steps_are i at);
          ranges = λ v h. omega (arith, (vertex_in p g x width most levels s0 p0 t0 k v h).0, lists_are i at);
        }

        inside : (v : ℕ) → has_number v (flat_map (rising_near (step_at g s1 width s0.level dealt)) (stay_in p2)) ≡ true → v < g.vertices
        inside = inside_rows (λ v. v < g.vertices) (rising_near (step_at g s1 width s0.level dealt)) (stay_in p2) (λ s v at near. near_inside g s v (rises s1) graph near)

        held_on : (v j : ℕ) → j < length p0 → HasVertex (at_place p0 j).watch v → HasVertex (at_place p2 j).watch v
        held_on v j at was = record {
          from = omega (arith, was.from, ap (λ (w : Watch). w.first) (watch_is j at));
          below = omega (arith, was.below, ap (λ (w : Watch). w.first) (watch_is j at), ap (λ (w : Watch). length w.counts) (watch_is j at));
        }

        less : (v : ℕ) → v < g.vertices → cond (rises s1 v) (count_by (λ u. has_number u (stay_in p2)) (neighbours_of v g.edges)) 0 ≤ count_in width p0 v
        less v h = grind (arith, nat_tests, counts_stay)

    -- the vertices that begin are on the level still
    pub ask_lift : (s2 : RisingLevels) (p3 : List Part) (starting : List ℕ) → length p3 ≡ length p0 → ((j : ℕ) → j < length p0 → (at_place p3 j).begun ≡ []) → s2.level ≡ s0.level + 1 → ((risers : List ℕ) → ((v : ℕ) → rises s1 v ≡ has_number v risers) → seen s2 ≡ all_at (seen s1) risers (s0.level + 1)) → starting ≡ filter (is_over (count_in width p1) most) (waits_in s0.level p0) → CanLiftOff s0.level s2 starting width p3
    ask_lift s2 p3 starting sized none on goes is = record {
      at = on;
      below = λ v there. omega (arith, (waits v there).0, k.sweeping.placed.raising.sized, ap (λ (y : List ℕ). length y) moved, length-all_at (seen s0) on_list (s0.level + 1));
      here = λ v there. ap (λ y. get_or y v 0) moved ∙ all_at_other (seen s0) on_list (s0.level + 1) v (sym (on_listed v) ∙ still v (waits v there).3) ∙ (waits v there).2;
      place = λ v there. omega (arith, (vertex_in p g x width most levels s0 p0 t0 k v (waits v there).0).0, sized);
      none = λ j d at. ap (λ (q : Part). q.begun) (get_or_default p3 j d no_part at) ∙ none j (omega (arith, at, sized));
    }
      where
        on_list : List ℕ
        on_list = filter (rises s1) (began_in p0)

        on_listed : (v : ℕ) → rises s1 v ≡ has_number v on_list
        on_listed v = sym (has_number-filter v (rises s1) (began_in p0) ∙ elim (cases_Bool (rises s1 v)) [
          | inl up ↦ and_on (has_number v (began_in p0)) (rises s1 v) (began_at p g x width most levels s0 p0 t0 k v (was_rising v up)).1
          | inr off ↦ and_right (has_number v (began_in p0)) (rises s1 v) off ∙ sym off
        ])

        moved : seen s2 ≡ all_at (seen s0) on_list (s0.level + 1)
        moved = goes on_list on_listed ∙ ap (λ y. all_at y on_list (s0.level + 1)) stopped.levels

        still : (v : ℕ) → rises s0 v ≡ false → rises s1 v ≡ false
        still v off = elim (cases_Bool (rises s1 v)) [ inr none_ ↦ none_ | inl up ↦ absurd (true≢false (sym (was_rising v up) ∙ off)) ]

        waits : (v : ℕ) → has_number v starting ≡ true → (v < g.vertices) × (get_or x v 0 ≡ s0.level) × (get_or (seen s0) v 0 ≡ s0.level) × (rises s0 v ≡ false)
        waits v there =
            let it = waits_here p g x (sweeping_of s0 (cut_of width p0 t0)) k.sweeping s0.level v (omega arith) (and_first (has_number v (waits_in s0.level p0)) (is_over (count_in width p1) most v) (sym (has_number-filter v (is_over (count_in width p1) most) (waits_in s0.level p0)) ∙ ap (has_number v) (sym is) ∙ there)) in
            (it.0, it.1, it.2, sym (listed p g x width most levels s0 p0 t0 k v) ∙ it.3)
