-- A step of a sweep: what its last call, the pass over all ranges, asks.
use Rattle.std.proofs.Common.{ℕ, ◌+◌, ◌-◌, ◌^◌, ◌≤◌, ◌<◌, ◌≡◌, inl, inr, Bool, true, cond, leb, eqb, ◌&&◌, List, [], length, get_or, refl, ap, sym, subst, ◌∙◌, arith}
use Rattle.std.specs.Prelude.{count_by}
use Rattle.std.proofs.lemmas.Bool.{cases_Bool, cases_eq, cases_lt, ltb-true, or_from, or_left, or_right, true≢false}
use Rattle.std.proofs.lemmas.List.{get_or_default, get_or_past, length-set}
use Rattle.std.proofs.lemmas.List.Sums.{count_by-le-length}
use Rattle.std.proofs.lemmas.Bool.Decides.{nat_tests}
use Rattle.kc_graph.specs.Numbers.{has_number}
use Rattle.kc_graph.specs.Shape.{GraphShape, IsGraph, Pair, has_edge, neighbours_of}
use Rattle.kc_graph.proofs.lemmas.Neighbours.{neighbour_below}
use Rattle.kc_levels.specs.declared.profile.Profile.{Profile}
use Rattle.kc_levels.specs.Thresholds.{top_level}
use Rattle.kc_insert.specs.private.Crossing.{Crossing, is_above, left_at}
use Rattle.kc_insert.specs.private.Parts.{CanRise}
use Rattle.kc_insert.specs.Ranges.{HasVertex, no_part, Part, range_of, Tell}
use Rattle.kc_insert.specs.private.Rising.{rises, seen}
use Rattle.kc_insert.specs.private.Sharing.{CanRiseAll, rise_told}
use Rattle.kc_insert.specs.private.Telling.{times}
use Rattle.kc_insert.specs.private.Watched.{count_at}
use Rattle.kc_insert.proofs.Members.{few_distinct}
use Rattle.kc_insert.proofs.Adding.{times_none}
use Rattle.kc_insert.proofs.Bounds.{degree_few, degrees_few}
use Rattle.kc_insert.proofs.Inside.{inside_ends}
use Rattle.kc_insert.proofs.Joined.{distinct_part, joined_of, pairs_of}
use Rattle.kc_insert.proofs.RoundBefore.{count_lifted, left, next_parts, old_count, told, went_parts}
use Rattle.kc_insert.proofs.RoundParts.{at_place, begun_in, count_in, HasLifted, held_back_lifted, held_lifted, long_stopped, long_lifted, meetings_lifted, Passage, queue_lifted, stay_in, steps_lifted}
use Rattle.kc_insert.proofs.RoundRising.{AreKeeping, begun_fresh, begun_here, left_here, move_of, goes, begins, stays, own_count, rises_lifted, seen_same, sized_parted, stay_few, vertex_in}
use Rattle.kc_insert.proofs.RoundTold.{left_none, left_told, met_on, more_told, second_step, stored_rising, stored_still, told_next, told_none}
use Rattle.kc_insert.proofs.Seen.{length-seen}
use Rattle.kc_insert.proofs.Tests.{and_second, count_none}

module _ (p : Profile) (g : GraphShape) (x : List ℕ) (r : Passage) (k : AreKeeping p g x r.width r.most r.level_count r.levels.old r.parts.old r.old_told) (h : HasLifted g r) (graph : IsGraph g) (small : r.levels.old.level < 65534) (few : g.vertices ≤ 2 ^ 24) (room : r.levels.old.level < top_level p g.vertices) (tops : r.level_count ≡ top_level p g.vertices + 1) where
  abbrev rise_step : Crossing
  rise_step = second_step p g x r k h graph small

  within : (i : ℕ) → i < length r.parts.lifted → i < length r.parts.old
  within i at = omega (arith, at, long_lifted g r h)

  -- a vertex leaves behind no more neighbours than it counts
  left_fits : (v : ℕ) → v < g.vertices → left p g x r k h graph small v ≤ count_in r.width r.parts.lifted v
  left_fits v at = elim (move_of p g x r k h v) [
    | goes on none ↦
        let up : rises r.levels.lifted v ≡ true = rises_lifted p g x r k h v ∙ or_left (rises r.levels.stopped v) (has_number v (begun_in r.parts.lifted)) on in
        let less = ap {B = ℕ} (λ b. cond b (count_by (λ u. has_number u (stay_in r.parts.stopped)) (neighbours_of v g.edges)) 0) on in
        omega (arith, left_told p g x r k h graph small v at up, count_lifted p g x r k h graph small v at, less, old_count p g x r k h graph small v r.levels.old.level at (left_here p g x r k h v on).1, went_parts p g x r k h graph small v on)
    | begins off new ↦
        let up : rises r.levels.lifted v ≡ true = rises_lifted p g x r k h v ∙ or_right (rises r.levels.stopped v) (has_number v (begun_in r.parts.lifted)) new in
        omega (arith, left_told p g x r k h graph small v at up, none_left v new)
    | stays off none ↦ omega (arith, left_none p g x r k h graph small v (rises_lifted p g x r k h v ∙ or_from (rises r.levels.stopped v) (has_number v (begun_in r.parts.lifted)) off none))
  ]
    where
      none_left : (v : ℕ) → has_number v (begun_in r.parts.lifted) ≡ true → count_by (λ u. has_edge (v, u) (met_on p g x r k h graph small r.levels.old.level) && eqb (get_or (seen r.levels.lifted) u 0) r.levels.old.level) (neighbours_of v g.edges) ≡ 0
      none_left v new = count_none (λ u. has_edge (v, u) (met_on p g x r k h graph small r.levels.old.level) && eqb (get_or (seen r.levels.lifted) u 0) r.levels.old.level) (neighbours_of v g.edges) (λ u there. elim (cases_Bool (has_edge (v, u) (met_on p g x r k h graph small r.levels.old.level))) [
        | inr none ↦ ap (λ b. b && eqb (get_or (seen r.levels.lifted) u 0) r.levels.old.level) none
        | inl edge ↦ absurd (true≢false (sym (k.sweeping.awaited.met r.levels.old.level v u (omega arith) edge).0 ∙ begun_fresh p g x r k h v new))
      ])

  -- a vertex hears of no more vertices than there are
  told_few : (v : ℕ) → told p g x r k h graph small v ≤ g.vertices
  told_few v = elim (cases_Bool (has_number v (rise_told rise_step r.parts.lifted))) [
    | inr none ↦ omega (arith, times_none v (rise_told rise_step r.parts.lifted) none)
    | inl there ↦
        let at = (told_next p g x r k h graph small v there).0 in
        elim (cases_eq (get_or (seen r.levels.old) v 0) (r.levels.old.level + 1)) [
          | inr off ↦ omega (arith, told_none p g x r k h graph small v at off)
          | inl next ↦ omega (
            arith,
            more_told p g x r k h graph small v,
            cond_few (eqb (get_or r.levels.lifted.stored v 0) (r.levels.old.level + 1)) (count_by (λ u. has_number u (begun_in r.parts.lifted)) (neighbours_of v g.edges)),
            next_parts p g x r k h graph small v at next,
            count_by-le-length (λ u. leb (r.levels.old.level + 1) (get_or (seen r.levels.lifted) u 0)) (neighbours_of v g.edges),
            degree_few g graph v,
          )
        ]
  ]
    where
      cond_few : (b : Bool) (n : ℕ) → cond b n 0 ≤ n
      cond_few b n = grind (arith, nat_tests)

  -- no count is greater than a degree
  count_few : (v : ℕ) → v < g.vertices → count_in r.width r.parts.lifted v ≤ g.vertices
  count_few v at = omega (
    arith,
    count_lifted p g x r k h graph small v at,
    old_count p g x r k h graph small v (get_or (seen r.levels.old) v 0) at refl,
    count_by-le-length (λ u. leb (get_or (seen r.levels.old) v 0) (get_or (seen r.levels.old) u 0)) (neighbours_of v g.edges),
    degree_few g graph v,
  )

  small_at : (i v : ℕ) → i < length r.parts.old → count_at (at_place r.parts.lifted i).watch v ≤ 2 ^ 24
  small_at i v at = grind (arith, nat_tests, cases_lt v (at_place r.parts.lifted i).watch.first, above, start)
    where
      start : (u : ℕ) → u < (at_place r.parts.lifted i).watch.first → u - (at_place r.parts.lifted i).watch.first ≡ (at_place r.parts.lifted i).watch.first - (at_place r.parts.lifted i).watch.first
      start u below = omega (arith, below)

      above : (u : ℕ) → (at_place r.parts.lifted i).watch.first ≤ u → count_at (at_place r.parts.lifted i).watch u ≤ 2 ^ 24
      above u from = grind (arith, nat_tests, get_or_past, own_count, held_back_lifted, count_few)

  -- one range
  module _ (i : ℕ) (at : i < length r.parts.old) where
    met_held : (l v w : ℕ) → r.levels.old.level ≤ l → has_edge (v, w) (get_or (at_place r.parts.lifted i).meetings l []) ≡ true → (v < g.vertices) × (w < g.vertices) × (range_of r.width v ≡ i) × HasVertex (at_place r.parts.lifted i).watch v
    met_held l v w from there =
        let was : has_edge (v, w) (get_or (at_place r.parts.old i).meetings l []) ≡ true = ap (λ (m : List (List Pair)). has_edge (v, w) (get_or m l [])) (sym (meetings_lifted g r h i at)) ∙ there in
        let held = k.rest.own i l v w at was in
        let own = own_count p g x r.width r.most r.level_count r.levels.old r.parts.old r.old_told k i v at held in
        let it = (k.sweeping.awaited.met l v w from (pairs_of (λ (q : Part). get_or q.meetings l []) r.parts.old (v, w) i at was)).1 in
        (own.0, neighbour_below g.vertices v w g.edges graph it.near, own.1, held_lifted g r h i at v held)

    begun_held : (v : ℕ) → has_number v (at_place r.parts.lifted i).begun ≡ true → (v < g.vertices) × HasVertex (at_place r.parts.lifted i).watch v
    begun_held v there =
        let own = h.lifted.own i v no_part (omega (arith, at, long_lifted g r h, h.lifted.sized)) there in
        let it = begun_here p g x r k h v (joined_of (λ (q : Part). q.begun) r.parts.lifted v i (omega (arith, at, long_lifted g r h)) there) in
        (it.0, held_lifted g r h i at v (subst (λ j. HasVertex (at_place r.parts.old j).watch v) own (vertex_in p g x r.width r.most r.level_count r.levels.old r.parts.old r.old_told k v it.0).1))

    enough : (v : ℕ) → times v (left_at rise_step (get_or (at_place r.parts.lifted i).meetings r.levels.old.level [])) ≤ count_at (at_place r.parts.lifted i).watch v
    enough v = elim (cases_Bool (has_number v (left_at rise_step (get_or (at_place r.parts.lifted i).meetings r.levels.old.level [])))) [
      | inr none ↦ omega (arith, times_none v (left_at rise_step (get_or (at_place r.parts.lifted i).meetings r.levels.old.level [])) none)
      | inl there ↦
          let own = inside_ends (λ u. (u < g.vertices) × (range_of r.width u ≡ i)) (λ (e : Pair). e.0) (λ (e : Pair). rises r.levels.lifted e.0 && eqb (get_or (seen r.levels.lifted) e.1 0) r.levels.old.level) (get_or (at_place r.parts.lifted i).meetings r.levels.old.level []) (λ u w edge. let it = met_held r.levels.old.level u w (omega arith) edge in (it.0, it.2)) v there in
          subst (λ j. times v (left_at rise_step (get_or (at_place r.parts.lifted j).meetings r.levels.old.level [])) ≤ count_at (at_place r.parts.lifted j).watch v) own.1 (left_fits v own.0)
    ]

    lists_are : length (at_place r.parts.lifted i).tell.lists ≡ length r.parts.old
    lists_are = ap (λ (q : Part). length q.tell.lists) (h.lifted.each i no_part (omega (arith, at, h.lifted.sized, long_lifted g r h))) ∙ h.parted.lists i no_part (omega (arith, at, long_stopped g r h)) ∙ long_stopped g r h

    ask_one : CanRise rise_step (at_place r.parts.lifted i)
    ask_one = record {
      met = λ v w there. let it = met_held r.levels.old.level v w (omega arith) there in (it.0, it.1, it.3);
      enough = enough;
      coming = λ v w there. let it = met_held (r.levels.old.level + 1) v w (omega arith) there in (it.0, it.1);
      begins = begun_held;
      few = omega (arith, few, few_distinct g.vertices (at_place r.parts.lifted i).begun (distinct_part (λ (q : Part). q.begun) r.parts.lifted i (omega (arith, at, long_lifted g r h)) h.lifted.distinct) (λ v there. (begun_held v there).0));
      steps = omega (arith, steps_lifted g r h i at, k.rest.steps i at, degrees_few g graph few (at_place r.parts.stopped i).stay (few_distinct g.vertices (at_place r.parts.stopped i).stay (distinct_part (λ (q : Part). q.stay) r.parts.stopped i (omega (arith, at, long_stopped g r h)) h.stopped.distinct) (λ v there. (stay_few p g x r k h v (joined_of (λ (q : Part). q.stay) r.parts.stopped v i (omega (arith, at, long_stopped g r h)) there)).2)));
      levels = omega (arith, ap (λ (m : List (List Pair)). length m) (meetings_lifted g r h i at), k.shape.meetings i at, tops, room);
      places = λ w above. omega (arith, ap (λ (m : List (List Pair)). length m) (meetings_lifted g r h i at), k.shape.meetings i at, tops, place w above);
      ranges = λ v inside_. omega (arith, (vertex_in p g x r.width r.most r.level_count r.levels.old r.parts.old r.old_told k v inside_).0, lists_are);
    }
      where
        place : (w : ℕ) → is_above rise_step w ≡ true → get_or r.levels.lifted.stored w 0 ≤ top_level p g.vertices
        place w above = elim (cases_lt w g.vertices) [
          | inr past ↦ omega (arith, get_or_past r.levels.lifted.stored w 0 (omega (arith, past, sized_parted p g x r k h, k.sweeping.placed.raising.sized, length-seen r.levels.lifted)))
          | inl in_ ↦ grind (arith, nat_tests, stored_rising, ltb-true, and_second, move_of, goes, true≢false, rises_lifted, or_left, begun_in, begins, or_right, stays, stored_still, seen_same, in_)
        ]

  pub ask_rise : (tells : List Tell) → length tells ≡ length r.parts.old → ((i : ℕ) (e : Tell) → i < length r.parts.old → length (get_or tells i e).lists ≡ length r.parts.old) → CanRiseAll rise_step r.parts.lifted tells
  ask_rise tells sized heard = record {
    told = sized ∙ sym (long_lifted g r h);
    heard = λ i e at. heard i e (within i at) ∙ sym (long_lifted g r h);
    each = λ i d at. subst (CanRise rise_step) (sym (get_or_default r.parts.lifted i d no_part at)) (ask_one i (within i at));
    lists = λ i d at. ap (λ (q : Part). length q.tell.lists) (get_or_default r.parts.lifted i d no_part at) ∙ lists_are i (within i at) ∙ sym (long_lifted g r h);
    held = λ v d there.
        let it = vertex_in p g x r.width r.most r.level_count r.levels.old r.parts.old r.old_told k v (told_next p g x r k h graph small v there).0 in
        (omega (arith, it.0, long_lifted g r h), subst (λ (q : Part). HasVertex q.watch v) (sym (get_or_default r.parts.lifted (range_of r.width v) d no_part (omega (arith, it.0, long_lifted g r h)))) (held_lifted g r h (range_of r.width v) it.0 v it.1));
    few = λ v. omega (arith, told_few v, few);
    small = λ j d v at. omega (arith, ap (λ (q : Part). count_at q.watch v) (get_or_default r.parts.lifted j d no_part at), small_at j v (within j at));
    degree = λ v. omega (arith, degree_few g graph v, few);
    room = λ j d at. omega (arith, ap (λ (q : Part). length q.queue) (get_or_default r.parts.lifted j d no_part at), ap (λ (q : List (List ℕ)). length q) (queue_lifted g r h j (within j at)), length-set (at_place r.parts.old j).queue r.levels.old.level [], k.shape.queues j (within j at), tops, room);
  }
