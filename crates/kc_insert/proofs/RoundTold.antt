-- A step of a sweep: what is told of a vertex, as counts over its neighbours.
use Rattle.std.proofs.Common.{ℕ, ◌+◌, ◌<◌, ◌≡◌, ◌≢◌, inl, inr, true, false, cond, leb, ltb, eqb, ◌&&◌, List, [], ◌++◌, length, get_or, ap, sym, ◌∙◌, arith, subst}
use Rattle.std.specs.Prelude.{count_by}
use Rattle.std.specs.List.{flat_map}
use Rattle.std.proofs.lemmas.Bool.{cases_Bool, eqb-true, le-leb, le-ltb, lt-leb, lt-ltb, ne_eqb, or_from, or_left, or_right, true≢false}
use Rattle.std.proofs.lemmas.Bool.Decides.{nat_tests}
use Rattle.kc_graph.specs.Numbers.{has_number}
use Rattle.kc_graph.specs.Shape.{GraphShape, Pair, IsGraph, neighbours_of, has_edge}
use Rattle.kc_graph.proofs.lemmas.Neighbours.{neighbour_below, neighbours_both, neighbours_rise}
use Rattle.kc_levels.specs.declared.profile.Profile.{Profile}
use Rattle.kc_insert.specs.declared.rising.RisingLevels.{RisingLevels}
use Rattle.kc_insert.specs.private.Crossing.{Crossing, left_at, met_by, next_near, rising_near}
use Rattle.kc_insert.specs.private.Meetings.{AreApart}
use Rattle.kc_insert.specs.Ranges.{Part, range_of}
use Rattle.kc_insert.specs.private.Rising.{rises, seen}
use Rattle.kc_insert.specs.private.Sharing.{rise_told}
use Rattle.kc_insert.specs.private.Telling.{times}
use Rattle.kc_insert.proofs.Adding.{times_rows}
use Rattle.kc_insert.proofs.Tests.{count_agree, and_first, and_second, count_none, firsts_none}
use Rattle.kc_insert.proofs.Buckets.{has_number-filter}
use Rattle.kc_insert.proofs.Inside.{inside_both, inside_ends, inside_rows}
use Rattle.kc_insert.proofs.Joined.{apart_part, joined_ends, joined_in, joined_rows, joined_same, pairs_in, pairs_of, times_joined}
use Rattle.kc_insert.proofs.Pairs.{times_firsts, times_seconds}
use Rattle.kc_insert.proofs.RoundLifted.{before_step}
use Rattle.kc_insert.proofs.RoundParts.{at_place, begun_in, HasLifted, long_lifted, meetings_lifted, Passage, place_of, stay_in, step_at}
use Rattle.kc_insert.proofs.RoundRising.{AreKeeping, move_of, goes, begins, stays, own_count, rises_lifted, seen_begun, seen_on, seen_same, sized_parted, vertex_in}
use Rattle.kc_insert.proofs.Seen.{stored_at}
use Rattle.kc_insert.proofs.Stepping.{off_level, stood_above}

-- what stands in the list for a vertex that rises
rising_stored : (s : RisingLevels) (v : ℕ) → rises s v ≡ true → get_or s.stored v 0 ≡ 65535
unfolding rises
rising_stored s v up = grind (arith, nat_tests, up)

module _ (p : Profile) (g : GraphShape) (x : List ℕ) (r : Passage) (k : AreKeeping p g x r.width r.most r.level_count r.levels.old r.parts.old r.old_told) (h : HasLifted g r) (graph : IsGraph g) (small : r.levels.old.level < 65534) where
  abbrev pub near : ℕ → List ℕ
  near v = neighbours_of v g.edges

  abbrev pub met_on : ℕ → List Pair
  met_on j = (before_step r).meets j

  abbrev pub second_step : Crossing
  second_step = step_at g r.levels.lifted r.width r.levels.old.level r.more

  -- what stands in the list afterwards
  pub stored_rising : (v : ℕ) → rises r.levels.lifted v ≡ true → get_or r.levels.lifted.stored v 0 ≡ 65535
  stored_rising v up = rising_stored r.levels.lifted v up

  pub stored_still : (v : ℕ) → v < g.vertices → rises r.levels.lifted v ≡ false → get_or r.levels.lifted.stored v 0 ≡ get_or (seen r.levels.lifted) v 0
  stored_still v at none = sym (stored_at r.levels.lifted v (omega (arith, at, sized_parted p g x r k h, k.sweeping.placed.raising.sized)) none)

  pub on_next : (v : ℕ) → rises r.levels.lifted v ≡ true → get_or (seen r.levels.lifted) v 0 ≡ r.levels.old.level + 1
  on_next v up = elim (move_of p g x r k h v) [
    | goes on none ↦ seen_on p g x r k h v on
    | begins off new ↦ seen_begun p g x r k h v new
    | stays off none ↦ absurd (true≢false (sym up ∙ rises_lifted p g x r k h v ∙ or_from (rises r.levels.stopped v) (has_number v (begun_in r.parts.lifted)) off none))
  ]

  -- a vertex is above the level if what stands for it in the list is
  pub above_is : (u : ℕ) → u < g.vertices → ltb r.levels.old.level (get_or r.levels.lifted.stored u 0) ≡ leb (r.levels.old.level + 1) (get_or (seen r.levels.lifted) u 0)
  above_is u at = grind (arith, nat_tests, lt-ltb, stored_rising, le-leb, on_next, stored_still, le-ltb, lt-leb)

  -- a vertex that goes on hears of each neighbour that stays
  pub less_told : (v : ℕ) → times v (flat_map (rising_near (step_at g r.levels.stopped r.width r.levels.old.level r.less)) (stay_in r.parts.stopped)) ≡ cond (rises r.levels.stopped v) (count_by (λ u. has_number u (stay_in r.parts.stopped)) (near v)) 0
  less_told v = times_rows g graph (rises r.levels.stopped) v (stay_in r.parts.stopped) h.stopped.distinct

  -- the meetings of a range on the level
  abbrev own_met : ℕ → List Pair
  own_met v = get_or (place_of r.width r.parts.lifted v).meetings r.levels.old.level []

  own_met_is : (v : ℕ) → v < g.vertices → own_met v ≡ get_or (place_of r.width r.parts.old v).meetings r.levels.old.level []
  own_met_is v at = ap (λ (m : List (List Pair)). get_or m r.levels.old.level []) (meetings_lifted g r h (range_of r.width v) (vertex_in p g x r.width r.most r.level_count r.levels.old r.parts.old r.old_told k v at).0)

  -- the meetings of v are in its range
  met_own : (v u : ℕ) → v < g.vertices → has_edge (v, u) (own_met v) ≡ has_edge (v, u) (met_on r.levels.old.level)
  met_own v u at = ap (has_edge (v, u)) (own_met_is v at) ∙ elim (cases_Bool (has_edge (v, u) (met_on r.levels.old.level))) [
    | inl there ↦ grind (arith, nat_tests, pairs_in, own_count, at_place, there)
    | inr none ↦ elim (cases_Bool (has_edge (v, u) (get_or (place_of r.width r.parts.old v).meetings r.levels.old.level []))) [
      | inr gone ↦ gone ∙ sym none
      | inl here ↦ absurd (true≢false (sym (pairs_of (λ (q : Part). get_or q.meetings r.levels.old.level []) r.parts.old (v, u) (range_of r.width v) (vertex_in p g x r.width r.most r.level_count r.levels.old r.parts.old r.old_told k v at).0 here) ∙ none))
    ]
  ]

  own_apart : (v : ℕ) → v < g.vertices → AreApart (own_met v)
  own_apart v at = subst AreApart (sym (own_met_is v at)) (apart_part (λ (q : Part). get_or q.meetings r.levels.old.level []) r.parts.old (range_of r.width v) (vertex_in p g x r.width r.most r.level_count r.levels.old r.parts.old r.old_told k v at).0 (k.sweeping.awaited.apart r.levels.old.level (omega arith)))

  -- a vertex that rises leaves behind each neighbour that it met and that stays
  pub left_told : (v : ℕ) → v < g.vertices → rises r.levels.lifted v ≡ true → times v (left_at second_step (own_met v)) ≡ count_by (λ u. has_edge (v, u) (met_on r.levels.old.level) && eqb (get_or (seen r.levels.lifted) u 0) r.levels.old.level) (near v)
  left_told v at up =
      times_firsts (rises r.levels.lifted) (λ u. eqb (get_or (seen r.levels.lifted) u 0) r.levels.old.level) v 0 (near v) (neighbours_rise g.vertices v g.edges graph) up (own_met v) (own_apart v at) (λ u there. (k.sweeping.awaited.met r.levels.old.level v u (omega arith) (sym (met_own v u at) ∙ there)).1.near)
      ∙ count_agree (λ u. has_edge (v, u) (own_met v) && eqb (get_or (seen r.levels.lifted) u 0) r.levels.old.level) (λ u. has_edge (v, u) (met_on r.levels.old.level) && eqb (get_or (seen r.levels.lifted) u 0) r.levels.old.level) (near v) (λ u there. ap (λ b. b && eqb (get_or (seen r.levels.lifted) u 0) r.levels.old.level) (met_own v u at))

  pub left_none : (v : ℕ) → rises r.levels.lifted v ≡ false → times v (left_at second_step (own_met v)) ≡ 0
  left_none v none = firsts_none (rises r.levels.lifted) (λ (e : Pair). eqb (get_or (seen r.levels.lifted) e.1 0) r.levels.old.level) v (own_met v) none

  -- a vertex on the next level hears of each neighbour that it is met by, and of each that begins
  met_next : flat_map (λ (q : Part). get_or q.meetings (r.levels.old.level + 1) []) r.parts.lifted ≡ met_on (r.levels.old.level + 1)
  met_next = joined_same (λ (q : Part). get_or q.meetings (r.levels.old.level + 1) []) (λ (q : Part). get_or q.meetings (r.levels.old.level + 1) []) r.parts.lifted r.parts.old (long_lifted g r h) (λ j at. ap (λ (m : List (List Pair)). get_or m (r.levels.old.level + 1) []) (meetings_lifted g r h j at))

  told_parts : (v : ℕ) → times v (rise_told second_step r.parts.lifted) ≡ times v (met_by second_step (met_on (r.levels.old.level + 1))) + times v (flat_map (next_near second_step) (begun_in r.parts.lifted))
  told_parts v =
      times_joined v (λ (q : Part). met_by second_step (get_or q.meetings (r.levels.old.level + 1) [])) (λ (q : Part). flat_map (next_near second_step) q.begun) r.parts.lifted
      ∙ ap (λ xs. times v xs + times v (flat_map (λ (q : Part). flat_map (next_near second_step) q.begun) r.parts.lifted)) (sym (joined_ends (λ (e : Pair). e.1) (λ (e : Pair). rises r.levels.lifted e.0) (λ (q : Part). get_or q.meetings (r.levels.old.level + 1) []) r.parts.lifted) ∙ ap (met_by second_step) met_next)
      ∙ ap (λ xs. times v (met_by second_step (met_on (r.levels.old.level + 1))) + times v xs) (sym (joined_rows (next_near second_step) (λ (q : Part). q.begun) r.parts.lifted))

  pub more_told : (v : ℕ) → times v (rise_told second_step r.parts.lifted) ≡ count_by (λ u. has_edge (u, v) (met_on (r.levels.old.level + 1)) && rises r.levels.lifted u) (near v) + cond (eqb (get_or r.levels.lifted.stored v 0) (r.levels.old.level + 1)) (count_by (λ u. has_number u (begun_in r.parts.lifted)) (near v)) 0
  more_told v =
      told_parts v
      ∙ ap (λ n. n + times v (flat_map (next_near second_step) (begun_in r.parts.lifted))) (times_seconds (rises r.levels.lifted) v 0 (near v) (neighbours_rise g.vertices v g.edges graph) (met_on (r.levels.old.level + 1)) (k.sweeping.awaited.apart (r.levels.old.level + 1) (omega arith)) (λ u there. neighbours_both v u g.edges ∙ (k.sweeping.awaited.met (r.levels.old.level + 1) u v (omega arith) there).1.near))
      ∙ ap (λ n. count_by (λ u. has_edge (u, v) (met_on (r.levels.old.level + 1)) && rises r.levels.lifted u) (near v) + n) (times_rows g graph (λ w. eqb (get_or r.levels.lifted.stored w 0) (r.levels.old.level + 1)) v (begun_in r.parts.lifted) h.lifted.distinct)

  -- no other vertex hears of any
  pub told_none : (v : ℕ) → v < g.vertices → get_or (seen r.levels.old) v 0 ≢ r.levels.old.level + 1 → times v (rise_told second_step r.parts.lifted) ≡ 0
  told_none v at off = more_told v ∙ sum_zero _ _ no_met no_near
    where
      sum_zero : (a b : ℕ) → a ≡ 0 → b ≡ 0 → a + b ≡ 0
      sum_zero a b e f = omega (arith, e, f)

      no_met : count_by (λ u. has_edge (u, v) (met_on (r.levels.old.level + 1)) && rises r.levels.lifted u) (near v) ≡ 0
      no_met = count_none (λ u. has_edge (u, v) (met_on (r.levels.old.level + 1)) && rises r.levels.lifted u) (near v) (λ u there. elim (cases_Bool (has_edge (u, v) (met_on (r.levels.old.level + 1)))) [
        | inr none ↦ ap (λ b. b && rises r.levels.lifted u) none
        | inl edge ↦
            let was = (k.sweeping.awaited.met (r.levels.old.level + 1) u v (omega arith) edge).1.level in
            absurd (off ((stood_above p g x (before_step r) k.sweeping v (omega (arith, was))).1 ∙ was))
      ])

      not_there : get_or r.levels.lifted.stored v 0 ≢ r.levels.old.level + 1
      not_there e = grind (arith, nat_tests, stored_rising, move_of, goes, true≢false, rises_lifted, or_left, begun_in, begins, or_right, stays, seen_same, stored_still)

      no_near : cond (eqb (get_or r.levels.lifted.stored v 0) (r.levels.old.level + 1)) (count_by (λ u. has_number u (begun_in r.parts.lifted)) (near v)) 0 ≡ 0
      no_near = ap (λ b. cond b (count_by (λ u. has_number u (begun_in r.parts.lifted)) (near v)) 0) (ne_eqb (get_or r.levels.lifted.stored v 0) (r.levels.old.level + 1) not_there)

  -- a vertex that doesn't rise and is above the level stands where it stood
  pub above_stood : (w j : ℕ) → w < g.vertices → r.levels.old.level < j → j < 65535 → get_or r.levels.lifted.stored w 0 ≡ j → get_or x w 0 ≡ j
  above_stood w j at above low on = grind (arith, nat_tests, cases_Bool (rises r.levels.lifted w), stored_rising, move_of, goes, true≢false, rises_lifted, or_left, begun_in, begins, or_right, stays, seen_same, stored_still, off_level)

  abbrev pub IsNext : ℕ → Type 0
  IsNext w = (w < g.vertices) × (get_or x w 0 ≡ r.levels.old.level + 1)

  -- each vertex that is told of others stood on the next level
  pub told_next : (w : ℕ) → has_number w (rise_told second_step r.parts.lifted) ≡ true → IsNext w
  told_next w there =
      let in_ = joined_in (λ (q : Part). met_by second_step (get_or q.meetings (r.levels.old.level + 1) []) ++ flat_map (next_near second_step) q.begun) r.parts.lifted w there in
      inside_both IsNext (met_by second_step (get_or (at_place r.parts.lifted in_.0).meetings (r.levels.old.level + 1) [])) (flat_map (next_near second_step) (at_place r.parts.lifted in_.0).begun)
      (inside_ends IsNext (λ (e : Pair). e.1) (λ (e : Pair). rises r.levels.lifted e.0) (get_or (at_place r.parts.lifted in_.0).meetings (r.levels.old.level + 1) []) (λ v u edge. met in_.0 in_.1 v u edge))
      (inside_rows IsNext (next_near second_step) (at_place r.parts.lifted in_.0).begun (λ v u new near_u. begun v u near_u))
      w in_.2
    where
      met : (j : ℕ) → j < length r.parts.lifted → (v u : ℕ) → has_edge (v, u) (get_or (at_place r.parts.lifted j).meetings (r.levels.old.level + 1) []) ≡ true → IsNext u
      met j at v u edge =
          let within : j < length r.parts.old = omega (arith, at, long_lifted g r h) in
          let was : has_edge (v, u) (get_or (at_place r.parts.old j).meetings (r.levels.old.level + 1) []) ≡ true = ap (λ (m : List (List Pair)). has_edge (v, u) (get_or m (r.levels.old.level + 1) [])) (sym (meetings_lifted g r h j within)) ∙ edge in
          let it = (k.sweeping.awaited.met (r.levels.old.level + 1) v u (omega arith) (pairs_of (λ (q : Part). get_or q.meetings (r.levels.old.level + 1) []) r.parts.old (v, u) j within was)).1 in
          (neighbour_below g.vertices v u g.edges graph it.near, it.level)

      begun : (v u : ℕ) → has_number u (next_near second_step v) ≡ true → IsNext u
      begun v u near_u =
          let both = sym (has_number-filter u (λ w. eqb (get_or r.levels.lifted.stored w 0) (r.levels.old.level + 1)) (neighbours_of v g.edges)) ∙ near_u in
          let below = neighbour_below g.vertices v u g.edges graph (and_first (has_number u (neighbours_of v g.edges)) (eqb (get_or r.levels.lifted.stored u 0) (r.levels.old.level + 1)) both) in
          let on = eqb-true (get_or r.levels.lifted.stored u 0) (r.levels.old.level + 1) (and_second (has_number u (neighbours_of v g.edges)) (eqb (get_or r.levels.lifted.stored u 0) (r.levels.old.level + 1)) both) in
          (below, above_stood u (r.levels.old.level + 1) below (omega arith) (omega (arith, small)) on)
