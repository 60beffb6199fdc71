-- A step of a sweep: how the neighbours that a vertex counts are those that it counted and those that it hears of.
use Rattle.std.proofs.Common.{ℕ, ◌+◌, ◌<◌, ◌≡◌, ◌≢◌, inl, inr, Bool, true, false, cond, leb, eqb, ◌&&◌, List, [], length, get_or, ap, sym, ◌∙◌, arith}
use Rattle.std.specs.Prelude.{count_by}
use Rattle.std.proofs.lemmas.Bool.{and_from, and_right, cases_Bool, cases_eq, cases_lt, eq-eqb, le-leb, lt-leb, ne_eqb, or_from, or_left, true≢false}
use Rattle.std.proofs.lemmas.Bool.Decides.{nat_tests}
use Rattle.kc_graph.specs.Numbers.{has_number}
use Rattle.kc_graph.specs.Shape.{GraphShape, IsGraph, neighbours_of, has_edge}
use Rattle.kc_graph.proofs.lemmas.Neighbours.{neighbours_both}
use Rattle.kc_levels.specs.declared.profile.Profile.{Profile}
use Rattle.kc_levels.specs.LevelList.{at_least}
use Rattle.kc_insert.specs.private.Crossing.{left_at}
use Rattle.kc_insert.specs.Ranges.{HasVertex, no_part, Part, range_of, Watch}
use Rattle.kc_insert.specs.private.Rising.{rises, seen}
use Rattle.kc_insert.specs.private.Sharing.{rise_told}
use Rattle.kc_insert.specs.private.Telling.{times}
use Rattle.kc_insert.specs.private.Watched.{count_at}
use Rattle.kc_insert.proofs.Tests.{count_agree, bit, count_parts, not_second, sum_first, sum_none, sum_second, sum_third}
use Rattle.kc_insert.proofs.Joined.{joined_in, joined_of}
use Rattle.kc_insert.proofs.RoundLifted.{before_step}
use Rattle.kc_insert.proofs.RoundParts.{at_place, begun_in, count_in, HasLifted, held_stopped, long_stopped, long_lifted, Passage, place_of, stay_in, watch_stopped, watch_lifted}
use Rattle.kc_insert.proofs.RoundRising.{AreKeeping, begun_fresh, begun_here, left_here, listed, move_of, goes, begins, stays, rises_lifted, seen_begun, seen_on, seen_same, stay_few, vertex_in}
use Rattle.kc_insert.proofs.RoundTold.{less_told, met_on, second_step}
use Rattle.kc_insert.proofs.Stepping.{count_at_level, off_level, rises_rose}

module _ (p : Profile) (g : GraphShape) (x : List ℕ) (r : Passage) (k : AreKeeping p g x r.width r.most r.level_count r.levels.old r.parts.old r.old_told) (h : HasLifted g r) (graph : IsGraph g) (small : r.levels.old.level < 65534) where
  abbrev pub told : ℕ → ℕ
  told v = times v (rise_told (second_step p g x r k h graph small) r.parts.lifted)

  abbrev pub left : ℕ → ℕ
  left v = times v (left_at (second_step p g x r k h graph small) (get_or (place_of r.width r.parts.lifted v).meetings r.levels.old.level []))

  abbrev pub near_v : ℕ → List ℕ
  near_v v = neighbours_of v g.edges

  -- the range of v
  abbrev pub home : ℕ → ℕ
  home v = range_of r.width v

  module _ (v : ℕ) (at : v < g.vertices) where
    pub inside : home v < length r.parts.old
    inside = (vertex_in p g x r.width r.most r.level_count r.levels.old r.parts.old r.old_told k v at).0

    pub held : HasVertex (place_of r.width r.parts.old v).watch v
    held = (vertex_in p g x r.width r.most r.level_count r.levels.old r.parts.old r.old_told k v at).1

    pub count_stopped : count_in r.width r.parts.stopped v ≡ count_in r.width r.parts.old v
    count_stopped = ap (λ (w : Watch). count_at w v) (watch_stopped g r h (home v) inside)

    -- after the vertices that stay were told of
    pub count_lifted : count_in r.width r.parts.lifted v + cond (rises r.levels.stopped v) (count_by (λ u. has_number u (stay_in r.parts.stopped)) (near_v v)) 0 ≡ count_in r.width r.parts.old v
    count_lifted =
        ap (λ n. n + cond (rises r.levels.stopped v) (count_by (λ u. has_number u (stay_in r.parts.stopped)) (near_v v)) 0) (ap (λ (w : Watch). count_at w v) (watch_lifted g r h (home v) inside))
        ∙ ap (λ n. count_in r.width r.parts.parted v + n) (sym (less_told p g x r k h graph small v))
        ∙ h.parted.less v no_part (omega (arith, inside, long_stopped g r h)) (held_stopped g r h (home v) inside v held)
        ∙ count_stopped

    pub begun_home : has_number v (place_of r.width r.parts.lifted v).begun ≡ has_number v (begun_in r.parts.lifted)
    begun_home = elim (cases_Bool (has_number v (begun_in r.parts.lifted))) [
      | inl there ↦ grind (arith, nat_tests, joined_in, at_place, h.lifted.own, h.lifted.sized, there)
      | inr none ↦ elim (cases_Bool (has_number v (place_of r.width r.parts.lifted v).begun)) [
        | inr gone ↦ gone ∙ sym none
        | inl here ↦ absurd (true≢false (sym (joined_of (λ (q : Part). q.begun) r.parts.lifted v (home v) (omega (arith, inside, long_lifted g r h)) here) ∙ none))
      ]
    ]

  abbrev pub old_at : ℕ → ℕ
  old_at u = get_or (seen r.levels.old) u 0

  abbrev pub new_at : ℕ → ℕ
  new_at u = get_or (seen r.levels.lifted) u 0

  pub listed_old : (v : ℕ) → has_number v (before_step r).rising ≡ rises r.levels.old v
  listed_old v = listed p g x r.width r.most r.level_count r.levels.old r.parts.old r.old_told k v

  -- the vertices that stay are on the level, where they came to in the sweep
  pub stay_came : (u : ℕ) → has_number u (stay_in r.parts.stopped) ≡ true → (old_at u ≡ r.levels.old.level) × (get_or x u 0 < r.levels.old.level) × (rises r.levels.old u ≡ true)
  stay_came u there = grind (arith, nat_tests, stay_few, listed_old)

  pub off_stay : (u : ℕ) → old_at u ≢ r.levels.old.level → has_number u (stay_in r.parts.stopped) ≡ false
  off_stay u off = elim (cases_Bool (has_number u (stay_in r.parts.stopped))) [ inr none ↦ none | inl there ↦ absurd (off (stay_came u there).0) ]

  -- a vertex that goes on: what it counted is what it counts on the next level, and those that stay
  module _ (v : ℕ) (on : rises r.levels.stopped v ≡ true) where
    abbrev pub met : ℕ → Bool
    met u = has_edge (v, u) (met_on p g x r k h graph small r.levels.old.level) && eqb (new_at u) r.levels.old.level

    pub parts_at : (u : ℕ) → has_number u (near_v v) ≡ true → bit (leb r.levels.old.level (old_at u)) ≡ bit (leb (r.levels.old.level + 1) (new_at u)) + (bit (has_number u (stay_in r.parts.stopped)) + bit (met u))
    parts_at u near_u = elim (move_of p g x r k h u) [
      | goes up none ↦
          let it = left_here p g x r k h u up in
          let to = seen_on p g x r k h u up in
          sum_first _ _ _ _ (le-leb r.levels.old.level (old_at u) (omega (arith, it.1))) (le-leb (r.levels.old.level + 1) (new_at u) (omega (arith, to))) (out u it.4) (gone u (omega (arith, to)))
      | begins off new ↦
          let it = begun_here p g x r k h u new in
          let to = seen_begun p g x r k h u new in
          sum_first _ _ _ _ (le-leb r.levels.old.level (old_at u) (omega (arith, it.2))) (le-leb (r.levels.old.level + 1) (new_at u) (omega (arith, to))) (out u it.4) (gone u (omega (arith, to)))
      | stays off none ↦
          let same = seen_same p g x r k h u off none in
          elim (cases_eq (old_at u) r.levels.old.level) [
            | inr away ↦ elim (cases_lt (old_at u) r.levels.old.level) [
              | inl lt ↦ sum_none _ _ _ _ (lt-leb r.levels.old.level (old_at u) lt) (lt-leb (r.levels.old.level + 1) (new_at u) (omega (arith, same, lt))) (off_stay u away) (not_met u (omega (arith, same, lt)))
              | inr ge ↦ sum_first _ _ _ _ (le-leb r.levels.old.level (old_at u) ge) (le-leb (r.levels.old.level + 1) (new_at u) (omega (arith, same, ge, away))) (off_stay u away) (gone u (omega (arith, same, ge, away)))
            ]
            | inl here ↦ elim (cases_Bool (rises r.levels.old u)) [
              | inl was ↦ sum_second _ _ _ _ (le-leb r.levels.old.level (old_at u) (omega (arith, here))) (lt-leb (r.levels.old.level + 1) (new_at u) (omega (arith, same, here))) (not_second (rises r.levels.old u) (has_number u (stay_in r.parts.stopped)) was (sym (h.stopped.rises_on u) ∙ off)) (came_up u was)
              | inr stood ↦ sum_third _ _ _ _ (le-leb r.levels.old.level (old_at u) (omega (arith, here))) (lt-leb (r.levels.old.level + 1) (new_at u) (omega (arith, same, here))) (not_came u stood) (meets u near_u here stood (same ∙ here))
            ]
          ]
    ]
      where
        out : (u : ℕ) → r.most < count_in r.width r.parts.old u → has_number u (stay_in r.parts.stopped) ≡ false
        out u many = elim (cases_Bool (has_number u (stay_in r.parts.stopped))) [ inr none ↦ none | inl there ↦ absurd (omega (arith, many, (stay_few p g x r k h u there).1)) ]

        off_level_ : (u : ℕ) → new_at u ≢ r.levels.old.level → met u ≡ false
        off_level_ u ne = and_right (has_edge (v, u) (met_on p g x r k h graph small r.levels.old.level)) (eqb (new_at u) r.levels.old.level) (ne_eqb (new_at u) r.levels.old.level ne)

        gone : (u : ℕ) → r.levels.old.level < new_at u → met u ≡ false
        gone u lt = off_level_ u (λ e. absurd (omega (arith, lt, e)))

        not_met : (u : ℕ) → new_at u < r.levels.old.level → met u ≡ false
        not_met u lt = off_level_ u (λ e. absurd (omega (arith, lt, e)))

        came_up : (u : ℕ) → rises r.levels.old u ≡ true → met u ≡ false
        came_up u was = elim (cases_Bool (has_edge (v, u) (met_on p g x r k h graph small r.levels.old.level))) [
          | inr none ↦ ap (λ b. b && eqb (new_at u) r.levels.old.level) none
          | inl edge ↦ absurd (omega (arith, (k.sweeping.rise.came u (listed_old u ∙ was)).2, (k.sweeping.awaited.met r.levels.old.level v u (omega arith) edge).1.level))
        ]

        not_came : (u : ℕ) → rises r.levels.old u ≡ false → has_number u (stay_in r.parts.stopped) ≡ false
        not_came u stood = elim (cases_Bool (has_number u (stay_in r.parts.stopped))) [ inr none ↦ none | inl there ↦ absurd (true≢false (sym (stay_came u there).2 ∙ stood)) ]

        meets : (u : ℕ) → has_number u (near_v v) ≡ true → old_at u ≡ r.levels.old.level → rises r.levels.old u ≡ false → new_at u ≡ r.levels.old.level → met u ≡ true
        meets u near_u here stood now =
            let it = left_here p g x r k h v on in
            let was : get_or x u 0 ≡ r.levels.old.level = sym (k.sweeping.placed.stood u (omega (arith, here)) (listed_old u ∙ stood)) ∙ here in
            let edge : has_edge (v, u) (met_on p g x r k h graph small r.levels.old.level) ≡ true = k.sweeping.awaited.each r.levels.old.level v u (omega arith) (rises_rose p g x (before_step r) k.sweeping v (listed_old v ∙ it.3)) (record { near = near_u; level = was; below = it.2 }) in
            and_from (has_edge (v, u) (met_on p g x r k h graph small r.levels.old.level)) (eqb (new_at u) r.levels.old.level) edge (eq-eqb (new_at u) r.levels.old.level now)

    pub went_parts : count_by (λ u. leb r.levels.old.level (old_at u)) (near_v v) ≡ count_by (λ u. leb (r.levels.old.level + 1) (new_at u)) (near_v v) + (count_by (λ u. has_number u (stay_in r.parts.stopped)) (near_v v) + count_by met (near_v v))
    went_parts = count_parts (λ u. leb r.levels.old.level (old_at u)) (λ u. leb (r.levels.old.level + 1) (new_at u)) (λ u. has_number u (stay_in r.parts.stopped)) met (near_v v) parts_at

  -- a vertex that stood on the next level: it counts besides those that come up to it and those that begin
  module _ (v : ℕ) (at : v < g.vertices) (next : old_at v ≡ r.levels.old.level + 1) where
    abbrev pub come : ℕ → Bool
    come u = has_edge (u, v) (met_on p g x r k h graph small (r.levels.old.level + 1)) && rises r.levels.lifted u

    pub stood_next : get_or x v 0 ≡ r.levels.old.level + 1
    stood_next = sym (k.sweeping.placed.stood v (omega (arith, next)) (off_level p g x (before_step r) k.sweeping v (λ e. absurd (omega (arith, next, e))))) ∙ next

    pub more_at : (u : ℕ) → has_number u (near_v v) ≡ true → bit (leb (r.levels.old.level + 1) (new_at u)) ≡ bit (leb (r.levels.old.level + 1) (old_at u)) + (bit (come u) + bit (has_number u (begun_in r.parts.lifted)))
    more_at u near_u = elim (move_of p g x r k h u) [
      | goes up none ↦
          let it = left_here p g x r k h u up in
          sum_second _ _ _ _ (le-leb (r.levels.old.level + 1) (new_at u) (omega (arith, seen_on p g x r k h u up))) (lt-leb (r.levels.old.level + 1) (old_at u) (omega (arith, it.1))) (comes u near_u up) none
      | begins off new ↦
          let it = begun_here p g x r k h u new in
          sum_third _ _ _ _ (le-leb (r.levels.old.level + 1) (new_at u) (omega (arith, seen_begun p g x r k h u new))) (lt-leb (r.levels.old.level + 1) (old_at u) (omega (arith, it.2))) (fresh u new) new
      | stays off none ↦ same_width u (seen_same p g x r k h u off none) (rests u off none) none
    ]
      where
        comes : (u : ℕ) → has_number u (near_v v) ≡ true → rises r.levels.stopped u ≡ true → come u ≡ true
        comes u near_u up =
            let it = left_here p g x r k h u up in
            let edge : has_edge (u, v) (met_on p g x r k h graph small (r.levels.old.level + 1)) ≡ true = k.sweeping.awaited.each (r.levels.old.level + 1) u v (omega arith) (rises_rose p g x (before_step r) k.sweeping u (listed_old u ∙ it.3)) (record { near = neighbours_both u v g.edges ∙ near_u; level = stood_next; below = omega (arith, it.2) }) in
            and_from (has_edge (u, v) (met_on p g x r k h graph small (r.levels.old.level + 1))) (rises r.levels.lifted u) edge (rises_lifted p g x r k h u ∙ or_left (rises r.levels.stopped u) (has_number u (begun_in r.parts.lifted)) up)

        fresh : (u : ℕ) → has_number u (begun_in r.parts.lifted) ≡ true → come u ≡ false
        fresh u new = elim (cases_Bool (has_edge (u, v) (met_on p g x r k h graph small (r.levels.old.level + 1)))) [
          | inr none ↦ ap (λ b. b && rises r.levels.lifted u) none
          | inl edge ↦ absurd (true≢false (sym (k.sweeping.awaited.met (r.levels.old.level + 1) u v (omega arith) edge).0 ∙ begun_fresh p g x r k h u new))
        ]

        rests : (u : ℕ) → rises r.levels.stopped u ≡ false → has_number u (begun_in r.parts.lifted) ≡ false → come u ≡ false
        rests u off none = and_right (has_edge (u, v) (met_on p g x r k h graph small (r.levels.old.level + 1))) (rises r.levels.lifted u) (rises_lifted p g x r k h u ∙ or_from (rises r.levels.stopped u) (has_number u (begun_in r.parts.lifted)) off none)

        same_width : (u : ℕ) → new_at u ≡ old_at u → come u ≡ false → has_number u (begun_in r.parts.lifted) ≡ false → bit (leb (r.levels.old.level + 1) (new_at u)) ≡ bit (leb (r.levels.old.level + 1) (old_at u)) + (bit (come u) + bit (has_number u (begun_in r.parts.lifted)))
        same_width u same e f = grind (arith, nat_tests, sum_first, le-leb, sum_none, lt-leb)

    pub next_parts : count_by (λ u. leb (r.levels.old.level + 1) (new_at u)) (near_v v) ≡ count_by (λ u. leb (r.levels.old.level + 1) (old_at u)) (near_v v) + (count_by come (near_v v) + count_by (λ u. has_number u (begun_in r.parts.lifted)) (near_v v))
    next_parts = count_parts (λ u. leb (r.levels.old.level + 1) (new_at u)) (λ u. leb (r.levels.old.level + 1) (old_at u)) come (λ u. has_number u (begun_in r.parts.lifted)) (near_v v) more_at

  -- for all others the number of neighbours is as it was
  pub same_parts : (v j : ℕ) → j ≢ r.levels.old.level + 1 → count_by (λ u. leb j (old_at u)) (near_v v) ≡ count_by (λ u. leb j (new_at u)) (near_v v)
  same_parts v j ne = count_agree (λ u. leb j (old_at u)) (λ u. leb j (new_at u)) (near_v v) (λ u there. elim (move_of p g x r k h u) [
    | goes up none ↦ agree (old_at u) (new_at u) (left_here p g x r k h u up).1 (seen_on p g x r k h u up)
    | begins off new ↦ agree (old_at u) (new_at u) (begun_here p g x r k h u new).2 (seen_begun p g x r k h u new)
    | stays off none ↦ ap (leb j) (sym (seen_same p g x r k h u off none))
  ])
    where
      agree : (a b : ℕ) → a ≡ r.levels.old.level → b ≡ r.levels.old.level + 1 → leb j a ≡ leb j b
      agree a b e f = grind (arith, nat_tests, lt-leb, le-leb)

  pub old_count : (v j : ℕ) → v < g.vertices → old_at v ≡ j → count_in r.width r.parts.old v ≡ count_by (λ u. leb j (old_at u)) (near_v v)
  unfolding at_least
  old_count v j at on = count_at_level p g x (before_step r) k.sweeping v j at on
