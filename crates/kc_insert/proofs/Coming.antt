-- All ranges tell of the vertices that rise, and hear of them.
use Rattle.std.proofs.Common.{ℕ, ◌+◌, ◌≤◌, ◌<◌, ◌≡◌, List, [], ◌++◌, length, get_or, ap, sym, subst, ◌∙◌, arith}
use Rattle.std.specs.List.{flat_map}
use Rattle.std.proofs.lemmas.List.Sums.{count_by-le-length}
use Rattle.std.proofs.lemmas.Bool.Decides.{nat_tests}
use Rattle.kc_graph.specs.Numbers.{has_number}
use Rattle.kc_insert.specs.private.Crossing.{Crossing, met_by, next_near}
use Rattle.kc_insert.specs.private.Parts.{HasRisen}
use Rattle.kc_insert.specs.Ranges.{HasVertex, no_part, Part, range_of, Tell, Watch}
use Rattle.kc_insert.specs.private.Sharing.{AllRisen, AreFew, AreTold, CanMeet, CanRiseAll, HearMore, rise_told, told_all}
use Rattle.kc_insert.specs.private.Watched.{count_at}
use Rattle.kc_insert.proofs.Beginning.{held_still}
use Rattle.kc_insert.proofs.Summing.{lists_told, tells_are}

module _ (step : Crossing) (p0 p1 p2 : List Part) (t0 t1 : List Tell) (can : CanRiseAll step p0 t0) (long1 : length p1 ≡ length p0) (long2 : length p2 ≡ length p1) (long3 : length t1 ≡ length t0) (risen : (i : ℕ) (d : Part) → i < length p0 → HasRisen step (get_or p0 i d) (get_or p1 i d)) (kept : (i : ℕ) (d : Part) (e : Tell) → i < length p1 → get_or p2 i d ≡ record (get_or p1 i d) { tell = get_or t0 i e }) (tells : (i : ℕ) (d : Part) (e : Tell) → i < length p1 → get_or t1 i e ≡ (get_or p1 i d).tell) where
  abbrev no_tell : Tell
  no_tell = record { all = []; lists = [] }

  pub told_is : told_all t1 ≡ rise_told step p0
  told_is = tells_are (λ (p : Part). met_by step (get_or p.meetings (step.level + 1) []) ++ flat_map (next_near step) p.begun) p0 t1 (long3 ∙ can.told) (λ i d e h. ap (λ (t : Tell). t.all) (tells i e d (omega (arith, h, long1))) ∙ (risen i e h).told)

  pub are_told : AreTold step.width step.is_dealt (length p2) t1
  are_told = lists_told step.width (length p2) step.is_dealt p1 t1 (long3 ∙ can.told ∙ sym long1) tells
      (λ i h. (risen i no_part (inside i h)).lists ∙ can.lists i no_part (inside i h) ∙ sym (long2 ∙ long1))
      (λ is i h k at. ((risen i no_part (inside i h)).dealt is).each k (omega (arith, at, long1, long2, can.lists i no_part (inside i h))))
    where
      inside : (i : ℕ) → i < length p1 → i < length p0
      inside i h = omega (arith, h, long1)

  watch_is : (j : ℕ) (d : Part) → j < length p0 → (get_or p2 j d).watch ≡ (get_or p1 j d).watch
  watch_is j d h = ap (λ (p : Part). p.watch) (kept j d no_tell (omega (arith, h, long1)))

  -- a count is at most that of before or the number of neighbours
  still_small : (j : ℕ) (d : Part) (v : ℕ) → j < length p0 → count_at (get_or p1 j d).watch v ≤ 16777216
  still_small j d v h = grind (arith, nat_tests, count_by-le-length, can.degree, can.small)

  pub can_meet : CanMeet step.width (step.level + 1) (told_all t1) p2
  can_meet = record {
    held = λ v d there.
        let was = can.held v d (ap (has_number v) (sym told_is) ∙ there) in
        (omega (arith, was.0, long1, long2), subst (λ (w : Watch). HasVertex w v) (sym (watch_is (range_of step.width v) d was.0)) (held_still _ _ v was.1 (risen (range_of step.width v) d was.0).risen.watched));
    small = λ v d there. grind (arith, nat_tests, told_is, still_small, watch_is, can.held, can.few);
    room = λ j d h.
        let at : j < length p0 = omega (arith, h, long1, long2) in
        let same : (get_or p2 j d).queue ≡ (get_or p0 j d).queue = ap (λ (p : Part). p.queue) (kept j d no_tell (omega (arith, at, long1))) ∙ ap (λ (p : Part). p.queue) (risen j d at).part in
        omega (arith, can.room j d at, ap length same);
  }

  pub are_few : AreFew p2
  are_few j d v h = grind (arith, nat_tests, still_small, watch_is)

  pub all_risen : (most : ℕ) (p3 : List Part) → HearMore step.width (step.level + 1) most (told_all t1) p2 p3 → AllRisen step most p0 p3
  all_risen most p3 s = record {
    sized = s.sized ∙ long2 ∙ long1;
    each = λ j d h. grind (arith, nat_tests, told_is, s.each);
    lists = λ j d h. ap (λ (p : Part). length p.tell.lists) (s.each j d (at j h)).part ∙ ap (λ (p : Part). length p.tell.lists) (kept j d no_tell (omega (arith, h, long1))) ∙ can.heard j no_tell h;
  }
    where
      at : (j : ℕ) → j < length p0 → j < length p2
      at j h = omega (arith, h, long1, long2)
