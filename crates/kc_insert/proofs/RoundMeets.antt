-- A step of a sweep: which meetings are to come afterwards.
use Rattle.std.proofs.Common.{ℕ, ◌+◌, ◌≤◌, ◌<◌, ◌≡◌, inl, inr, true, false, ◌||◌, List, [], ◌++◌, length, get_or, ap, sym, ◌∙◌, arith}
use Rattle.std.specs.List.{flat_map}
use Rattle.std.proofs.lemmas.Bool.{cases_Bool, cases_lt, or_from, or_left, or_right, true≢false}
use Rattle.std.proofs.lemmas.List.{get_or_past, get_or-set_other, length-set}
use Rattle.std.proofs.lemmas.Bool.Decides.{nat_tests}
use Rattle.kc_graph.specs.Numbers.{has_number}
use Rattle.kc_graph.specs.Shape.{GraphShape, Pair, IsGraph, has_edge}
use Rattle.kc_graph.proofs.lemmas.Neighbours.{neighbour_below}
use Rattle.kc_levels.specs.declared.profile.Profile.{Profile}
use Rattle.kc_levels.specs.Thresholds.{top_level}
use Rattle.kc_insert.specs.private.Crossing.{meetings_of}
use Rattle.kc_insert.specs.private.LevelStep.{MeetOn}
use Rattle.kc_insert.specs.private.Meetings.{IsMeeting}
use Rattle.kc_insert.specs.Ranges.{Part}
use Rattle.kc_insert.specs.private.Rising.{rises, seen}
use Rattle.kc_insert.proofs.Joined.{apart_copies, copies, copies_apart, copies_joined, copies_none, joined_rows, joined_same, pairs_in, pairs_joined}
use Rattle.kc_insert.proofs.MetRows.{rows_among, rows_apart, rows_on}
use Rattle.kc_insert.proofs.RoundLifted.{after_step, before_step, listed_lifted}
use Rattle.kc_insert.proofs.RoundParts.{at_place, begun_in, HasPassed, long_lifted, long_risen, meetings_lifted, meetings_risen, mid, Passage, rose_at}
use Rattle.kc_insert.proofs.RoundRising.{AreKeeping, begun_fresh, begun_here, left_here, move_of, goes, begins, stays, rises_lifted, seen_same}
use Rattle.kc_insert.proofs.RoundTold.{above_stood, second_step, stored_still}
use Rattle.kc_insert.proofs.Stepping.{stood_above}
use Rattle.kc_insert.proofs.Tests.{or_either}

module _ (p : Profile) (g : GraphShape) (x : List ℕ) (r : Passage) (k : AreKeeping p g x r.width r.most r.level_count r.levels.old r.parts.old r.old_told) (h : HasPassed g r) (graph : IsGraph g) (small : r.levels.old.level < 65534) (few : r.level_count ≤ 65535) (tops : top_level p g.vertices < 65535) where
  -- the meetings of the vertices that begin
  abbrev new_met : ℕ → List Pair
  new_met i = flat_map (meetings_of (second_step p g x r k h.before graph small) i) (begun_in r.parts.lifted)

  -- a range has no meetings past the last level
  past_old : (j i : ℕ) → j < length r.parts.old → 65535 ≤ i → get_or (at_place r.parts.old j).meetings i [] ≡ []
  past_old j i at past = get_or_past (at_place r.parts.old j).meetings i [] (omega (arith, past, few, k.shape.meetings j at))

  pub past_new : (j i : ℕ) → j < length r.parts.old → 65535 ≤ i → get_or (at_place r.parts.risen j).meetings i [] ≡ []
  past_new j i at past = grind (arith, nat_tests, meetings_risen, get_or_past, mid, rose_at, length-set, meetings_lifted, h.before)

  met_before : (i : ℕ) → flat_map (λ (q : Part). get_or q.meetings i []) r.parts.lifted ≡ (before_step r).meets i
  met_before i = joined_same (λ (q : Part). get_or q.meetings i []) (λ (q : Part). get_or q.meetings i []) r.parts.lifted r.parts.old (long_lifted g r h.before) (λ j at. ap (λ (m : List (List Pair)). get_or m i []) (meetings_lifted g r h.before j at))

  -- on each level above, the meetings of each range are those that it had and those of its vertices that begin
  met_after : (i : ℕ) → r.levels.old.level < i → i < 65535 → (after_step r).meets i ≡ flat_map (λ (q : Part). get_or q.meetings i [] ++ flat_map (meetings_of (second_step p g x r k h.before graph small) i) q.begun) r.parts.lifted
  met_after i above low = joined_same (λ (q : Part). get_or q.meetings i []) (λ (q : Part). get_or q.meetings i [] ++ flat_map (meetings_of (second_step p g x r k h.before graph small) i) q.begun) r.parts.risen r.parts.lifted (long_risen g r h ∙ sym (long_lifted g r h.before)) (λ j at.
      let within : j < length r.parts.old = omega (arith, at, long_lifted g r h.before) in
      ap (λ (m : List (List Pair)). get_or m i []) (meetings_risen g r h j within) ∙ (rose_at g r h j within).risen.meetings.filed i low
      ∙ ap (λ es. es ++ flat_map (meetings_of (second_step p g x r k h.before graph small) i) (at_place r.parts.lifted j).begun) (get_or-set_other (at_place r.parts.lifted j).meetings r.levels.old.level i [] [] (λ e. absurd (omega (arith, e, above)))))

  -- the same, as copies and as members
  copies_after : (i : ℕ) (e : Pair) → r.levels.old.level < i → i < 65535 → copies e ((after_step r).meets i) ≡ copies e ((before_step r).meets i) + copies e (new_met i)
  copies_after i e above low =
      ap (copies e) (met_after i above low)
      ∙ copies_joined e (λ (q : Part). get_or q.meetings i []) (λ (q : Part). flat_map (meetings_of (second_step p g x r k h.before graph small) i) q.begun) r.parts.lifted
      ∙ ap (λ es. copies e es + copies e (flat_map (λ (q : Part). flat_map (meetings_of (second_step p g x r k h.before graph small) i) q.begun) r.parts.lifted)) (met_before i)
      ∙ ap (λ es. copies e ((before_step r).meets i) + copies e es) (sym (joined_rows (meetings_of (second_step p g x r k h.before graph small) i) (λ (q : Part). q.begun) r.parts.lifted))

  edges_after : (i : ℕ) (e : Pair) → r.levels.old.level < i → i < 65535 → has_edge e ((after_step r).meets i) ≡ has_edge e ((before_step r).meets i) || has_edge e (new_met i)
  edges_after i e above low =
      ap (has_edge e) (met_after i above low)
      ∙ pairs_joined e (λ (q : Part). get_or q.meetings i []) (λ (q : Part). flat_map (meetings_of (second_step p g x r k h.before graph small) i) q.begun) r.parts.lifted
      ∙ ap (λ es. has_edge e es || has_edge e (flat_map (λ (q : Part). flat_map (meetings_of (second_step p g x r k h.before graph small) i) q.begun) r.parts.lifted)) (met_before i)
      ∙ ap (λ es. has_edge e ((before_step r).meets i) || has_edge e es) (sym (joined_rows (meetings_of (second_step p g x r k h.before graph small) i) (λ (q : Part). q.begun) r.parts.lifted))

  nothing_old : (i : ℕ) (e : Pair) → 65535 ≤ i → has_edge e ((before_step r).meets i) ≡ false
  nothing_old i e past = grind (arith, nat_tests, pairs_in, true≢false, past_old)

  nothing_new : (i : ℕ) (e : Pair) → 65535 ≤ i → has_edge e ((after_step r).meets i) ≡ false
  nothing_new i e past = grind (arith, nat_tests, pairs_in, true≢false, past_new, long_risen)

  -- a pair among the new meetings
  new_on : (i v w : ℕ) → i < 65535 → has_edge (v, w) (new_met i) ≡ true → (has_number v (begun_in r.parts.lifted) ≡ true) × IsMeeting g x i v w
  new_on i v w low there =
      let it = rows_on g r.levels.lifted.stored r.levels.old.level i (begun_in r.parts.lifted) v w there in
      let below = neighbour_below g.vertices v w g.edges graph it.1 in
      (it.0, record { near = it.1; level = above_stood p g x r k h.before graph small w i below it.2 low it.3; below = omega (arith, (begun_here p g x r k h.before v it.0).1, it.2) })

  pub meeting : MeetOn g x (before_step r) (after_step r)
  meeting = record {
    still = λ i v w above there. elim (cases_lt i 65535) [
      | inl low ↦ edges_after i (v, w) above low ∙ or_left (has_edge (v, w) ((before_step r).meets i)) (has_edge (v, w) (new_met i)) there
      | inr past ↦ absurd (true≢false (sym there ∙ nothing_old i (v, w) past))
    ];
    only = λ i v w above there. elim (cases_lt i 65535) [
      | inr past ↦ absurd (true≢false (sym there ∙ nothing_new i (v, w) past))
      | inl low ↦ elim (cases_Bool (has_edge (v, w) ((before_step r).meets i))) [
        | inl was ↦ inl was
        | inr none ↦ grind (arith, nat_tests, new_on, or_either, edges_after, listed_lifted, rises_lifted, or_right, begun_in, h.before)
      ]
    ];
    each = λ i v w above up on it. elim (move_of p g x r k h.before v) [
      | goes gone none ↦ absurd (omega (arith, on, (left_here p g x r k h.before v gone).2))
      | stays off none ↦ absurd (true≢false (sym up ∙ listed_lifted p g x r k h v ∙ rises_lifted p g x r k h.before v ∙ or_from (rises r.levels.stopped v) (has_number v (begun_in r.parts.lifted)) off none))
      | begins off new ↦
          let below = neighbour_below g.vertices v w g.edges graph it.near in
          let was = stood_above p g x (before_step r) k.sweeping w (omega (arith, it.level, above)) in
          let low : i < 65535 = omega (arith, was.1, it.level, k.sweeping.placed.raising.capped w below, tops) in
          edges_after i (v, w) above low ∙ or_right (has_edge (v, w) ((before_step r).meets i)) (has_edge (v, w) (new_met i)) (rows_among g r.levels.lifted.stored r.levels.old.level i (begun_in r.parts.lifted) v w new it.near above (stands w i below above (was.1 ∙ it.level)))
    ];
    apart = λ i above. grind (arith, nat_tests, cases_lt i 65535, copies_apart, once, copies_none, nothing_new);
  }
    where
      stands : (w i : ℕ) → w < g.vertices → r.levels.old.level < i → get_or (seen r.levels.old) w 0 ≡ i → get_or r.levels.lifted.stored w 0 ≡ i
      stands w i below above on = elim (move_of p g x r k h.before w) [
        | goes gone none ↦ absurd (omega (arith, on, above, (left_here p g x r k h.before w gone).1))
        | begins off new ↦ absurd (omega (arith, on, above, (begun_here p g x r k h.before w new).2))
        | stays off none ↦ stored_still p g x r k h.before graph small w below (rises_lifted p g x r k h.before w ∙ or_from (rises r.levels.stopped w) (has_number w (begun_in r.parts.lifted)) off none) ∙ seen_same p g x r k h.before w off none ∙ on
      ]

      once : (i : ℕ) (e : Pair) → r.levels.old.level < i → i < 65535 → copies e ((after_step r).meets i) ≤ 1
      once i e above low = elim (cases_Bool (has_edge e (new_met i))) [
        | inr none ↦ omega (arith, copies_after i e above low, copies_none e (new_met i) none, apart_copies e ((before_step r).meets i) (k.sweeping.awaited.apart i (omega (arith, above))))
        | inl new ↦ elim (cases_Bool (has_edge e ((before_step r).meets i))) [
          | inr none ↦ omega (arith, copies_after i e above low, copies_none e ((before_step r).meets i) none, apart_copies e (new_met i) (rows_apart g r.levels.lifted.stored r.levels.old.level i graph (begun_in r.parts.lifted) h.before.lifted.distinct))
          | inl was ↦ absurd (true≢false (sym (k.sweeping.awaited.met i e.0 e.1 (omega (arith, above)) was).0 ∙ begun_fresh p g x r k h.before e.0 (new_on i e.0 e.1 low new).0))
        ]
      ]
