-- A step of a sweep: how the ranges keep their vertices afterwards.
use Rattle.std.proofs.Common.{ℕ, suc, ◌+◌, ◌≤◌, ◌<◌, ◌≡◌, inl, inr, true, List, [], ◌∷◌, ◌++◌, length, get_or, set, filter, refl, ap, sym, subst, ◌∙◌, arith}
use Rattle.std.specs.List.{flat_map, sum_by}
use Rattle.std.proofs.lemmas.Bool.{cases_Bool, cases_lt, or_from, or_left, or_right, true≢false}
use Rattle.std.proofs.lemmas.List.Sums.{sum_by-cons}
use Rattle.std.proofs.lemmas.List.{get_or_past, get_or-set_same, get_or-set_other, length-set}
use Rattle.std.proofs.lemmas.Bool.Decides.{nat_tests}
use Rattle.kc_graph.specs.Numbers.{has_number}
use Rattle.kc_graph.specs.Shape.{GraphShape, Pair, IsGraph, has_edge}
use Rattle.kc_graph.proofs.lemmas.Numbers.{has_number-append}
use Rattle.kc_levels.specs.declared.profile.Profile.{Profile}
use Rattle.kc_levels.specs.Thresholds.{top_level}
use Rattle.kc_adj.specs.Degrees.{degrees}
use Rattle.kc_insert.specs.private.Crossing.{meetings_of}
use Rattle.kc_insert.specs.private.LevelStep.{AreAtRest}
use Rattle.kc_insert.specs.Ranges.{IsCut, HasVertex, no_part, Part, range_of, Tell, Watch}
use Rattle.kc_insert.specs.private.Ranges.{AreKept}
use Rattle.kc_insert.specs.private.Rising.{rises}
use Rattle.kc_insert.specs.private.Sweeping.{IsSame, sweeping_of}
use Rattle.kc_insert.specs.private.Watched.{count_at}
use Rattle.kc_insert.proofs.Efforts.{degrees-append}
use Rattle.kc_insert.proofs.Joined.{has_edge-append, joined_of, joined_same}
use Rattle.kc_insert.proofs.MetRows.{rows_on}
use Rattle.kc_insert.proofs.RoundBefore.{begun_home, count_stopped, inside}
use Rattle.kc_insert.proofs.RoundCounts.{count_risen}
use Rattle.kc_insert.proofs.RoundLifted.{after_step}
use Rattle.kc_insert.proofs.RoundMeets.{past_new}
use Rattle.kc_insert.proofs.RoundParts.{at_place, begun_in, began_lifted, began_risen, begun_risen, count_in, first_stopped, first_lifted, HasPassed, held_risen, held_back_stopped, held_back_lifted, held_back_risen, long_stopped, long_lifted, long_risen, meetings_lifted, meetings_risen, met_at, mid, most_stopped, most_lifted, most_risen, Passage, place_of, queue_mid, risen_lifted, risen_all, rose_at, stay_in, steps_risen, watch_stopped, watch_lifted, watch_risen, watched_parted, watched_mid}
use Rattle.kc_insert.proofs.RoundRising.{AreKeeping, began_at, begun_here, cut_of, left_here, move_of, goes, begins, stays, rises_lifted, vertex_in}
use Rattle.kc_insert.proofs.RoundTold.{second_step}
use Rattle.kc_insert.proofs.Tests.{or_either}

-- a list that was emptied has nothing
cleared : (ms : List (List Pair)) (l i : ℕ) (e : Pair) → has_edge e (get_or (set ms l []) i []) ≡ true → has_edge e (get_or ms i []) ≡ true
cleared ms l i e there = grind (arith, nat_tests, get_or-set_other, inside, true≢false, get_or-set_same, get_or_past, length-set)

steps_sum : (g : GraphShape) (qs ps rs : List Part) → length qs ≡ length rs → length ps ≡ length rs → ((j : ℕ) → j < length rs → (at_place qs j).steps ≡ degrees g (at_place ps j).stay + degrees g (at_place rs j).begun) → sum_by (λ (q : Part). q.steps) qs ≡ degrees g (flat_map (λ (q : Part). q.stay) ps) + degrees g (flat_map (λ (q : Part). q.begun) rs)
steps_sum g [] [] [] long too each = refl
steps_sum g [] [] (r ∷ rs) long too each = absurd (omega (arith, long))
steps_sum g [] (p ∷ ps) [] long too each = absurd (omega (arith, too))
steps_sum g [] (p ∷ ps) (r ∷ rs) long too each = absurd (omega (arith, long))
steps_sum g (q ∷ qs) [] [] long too each = absurd (omega (arith, long))
steps_sum g (q ∷ qs) [] (r ∷ rs) long too each = absurd (omega (arith, too))
steps_sum g (q ∷ qs) (p ∷ ps) [] long too each = absurd (omega (arith, long))
steps_sum g (q ∷ qs) (p ∷ ps) (r ∷ rs) long too each = omega (
  arith,
  each 0 (omega arith),
  sum_by-cons (λ (s : Part). s.steps) q qs,
  steps_sum g qs ps rs (omega (arith, long)) (omega (arith, too)) (λ j at. each (suc j) (omega (arith, at))),
  degrees-append g p.stay (flat_map (λ (q : Part). q.stay) ps),
  degrees-append g r.begun (flat_map (λ (q : Part). q.begun) rs),
)

module _ (p : Profile) (g : GraphShape) (x : List ℕ) (r : Passage) (k : AreKeeping p g x r.width r.most r.level_count r.levels.old r.parts.old r.old_told) (h : HasPassed g r) (graph : IsGraph g) (small : r.levels.old.level < 65534) (few : r.level_count ≤ 65535) (tops : top_level p g.vertices < 65535) where
  -- the steps of the ranges are those of passes over the neighbours of the vertices that stay and of those that begin
  pub steps_are : sum_by (λ (q : Part). q.steps) r.parts.risen ≡ degrees g (stay_in r.parts.stopped) + degrees g (begun_in r.parts.lifted)
  steps_are = steps_sum g r.parts.risen r.parts.stopped r.parts.lifted (long_risen g r h ∙ sym (long_lifted g r h.before)) (long_stopped g r h.before ∙ sym (long_lifted g r h.before)) (λ j at. let within : j < length r.parts.old = omega (arith, at, long_lifted g r h.before) in omega (arith, steps_risen g r h j within, k.rest.steps j within))

  -- after the steps were counted
  module _ (p6 : List Part) (told6 : List Tell) (long6 : length p6 ≡ length r.parts.risen) (taken : (j : ℕ) → j < length r.parts.risen → at_place p6 j ≡ record (at_place r.parts.risen j) { steps = 0 }) (tells : (length told6 ≡ length r.parts.risen) × ((j : ℕ) (d : Tell) → j < length r.parts.risen → length (get_or told6 j d).lists ≡ length r.parts.risen)) where
    long60 : length p6 ≡ length r.parts.old
    long60 = long6 ∙ long_risen g r h

    within : (j : ℕ) → j < length p6 → j < length r.parts.old
    within j at = omega (arith, at, long60)

    taken_at : (j : ℕ) → j < length r.parts.old → at_place p6 j ≡ record (at_place r.parts.risen j) { steps = 0 }
    taken_at j at = taken j (omega (arith, at, long_risen g r h))

    watch6 : (j : ℕ) → j < length r.parts.old → (at_place p6 j).watch ≡ (at_place r.parts.risen j).watch
    watch6 j at = ap (λ (q : Part). q.watch) (taken_at j at)

    held6 : (j v : ℕ) → j < length r.parts.old → HasVertex (at_place r.parts.old j).watch v → HasVertex (at_place p6 j).watch v
    held6 j v at was = subst (λ w. HasVertex w v) (sym (watch6 j at)) (held_risen g r h j at v was)

    held_back6 : (j v : ℕ) → j < length r.parts.old → HasVertex (at_place p6 j).watch v → HasVertex (at_place r.parts.old j).watch v
    held_back6 j v at is = held_back_risen g r h j at v (subst (λ w. HasVertex w v) (watch6 j at) is)

    same_list : {A : Type 0} (f : Part → List A) → ((j : ℕ) → j < length r.parts.old → f (at_place p6 j) ≡ f (at_place r.parts.risen j)) → flat_map f p6 ≡ flat_map f r.parts.risen
    same_list f each = joined_same f f p6 r.parts.risen long6 (λ j at. each j (omega (arith, at, long_risen g r h)))

    -- the sweep is the same
    pub counted_same : IsSame (after_step r) (sweeping_of r.levels.lifted (cut_of r.width p6 told6))
    counted_same = record {
      level = refl;
      levels = refl;
      count = λ v. elim (cases_lt (range_of r.width v) (length r.parts.old)) [
        | inl at ↦ ap (λ (w : Watch). count_at w v) (watch6 (range_of r.width v) at)
        | inr past ↦ ap (λ (q : Part). count_at q.watch v) (get_or_past p6 (range_of r.width v) no_part (omega (arith, past, long60)) ∙ sym (get_or_past r.parts.risen (range_of r.width v) no_part (omega (arith, past, long_risen g r h))))
      ];
      lists = (
        ap (filter (rises r.levels.lifted)) (same_list (λ (q : Part). q.began) (λ j at. ap (λ (q : Part). q.began) (taken_at j at))),
        same_list (λ (q : Part). q.risen) (λ j at. ap (λ (q : Part). q.risen) (taken_at j at)),
      );
      waits = λ i. same_list (λ (q : Part). get_or q.queue i []) (λ j at. ap (λ (q : Part). get_or q.queue i []) (taken_at j at));
      meets = λ i. same_list (λ (q : Part). get_or q.meetings i []) (λ j at. ap (λ (q : Part). get_or q.meetings i []) (taken_at j at));
    }

    -- a vertex that begins is of its range
    begun_held : (j v : ℕ) → j < length r.parts.old → has_number v (at_place r.parts.lifted j).begun ≡ true → HasVertex (at_place r.parts.old j).watch v
    begun_held j v at there =
        let own = h.before.lifted.own j v no_part (omega (arith, at, long_lifted g r h.before, h.before.lifted.sized)) there in
        let it = begun_here p g x r k h.before v (joined_of (λ (q : Part). q.begun) r.parts.lifted v j (omega (arith, at, long_lifted g r h.before)) there) in
        subst (λ i. HasVertex (at_place r.parts.old i).watch v) own (vertex_in p g x r.width r.most r.level_count r.levels.old r.parts.old r.old_told k v it.0).1

    pub cut_on : IsCut g.vertices r.level_count (cut_of r.width p6 told6)
    cut_on = record {
      wide = k.shape.wide;
      vertex = λ v at. let it = vertex_in p g x r.width r.most r.level_count r.levels.old r.parts.old r.old_told k v at in record { place = omega (arith, it.0, long60); held = held6 (range_of r.width v) v it.0 it.1 };
      own = λ j v at is. k.shape.own j v (within j at) (held_back6 j v (within j at) is);
      queues = λ j at. ap (λ (q : Part). length q.queue) (taken_at j (within j at)) ∙ (met_at g r h j (within j at)).levels ∙ ap (λ (q : List (List ℕ)). length q) (queue_mid g r h j (within j at)) ∙ length-set (at_place r.parts.old j).queue r.levels.old.level [] ∙ k.shape.queues j (within j at);
      meetings = λ j at. ap (λ (q : Part). length q.meetings) (taken_at j (within j at)) ∙ ap (λ (m : List (List Pair)). length m) (meetings_risen g r h j (within j at)) ∙ (rose_at g r h j (within j at)).risen.meetings.sized ∙ length-set (at_place r.parts.lifted j).meetings r.levels.old.level [] ∙ ap (λ (m : List (List Pair)). length m) (meetings_lifted g r h.before j (within j at)) ∙ k.shape.meetings j (within j at);
      tells = λ j at. ap (λ (q : Part). length q.tell.lists) (taken_at j (within j at)) ∙ h.risen.lists j no_part (omega (arith, (within j at), long_lifted g r h.before)) ∙ long_lifted g r h.before ∙ sym long60;
      told = (tells.0 ∙ sym long6, λ j d at. tells.1 j d (omega (arith, at, long6)) ∙ sym long6);
    }

    began6 : (j : ℕ) → j < length r.parts.old → (at_place p6 j).began ≡ (at_place r.parts.old j).began ++ (at_place r.parts.lifted j).begun
    began6 j at = ap (λ (q : Part). q.began) (taken_at j at) ∙ began_risen g r h j at ∙ ap (λ vs. vs ++ (at_place r.parts.lifted j).begun) (began_lifted g r h.before j at)

    risen6 : (j : ℕ) → j < length r.parts.old → (at_place p6 j).risen ≡ (at_place r.parts.old j).risen ++ (at_place r.parts.lifted j).begun
    risen6 j at = ap (λ (q : Part). q.risen) (taken_at j at) ∙ risen_all g r h j at ∙ ap (λ vs. vs ++ (at_place r.parts.lifted j).begun) (risen_lifted g r h.before j at)

    doubtful6 : (j : ℕ) → j < length r.parts.old → (at_place p6 j).watch.doubtful ≡ (at_place r.parts.risen j).watch.doubtful
    doubtful6 j at = ap (λ (w : Watch). w.doubtful) (watch6 j at)

    -- a vertex that rises and comes to count few is on the watch list
    many_before : (v : ℕ) → rises r.levels.lifted v ≡ true → (v < g.vertices) × (r.most < count_in r.width r.parts.old v)
    many_before v up = elim (move_of p g x r k h.before v) [
      | goes on none ↦ let it = left_here p g x r k h.before v on in (it.0, it.4)
      | begins off new ↦ let it = begun_here p g x r k h.before v new in (it.0, it.4)
      | stays off none ↦ absurd (true≢false (sym up ∙ rises_lifted p g x r k h.before v ∙ or_from (rises r.levels.stopped v) (has_number v (begun_in r.parts.lifted)) off none))
    ]

    module _ (v : ℕ) (up : rises r.levels.lifted v ≡ true) where
      abbrev j : ℕ
      j = range_of r.width v

      in_graph : v < g.vertices
      in_graph = (many_before v up).0

      abbrev at : j < length r.parts.old
      at = inside p g x r k h.before graph small v in_graph

      from : (at_place r.parts.old j).watch.first ≤ v
      from = (vertex_in p g x r.width r.most r.level_count r.levels.old r.parts.old r.old_told k v in_graph).1.from

      -- it counted many when the vertices that stay were told of, and few afterwards
      few_then : count_in r.width r.parts.lifted v ≤ r.most → has_number v (at_place r.parts.parted j).watch.doubtful ≡ true
      few_then low = elim ((watched_parted g r h.before j at).fell v (omega (arith, from, first_stopped g r h.before j at)) (omega (arith, low, ap (λ (w : Watch). count_at w v) (watch_lifted g r h.before j at), most_stopped g r h.before j at, k.limit j at))) [
        | inr there ↦ there
        | inl was ↦ absurd (omega (arith, was, most_stopped g r h.before j at, k.limit j at, count_stopped p g x r k h.before graph small v in_graph, (many_before v up).1))
      ]

      few_mid : count_at (mid g r h j at).watch v ≤ r.most → has_number v (mid g r h j at).watch.doubtful ≡ true
      few_mid low = elim ((watched_mid g r h j at).fell v (omega (arith, from, first_lifted g r h.before j at)) (omega (arith, low, most_lifted g r h.before j at, k.limit j at))) [
        | inr there ↦ there
        | inl was ↦ (watched_mid g r h j at).still v (ap (λ (w : Watch). has_number v w.doubtful) (watch_lifted g r h.before j at) ∙ few_then (omega (arith, was, most_lifted g r h.before j at, k.limit j at)))
      ]

      few_on : count_in r.width p6 v ≤ (place_of r.width p6 v).watch.most → has_number v (place_of r.width p6 v).watch.doubtful ≡ true
      few_on low =
          ap (has_number v) (doubtful6 j at) ∙ ap (λ (w : Watch). has_number v w.doubtful) (watch_risen g r h j at)
          ∙ few_mid (omega (
            arith,
            low,
            ap (λ (w : Watch). count_at w v) (watch6 j at),
            ap (λ (w : Watch). w.most) (watch6 j at),
            most_risen g r h j at,
            k.limit j at,
            count_risen p g x r k h graph small v in_graph,
          ))

    pub kept_on : AreKept r.levels.lifted (cut_of r.width p6 told6)
    kept_on = record {
      began = λ v up. elim (move_of p g x r k h.before v) [
        | goes on none ↦
            let was = began_at p g x r.width r.most r.level_count r.levels.old r.parts.old r.old_told k v (left_here p g x r k h.before v on).3 in
            ap (has_number v) (began6 (range_of r.width v) was.0) ∙ has_number-append v (place_of r.width r.parts.old v).began (place_of r.width r.parts.lifted v).begun ∙ or_left (has_number v (place_of r.width r.parts.old v).began) (has_number v (place_of r.width r.parts.lifted v).begun) (k.kept.began v (left_here p g x r k h.before v on).3)
        | begins off new ↦
            let it = begun_here p g x r k h.before v new in
            let at = (vertex_in p g x r.width r.most r.level_count r.levels.old r.parts.old r.old_told k v it.0).0 in
            ap (has_number v) (began6 (range_of r.width v) at) ∙ has_number-append v (place_of r.width r.parts.old v).began (place_of r.width r.parts.lifted v).begun ∙ or_right (has_number v (place_of r.width r.parts.old v).began) (has_number v (place_of r.width r.parts.lifted v).begun) (begun_home p g x r k h.before graph small v it.0 ∙ new)
        | stays off none ↦ absurd (true≢false (sym up ∙ rises_lifted p g x r k h.before v ∙ or_from (rises r.levels.stopped v) (has_number v (begun_in r.parts.lifted)) off none))
      ];
      own = λ j v at there.
          held6 j v (within j at) (elim (cases_Bool (has_number v (at_place r.parts.old j).began)) [
            | inl was ↦ k.kept.own j v (within j at) was
            | inr none ↦ begun_held j v (within j at) (or_either (has_number v (at_place r.parts.old j).began) (has_number v (at_place r.parts.lifted j).begun) (sym (ap (has_number v) (began6 j (within j at)) ∙ has_number-append v (at_place r.parts.old j).began (at_place r.parts.lifted j).begun) ∙ there) none)
          ]);
      risen = λ j v at there.
          ap (has_number v) (risen6 j (within j at)) ∙ has_number-append v (at_place r.parts.old j).risen (at_place r.parts.lifted j).begun ∙ elim (cases_Bool (has_number v (at_place r.parts.old j).began)) [
            | inl was ↦ or_left (has_number v (at_place r.parts.old j).risen) (has_number v (at_place r.parts.lifted j).begun) (k.kept.risen j v (within j at) was)
            | inr none ↦ or_right (has_number v (at_place r.parts.old j).risen) (has_number v (at_place r.parts.lifted j).begun) (or_either (has_number v (at_place r.parts.old j).began) (has_number v (at_place r.parts.lifted j).begun) (sym (ap (has_number v) (began6 j (within j at)) ∙ has_number-append v (at_place r.parts.old j).began (at_place r.parts.lifted j).begun) ∙ there) none)
          ];
      few = few_on;
      inside = λ j v at there.
          let now : has_number v (mid g r h j (within j at)).watch.doubtful ≡ true = ap (λ (w : Watch). has_number v w.doubtful) (sym (watch_risen g r h j (within j at))) ∙ ap (has_number v) (sym (doubtful6 j (within j at))) ∙ there in
          held6 j v (within j at) (elim ((watched_mid g r h j (within j at)).inside v now) [
            | inr is ↦ held_back_lifted g r h.before j (within j at) v is
            | inl was ↦ elim ((watched_parted g r h.before j (within j at)).inside v (ap (λ (w : Watch). has_number v w.doubtful) (sym (watch_lifted g r h.before j (within j at))) ∙ was)) [
              | inr is ↦ held_back_stopped g r h.before j (within j at) v is
              | inl listed ↦ absurd (true≢false (sym listed ∙ ap (λ (w : Watch). has_number v w.doubtful) (watch_stopped g r h.before j (within j at))))
            ]
          ]);
    }

    pub rest_on : AreAtRest (cut_of r.width p6 told6)
    rest_on = record {
      own = λ j i v w at there.
          let now : has_edge (v, w) (get_or (at_place r.parts.risen j).meetings i []) ≡ true = ap (λ (q : Part). has_edge (v, w) (get_or q.meetings i [])) (sym (taken_at j (within j at))) ∙ there in
          held6 j v (within j at) (elim (cases_lt i 65535) [
            | inr past ↦ absurd (true≢false (sym now ∙ ap (has_edge (v, w)) (past_new p g x r k h graph small few tops j i (within j at) past)))
            | inl low ↦ met_held j i v w (within j at) low now
          ]);
      begun = λ j at. ap (λ (q : Part). q.begun) (taken_at j (within j at)) ∙ begun_risen g r h j (within j at);
      steps = λ j at. ap (λ (q : Part). q.steps) (taken_at j (omega (arith, at, long60)));
    }
      where
        met_held : (j i v w : ℕ) → j < length r.parts.old → i < 65535 → has_edge (v, w) (get_or (at_place r.parts.risen j).meetings i []) ≡ true → HasVertex (at_place r.parts.old j).watch v
        met_held j i v w within low now =
            let is : get_or (at_place r.parts.risen j).meetings i [] ≡ get_or (set (at_place r.parts.lifted j).meetings r.levels.old.level []) i [] ++ flat_map (meetings_of (second_step p g x r k h.before graph small) i) (at_place r.parts.lifted j).begun = ap (λ (m : List (List Pair)). get_or m i []) (meetings_risen g r h j within) ∙ (rose_at g r h j within).risen.meetings.filed i low in
            elim (cases_Bool (has_edge (v, w) (get_or (set (at_place r.parts.lifted j).meetings r.levels.old.level []) i []))) [
              | inl was ↦ k.rest.own j i v w within (ap (λ (m : List (List Pair)). has_edge (v, w) (get_or m i [])) (sym (meetings_lifted g r h.before j within)) ∙ cleared (at_place r.parts.lifted j).meetings r.levels.old.level i (v, w) was)
              | inr none ↦ begun_held j v within (rows_on g r.levels.lifted.stored r.levels.old.level i (at_place r.parts.lifted j).begun v w (or_either (has_edge (v, w) (get_or (set (at_place r.parts.lifted j).meetings r.levels.old.level []) i [])) _ (sym (ap (has_edge (v, w)) is ∙ has_edge-append (v, w) (get_or (set (at_place r.parts.lifted j).meetings r.levels.old.level []) i []) (flat_map (meetings_of (second_step p g x r k h.before graph small) i) (at_place r.parts.lifted j).begun)) ∙ now) none)).0
            ]
