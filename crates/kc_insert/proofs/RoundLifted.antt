-- A step of a sweep: the levels, the vertices that rise and those that rose afterwards.
use Rattle.std.proofs.Common.{ℕ, ◌+◌, ◌≤◌, ◌<◌, ◌≡◌, ◌≢◌, ◌⊎◌, inl, inr, true, false, cond, not, ◌&&◌, ◌||◌, List, ◌++◌, length, get_or, ap, sym, ◌∙◌, arith}
use Rattle.std.specs.List.{flat_map}
use Rattle.std.proofs.lemmas.Bool.{and_from, and_right, cases_Bool, lt-ltb, or_from, or_left, or_right, true≢false}
use Rattle.std.proofs.lemmas.Bool.Decides.{nat_tests}
use Rattle.kc_graph.specs.Numbers.{has_number}
use Rattle.kc_graph.specs.Shape.{GraphShape}
use Rattle.kc_levels.specs.declared.profile.Profile.{Profile}
use Rattle.kc_insert.specs.private.LevelStep.{AreLifted, ArePassed}
use Rattle.kc_insert.specs.Ranges.{Part}
use Rattle.kc_insert.specs.private.Rising.{rises, seen}
use Rattle.kc_insert.specs.private.Sweeping.{Sweeping, sweeping_of}
use Rattle.kc_insert.specs.private.Telling.{times}
use Rattle.kc_insert.proofs.Adding.{times-filter, times_none}
use Rattle.kc_insert.proofs.Buckets.{has_number-filter}
use Rattle.kc_insert.proofs.Joined.{distinct_times, has_joined, joined_in, joined_of, joined_same, times_distinct, times_joined}
use Rattle.kc_insert.proofs.RoundParts.{begun_in, began_lifted, began_risen, count_in, HasPassed, long_lifted, long_risen, Passage, risen_lifted, risen_all, stay_in, waits_in}
use Rattle.kc_insert.proofs.RoundRising.{AreKeeping, began_at, began_in, begun_fresh, begun_here, begun_is, cut_of, left_here, left_is, listed, move_of, goes, begins, stays, risen_in, rises_lifted, seen_begun, seen_on, seen_same, stay_few}
use Rattle.kc_insert.proofs.Stepping.{many_breaks, rises_rose}
use Rattle.kc_insert.proofs.Tests.{and_on, or_off}

-- the sweep before and after a step
abbrev pub before_step : Passage → Sweeping
before_step r = sweeping_of r.levels.old (cut_of r.width r.parts.old r.old_told)

abbrev pub after_step : Passage → Sweeping
after_step r = sweeping_of r.levels.lifted (cut_of r.width r.parts.risen r.new_told)

module _ (p : Profile) (g : GraphShape) (x : List ℕ) (r : Passage) (k : AreKeeping p g x r.width r.most r.level_count r.levels.old r.parts.old r.old_told) (h : HasPassed g r) where
  listed_old : (v : ℕ) → has_number v (before_step r).rising ≡ rises r.levels.old v
  listed_old v = listed p g x r.width r.most r.level_count r.levels.old r.parts.old r.old_told k v

  -- each vertex on the level that counts many goes on or begins
  many_move : (v : ℕ) → v < g.vertices → get_or (seen r.levels.old) v 0 ≡ r.levels.old.level → r.most < count_in r.width r.parts.old v → (rises r.levels.stopped v ≡ true) ⊎ (has_number v (begun_in r.parts.lifted) ≡ true)
  many_move v at on many = elim (cases_Bool (rises r.levels.old v)) [
    | inl up ↦ inl (left_is p g x r k h.before v ∙ and_from (rises r.levels.old v) _ up (lt-ltb r.most (count_in r.width r.parts.old v) many))
    | inr none ↦ elim (k.sweeping.awaited.found v at) [
      | inl meets ↦ absurd (many_breaks p g x (before_step r) k.sweeping v r.levels.old.level at on (omega (arith, many, k.most_is)) meets)
      | inr (inl rises_) ↦ absurd (true≢false (sym rises_ ∙ listed_old v ∙ none))
      | inr (inr waits) ↦ grind (arith, nat_tests, waits_in, begun_is, and_from, lt-ltb, waits.1, h.before, waits)
    ]
  ]

  pub step_goes : (v : ℕ) → v < g.vertices → get_or (seen r.levels.old) v 0 ≡ r.levels.old.level → r.most < count_in r.width r.parts.old v → get_or (seen r.levels.lifted) v 0 ≡ r.levels.old.level + 1
  step_goes v at on many = elim (many_move v at on many) [ inl up ↦ seen_on p g x r k h.before v up | inr there ↦ seen_begun p g x r k h.before v there ]

  pub step_stays : (v : ℕ) → v < g.vertices → get_or (seen r.levels.old) v 0 ≡ r.levels.old.level → count_in r.width r.parts.old v ≤ r.most → get_or (seen r.levels.lifted) v 0 ≡ r.levels.old.level
  step_stays v at on few = elim (move_of p g x r k h.before v) [
    | goes up none ↦ absurd (omega (arith, few, (left_here p g x r k h.before v up).4))
    | begins off there ↦ absurd (omega (arith, few, (begun_here p g x r k h.before v there).4))
    | stays off none ↦ seen_same p g x r k h.before v off none ∙ on
  ]

  pub step_others : (v : ℕ) → get_or (seen r.levels.old) v 0 ≢ r.levels.old.level → get_or (seen r.levels.lifted) v 0 ≡ get_or (seen r.levels.old) v 0
  step_others v off_ = elim (move_of p g x r k h.before v) [
    | goes up none ↦ absurd (off_ (left_here p g x r k h.before v up).1)
    | begins off there ↦ absurd (off_ (begun_here p g x r k h.before v there).2)
    | stays off none ↦ seen_same p g x r k h.before v off none
  ]

  -- the lists of all ranges
  long_rise : length r.parts.risen ≡ length r.parts.lifted
  long_rise = long_risen g r h ∙ sym (long_lifted g r h.before)

  within : (j : ℕ) → j < length r.parts.lifted → j < length r.parts.old
  within j at = omega (arith, at, long_lifted g r h.before)

  began_before : began_in r.parts.lifted ≡ began_in r.parts.old
  began_before = joined_same (λ (q : Part). q.began) (λ (q : Part). q.began) r.parts.lifted r.parts.old (long_lifted g r h.before) (λ j at. began_lifted g r h.before j at)

  began_after : began_in r.parts.risen ≡ flat_map (λ (q : Part). q.began ++ q.begun) r.parts.lifted
  began_after = joined_same (λ (q : Part). q.began) (λ (q : Part). q.began ++ q.begun) r.parts.risen r.parts.lifted long_rise (λ j at. began_risen g r h j (within j at))

  risen_before : risen_in r.parts.lifted ≡ risen_in r.parts.old
  risen_before = joined_same (λ (q : Part). q.risen) (λ (q : Part). q.risen) r.parts.lifted r.parts.old (long_lifted g r h.before) (λ j at. risen_lifted g r h.before j at)

  risen_after : risen_in r.parts.risen ≡ flat_map (λ (q : Part). q.risen ++ q.begun) r.parts.lifted
  risen_after = joined_same (λ (q : Part). q.risen) (λ (q : Part). q.risen ++ q.begun) r.parts.risen r.parts.lifted long_rise (λ j at. risen_all g r h j (within j at))

  has_began : (v : ℕ) → has_number v (began_in r.parts.risen) ≡ has_number v (began_in r.parts.old) || has_number v (begun_in r.parts.lifted)
  has_began v = ap (has_number v) began_after ∙ has_joined v (λ (q : Part). q.began) (λ (q : Part). q.begun) r.parts.lifted ∙ ap (λ vs. has_number v vs || has_number v (begun_in r.parts.lifted)) began_before

  has_risen : (v : ℕ) → has_number v (risen_in r.parts.risen) ≡ has_number v (risen_in r.parts.old) || has_number v (begun_in r.parts.lifted)
  has_risen v = ap (has_number v) risen_after ∙ has_joined v (λ (q : Part). q.risen) (λ (q : Part). q.begun) r.parts.lifted ∙ ap (λ vs. has_number v vs || has_number v (begun_in r.parts.lifted)) risen_before

  times_began : (v : ℕ) → times v (began_in r.parts.risen) ≡ times v (began_in r.parts.old) + times v (begun_in r.parts.lifted)
  times_began v = ap (times v) began_after ∙ times_joined v (λ (q : Part). q.began) (λ (q : Part). q.begun) r.parts.lifted ∙ ap (λ vs. times v vs + times v (begun_in r.parts.lifted)) began_before

  times_risen : (v : ℕ) → times v (risen_in r.parts.risen) ≡ times v (risen_in r.parts.old) + times v (begun_in r.parts.lifted)
  times_risen v = ap (times v) risen_after ∙ times_joined v (λ (q : Part). q.risen) (λ (q : Part). q.begun) r.parts.lifted ∙ ap (λ vs. times v vs + times v (begun_in r.parts.lifted)) risen_before

  began_rose : (v : ℕ) → has_number v (began_in r.parts.old) ≡ true → has_number v (risen_in r.parts.old) ≡ true
  began_rose v there =
      let it = joined_in (λ (q : Part). q.began) r.parts.old v there in
      joined_of (λ (q : Part). q.risen) r.parts.old v it.0 it.1 (k.kept.risen it.0 v it.1 it.2)

  begun_new : (v : ℕ) → has_number v (begun_in r.parts.lifted) ≡ true → has_number v (began_in r.parts.old) ≡ false
  begun_new v there = elim (cases_Bool (has_number v (began_in r.parts.old))) [
    | inr none ↦ none
    | inl was ↦ absurd (true≢false (sym (began_rose v was) ∙ begun_fresh p g x r k h.before v there))
  ]

  -- the vertices that rise are those in the list
  pub listed_lifted : (v : ℕ) → has_number v (after_step r).rising ≡ rises r.levels.lifted v
  listed_lifted v = has_number-filter v (rises r.levels.lifted) (began_in r.parts.risen) ∙ elim (cases_Bool (rises r.levels.lifted v)) [
    | inr none ↦ and_right (has_number v (began_in r.parts.risen)) (rises r.levels.lifted v) none ∙ sym none
    | inl up ↦ and_on (has_number v (began_in r.parts.risen)) (rises r.levels.lifted v) (has_began v ∙ elim (move_of p g x r k h.before v) [
      | goes on none ↦ or_left (has_number v (began_in r.parts.old)) (has_number v (begun_in r.parts.lifted)) (began_at p g x r.width r.most r.level_count r.levels.old r.parts.old r.old_told k v (left_here p g x r k h.before v on).3).1
      | begins off there ↦ or_right (has_number v (began_in r.parts.old)) (has_number v (begun_in r.parts.lifted)) there
      | stays off none ↦ absurd (true≢false (sym up ∙ rises_lifted p g x r k h.before v ∙ or_from (rises r.levels.stopped v) (has_number v (begun_in r.parts.lifted)) off none))
    ])
  ]

  rising_is : (v : ℕ) → has_number v (after_step r).rising ≡ rises r.levels.stopped v || has_number v (begun_in r.parts.lifted)
  rising_is v = listed_lifted v ∙ rises_lifted p g x r k h.before v

  pub lifted : AreLifted g (before_step r) (after_step r) r.most
  lifted = record {
    rise = λ v there. elim (move_of p g x r k h.before v) [
      | goes on none ↦ let it = left_here p g x r k h.before v on in (it.0, it.1, it.4)
      | begins off new ↦ let it = begun_here p g x r k h.before v new in (it.0, it.2, it.4)
      | stays off none ↦ absurd (true≢false (sym there ∙ rising_is v ∙ or_from (rises r.levels.stopped v) (has_number v (begun_in r.parts.lifted)) off none))
    ];
    all = λ v at on many. rising_is v ∙ elim (many_move v at on many) [
      | inl up ↦ or_left (rises r.levels.stopped v) (has_number v (begun_in r.parts.lifted)) up
      | inr new ↦ or_right (rises r.levels.stopped v) (has_number v (begun_in r.parts.lifted)) new
    ];
    distinct = distinct_times (after_step r).rising (λ v. elim (cases_Bool (rises r.levels.lifted v)) [
      | inr none ↦ omega (arith, times-filter v (rises r.levels.lifted) (began_in r.parts.risen), ap (λ b. cond b (times v (began_in r.parts.risen)) 0) none)
      | inl up ↦ omega (arith, times-filter v (rises r.levels.lifted) (began_in r.parts.risen), ap (λ b. cond b (times v (began_in r.parts.risen)) 0) up, times_began v, once v up)
    ]);
    risen = λ v. has_risen v ∙ elim (move_of p g x r k h.before v) [
      | goes on none ↦
          let rose : has_number v (risen_in r.parts.old) ≡ true = rises_rose p g x (before_step r) k.sweeping v (listed_old v ∙ (left_here p g x r k h.before v on).3) in
          or_left (has_number v (risen_in r.parts.old)) (has_number v (begun_in r.parts.lifted)) rose ∙ sym (or_left (has_number v (risen_in r.parts.old)) (has_number v (after_step r).rising) rose)
      | begins off new ↦ ap (λ b. has_number v (risen_in r.parts.old) || b) (new ∙ sym (rising_is v ∙ or_right (rises r.levels.stopped v) (has_number v (begun_in r.parts.lifted)) new))
      | stays off none ↦ ap (λ b. has_number v (risen_in r.parts.old) || b) (none ∙ sym (rising_is v ∙ or_from (rises r.levels.stopped v) (has_number v (begun_in r.parts.lifted)) off none))
    ];
    once = distinct_times (risen_in r.parts.risen) (λ v. elim (cases_Bool (has_number v (begun_in r.parts.lifted))) [
      | inr none ↦ omega (arith, times_risen v, times_none v (begun_in r.parts.lifted) none, times_distinct v (risen_in r.parts.old) k.sweeping.rise.once)
      | inl new ↦ omega (arith, times_risen v, times_none v (risen_in r.parts.old) (begun_fresh p g x r k h.before v new), times_distinct v (begun_in r.parts.lifted) h.before.lifted.distinct)
    ]);
  }
    where
      once : (v : ℕ) → rises r.levels.lifted v ≡ true → times v (began_in r.parts.old) + times v (begun_in r.parts.lifted) ≤ 1
      once v up = elim (cases_Bool (has_number v (begun_in r.parts.lifted))) [
        | inl new ↦ omega (arith, times_none v (began_in r.parts.old) (begun_new v new), times_distinct v (begun_in r.parts.lifted) h.before.lifted.distinct)
        | inr none ↦
            let on : rises r.levels.stopped v ≡ true = sym (or_off (rises r.levels.stopped v) (has_number v (begun_in r.parts.lifted)) none) ∙ sym (rises_lifted p g x r k h.before v) ∙ up in
            let was : rises r.levels.old v ≡ true = (left_here p g x r k h.before v on).3 in
            omega (
              arith,
              times_none v (begun_in r.parts.lifted) none,
              times-filter v (rises r.levels.old) (began_in r.parts.old),
              ap (λ b. cond b (times v (began_in r.parts.old)) 0) was,
              times_distinct v (before_step r).rising k.sweeping.rise.distinct,
            )
      ]

  few_out : (v : ℕ) → count_in r.width r.parts.old v ≤ r.most → rises r.levels.stopped v || has_number v (begun_in r.parts.lifted) ≡ false
  few_out v few = elim (move_of p g x r k h.before v) [
    | goes on none ↦ absurd (omega (arith, few, (left_here p g x r k h.before v on).4))
    | begins off new ↦ absurd (omega (arith, few, (begun_here p g x r k h.before v new).4))
    | stays off none ↦ or_from (rises r.levels.stopped v) (has_number v (begun_in r.parts.lifted)) off none
  ]

  not_staying : (v : ℕ) → has_number v (stay_in r.parts.stopped) ≡ false → has_number v (before_step r).rising && not (has_number v (after_step r).rising) ≡ false
  not_staying v gone = elim (cases_Bool (rises r.levels.old v)) [
    | inr none ↦ ap (λ b. b && not (has_number v (after_step r).rising)) (listed_old v ∙ none)
    | inl was ↦ and_right (has_number v (before_step r).rising) (not (has_number v (after_step r).rising)) (ap not (rising_is v ∙ or_left (rises r.levels.stopped v) (has_number v (begun_in r.parts.lifted)) (h.before.stopped.rises_on v ∙ and_from (rises r.levels.old v) (not (has_number v (stay_in r.parts.stopped))) was (ap not gone))))
  ]

  -- the vertices that stay, and those that begin
  pub passed : ArePassed (before_step r) (after_step r) (stay_in r.parts.stopped) (begun_in r.parts.lifted)
  passed = record {
    stays = λ v. elim (cases_Bool (has_number v (stay_in r.parts.stopped))) [
      | inl there ↦ grind (arith, nat_tests, stay_few, and_from, listed_old, rising_is, few_out, h.before, there)
      | inr gone ↦ gone ∙ sym (not_staying v gone)
    ];
    begins = λ v. elim (move_of p g x r k h.before v) [
      | goes on none ↦ none ∙ sym (and_right (has_number v (after_step r).rising) (not (has_number v (before_step r).rising)) (ap not (listed_old v ∙ (left_here p g x r k h.before v on).3)))
      | begins off new ↦ new ∙ sym (and_from (has_number v (after_step r).rising) (not (has_number v (before_step r).rising)) (rising_is v ∙ or_right (rises r.levels.stopped v) (has_number v (begun_in r.parts.lifted)) new) (ap not (listed_old v ∙ (begun_here p g x r k h.before v new).3)))
      | stays off none ↦ none ∙ sym (ap (λ b. b && not (has_number v (before_step r).rising)) (rising_is v ∙ or_from (rises r.levels.stopped v) (has_number v (begun_in r.parts.lifted)) off none))
    ];
    stay_once = h.before.stopped.distinct;
    begun_once = h.before.lifted.distinct;
  }
