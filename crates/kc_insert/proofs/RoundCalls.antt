-- The step of a sweep, call by call, as its code has it: what each call asks, and what all of them leave.
use Rattle.std.proofs.Common.{ℕ, ◌+◌, ◌^◌, ◌≤◌, ◌<◌, ◌≡◌, Bool, true, List, [], length, get_or, filter, refl, ap, sym, subst, ◌∙◌, arith}
use Rattle.std.specs.Prelude.{All}
use Rattle.std.specs.List.{sum_by}
use Rattle.std.proofs.lemmas.List.{get_or_default}
use Rattle.std.proofs.lemmas.Bool.Decides.{nat_tests}
use Rattle.kc_graph.specs.Numbers.{has_number}
use Rattle.kc_graph.specs.Shape.{GraphShape, IsGraph}
use Rattle.kc_levels.specs.declared.profile.Profile.{Profile}
use Rattle.kc_levels.specs.Thresholds.{high, group_of, top_level}
use Rattle.kc_adj.specs.Degrees.{degrees}
use Rattle.kc_insert.specs.declared.rising.RisingLevels.{RisingLevels}
use Rattle.kc_insert.specs.private.Crossing.{IsCrossing}
use Rattle.kc_insert.specs.private.LevelStep.{AreInOrder, HasLimit, IsLevelStep}
use Rattle.kc_insert.specs.Ranges.{Cut, IsIn, no_part, Part, waits}
use Rattle.kc_insert.specs.private.Ranges.{AllLetStay, AreToldAll, CanLetStay, CanLiftOff, count_of, is_over, LiftedOff, TookWaiting}
use Rattle.kc_insert.specs.private.Rising.{all_at, rises, seen}
use Rattle.kc_insert.specs.private.Sharing.{AllParted, AllRisen, CanPartAll, CanRiseAll}
use Rattle.kc_insert.specs.private.Sweeping.{IsPaid, IsSame, IsSweeping, sweeping_of}
use Rattle.kc_insert.proofs.Members.{few_distinct}
use Rattle.kc_insert.proofs.Bounds.{degrees_few}
use Rattle.kc_insert.proofs.Round.{paid_next, sweeping_next}
use Rattle.kc_insert.proofs.RoundAsks.{ask_lift, ask_movers, ask_part, ask_stay}
use Rattle.kc_insert.proofs.RoundCounts.{level_step}
use Rattle.kc_insert.proofs.RoundLifted.{after_step}
use Rattle.kc_insert.proofs.RoundKept.{counted_same, cut_on, kept_on, rest_on, steps_are}
use Rattle.kc_insert.proofs.RoundParts.{begun_in, count_in, HasLifted, HasPassed, long_lifted, meetings_lifted, Passage, stay_in, step_at}
use Rattle.kc_insert.proofs.RoundRiseAsks.{ask_rise}
use Rattle.kc_insert.proofs.RoundRising.{AreKeeping, begun_here, sized_parted, stay_few}
use Rattle.kc_insert.proofs.SweepSame.{same_paid, same_sweeping}

module _ (p : Profile) (g : GraphShape) (x : List ℕ) (s0 : RisingLevels) (r0 : Cut) (most : ℕ) (order : AreInOrder p g s0 r0) (limit : HasLimit most r0) (i : IsSweeping p g x (sweeping_of s0 r0)) (most_is : most ≡ high p (group_of p g.vertices s0.level)) (graph : IsGraph g) (few : g.vertices ≤ 2 ^ 24) (room : s0.level < top_level p g.vertices) (tops : top_level p g.vertices < 65535) where
  keeping : AreKeeping p g x r0.width most (top_level p g.vertices + 1) s0 r0.parts r0.told
  keeping = record { shape = order.shape; kept = order.kept; rest = order.rest; limit = limit; sweeping = i; most_is = most_is }

  small : s0.level < 65534
  small = omega (arith, room, tops)

  vertices : length (seen s0) ≡ g.vertices
  vertices = i.placed.raising.sized

  module _ (r1 : Cut) (took : TookWaiting s0.level r0.parts r1.parts) (same1 : (r1.width ≡ r0.width) × (r1.told ≡ r0.told)) where
    pub call_movers : (v : ℕ) → has_number v (waits r0 s0.level) ≡ true → IsIn r1 v
    call_movers v there = subst (λ b. IsIn (record { width = b; parts = r1.parts; told = r1.told }) v) (sym same1.0) (ask_movers p g x r0.width most (top_level p g.vertices + 1) s0 r0.parts r0.told keeping r1.parts r1.told took v there)

    pub call_stay : CanLetStay s0 r1.parts
    call_stay = ask_stay p g x r0.width most (top_level p g.vertices + 1) s0 r0.parts r0.told keeping r1.parts took (omega (arith, small)) few

    module _ (starting : List ℕ) (movers : starting ≡ filter (is_over (count_of r1) most) (waits r0 s0.level)) (s1 : RisingLevels) (r2 : Cut) (stopped : AllLetStay s0 s1 r1.parts r2.parts) (same2 : (r2.width ≡ r1.width) × (r2.told ≡ r1.told)) where
      width2 : r2.width ≡ r0.width
      width2 = same2.0 ∙ same1.0

      told2 : r2.told ≡ r0.told
      told2 = same2.1 ∙ same1.1

      movers0 : starting ≡ filter (is_over (count_in r0.width r1.parts) most) (waits r0 s0.level)
      movers0 = subst (λ b. starting ≡ filter (is_over (count_in b r1.parts) most) (waits r0 s0.level)) same1.0 movers

      pub call_part : (dealt : Bool) → CanPartAll (step_at g s1 r2.width s0.level dealt) r2.parts r2.told
      call_part dealt = subst (λ b. CanPartAll (step_at g s1 b s0.level dealt) r2.parts r2.told) (sym width2) (ask_part p g x r0.width most (top_level p g.vertices + 1) s0 r0.parts r0.told keeping r1.parts r2.parts s1 took stopped r2.told dealt graph few (ap (λ ts. length ts) told2 ∙ order.shape.told.0) (λ j e at. ap (λ ts. length (get_or ts j e).lists) told2 ∙ order.shape.told.1 j e at))

      module _ (less : Bool) (r3 : Cut) (parted : AllParted (step_at g s1 r2.width s0.level less) r2.parts r3.parts) (told3 : AreToldAll (length r2.parts) r3.told) (same3 : r3.width ≡ r2.width) (s2 : RisingLevels) (on : s2.level ≡ s0.level + 1) (gone : (risers : List ℕ) → ((v : ℕ) → rises s1 v ≡ has_number v risers) → seen s2 ≡ all_at (seen s1) risers (s0.level + 1)) (still : (v : ℕ) → rises s2 v ≡ rises s1 v) where
        width3 : r3.width ≡ r0.width
        width3 = same3 ∙ width2

        parted0 : AllParted (step_at g s1 r0.width s0.level less) r2.parts r3.parts
        parted0 = subst (λ b. AllParted (step_at g s1 b s0.level less) r2.parts r3.parts) width2 parted

        long2_ : length r2.parts ≡ length r0.parts
        long2_ = stopped.sized ∙ took.sized

        pub call_lift : CanLiftOff s0.level s2 starting r3.width r3.parts
        call_lift = subst (λ b. CanLiftOff s0.level s2 starting b r3.parts) (sym width3) (ask_lift p g x r0.width most (top_level p g.vertices + 1) s0 r0.parts r0.told keeping r1.parts r2.parts s1 took stopped s2 r3.parts starting (parted.sized ∙ long2_) (λ j at. begun_none j at) on gone movers0)
          where
            begun_none : (j : ℕ) → j < length r0.parts → (get_or r3.parts j no_part).begun ≡ []
            begun_none j at = grind (arith, nat_tests, long2_, parted.part, stopped.each)

        module _ (s3 : RisingLevels) (r4 : Cut) (lifted : LiftedOff s0.level s2 s3 starting r3.width r3.parts r4.parts) (same4 : (r4.width ≡ r3.width) × (r4.told ≡ r3.told)) where
          width4 : r4.width ≡ r0.width
          width4 = same4.0 ∙ width3

          abbrev passage : ℕ → Bool → Cut → Passage
          passage above more r5 = record {
            width = r0.width;
            level_count = top_level p g.vertices + 1;
            most = most;
            above = above;
            levels = record { old = s0; stopped = s1; next = s2; lifted = s3 };
            parts = record { old = r0.parts; taken = r1.parts; stopped = r2.parts; parted = r3.parts; lifted = r4.parts; risen = r5.parts };
            old_told = r0.told;
            new_told = r5.told;
            starting = starting;
            less = less;
            more = more;
          }

          has_lifted : (above : ℕ) (more : Bool) (r5 : Cut) → HasLifted g (passage above more r5)
          has_lifted above more r5 = record {
            took = took;
            movers = movers0;
            stopped = stopped;
            parted = parted0;
            gone = gone;
            next = (on, still);
            lifted = subst (λ b. LiftedOff s0.level s2 s3 starting b r3.parts r4.parts) width3 lifted;
          }

          long4_ : length r4.parts ≡ length r0.parts
          long4_ = long_lifted g (passage 0 true r4) (has_lifted 0 true r4)

          pub call_rise_step : (width : ℕ) (more : Bool) → IsCrossing (step_at g s3 width s0.level more)
          call_rise_step width more = record { graph = graph; sized = sized_parted p g x (passage 0 true r4) keeping (has_lifted 0 true r4) ∙ vertices; small = small }

          pub call_meetings : (l : ℕ) → l ≤ s0.level + 1 → All (λ (q : Part). l < length q.meetings) r4.parts
          call_meetings l within j d at = grind (arith, nat_tests, long4_, get_or_default, meetings_lifted, has_lifted)

          pub call_rise : (more : Bool) → CanRiseAll (step_at g s3 r4.width s0.level more) r4.parts r4.told
          call_rise more = subst (λ b. CanRiseAll (step_at g s3 b s0.level more) r4.parts r4.told) (sym width4) (ask_rise p g x (passage 0 more r4) keeping (has_lifted 0 more r4) graph small few room refl r4.told (ap (λ ts. length ts) same4.1 ∙ told3.long ∙ long2_) (λ j e at. ap (λ ts. length (get_or ts j e).lists) same4.1 ∙ told3.lists j e (omega (arith, at, long2_)) ∙ long2_))

          module _ (above : ℕ) (above_is : above ≡ high p (group_of p g.vertices (s0.level + 1))) (more : Bool) (r5 : Cut) (risen : AllRisen (step_at g s3 r4.width s0.level more) above r4.parts r5.parts) (told5 : AreToldAll (length r4.parts) r5.told) (same5 : r5.width ≡ r4.width) where
            has_passed : HasPassed g (passage above more r5)
            has_passed = record {
              before = has_lifted above more r5;
              risen = subst (λ b. AllRisen (step_at g s3 b s0.level more) above r4.parts r5.parts) width4 risen;
            }

            tops_ : top_level p g.vertices + 1 ≤ 65535
            tops_ = omega (arith, tops)

            steps_is : sum_by (λ (q : Part). q.steps) r5.parts ≡ degrees g (stay_in r2.parts) + degrees g (begun_in r4.parts)
            steps_is = steps_are p g x (passage above more r5) keeping has_passed graph small tops_ tops

            pub call_steps : sum_by (λ (q : Part). q.steps) r5.parts < 2 ^ 64
            call_steps = omega (
              arith,
              steps_is,
              degrees_few g graph few (stay_in r2.parts) (few_distinct g.vertices (stay_in r2.parts) stopped.distinct (λ v there. (stay_few p g x (passage above more r5) keeping (has_lifted above more r5) v there).2)),
              degrees_few g graph few (begun_in r4.parts) (few_distinct g.vertices (begun_in r4.parts) lifted.distinct (λ v there. (begun_here p g x (passage above more r5) keeping (has_lifted above more r5) v there).0)),
            )

            module _ (r6 : Cut) (taken : (length r6.parts ≡ length r5.parts) × ((j : ℕ) (d : Part) → j < length r5.parts → get_or r6.parts j d ≡ record (get_or r5.parts j d) { steps = 0 })) (same6 : (r6.width ≡ r5.width) × (r6.told ≡ r5.told)) where
              width6 : r6.width ≡ r0.width
              width6 = same6.0 ∙ same5 ∙ width4

              long5_ : length r5.parts ≡ length r4.parts
              long5_ = risen.sized

              tells : (length r6.told ≡ length r5.parts) × ((j : ℕ) (d : _) → j < length r5.parts → length (get_or r6.told j d).lists ≡ length r5.parts)
              tells = grind (arith, nat_tests, long5_, same6.1, told5.long, told5.lists)

              -- each vertex on the level that counts many goes to the next, and each vertex counts its neighbours there or above
              pub next_step : IsLevelStep g (seen s0) (seen s3) (count_of r0) (count_of r6) s0.level most
              next_step = subst (λ b. IsLevelStep g (seen s0) (seen s3) (count_of r0) (count_of (record { width = b; parts = r6.parts; told = r6.told })) s0.level most) (sym width6) (record {
                sized = step.sized;
                goes = step.goes;
                stays = step.stays;
                others = step.others;
                counted = λ v at. same.count v ∙ step.counted v at;
              })
                where
                  step : IsLevelStep g (seen s0) (seen s3) (count_of r0) (count_in r0.width r5.parts) s0.level most
                  step = level_step p g x (passage above more r5) keeping has_passed graph small

                  same : IsSame (after_step (passage above more r5)) (sweeping_of s3 (record { width = r0.width; parts = r6.parts; told = r6.told }))
                  same = counted_same p g x (passage above more r5) keeping has_passed graph small tops_ tops r6.parts r6.told taken.0 (λ j at. taken.1 j no_part at) tells

              next_order0 : AreInOrder p g s3 (record { width = r0.width; parts = r6.parts; told = r6.told })
              next_order0 = record {
                shape = cut_on p g x (passage above more r5) keeping has_passed graph small tops_ tops r6.parts r6.told taken.0 (λ j at. taken.1 j no_part at) tells;
                kept = kept_on p g x (passage above more r5) keeping has_passed graph small tops_ tops r6.parts r6.told taken.0 (λ j at. taken.1 j no_part at) tells;
                rest = rest_on p g x (passage above more r5) keeping has_passed graph small tops_ tops r6.parts r6.told taken.0 (λ j at. taken.1 j no_part at) tells;
              }

              pub next_order : AreInOrder p g s3 r6
              next_order = subst (λ b. AreInOrder p g s3 (record { width = b; parts = r6.parts; told = r6.told })) (sym width6) next_order0

              pub next_sweeping : IsSweeping p g x (sweeping_of s3 r6)
              next_sweeping = subst (λ b. IsSweeping p g x (sweeping_of s3 (record { width = b; parts = r6.parts; told = r6.told }))) (sym width6) (same_sweeping p g x _ _ (counted_same p g x (passage above more r5) keeping has_passed graph small tops_ tops r6.parts r6.told taken.0 (λ j at. taken.1 j no_part at) tells) (sweeping_next p g x (passage above more r5) keeping has_passed graph small tops_ tops room above_is))

              pub next_paid : (first now : ℕ) → IsPaid g x (sweeping_of s0 r0) first now → IsPaid g x (sweeping_of s3 r6) first (now + sum_by (λ (q : Part). q.steps) r5.parts)
              next_paid first now paid = subst (λ b. IsPaid g x (sweeping_of s3 (record { width = b; parts = r6.parts; told = r6.told })) first (now + sum_by (λ (q : Part). q.steps) r5.parts)) (sym width6) (same_paid g x _ _ first _ (counted_same p g x (passage above more r5) keeping has_passed graph small tops_ tops r6.parts r6.told taken.0 (λ j at. taken.1 j no_part at) tells) (paid_next p g x (passage above more r5) keeping has_passed graph small tops_ tops first now paid))
