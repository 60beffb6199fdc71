-- The step of a sweep from its level to the next keeps what is stated of the sweep.
use Rattle.std.proofs.Common.{ℕ, ◌+◌, ◌*◌, ◌≤◌, ◌<◌, ◌≡◌, ◌≢◌, ◌⊎◌, Bool, true, false, not, ◌&&◌, ◌||◌, List, length, get_or, filter, ap, sym, ◌∙◌, arith, subst}
use Rattle.std.proofs.lemmas.Bool.{cases_Bool, or_right, true≢false}
use Rattle.std.proofs.lemmas.Bool.Decides.{nat_tests}
use Rattle.std.proofs.lemmas.List.{get_or_past}
use Rattle.std.proofs.lemmas.Grind.{same_number_lists}
use Rattle.kc_graph.specs.Numbers.{has_number}
use Rattle.kc_graph.specs.Shape.{GraphShape, IsGraph, neighbours_of}
use Rattle.kc_levels.specs.declared.profile.Profile.{Profile}
use Rattle.kc_levels.specs.Thresholds.{high, group_of, top_level}
use Rattle.kc_levels.specs.LevelList.{at_least, MeetsUpper}
use Rattle.kc_levels.specs.Following.{AreDistinct}
use Rattle.kc_levels.specs.Moved.{is_moved}
use Rattle.kc_levels.proofs.lemmas.AtLeast.{below_everywhere}
use Rattle.kc_levels.proofs.lemmas.Raising.{raising_many}
use Rattle.kc_adj.specs.Degrees.{degrees}
use Rattle.kc_insert.specs.Effort.{effort}
use Rattle.kc_insert.specs.private.LevelStep.{ArePassed, HasStepped}
use Rattle.kc_insert.specs.private.Rising.{all_at}
use Rattle.kc_insert.specs.private.Sweeping.{AreAwaited, AreRising, IsAwaited, IsPaid, IsPlaced, IsSweeping, Sweeping}
use Rattle.kc_insert.proofs.Buckets.{has_number-filter}
use Rattle.kc_insert.proofs.Efforts.{effort_up}
use Rattle.kc_insert.proofs.Tests.{count_agree, less_differs, or_either}
use Rattle.kc_insert.proofs.Lifting.{length-all_at, all_at_here, all_at_other}
use Rattle.kc_insert.proofs.Members.{distinct_filter, weigh, weigh_degrees, weigh_length, weigh_parts}

-- what is stated of a sweep, for one vertex
module _ (p : Profile) (g : GraphShape) (x : List ℕ) (s : Sweeping) (i : IsSweeping p g x s) where
  pub under : (v : ℕ) → get_or x v 0 ≤ get_or s.levels v 0
  under v = below_everywhere g.vertices x s.levels v i.placed.start i.placed.raising.from

  -- a vertex on another level doesn't rise
  pub off_level : (v : ℕ) → get_or s.levels v 0 ≢ s.level → has_number v s.rising ≡ false
  off_level v off = grind (arith, nat_tests)

  -- a vertex that stood on the level or above doesn't rise, and is there
  pub stood_above : (v : ℕ) → s.level ≤ get_or x v 0 → (has_number v s.rising ≡ false) × (get_or s.levels v 0 ≡ get_or x v 0)
  stood_above v at = grind (arith, nat_tests, under)

  pub waits_here : (k v : ℕ) → s.level ≤ k → has_number v (s.waits k) ≡ true → (v < g.vertices) × (get_or x v 0 ≡ k) × (get_or s.levels v 0 ≡ k) × (has_number v s.rising ≡ false)
  waits_here k v at there = grind (arith, nat_tests, stood_above)

  -- a vertex that rose stood below the level
  pub rose_below : (v : ℕ) → has_number v s.risen ≡ true → (v < g.vertices) × (get_or x v 0 < s.level)
  rose_below v rose = grind (arith, nat_tests, get_or_past, stood_above)

  pub rises_rose : (v : ℕ) → has_number v s.rising ≡ true → has_number v s.risen ≡ true
  rises_rose v there = let it = i.rise.came v there in i.rise.moved v ∙ less_differs (get_or x v 0) (get_or s.levels v 0) (omega (arith, it.1, it.2))

  pub count_at_level : (v k : ℕ) → v < g.vertices → get_or s.levels v 0 ≡ k → s.count v ≡ at_least g s.levels v k
  count_at_level v k h on = i.awaited.counted v h ∙ ap (at_least g s.levels v) on

  -- a vertex that counts no more than its group allows meets the upper invariant, and one that counts more doesn't
  pub few_meets : (v k : ℕ) → v < g.vertices → get_or s.levels v 0 ≡ k → s.count v ≤ high p (group_of p g.vertices k) → MeetsUpper p g s.levels v
  few_meets v k h on few = subst (λ j. at_least g s.levels v j ≤ high p (group_of p g.vertices j)) (sym on) (omega (arith, few, count_at_level v k h on))

  pub many_breaks : (v k : ℕ) → v < g.vertices → get_or s.levels v 0 ≡ k → high p (group_of p g.vertices k) < s.count v → ¬ (MeetsUpper p g s.levels v)
  many_breaks v k h on many meets = grind (arith, nat_tests, count_at_level)

module _ (p : Profile) (g : GraphShape) (x : List ℕ) (s t : Sweeping) (most above : ℕ) (i : IsSweeping p g x s) (r : HasStepped g x s t most above) where
  long : length t.levels ≡ g.vertices
  long = r.step.sized ∙ i.placed.raising.sized

  past_end : (v : ℕ) → g.vertices ≤ v → get_or t.levels v 0 ≡ get_or s.levels v 0
  past_end v past = get_or_past t.levels v 0 (omega (arith, past, long)) ∙ sym (get_or_past s.levels v 0 (omega (arith, past, i.placed.raising.sized)))

  -- a vertex goes to the next level, or it is where it was
  abbrev IsCase : ℕ → Type 0
  IsCase v = ((v < g.vertices) × (get_or s.levels v 0 ≡ s.level) × (most < s.count v) × (get_or t.levels v 0 ≡ s.level + 1) × (has_number v t.rising ≡ true)) ⊎ ((get_or t.levels v 0 ≡ get_or s.levels v 0) × (has_number v t.rising ≡ false) × (v < g.vertices → get_or s.levels v 0 ≡ s.level → s.count v ≤ most))

  pub case_of : (v : ℕ) → IsCase v
  case_of v = grind (arith, nat_tests, past_end, true≢false, r.lifted.rise, r.step.goes, r.step.others, r.step.stays, r.lifted.all)

  -- the number of neighbours from a level on is the same in both lists, but for the level that some come to
  same_count : (v k : ℕ) → k ≢ s.level + 1 → at_least g s.levels v k ≡ at_least g t.levels v k
  unfolding at_least
  same_count v k ne = grind (arith, nat_tests, count_agree, case_of)

  came_on : (v : ℕ) → has_number v t.rising ≡ true → (v < g.vertices) × (get_or t.levels v 0 ≡ t.level) × (get_or x v 0 < t.level)
  came_on v there = grind (arith, nat_tests, under, r.lifted.rise, r.step.goes, r.level)

  stood_on : (v : ℕ) → t.level ≤ get_or t.levels v 0 → has_number v t.rising ≡ false → get_or t.levels v 0 ≡ get_or x v 0
  stood_on v at none = grind (arith, nat_tests, case_of, true≢false, off_level, i.placed.stood, r.level)

  moved_on : (v : ℕ) → has_number v t.risen ≡ is_moved x t.levels v
  moved_on v = grind (arith, nat_tests, case_of, less_differs, under, r.lifted.risen, i.rise.moved)

  module _ (graph : IsGraph g) (room : s.level < top_level p g.vertices) (most_is : most ≡ high p (group_of p g.vertices s.level)) (above_is : above ≡ high p (group_of p g.vertices (s.level + 1))) where
    placed_on : IsPlaced p g x t
    placed_on = record {
      start = i.placed.start;
      raising = raising_many p g x s.levels t.levels graph i.placed.raising long (λ v h. grind (arith, nat_tests, case_of v, case_of, many_breaks));
      stood = stood_on;
    }

    rising_on : AreRising g x t
    rising_on = record { came = came_on; distinct = r.lifted.distinct; moved = moved_on; once = r.lifted.once }

    meets_still : (v : ℕ) → get_or t.levels v 0 ≡ get_or s.levels v 0 → get_or s.levels v 0 ≢ s.level + 1 → MeetsUpper p g s.levels v → MeetsUpper p g t.levels v
    meets_still v same off meets = subst (λ k. at_least g t.levels v k ≤ high p (group_of p g.vertices k)) (sym same) (omega (arith, meets, same_count v (get_or s.levels v 0) off))

    -- a vertex that stood on the next level
    found_next : (v : ℕ) → v < g.vertices → get_or s.levels v 0 ≡ s.level + 1 → get_or t.levels v 0 ≡ s.level + 1 → MeetsUpper p g t.levels v ⊎ IsAwaited t v
    found_next v h on now = grind (arith, nat_tests, off_level, many_breaks, true≢false, r.step.counted, r.level, r.waiting.noted, i.placed.stood, i.awaited.found, r.waiting.still)

    found_on : (v : ℕ) → v < g.vertices → MeetsUpper p g t.levels v ⊎ IsAwaited t v
    found_on v h = grind (arith, nat_tests, case_of, meets_still, few_meets, found_next, i.awaited.found, i.rise.came, r.level, r.waiting.still)

    awaited_on : AreAwaited p g x t
    awaited_on = record {
      counted = r.step.counted;
      waiting = λ k v at there. grind (arith, nat_tests, r.waiting.only, r.level, i.awaited.waiting);
      found = found_on;
      met = λ k v w at there. grind (arith, nat_tests, or_right, r.meeting.only, r.level, i.awaited.met, r.lifted.risen);
      each = λ k v w at rose it. grind (arith, nat_tests, or_either, r.meeting.still, r.level, i.awaited.each, r.lifted.risen, i.rise.moved, r.meeting.each, r.lifted.rise);
      apart = λ k at. r.meeting.apart k (omega (arith, at, r.level));
    }

    -- a step keeps what is stated of the sweep
    pub stepped : IsSweeping p g x t
    stepped = record { placed = placed_on; rise = rising_on; awaited = awaited_on }

  -- the levels after the step
  levels_are : t.levels ≡ all_at s.levels t.rising (s.level + 1)
  levels_are = grind (arith, nat_tests, same_number_lists, length-all_at, case_of, all_at_here, all_at_other, r.step.sized, i.placed.raising.sized)

  module _ (stay begun : List ℕ) (passed : ArePassed s t stay begun) (f : ℕ → ℕ) where
    -- the vertices that rose, and those that began
    risen_parts : weigh f t.risen ≡ weigh f s.risen + weigh f begun
    risen_parts = weigh_parts f t.risen s.risen begun r.lifted.once i.rise.once passed.begun_once
        (λ v rose. passed.begins v ∙ fresh v rose)
        (λ v. r.lifted.risen v ∙ all v (cases_Bool (has_number v s.rising)))
      where
        fresh : (v : ℕ) → has_number v s.risen ≡ true → has_number v t.rising && not (has_number v s.rising) ≡ false
        fresh v rose = grind (arith, nat_tests, rose_below, r.lifted.rise, i.placed.stood)

        all : (v : ℕ) → (has_number v s.rising ≡ true) ⊎ (has_number v s.rising ≡ false) → has_number v s.risen || has_number v t.rising ≡ has_number v s.risen || has_number v begun
        all v it = grind (arith, nat_tests, rises_rose, passed.begins)

    abbrev up : List ℕ
    up = filter (λ v. has_number v t.rising) s.rising

    up_once : AreDistinct up
    up_once = distinct_filter (λ v. has_number v t.rising) s.rising i.rise.distinct

    up_is : (v : ℕ) → has_number v up ≡ has_number v s.rising && has_number v t.rising
    up_is v = has_number-filter v (λ u. has_number u t.rising) s.rising

    -- of the vertices that came to the level some go on and some stay
    came_parts : weigh f s.rising ≡ weigh f up + weigh f stay
    came_parts = weigh_parts f s.rising up stay i.rise.distinct up_once passed.stay_once
        (λ v there. passed.stays v ∙ apart (has_number v s.rising) (has_number v t.rising) (sym (up_is v) ∙ there))
        (λ v. parts (has_number v s.rising) (has_number v t.rising) ∙ ap (λ b. b || (has_number v s.rising && not (has_number v t.rising))) (sym (up_is v)) ∙ ap (λ b. has_number v up || b) (sym (passed.stays v)))
      where
        apart : (a b : Bool) → a && b ≡ true → a && not b ≡ false
        apart a b e = grind (arith, nat_tests, e)

        parts : (a b : Bool) → a ≡ (a && b) || (a && not b)
        parts a b = grind (arith, nat_tests)

    -- the vertices that rise go on or begin
    rise_parts : weigh f t.rising ≡ weigh f up + weigh f begun
    rise_parts = weigh_parts f t.rising up begun r.lifted.distinct up_once passed.begun_once
        (λ v there. passed.begins v ∙ apart (has_number v s.rising) (has_number v t.rising) (sym (up_is v) ∙ there))
        (λ v. parts (has_number v s.rising) (has_number v t.rising) ∙ ap (λ b. b || (has_number v t.rising && not (has_number v s.rising))) (sym (up_is v)) ∙ ap (λ b. has_number v up || b) (sym (passed.begins v)))
      where
        apart : (a b : Bool) → a && b ≡ true → b && not a ≡ false
        apart a b e = grind (arith, nat_tests, e)

        parts : (a b : Bool) → b ≡ (a && b) || (b && not a)
        parts a b = grind (arith, nat_tests)

  -- a step keeps what is stated of the steps: each vertex that stays or begins costs a pass over its neighbours
  pub paid_on : (stay begun : List ℕ) (first now : ℕ) → ArePassed s t stay begun → IsPaid g x s first now → IsPaid g x t first (now + (degrees g stay + degrees g begun))
  paid_on stay begun first now passed paid =
      let more : effort g x t.levels g.vertices ≡ effort g x s.levels g.vertices + (3 * degrees g t.rising + length t.rising) = ap (λ z. effort g x z g.vertices) levels_are ∙ effort_up g x s.levels t.rising s.level g.vertices r.lifted.distinct (λ v there.
      let it = r.lifted.rise v there in
      (it.0, omega (arith, it.0, i.placed.raising.sized), it.1, omega (arith, under p g x s i v, it.1))) in
      let d : ℕ → ℕ = λ v. length (neighbours_of v g.edges) in
      omega (
        arith,
        paid,
        more,
        risen_parts stay begun passed d,
        risen_parts stay begun passed (λ v. 1),
        came_parts stay begun passed d,
        rise_parts stay begun passed d,
        rise_parts stay begun passed (λ v. 1),
        weigh_degrees g stay,
        weigh_degrees g begun,
        weigh_degrees g t.rising,
        weigh_degrees g s.rising,
        weigh_degrees g t.risen,
        weigh_degrees g s.risen,
        weigh_length begun,
        weigh_length t.risen,
        weigh_length s.risen,
        weigh_length t.rising,
      )
