-- Vertices that begin to rise, one after another, each in its range.
use Rattle.std.proofs.Common.{ℕ, suc, ◌+◌, ◌≤◌, ◌<◌, ◌≡◌, ◌≢◌, inl, inr, Bool, true, cond, eqb, ◌||◌, List, [], ◌∷◌, ◌++◌, length, get_or, set, refl, ap, sym, subst, ◌∙◌, arith}
use Rattle.std.specs.List.{flat_map}
use Rattle.std.proofs.lemmas.Bool.{cases_Bool, cases_eq, cases_lt, eq-eqb, ne_eqb, true≢false}
use Rattle.std.proofs.lemmas.Bool.Decides.{nat_tests}
use Rattle.std.proofs.lemmas.List.{append-nil, get_or-set_other, get_or-set_same, get_or_default, length-append, length-set}
use Rattle.std.proofs.lemmas.List.Elements.{filter-append}
use Rattle.std.proofs.lemmas.Grind.{same_number_lists}
use Rattle.kc_graph.specs.Numbers.{has_number}
use Rattle.kc_graph.proofs.lemmas.Numbers.{has_number_at, has_number-push}
use Rattle.kc_insert.specs.declared.rising.RisingLevels.{RisingLevels}
use Rattle.kc_insert.specs.Ranges.{no_part, Part, range_of}
use Rattle.kc_insert.specs.private.Ranges.{CanLiftOff, LiftedOff}
use Rattle.kc_insert.specs.private.Rising.{all_at, rises, seen}
use Rattle.kc_insert.specs.private.Telling.{in_range, times}
use Rattle.kc_insert.proofs.Joined.{distinct_times, flat_has, length_set, of_one, times_distinct}
use Rattle.kc_insert.proofs.Adding.{in_range_times, times-append, times-filter, times_some, times_there}
use Rattle.kc_insert.proofs.Lifting.{all_at_here, all_at_other, IsLiftingOff, length-all_at, lifting_comes, lifting_first, lifting_inside, lifting_same, lifting_stays}
use Rattle.kc_insert.proofs.Shared.{in_range_has}

-- of the vertices in the list those before the place i have begun, each once and in its range; `count` counts them
pub record IsStarting (level : ℕ) (before now : RisingLevels) (vertices : List ℕ) (width i count : ℕ) (old new : List Part) : Type 0 where
  pub lifted : List ℕ
  pub off : IsLiftingOff (seen before) vertices level i (seen now) lifted
  pub on : now.level ≡ before.level
  pub rising : (v : ℕ) → rises now v ≡ (rises before v || has_number v lifted)
  pub sized : length new ≡ length old
  pub each : (j : ℕ) (d : Part) → j < length old → get_or new j d ≡ record (get_or old j d) { begun = in_range width j lifted }
  pub counted : count ≡ length (flat_map (λ (p : Part). p.begun) new)
  pub few : count ≤ i

none_begun : (parts : List Part) → ((j : ℕ) (d : Part) → j < length parts → (get_or parts j d).begun ≡ []) → length (flat_map (λ (p : Part). p.begun) parts) ≡ 0
none_begun [] none = refl
none_begun (p ∷ ps) none = omega (arith, length-append p.begun (flat_map (λ (q : Part). q.begun) ps), ap length (none 0 p (omega arith)), none_begun ps (λ j d h. none (suc j) d (omega (arith, h))))

pub starting_first : (level : ℕ) (levels : RisingLevels) (vertices : List ℕ) (width : ℕ) (parts : List Part) → CanLiftOff level levels vertices width parts → IsStarting level levels levels vertices width 0 0 parts parts
starting_first level levels vertices width parts can = record {
  lifted = [];
  off = lifting_first (seen levels) vertices level;
  on = refl;
  rising = λ v. grind (arith, nat_tests);
  sized = refl;
  each = λ j d h. ap (λ vs. record (get_or parts j d) { begun = vs }) (can.none j d h);
  counted = sym (none_begun parts can.none);
  few = omega arith;
}

-- the step of a loop at place i
module _ (level : ℕ) (before now : RisingLevels) (vertices : List ℕ) (width i count : ℕ) (old new : List Part) (at : i < length vertices) (can : CanLiftOff level before vertices width old) (s : IsStarting level before now vertices width i count old new) where
  abbrev pub item : ℕ
  item = get_or vertices i 0

  there : has_number item vertices ≡ true
  there = has_number_at item vertices i at refl

  pub starting_inside : item < length (seen now)
  starting_inside = lifting_inside (seen before) vertices level i (seen now) s.lifted at can.below can.here s.off

  pub starting_place : range_of width item < length new
  starting_place = omega (arith, can.place item there, s.sized)

  pub starting_passes : get_or (seen now) item 0 ≢ level → IsStarting level before now vertices width (i + 1) count old new
  starting_passes off = record {
    lifted = s.lifted;
    off = lifting_stays (seen before) vertices level i (seen now) s.lifted at can.below can.here s.off off;
    on = s.on;
    rising = s.rising;
    sized = s.sized;
    each = s.each;
    counted = s.counted;
    few = omega (arith, s.few);
  }

  pub starting_begins : (next : RisingLevels) (p d0 : Part) → get_or (seen now) item 0 ≡ level → next.level ≡ now.level → seen next ≡ set (seen now) item now.level → ((u : ℕ) → rises next u ≡ (rises now u || eqb u item)) → p ≡ record (get_or new (range_of width item) d0) { begun = (get_or new (range_of width item) d0).begun ++ item ∷ [] } → IsStarting level before next vertices width (i + 1) (count + 1) old (set new (range_of width item) p)
  starting_begins next p d0 on same is rise made = record {
    lifted = s.lifted ++ item ∷ [];
    off = subst (λ (z : List ℕ). IsLiftingOff (seen before) vertices level (i + 1) z (s.lifted ++ item ∷ [])) (sym (is ∙ ap (set (seen now) item) (s.on ∙ can.at))) (lifting_comes (seen before) vertices level i (seen now) s.lifted at can.below can.here s.off on);
    on = same ∙ s.on;
    rising = λ u. rise u ∙ ap (λ b. b || eqb u item) (s.rising u) ∙ joined (rises before u) (has_number u s.lifted) (has_number u (s.lifted ++ item ∷ [])) u item (has_number-push u item s.lifted);
    sized = length-set new (range_of width item) p ∙ s.sized;
    each = λ j d h. grind (arith, nat_tests, cases_eq j (range_of width item), get_or-set_same, starting_place, get_or_default, there, mine, get_or-set_other, other, s.each, can.place);
    counted = omega (arith, s.counted, length_set (λ (q : Part). q.begun) new (range_of width item) p d0 starting_place, ap (λ (q : Part). length q.begun) made ∙ length-append (get_or new (range_of width item) d0).begun (item ∷ []));
    few = omega (arith, s.few);
  }
    where
      joined : (b x y : Bool) (u v : ℕ) → y ≡ x || eqb v u → (b || x) || eqb u v ≡ b || y
      joined b x y u v is = grind (arith, nat_tests, is)

      split : (j : ℕ) → in_range width j (s.lifted ++ item ∷ []) ≡ in_range width j s.lifted ++ in_range width j (item ∷ [])
      split j = filter-append (λ u. eqb (range_of width u) j) s.lifted (item ∷ [])

      mine : (j : ℕ) → j ≡ range_of width item → in_range width j (s.lifted ++ item ∷ []) ≡ in_range width j s.lifted ++ item ∷ []
      mine j e = split j ∙ ap (λ b. in_range width j s.lifted ++ cond b (item ∷ []) []) (eq-eqb (range_of width item) j (sym e))

      other : (j : ℕ) → j ≢ range_of width item → in_range width j (s.lifted ++ item ∷ []) ≡ in_range width j s.lifted
      other j ne = split j ∙ ap (λ b. in_range width j s.lifted ++ cond b (item ∷ []) []) (ne_eqb (range_of width item) j (λ e. ne (sym e))) ∙ append-nil (in_range width j s.lifted)

-- what the ranges from the one at place o on have of a list is each of its numbers once, if its range is among them
times_dealt : (width v : ℕ) (xs : List ℕ) (o : ℕ) (f : Part → List ℕ) (ps : List Part) → ((j : ℕ) (d : Part) → j < length ps → f (get_or ps j d) ≡ in_range width (o + j) xs) → times v (flat_map f ps) ≤ times v xs
times_dealt width v xs o f ps each = elim (cases_lt (range_of width v) o) [
  | inl below ↦ omega (arith, nothing o ps each below)
  | inr above ↦ at_most o ps each above
]
  where
    shift : (q j : ℕ) → q + suc j ≡ q + 1 + j
    shift q j = omega arith

    here : (q : ℕ) → range_of width v ≡ q → q + 0 ≡ range_of width v
    here q e = omega (arith, e)

    none : (k : ℕ) → range_of width v ≢ k → times v (in_range width k xs) ≡ 0
    none k ne = grind (arith, nat_tests, times-filter)

    nothing : (q : ℕ) (qs : List Part) → ((j : ℕ) (d : Part) → j < length qs → f (get_or qs j d) ≡ in_range width (q + j) xs) → range_of width v < q → times v (flat_map f qs) ≡ 0
    nothing q [] own below = refl
    nothing q (p ∷ qs) own below = omega (
      arith,
      times-append v (f p) (flat_map f qs),
      ap (times v) (own 0 p (omega arith)),
      none (q + 0) (λ e. absurd (omega (arith, e, below))),
      nothing (q + 1) qs (λ j d h. own (suc j) d (omega (arith, h)) ∙ ap (λ k. in_range width k xs) (shift q j)) (omega (arith, below)),
    )

    at_most : (q : ℕ) (qs : List Part) → ((j : ℕ) (d : Part) → j < length qs → f (get_or qs j d) ≡ in_range width (q + j) xs) → q ≤ range_of width v → times v (flat_map f qs) ≤ times v xs
    at_most q [] own above = omega arith
    at_most q (p ∷ qs) own above = elim (cases_eq (range_of width v) q) [
      | inl e ↦ omega (
        arith,
        times-append v (f p) (flat_map f qs),
        ap (times v) (own 0 p (omega arith) ∙ ap (λ k. in_range width k xs) (here q e)),
        in_range_times width v xs,
        nothing (q + 1) qs (λ j d h. own (suc j) d (omega (arith, h)) ∙ ap (λ k. in_range width k xs) (shift q j)) (omega (arith, e)),
      )
      | inr ne ↦ omega (
        arith,
        times-append v (f p) (flat_map f qs),
        ap (times v) (own 0 p (omega arith)),
        none (q + 0) (λ e. absurd (omega (arith, e, ne))),
        at_most (q + 1) qs (λ j d h. own (suc j) d (omega (arith, h)) ∙ ap (λ k. in_range width k xs) (shift q j)) (omega (arith, above, ne)),
      )
    ]

pub starting_last : (level : ℕ) (before now : RisingLevels) (vertices : List ℕ) (width i count : ℕ) (old new : List Part) → length vertices ≤ i → CanLiftOff level before vertices width old → IsStarting level before now vertices width i count old new → LiftedOff level before now vertices width old new
starting_last level before now vertices width i count old new end can s = record {
  on = s.on;
  levels = s.off.levels ∙ same_number_lists (all_at (seen before) s.lifted (level + 1)) (all_at (seen before) begun (level + 1)) (length-all_at (seen before) s.lifted (level + 1) ∙ sym (length-all_at (seen before) begun (level + 1))) (λ v h. grind (arith, nat_tests, cases_Bool (has_number v begun), begun, there, all_at_here, length-all_at, same, all_at_other, s.lifted));
  rising = λ v. s.rising v ∙ ap (λ b. rises before v || b) (sym (same v));
  sized = s.sized;
  each = λ j d h. s.each j d h ∙ ap (λ vs. record (get_or old j d) { begun = vs }) (sym (of j d h));
  own = λ j v d h there. (in_range_has width j v s.lifted (ap (has_number v) (sym (of j d h)) ∙ there)).1;
  begun = λ v. same v ∙ lifting_same (seen before) vertices level i (seen now) s.lifted end s.off v;
  distinct = distinct_times begun (λ v. omega (arith, times_dealt width v s.lifted 0 (λ (p : Part). p.begun) new (λ j d h. of j d (omega (arith, h, s.sized)) ∙ ap (λ k. in_range width k s.lifted) (zero_more j)), times_distinct v s.lifted s.off.distinct));
}
  where
    begun : List ℕ
    begun = flat_map (λ (p : Part). p.begun) new

    zero_more : (j : ℕ) → j ≡ 0 + j
    zero_more j = omega arith

    of : (j : ℕ) (d : Part) → j < length old → (get_or new j d).begun ≡ in_range width j s.lifted
    of j d h = ap (λ (p : Part). p.begun) (s.each j d h)

    forth : (v : ℕ) → has_number v begun ≡ true → has_number v s.lifted ≡ true
    forth v there =
        let one = of_one (λ (p : Part). p.begun) new v there in
        (in_range_has width one.place v s.lifted (ap (has_number v) (sym (of one.place no_part (omega (arith, one.inside, s.sized)))) ∙ one.there no_part)).0

    back : (v : ℕ) → has_number v s.lifted ≡ true → has_number v begun ≡ true
    back v there =
        let place : range_of width v < length old = can.place v (s.off.from v there) in
        flat_has (λ (p : Part). p.begun) new (range_of width v) v no_part (omega (arith, place, s.sized)) (ap (has_number v) (of (range_of width v) no_part place) ∙ times_some v (in_range width (range_of width v) s.lifted) (omega (arith, in_range_times width v s.lifted, times_there v s.lifted there)))

    same : (v : ℕ) → has_number v begun ≡ has_number v s.lifted
    same v = grind (arith, nat_tests, there, forth, true≢false, back, s.lifted)
