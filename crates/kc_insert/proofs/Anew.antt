-- All ranges look anew at the vertices that rise, with another limit.
use Rattle.std.proofs.Common.{ℕ, ◌-◌, ◌≤◌, ◌<◌, ◌≡◌, ◌⊎◌, inl, inr, Bool, true, List, [], ◌∷◌, ◌++◌, length, get_or, filter, refl, ap, sym, subst, ◌∙◌, arith}
use Rattle.std.specs.List.{flat_map}
use Rattle.std.proofs.lemmas.Bool.{and_from, le-leb}
use Rattle.std.proofs.lemmas.List.{get_or_default, get_or_past}
use Rattle.std.proofs.lemmas.List.Elements.{filter-append}
use Rattle.std.proofs.lemmas.Bool.Decides.{nat_tests}
use Rattle.kc_graph.specs.Numbers.{has_number}
use Rattle.kc_graph.specs.Shape.{GraphShape, has_edge}
use Rattle.kc_levels.specs.declared.profile.Profile.{Profile}
use Rattle.kc_insert.specs.declared.rising.RisingLevels.{RisingLevels}
use Rattle.kc_insert.specs.private.LevelStep.{AreInOrder, HasLimit, IsRunning, IsUnderWay}
use Rattle.kc_insert.specs.Ranges.{Cut, IsCut, HasVertex, no_part, Part, part_at, range_of, Tell, Watch}
use Rattle.kc_insert.specs.private.Ranges.{AreKept, CanLookAnew, count_of, LookedAnew, LooksAnew}
use Rattle.kc_insert.specs.private.Rising.{rises, seen}
use Rattle.kc_insert.specs.private.Sweeping.{IsSame, sweeping_of}
use Rattle.kc_insert.specs.private.Watched.{count_at}
use Rattle.kc_insert.proofs.Buckets.{has_number-filter}
use Rattle.kc_insert.proofs.Joined.{joined_same}
use Rattle.kc_insert.proofs.Kept.{kept_at}
use Rattle.kc_insert.proofs.Members.{filter_all}
use Rattle.kc_insert.proofs.SweepSame.{same_paid, same_sweeping}
use Rattle.kc_insert.proofs.Tests.{and_first, and_second}

filter_joined : (test : ℕ → Bool) (f : Part → List ℕ) (ps : List Part) → filter test (flat_map f ps) ≡ flat_map (λ (q : Part). filter test (f q)) ps
filter_joined test f [] = refl
filter_joined test f (p ∷ ps) = filter-append test (f p) (flat_map f ps) ∙ ap (λ vs. filter test (f p) ++ vs) (filter_joined test f ps)

filter_again : (test : ℕ → Bool) (vs : List ℕ) → filter test (filter test vs) ≡ filter test vs
filter_again test vs = filter_all test (filter test vs) (λ v there. and_second (has_number v vs) (test v) (sym (has_number-filter v test vs) ∙ there))

-- one range
module _ (s : RisingLevels) (most : ℕ) (a b : Part) (looks : LooksAnew s most a b) where
  pub anew_limit : b.watch.most ≡ most
  anew_limit = elim looks [ inl it ↦ ap (λ (q : Part). q.watch.most) it.1 ∙ sym it.0 | inr new ↦ ap (λ (q : Part). q.watch.most) new ]

  pub anew_first : b.watch.first ≡ a.watch.first
  anew_first = elim looks [ inl it ↦ ap (λ (q : Part). q.watch.first) it.1 | inr new ↦ ap (λ (q : Part). q.watch.first) new ]

  pub anew_counts : b.watch.counts ≡ a.watch.counts
  anew_counts = elim looks [ inl it ↦ ap (λ (q : Part). q.watch.counts) it.1 | inr new ↦ ap (λ (q : Part). q.watch.counts) new ]

  pub anew_count : (v : ℕ) → count_at b.watch v ≡ count_at a.watch v
  anew_count v = ap (λ cs. get_or cs (v - b.watch.first) 0) anew_counts ∙ ap (λ f. get_or a.watch.counts (v - f) 0) anew_first

  pub anew_held : (v : ℕ) → HasVertex a.watch v → HasVertex b.watch v
  anew_held v was = record { from = omega (arith, was.from, anew_first); below = omega (arith, was.below, anew_first, ap (λ (cs : List ℕ). length cs) anew_counts) }

  pub anew_back : (v : ℕ) → HasVertex b.watch v → HasVertex a.watch v
  anew_back v is = record { from = omega (arith, is.from, anew_first); below = omega (arith, is.below, anew_first, ap (λ (cs : List ℕ). length cs) anew_counts) }

  pub anew_same : {A : Type 0} (f : Part → A) → ((w : Watch) (began stay : List ℕ) → f (record a { watch = w; began = began; stay = stay }) ≡ f a) → f b ≡ f a
  anew_same f blind = grind (arith, nat_tests)

  pub anew_rising : filter (rises s) b.began ≡ filter (rises s) a.began
  anew_rising = elim looks [ inl it ↦ ap (λ (q : Part). filter (rises s) q.began) it.1 | inr new ↦ ap (λ (q : Part). filter (rises s) q.began) new ∙ filter_again (rises s) a.began ]

  pub anew_began : (v : ℕ) → has_number v b.began ≡ true → has_number v a.began ≡ true
  anew_began v there = grind (arith, nat_tests, and_first, has_number-filter)

  pub anew_kept : (v : ℕ) → rises s v ≡ true → has_number v a.began ≡ true → has_number v b.began ≡ true
  anew_kept v up there = grind (arith, nat_tests, has_number-filter, and_from)

  pub anew_few : (v : ℕ) → rises s v ≡ true → has_number v a.began ≡ true → (count_at a.watch v ≤ a.watch.most → has_number v a.watch.doubtful ≡ true) → count_at b.watch v ≤ b.watch.most → has_number v b.watch.doubtful ≡ true
  anew_few v up there was low = grind (arith, nat_tests, anew_count, anew_limit, has_number-filter, and_from, le-leb)

  pub anew_inside : (v : ℕ) → has_number v b.watch.doubtful ≡ true → (has_number v a.watch.doubtful ≡ true) ⊎ (has_number v a.began ≡ true)
  anew_inside v there = grind (arith, nat_tests, and_first, has_number-filter)

-- what is asked
pub can_look : (p : Profile) (g : GraphShape) (s : RisingLevels) (r : Cut) → length (seen s) ≡ g.vertices → AreInOrder p g s r → CanLookAnew s r.parts
can_look p g s r long order = record {
  inside = λ j v d at there.
      let is : get_or r.parts j d ≡ part_at r j = get_or_default r.parts j d no_part at in
      let held = order.kept.own j v at (ap (λ (q : Part). has_number v q.began) (sym is) ∙ there) in
      (omega (arith, (order.shape.own j v at held).0, long), subst (λ (q : Part). HasVertex q.watch v) (sym is) held);
}

-- all ranges
module _ (p : Profile) (g : GraphShape) (s : RisingLevels) (most : ℕ) (r t : Cut) (order : AreInOrder p g s r) (looked : LookedAnew s most r.parts t.parts) (width : t.width ≡ r.width) (told : t.told ≡ r.told) where
  looks_at : (j : ℕ) → j < length r.parts → LooksAnew s most (part_at r j) (part_at t j)
  looks_at j at = looked.each j no_part at

  within : (j : ℕ) → j < length t.parts → j < length r.parts
  within j at = omega (arith, at, looked.sized)

  pub looked_limit : HasLimit most t
  looked_limit j at = anew_limit s most (part_at r j) (part_at t j) (looks_at j (within j at))

  range_same : (v : ℕ) → range_of t.width v ≡ range_of r.width v
  range_same v = ap (λ b. range_of b v) width

  same_list : {A : Type 0} (f : Part → List A) → ((j : ℕ) → j < length r.parts → f (part_at t j) ≡ f (part_at r j)) → flat_map f t.parts ≡ flat_map f r.parts
  same_list f each = joined_same f f t.parts r.parts looked.sized each

  count_same : (v : ℕ) → count_of t v ≡ count_of r v
  count_same v = grind (arith, nat_tests, range_same, anew_count, looks_at, get_or_past)

  -- the sweep is the same
  pub looked_same : IsSame (sweeping_of s r) (sweeping_of s t)
  looked_same = record {
    level = refl;
    levels = refl;
    count = count_same;
    lists = (
      filter_joined (rises s) (λ (q : Part). q.began) t.parts
          ∙ same_list (λ (q : Part). filter (rises s) q.began) (λ j at. anew_rising s most (part_at r j) (part_at t j) (looks_at j at))
          ∙ sym (filter_joined (rises s) (λ (q : Part). q.began) r.parts),
      same_list (λ (q : Part). q.risen) (λ j at. anew_same s most (part_at r j) (part_at t j) (looks_at j at) (λ (q : Part). q.risen) (λ w us vs. refl)),
    );
    waits = λ k. same_list (λ (q : Part). get_or q.queue k []) (λ j at. anew_same s most (part_at r j) (part_at t j) (looks_at j at) (λ (q : Part). get_or q.queue k []) (λ w us vs. refl));
    meets = λ k. same_list (λ (q : Part). get_or q.meetings k []) (λ j at. anew_same s most (part_at r j) (part_at t j) (looks_at j at) (λ (q : Part). get_or q.meetings k []) (λ w us vs. refl));
  }

  looked_shape : (n levels : ℕ) → IsCut n levels r → IsCut n levels t
  looked_shape n levels shape = record {
    wide = omega (arith, shape.wide, width);
    vertex = λ v h. grind (arith, nat_tests, range_same, anew_held, looks_at, shape.vertex);
    own = λ j v at held. let it = shape.own j v (within j at) (anew_back s most (part_at r j) (part_at t j) (looks_at j (within j at)) v held) in (it.0, range_same v ∙ it.1);
    queues = λ j at. anew_same s most (part_at r j) (part_at t j) (looks_at j (within j at)) (λ (q : Part). length q.queue) (λ w us vs. refl) ∙ shape.queues j (within j at);
    meetings = λ j at. anew_same s most (part_at r j) (part_at t j) (looks_at j (within j at)) (λ (q : Part). length q.meetings) (λ w us vs. refl) ∙ shape.meetings j (within j at);
    tells = λ j at. anew_same s most (part_at r j) (part_at t j) (looks_at j (within j at)) (λ (q : Part). length q.tell.lists) (λ w us vs. refl) ∙ shape.tells j (within j at) ∙ sym looked.sized;
    told = (
      ap (λ (ts : List Tell). length ts) told ∙ shape.told.0 ∙ sym looked.sized,
      λ j d at. ap (λ (ts : List Tell). length (get_or ts j d).lists) told ∙ shape.told.1 j d (within j at) ∙ sym looked.sized,
    );
  }

  looked_kept : AreKept s t
  looked_kept = record {
    began = λ v up. grind (arith, nat_tests, kept_at, range_same, anew_kept, looks_at);
    own = λ j v at there. anew_held s most (part_at r j) (part_at t j) (looks_at j (within j at)) v (order.kept.own j v (within j at) (anew_began s most (part_at r j) (part_at t j) (looks_at j (within j at)) v there));
    risen = λ j v at there. anew_same s most (part_at r j) (part_at t j) (looks_at j (within j at)) (λ (q : Part). has_number v q.risen) (λ w us vs. refl) ∙ order.kept.risen j v (within j at) (anew_began s most (part_at r j) (part_at t j) (looks_at j (within j at)) v there);
    few = λ v up low. grind (arith, nat_tests, kept_at, range_same, anew_few, looks_at);
    inside = λ j v at there. anew_held s most (part_at r j) (part_at t j) (looks_at j (within j at)) v (elim (anew_inside s most (part_at r j) (part_at t j) (looks_at j (within j at)) v there) [ inl was ↦ order.kept.inside j v (within j at) was | inr began ↦ order.kept.own j v (within j at) began ]);
  }

  pub looked_order : AreInOrder p g s t
  looked_order = record {
    shape = looked_shape g.vertices _ order.shape;
    kept = looked_kept;
    rest = record {
      own = λ j k v w at there. anew_held s most (part_at r j) (part_at t j) (looks_at j (within j at)) v (order.rest.own j k v w (within j at) (sym (anew_same s most (part_at r j) (part_at t j) (looks_at j (within j at)) (λ (q : Part). has_edge (v, w) (get_or q.meetings k [])) (λ u us vs. refl)) ∙ there));
      begun = λ j at. anew_same s most (part_at r j) (part_at t j) (looks_at j (within j at)) (λ (q : Part). q.begun) (λ w us vs. refl) ∙ order.rest.begun j (within j at);
      steps = λ j at. anew_same s most (part_at r j) (part_at t j) (looks_at j (within j at)) (λ (q : Part). q.steps) (λ w us vs. refl) ∙ order.rest.steps j (within j at);
    };
  }

-- a sweep on its way stays on its way
module _ (p : Profile) (g : GraphShape) (s : RisingLevels) (most : ℕ) (r t : Cut) (looked : LookedAnew s most r.parts t.parts) (width : t.width ≡ r.width) (told : t.told ≡ r.told) where
  pub looked_way : IsUnderWay p g s r → IsUnderWay p g s t
  looked_way way = record {
    start = way.start;
    order = looked_order p g s most r t way.order looked width told;
    sweeping = same_sweeping p g way.start (sweeping_of s r) (sweeping_of s t) (looked_same p g s most r t way.order looked width told) way.sweeping;
  }

  pub looked_running : (x : List ℕ) (first now : ℕ) → IsRunning p g x first now s r → IsRunning p g x first now s t
  looked_running x first now run = record {
    order = looked_order p g s most r t run.order looked width told;
    sweeping = same_sweeping p g x (sweeping_of s r) (sweeping_of s t) (looked_same p g s most r t run.order looked width told) run.sweeping;
    paid = same_paid g x (sweeping_of s r) (sweeping_of s t) first now (looked_same p g s most r t run.order looked width told) run.paid;
  }
