-- What filing leaves, of one range and of all.
use Rattle.std.proofs.Common.{ℕ, ◌+◌, ◌-◌, ◌≤◌, ◌<◌, ◌≡◌, ◌≢◌, ◌⊎◌, inl, inr, Bool, true, false, cond, ltb, eqb, not, ◌&&◌, List, [], ◌∷◌, ◌++◌, length, get_or, set, take, refl, ap, sym, subst, ◌∙◌, arith}
use Rattle.std.specs.List.{All}
use Rattle.std.proofs.lemmas.Bool.{cases_Bool, cases_eq, cases_lt}
use Rattle.std.proofs.lemmas.Bool.Decides.{nat_tests}
use Rattle.std.proofs.lemmas.List.{get_or-set_other, get_or-set_same, get_or_default, get_or_past, length-set}
use Rattle.kc_graph.specs.Numbers.{has_number}
use Rattle.kc_levels.specs.declared.profile.Profile.{Profile}
use Rattle.kc_levels.specs.Thresholds.{high, group_of, top_level}
use Rattle.kc_levels.specs.private.Following.{IsCopied}
use Rattle.kc_levels.proofs.lemmas.Writes.{copied_all, copied_next, copied_then}
use Rattle.kc_insert.specs.private.Filed.{CanFile, CanFollow, HasFiled, HasFollowed, HaveCounted, IsFiling}
use Rattle.kc_insert.specs.Ranges.{counts_of, Cut, IsCut, HasVertex, no_part, Part, part_of, range_of, Tell, waits, Watch}
use Rattle.kc_insert.specs.private.Ranges.{IsSameCut}
use Rattle.kc_insert.specs.private.Watched.{count_at}
use Rattle.kc_insert.proofs.Joined.{flat_has, of_one}
use Rattle.kc_insert.proofs.Buckets.{has_last, now_there, placed, pushed_is, still_there}
use Rattle.kc_insert.proofs.Flat.{count_is, length_counts}
use Rattle.kc_insert.proofs.Watching.{count_here, count_other}

-- all of the range is as before but for its counts and the vertices that wait
pub record IsSamePart (old new : Part) : Type 0 where
  pub part : new ≡ record old { watch = record old.watch { counts = new.watch.counts }; queue = new.queue }
  pub sized : length new.watch.counts ≡ length old.watch.counts
  pub buckets : length new.queue ≡ length old.queue

-- vertices are cut as before
pub cut_same : (n levels : ℕ) (old new : Cut) → IsCut n levels old → IsSameCut old new → IsCut n levels new
cut_same n levels old new s t = record {
  wide = omega (arith, s.wide, t.width);
  vertex = λ v h. grind (arith, nat_tests, s.vertex, t.sized);
  own = λ j v h held.
      let at : j < length old.parts = omega (arith, h, t.sized) in
      let it = s.own j v at (record { from = omega (arith, held.from, first j at); below = omega (arith, held.below, first j at, t.counts j no_part at) }) in
      (it.0, range v ∙ it.1);
  queues = λ j h. let at : j < length old.parts = omega (arith, h, t.sized) in t.queues j no_part at ∙ s.queues j at;
  meetings = λ j h. let at : j < length old.parts = omega (arith, h, t.sized) in ap (λ (p : Part). length p.meetings) (t.each j no_part at) ∙ s.meetings j at;
  tells = λ j h. let at : j < length old.parts = omega (arith, h, t.sized) in ap (λ (p : Part). length p.tell.lists) (t.each j no_part at) ∙ s.tells j at ∙ sym t.sized;
  told = (ap (λ (ts : List Tell). length ts) t.told ∙ s.told.0 ∙ sym t.sized, λ j d h. ap (λ (ts : List Tell). length (get_or ts j d).lists) t.told ∙ s.told.1 j d (omega (arith, h, t.sized)) ∙ sym t.sized);
}
  where
    range : (v : ℕ) → range_of new.width v ≡ range_of old.width v
    range v = ap (λ b. range_of b v) t.width

    first : (j : ℕ) → j < length old.parts → (get_or new.parts j no_part).watch.first ≡ (get_or old.parts j no_part).watch.first
    first j at = ap (λ (p : Part). p.watch.first) (t.each j no_part at)

pub same_cut : (a : Cut) → IsSameCut a a
same_cut a = record { width = refl; told = refl; sized = refl; each = λ j d h. refl; counts = λ j d h. refl; queues = λ j d h. refl }

pub same_on : (a b c : Cut) → IsSameCut a b → IsSameCut b c → IsSameCut a c
same_on a b c s t = record {
  width = t.width ∙ s.width;
  told = t.told ∙ s.told;
  sized = t.sized ∙ s.sized;
  each = λ j d h. t.each j d (omega (arith, h, s.sized)) ∙ ap (λ (p : Part). record p { watch = record p.watch { counts = (get_or c.parts j d).watch.counts }; queue = (get_or c.parts j d).queue }) (s.each j d h);
  counts = λ j d h. t.counts j d (omega (arith, h, s.sized)) ∙ s.counts j d h;
  queues = λ j d h. t.queues j d (omega (arith, h, s.sized)) ∙ s.queues j d h;
}

module _ (p : Profile) (n : ℕ) (y fresh : List ℕ) (spared : ℕ → Type 0) where
  -- the vertices of the range that are not spared count afresh, and wait if they count otherwise than before and too many
  pub record IsFiledPart (old new : Part) : Type 0 where
    pub same : IsSamePart old new
    pub counts : (v : ℕ) → HasVertex old.watch v → (count_at new.watch v ≡ get_or fresh v 0) ⊎ ((count_at new.watch v ≡ count_at old.watch v) × spared v)
    pub still : (k u : ℕ) → has_number u (get_or old.queue k []) ≡ true → has_number u (get_or new.queue k []) ≡ true
    pub only : (k u : ℕ) → has_number u (get_or new.queue k []) ≡ true → (has_number u (get_or old.queue k []) ≡ true) ⊎ (HasVertex old.watch u × (get_or y u 0 ≡ k))
    pub found : (u : ℕ) → HasVertex old.watch u → count_at old.watch u ≢ count_at new.watch u → high p (group_of p n (get_or y u 0)) < get_or fresh u 0 → has_number u (get_or new.queue (get_or y u 0) []) ≡ true

  -- a range that isn't touched
  pub filed_none : (a : Part) → ((v : ℕ) → HasVertex a.watch v → spared v) → IsFiledPart a a
  filed_none a rest = record {
    same = record { part = refl; sized = refl; buckets = refl };
    counts = λ v held. inr (refl, rest v held);
    still = λ k u there. there;
    only = λ k u there. inl there;
    found = λ u held ne many. absurd (ne refl);
  }

  -- all vertices of a range
  pub filed_all : (a b : Part) → HasFiled p n y fresh a b → IsFiledPart a b
  filed_all a b s = record {
    same = record { part = s.part ∙ ap (λ (w : Watch). record a { watch = w; queue = b.queue }) s.filed.watch; sized = s.filed.sized; buckets = s.filed.buckets };
    counts = λ v held. inl (s.filed.counts v held.from held.below);
    still = s.filed.still;
    only = s.filed.only;
    found = λ u held ne many. s.filed.found u held.from held.below (λ e. ne (e ∙ sym (s.filed.counts u held.from held.below))) many;
  }

  -- all ranges
  module _ (old new : Cut) (can : CanFile p n y fresh old) (width : new.width ≡ old.width) (told : new.told ≡ old.told) (sized : length new.parts ≡ length old.parts) (each : (j : ℕ) (d : Part) → j < length old.parts → IsFiledPart (get_or old.parts j d) (get_or new.parts j d)) where
    same : IsSameCut old new
    same = record {
      width = width;
      told = told;
      sized = sized;
      each = λ j d h. (each j d h).same.part;
      counts = λ j d h. (each j d h).same.sized;
      queues = λ j d h. (each j d h).same.buckets;
    }

    cut : IsCut (length fresh) (top_level p n + 1) new
    cut = cut_same (length fresh) (top_level p n + 1) old new can.cut same

    -- the range of a vertex
    of : (v : ℕ) → v < length fresh → IsFiledPart (part_of old v) (part_of new v)
    of v h = subst (λ b. IsFiledPart (part_of old v) (get_or new.parts (range_of b v) no_part)) (sym width) (each (range_of old.width v) no_part (can.cut.vertex v h).place)

    before_is : (v : ℕ) → v < length fresh → get_or (counts_of old) v 0 ≡ count_at (part_of old v).watch v
    before_is v h = count_is (length fresh) (top_level p n + 1) old can.cut v h

    after_is : (v : ℕ) → v < length fresh → get_or (counts_of new) v 0 ≡ count_at (part_of new v).watch v
    after_is v h = count_is (length fresh) (top_level p n + 1) new cut v h

    still_waits : (k u : ℕ) → has_number u (waits old k) ≡ true → has_number u (waits new k) ≡ true
    still_waits k u there =
        let one = of_one (λ (q : Part). get_or q.queue k []) old.parts u there in
        flat_has (λ (q : Part). get_or q.queue k []) new.parts one.place u no_part (omega (arith, one.inside, sized)) ((each one.place no_part one.inside).still k u (one.there no_part))

    copied : IsCopied fresh (counts_of old) (counts_of new) spared
    copied = record {
      sized = length_counts (length fresh) (top_level p n + 1) new cut ∙ sym (length_counts (length fresh) (top_level p n + 1) old can.cut);
      each = λ v. elim (cases_lt v (length fresh)) [
        | inr past ↦ inl (get_or_past (counts_of new) v 0 (omega (arith, past, length_counts (length fresh) (top_level p n + 1) new cut)) ∙ sym (get_or_past fresh v 0 past))
        | inl h ↦ grind (arith, nat_tests, (of v h).counts v (can.cut.vertex v h).held, of, cut, after_is, before_is)
      ];
    }

    filing : (before : List ℕ) → IsFiling p n y fresh before (counts_of old) (waits old) → IsFiling p n y fresh before (counts_of new) (waits new)
    filing before s = record {
      waiting = λ k v there.
          let one = of_one (λ (q : Part). get_or q.queue k []) new.parts v there in
          let at : one.place < length old.parts = omega (arith, one.inside, sized) in
          elim ((each one.place no_part at).only k v (one.there no_part)) [
            | inl was ↦ s.waiting k v (flat_has (λ (q : Part). get_or q.queue k []) old.parts one.place v no_part at was)
            | inr it ↦ (omega (arith, (can.cut.own one.place v at it.0).0, can.levels.1), it.1)
          ];
      found = λ v h. elim (s.found v h) [
        | inl waits_ ↦ inl (still_waits (get_or y v 0) v waits_)
        | inr (inl few) ↦ inr (inl few)
        | inr (inr left) ↦
            let inside : v < length fresh = omega (arith, h, can.levels.1) in
            elim (cases_eq (count_at (part_of old v).watch v) (count_at (part_of new v).watch v)) [
              | inl e ↦ inr (inr (after_is v inside ∙ sym e ∙ sym (before_is v inside) ∙ left))
              | inr ne ↦ elim (cases_lt (high p (group_of p n (get_or y v 0))) (get_or fresh v 0)) [
                | inr few ↦ inr (inl few)
                | inl many ↦ inl (flat_has (λ (q : Part). get_or q.queue (get_or y v 0) []) new.parts (range_of new.width v) v no_part (cut.vertex v inside).place ((of v inside).found v (can.cut.vertex v inside).held ne many))
              ]
            ]
      ];
    }

    pub have_counted : HaveCounted p n y fresh spared old new
    have_counted = record { same = same; copied = copied; filing = filing }

-- one vertex
module _ (p : Profile) (n : ℕ) (y fresh : List ℕ) (v : ℕ) where
  pub filed_one : (a b : Part) (w : Watch) (queue : List (List ℕ)) → HasVertex a.watch v → get_or y v 0 < length a.queue → b ≡ record a { watch = w; queue = queue } → HasFollowed p n y v (get_or fresh v 0) a.watch w a.queue queue → IsFiledPart p n y fresh (λ u. u ≢ v) a b
  filed_one a b w queue held room is s = rw is (record {
    same = record {
      part = ap (λ (x : Watch). record a { watch = x; queue = queue }) (s.counts ∙ ap (λ ks. record a.watch { counts = ks }) (sym counts_are));
      sized = ap length counts_are ∙ length-set a.watch.counts (v - a.watch.first) (get_or fresh v 0);
      buckets = grind (arith, nat_tests, cases_Bool test, test, files, length-set, passes);
    };
    counts = λ u at. grind (arith, nat_tests, count_here, count_other, at.from);
    still = λ k u there. grind (arith, nat_tests, still_there);
    only = λ k u there. elim (cases_Bool test) [
      | inr no_ ↦ inl (rw (passes no_) at there)
      | inl yes_ ↦ placed a.queue (get_or y v 0) k (get_or a.queue (get_or y v 0) [] ++ v ∷ []) room (λ xs. has_number u xs ≡ true → (has_number u (get_or a.queue k []) ≡ true) ⊎ (HasVertex a.watch u × (get_or y u 0 ≡ k)))
          (λ here in_it. elim (pushed_is u v (get_or a.queue (get_or y v 0) []) in_it) [
            | inl e ↦ inr (rw e held, rw e (sym here))
            | inr was ↦ inl (rw here was)
          ])
          (λ other in_it. inl in_it)
          (rw (files yes_) at there)
    ];
    found = λ u at ne many. grind (arith, nat_tests, count_other, count_here, now_there, has_last, at.from);
  })
    where
      first : w.first ≡ a.watch.first
      first = ap (λ (x : Watch). x.first) s.counts

      counts_are : w.counts ≡ set a.watch.counts (v - a.watch.first) (get_or fresh v 0)
      counts_are = ap (λ (x : Watch). x.counts) s.counts

      test : Bool
      test = not (eqb (count_at a.watch v) (get_or fresh v 0)) && ltb (high p (group_of p n (get_or y v 0))) (get_or fresh v 0)

      files : test ≡ true → queue ≡ set a.queue (get_or y v 0) (get_or a.queue (get_or y v 0) [] ++ v ∷ [])
      files e = s.waits ∙ ap (λ b. cond b (set a.queue (get_or y v 0) (get_or a.queue (get_or y v 0) [] ++ v ∷ [])) a.queue) e

      passes : test ≡ false → queue ≡ a.queue
      passes e = s.waits ∙ ap (λ b. cond b (set a.queue (get_or y v 0) (get_or a.queue (get_or y v 0) [] ++ v ∷ [])) a.queue) e

  pub end_filed : (old new : Cut) (b : Part) (w : Watch) (queue : List (List ℕ)) (d0 : Part) → CanFile p n y fresh old → v < length fresh → new ≡ record old { parts = set old.parts (range_of old.width v) b } → b ≡ record (get_or old.parts (range_of old.width v) d0) { watch = w; queue = queue } → HasFollowed p n y v (get_or fresh v 0) (get_or old.parts (range_of old.width v) d0).watch w (get_or old.parts (range_of old.width v) d0).queue queue → HaveCounted p n y fresh (λ u. u ≢ v) old new
  end_filed old new b w queue d0 can h is made s = have_counted p n y fresh (λ u. u ≢ v) old new can (ap (λ (r : Cut). r.width) is) (ap (λ (r : Cut). r.told) is) (ap (λ (r : Cut). length r.parts) is ∙ length-set old.parts (range_of old.width v) b) (λ j d at.
      subst (λ (r : Cut). IsFiledPart p n y fresh (λ u. u ≢ v) (get_or old.parts j d) (get_or r.parts j d)) (sym is) (elim (cases_eq j (range_of old.width v)) [
        | inl e ↦ rw (e, get_or-set_same old.parts (range_of old.width v) b d place) (subst (λ (a : Part). IsFiledPart p n y fresh (λ u. u ≢ v) a b) (get_or_default old.parts (range_of old.width v) d0 d place) (filed_one (get_or old.parts (range_of old.width v) d0) b w queue (subst (λ (a : Part). HasVertex a.watch v) (get_or_default old.parts (range_of old.width v) no_part d0 place) (can.cut.vertex v h).held) room made s))
        | inr ne ↦ rw (get_or-set_other old.parts (range_of old.width v) j b d ne) (filed_none p n y fresh (λ u. u ≢ v) (get_or old.parts j d) (λ u held e. absurd (ne (sym (can.cut.own j u at (subst (λ (a : Part). HasVertex a.watch u) (get_or_default old.parts j d no_part at) held)).1 ∙ ap (range_of old.width) e))))
      ]))
    where
      place : range_of old.width v < length old.parts
      place = (can.cut.vertex v h).place

      room : get_or y v 0 < length (get_or old.parts (range_of old.width v) d0).queue
      room = omega (arith, can.levels.2 v (omega (arith, h, can.levels.1)), ap (λ (a : Part). length a.queue) (get_or_default old.parts (range_of old.width v) d0 no_part place), can.cut.queues (range_of old.width v) place)

pub can_file_on : (p : Profile) (n : ℕ) (y fresh : List ℕ) (old new : Cut) → CanFile p n y fresh old → IsSameCut old new → CanFile p n y fresh new
can_file_on p n y fresh old new can same = record { few = can.few; levels = can.levels; cut = cut_same (length fresh) (top_level p n + 1) old new can.cut same }

-- loops over a list
module _ (p : Profile) (n : ℕ) (y fresh : List ℕ) where
  pub counted_wider : (few many : ℕ → Type 0) (a b : Cut) → ((v : ℕ) → few v → many v) → HaveCounted p n y fresh few a b → HaveCounted p n y fresh many a b
  counted_wider few many a b wider s = record {
    same = s.same;
    copied = record { sized = s.copied.sized; each = λ v. elim (s.copied.each v) [ inl done ↦ inl done | inr kept ↦ inr (kept.0, wider v kept.1) ] };
    filing = s.filing;
  }

  pub counted_next : {A : Type 0} (spares : ℕ → A → Type 0) (items : List A) (i : ℕ) (d item : A) (a b c : Cut) → i < length items → item ≡ get_or items i d → HaveCounted p n y fresh (λ v. All (spares v) (take i items)) a b → HaveCounted p n y fresh (λ v. spares v item) b c → HaveCounted p n y fresh (λ v. All (spares v) (take (i + 1) items)) a c
  counted_next spares items i d item a b c at is s t = record {
    same = same_on a b c s.same t.same;
    copied = copied_next spares items i d item fresh (counts_of a) (counts_of b) (counts_of c) at is s.copied t.copied;
    filing = λ before f. t.filing before (s.filing before f);
  }

  pub counted_all : {A : Type 0} (spares : ℕ → A → Type 0) (items : List A) (i : ℕ) (a b : Cut) → length items ≤ i → HaveCounted p n y fresh (λ v. All (spares v) (take i items)) a b → HaveCounted p n y fresh (λ v. All (spares v) items) a b
  counted_all spares items i a b end s = record { same = s.same; copied = copied_all spares items i fresh (counts_of a) (counts_of b) end s.copied; filing = s.filing }

  pub counted_both : (few many : ℕ → Type 0) (a b c : Cut) → HaveCounted p n y fresh few a b → HaveCounted p n y fresh many b c → HaveCounted p n y fresh (λ v. few v × many v) a c
  counted_both few many a b c s t = record {
    same = same_on a b c s.same t.same;
    copied = copied_then fresh (counts_of a) (counts_of b) (counts_of c) few many (λ v. few v × many v) s.copied t.copied (λ v q r. (q, r));
    filing = λ before f. t.filing before (s.filing before f);
  }

-- all ranges followed their fresh counts
pub all_filed : (p : Profile) (n : ℕ) (y fresh : List ℕ) (old new : Cut) → CanFile p n y fresh old → new.width ≡ old.width → new.told ≡ old.told → length new.parts ≡ length old.parts → ((j : ℕ) (d : Part) → j < length old.parts → HasFiled p n y fresh (get_or old.parts j d) (get_or new.parts j d)) → HaveCounted p n y fresh (λ v. v ≢ v) old new
all_filed p n y fresh old new can width told sized each = have_counted p n y fresh (λ v. v ≢ v) old new can width told sized (λ j d h. filed_all p n y fresh (λ v. v ≢ v) (get_or old.parts j d) (get_or new.parts j d) (each j d h))

pub can_follow : (p : Profile) (n : ℕ) (y fresh : List ℕ) (old : Cut) → CanFile p n y fresh old → (j : ℕ) (d : Part) → j < length old.parts → CanFollow p n y fresh (get_or old.parts j d)
can_follow p n y fresh old can j d h = rw (get_or_default old.parts j d no_part h) (record {
  inside = λ v held. (can.cut.own j v h held).0;
  few = can.few;
  levels = can.levels;
  room = omega (arith, can.cut.queues j h);
})
