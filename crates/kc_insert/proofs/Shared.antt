-- What is told is heard the same, dealt to the ranges or one list after another.
use Rattle.std.proofs.Common.{ℕ, suc, ◌+◌, ◌≤◌, ◌<◌, ◌≡◌, inl, inr, true, eqb, List, [], ◌∷◌, ◌++◌, length, get_or, take, drop, refl, ap, sym, subst, ◌∙◌, arith}
use Rattle.std.specs.Prelude.{All}
use Rattle.std.proofs.lemmas.Bool.{cases_lt}
use Rattle.std.proofs.lemmas.Bool.Decides.{nat_tests}
use Rattle.std.proofs.lemmas.List.{take_more, take-append-drop, append-nil}
use Rattle.std.proofs.lemmas.List.Elements.{filter-append}
use Rattle.std.proofs.lemmas.Grind.{flat_map-append}
use Rattle.kc_graph.specs.Numbers.{has_number}
use Rattle.kc_insert.specs.private.Parts.{CanHearLess, CanHearMore, HasHeardLess, HaveMet}
use Rattle.kc_insert.specs.Ranges.{HasVertex, Part, range_of, Tell}
use Rattle.kc_insert.specs.private.Sharing.{AreFew, AreTold, CanLessen, CanMeet, HearLess, HearMore, told_all}
use Rattle.kc_insert.specs.private.Telling.{heard_by, in_range, times}
use Rattle.kc_insert.specs.private.Watched.{count_at}
use Rattle.kc_insert.proofs.Adding.{in_range_times, times-append, times_some, times_there}
use Rattle.kc_insert.proofs.Buckets.{has_number-filter}
use Rattle.kc_insert.proofs.Direct.{heard_none}
use Rattle.kc_insert.proofs.Meeting.{met_none, met_on}
use Rattle.kc_insert.proofs.Watching.{watched_on}

pub in_range_has : (width j v : ℕ) (xs : List ℕ) → has_number v (in_range width j xs) ≡ true → (has_number v xs ≡ true) × (range_of width v ≡ j)
in_range_has width j v xs there = grind (arith, nat_tests, has_number-filter)

in_range_append : (width j : ℕ) (xs ys : List ℕ) → in_range width j (xs ++ ys) ≡ in_range width j xs ++ in_range width j ys
in_range_append width j xs ys = filter-append (λ u. eqb (range_of width u) j) xs ys

-- what a range hears of dealt lists is what is told of its vertices
pub heard_is : (width n j : ℕ) (told : List Tell) → j < n → All (λ (t : Tell). (k : ℕ) → k < n → get_or t.lists k [] ≡ in_range width k t.all) told → heard_by j told ≡ in_range width j (told_all told)
heard_is width n j [] at each = refl
heard_is width n j (t ∷ ts) at each =
    ap (λ (xs : List ℕ). xs ++ heard_by j ts) (each 0 t (omega arith) j at)
    ∙ ap (λ (xs : List ℕ). in_range width j t.all ++ xs) (heard_is width n j ts at (λ k d h. each (suc k) d (omega (arith, h))))
    ∙ sym (in_range_append width j t.all (told_all ts))

-- the lists up to a place
module _ (told : List Tell) (i : ℕ) (d : Tell) (at : i < length told) where
  pub told_more : told_all (take (i + 1) told) ≡ told_all (take i told) ++ (get_or told i d).all
  told_more = ap told_all (take_more told i d at) ∙ flat_map-append (λ (t : Tell). t.all) (take i told) (get_or told i d ∷ []) ∙ ap (λ (xs : List ℕ). told_all (take i told) ++ xs) (append-nil (get_or told i d).all)

  pub told_part : (v : ℕ) → times v (told_all (take i told)) + times v (get_or told i d).all ≤ times v (told_all told)
  told_part v = omega (arith, ap (times v) told_more ∙ times-append v (told_all (take i told)) (get_or told i d).all, ap (times v) whole ∙ times-append v (told_all (take (i + 1) told)) (told_all (drop (i + 1) told)))
    where
      whole : told_all told ≡ told_all (take (i + 1) told) ++ told_all (drop (i + 1) told)
      whole = ap told_all (sym (take-append-drop (i + 1) told)) ∙ flat_map-append (λ (t : Tell). t.all) (take (i + 1) told) (drop (i + 1) told)

  pub told_there : (v : ℕ) → has_number v (get_or told i d).all ≡ true → has_number v (told_all told) ≡ true
  told_there v there = times_some v (told_all told) (omega (arith, times_there v (get_or told i d).all there, told_part v))

-- one less each
heard_then : (xs ys : List ℕ) (a b c : Part) → HasHeardLess xs a b → HasHeardLess ys b c → HasHeardLess (xs ++ ys) a c
heard_then xs ys a b c s t = record {
  part = t.part ∙ ap (λ (p : Part). record p { watch = c.watch }) s.part;
  watched = watched_on a.watch b.watch c.watch s.watched t.watched;
  less = λ v from. omega (arith, t.less v (omega (arith, from, s.watched.first)), s.less v from, times-append v xs ys);
}

pub hear_first : (width : ℕ) (a : List Part) → HearLess width [] a a
hear_first width a = record { sized = refl; each = λ j d h. heard_none (get_or a j d) }

hear_both : (width : ℕ) (xs ys : List ℕ) (a b c : List Part) → HearLess width xs a b → HearLess width ys b c → HearLess width (xs ++ ys) a c
hear_both width xs ys a b c s t = record {
  sized = t.sized ∙ s.sized;
  each = λ j d h. subst (λ (zs : List ℕ). HasHeardLess zs (get_or a j d) (get_or c j d)) (sym (in_range_append width j xs ys)) (heard_then (in_range width j xs) (in_range width j ys) (get_or a j d) (get_or b j d) (get_or c j d) (s.each j d h) (t.each j d (omega (arith, h, s.sized))));
}

module _ (width : ℕ) (told : List Tell) (old : List Part) (can : CanLessen width (told_all told) old) where
  -- dealt
  module _ (lists : AreTold width true (length old) told) (i : ℕ) (at : i < length old) where
    is : heard_by i told ≡ in_range width i (told_all told)
    is = heard_is width (length old) i told at (lists.dealt refl)

    pub can_hear : (d : Part) → CanHearLess told i (get_or old i d)
    can_hear d = record {
      lists = λ k t h. omega (arith, at, lists.sized k t h);
      held = λ v there. grind (arith, nat_tests, in_range_has, is, can.held);
      enough = λ v. elim (cases_lt 0 (times v (heard_by i told))) [
        | inr none ↦ omega (arith, none)
        | inl some ↦
            let in_it = in_range_has width i v (told_all told) (times_some v (in_range width i (told_all told)) (omega (arith, some, ap (times v) is))) in
            subst (λ j. times v (heard_by i told) ≤ count_at (get_or old j d).watch v) in_it.1 (omega (arith, ap (times v) is, ap (λ j. times v (in_range width j (told_all told))) (sym in_it.1) ∙ in_range_times width v (told_all told), can.enough v d in_it.0))
      ];
    }

    pub heard_dealt : (a b : Part) → HasHeardLess (heard_by i told) a b → HasHeardLess (in_range width i (told_all told)) a b
    heard_dealt a b s = subst (λ (xs : List ℕ). HasHeardLess xs a b) is s

  -- one list after another
  module _ (i : ℕ) (t : Tell) (at : i < length told) (new : List Part) (s : HearLess width (told_all (take i told)) old new) where
    pub next_held : (v : ℕ) (d : Part) → has_number v (get_or told i t).all ≡ true → (range_of width v < length new) × HasVertex (get_or new (range_of width v) d).watch v
    next_held v d there =
        let was = can.held v d (told_there told i t at v there) in
        let now = s.each (range_of width v) d was.0 in (
          omega (arith, was.0, s.sized),
          record { from = omega (arith, was.1.from, now.watched.first); below = omega (arith, was.1.below, now.watched.first, now.watched.sized) },
        )

    pub next_enough : (v : ℕ) (d : Part) → has_number v (get_or told i t).all ≡ true → times v (get_or told i t).all ≤ count_at (get_or new (range_of width v) d).watch v
    next_enough v d there = grind (arith, nat_tests, told_there, in_range_times, told_part, can.held, can.enough)

    pub next_heard : (last : List Part) → HearLess width (get_or told i t).all new last → HearLess width (told_all (take (i + 1) told)) old last
    next_heard last u = subst (λ (xs : List ℕ). HearLess width xs old last) (sym (told_more told i t at)) (hear_both width (told_all (take i told)) (get_or told i t).all old new last s u)

-- one more each
pub meet_first : (width level most : ℕ) (a : List Part) → HearMore width level most [] a a
meet_first width level most a = record { sized = refl; each = λ j d h. met_none level most (get_or a j d) }

meet_both : (width level most : ℕ) (xs ys : List ℕ) (a b c : List Part) → HearMore width level most xs a b → HearMore width level most ys b c → HearMore width level most (xs ++ ys) a c
meet_both width level most xs ys a b c s t = record {
  sized = t.sized ∙ s.sized;
  each = λ j d h. subst (λ (zs : List ℕ). HaveMet level most zs (get_or a j d) (get_or c j d)) (sym (in_range_append width j xs ys)) (met_on level most (in_range width j xs) (in_range width j ys) (get_or a j d) (get_or b j d) (get_or c j d) (s.each j d h) (t.each j d (omega (arith, h, s.sized))));
}

module _ (width level : ℕ) (told : List Tell) (old : List Part) (can : CanMeet width level (told_all told) old) where
  -- dealt
  module _ (lists : AreTold width true (length old) told) (i : ℕ) (at : i < length old) where
    same : heard_by i told ≡ in_range width i (told_all told)
    same = heard_is width (length old) i told at (lists.dealt refl)

    pub can_meet : AreFew old → (d : Part) → CanHearMore told i level (get_or old i d)
    can_meet few d = record {
      lists = λ k t h. omega (arith, at, lists.sized k t h);
      held = λ v there. grind (arith, nat_tests, in_range_has, same, can.held);
      small = λ v. elim (cases_lt 0 (times v (heard_by i told))) [
        | inr none ↦ omega (arith, none, few i d v at)
        | inl some ↦
            let in_it = in_range_has width i v (told_all told) (times_some v (in_range width i (told_all told)) (omega (arith, some, ap (times v) same))) in
            subst (λ j. count_at (get_or old j d).watch v + times v (heard_by i told) ≤ 2147483648) in_it.1 (omega (arith, ap (times v) same, ap (λ j. times v (in_range width j (told_all told))) (sym in_it.1) ∙ in_range_times width v (told_all told), can.small v d in_it.0))
      ];
      room = can.room i d at;
    }

    pub met_dealt : (most : ℕ) (a b : Part) → HaveMet level most (heard_by i told) a b → HaveMet level most (in_range width i (told_all told)) a b
    met_dealt most a b s = subst (λ (xs : List ℕ). HaveMet level most xs a b) same s

  -- one list after another
  module _ (most i : ℕ) (t : Tell) (at : i < length told) (new : List Part) (s : HearMore width level most (told_all (take i told)) old new) where
    begun : (j : ℕ) (d : Part) → j < length old → (get_or new j d).watch.first ≡ (get_or old j d).watch.first
    begun j d h = ap (λ (p : Part). p.watch.first) (s.each j d h).part

    pub next_there : (v : ℕ) (d : Part) → has_number v (get_or told i t).all ≡ true → (range_of width v < length new) × HasVertex (get_or new (range_of width v) d).watch v
    next_there v d there =
        let was = can.held v d (told_there told i t at v there) in
        let now = s.each (range_of width v) d was.0 in (
          omega (arith, was.0, s.sized),
          record { from = omega (arith, was.1.from, begun (range_of width v) d was.0); below = omega (arith, was.1.below, begun (range_of width v) d was.0, now.sized) },
        )

    pub next_small : (v : ℕ) (d : Part) → has_number v (get_or told i t).all ≡ true → count_at (get_or new (range_of width v) d).watch v + times v (get_or told i t).all ≤ 2147483648
    next_small v d there = grind (arith, nat_tests, told_there, in_range_times, told_part, can.held, can.small)

    pub next_room : (j : ℕ) (d : Part) → j < length new → level < length (get_or new j d).queue
    next_room j d h = omega (arith, can.room j d (omega (arith, h, s.sized)), (s.each j d (omega (arith, h, s.sized))).levels)

    pub next_met : (last : List Part) → HearMore width level most (get_or told i t).all new last → HearMore width level most (told_all (take (i + 1) told)) old last
    next_met last u = subst (λ (xs : List ℕ). HearMore width level most xs old last) (sym (told_more told i t at)) (meet_both width level most (told_all (take i told)) (get_or told i t).all old new last s u)
