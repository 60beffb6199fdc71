-- Vertices of all ranges hear, one after another.
use Rattle.std.proofs.Common.{sym, ℕ, ◌+◌, ◌-◌, ◌≤◌, ◌<◌, ◌≡◌, ◌≢◌, inl, inr, cond, eqb, List, [], ◌∷◌, ◌++◌, length, get_or, set, take, refl, ap, ◌∙◌, arith, append-nil}
use Rattle.std.proofs.lemmas.Bool.{cases_eq, eq-eqb, ne_eqb}
use Rattle.std.proofs.lemmas.Bool.Decides.{nat_tests}
use Rattle.std.proofs.lemmas.List.{get_or-set_other, get_or-set_same, get_or_default, length-set}
use Rattle.std.proofs.lemmas.List.Elements.{filter_more}
use Rattle.kc_insert.specs.private.Parts.{HasHeardLess, HaveMet}
use Rattle.kc_insert.specs.Ranges.{HasVertex, Part, range_of, Watch}
use Rattle.kc_insert.specs.private.Sharing.{HearLess, HearMore}
use Rattle.kc_insert.specs.private.Telling.{in_range, times}
use Rattle.kc_insert.specs.private.Watched.{count_at, StayWatched}
use Rattle.kc_insert.proofs.Adding.{in_range_times, times_another, times_more, times_own, times_part}
use Rattle.kc_insert.proofs.Meeting.{met_on}
use Rattle.kc_insert.proofs.Watching.{watched_same, watched_on, count_here, count_other}

-- a range hears what is in the list of its vertices, up to a place
module _ (width i : ℕ) (xs : List ℕ) (at : i < length xs) where
  abbrev item : ℕ
  item = get_or xs i 0

  more : (j : ℕ) → in_range width j (take (i + 1) xs) ≡ in_range width j (take i xs) ++ cond (eqb (range_of width item) j) (item ∷ []) []
  more j = filter_more (λ v. eqb (range_of width v) j) xs i 0 at

  pub in_here : in_range width (range_of width item) (take (i + 1) xs) ≡ in_range width (range_of width item) (take i xs) ++ item ∷ []
  in_here = more (range_of width item) ∙ ap (λ b. in_range width (range_of width item) (take i xs) ++ cond b (item ∷ []) []) (eq-eqb (range_of width item) (range_of width item) refl)

  pub in_other : (j : ℕ) → j ≢ range_of width item → in_range width j (take (i + 1) xs) ≡ in_range width j (take i xs)
  in_other j ne = more j ∙ ap (λ b. in_range width j (take i xs) ++ cond b (item ∷ []) []) (ne_eqb (range_of width item) j (λ e. ne (sym e))) ∙ append-nil (in_range width j (take i xs))

  -- the vertex at the place is in the list of its range as often as in the whole
  pub in_times : times item (in_range width (range_of width item) (take i xs)) + 1 ≤ times item xs
  in_times =
      let one : times item (take (i + 1) xs) ≡ times item (take i xs) + 1 = times_more item i xs at ∙ grind (arith, nat_tests) in
      omega (arith, one, times_part item (i + 1) xs, in_range_times width item (take i xs))

pub heard_none : (a : Part) → HasHeardLess [] a a
heard_none a = record { part = refl; watched = watched_same a.watch; less = λ v from. omega arith }

-- v counts one less
module _ (xs : List ℕ) (v : ℕ) (a b : Part) (was : HasVertex a.watch v) (s : HasHeardLess xs a b) where
  pub heard_held : HasVertex b.watch v
  heard_held = record { from = omega (arith, was.from, s.watched.first); below = omega (arith, was.below, s.watched.first, s.watched.sized) }

  pub heard_some : (k : ℕ) → times v xs + 1 ≤ k → k ≤ count_at a.watch v → 1 ≤ count_at b.watch v
  heard_some k part enough = omega (arith, part, enough, s.less v was.from)

  pub heard_one : (w : Watch) (c : Part) → 1 ≤ count_at b.watch v → c ≡ record b { watch = w } → w.counts ≡ set b.watch.counts (v - b.watch.first) (count_at b.watch v - 1) → StayWatched b.watch w → HasHeardLess (xs ++ v ∷ []) a c
  heard_one w c some is counts t = grind (arith, nat_tests, watched_on, count_here, heard_held, times_own, count_other, times_another, s.part, s.watched, t.first, s.less, was.from, s.watched.first)

-- at the place i of the list the range of the vertex there hears
module _ (width i : ℕ) (xs : List ℕ) (old new : List Part) (at : i < length xs) (inside : range_of width (get_or xs i 0) < length old) (s : HearLess width (take i xs) old new) where
  abbrev place : ℕ
  place = range_of width (get_or xs i 0)

  pub hear_next : (d : Part) (p : Part) → HasHeardLess (in_range width place (take i xs) ++ get_or xs i 0 ∷ []) (get_or old place d) p → HearLess width (take (i + 1) xs) old (set new place p)
  hear_next e0 p one = record {
    sized = length-set new place p ∙ s.sized;
    each = λ j d h. grind (arith, nat_tests, get_or-set_same, in_here, get_or_default, get_or-set_other, in_other);
  }

-- the same of one more each
module _ (width level most i : ℕ) (xs : List ℕ) (old new : List Part) (at : i < length xs) (inside : range_of width (get_or xs i 0) < length old) (s : HearMore width level most (take i xs) old new) where
  pub meet_next : (d : Part) (p : Part) → HaveMet level most (get_or xs i 0 ∷ []) (get_or new (range_of width (get_or xs i 0)) d) p → HearMore width level most (take (i + 1) xs) old (set new (range_of width (get_or xs i 0)) p)
  meet_next e0 p one = record {
    sized = length-set new (range_of width (get_or xs i 0)) p ∙ s.sized;
    each = λ j d h. elim (cases_eq j (range_of width (get_or xs i 0))) [
      | inl e ↦ rw (e, get_or-set_same new (range_of width (get_or xs i 0)) p d (omega (arith, inside, s.sized)), in_here width i xs at) (met_on level most _ (get_or xs i 0 ∷ []) (get_or old (range_of width (get_or xs i 0)) d) (get_or new (range_of width (get_or xs i 0)) d) p (s.each (range_of width (get_or xs i 0)) d inside) (rw (get_or_default new (range_of width (get_or xs i 0)) d e0 (omega (arith, inside, s.sized))) one))
      | inr ne ↦ rw (get_or-set_other new (range_of width (get_or xs i 0)) j p d ne, in_other width i xs at j ne) (s.each j d h)
    ];
  }

-- v is of the range still, and its count has room
module _ (level most : ℕ) (xs : List ℕ) (v : ℕ) (a b : Part) (was : HasVertex a.watch v) (s : HaveMet level most xs a b) where
  pub met_still : HasVertex b.watch v
  met_still = record { from = omega (arith, was.from, begun); below = omega (arith, was.below, begun, s.sized) }
    where
      begun : b.watch.first ≡ a.watch.first
      begun = ap (λ (p : Part). p.watch.first) s.part

  pub met_less : (k top : ℕ) → times v xs + 1 ≤ k → count_at a.watch v + k ≤ top → count_at b.watch v < top
  met_less k top part small = omega (arith, s.more v was.from, part, small)
