-- All ranges tell of the vertices that stay, and hear of them.
use Rattle.std.proofs.Common.{ℕ, ◌+◌, ◌<◌, ◌≡◌, List, [], length, get_or, ap, sym, subst, ◌∙◌, arith, ◌∷◌, refl}
use Rattle.std.specs.List.{flat_map}
use Rattle.std.proofs.lemmas.Bool.Decides.{nat_tests}
use Rattle.kc_graph.specs.Numbers.{has_number}
use Rattle.kc_adj.specs.Degrees.{degrees}
use Rattle.kc_insert.specs.private.Crossing.{Crossing, rising_near}
use Rattle.kc_insert.specs.private.Parts.{HasParted}
use Rattle.kc_insert.specs.Ranges.{HasVertex, no_part, Part, range_of, Tell, Watch}
use Rattle.kc_insert.specs.private.Sharing.{AllParted, AreTold, CanLessen, CanPartAll, HearLess, told_all}
use Rattle.kc_insert.specs.private.Telling.{times}
use Rattle.kc_insert.specs.private.Watched.{StayWatched}
use Rattle.kc_insert.proofs.Adding.{in_range_times}
use Rattle.kc_insert.proofs.Nearest.{flat_nothing}
use Rattle.kc_insert.proofs.Joined.{joined_rows}
use Rattle.kc_insert.proofs.Summing.{lists_told, tells_are}
use Rattle.kc_insert.proofs.Watching.{watched_same}

module _ (step : Crossing) (p0 p1 p2 : List Part) (t0 t1 : List Tell) (can : CanPartAll step p0 t0) (long1 : length p1 ≡ length p0) (long2 : length p2 ≡ length p1) (long3 : length t1 ≡ length t0) (parted : (i : ℕ) (d : Part) → i < length p0 → HasParted step (get_or p0 i d) (get_or p1 i d)) (kept : (i : ℕ) (d : Part) (e : Tell) → i < length p1 → get_or p2 i d ≡ record (get_or p1 i d) { tell = get_or t0 i e }) (tells : (i : ℕ) (d : Part) (e : Tell) → i < length p1 → get_or t1 i e ≡ (get_or p1 i d).tell) where
  abbrev rows : List ℕ
  rows = flat_map (rising_near step) (flat_map (λ (p : Part). p.stay) p0)

  abbrev no_tell : Tell
  no_tell = record { all = []; lists = [] }

  pub told_is : told_all t1 ≡ rows
  told_is = tells_are (λ (p : Part). flat_map (rising_near step) p.stay) p0 t1 (long3 ∙ can.told) (λ i d e h. ap (λ (t : Tell). t.all) (tells i e d (omega (arith, h, long1))) ∙ (parted i e h).told) ∙ sym (joined_rows (rising_near step) (λ (p : Part). p.stay) p0)

  same_watch : (j : ℕ) (d : Part) → j < length p0 → (get_or p2 j d).watch ≡ (get_or p0 j d).watch
  same_watch j d h = ap (λ (p : Part). p.watch) (kept j d no_tell (omega (arith, h, long1))) ∙ ap (λ (p : Part). p.watch) (parted j d h).part

  pub are_told : AreTold step.width step.is_dealt (length p2) t1
  are_told = lists_told step.width (length p2) step.is_dealt p1 t1 (long3 ∙ can.told ∙ sym long1) tells
      (λ i h. (parted i no_part (inside i h)).lists ∙ can.lists i no_part (inside i h) ∙ sym (long2 ∙ long1))
      (λ is i h k at. ((parted i no_part (inside i h)).dealt is).each k (omega (arith, at, long1, long2, can.lists i no_part (inside i h))))
    where
      inside : (i : ℕ) → i < length p1 → i < length p0
      inside i h = omega (arith, h, long1)

  pub can_lessen : CanLessen step.width (told_all t1) p2
  can_lessen = record {
    held = λ v d there.
        let was = can.lessen.held v d (ap (has_number v) (sym told_is) ∙ there) in
        (omega (arith, was.0, long1, long2), subst (λ (w : Watch). HasVertex w v) (sym (same_watch (range_of step.width v) d was.0)) was.1);
    enough = λ v d there. grind (arith, nat_tests, told_is, same_watch, can.lessen.held, can.lessen.enough);
  }

  pub all_parted : (p3 : List Part) → HearLess step.width (told_all t1) p2 p3 → AllParted step p0 p3
  all_parted p3 s = record {
    sized = s.sized ∙ long2 ∙ long1;
    part = λ j d h.
        let at : j < length p2 = omega (arith, h, long1, long2) in
        (s.each j d at).part
        ∙ ap (λ (p : Part). record p { watch = (get_or p3 j d).watch }) (kept j d no_tell (omega (arith, h, long1)) ∙ ap (λ (p : Part). record p { tell = get_or t0 j no_tell }) (parted j d h).part)
        ∙ ap (λ (t : Tell). record (get_or p0 j d) { watch = (get_or p3 j d).watch; tell = t; steps = (get_or p0 j d).steps + degrees step.graph (get_or p0 j d).stay }) (sym (ap (λ (p : Part). p.tell) ((s.each j d at).part ∙ ap (λ (p : Part). record p { watch = (get_or p3 j d).watch }) (kept j d no_tell (omega (arith, h, long1))))));
    lists = λ j d h. ap (λ (p : Part). length p.tell.lists) ((s.each j d (omega (arith, h, long1, long2))).part ∙ ap (λ (p : Part). record p { watch = (get_or p3 j d).watch }) (kept j d no_tell (omega (arith, h, long1)))) ∙ can.heard j no_tell h;
    watched = λ j d h. subst (λ (w : Watch). StayWatched w (get_or p3 j d).watch) (same_watch j d h) (s.each j d (omega (arith, h, long1, long2))).watched;
    less = λ v d h was. grind (arith, nat_tests, same_watch, in_range_times, told_is, s.each, was.from);
  }

pub parted_none : (step : Crossing) (old : List Part) (tells : List Tell) → CanPartAll step old tells → length (flat_map (λ (p : Part). p.stay) old) ≡ 0 → AllParted step old old
parted_none step old tells can none = record {
  sized = refl;
  part = λ j d h. ap (λ k. record (get_or old j d) { steps = k }) (omega (arith, ap (degrees step.graph) (flat_nothing (λ (p : Part). p.stay) old (none_of _ none) j d h)));
  lists = λ j d h. can.lists j d h;
  watched = λ j d h. watched_same (get_or old j d).watch;
  less = λ v d h held. omega (arith, ap (λ (xs : List ℕ). times v (flat_map (rising_near step) xs)) (none_of (flat_map (λ (p : Part). p.stay) old) none));
}
  where
    none_of : (xs : List ℕ) → length xs ≡ 0 → xs ≡ []
    none_of [] e = refl
    none_of (x ∷ xs) e = absurd (omega (arith, e))
