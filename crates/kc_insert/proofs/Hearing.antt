-- A range hears the lists of all ranges, one after another.
use Rattle.std.proofs.Common.{ℕ, ◌+◌, ◌≤◌, ◌<◌, ◌≡◌, inl, inr, true, List, [], ◌∷◌, ◌++◌, length, get_or, take, drop, add-one, ap, sym, subst, ◌∙◌, arith}
use Rattle.std.specs.List.{flat_map}
use Rattle.std.proofs.lemmas.Bool.{cases_lt}
use Rattle.std.proofs.lemmas.Grind.{flat_map-append}
use Rattle.std.proofs.lemmas.List.{take-append-drop, append-nil, take_all}
use Rattle.std.proofs.lemmas.List.Concat.{flat_map-cons}
use Rattle.std.proofs.Math.Seq.{take-suc}
use Rattle.std.proofs.lemmas.Bool.Decides.{nat_tests}
use Rattle.kc_graph.specs.Numbers.{has_number}
use Rattle.kc_insert.specs.private.Telling.{heard_by, times}
use Rattle.kc_insert.specs.Ranges.{HasVertex, Part, Tell, Watch}
use Rattle.kc_insert.specs.private.Watched.{count_at, StayWatched}
use Rattle.kc_insert.specs.private.Parts.{HaveMet}
use Rattle.kc_insert.proofs.Adding.{times-append, times_there, times_some}
use Rattle.kc_insert.proofs.Meeting.{met_on}
use Rattle.kc_insert.proofs.Watching.{watched_same, watched_on}

-- the list at a place follows what was heard before
module _ (own : ℕ) (told : List Tell) (i : ℕ) (d : Tell) (at : i < length told) where
  abbrev pub here : List ℕ
  here = get_or (get_or told i d).lists own []

  split : take (i + 1) told ≡ take i told ++ get_or told i d ∷ []
  split = rw (add-one i) (take-suc told i d at)

  single : flat_map (λ (t : Tell). get_or t.lists own []) (get_or told i d ∷ []) ≡ here
  single = flat_map-cons (λ (t : Tell). get_or t.lists own []) (get_or told i d) [] ∙ append-nil here

  pub heard_more : heard_by own (take (i + 1) told) ≡ heard_by own (take i told) ++ here
  heard_more = ap (heard_by own) split ∙ flat_map-append (λ (t : Tell). get_or t.lists own []) (take i told) (get_or told i d ∷ []) ∙ ap (λ (xs : List ℕ). heard_by own (take i told) ++ xs) single

  whole : heard_by own told ≡ heard_by own (take (i + 1) told) ++ heard_by own (drop (i + 1) told)
  whole = ap (heard_by own) (sym (take-append-drop (i + 1) told)) ∙ flat_map-append (λ (t : Tell). get_or t.lists own []) (take (i + 1) told) (drop (i + 1) told)

  pub heard_part : (v : ℕ) → times v (heard_by own (take i told)) + times v here ≤ times v (heard_by own told)
  heard_part v = omega (arith, ap (times v) whole ∙ times-append v (heard_by own (take (i + 1) told)) (heard_by own (drop (i + 1) told)), ap (times v) heard_more ∙ times-append v (heard_by own (take i told)) here)

  pub heard_there : (v : ℕ) → has_number v here ≡ true → has_number v (heard_by own told) ≡ true
  heard_there v there = times_some v (heard_by own told) (omega (arith, times_there v here there, heard_part v))

-- the first i lists were heard
pub record IsHeardLess (own : ℕ) (told : List Tell) (i : ℕ) (a b : Watch) : Type 0 where
  pub watched : StayWatched a b
  pub less : (v : ℕ) → a.first ≤ v → count_at b v + times v (heard_by own (take i told)) ≡ count_at a v

pub heard_first : (own : ℕ) (told : List Tell) (a : Watch) → IsHeardLess own told 0 a a
heard_first own told a = record { watched = watched_same a; less = λ v from. omega arith }

module _ (own : ℕ) (told : List Tell) (i : ℕ) (d : Tell) (at : i < length told) (a b : Watch) (held : (v : ℕ) → has_number v (heard_by own told) ≡ true → HasVertex a v) (enough : (v : ℕ) → times v (heard_by own told) ≤ count_at a v) (s : IsHeardLess own told i a b) where
  pub less_held : (v : ℕ) → has_number v (here own told i d at) ≡ true → HasVertex b v
  less_held v there = grind (arith, nat_tests, heard_there, s.watched.first, s.watched.sized)

  pub less_enough : (v : ℕ) → times v (here own told i d at) ≤ count_at b v
  less_enough v = elim (cases_lt 0 (times v (here own told i d at))) [
    | inr none ↦ omega (arith, none)
    | inl some ↦
        let was = held v (heard_there own told i d at v (times_some v (here own told i d at) (omega (arith, some)))) in
        omega (arith, s.less v was.from, heard_part own told i d at v, enough v)
  ]

  pub less_next : (c : Watch) → ((v : ℕ) → b.first ≤ v → count_at c v + times v (here own told i d at) ≡ count_at b v) → StayWatched b c → IsHeardLess own told (i + 1) a c
  less_next c less t = record {
    watched = watched_on a b c s.watched t;
    less = λ v from. omega (arith, less v (omega (arith, from, s.watched.first)), s.less v from, ap (times v) (heard_more own told i d at) ∙ times-append v (heard_by own (take i told)) (here own told i d at));
  }

pub less_last : (own : ℕ) (told : List Tell) (i : ℕ) (a b : Watch) → length told ≤ i → IsHeardLess own told i a b → (v : ℕ) → a.first ≤ v → count_at b v + times v (heard_by own told) ≡ count_at a v
less_last own told i a b end s v from = rw (take_all i told end) at s.less v from

-- the same of one more each
module _ (own level most : ℕ) (told : List Tell) (i : ℕ) (d : Tell) (at : i < length told) (a b : Part) (s : HaveMet level most (heard_by own (take i told)) a b) where
  begun : b.watch.first ≡ a.watch.first
  begun = ap (λ (p : Part). p.watch.first) s.part

  pub more_held : ((v : ℕ) → has_number v (heard_by own told) ≡ true → HasVertex a.watch v) → (v : ℕ) → has_number v (here own told i d at) ≡ true → HasVertex b.watch v
  more_held held v there = grind (arith, nat_tests, heard_there, begun)

  above : (most_of : ℕ) → ((v : ℕ) → count_at a.watch v + times v (heard_by own told) ≤ most_of) → (v : ℕ) → a.watch.first ≤ v → count_at b.watch v + times v (here own told i d at) ≤ most_of
  above most_of small v from = omega (arith, s.more v from, heard_part own told i d at v, small v)

  pub more_small : (most_of : ℕ) → ((v : ℕ) → has_number v (heard_by own told) ≡ true → HasVertex a.watch v) → ((v : ℕ) → count_at a.watch v + times v (heard_by own told) ≤ most_of) → (v : ℕ) → count_at b.watch v + times v (here own told i d at) ≤ most_of
  more_small most_of held small v = elim (cases_lt v a.watch.first) [
    | inr from ↦ above most_of small v from
    | inl below ↦ elim (cases_lt 0 (times v (here own told i d at))) [
      | inl some ↦ absurd (omega (arith, below, (held v (heard_there own told i d at v (times_some v (here own told i d at) (omega (arith, some))))).from))
      | inr none ↦
          let same : count_at b.watch v ≡ count_at b.watch a.watch.first = ap (λ k. get_or b.watch.counts k 0) (omega (arith, below, begun)) in
          omega (arith, same, none, above most_of small a.watch.first (omega arith))
    ]
  ]

  pub more_next : (c : Part) → HaveMet level most (here own told i d at) b c → HaveMet level most (heard_by own (take (i + 1) told)) a c
  more_next c t = subst (λ (xs : List ℕ). HaveMet level most xs a c) (sym (heard_more own told i d at)) (met_on level most (heard_by own (take i told)) (here own told i d at) a b c s t)
