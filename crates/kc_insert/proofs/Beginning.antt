-- What vertices that begin to rise are to meet, whom they tell it, and what they count.
use Rattle.std.proofs.Common.{ℕ, suc, ◌+◌, ◌-◌, ◌*◌, ◌/◌, ◌≤◌, ◌<◌, ◌≡◌, ◌≢◌, Bool, true, false, cond, ltb, eqb, ◌&&◌, List, [], ◌∷◌, ◌++◌, length, get_or, set, take, drop, add-one, refl, ap, sym, ◌∙◌, arith, append_assoc}
use Rattle.std.specs.Prelude.{count_by, filter}
use Rattle.std.specs.List.{flat_map}
use Rattle.std.proofs.Math.Seq.{drop-cons}
use Rattle.std.proofs.lemmas.Bool.{cases_eq, true≢false}
use Rattle.std.proofs.lemmas.Bool.Decides.{nat_tests}
use Rattle.std.proofs.lemmas.List.{length-set, get_or-set_same, get_or-set_other, append-nil, drop_all, take_all}
use Rattle.std.proofs.lemmas.List.Elements.{filter_more}
use Rattle.std.proofs.lemmas.Grind.{flat_map-append}
use Rattle.kc_graph.specs.Numbers.{has_number}
use Rattle.kc_graph.specs.Shape.{Pair, neighbours_of}
use Rattle.kc_graph.proofs.lemmas.Numbers.{has_number-push}
use Rattle.kc_insert.specs.declared.range.Range.TheInside.{Inside}
use Rattle.kc_insert.specs.private.Crossing.{Crossing, above_near, is_above, next_near, count_above, with_levels, meetings_on, meetings_of, HaveMeetings, HaveBegun}
use Rattle.kc_insert.specs.Ranges.{HasVertex, Tell, Watch}
use Rattle.kc_insert.specs.private.Watched.{StayWatched}
use Rattle.kc_insert.proofs.Adding.{times_there, times_some, times_part}
use Rattle.kc_insert.proofs.Buckets.{pushed_is, has_last}
use Rattle.kc_insert.proofs.Rows.{passes_at, length-with_levels, vertex_at, level_at}
use Rattle.kc_insert.proofs.Watching.{watched_same, watched_on, count_here, count_other}

-- the meetings of v with `items` are filed, but for those in `rest`
pub record AreFiled (x : List ℕ) (l v : ℕ) (items rest : List ℕ) (old new : List (List Pair)) : Type 0 where
  pub sized : length new ≡ length old
  pub filed : (k : ℕ) → k < 65535 → get_or new k [] ++ meetings_on x l v k rest ≡ get_or old k [] ++ meetings_on x l v k items

module _ (x : List ℕ) (l v w : ℕ) (items rest : List ℕ) (old new : List (List Pair)) (s : AreFiled x l v items (w ∷ rest) old new) where
  on_yes : (k : ℕ) → l < k → get_or x w 0 ≡ k → meetings_on x l v k (w ∷ rest) ≡ (v, w) ∷ meetings_on x l v k rest
  on_yes k above on = grind (arith, nat_tests)

  on_no : (k : ℕ) → get_or x w 0 ≢ k → meetings_on x l v k (w ∷ rest) ≡ meetings_on x l v k rest
  on_no k off = grind (arith, nat_tests)

  filed_met : l < get_or x w 0 → get_or x w 0 < length new → AreFiled x l v items rest old (set new (get_or x w 0) (get_or new (get_or x w 0) [] ++ (v, w) ∷ []))
  filed_met above inside = record {
    sized = length-set new (get_or x w 0) (get_or new (get_or x w 0) [] ++ (v, w) ∷ []) ∙ s.sized;
    filed = λ k small. grind (arith, nat_tests, get_or-set_same, append_assoc, on_yes, get_or-set_other, on_no, s.filed);
  }

-- the meetings with those above the level are all meetings
meetings_above : (x : List ℕ) (l v k : ℕ) → k < 65535 → (ws : List ℕ) → meetings_on x l v k (filter (λ w. ltb l (get_or x w 0) && ltb (get_or x w 0) 65535) ws) ≡ meetings_on x l v k ws
meetings_above x l v k small [] = refl
meetings_above x l v k small (w ∷ ws) = grind (arith, nat_tests, meetings_above x l v k small ws)

-- v begins to rise, and the first i of `items`, its neighbours above the level, were looked at
pub record IsBeginning (step : Crossing) (v i : ℕ) (items : List ℕ) (told tell : Tell) (old new : List (List Pair)) : Type 0 where
  pub telling : tell ≡ record told { all = told.all ++ filter (λ w. eqb (get_or step.levels.stored w 0) (step.level + 1)) (take i items) }
  pub filing : AreFiled step.levels.stored step.level v items (drop i items) old new

pub beginning_first : (step : Crossing) (v : ℕ) (items : List ℕ) (told : Tell) (old : List (List Pair)) → IsBeginning step v 0 items told told old old
beginning_first step v items told old = record {
  telling = ap (λ ys. record told { all = ys }) (sym (append-nil told.all));
  filing = record { sized = refl; filed = λ k small. refl };
}

-- what is found at two places that follow each other: a vertex above the level, and its level
pub record IsFound (step : Crossing) (v i : ℕ) (found : List ℕ) : Type 0 where
  pub at : i < length (above_near step v)
  pub vertex : get_or found (2 * i) 0 ≡ get_or (above_near step v) i 0
  pub level : get_or found (2 * i + 1) 0 ≡ get_or step.levels.stored (get_or (above_near step v) i 0) 0
  pub above : is_above step (get_or (above_near step v) i 0) ≡ true
  pub over : step.level < get_or step.levels.stored (get_or (above_near step v) i 0) 0
  pub small : get_or step.levels.stored (get_or (above_near step v) i 0) 0 < 65535

pub is_found : (step : Crossing) (v i : ℕ) (found : List ℕ) → found ≡ with_levels step.levels.stored (above_near step v) → i < length found / 2 → IsFound step v i found
is_found step v i found is inside =
    let long : length found ≡ 2 * length (above_near step v) = ap length is ∙ length-with_levels step.levels.stored (above_near step v) in
    let at : i < length (above_near step v) = omega (arith, long, inside) in
    let passes = passes_at (is_above step) (neighbours_of v step.graph.edges) i at in
    record {
      at = at;
      vertex = ap (λ ws. get_or ws (2 * i) 0) is ∙ vertex_at step.levels.stored (above_near step v) i;
      level = ap (λ ws. get_or ws (2 * i + 1) 0) is ∙ level_at step.levels.stored (above_near step v) i at;
      above = passes.1;
      over = first (get_or step.levels.stored (get_or (above_near step v) i 0) 0) passes.1;
      small = second (get_or step.levels.stored (get_or (above_near step v) i 0) 0) passes.1;
    }
  where
    first : (a : ℕ) → ltb step.level a && ltb a 65535 ≡ true → step.level < a
    first a e = grind (arith, nat_tests, e)

    second : (a : ℕ) → ltb step.level a && ltb a 65535 ≡ true → a < 65535
    second a e = grind (arith, nat_tests, e)

-- the step of a loop at place i
module _ (step : Crossing) (v i : ℕ) (items : List ℕ) (told tell : Tell) (old new : List (List Pair)) (at : i < length items) (over : step.level < get_or step.levels.stored (get_or items i 0) 0) (inside : get_or step.levels.stored (get_or items i 0) 0 < length old) (s : IsBeginning step v i items told tell old new) where
  abbrev item : ℕ
  item = get_or items i 0

  abbrev test : ℕ → Bool
  test w = eqb (get_or step.levels.stored w 0) (step.level + 1)

  next : AreFiled step.levels.stored step.level v items (get_or items i 0 ∷ drop (suc i) items) old new
  next = rw (← drop-cons items i 0 at) s.filing

  after : AreFiled step.levels.stored step.level v items (drop (i + 1) items) old (set new (get_or step.levels.stored item 0) (get_or new (get_or step.levels.stored item 0) [] ++ (v, item) ∷ []))
  after = rw (add-one i) (filed_met step.levels.stored step.level v item items (drop (suc i) items) old new next over (omega (arith, inside, s.filing.sized)))

  more : filter test (take (i + 1) items) ≡ filter test (take i items) ++ cond (test item) (item ∷ []) []
  more = filter_more test items i 0 at

  pub beginning_next : (tells : Tell) → get_or step.levels.stored item 0 ≡ step.level + 1 → tells ≡ record tell { all = tell.all ++ item ∷ [] } → IsBeginning step v (i + 1) items told tells old (set new (get_or step.levels.stored item 0) (get_or new (get_or step.levels.stored item 0) [] ++ (v, item) ∷ []))
  beginning_next tells on is = record {
    telling = is ∙ ap (λ (t : Tell). record t { all = t.all ++ item ∷ [] }) s.telling ∙ ap (λ ys. record told { all = ys }) (append_assoc told.all (filter test (take i items)) (item ∷ []) ∙ ap (λ ys. told.all ++ ys) (ap (λ b. filter test (take i items) ++ cond b (item ∷ []) []) (sym (yes_ (get_or step.levels.stored item 0) on)) ∙ sym more));
    filing = after;
  }
    where
      yes_ : (a : ℕ) → a ≡ step.level + 1 → eqb a (step.level + 1) ≡ true
      yes_ a e = grind (arith, nat_tests, e)

  pub beginning_over : get_or step.levels.stored item 0 ≢ step.level + 1 → IsBeginning step v (i + 1) items told tell old (set new (get_or step.levels.stored item 0) (get_or new (get_or step.levels.stored item 0) [] ++ (v, item) ∷ []))
  beginning_over off = record {
    telling = s.telling ∙ ap (λ ys. record told { all = told.all ++ ys }) (sym (append-nil (filter test (take i items))) ∙ ap (λ b. filter test (take i items) ++ cond b (item ∷ []) []) (sym (no_ (get_or step.levels.stored item 0) off)) ∙ sym more);
    filing = after;
  }
    where
      no_ : (a : ℕ) → a ≢ step.level + 1 → eqb a (step.level + 1) ≡ false
      no_ a ne = grind (arith, nat_tests, ne)

-- at the end
module _ (step : Crossing) (v i : ℕ) (told tell : Tell) (old new : List (List Pair)) (end : length (above_near step v) ≤ i) (small : step.level < 65534) (s : IsBeginning step v i (above_near step v) told tell old new) where
  next_of_above : (ws : List ℕ) → filter (λ w. eqb (get_or step.levels.stored w 0) (step.level + 1)) (filter (is_above step) ws) ≡ filter (λ w. eqb (get_or step.levels.stored w 0) (step.level + 1)) ws
  next_of_above [] = refl
  next_of_above (w ∷ ws) = grind (arith, nat_tests, next_of_above ws)

  pub begun_telling : tell ≡ record told { all = told.all ++ next_near step v }
  begun_telling = s.telling ∙ ap (λ ys. record told { all = told.all ++ ys }) (ap (filter (λ w. eqb (get_or step.levels.stored w 0) (step.level + 1))) (take_all i (above_near step v) end) ∙ next_of_above (neighbours_of v step.graph.edges))

  pub begun_filed : HaveMeetings step (v ∷ []) old new
  begun_filed = record {
    sized = s.filing.sized;
    filed = λ k low.
        sym (append-nil (get_or new k [])) ∙ (rw (drop_all i (above_near step v) end) at s.filing).filed k low
        ∙ ap (λ (es : List Pair). get_or old k [] ++ es) (meetings_above step.levels.stored step.level v k low (neighbours_of v step.graph.edges) ∙ sym (append-nil (meetings_of step k v)));
  }

-- first the vertices xs begin, then ys
pub have_none : (step : Crossing) (old : List (List Pair)) → HaveMeetings step [] old old
have_none step old = record { sized = refl; filed = λ k low. sym (append-nil (get_or old k [])) }

pub have_both : (step : Crossing) (xs ys : List ℕ) (a b c : List (List Pair)) → HaveMeetings step xs a b → HaveMeetings step ys b c → HaveMeetings step (xs ++ ys) a c
have_both step xs ys a b c s t = record {
  sized = t.sized ∙ s.sized;
  filed = λ k low. grind (arith, nat_tests, append_assoc, flat_map-append, t.filed, s.filed);
}

pub begun_none : (step : Crossing) (a : Watch) → HaveBegun step [] a a
begun_none step a = record { watched = watched_same a; own = λ v there. absurd (true≢false (sym there)); others = λ v from none. refl }

-- one more counts afresh
pub begun_more : (step : Crossing) (xs : List ℕ) (v own : ℕ) (a b c : Watch) → ((u : ℕ) → has_number u xs ≡ true → a.first ≤ u) → HasVertex a v → HaveBegun step xs a b → own ≡ count_by (count_above step) (neighbours_of v step.graph.edges) → c.counts ≡ set b.counts (v - b.first) own → StayWatched b c → HaveBegun step (xs ++ v ∷ []) a c
begun_more step xs v own a b c listed was s fresh is t = record {
  watched = watched_on a b c s.watched t;
  own = λ u there. grind (arith, nat_tests, count_here, pushed_is, count_other, t.first, s.watched.first, s.own);
  others = λ u from none. grind (arith, nat_tests, cases_eq u v, true≢false, has_last, count_other, held, before, t.first, s.watched.first, s.others);
}
  where
    held : HasVertex b v
    held = record { from = omega (arith, was.from, s.watched.first); below = omega (arith, was.below, s.watched.first, s.watched.sized) }

    before : (u : ℕ) → has_number u (xs ++ v ∷ []) ≡ false → has_number u xs ≡ false
    before u none = grind (arith, nat_tests, sym (has_number-push u v xs) ∙ none)

-- a vertex among the first of a list is in it
pub listed_before : (u i : ℕ) (xs : List ℕ) → has_number u (take i xs) ≡ true → has_number u xs ≡ true
listed_before u i xs there = times_some u xs (omega (arith, times_there u (take i xs) there, times_part u i xs))

pub held_still : (a b : Watch) (v : ℕ) → HasVertex a v → StayWatched a b → HasVertex b v
held_still a b v was s = record { from = omega (arith, was.from, s.first); below = omega (arith, was.below, s.first, s.sized) }

-- the vertices of the list have begun: what they tell, the meetings to come, and what they count
pub record AreBegun (step : Crossing) (begun : List ℕ) (a b : Tell) (old new : List (List Pair)) (v w : Watch) : Type 0 where
  pub told : b ≡ record a { all = a.all ++ flat_map (next_near step) begun }
  pub meetings : HaveMeetings step begun old new
  pub counts : HaveBegun step begun v w

-- all of a range is as before but its counts, its meetings, what it tells, and its room for a row
abbrev pub KeepsRest : Inside → Inside → Type 0
KeepsRest old new =
    (new.queue ≡ old.queue) × (new.began.items ≡ old.began.items) × (new.risen.items ≡ old.risen.items) × (new.stay.items ≡ old.stay.items)
    × (new.begun.items ≡ old.begun.items) × (new.steps ≡ old.steps) × (new.is_short ≡ old.is_short)
