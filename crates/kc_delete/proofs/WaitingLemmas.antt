-- Vertices that wait, filed by level.
use Rattle.std.proofs.Common.{Option, is_some, IfNone, ℕ, suc, ◌+◌, ◌-◌, ◌≤◌, ◌<◌, ◌≡◌, ◌≢◌, inl, inr, Bool, true, false, not, eqb, ltb, ◌||◌, ◌&&◌, filter, List, [], ◌∷◌, ◌++◌, length, get_or, set, take, replicate, refl, ap, sym, ◌∙◌, arith}
use Rattle.std.proofs.lemmas.Bool.{cases_eq, true≢false}
use Rattle.std.proofs.lemmas.Bool.Decides.{nat_tests}
use Rattle.std.proofs.lemmas.List.{length-replicate, length-set, get_or-set_same, get_or-set_other, take_more}
use Rattle.kc_graph.specs.Numbers.{has_number}
use Rattle.kc_graph.specs.Shape.{GraphShape}
use Rattle.kc_graph.proofs.lemmas.Numbers.{has_number-push, has_number_at}
use Rattle.kc_levels.specs.declared.profile.Profile.{Profile}
use Rattle.kc_levels.specs.Thresholds.{low, group_of}
use Rattle.kc_levels.specs.LevelList.{at_least, IsHeld, MeetsLower}
use Rattle.kc_adj.proofs.lemmas.Lists.{empty_list}
use Rattle.kc_delete.specs.private.Waiting.{AreFiled, IsSifted}
use Rattle.kc_delete.specs.private.Settling.{is_short}

has_number-filter : (u : ℕ) (p : ℕ → Bool) (xs : List ℕ) → has_number u (filter p xs) ≡ has_number u xs && p u
has_number-filter u p [] = refl
has_number-filter u p (x ∷ xs) = grind (arith, nat_tests, has_number-filter u p xs)

-- more buckets with the same vertices
pub filed_reached : (first : ℕ) (bs cs : List (List ℕ)) (round : List ℕ) (waits : List Bool) → AreFiled first bs round waits → length bs ≤ length cs → ((k : ℕ) → get_or cs k [] ≡ get_or bs k []) → AreFiled first cs round waits
filed_reached first bs cs round waits f longer same = record {
  start = omega (arith, f.start, longer);
  below = λ k v there. f.below k v (sym (ap (has_number v) (same k)) ∙ there);
  inside = f.inside;
  filed = λ v marked. grind (arith, nat_tests, f.filed);
}

-- v waits, in the bucket of the level l
pub filed_more : (first m l v : ℕ) (bs : List (List ℕ)) (round : List ℕ) (waits : List Bool) → AreFiled first bs round waits → m ≤ first → m ≤ l → l < length bs → v < length waits → AreFiled m (set bs l (get_or bs l [] ++ v ∷ [])) round (set waits v true)
filed_more first m l v bs round waits f under_first under_level inside vertex = record {
  start = omega (arith, f.start, under_first, length-set bs l (get_or bs l [] ++ v ∷ []));
  inside = λ u there. omega (arith, length-set waits v true, f.inside u there);
  below = λ k u there. grind (arith, nat_tests, get_or-set_same, has_number-push, length-set, get_or-set_other, f.below);
  filed = λ u marked. elim (cases_eq u v) [
    | inl is ↦ inr (record {
      level = l;
      from = under_level;
      inside = omega (arith, inside, length-set bs l (get_or bs l [] ++ v ∷ []));
      there = ap (has_number u) (get_or-set_same bs l (get_or bs l [] ++ v ∷ []) [] inside) ∙ has_number-push u v (get_or bs l []) ∙ grind (arith, nat_tests, is);
    })
    | inr other ↦ grind (arith, nat_tests, f.filed u (sym (get_or-set_other waits v u true false other) ∙ marked), get_or-set_other, length-set, still, f.filed)
  ];
}
  where
    still : (u k : ℕ) → has_number u (get_or bs k []) ≡ true → has_number u (get_or (set bs l (get_or bs l [] ++ v ∷ [])) k []) ≡ true
    still u k there = grind (arith, nat_tests, get_or-set_same, has_number-push, get_or-set_other)

-- fewer wait, and those of them who were in the round are still
pub filed_fewer : (first : ℕ) (bs : List (List ℕ)) (round rest : List ℕ) (before after : List Bool) → AreFiled first bs round before → length after ≡ length before → ((v : ℕ) → has_number v rest ≡ true → has_number v round ≡ true) → ((v : ℕ) → get_or after v false ≡ true → (get_or before v false ≡ true) × (has_number v round ≡ true → has_number v rest ≡ true)) → AreFiled first bs rest after
filed_fewer first bs round rest before after f same less fewer = record {
  start = f.start;
  below = λ k v there. omega (arith, same, f.below k v there);
  inside = λ v there. omega (arith, same, f.inside v (less v there));
  filed = λ v marked. grind (arith, nat_tests, f.filed);
}

-- the round has come to its end
pub filed_ended : (first : ℕ) (bs : List (List ℕ)) (round rest : List ℕ) (before after : List Bool) → AreFiled first bs round before → after ≡ before → rest ≡ [] → ((v : ℕ) → get_or after v false ≡ true → has_number v round ≡ true → has_number v rest ≡ true) → AreFiled first bs [] after
filed_ended first bs round rest before after f same none still = grind (arith, nat_tests, filed_fewer, true≢false)

-- nobody is in the round, and there are no further buckets
pub filed_last : (first : ℕ) (bs : List (List ℕ)) (round : List ℕ) (waits : List Bool) → AreFiled first bs round waits → round ≡ [] → length bs ≤ first → (v : ℕ) → get_or waits v false ≡ false
filed_last first bs round waits f none last v = grind (arith, nat_tests, true≢false, f.filed)

-- nobody waits
pub filed_none : (first : ℕ) (bs : List (List ℕ)) (waits : List Bool) → first ≤ length bs → ((v : ℕ) → get_or waits v false ≡ false) → AreFiled first (replicate (length bs) []) [] waits
filed_none first bs waits inside none = record {
  start = omega (arith, inside, length-replicate {A = List ℕ} (length bs) []);
  below = λ k v there. absurd (true≢false (sym there ∙ ap (has_number v) (empty_list (length bs) k)));
  inside = λ v there. absurd (true≢false (sym there));
  filed = λ v marked. absurd (true≢false (sym marked ∙ none v));
}

-- the vertices of a round are within the marks
pub round_inside : (first : ℕ) (bs : List (List ℕ)) (round : List ℕ) (waits : List Bool) → AreFiled first bs round waits → (k : ℕ) → k < length round → get_or round k 0 < length waits
round_inside first bs round waits f k h = f.inside (get_or round k 0) (has_number_at (get_or round k 0) round k h refl)

pub if_none : (next : Option ℕ) (P : Type 0) → is_some next ≡ false → IfNone next P → P
if_none next it none holds = grind (arith, nat_tests, true≢false)

-- the round has come to its end, and the next one begins
pub round_begun : (first next_first : ℕ) (bs next_bs : List (List ℕ)) (round rest next : List ℕ) (before after : List Bool) (taken : Option ℕ) → AreFiled first bs round before → is_some taken ≡ false → IfNone taken (after ≡ before) → IfNone taken (rest ≡ []) → ((v : ℕ) → get_or after v false ≡ true → has_number v round ≡ true → has_number v rest ≡ true) → ((waits : List Bool) → AreFiled first bs [] waits → AreFiled next_first next_bs next waits) → AreFiled next_first next_bs next after
round_begun first next_first bs next_bs round rest next before after taken f none kept ended still begun =
    begun after (filed_ended first bs round rest before after f (if_none taken (after ≡ before) none kept) (if_none taken (rest ≡ []) none ended) still)

-- some leave, and then others
pub sifted_then : (p : Profile) (g : GraphShape) (y : List ℕ) (before between after : List Bool) → IsSifted p g y before between → IsSifted p g y between after → IsSifted p g y before after
sifted_then p g y before between after r s = record {
  sized = s.sized ∙ r.sized;
  fewer = λ v marked. r.fewer v (s.fewer v marked);
  meets = λ v marked. elim (r.meets v marked) [ inl marked_still ↦ s.meets v marked_still | inr meets ↦ inr meets ];
}

enough_on : (l a b : ℕ) → ltb 0 (suc l) && ltb a b ≡ false → b ≤ a
enough_on l a b e = grind (arith, nat_tests, e)

held : (p : Profile) (g : GraphShape) (y : List ℕ) (v k : ℕ) → ltb 0 k && ltb (at_least g y v (k - 1)) (low p (group_of p g.vertices (k - 1))) ≡ false → IsHeld p g y v k
held p g y v k e = grind (arith, nat_tests, enough_on)

-- who isn't short meets the lower invariant
pub meets_unless_short : (p : Profile) (g : GraphShape) (y : List ℕ) (v : ℕ) → is_short p g y v ≡ false → MeetsLower p g y v
meets_unless_short p g y v enough = held p g y v (get_or y v 0) enough

-- the movers of a round are within the marks
pub movers_inside : (p : Profile) (g : GraphShape) (y : List ℕ) (first : ℕ) (bs : List (List ℕ)) (round movers : List ℕ) (before : List Bool) → AreFiled first bs round before → movers ≡ filter (λ v. get_or before v false && is_short p g y v) round → (k : ℕ) → k < length movers → get_or movers k 0 < length before
movers_inside p g y first bs round movers before f are k h =
    let there = ap (has_number (get_or movers k 0)) are ∙ has_number-filter (get_or movers k 0) (λ u. get_or before u false && is_short p g y u) round in
    f.inside (get_or movers k 0) (left_of _ _ (sym there ∙ has_number_at (get_or movers k 0) movers k h refl))
  where
    left_of : (a b : Bool) → a && b ≡ true → a ≡ true
    left_of a b e = grind (arith, nat_tests, e)

-- of the round only those wait on who wait and are short
module _ (p : Profile) (g : GraphShape) (y : List ℕ) (first : ℕ) (bs : List (List ℕ)) (round movers : List ℕ) (before after : List Bool) (f : AreFiled first bs round before) (are : movers ≡ filter (λ v. get_or before v false && is_short p g y v) round) (sized : length after ≡ length before) (marks : (v : ℕ) → get_or after v false ≡ has_number v movers || (get_or before v false && not (has_number v round))) where
  moves : (v : ℕ) → has_number v movers ≡ has_number v round && (get_or before v false && is_short p g y v)
  moves v = ap (has_number v) are ∙ has_number-filter v (λ u. get_or before u false && is_short p g y u) round

  pub round_movers : (v : ℕ) → has_number v movers ≡ true → has_number v round ≡ true
  round_movers v there = grind (arith, nat_tests, moves)

  pub sifted_round : IsSifted p g y before after
  sifted_round = record {
    sized = sized;
    fewer = λ v marked. was _ _ _ _ (moves v) (sym (marks v) ∙ marked);
    meets = λ v marked. grind (arith, nat_tests, meets_unless_short, moves);
  }
    where
      was : (m r b s : Bool) → m ≡ r && (b && s) → m || (b && not r) ≡ true → b ≡ true
      was m r b s e on = grind (arith, nat_tests, e, on)

  pub filed_movers : AreFiled first bs movers after
  filed_movers = grind (arith, nat_tests, filed_fewer, round_movers, sifted_round)

-- v is the last of a round, and is taken out
module _ (round rest : List ℕ) (v : ℕ) (is : round ≡ rest ++ v ∷ []) where
  pub popped_there : has_number v round ≡ true
  popped_there = ap (has_number v) is ∙ has_number-push v v rest ∙ grind (arith, nat_tests)

  pub popped_fewer : (u : ℕ) → has_number u rest ≡ true → has_number u round ≡ true
  popped_fewer u there = ap (has_number u) is ∙ has_number-push u v rest ∙ grind (arith, nat_tests, there)

  popped_other : (u : ℕ) → u ≢ v → has_number u round ≡ true → has_number u rest ≡ true
  popped_other u ne there = grind (arith, nat_tests, has_number-push)

  -- v waits no more
  pub popped_waits : (marks : List Bool) (u : ℕ) → v < length marks → get_or (set marks v false) u false ≡ true → (get_or marks u false ≡ true) × (has_number u round ≡ true → has_number u rest ≡ true)
  popped_waits marks u inside marked = grind (arith, nat_tests, true≢false, get_or-set_same, get_or-set_other, popped_other)

  -- v didn't wait
  pub popped_free : (marks : List Bool) (u : ℕ) → get_or marks v false ≡ false → get_or marks u false ≡ true → has_number u round ≡ true → has_number u rest ≡ true
  popped_free marks u free marked = popped_other u (λ e. true≢false (sym marked ∙ ap (λ k. get_or marks k false) e ∙ free))

-- one mark more or less, of those of a list
has_take : (u : ℕ) (xs : List ℕ) (i : ℕ) → i < length xs → has_number u (take (i + 1) xs) ≡ has_number u (take i xs) || eqb (get_or xs i 0) u
has_take u xs i h = ap (has_number u) (take_more xs i 0 h) ∙ has_number-push u (get_or xs i 0) (take i xs)

pub cleared_more : (first marks : List Bool) (xs : List ℕ) (i : ℕ) → i < length xs → get_or xs i 0 < length marks → ((u : ℕ) → get_or marks u false ≡ get_or first u false && not (has_number u (take i xs))) → (u : ℕ) → get_or (set marks (get_or xs i 0) false) u false ≡ get_or first u false && not (has_number u (take (i + 1) xs))
cleared_more first marks xs i h inside was u = grind (arith, nat_tests, get_or-set_same, has_take, get_or-set_other)

pub marked_more : (first marks : List Bool) (xs : List ℕ) (i : ℕ) → i < length xs → get_or xs i 0 < length marks → ((u : ℕ) → get_or marks u false ≡ has_number u (take i xs) || get_or first u false) → (u : ℕ) → get_or (set marks (get_or xs i 0) true) u false ≡ has_number u (take (i + 1) xs) || get_or first u false
marked_more first marks xs i h inside was u = grind (arith, nat_tests, get_or-set_same, has_take, get_or-set_other)
