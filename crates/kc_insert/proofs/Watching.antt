-- Counts of a range with a watch list: one change of a count, and many.
use Rattle.std.proofs.Common.{ℕ, ◌+◌, ◌-◌, ◌≤◌, ◌<◌, ◌≡◌, ◌≢◌, inl, true, false, cond, List, [], ◌∷◌, ◌++◌, length, get_or, set, filter, append-nil, take, refl, ap, sym, ◌∙◌, arith}
use Rattle.std.proofs.lemmas.Bool.{cases_eq}
use Rattle.std.proofs.lemmas.Bool.Decides.{nat_tests}
use Rattle.std.proofs.lemmas.List.{length-set, get_or-set_same, get_or-set_other}
use Rattle.std.proofs.lemmas.List.Elements.{filter_more}
use Rattle.kc_graph.specs.Numbers.{has_number}
use Rattle.kc_graph.proofs.lemmas.Numbers.{has_number-push, has_number_at}
use Rattle.kc_insert.specs.private.Telling.{times}
use Rattle.kc_insert.specs.private.Watched.{count_at, is_few, StayWatched}
use Rattle.kc_insert.specs.Ranges.{HasVertex, Watch}
use Rattle.kc_insert.proofs.Adding.{times_more, times_part}
use Rattle.kc_insert.proofs.Buckets.{pushed_is, has_last}

pub watched_same : (a : Watch) → StayWatched a a
watched_same a = record { first = refl; sized = refl; most = refl; still = λ v there. there; inside = λ v there. inl there; fell = λ v from few. inl few }

pub watched_on : (a b c : Watch) → StayWatched a b → StayWatched b c → StayWatched a c
watched_on a b c s t = record {
  first = t.first ∙ s.first;
  sized = t.sized ∙ s.sized;
  most = t.most ∙ s.most;
  still = λ v there. t.still v (s.still v there);
  inside = λ v there. grind (arith, nat_tests, t.inside, s.inside, s.first, s.sized);
  fell = λ v from few. grind (arith, nat_tests, t.fell, s.first, s.most, s.fell, t.still);
}

-- a vertex of the range has a place of its own
pub held_place : (a : Watch) (v : ℕ) → HasVertex a v → v - a.first < length a.counts
held_place a v h = omega (arith, h.from, h.below)

pub same_place : (first u v : ℕ) → first ≤ u → first ≤ v → u ≢ v → u - first ≢ v - first
same_place first u v a b ne e = ne (omega (arith, a, b, e))

-- v counts k from now on
module _ (a b : Watch) (v k : ℕ) (held : HasVertex a v) (first : b.first ≡ a.first) (is : b.counts ≡ set a.counts (v - a.first) k) where
  pub count_here : count_at b v ≡ k
  count_here = rw (is, first) (get_or-set_same a.counts (v - a.first) k 0 (held_place a v held))

  pub count_other : (u : ℕ) → a.first ≤ u → u ≢ v → count_at b u ≡ count_at a u
  count_other u from ne = rw (is, first) (get_or-set_other a.counts (v - a.first) (u - a.first) k 0 (same_place a.first u v from held.from ne))

  pub count_sized : length b.counts ≡ length a.counts
  count_sized = rw is (length-set a.counts (v - a.first) k)

  -- and is written down
  pub watched_noted : b.most ≡ a.most → b.doubtful ≡ a.doubtful ++ v ∷ [] → StayWatched a b
  watched_noted most more = record {
    first = first;
    sized = count_sized;
    most = most;
    still = λ u there. ap (has_number u) more ∙ has_number-push u v a.doubtful ∙ grind (arith, nat_tests, there);
    inside = λ u there. grind (arith, nat_tests, pushed_is);
    fell = λ u from few. grind (arith, nat_tests, cases_eq u v, has_last, count_other);
  }

-- each of the first i of the list counted one less
pub record IsLess (a b : Watch) (xs : List ℕ) (i : ℕ) : Type 0 where
  pub watched : StayWatched a b
  pub less : (v : ℕ) → a.first ≤ v → count_at b v + times v (take i xs) ≡ count_at a v

module _ (a b : Watch) (xs : List ℕ) (i : ℕ) (at : i < length xs) (held : (v : ℕ) → has_number v xs ≡ true → HasVertex a v) (enough : (v : ℕ) → times v xs ≤ count_at a v) (s : IsLess a b xs i) where
  was : HasVertex a (get_or xs i 0)
  was = held (get_or xs i 0) (has_number_at (get_or xs i 0) xs i at refl)

  pub less_held : HasVertex b (get_or xs i 0)
  less_held = record { from = omega (arith, was.from, s.watched.first); below = omega (arith, was.below, s.watched.first, s.watched.sized) }

  one : times (get_or xs i 0) (take (i + 1) xs) ≡ times (get_or xs i 0) (take i xs) + 1
  one = times_more (get_or xs i 0) i xs at ∙ grind (arith, nat_tests)

  pub less_some : 1 ≤ count_at b (get_or xs i 0)
  less_some = omega (arith, s.less (get_or xs i 0) was.from, one, times_part (get_or xs i 0) (i + 1) xs, enough (get_or xs i 0))

  pub less_on : (c : Watch) → c.first ≡ b.first → c.counts ≡ set b.counts (get_or xs i 0 - b.first) (count_at b (get_or xs i 0) - 1) → StayWatched b c → IsLess a c xs (i + 1)
  less_on c first is t = record {
    watched = watched_on a b c s.watched t;
    less = λ v from. grind (arith, nat_tests, cases_eq v (get_or xs i 0), count_here, less_held, less_some, one, was, count_other, none, s.less, s.watched.first);
  }
    where
      none : (v : ℕ) → v ≢ get_or xs i 0 → times v (take (i + 1) xs) ≡ times v (take i xs)
      none v ne = times_more v i xs at ∙ grind (arith, nat_tests, ne)

-- one more of the vertices was looked at
pub few_yes : (w : Watch) (d xs : List ℕ) (most i : ℕ) → i < length xs → count_at w (get_or xs i 0) ≤ most → d ≡ filter (is_few w most) (take i xs) → d ++ get_or xs i 0 ∷ [] ≡ filter (is_few w most) (take (i + 1) xs)
few_yes w d xs most i at few is =
    let pass : is_few w most (get_or xs i 0) ≡ true = grind (arith, nat_tests, few) in
    ap (λ t. t ++ get_or xs i 0 ∷ []) is ∙ ap (λ b. filter (is_few w most) (take i xs) ++ cond b (get_or xs i 0 ∷ []) []) (sym pass) ∙ sym (filter_more (is_few w most) xs i 0 at)

pub few_no : (w : Watch) (d xs : List ℕ) (most i : ℕ) → i < length xs → most < count_at w (get_or xs i 0) → d ≡ filter (is_few w most) (take i xs) → d ≡ filter (is_few w most) (take (i + 1) xs)
few_no w d xs most i at many is =
    let fail : is_few w most (get_or xs i 0) ≡ false = grind (arith, nat_tests, many) in
    is ∙ sym (append-nil (filter (is_few w most) (take i xs))) ∙ ap (λ b. filter (is_few w most) (take i xs) ++ cond b (get_or xs i 0 ∷ []) []) (sym fail) ∙ sym (filter_more (is_few w most) xs i 0 at)
