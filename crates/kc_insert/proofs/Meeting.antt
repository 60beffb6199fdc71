-- Vertices of a list count one more each, one after another.
use Rattle.std.proofs.Common.{ℕ, ◌+◌, ◌-◌, ◌≤◌, ◌<◌, ◌≡◌, ◌⊎◌, inl, inr, true, false, cond, eqb, List, [], ◌∷◌, ◌++◌, length, get_or, set, take, add-one, refl, ap, sym, ◌∙◌, arith}
use Rattle.std.proofs.lemmas.Bool.{cases_Bool}
use Rattle.std.proofs.lemmas.Bool.Decides.{nat_tests}
use Rattle.std.proofs.lemmas.List.{length-set}
use Rattle.kc_graph.specs.Numbers.{has_number}
use Rattle.kc_graph.proofs.lemmas.Numbers.{has_number_at, has_number-append}
use Rattle.kc_insert.specs.private.Telling.{times}
use Rattle.kc_insert.specs.private.Watched.{count_at}
use Rattle.kc_insert.specs.Ranges.{HasVertex, Part}
use Rattle.kc_insert.specs.private.Parts.{HaveMet}
use Rattle.std.proofs.Math.Seq.{take-suc}
use Rattle.kc_insert.proofs.Adding.{times-append, times_more, times_part}
use Rattle.kc_insert.proofs.Buckets.{placed, pushed_is, still_there, now_there}
use Rattle.kc_insert.proofs.Watching.{count_here, count_other, count_sized}

pub met_none : (level most : ℕ) (p : Part) → HaveMet level most [] p p
met_none level most p = record {
  part = refl;
  sized = refl;
  more = λ v from. omega arith;
  levels = refl;
  still = λ k v there. there;
  only = λ k v there. inl there;
  noted = λ v held over. inl over;
}

-- first the vertices xs, then ys
pub met_on : (level most : ℕ) (xs ys : List ℕ) (a b c : Part) → HaveMet level most xs a b → HaveMet level most ys b c → HaveMet level most (xs ++ ys) a c
met_on level most xs ys a b c s t = record {
  part = t.part ∙ ap (λ (p : Part). record p { watch = record p.watch { counts = c.watch.counts }; queue = c.queue }) s.part;
  sized = t.sized ∙ s.sized;
  more = λ v from. t.more v (omega (arith, from, first)) ∙ omega (arith, s.more v from, times-append v xs ys);
  levels = t.levels ∙ s.levels;
  still = λ k v there. t.still k v (s.still k v there);
  only = λ k v there. grind (arith, nat_tests, has_number-append, t.only, s.only);
  noted = λ v held over. grind (arith, nat_tests, t.noted, held.from, held.below, s.sized, s.noted, t.still);
}
  where
    first : b.watch.first ≡ a.watch.first
    first = ap (λ (p : Part). p.watch.first) s.part

-- v counts one more, and waits if it had `most`
module _ (level most v : ℕ) (a b : Part) (held : HasVertex a.watch v) (room : level < length a.queue) (is : b ≡ record a { watch = record a.watch { counts = set a.watch.counts (v - a.watch.first) (count_at a.watch v + 1) }; queue = cond (eqb (count_at a.watch v) most) (set a.queue level (get_or a.queue level [] ++ v ∷ [])) a.queue }) where
  counts : b.watch.counts ≡ set a.watch.counts (v - a.watch.first) (count_at a.watch v + 1)
  counts = ap (λ (p : Part). p.watch.counts) is

  first : b.watch.first ≡ a.watch.first
  first = ap (λ (p : Part). p.watch.first) is

  queue : b.queue ≡ cond (eqb (count_at a.watch v) most) (set a.queue level (get_or a.queue level [] ++ v ∷ [])) a.queue
  queue = ap (λ (p : Part). p.queue) is

  waits : eqb (count_at a.watch v) most ≡ true → b.queue ≡ set a.queue level (get_or a.queue level [] ++ v ∷ [])
  waits e = queue ∙ ap (λ b. cond b (set a.queue level (get_or a.queue level [] ++ v ∷ [])) a.queue) e

  passes : eqb (count_at a.watch v) most ≡ false → b.queue ≡ a.queue
  passes e = queue ∙ ap (λ b. cond b (set a.queue level (get_or a.queue level [] ++ v ∷ [])) a.queue) e

  itself : has_number v (v ∷ []) ≡ true
  itself = grind (arith, nat_tests)

  one : (u : ℕ) → times u (v ∷ []) ≡ cond (eqb v u) 1 0
  one u = omega arith

  pub met_one : HaveMet level most (v ∷ []) a b
  met_one = record {
    part = is ∙ refl_part;
    sized = count_sized a.watch b.watch v (count_at a.watch v + 1) held first counts;
    more = λ u from. grind (arith, nat_tests, count_here, first, counts, count_other);
    levels = grind (arith, nat_tests, waits, length-set, queue, passes);
    still = λ k u there. grind (arith, nat_tests, waits, still_there, queue, passes);
    only = λ k u there. elim (cases_Bool (eqb (count_at a.watch v) most)) [
      | inr e ↦ inl (rw (passes e) at there)
      | inl e ↦ placed a.queue level k (get_or a.queue level [] ++ v ∷ []) room (λ xs. has_number u xs ≡ true → (has_number u (get_or a.queue k []) ≡ true) ⊎ ((k ≡ level) × (has_number u (v ∷ []) ≡ true)))
          (λ here in_it. elim (pushed_is u v (get_or a.queue level []) in_it) [
            | inl same ↦ inr (here, ap (λ t. has_number t (v ∷ [])) same ∙ itself)
            | inr old ↦ inl (rw here old)
          ])
          (λ other in_it. inl in_it)
          (rw (waits e) at there)
    ];
    noted = λ u its over. grind (arith, nat_tests, count_other, first, counts, count_here, waits, now_there, queue, itself, its.from);
  }
    where
      refl_part : record a { watch = record a.watch { counts = set a.watch.counts (v - a.watch.first) (count_at a.watch v + 1) }; queue = cond (eqb (count_at a.watch v) most) (set a.queue level (get_or a.queue level [] ++ v ∷ [])) a.queue } ≡ record a { watch = record a.watch { counts = b.watch.counts }; queue = b.queue }
      refl_part = ap (λ (p : Part). record a { watch = record a.watch { counts = p.watch.counts }; queue = p.queue }) (sym is)

-- the step of a loop at place i
module _ (level most i : ℕ) (xs : List ℕ) (a b : Part) (at : i < length xs) (held : (v : ℕ) → has_number v xs ≡ true → HasVertex a.watch v) (s : HaveMet level most (take i xs) a b) where
  begun : b.watch.first ≡ a.watch.first
  begun = ap (λ (p : Part). p.watch.first) s.part

  was : HasVertex a.watch (get_or xs i 0)
  was = held (get_or xs i 0) (has_number_at (get_or xs i 0) xs i at refl)

  pub met_held : HasVertex b.watch (get_or xs i 0)
  met_held = record { from = omega (arith, was.from, begun); below = omega (arith, was.below, begun, s.sized) }

  pub met_small : (most_of : ℕ) → ((v : ℕ) → count_at a.watch v + times v xs ≤ most_of) → count_at b.watch (get_or xs i 0) < most_of
  met_small most_of small =
      let one : times (get_or xs i 0) (take (i + 1) xs) ≡ times (get_or xs i 0) (take i xs) + 1 = times_more (get_or xs i 0) i xs at ∙ grind (arith, nat_tests) in
      omega (arith, one, s.more (get_or xs i 0) was.from, small (get_or xs i 0), times_part (get_or xs i 0) (i + 1) xs)

  pub met_next : (c : Part) → level < length a.queue → c ≡ record b { watch = record b.watch { counts = set b.watch.counts (get_or xs i 0 - b.watch.first) (count_at b.watch (get_or xs i 0) + 1) }; queue = cond (eqb (count_at b.watch (get_or xs i 0)) most) (set b.queue level (get_or b.queue level [] ++ get_or xs i 0 ∷ [])) b.queue } → HaveMet level most (take (i + 1) xs) a c
  met_next c room is = rw parts (met_on level most (take i xs) (get_or xs i 0 ∷ []) a b c s (met_one level most (get_or xs i 0) b c met_held (omega (arith, room, s.levels)) is))
    where
      parts : take (i + 1) xs ≡ take i xs ++ get_or xs i 0 ∷ []
      parts = rw (add-one i) (take-suc xs i 0 at)
