-- The vertices of a range count afresh, one after another, and wait if they count more than their groups allow.
use Rattle.std.proofs.Common.{ℕ, ◌+◌, ◌-◌, ◌<◌, ◌≤◌, ◌≡◌, ◌⊎◌, inl, inr, Bool, true, false, cond, ltb, eqb, not, ◌&&◌, List, [], ◌∷◌, ◌++◌, length, get_or, set, refl, ap, sym, ◌∙◌, arith}
use Rattle.std.proofs.lemmas.Bool.{cases_Bool}
use Rattle.std.proofs.lemmas.Bool.Decides.{nat_tests}
use Rattle.std.proofs.lemmas.List.{length-set}
use Rattle.kc_graph.specs.Numbers.{has_number}
use Rattle.kc_levels.specs.declared.profile.Profile.{Profile}
use Rattle.kc_levels.specs.Thresholds.{high, group_of}
use Rattle.kc_insert.specs.private.Filed.{HasFollowed, HaveFiled}
use Rattle.kc_insert.specs.private.Watched.{count_at}
use Rattle.kc_insert.specs.Ranges.{HasVertex, Watch}
use Rattle.kc_insert.proofs.Buckets.{placed, pushed_is, has_last, still_there, now_there}
use Rattle.kc_insert.proofs.Watching.{count_here, count_other}

pub filed_first : (p : Profile) (n : ℕ) (y fresh : List ℕ) (a : Watch) (first : List (List ℕ)) → HaveFiled p n y fresh 0 a a first first
filed_first p n y fresh a first = record {
  watch = refl;
  sized = refl;
  counts = λ v from below. absurd (omega (arith, from, below));
  later = λ v from. refl;
  buckets = refl;
  still = λ k u there. there;
  only = λ k u there. inl there;
  found = λ u from below ne many. absurd (omega (arith, from, below));
}

-- the vertices at the places from i on up to j counted as in `fresh` before
pub filed_over : (p : Profile) (n : ℕ) (y fresh : List ℕ) (i j : ℕ) (a b : Watch) (first queue : List (List ℕ)) → i ≤ j → ((k : ℕ) → i ≤ k → k < j → get_or b.counts k 0 ≡ get_or fresh (b.first + k) 0) → HaveFiled p n y fresh i a b first queue → HaveFiled p n y fresh j a b first queue
filed_over p n y fresh i j a b first queue order same s = record {
  watch = s.watch;
  sized = s.sized;
  counts = λ v from below. grind (arith, nat_tests, s.counts);
  later = λ v from. s.later v (omega (arith, from, order));
  buckets = s.buckets;
  still = s.still;
  only = s.only;
  found = λ u from below ne many. grind (arith, nat_tests, s.found, s.later);
}

-- the step of a loop at place i, where v stands
module _ (p : Profile) (n : ℕ) (y fresh : List ℕ) (i v : ℕ) (a b c : Watch) (first mid queue : List (List ℕ)) (is : v ≡ a.first + i) (at : i < length a.counts) (room : get_or y v 0 < length first) (s : HaveFiled p n y fresh i a b first mid) (t : HasFollowed p n y v (get_or fresh v 0) b c mid queue) where
  same : b.first ≡ a.first
  same = ap (λ (w : Watch). w.first) s.watch

  held : HasVertex b v
  held = record { from = omega (arith, is, same); below = omega (arith, is, at, same, s.sized) }

  kept : c.first ≡ b.first
  kept = ap (λ (w : Watch). w.first) t.counts

  counts_are : c.counts ≡ set b.counts (v - b.first) (get_or fresh v 0)
  counts_are = ap (λ (w : Watch). w.counts) t.counts

  abbrev test : Bool
  test = not (eqb (count_at b v) (get_or fresh v 0)) && ltb (high p (group_of p n (get_or y v 0))) (get_or fresh v 0)

  was : count_at b v ≡ count_at a v
  was = s.later v (omega (arith, is))

  wide : get_or y v 0 < length mid
  wide = omega (arith, room, s.buckets)

  pub filed_next : HaveFiled p n y fresh (i + 1) a c first queue
  filed_next = record {
    watch = t.counts ∙ ap (λ (w : Watch). record w { counts = set b.counts (v - b.first) (get_or fresh v 0) }) s.watch ∙ ap (λ ks. record a { counts = ks }) (sym counts_are);
    sized = ap length counts_are ∙ length-set b.counts (v - b.first) (get_or fresh v 0) ∙ s.sized;
    counts = λ u from below. grind (arith, nat_tests, count_here, held, kept, counts_are, count_other, same, s.counts);
    later = λ u from. count_other b c v (get_or fresh v 0) held kept counts_are u (omega (arith, from, same)) (λ e. absurd (omega (arith, e, from, is))) ∙ s.later u (omega (arith, from));
    buckets = grind (arith, nat_tests, length-set, s.buckets);
    still = λ k u there. grind (arith, nat_tests, still_there, wide, s.still);
    only = λ k u there. elim (cases_Bool test) [
      | inr no_ ↦ s.only k u (rw (passes no_) at there)
      | inl yes_ ↦ placed mid (get_or y v 0) k (get_or mid (get_or y v 0) [] ++ v ∷ []) wide (λ xs. has_number u xs ≡ true → (has_number u (get_or first k []) ≡ true) ⊎ (HasVertex a u × (get_or y u 0 ≡ k)))
          (λ here in_it. elim (pushed_is u v (get_or mid (get_or y v 0) []) in_it) [
            | inl e ↦ inr (rw e (record { from = omega (arith, is); below = omega (arith, is, at) }), rw e (sym here))
            | inr old ↦ s.only k u (rw here old)
          ])
          (λ other in_it. s.only k u in_it)
          (rw (waits yes_) at there)
    ];
    found = λ u from below ne many. grind (arith, nat_tests, was, now_there, wide, has_last, still_there, s.found);
  }
    where
      waits : test ≡ true → queue ≡ set mid (get_or y v 0) (get_or mid (get_or y v 0) [] ++ v ∷ [])
      waits e = t.waits ∙ ap (λ b. cond b (set mid (get_or y v 0) (get_or mid (get_or y v 0) [] ++ v ∷ [])) mid) e

      passes : test ≡ false → queue ≡ mid
      passes e = t.waits ∙ ap (λ b. cond b (set mid (get_or y v 0) (get_or mid (get_or y v 0) [] ++ v ∷ [])) mid) e
