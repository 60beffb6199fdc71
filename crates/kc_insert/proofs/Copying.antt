-- Counts of ranges that are copied from a list, at some vertices.
use Rattle.std.proofs.Common.{ℕ, ◌+◌, ◌-◌, ◌≤◌, ◌<◌, ◌≡◌, ◌≢◌, inl, inr, false, List, length, get_or, set, take, refl, ap, sym, subst, ◌∙◌, arith}
use Rattle.std.specs.List.{All}
use Rattle.std.proofs.lemmas.Bool.{cases_eq, cases_lt}
use Rattle.std.proofs.lemmas.List.{get_or-set_other, get_or-set_same, get_or_default, get_or_past, length-set, take_all, take_more}
use Rattle.std.proofs.lemmas.List.Elements.{All-push}
use Rattle.std.proofs.lemmas.Bool.Decides.{nat_tests}
use Rattle.kc_graph.specs.Numbers.{has_number}
use Rattle.kc_graph.proofs.lemmas.Numbers.{has_number_nowhere}
use Rattle.kc_levels.proofs.lemmas.Writes.{copied_first, copied_then}
use Rattle.kc_insert.specs.private.Filed.{AreCopied}
use Rattle.kc_insert.specs.Ranges.{counts_of, Cut, HasVertex, IsIn, no_part, Part, part_of, range_of}
use Rattle.kc_insert.specs.private.Ranges.{count_of, IsSameCut}
use Rattle.kc_insert.specs.private.Watched.{count_at}
use Rattle.kc_insert.proofs.Filled.{cut_same, same_cut, same_on}
use Rattle.kc_insert.proofs.Flat.{count_is, length_counts}
use Rattle.kc_insert.proofs.Watching.{count_here, count_other}

-- a vertex is in its range still
pub in_same : (old new : Cut) (v : ℕ) → IsSameCut old new → IsIn old v → IsIn new v
in_same old new v t it = record {
  place = omega (arith, range, t.sized, it.place);
  held = grind (arith, nat_tests, it.held.from, it.held.below, t.counts, it.place);
}
  where
    range : range_of new.width v ≡ range_of old.width v
    range = ap (λ b. range_of b v) t.width

pub copied_none : (fresh : List ℕ) (spared : ℕ → Type 0) (a : Cut) → ((v : ℕ) → spared v) → AreCopied fresh spared a a
copied_none fresh spared a rest = record { same = same_cut a; queues = λ j d h. refl; copied = λ levels cut. copied_first fresh (counts_of a) spared rest }

pub copied_on : (fresh : List ℕ) (p q r : ℕ → Type 0) (a b c : Cut) → AreCopied fresh p a b → AreCopied fresh q b c → ((u : ℕ) → p u → q u → r u) → AreCopied fresh r a c
copied_on fresh p q r a b c s t both = record {
  same = same_on a b c s.same t.same;
  queues = λ j d h. t.queues j d (omega (arith, h, s.same.sized)) ∙ s.queues j d h;
  copied = λ levels cut. copied_then fresh (counts_of a) (counts_of b) (counts_of c) p q r (s.copied levels cut) (t.copied levels (cut_same (length fresh) levels a b cut s.same)) both;
}

-- one vertex
module _ (fresh : List ℕ) (v own : ℕ) (old new : Cut) (it : IsIn old v) (is : own ≡ get_or fresh v 0) (made : new ≡ record old { parts = set old.parts (range_of old.width v) (record (part_of old v) { watch = record (part_of old v).watch { counts = set (part_of old v).watch.counts (v - (part_of old v).watch.first) own } }) }) where
  abbrev part : Part
  part = record (part_of old v) { watch = record (part_of old v).watch { counts = set (part_of old v).watch.counts (v - (part_of old v).watch.first) own } }

  at_other : (j : ℕ) (d : Part) → j ≢ range_of old.width v → get_or new.parts j d ≡ get_or old.parts j d
  at_other j d ne = ap (λ (r : Cut). get_or r.parts j d) made ∙ get_or-set_other old.parts (range_of old.width v) j part d ne

  at_own : (d : Part) → get_or new.parts (range_of old.width v) d ≡ part
  at_own d = ap (λ (r : Cut). get_or r.parts (range_of old.width v) d) made ∙ get_or-set_same old.parts (range_of old.width v) part d it.place

  was : (d : Part) → get_or old.parts (range_of old.width v) d ≡ part_of old v
  was d = get_or_default old.parts (range_of old.width v) d no_part it.place

  same_one : IsSameCut old new
  same_one = record {
    width = ap (λ (r : Cut). r.width) made;
    told = ap (λ (r : Cut). r.told) made;
    sized = ap (λ (r : Cut). length r.parts) made ∙ length-set old.parts (range_of old.width v) part;
    each = λ j d h. grind (arith, nat_tests, at_own, was, at_other);
    counts = λ j d h. grind (arith, nat_tests, at_own, was, length-set, at_other);
    queues = λ j d h. grind (arith, nat_tests, at_own, was, at_other);
  }

  pub copied_one_vertex : AreCopied fresh (λ u. u ≢ v) old new
  copied_one_vertex = record {
    same = same_one;
    queues = λ j d h. grind (arith, nat_tests, at_own, was, at_other);
    copied = λ levels cut.
        let next = cut_same (length fresh) levels old new cut same_one in record {
          sized = length_counts (length fresh) levels new next ∙ sym (length_counts (length fresh) levels old cut);
          each = λ u. elim (cases_lt u (length fresh)) [
            | inr past ↦ inl (get_or_past (counts_of new) u 0 (omega (arith, past, length_counts (length fresh) levels new next)) ∙ sym (get_or_past fresh u 0 past))
            | inl h ↦
                let before = count_is (length fresh) levels old cut u h in
                let after = count_is (length fresh) levels new next u h ∙ ap (λ b. count_at (get_or new.parts (range_of b u) no_part).watch u) same_one.width in
                let held = (cut.vertex u h).held in
                grind (arith, nat_tests, cases_eq u v, here, other)
          ];
        };
  }
    where
      here : (u : ℕ) → u ≡ v → count_at (get_or new.parts (range_of old.width u) no_part).watch u ≡ own
      here u e = ap (λ k. count_at (get_or new.parts (range_of old.width k) no_part).watch k) e ∙ ap (λ (p : Part). count_at p.watch v) (at_own no_part) ∙ count_here (part_of old v).watch part.watch v own it.held refl refl

      other : (u : ℕ) → HasVertex (part_of old u).watch u → u ≢ v → count_at (get_or new.parts (range_of old.width u) no_part).watch u ≡ count_of old u
      other u held ne = grind (arith, nat_tests, at_other, at_own, count_other, held.from, it.held)

-- loops over a list
pub copied_more : {A : Type 0} (spares : ℕ → A → Type 0) (items : List A) (i : ℕ) (d item : A) (fresh : List ℕ) (a b c : Cut) → i < length items → item ≡ get_or items i d → AreCopied fresh (λ v. All (spares v) (take i items)) a b → AreCopied fresh (λ v. spares v item) b c → AreCopied fresh (λ v. All (spares v) (take (i + 1) items)) a c
copied_more {A} spares items i d item fresh a b c at is s t = copied_on fresh (λ v. All (spares v) (take i items)) (λ v. spares v item) (λ v. All (spares v) (take (i + 1) items)) a b c s t (λ u p q. subst (All (spares u)) (sym (take_more items i d at)) (All-push (spares u) (take i items) (get_or items i d) p (subst (spares u) is q)))

pub copied_whole : {A : Type 0} (spares : ℕ → A → Type 0) (items : List A) (i : ℕ) (fresh : List ℕ) (a b : Cut) → length items ≤ i → AreCopied fresh (λ v. All (spares v) (take i items)) a b → AreCopied fresh (λ v. All (spares v) items) a b
copied_whole {A} spares items i fresh a b end s = subst (λ (xs : List A). AreCopied fresh (λ v. All (spares v) xs) a b) (take_all i items end) s

-- the row of v
pub copied_row : (fresh ws : List ℕ) (v i : ℕ) (a b : Cut) → length ws ≤ i → AreCopied fresh (λ u. (u ≢ v) × All (λ (w : ℕ). u ≢ w) (take i ws)) a b → AreCopied fresh (λ u. (u ≢ v) × (has_number u ws ≡ false)) a b
copied_row fresh ws v i a b end s = copied_on fresh (λ u. (u ≢ v) × All (λ (w : ℕ). u ≢ w) (take i ws)) (λ u. u ≡ u) (λ u. (u ≢ v) × (has_number u ws ≡ false)) a b b s (copied_none fresh (λ u. u ≡ u) b (λ u. refl)) (λ u p q. (p.0, has_number_nowhere u ws (λ k h e. subst (All (λ (w : ℕ). u ≢ w)) (take_all i ws end) p.1 k 0 h (sym e))))

pub copied_row_next : (fresh ws : List ℕ) (v i : ℕ) (a b c : Cut) → i < length ws → AreCopied fresh (λ u. (u ≢ v) × All (λ (w : ℕ). u ≢ w) (take i ws)) a b → AreCopied fresh (λ u. u ≢ get_or ws i 0) b c → AreCopied fresh (λ u. (u ≢ v) × All (λ (w : ℕ). u ≢ w) (take (i + 1) ws)) a c
copied_row_next fresh ws v i a b c at s t = copied_on fresh (λ u. (u ≢ v) × All (λ (w : ℕ). u ≢ w) (take i ws)) (λ u. u ≢ get_or ws i 0) (λ u. (u ≢ v) × All (λ (w : ℕ). u ≢ w) (take (i + 1) ws)) a b c s t (λ u p q. (p.0, subst (All (λ (w : ℕ). u ≢ w)) (sym (take_more ws i 0 at)) (All-push (λ (w : ℕ). u ≢ w) (take i ws) (get_or ws i 0) p.1 q)))
