-- Forests over the places of a list: a place that points further up, and trees that come together.
use Rattle.std.proofs.Common.{ℕ, ◌+◌, ◌≤◌, ◌<◌, ◌≡◌, ◌≢◌, ◌⊎◌, inl, inr, Bool, true, false, ◌&&◌, ◌||◌, cond, eqb, ltb, max, min, List, [], ◌∷◌, length, get_or, set, map, zero, suc, refl, ap, sym, subst, ◌∙◌, arith}
use Rattle.std.proofs.lemmas.Bool.{cases_Bool, cases_eq, cases_lt, or_left}
use Rattle.std.proofs.lemmas.Bool.Decides.{nat_tests}
use Rattle.std.proofs.lemmas.List.{length-set, length-map, get_or-map, get_or-set_same, get_or-set_other}
use Rattle.std.proofs.lemmas.Grind.{common_steps}
use Rattle.kc_groups.specs.private.Forest.{IsForest, merged, AreGathered}

-- a place that isn't a root points to where its parent does
pub forest_up : (parents roots : List ℕ) (i : ℕ) → IsForest parents roots → i < length parents → IsForest (set parents i (get_or parents (get_or parents i 0) 0)) roots
forest_up parents roots i f h =
    let up = get_or parents i 0 in
    let top = get_or parents (get_or parents i 0) 0 in
    let inside : get_or parents i 0 < length parents = omega (arith, f.up i h, h) in
    record {
      sized = f.sized ∙ sym (length-set parents i top);
      up = λ j lt. elim (cases_eq j i) [
        | inl e ↦ omega (arith, at j e, f.up up inside, f.up i h, e)
        | inr ne ↦ omega (arith, other j ne, f.up j (old j lt))
      ];
      same = λ j lt. elim (cases_eq j i) [
        | inl e ↦ ap (λ u. get_or roots u 0) (at j e) ∙ f.same up inside ∙ f.same i h ∙ ap (λ u. get_or roots u 0) (sym e)
        | inr ne ↦ ap (λ u. get_or roots u 0) (other j ne) ∙ f.same j (old j lt)
      ];
      own = λ j lt is. elim (cases_eq j i) [
        | inl e ↦
            let low : get_or parents i 0 ≡ i = omega (arith, at j e, is, e, f.up up inside, f.up i h) in
            ap (λ u. get_or roots u 0) e ∙ f.own i h low ∙ sym e
        | inr ne ↦ f.own j (old j lt) (sym (other j ne) ∙ is)
      ];
      low = λ j lt. f.low j (old j lt);
      root = λ j lt.
          let l = old j lt in
          elim (cases_eq (get_or roots j 0) i) [
            | inl e ↦
                let own : get_or parents i 0 ≡ i = ap (λ u. get_or parents u 0) (sym e) ∙ f.root j l ∙ e in
                at (get_or roots j 0) e ∙ ap (λ u. get_or parents u 0) own ∙ own ∙ sym e
            | inr ne ↦ other (get_or roots j 0) ne ∙ f.root j l
          ];
    }
  where
    old : (j : ℕ) → j < length (set parents i (get_or parents (get_or parents i 0) 0)) → j < length parents
    old j lt = omega (arith, length-set parents i (get_or parents (get_or parents i 0) 0), lt)

    at : (j : ℕ) → j ≡ i → get_or (set parents i (get_or parents (get_or parents i 0) 0)) j 0 ≡ get_or parents (get_or parents i 0) 0
    at j e = ap (λ u. get_or (set parents i (get_or parents (get_or parents i 0) 0)) u 0) e ∙ get_or-set_same parents i (get_or parents (get_or parents i 0) 0) 0 h

    other : (j : ℕ) → j ≢ i → get_or (set parents i (get_or parents (get_or parents i 0) 0)) j 0 ≡ get_or parents j 0
    other j ne = get_or-set_other parents i j (get_or parents (get_or parents i 0) 0) 0 ne

-- the new root of a tree whose root was l, where the tree of the root s comes under r
abbrev pub under : ℕ → ℕ → ℕ → ℕ
under s r l = cond (eqb l s) r l

pub under_same : (s r l : ℕ) → l ≡ s → under s r l ≡ r
under_same s r l e = grind (arith, nat_tests, e)

pub under_other : (s r l : ℕ) → l ≢ s → under s r l ≡ l
under_other s r l ne = grind (arith, nat_tests, ne)

-- the tree of the root s comes under the root r
pub forest_under : (parents roots : List ℕ) (s r : ℕ) → IsForest parents roots → s < length parents → r ≤ s → get_or parents s 0 ≡ s → get_or parents r 0 ≡ r → IsForest (set parents s r) (map (under s r) roots)
forest_under parents roots s r f h le root_s root_r = record {
  sized = length-map roots (under s r) ∙ f.sized ∙ sym (length-set parents s r);
  up = λ j lt. elim (cases_eq j s) [
    | inl e ↦ omega (arith, at j e, le, e)
    | inr ne ↦ omega (arith, other j ne, f.up j (old j lt))
  ];
  same = λ j lt. elim (cases_eq j s) [
    | inl e ↦
        let is_r : get_or (map (under s r) roots) r 0 ≡ r = read r (omega (arith, le, h)) ∙ ap (under s r) own_r ∙ stays in
        let is_s : get_or (map (under s r) roots) j 0 ≡ r = read j (old j lt) ∙ under_same s r (get_or roots j 0) (ap (λ u. get_or roots u 0) e ∙ own_s) in
        ap (λ u. get_or (map (under s r) roots) u 0) (at j e) ∙ is_r ∙ sym is_s
    | inr ne ↦
        let l = old j lt in
        ap (λ u. get_or (map (under s r) roots) u 0) (other j ne) ∙ read (get_or parents j 0) (omega (arith, f.up j l, l)) ∙ ap (under s r) (f.same j l) ∙ sym (read j l)
  ];
  own = λ j lt is. elim (cases_eq j s) [
    | inl e ↦ read j (old j lt) ∙ under_same s r (get_or roots j 0) (ap (λ u. get_or roots u 0) e ∙ own_s) ∙ sym (at j e) ∙ is
    | inr ne ↦
        let was : get_or roots j 0 ≡ j = f.own j (old j lt) (sym (other j ne) ∙ is) in
        read j (old j lt) ∙ under_other s r (get_or roots j 0) (λ e. ne (sym was ∙ e)) ∙ was
  ];
  low = λ j lt. elim (cases_eq (get_or roots j 0) s) [
    | inl e ↦ omega (arith, read j (old j lt), under_same s r (get_or roots j 0) e, f.low j (old j lt), e, le)
    | inr ne ↦ omega (arith, read j (old j lt), under_other s r (get_or roots j 0) ne, f.low j (old j lt))
  ];
  root = λ j lt. elim (cases_eq (get_or roots j 0) s) [
    | inl e ↦
        let is : get_or (map (under s r) roots) j 0 ≡ r = read j (old j lt) ∙ under_same s r (get_or roots j 0) e in
        ap (λ u. get_or (set parents s r) u 0) is ∙ new_r ∙ sym is
    | inr ne ↦
        let is : get_or (map (under s r) roots) j 0 ≡ get_or roots j 0 = read j (old j lt) ∙ under_other s r (get_or roots j 0) ne in
        ap (λ u. get_or (set parents s r) u 0) is ∙ other (get_or roots j 0) ne ∙ f.root j (old j lt) ∙ sym is
  ];
}
  where
    old : (j : ℕ) → j < length (set parents s r) → j < length parents
    old j lt = omega (arith, length-set parents s r, lt)

    at : (j : ℕ) → j ≡ s → get_or (set parents s r) j 0 ≡ r
    at j e = ap (λ u. get_or (set parents s r) u 0) e ∙ get_or-set_same parents s r 0 h

    other : (j : ℕ) → j ≢ s → get_or (set parents s r) j 0 ≡ get_or parents j 0
    other j ne = get_or-set_other parents s j r 0 ne

    read : (j : ℕ) → j < length parents → get_or (map (under s r) roots) j 0 ≡ under s r (get_or roots j 0)
    read j lt = get_or-map (under s r) roots j 0 0 (omega (arith, f.sized, lt))

    own_s : get_or roots s 0 ≡ s
    own_s = f.own s h root_s

    own_r : get_or roots r 0 ≡ r
    own_r = f.own r (omega (arith, le, h)) root_r

    stays : under s r r ≡ r
    stays = elim (cases_eq r s) [ inl e ↦ under_same s r r e | inr ne ↦ under_other s r r ne ]

    new_r : get_or (set parents s r) r 0 ≡ r
    new_r = elim (cases_eq r s) [ inl e ↦ at r e | inr ne ↦ other r ne ∙ root_r ]

-- the trees of two places come together
pub forest_merged : (parents roots : List ℕ) (i j : ℕ) → IsForest parents roots → i < length parents → j < length parents → IsForest (set parents (max (get_or roots i 0) (get_or roots j 0)) (min (get_or roots i 0) (get_or roots j 0))) (merged i j roots)
forest_merged parents roots i j f hi hj = elim (cases_lt (get_or roots i 0) (get_or roots j 0)) [
  | inl lt ↦
      let big : max (get_or roots i 0) (get_or roots j 0) ≡ get_or roots j 0 = omega (arith, lt) in
      let small : min (get_or roots i 0) (get_or roots j 0) ≡ get_or roots i 0 = omega (arith, lt) in
      rw (big, small) (forest_under parents roots (get_or roots j 0) (get_or roots i 0) f (omega (arith, f.low j hj, hj)) (omega (arith, lt)) (f.root j hj) (f.root i hi))
  | inr ge ↦
      let big : max (get_or roots i 0) (get_or roots j 0) ≡ get_or roots i 0 = omega (arith, ge) in
      let small : min (get_or roots i 0) (get_or roots j 0) ≡ get_or roots j 0 = omega (arith, ge) in
      rw (big, small) (forest_under parents roots (get_or roots i 0) (get_or roots j 0) f (omega (arith, f.low i hi, hi)) ge (f.root i hi) (f.root j hj))
]

-- two places that have one root are in one tree already
pub forest_same : (parents roots : List ℕ) (i j : ℕ) → IsForest parents roots → get_or roots i 0 ≡ get_or roots j 0 → IsForest parents (merged i j roots)
forest_same parents roots i j f e = subst (IsForest parents) (sym (unmoved roots)) f
  where
    stays : (r : ℕ) → cond (eqb r (max (get_or roots i 0) (get_or roots j 0))) (min (get_or roots i 0) (get_or roots j 0)) r ≡ r
    stays r = elim (cases_eq r (max (get_or roots i 0) (get_or roots j 0))) [
      | inl is ↦ let low : min (get_or roots i 0) (get_or roots j 0) ≡ r = omega (arith, is, e) in grind (arith, nat_tests, low)
      | inr ne ↦ grind (arith, nat_tests, ne)
    ]

    unmoved : (rs : List ℕ) → map (λ r. cond (eqb r (max (get_or roots i 0) (get_or roots j 0))) (min (get_or roots i 0) (get_or roots j 0)) r) rs ≡ rs
    unmoved [] = refl
    unmoved (r ∷ rs) = ap (λ k. k ∷ map (λ r. cond (eqb r (max (get_or roots i 0) (get_or roots j 0))) (min (get_or roots i 0) (get_or roots j 0)) r) rs) (stays r) ∙ ap (λ l. r ∷ l) (unmoved rs)

-- a forest has one list of roots
pub roots_one : (parents xs ys : List ℕ) → IsForest parents xs → IsForest parents ys → (k i : ℕ) → i < k → i < length parents → get_or xs i 0 ≡ get_or ys i 0
roots_one parents xs ys f g zero i lt h = absurd (omega (arith, lt))
roots_one parents xs ys f g (suc k) i lt h = elim (cases_eq (get_or parents i 0) i) [
  | inl own ↦ f.own i h own ∙ sym (g.own i h own)
  | inr ne ↦ sym (f.same i h) ∙ roots_one parents xs ys f g k (get_or parents i 0) (omega (arith, f.up i h, ne, lt)) (omega (arith, f.up i h, h)) ∙ g.same i h
]

-- places i and p are in one tree
module _ (roots : List ℕ) (i j p : ℕ) (e : get_or roots p 0 ≡ get_or roots i 0) where
  pub merged_near : merged p j roots ≡ merged i j roots
  merged_near = ap (λ u. map (λ r. cond (eqb r (max u (get_or roots j 0))) (min u (get_or roots j 0)) r) roots) e

  -- after a join of i they are so still, and their root is the lesser one
  pub merged_root : p < length roots → get_or (merged i j roots) p 0 ≡ min (get_or roots i 0) (get_or roots j 0)
  merged_root h = get_or-map (under (max (get_or roots i 0) (get_or roots j 0)) (min (get_or roots i 0) (get_or roots j 0))) roots p 0 0 h ∙ ap (under (max (get_or roots i 0) (get_or roots j 0)) (min (get_or roots i 0) (get_or roots j 0))) e ∙ grind (arith, nat_tests, common_steps, under_other, under_same, roots)

merged_many : (roots : List ℕ) (i j : ℕ) → length (merged i j roots) ≡ length roots
merged_many roots i j = length-map roots (under (max (get_or roots i 0) (get_or roots j 0)) (min (get_or roots i 0) (get_or roots j 0)))

-- the forest after i and j were joined
module _ (old new roots : List ℕ) (i j : ℕ) (m : IsForest new (merged i j old)) (f : IsForest new roots) (hi : i < length old) where
  at : (q : ℕ) → q < length old → get_or roots q 0 ≡ get_or (merged i j old) q 0
  at q h = roots_one new roots (merged i j old) f m (q + 1) q (omega arith) (omega (arith, m.sized, merged_many old i j, h))

  -- the lesser root is the root of i
  pub joined_root : (r : ℕ) → r ≡ min (get_or old i 0) (get_or old j 0) → get_or roots r 0 ≡ get_or roots i 0
  joined_root r is =
      let own : r ≡ get_or roots i 0 = is ∙ sym (at i hi ∙ merged_root old i j i refl hi) in
      let inside : i < length new = omega (arith, m.sized, merged_many old i j, hi) in
      ap (λ u. get_or roots u 0) own ∙ f.own (get_or roots i 0) (omega (arith, f.low i inside, inside)) (f.root i inside)

  -- a place that was in one tree with i still is
  pub joined_still : (p : ℕ) → p < length old → get_or old p 0 ≡ get_or old i 0 → get_or roots p 0 ≡ get_or roots i 0
  joined_still p hp e = at p hp ∙ merged_root old i j p e hp ∙ sym (at i hi ∙ merged_root old i j i refl hi)

module _ (m : ℕ) (before after : ℕ → ℕ → Bool) (parents : List ℕ) (g : AreGathered m before parents) where
  -- no link is new
  pub gathered_same : ((i j : ℕ) → i < m → j < m → after i j ≡ before i j) → AreGathered m after parents
  gathered_same same = record {
    roots = g.roots;
    forest = g.forest;
    sized = g.sized;
    joined = λ i j hi hj e. g.joined i j hi hj (sym (same i j hi hj) ∙ e);
    sound = λ label one i h. g.sound label (λ j k hj hk e. one j k hj hk (same j k hj hk ∙ e)) i h;
  }

  -- one link is new, and its trees come together
  module _ (a b : ℕ) where
    abbrev s : ℕ
    s = max (get_or g.roots a 0) (get_or g.roots b 0)

    abbrev r : ℕ
    r = min (get_or g.roots a 0) (get_or g.roots b 0)

    read : (i : ℕ) → i < m → get_or (merged a b g.roots) i 0 ≡ under s r (get_or g.roots i 0)
    read i h = get_or-map (under s r) g.roots i 0 0 (omega (arith, g.forest.sized, g.sized, h))

    both : (under s r (get_or g.roots a 0) ≡ r) × (under s r (get_or g.roots b 0) ≡ r)
    both = grind (arith, nat_tests, common_steps, under_other, under_same, g.roots)

    ends : (label : ℕ → ℕ) → label (get_or g.roots a 0) ≡ label (get_or g.roots b 0) → label r ≡ label s
    ends label e = elim (cases_lt (get_or g.roots a 0) (get_or g.roots b 0)) [
      | inl lt ↦
          let low : r ≡ get_or g.roots a 0 = omega (arith, lt) in
          let high : s ≡ get_or g.roots b 0 = omega (arith, lt) in
          ap label low ∙ e ∙ ap label (sym high)
      | inr ge ↦
          let low : r ≡ get_or g.roots b 0 = omega (arith, ge) in
          let high : s ≡ get_or g.roots a 0 = omega (arith, ge) in
          ap label low ∙ sym e ∙ ap label (sym high)
    ]

    pub gathered_more : (new : List ℕ) → a < m → b < m → after a b ≡ true → ((i j : ℕ) → i < m → j < m → before i j ≡ true → after i j ≡ true) → ((i j : ℕ) → i < m → j < m → after i j ≡ true → (before i j ≡ true) ⊎ ((i ≡ a) × (j ≡ b))) → length new ≡ length parents → IsForest new (merged a b g.roots) → AreGathered m after new
    gathered_more new ha hb link more only long f = record {
      roots = merged a b g.roots;
      forest = f;
      sized = long ∙ g.sized;
      joined = λ i j hi hj e. elim (only i j hi hj e) [
        | inl old ↦ read i hi ∙ ap (under s r) (g.joined i j hi hj old) ∙ sym (read j hj)
        | inr is ↦ read i hi ∙ ap (λ u. under s r (get_or g.roots u 0)) is.0 ∙ both.0 ∙ sym both.1 ∙ ap (λ u. under s r (get_or g.roots u 0)) (sym is.1) ∙ sym (read j hj)
      ];
      sound = λ label one i h.
          let old = g.sound label (λ j k hj hk e. one j k hj hk (more j k hj hk e)) in
          let new_link : label (get_or g.roots a 0) ≡ label (get_or g.roots b 0) = old a ha ∙ one a b ha hb link ∙ sym (old b hb) in
          ap label (read i h) ∙ elim (cases_eq (get_or g.roots i 0) s) [
            | inl e ↦ ap label (under_same s r (get_or g.roots i 0) e) ∙ ends label new_link ∙ ap label (sym e) ∙ old i h
            | inr ne ↦ ap label (under_other s r (get_or g.roots i 0) ne) ∙ old i h
          ];
    }

    -- the same, where all links but the new one are as before
    pub gathered_one : (new : List ℕ) → a < m → b < m → ((i j : ℕ) → i < m → j < m → after i j ≡ before i j || (eqb i a && eqb j b)) → length new ≡ length parents → IsForest new (merged a b g.roots) → AreGathered m after new
    gathered_one new ha hb one long f =
        gathered_more new ha hb
        (one a b ha hb ∙ yes (before a b) (eqb a a) (eqb b b) (grind (arith, nat_tests)) (grind (arith, nat_tests)))
        (λ i j hi hj e. one i j hi hj ∙ or_left (before i j) (eqb i a && eqb j b) e)
        (λ i j hi hj e. only i j (sym (one i j hi hj) ∙ e))
        long f
      where
        yes : (x y z : Bool) → y ≡ true → z ≡ true → (x || (y && z)) ≡ true
        yes x y z e f = grind (arith, nat_tests, e, f)

        later : (x y : Bool) → x ≡ false → (x || y) ≡ true → y ≡ true
        later x y e f = grind (arith, nat_tests, e, f)

        only : (i j : ℕ) → (before i j || (eqb i a && eqb j b)) ≡ true → (before i j ≡ true) ⊎ ((i ≡ a) × (j ≡ b))
        only i j e = elim (cases_Bool (before i j)) [
          | inl old ↦ inl old
          | inr none ↦
              let new_one : (eqb i a && eqb j b) ≡ true = later (before i j) (eqb i a && eqb j b) none e in
              let first : i ≡ a = grind (arith, nat_tests, new_one) in
              let second : j ≡ b = grind (arith, nat_tests, new_one) in
              inr (first, second)
        ]

-- the links of before, and those of the first k places of a forest to their parents
abbrev pub with_parents : (ℕ → ℕ → Bool) → List ℕ → ℕ → ℕ → ℕ → Bool
with_parents before others k i j = before i j || (ltb i k && eqb (get_or others i 0) j)

module _ (m : ℕ) (before : ℕ → ℕ → Bool) (others parents : List ℕ) where
  pub parents_first : AreGathered m before parents → AreGathered m (with_parents before others 0) parents
  parents_first a = gathered_same m before (with_parents before others 0) parents a (λ i j hi hj. grind (arith, nat_tests, common_steps))

  pub parents_more : (k : ℕ) → k < m → get_or others k 0 < m → (a : AreGathered m (with_parents before others k) parents) (new : List ℕ) → length new ≡ length parents → IsForest new (merged k (get_or others k 0) a.roots) → AreGathered m (with_parents before others (k + 1)) new
  parents_more k h low a new long f =
      gathered_one m (with_parents before others k) (with_parents before others (k + 1)) parents a k (get_or others k 0) new h low (λ i j hi hj. grind (arith, nat_tests, common_steps)) long f

  -- after all places of the forest, its links are there
  pub parents_last : (linked : ℕ → ℕ → Bool) → AreGathered m linked others → AreGathered m (with_parents before others m) parents → AreGathered m (λ i j. before i j || linked i j) parents
  parents_last linked o g = record {
    roots = g.roots;
    forest = g.forest;
    sized = g.sized;
    joined = λ i j hi hj e. elim (cases_Bool (before i j)) [
      | inl old ↦ g.joined i j hi hj (or_left (before i j) (ltb i m && eqb (get_or others i 0) j) old)
      | inr none ↦ up (i + 1) i (omega arith) hi ∙ ap (λ u. get_or g.roots u 0) (o.joined i j hi hj (later (before i j) (linked i j) none e)) ∙ sym (up (j + 1) j (omega arith) hj)
    ];
    sound = λ label one.
        let same = o.sound label (λ i j hi hj e. one i j hi hj (right (before i j) (linked i j) e)) in
        g.sound label (λ i j hi hj e. elim (cases_Bool (before i j)) [
          | inl old ↦ one i j hi hj (or_left (before i j) (linked i j) old)
          | inr none ↦
              let parent : get_or others i 0 ≡ j = is_parent i j hi (later (before i j) (ltb i m && eqb (get_or others i 0) j) none e) in
              sym (same i hi) ∙ ap label (sym (o.forest.same i (inside i hi))) ∙ ap (λ u. label (get_or o.roots u 0)) parent ∙ same j hj
        ]);
  }
    where
      later : (a b : Bool) → a ≡ false → (a || b) ≡ true → b ≡ true
      later a b f t = grind (arith, nat_tests, f, t)

      right : (a b : Bool) → b ≡ true → (a || b) ≡ true
      right a b t = grind (arith, nat_tests, t)

      is_parent : (i j : ℕ) → i < m → (ltb i m && eqb (get_or others i 0) j) ≡ true → get_or others i 0 ≡ j
      is_parent i j h t = grind (arith, nat_tests, t)

      inside : (i : ℕ) → i < m → i < length others
      inside i h = omega (arith, o.sized, h)

      -- a place and its root in the forest have one root
      up : (k i : ℕ) → i < k → i < m → get_or g.roots i 0 ≡ get_or g.roots (get_or o.roots i 0) 0
      up zero i lt h = absurd (omega (arith, lt))
      up (suc k) i lt h = elim (cases_eq (get_or others i 0) i) [
        | inl own ↦ ap (λ u. get_or g.roots u 0) (sym (o.forest.own i (inside i h) own))
        | inr ne ↦
            let low : get_or others i 0 < i = omega (arith, o.forest.up i (inside i h), ne) in
            g.joined i (get_or others i 0) h (omega (arith, low, h)) (right (before i (get_or others i 0)) (ltb i m && eqb (get_or others i 0) (get_or others i 0)) (grind (arith, nat_tests, h)))
            ∙ up k (get_or others i 0) (omega (arith, low, lt)) (omega (arith, low, h))
            ∙ ap (λ u. get_or g.roots u 0) (o.forest.same i (inside i h))
      ]
