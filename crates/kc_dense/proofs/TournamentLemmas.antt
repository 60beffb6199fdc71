-- What a number written at a node does to a tournament tree, and where the way down from the root leads.
use Rattle.std.proofs.Common.{ℕ, zero, suc, ◌+◌, ◌-◌, ◌*◌, ◌/◌, ◌^◌, ◌≤◌, ◌<◌, ◌≡◌, ◌≢◌, inl, inr, List, [], ◌∷◌, ◌++◌, length, get_or, set, take, drop, replicate, min, refl, ap, sym, ◌∙◌, arith}
use Rattle.std.proofs.Math.Nat.{pow-le-pow_right, pow-suc}
use Rattle.std.proofs.lemmas.Bool.{cases_lt, cases_eq}
use Rattle.std.proofs.lemmas.List.{get_or-set_same, get_or-set_other, get_or-take, get_or-drop, length-take-le, length-drop, length-append, length-replicate, take_all, append_assoc, drop_at, take_at, get_or_append_left, get_or-append_right, get_or-replicate}
use Rattle.std.proofs.lemmas.Nat.{pow_pos}
use Rattle.std.specs.Int.{IsPowerOfTwo}
use Rattle.std.proofs.lemmas.Bool.Decides.{nat_tests}
use Rattle.kc_dense.specs.declared.tournament.TheConstants.{GREATEST}
use Rattle.kc_dense.specs.private.Tournaments.{IsPlayed, IsTree, IsFirstLeastWithin, IsFirstLeast}

-- a node with children is the lesser of the two
abbrev pub IsPlayedAt : List ℕ → ℕ → Type 0
IsPlayedAt nodes k = 1 ≤ k → 2 * k + 1 < length nodes → get_or nodes k 0 ≡ min (get_or nodes (2 * k) 0) (get_or nodes (2 * k + 1) 0)

-- all nodes from a place on are played
abbrev pub ArePlayedFrom : ℕ → List ℕ → Type 0
ArePlayedFrom from nodes = (k : ℕ) → from ≤ k → IsPlayedAt nodes k

-- all nodes are played but the parent of one
abbrev pub ArePlayedBut : ℕ → List ℕ → Type 0
ArePlayedBut node nodes = (k : ℕ) → k ≢ node / 2 → IsPlayedAt nodes k

-- the way down from the root: a node that is first and least among those as deep as it
pub record IsDescent (width : ℕ) (nodes : List ℕ) (node : ℕ) : Type 0 where
  pub depth : ℕ
  pub within : 2 ^ depth ≤ width
  pub here : IsFirstLeastWithin (2 ^ depth) (2 * 2 ^ depth) nodes node

double_le : (k h : ℕ) → 2 ^ k < 2 ^ h → 2 * 2 ^ k ≤ 2 ^ h
double_le k h lt = elim (cases_lt k h) [
  | inl below ↦ omega (arith, pow-le-pow_right {n = 2} (omega arith) {i = suc k} {j = h} (omega arith), pow-suc 2 k)
  | inr above ↦ absurd (omega (arith, pow-le-pow_right {n = 2} (omega arith) {i = h} {j = k} above))
]

pub double_within : (k width : ℕ) → IsPowerOfTwo width → 2 ^ k < width → 2 * 2 ^ k ≤ width
double_within k width power lt = let e = power.1 in rw e (double_le k power.0 (rw e at lt))

pub descent_first : (width : ℕ) (nodes : List ℕ) → IsPowerOfTwo width → IsDescent width nodes 1
descent_first width nodes power = record {
  depth = 0;
  within = rw power.1 (omega (arith, pow_pos power.0));
  here = record {
    from = omega arith;
    to = omega arith;
    least = λ j low high. let one : j ≡ 1 = omega arith in rw one (omega arith);
    first = λ j low high. absurd (omega arith);
  };
}

-- a node is as small as each of its children
child_le : (nodes : List ℕ) (h j : ℕ) → IsPlayed nodes → 1 ≤ h → 2 * h + 1 < length nodes → h ≡ j / 2 → get_or nodes h 0 ≤ get_or nodes j 0
child_le nodes h j played some room is = grind (arith, nat_tests)

-- one step down
pub descent_more : (len width : ℕ) (nodes : List ℕ) (node next : ℕ) → IsTree len width nodes → IsDescent width nodes node → node < width →
    IsFirstLeastWithin (2 * node) (2 * node + 2) nodes next → IsDescent width nodes next
descent_more len width nodes node next tree is inside child = record {
  depth = suc is.depth;
  within = rw pow-suc deeper;
  here = record {
    from = rw pow-suc (omega (arith, is.here.from, child.from));
    to = rw pow-suc (omega (arith, is.here.to, child.to));
    least = λ j low high. least j (rw pow-suc at low) (rw pow-suc at high);
    first = λ j low high. first j (rw pow-suc at low) high;
  };
}
  where
    low : 1 ≤ 2 ^ is.depth
    low = omega (arith, pow_pos is.depth)

    deeper : 2 ^ is.depth * 2 ≤ width
    deeper = omega (arith, double_within is.depth width tree.power (omega (arith, is.here.from)))

    same : get_or nodes next 0 ≤ get_or nodes node 0
    same = omega (arith, tree.played node (omega (arith, low, is.here.from)) (omega (arith, tree.sized)), child.least (2 * node) (omega arith) (omega arith), child.least (2 * node + 1) (omega arith) (omega arith))

    least : (j : ℕ) → 2 ^ is.depth * 2 ≤ j → j < 2 * (2 ^ is.depth * 2) → get_or nodes next 0 ≤ get_or nodes j 0
    least j from to =
        let above = is.here.least (j / 2) (omega arith) (omega arith) in
        let le = child_le nodes (j / 2) j tree.played (omega (arith, low)) (omega (arith, tree.sized, deeper)) refl in
        omega (arith, above, le, same)

    first : (j : ℕ) → 2 ^ is.depth * 2 ≤ j → j < next → get_or nodes next 0 < get_or nodes j 0
    first j from to = elim (cases_lt (j / 2) node) [
      | inl lt ↦
          let above = is.here.first (j / 2) (omega arith) lt in
          let le = child_le nodes (j / 2) j tree.played (omega (arith, low)) (omega (arith, tree.sized, inside)) refl in
          omega (arith, above, le, same)
      | inr ge ↦ child.first j (omega arith) to
    ]

-- at the leaves: the place of the first least of the numbers
pub descent_last : (len width : ℕ) (nodes : List ℕ) (node : ℕ) → IsTree len width nodes → IsDescent width nodes node → width ≤ node → 0 < length (take len (drop width nodes)) → IsFirstLeast (take len (drop width nodes)) (node - width)
descent_last len width nodes node tree is deep some = record {
  inside = omega (arith, sized, below);
  least = λ j lt. rw (at j (omega (arith, sized, lt)), at (node - width) below) (least j (omega (arith, sized, lt)));
  first = λ j lt. rw (at j (omega (arith, below, lt)), at (node - width) below) (first j lt);
}
  where
    leaves : 2 ^ is.depth ≡ width
    leaves = elim (cases_lt (2 ^ is.depth) width) [
      | inl lt ↦ absurd (omega (arith, double_within is.depth width tree.power lt, is.here.to))
      | inr ge ↦ omega (arith, is.within)
    ]

    sized : length (take len (drop width nodes)) ≡ len
    sized = length-take-le len (drop width nodes) (omega (arith, length-drop width nodes, tree.sized, tree.room))

    at : (j : ℕ) → j < len → get_or (take len (drop width nodes)) j 0 ≡ get_or nodes (width + j) 0
    at j lt = get_or-take len (drop width nodes) j 0 lt ∙ get_or-drop width nodes j 0

    place : width + (node - width) ≡ node
    place = omega arith

    least : (j : ℕ) → j < len → get_or nodes (width + (node - width)) 0 ≤ get_or nodes (width + j) 0
    least j lt = rw place (is.here.least (width + j) (omega (arith, leaves)) (omega (arith, leaves, tree.room)))

    first : (j : ℕ) → j < node - width → get_or nodes (width + (node - width)) 0 < get_or nodes (width + j) 0
    first j lt = rw place (is.here.first (width + j) (omega (arith, leaves)) (omega arith))

    below : node - width < len
    below = elim (cases_lt (node - width) len) [
      | inl lt ↦ lt
      | inr ge ↦ absurd (omega (arith, tree.numbers 0 (omega (arith, sized)), rw place at (tree.others (node - width) ge (omega (arith, leaves, is.here.to))), rw place at (first 0 (omega (arith, sized, ge)))))
    ]

-- the leaves of a new tree, which is filled from the front
pub new_leaves : (width k m most : ℕ) (numbers none first second filled : List ℕ) → length numbers ≤ width →
    none ≡ [] → k ≡ 0 → first ≡ take width none ++ replicate (width - k) 0 → second ≡ first ++ numbers → m ≡ width + length numbers →
    filled ≡ take (2 * width) second ++ replicate (2 * width - m) most →
    drop width filled ≡ numbers ++ replicate (width - length numbers) most
new_leaves width k m most numbers none first second filled few empty zero_k is_first is_second is_m is = grind (arith, nat_tests, take_all, length-replicate, length-append, append_assoc, drop_at)

pub tree_new : (width : ℕ) (numbers nodes : List ℕ) → IsPowerOfTwo width → length numbers ≤ width → ((i : ℕ) → i < length numbers → get_or numbers i 0 ≤ GREATEST) →
    length nodes ≡ 2 * width → IsPlayed nodes → drop width nodes ≡ numbers ++ replicate (width - length numbers) GREATEST → IsTree (length numbers) width nodes
tree_new width numbers nodes power few small sized played leaves = record {
  power = power;
  sized = sized;
  room = few;
  played = played;
  numbers = λ i low. rw (at i ∙ get_or_append_left numbers (replicate (width - length numbers) GREATEST) 0 i low) (small i low);
  others = λ i high inside.
      at i ∙ get_or-append_right numbers (replicate (width - length numbers) GREATEST) (length numbers) i 0 refl high ∙ get_or-replicate (width - length numbers) (i - length numbers) GREATEST 0 (omega arith);
}
  where
    at : (i : ℕ) → get_or nodes (width + i) 0 ≡ get_or (numbers ++ replicate (width - length numbers) GREATEST) i 0
    at i = sym (get_or-drop width nodes i 0) ∙ ap (λ (xs : List ℕ). get_or xs i 0) leaves

-- the numbers of a new tree
pub new_numbers : (width most : ℕ) (numbers nodes : List ℕ) → drop width nodes ≡ numbers ++ replicate (width - length numbers) most → take (length numbers) (drop width nodes) ≡ numbers
new_numbers width most numbers nodes leaves = rw leaves (take_at numbers (replicate (width - length numbers) most) (length numbers) refl)

-- a tree after a number was put at one of its leaves
pub tree_set : (len width i v : ℕ) (before nodes : List ℕ) → IsTree len width before → i < len → v ≤ GREATEST → length nodes ≡ length before → IsPlayed nodes →
    drop width nodes ≡ set (drop width before) i v → IsTree len width nodes
tree_set len width i v before nodes is inside small sized played leaves = record {
  power = is.power;
  sized = sized ∙ is.sized;
  room = is.room;
  played = played;
  numbers = λ j low. grind (arith, nat_tests, cases_eq j i, at, get_or-set_same, length-drop, other, is.sized, is.room, is.numbers);
  others = λ j high below. other j (omega arith) ∙ is.others j high below;
}
  where
    at : (j : ℕ) → get_or nodes (width + j) 0 ≡ get_or (set (drop width before) i v) j 0
    at j = sym (get_or-drop width nodes j 0) ∙ ap (λ (xs : List ℕ). get_or xs j 0) leaves

    other : (j : ℕ) → j ≢ i → get_or nodes (width + j) 0 ≡ get_or before (width + j) 0
    other j ne = at j ∙ get_or-set_other (drop width before) i j v 0 ne ∙ get_or-drop width before j 0

pub numbers_set : (len width i v : ℕ) (before nodes : List ℕ) → drop width nodes ≡ set (drop width before) i v → take len (drop width nodes) ≡ set (take len (drop width before)) i v
numbers_set len width i v before nodes leaves = rw leaves (taken len i v (drop width before))
  where
    taken : (n j x : ℕ) (xs : List ℕ) → take n (set xs j x) ≡ set (take n xs) j x
    taken zero j x xs = refl
    taken (suc n) j x [] = refl
    taken (suc n) zero x (y ∷ ys) = refl
    taken (suc n) (suc j) x (y ∷ ys) = ap (λ (zs : List ℕ). y ∷ zs) (taken n j x ys)
