-- The order of the vertices, and lists of out-neighbours.
use Rattle.std.proofs.Common.{ℕ, ◌≤◌, ◌<◌, ◌≡◌, ◌≢◌, ◌⊎◌, inl, inr, Bool, true, false, ltb, leb, eqb, ◌&&◌, ◌||◌, List, [], ◌∷◌, length, get_or, refl, ap, sym, ◌∙◌, arith}
use Rattle.std.specs.Prelude.{not, filter}
use Rattle.std.proofs.lemmas.Bool.{cases_eq, cases_lt, cases_Bool, true≢false, and_parts}
use Rattle.std.proofs.lemmas.Bool.Decides.{nat_tests}
use Rattle.std.proofs.lemmas.List.{get_or_past}
use Rattle.std.proofs.lemmas.List.FromFn.{get_or-map-range_with_len, length-map-range_with_len}
use Rattle.std.proofs.lemmas.List.Sums.{length-filter}
use Rattle.kc_graph.specs.declared.limits.TheConstants.{MAX_VERTICES}
use Rattle.kc_graph.specs.Numbers.{has_number, RisesFrom, AllBelow}
use Rattle.kc_graph.specs.Shape.{GraphShape, IsGraph, neighbours_of, joined}
use Rattle.kc_graph.proofs.lemmas.Edges.{joined_comm, joined_itself}
use Rattle.kc_graph.proofs.lemmas.Neighbours.{has_number-neighbours_of, neighbours_rise, neighbours_below, neighbour_below}
use Rattle.kc_graph.proofs.lemmas.Numbers.{rises_filter}
use Rattle.kc_levels.specs.declared.profile.Profile.{Profile}
use Rattle.kc_levels.specs.declared.profile.Profile.TheVariants.{Two}
use Rattle.kc_levels.specs.Thresholds.{high, group_of}
use Rattle.kc_levels.specs.LevelList.{at_least, MeetsUpper}
use Rattle.kc_levels.proofs.lemmas.AtLeast.{count_by-mono}
use Rattle.kc_levels.proofs.lemmas.Thresholds.{high-est, high-est-two}
use Rattle.kc_orient.specs.Shape.{above, out_neighbours, orientation, IsOriented}
use Rattle.kc_orient.specs.Laws.{AboveIsAnOrder, IsWalk, NoCycle, OutNeighboursAreFew}

-- the order

pub above_one_way : (x : List ℕ) (v w : ℕ) → v ≢ w → above x w v ≡ not (above x v w)
above_one_way x v w ne = grind (arith, nat_tests)

pub above_itself : (x : List ℕ) (v : ℕ) → above x v v ≡ false
above_itself x v = grind (arith, nat_tests)

-- w is on a greater level, or on the same one and greater
pub above_is : (x : List ℕ) (v w : ℕ) → above x v w ≡ true → (get_or x v 0 < get_or x w 0) ⊎ ((get_or x v 0 ≡ get_or x w 0) × (v < w))
above_is x v w up = grind (arith, nat_tests)

pub above_onward : (x : List ℕ) (u v w : ℕ) → above x u v ≡ true → above x v w ≡ true → above x u w ≡ true
above_onward x u v w first second = grind (arith, nat_tests)

pub above_is_an_order : AboveIsAnOrder
above_is_an_order = record { one_way = above_one_way; never_itself = above_itself; onward = above_onward }

-- out-neighbours

pub has_number-filter : (w : ℕ) (p : ℕ → Bool) (xs : List ℕ) → has_number w (filter p xs) ≡ (p w && has_number w xs)
has_number-filter w p [] = elim (cases_Bool (p w)) [ inl passes ↦ rw passes refl | inr fails ↦ rw fails refl ]
has_number-filter w p (y ∷ ys) = grind (arith, nat_tests, has_number-filter w p ys)

pub has_number-out : (g : GraphShape) (x : List ℕ) (v w : ℕ) → has_number w (out_neighbours g x v) ≡ (above x v w && joined v w g.edges)
has_number-out g x v w = has_number-filter w (above x v) (neighbours_of v g.edges) ∙ ap (λ b. above x v w && b) (has_number-neighbours_of v w g.edges)

pub out_above : (g : GraphShape) (x : List ℕ) (v w : ℕ) → has_number w (out_neighbours g x v) ≡ true → above x v w ≡ true
out_above g x v w at = (and_parts _ _ (sym (has_number-out g x v w) ∙ at)).0

pub out_joined : (g : GraphShape) (x : List ℕ) (v w : ℕ) → has_number w (out_neighbours g x v) ≡ true → joined v w g.edges ≡ true
out_joined g x v w at = (and_parts _ _ (sym (has_number-out g x v w) ∙ at)).1

pub apart : (g : GraphShape) (v w : ℕ) → IsGraph g → joined v w g.edges ≡ true → v ≢ w
apart g v w graph near same = true≢false (sym near ∙ ap (λ u. joined v u g.edges) (sym same) ∙ joined_itself g.vertices 0 0 v g.edges graph)

pub edge_once : (g : GraphShape) (x : List ℕ) (v w : ℕ) → IsGraph g → joined v w g.edges ≡ true → has_number v (out_neighbours g x w) ≡ not (has_number w (out_neighbours g x v))
edge_once g x v w graph near = grind (arith, nat_tests, has_number-out, joined_comm, above_one_way, apart)

walk_above : (g : GraphShape) (x : List ℕ) (v : ℕ) (ws : List ℕ) → IsWalk g x v ws → (u : ℕ) → has_number u ws ≡ true → above x v u ≡ true
walk_above g x v [] walk u at = absurd (true≢false (sym at))
walk_above g x v (w ∷ ws) walk u at = elim (cases_eq w u) [
  | inl same ↦ ap (above x v) (sym same) ∙ out_above g x v w walk.0
  | inr ne ↦ above_onward x v w u (out_above g x v w walk.0) (walk_above g x w ws walk.1 u (grind (arith, nat_tests, at, ne)))
]

pub no_cycle : NoCycle
no_cycle g x v ws walk = elim (cases_Bool (has_number v ws)) [
  | inl back ↦ absurd (true≢false (sym (walk_above g x v ws walk v back) ∙ above_itself x v))
  | inr away ↦ away
]

-- the bounds

pub out_neighbours_are_few : OutNeighboursAreFew
unfolding at_least
out_neighbours_are_few = record {
  most = few;
  near = λ p g x v meets. omega (arith, few p g x v meets, high-est p (group_of p g.vertices (get_or x v 0)));
  nearer = λ g x v meets. omega (arith, few Two g x v meets, high-est-two (group_of Two g.vertices (get_or x v 0)));
}
  where
    reaches : (a b v w : ℕ) → ltb a b || (eqb a b && ltb v w) ≡ true → leb a b ≡ true
    reaches a b v w up = elim (cases_lt b a) [ inl lt ↦ absurd (true≢false (sym up ∙ grind (arith, nat_tests, lt))) | inr ge ↦ grind (arith, nat_tests, ge) ]

    few : (p : Profile) (g : GraphShape) (x : List ℕ) (v : ℕ) → MeetsUpper p g x v → length (out_neighbours g x v) ≤ high p (group_of p g.vertices (get_or x v 0))
    few p g x v meets = omega (arith, meets, length-filter (above x v) (neighbours_of v g.edges), count_by-mono (above x v) (λ w. leb (get_or x v 0) (get_or x w 0)) (neighbours_of v g.edges) (λ w up. reaches (get_or x v 0) (get_or x w 0) v w up))

-- the orientation

pub outs_at : (g : GraphShape) (x : List ℕ) (v : ℕ) → v < g.vertices → get_or (orientation g x).outs v [] ≡ out_neighbours g x v
outs_at g x v h = get_or-map-range_with_len (out_neighbours g x) 0 g.vertices v v [] h (omega arith)

pub outs_sized : (g : GraphShape) (x : List ℕ) → length (orientation g x).outs ≡ g.vertices
outs_sized g x = length-map-range_with_len (out_neighbours g x) 0 g.vertices

-- out-neighbours are vertices, and above their vertex
pub record LeadUpward (levels : List ℕ) (outs : List (List ℕ)) : Type 0 where
  pub inside : (v w : ℕ) → has_number w (get_or outs v []) ≡ true → w < length outs
  pub upward : (v w : ℕ) → has_number w (get_or outs v []) ≡ true → above levels v w ≡ true

in_range : (g : GraphShape) (x : List ℕ) (v : ℕ) (P : List ℕ → Type 0) → P [] → P (out_neighbours g x v) → P (get_or (orientation g x).outs v [])
in_range g x v P none some = grind (arith, nat_tests, outs_at, get_or_past, outs_sized)

pub outs_above : (g : GraphShape) (x : List ℕ) (v w : ℕ) → has_number w (get_or (orientation g x).outs v []) ≡ true → above x v w ≡ true
outs_above g x v w at = in_range g x v (λ (ws : List ℕ). has_number w ws ≡ true → above x v w ≡ true) (λ none. absurd (true≢false (sym none))) (out_above g x v w) at

pub leads_upward : (g : GraphShape) (x : List ℕ) → IsGraph g → LeadUpward x (orientation g x).outs
leads_upward g x graph = record {
  inside = λ v w at. rw (outs_sized g x) (in_range g x v (λ (ws : List ℕ). has_number w ws ≡ true → w < g.vertices) (λ none. absurd (true≢false (sym none))) (λ near. neighbour_below g.vertices v w g.edges graph (has_number-neighbours_of v w g.edges ∙ out_joined g x v w near)) at);
  upward = outs_above g x;
}

below_filter : (n : ℕ) (p : ℕ → Bool) (xs : List ℕ) → AllBelow n xs → AllBelow n (filter p xs)
below_filter n p [] all = tt
below_filter n p (y ∷ ys) all = grind (arith, nat_tests, below_filter n p ys all.1)

pub is_oriented : (g : GraphShape) (x : List ℕ) → IsGraph g → length x ≡ g.vertices → g.vertices ≤ MAX_VERTICES → IsOriented (orientation g x)
is_oriented g x graph sized small = record {
  small = omega (arith, sized, small);
  sized = outs_sized g x ∙ sym sized;
  ascending = λ v. in_range g x v (RisesFrom 0) tt (rises_filter 0 (above x v) (neighbours_of v g.edges) (neighbours_rise g.vertices v g.edges graph));
  below = λ v. in_range g x v (AllBelow (length x)) tt (rw sized (below_filter g.vertices (above x v) (neighbours_of v g.edges) (neighbours_below g.vertices 0 0 v g.edges graph)));
  upward = (leads_upward g x graph).upward;
}
