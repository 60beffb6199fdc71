-- Lowering with marks at the vertices that are still to be looked at.
use Rattle.std.proofs.Common.{ℕ, suc, zero, ◌+◌, ◌*◌, ◌≤◌, ◌<◌, ◌≡◌, ◌≢◌, ◌⊎◌, inl, inr, Bool, true, false, cond, List, [], ◌∷◌, length, get_or, set, refl, ap, sym, ◌∙◌, arith, subst, sum}
use Rattle.std.specs.Prelude.{count_by}
use Rattle.std.proofs.lemmas.Bool.{cases_eq, cases_Bool, true≢false}
use Rattle.std.proofs.lemmas.Bool.Decides.{nat_tests}
use Rattle.std.proofs.lemmas.List.{get_or-set_same, get_or-set_other}
use Rattle.std.proofs.lemmas.List.Sums.{sum_by-set}
use Rattle.kc_graph.specs.Numbers.{has_number}
use Rattle.kc_graph.specs.Shape.{GraphShape, Pair, IsGraph, EdgesFrom, neighbours_of, without_edge, without_edges}
use Rattle.kc_graph.proofs.lemmas.Numbers.{has_number_index}
use Rattle.kc_graph.proofs.lemmas.Counts.{count_by-cons}
use Rattle.kc_graph.proofs.lemmas.Neighbours.{neighbours_both, neighbours_of_remove_other, no_own_neighbour}
use Rattle.kc_graph.proofs.lemmas.Changes.{vertices-without_edges}
use Rattle.kc_levels.specs.declared.profile.Profile.{Profile}
use Rattle.kc_levels.specs.Thresholds.{Scale, low}
use Rattle.kc_levels.specs.LevelList.{at_least, IsHeld, MeetsLower, IsDesired, IsWithin}
use Rattle.kc_levels.proofs.lemmas.Writes.{changed}
use Rattle.kc_levels.proofs.lemmas.AtLeast.{at_least-set, at_least-kept}
use Rattle.kc_levels.proofs.lemmas.Lowering.{lowering_first, lowering_more}
use Rattle.kc_adj.specs.LeveledGraph.{LeveledGraph}
use Rattle.kc_delete.specs.private.Waiting.{IsSifted, IsTaken}
use Rattle.kc_delete.specs.private.Settling.{WaitsOrMeets, IsSettling, StillWait, KeepsCount, IsLookedAt, ends_of}

-- levels stay within the top when edges leave
pub within_after : (th : Scale) (a : LeveledGraph) (es : List Pair) → IsWithin th a.graph a.levels → IsWithin th (without_edges a.graph es) a.levels
within_after th a es within = record {
  scale = within.scale ∙ sym (vertices-without_edges a.graph es);
  capped = λ v h. within.capped v (omega (arith, h, vertices-without_edges a.graph es));
}

-- where the count from the level below on is the same, v is held as before
held_same : (p : Profile) (g : GraphShape) (y z : List ℕ) (v k : ℕ) → ((l : ℕ) → k ≡ suc l → at_least g z v l ≡ at_least g y v l) → IsHeld p g y v k → IsHeld p g z v k
held_same p g y z v k same held = grind (arith, nat_tests)

-- the marks after v was taken
other_mark : (waits : List Bool) (u v : ℕ) → u ≢ v → get_or waits u false ≡ true → get_or (set waits v false) u false ≡ true
other_mark waits u v ne marked = get_or-set_other waits v u false false ne ∙ marked

-- the vertex that is taken falls to its desired level, and its neighbours are looked at
pub settling_fall : (p : Profile) (g : GraphShape) (x y : List ℕ) (waits after : List Bool) (v to : ℕ) → IsGraph g → IsSettling p g x y waits → v < g.vertices → IsDesired p g y v to → length after ≡ g.vertices → StillWait (set waits v false) after → ((k : ℕ) → k < length (neighbours_of v g.edges) → IsLookedAt p g (get_or y v 0) to (set y v to) after (get_or (neighbours_of v g.edges) k 0)) → IsSettling p g x (set y v to) after
settling_fall p g x y waits after v to graph s vertex d sized still looked = record {
  lowering = lowering_more p g x y v to s.lowering vertex d;
  sized = sized;
  meets = λ u h. changed y v to inside (λ t k. (get_or after t false ≡ true) ⊎ IsHeld p g (set y v to) t k) u
      (inr (held_same p g y (set y v to) v to (λ l e. at_least-set g y v v to l (no_own_neighbour g.vertices 0 0 v g.edges graph)) d.held))
      (λ ne. others u h ne);
}
  where
    inside : v < length y
    inside = omega (arith, vertex, s.lowering.sized)

    as_before : (u : ℕ) → u < g.vertices → u ≢ v → ((l : ℕ) → get_or y u 0 ≡ suc l → at_least g (set y v to) u l ≡ at_least g y u l) → (get_or after u false ≡ true) ⊎ IsHeld p g (set y v to) u (get_or y u 0)
    as_before u h ne same = grind (arith, nat_tests, other_mark, held_same, s.meets)

    near_kept : (u : ℕ) → u ≢ v → has_number u (neighbours_of v g.edges) ≡ true → KeepsCount (get_or y v 0) to (get_or (set y v to) u 0) → (l : ℕ) → get_or y u 0 ≡ suc l → at_least g (set y v to) u l ≡ at_least g y u l
    near_kept u ne near keeps l e = grind (arith, nat_tests, at_least-kept, inside, get_or-set_other, d.under)

    near_looked : (u : ℕ) → u < g.vertices → u ≢ v → has_number u (neighbours_of v g.edges) ≡ true → IsLookedAt p g (get_or y v 0) to (set y v to) after u → (get_or after u false ≡ true) ⊎ IsHeld p g (set y v to) u (get_or y u 0)
    near_looked u h ne near it = grind (arith, nat_tests, as_before, near_kept, get_or-set_other)

    others : (u : ℕ) → u < g.vertices → u ≢ v → (get_or after u false ≡ true) ⊎ IsHeld p g (set y v to) u (get_or y u 0)
    others u h ne = grind (arith, nat_tests, cases_Bool (has_number u (neighbours_of v g.edges)), has_number_index, near_looked, as_before, at_least-set, neighbours_both)

-- some who waited leave, who have enough neighbours
pub settling_sifted : (p : Profile) (g h : GraphShape) (x y : List ℕ) (before after : List Bool) → h ≡ g → IsSettling p g x y before → IsSifted p h y before after → IsSettling p g x y after
settling_sifted p g h x y before after same s r = record {
  lowering = s.lowering;
  sized = r.sized ∙ s.sized;
  meets = λ v inside. grind (arith, nat_tests, s.meets, r.meets);
}

-- how much there is still to be done: each level that a vertex falls may let all vertices wait
abbrev pub work_left : GraphShape → List ℕ → List Bool → ℕ
work_left g y waits = sum y * (g.vertices + 1) + count_by (λ b. b) waits

pub work_kept : (g : GraphShape) (y : List ℕ) (waits : List Bool) (v : ℕ) → v < length waits → get_or waits v false ≡ true → work_left g y (set waits v false) < work_left g y waits
work_kept g y waits v inside marked = grind (arith, nat_tests, sum_by-set, true≢false)

one_less : (a b : Bool) (m n : ℕ) → (a ≡ true → b ≡ true) → m ≤ n → cond a 1 0 + m ≤ cond b 1 0 + n
one_less a b m n e le = grind (arith, nat_tests, true≢false)

fewer_marks : (before after : List Bool) → length after ≡ length before → ((v : ℕ) → get_or after v false ≡ true → get_or before v false ≡ true) → count_by (λ b. b) after ≤ count_by (λ b. b) before
fewer_marks [] [] same fewer = omega arith
fewer_marks [] (b ∷ bs) same fewer = absurd (omega (arith, same))
fewer_marks (a ∷ as_) [] same fewer = absurd (omega (arith, same))
fewer_marks (a ∷ as_) (b ∷ bs) same fewer =
    rw (count_by-cons (λ c. c) b bs, count_by-cons (λ c. c) a as_) (one_less b a _ _ (fewer zero) (fewer_marks as_ bs (omega (arith, same)) (λ v. fewer (suc v))))

pub work_taken : (p : Profile) (h g : GraphShape) (y : List ℕ) (before after : List Bool) (v : ℕ) → IsTaken p h y before after v → work_left g y after < work_left g y before
work_taken p h g y before after v t = grind (arith, nat_tests, work_kept, fewer_marks, t.between, t.inside, t.waited, t.sifted.sized, t.sifted.fewer, t.taken)

-- an end of an edge of the list stands in it at some place
pub end_index : (v : ℕ) (es : List Pair) (d : Pair) → has_number v (ends_of es) ≡ true → (k : ℕ) × (k < length es) × ((v ≡ (get_or es k d).0) ⊎ (v ≡ (get_or es k d).1))
end_index v [] d there = absurd (true≢false (sym there))
end_index v (e ∷ es) d there = elim (cases_eq e.0 v) [
  | inl low ↦ (0, omega arith, inl (sym low))
  | inr ne ↦ elim (cases_eq e.1 v) [
    | inl high ↦ (0, omega arith, inr (sym high))
    | inr no_end ↦
        let later = end_index v es d (grind (arith, nat_tests, there, ne, no_end)) in
        (suc later.0, omega (arith, later.1), later.2)
  ]
]

pub edge_inside : (n a b : ℕ) (es : List Pair) (d : Pair) (k : ℕ) → EdgesFrom n a b es → k < length es → ((get_or es k d).0 < n) × ((get_or es k d).1 < n)
edge_inside n a b [] d k up h = absurd (omega arith)
edge_inside n a b (e ∷ es) d zero up h = (omega (arith, up.1, up.2), up.2)
edge_inside n a b (e ∷ es) d (suc k) up h = edge_inside n e.0 (suc e.1) es d k up.3 (omega arith)

-- the edge that stands at a place
pub item_inside : (n k : ℕ) (es : List Pair) (item : Pair) → EdgesFrom n 0 0 es → k < length es → item ≡ get_or es k item → (item.0 < n) × (item.1 < n)
item_inside n k es item up h is = subst (λ (e : Pair). (e.0 < n) × (e.1 < n)) (sym is) (edge_inside n 0 0 es item k up h)

pub ends_at : (n a b k : ℕ) (es : List Pair) (item : Pair) → EdgesFrom n 0 0 es → k < length es → item ≡ get_or es k item → (a, b) ≡ item → (a < n) × (b < n)
ends_at n a b k es item up h is view = subst (λ (e : Pair). (e.0 < n) × (e.1 < n)) (sym view) (item_inside n k es item up h is)

-- the neighbours of a vertex that no edge leaves stay
neighbours_of-without_edges : (v : ℕ) (g : GraphShape) (es : List Pair) → has_number v (ends_of es) ≡ false → neighbours_of v (without_edges g es).edges ≡ neighbours_of v g.edges
neighbours_of-without_edges v g [] other = refl
neighbours_of-without_edges v g (e ∷ es) other =
    let low : v ≢ e.0 = λ is. true≢false (sym (grind (arith, nat_tests, is)) ∙ other) in
    let high : v ≢ e.1 = λ is. true≢false (sym (grind (arith, nat_tests, is)) ∙ other) in
    let rest : has_number v (ends_of es) ≡ false = grind (arith, nat_tests, other) in
    neighbours_of-without_edges v (without_edge g e) es rest ∙ neighbours_of_remove_other v e.0 e.1 g.edges low high

held_in_both : (p : Profile) (g h : GraphShape) (x : List ℕ) (v k : ℕ) → h.vertices ≡ g.vertices → neighbours_of v h.edges ≡ neighbours_of v g.edges → IsHeld p g x v k → IsHeld p h x v k
unfolding at_least
held_in_both p g h x v k same_n same held = grind (arith, nat_tests)

-- where edges left, only their ends can break anything
pub settling_first : (p : Profile) (g : GraphShape) (x : List ℕ) (waits : List Bool) (es : List Pair) → length x ≡ g.vertices → length waits ≡ g.vertices → ((v : ℕ) → v < g.vertices → MeetsLower p g x v) → ((v : ℕ) → has_number v (ends_of es) ≡ true → WaitsOrMeets p (without_edges g es) x waits v) → IsSettling p (without_edges g es) x x waits
settling_first p g x waits es long sized lower looked = record {
  lowering = lowering_first p (without_edges g es) x (long ∙ sym same);
  sized = sized ∙ sym same;
  meets = λ v h. elim (cases_Bool (has_number v (ends_of es))) [
    | inl end ↦ looked v end
    | inr other ↦ inr (held_in_both p g (without_edges g es) x v (get_or x v 0) same (neighbours_of-without_edges v g es other) (lower v (omega (arith, same))))
  ];
}
  where
    same : (without_edges g es).vertices ≡ g.vertices
    same = vertices-without_edges g es

-- one turn in which the vertex that is taken falls
pub after_fall : (p : Profile) (g : GraphShape) (x : List ℕ) (adj fallen : LeveledGraph) (waits taken after : List Bool) (v from to : ℕ) → IsGraph g → adj.graph ≡ g → IsSettling p g x adj.levels waits → v < length waits → taken ≡ set waits v false → from ≡ get_or adj.levels v 0 → IsDesired p adj.graph adj.levels v to → fallen ≡ record adj { levels = set adj.levels v to } → length after ≡ fallen.graph.vertices → StillWait taken after → ((k : ℕ) → k < length (neighbours_of v fallen.graph.edges) → IsLookedAt p fallen.graph from (get_or fallen.levels v 0) fallen.levels after (get_or (neighbours_of v fallen.graph.edges) k 0)) → (fallen.graph ≡ g) × IsSettling p g x fallen.levels after
after_fall p g x adj fallen waits taken after v from to graph same s vertex is_taken is_from d is_fallen sized still looked =
    (graph_is ∙ same, subst (λ (y : List ℕ). IsSettling p g x y after) (sym levels_are) (settling_fall p g x adj.levels waits after v to graph s inside d' sized' (subst (λ (b : List Bool). StillWait b after) is_taken still) looked'))
  where
    graph_is : fallen.graph ≡ adj.graph
    graph_is = ap (λ (a : LeveledGraph). a.graph) is_fallen

    levels_are : fallen.levels ≡ set adj.levels v to
    levels_are = ap (λ (a : LeveledGraph). a.levels) is_fallen

    inside : v < g.vertices
    inside = omega (arith, vertex, s.sized)

    d' : IsDesired p g adj.levels v to
    d' = subst (λ (h : GraphShape). IsDesired p h adj.levels v to) same d

    sized' : length after ≡ g.vertices
    sized' = sized ∙ ap (λ (h : GraphShape). h.vertices) (graph_is ∙ same)

    reached : get_or fallen.levels v 0 ≡ to
    reached = ap (λ (y : List ℕ). get_or y v 0) levels_are ∙ get_or-set_same adj.levels v to 0 (omega (arith, inside, s.lowering.sized))

    looked' : (k : ℕ) → k < length (neighbours_of v g.edges) → IsLookedAt p g (get_or adj.levels v 0) to (set adj.levels v to) after (get_or (neighbours_of v g.edges) k 0)
    looked' = rw (graph_is ∙ same, reached, levels_are, is_from) at looked
