-- What peeling keeps: the list so far leads to a peeling list whatever the rest is, and the best of the suffixes passed is known.
use Rattle.std.proofs.Common.{ℕ, suc, ◌+◌, ◌-◌, ◌*◌, ◌≤◌, ◌<◌, ◌≡◌, inl, inr, Bool, true, false, not, ◌&&◌, cond, eqb, ltb, List, [], ◌∷◌, ◌++◌, length, take, drop, refl, ap, sym, ◌∙◌, arith}
use Rattle.std.specs.Prelude.{count_by}
use Rattle.std.proofs.lemmas.Bool.{cases_eq, cases_lt, ltb-true, ltb-false, lt-ltb, eq-eqb, ne_eqb}
use Rattle.std.proofs.lemmas.Nat.{mul-le}
use Rattle.std.proofs.lemmas.List.{append_assoc, append-nil, drop_at, length-append, length-drop, take-append-drop, nil_from_length}
use Rattle.std.proofs.lemmas.Bool.Decides.{nat_tests}
use Rattle.kc_graph.specs.Numbers.{has_number}
use Rattle.kc_graph.specs.private.Numbers.{without}
use Rattle.kc_graph.specs.Shape.{GraphShape, Pair, EdgesFrom, IsGraph}
use Rattle.kc_graph.proofs.lemmas.Counts.{count_by-cons}
use Rattle.kc_graph.proofs.lemmas.Numbers.{has_number-without}
use Rattle.kc_dense.specs.declared.peeling.Suffix.{Suffix}
use Rattle.kc_dense.specs.Sets.{members_of, degree_within, edges_within, IsOnce}
use Rattle.kc_dense.specs.Dense.{IsNext, IsPeeled, IsPeelingList, IsSuffix, IsDensestSuffix}
use Rattle.kc_dense.specs.private.Remaining.{is_left, all_but, AreRemaining}
use Rattle.kc_dense.proofs.SetLemmas.{has_first, has_other, once_without, length-without, all_below, has_number-all_below, once_all_below, length-all_below, all_from}
use Rattle.kc_dense.proofs.DegreeLemmas.{edges_agree, edges_without}
use Rattle.kc_dense.proofs.PeelingLemmas.{next_agree, peeling_length, as_dense_trans}
use Rattle.kc_dense.proofs.RemainingLemmas.{without_one}

-- of the suffixes of a list that begin before place i, the densest, and the first of those that are
pub record IsBest (g : GraphShape) (n i : ℕ) (best : Suffix) (whole : List ℕ) : Type 0 where
  pub inside : best.first < n
  pub edges : best.edges ≡ edges_within g (members_of (drop best.first whole))
  pub dense : (k : ℕ) → k < i → edges_within g (members_of (drop k whole)) * (n - best.first) ≤ best.edges * (n - k)
  pub strictly : (k : ℕ) → k < best.first → edges_within g (members_of (drop k whole)) * (n - best.first) < best.edges * (n - k)

-- what is strictly less dense than a part that is less dense is so too
less_dense : (a x b y c z : ℕ) → b * x < a * y → c * y ≤ b * z → 1 ≤ y → 1 ≤ z → c * x < a * z
less_dense a x b y c z one other some any = elim (cases_lt (c * x) (a * z)) [
  | inl lt ↦ lt
  | inr ge ↦
      let p : (a * z) * y ≤ (c * x) * y = mul-le (a * z) y (c * x) y ge (omega arith) in
      let q : (c * y) * x ≤ (b * z) * x = mul-le (c * y) x (b * z) x other (omega arith) in
      let r : (b * x + 1) * z ≤ (a * y) * z = mul-le (b * x + 1) z (a * y) z (omega arith) (omega arith) in
      let s : (c * x) * y ≡ (c * y) * x = grind arith in
      let t : (b * z) * x ≡ (b * x) * z = grind arith in
      let u : (a * z) * y ≡ (a * y) * z = grind arith in
      let w : (b * x + 1) * z ≡ (b * x) * z + z = grind arith in
      absurd (omega (arith, p, q, r, s, t, u, w, any))
]

pub best_more : (g : GraphShape) (n i : ℕ) (best next : Suffix) (whole : List ℕ) → i < n → next.first ≡ i → next.edges ≡ edges_within g (members_of (drop i whole)) → IsBest g n i best whole →
    best.first ≤ i → IsBest g n (i + 1) (cond (ltb (best.edges * (n - next.first)) (next.edges * (n - best.first))) next best) whole
best_more g n i best next whole lt at edges is from = go (ltb (best.edges * (n - next.first)) (next.edges * (n - best.first))) refl
  where
    go : (b : Bool) → ltb (best.edges * (n - next.first)) (next.edges * (n - best.first)) ≡ b → IsBest g n (i + 1) (cond b next best) whole
    go true less =
        let more : best.edges * (n - i) < next.edges * (n - best.first) = rw at at (ltb-true (best.edges * (n - next.first)) (next.edges * (n - best.first)) less) in
        record {
          inside = omega (arith, at, lt);
          edges = rw at edges;
          dense = λ k h. elim (cases_eq k i) [
            | inl e ↦ rw (at, e) (omega (arith, ap (λ m. m * (n - i)) edges))
            | inr ne ↦ rw at (as_dense_trans next.edges (n - i) best.edges (n - best.first) (edges_within g (members_of (drop k whole))) (n - k) (omega (arith, more)) (is.dense k (omega (arith, ne))) (omega (arith, is.inside)))
          ];
          strictly = λ k h. rw at (less_dense next.edges (n - i) best.edges (n - best.first) (edges_within g (members_of (drop k whole))) (n - k) more (is.dense k (omega (arith, h, at))) (omega (arith, is.inside)) (omega (arith, h, at, lt)));
        }
    go false more =
        let ge : next.edges * (n - best.first) ≤ best.edges * (n - i) = rw at at (ltb-false (best.edges * (n - next.first)) (next.edges * (n - best.first)) more) in
        record {
          inside = is.inside;
          edges = is.edges;
          dense = λ k h. grind (arith, nat_tests, cases_eq k i, is.dense);
          strictly = is.strictly;
        }

-- the vertices that are left after i were taken, each once
pub record AreListed (g : GraphShape) (i : ℕ) (degrees vertices : List ℕ) : Type 0 where
  pub once : IsOnce vertices
  pub same : (u : ℕ) → has_number u vertices ≡ is_left degrees u
  pub number : length vertices + i ≡ g.vertices

-- after i vertices were taken, and the suffixes that begin before place j were compared
pub record IsWalk (g : GraphShape) (i j : ℕ) (degrees order : List ℕ) (edges : ℕ) (best : Suffix) : Type 0 where
  pub remaining : AreRemaining g degrees
  pub counted : length order ≡ i
  pub left : List ℕ
  pub listed : AreListed g i degrees left
  pub within : edges ≡ edges_within g (is_left degrees)
  pub from : best.first ≤ j
  pub leads : (rest : List ℕ) → IsOnce rest → ((u : ℕ) → has_number u rest ≡ is_left degrees u) → IsPeeled g rest → IsPeelingList g (order ++ rest) × IsBest g g.vertices j best (order ++ rest)

-- all edges of a graph are between its vertices
edges_all : (g : GraphShape) (s : ℕ → Bool) → IsGraph g → ((u : ℕ) → u < g.vertices → s u ≡ true) → edges_within g s ≡ length g.edges
unfolding edges_within
edges_all g s graph all = go 0 0 g.edges graph
  where
    go : (a b : ℕ) (es : List Pair) → EdgesFrom g.vertices a b es → count_by (λ (e : Pair). s e.0 && s e.1) es ≡ length es
    go a b [] up = refl
    go a b (e ∷ es) up =
        rw (count_by-cons (λ (f : Pair). s f.0 && s f.1) e es, all e.0 (omega (arith, up.1, up.2)), all e.1 up.2)
        (omega (arith, go e.0 (suc e.1) es up.3))

pub walk_first : (g : GraphShape) (degrees : List ℕ) (edges : ℕ) → IsGraph g → 1 ≤ g.vertices → AreRemaining g degrees → ((u : ℕ) → is_left degrees u ≡ ltb u g.vertices) → edges ≡ length g.edges →
    IsWalk g 0 0 degrees [] edges (record { first = 0; edges = edges })
walk_first g degrees edges graph some remaining all counted = record {
  remaining = remaining;
  counted = refl;
  left = all_below g.vertices;
  listed = record {
    once = once_all_below g.vertices;
    same = λ u. has_number-all_below u g.vertices ∙ sym (all u);
    number = omega (arith, length-all_below g.vertices);
  };
  within = within;
  from = omega arith;
  leads = λ rest once same peeled. (
    record {
      vertices = record { inside = all_from (λ v. v < g.vertices) rest (λ v e. ltb-true v g.vertices (sym (all v) ∙ sym (same v) ∙ e)); once = once };
      all = λ v h. same v ∙ all v ∙ lt-ltb v g.vertices h;
      peeled = peeled;
    },
    record {
      inside = some;
      edges = within ∙ edges_agree g (is_left degrees) (members_of rest) (λ u. sym (same u));
      dense = λ k h. absurd (omega (arith, h));
      strictly = λ k h. absurd (omega (arith, h));
    },
  );
}
  where
    within : edges ≡ edges_within g (is_left degrees)
    within = counted ∙ sym (edges_all g (is_left degrees) graph (λ u h. all u ∙ lt-ltb u g.vertices h))

-- a vertex is left
pub walk_some : (g : GraphShape) (i j : ℕ) (degrees order : List ℕ) (edges : ℕ) (best : Suffix) → IsWalk g i j degrees order edges best → i < g.vertices → (u : ℕ) × (is_left degrees u ≡ true)
walk_some g i j degrees order edges best is lt = go is.left is.listed.number is.listed.same
  where
    go : (left : List ℕ) → length left + i ≡ g.vertices → ((u : ℕ) → has_number u left ≡ is_left degrees u) → (u : ℕ) × (is_left degrees u ≡ true)
    go [] number same = absurd (omega (arith, number, lt))
    go (x ∷ xs) number same = (x, sym (same x) ∙ has_first x xs)

pub walk_compared : (g : GraphShape) (i : ℕ) (degrees order : List ℕ) (edges : ℕ) (best next : Suffix) → i < g.vertices → next.first ≡ i → next.edges ≡ edges → IsWalk g i i degrees order edges best →
    IsWalk g i (i + 1) degrees order edges (cond (ltb (best.edges * (g.vertices - next.first)) (next.edges * (g.vertices - best.first))) next best)
walk_compared g i degrees order edges best next lt at edges_are is = record {
  remaining = is.remaining;
  counted = is.counted;
  left = is.left;
  listed = is.listed;
  within = is.within;
  from = low (ltb (best.edges * (g.vertices - next.first)) (next.edges * (g.vertices - best.first)));
  leads = λ rest once same peeled.
      let led = is.leads rest once same peeled in
      let here : next.edges ≡ edges_within g (members_of (drop i (order ++ rest))) =
      edges_are ∙ is.within ∙ edges_agree g (is_left degrees) (members_of rest) (λ u. sym (same u)) ∙ ap (λ (xs : List ℕ). edges_within g (members_of xs)) (sym (drop_at order rest i is.counted)) in
      (led.0, best_more g g.vertices i best next (order ++ rest) lt at here led.1 is.from);
}
  where
    low : (b : Bool) → (cond b next best).first ≤ i + 1
    low b = grind (arith, nat_tests, is.from)

-- the edges that go with a vertex are among those that are left
pub walk_edges : (g : GraphShape) (i j : ℕ) (degrees order : List ℕ) (edges : ℕ) (best : Suffix) (v : ℕ) → IsGraph g → IsWalk g i j degrees order edges best → is_left degrees v ≡ true →
    edges ≡ edges_within g (all_but v (is_left degrees)) + degree_within g (is_left degrees) v
walk_edges g i j degrees order edges best v graph is left = is.within ∙ edges_without g (is_left degrees) (all_but v (is_left degrees)) v graph (without_one (is_left degrees) v left)

pub walk_taken : (g : GraphShape) (i j : ℕ) (degrees after order : List ℕ) (edges : ℕ) (best : Suffix) (v : ℕ) → IsGraph g → IsWalk g i j degrees order edges best → IsNext g (is_left degrees) v →
    ((u : ℕ) → is_left after u ≡ all_but v (is_left degrees) u) → AreRemaining g after → i < j →
    IsWalk g (i + 1) j after (order ++ v ∷ []) (edges - degree_within g (is_left degrees) v) best
walk_taken g i j degrees after order edges best v graph is next others remaining far = record {
  remaining = remaining;
  counted = length-append order (v ∷ []) ∙ ap (λ m. m + 1) is.counted;
  left = without v is.left;
  listed = record {
    once = once_without v is.left is.listed.once;
    same = λ u. has_number-without u v is.left ∙ rest_same u ∙ sym (others u);
    number = omega (arith, is.listed.number, length-without v is.left is.listed.once (is.listed.same v ∙ next.holds));
  };
  within = omega (arith, walk_edges g i j degrees order edges best v graph is next.holds, edges_agree g (is_left after) (all_but v (is_left degrees)) others);
  from = is.from;
  leads = λ rest once same peeled.
      let whole : (order ++ v ∷ []) ++ rest ≡ order ++ (v ∷ rest) = append_assoc order (v ∷ []) rest in
      let gone : has_number v rest ≡ false = same v ∙ others v ∙ rw (eq-eqb v v refl) refl in
      let all : (u : ℕ) → has_number u (v ∷ rest) ≡ is_left degrees u = λ u. grind (arith, nat_tests, cases_eq u v, has_first, has_other, ne_eqb, next.holds) in
      rw whole (is.leads (v ∷ rest) (gone, once) all (next_agree g (is_left degrees) (members_of (v ∷ rest)) v (λ u. sym (all u)) next, peeled));
}
  where
    rest_same : (u : ℕ) → not (eqb v u) && has_number u is.left ≡ all_but v (is_left degrees) u
    rest_same u = grind (arith, nat_tests, eq-eqb, ne_eqb, is.listed.same)

-- at the end
pub walk_last : (g : GraphShape) (degrees order : List ℕ) (edges : ℕ) (best : Suffix) → IsWalk g g.vertices g.vertices degrees order edges best → IsPeelingList g order × IsBest g g.vertices g.vertices best order
walk_last g degrees order edges best is = grind (arith, nat_tests, nil_from_length, append-nil, is.left, is.listed.number, is.leads, is.listed.same)

-- the best of all suffixes is the densest one
pub best_densest : (g : GraphShape) (order : List ℕ) (best : Suffix) → IsPeelingList g order → IsBest g g.vertices g.vertices best order → IsDensestSuffix g (drop best.first order) order
best_densest g order best peeling is = record {
  suffix = record { front = take best.first order; is = sym (take-append-drop best.first order); some = omega (arith, part_len, is.inside) };
  densest = λ other from.
      let at = place other from in
      rw (part_len, sym is.edges, at.1, sym at.0) (is.dense (length from.front) at.2);
  longest = λ other from dense. elim (cases_lt (length (drop best.first order)) (length other)) [
    | inr ge ↦ ge
    | inl longer ↦
        let at = place other from in
        let less = is.strictly (length from.front) (omega (arith, longer, at.1, part_len, at.2)) in
        absurd (omega (arith, less, rw (part_len, sym is.edges, at.1, sym at.0) at dense))
  ];
}
  where
    part_len : length (drop best.first order) ≡ g.vertices - best.first
    part_len = length-drop best.first order ∙ ap (λ m. m - best.first) (peeling_length g order peeling)

    place : (other : List ℕ) (from : IsSuffix other order) → (edges_within g (members_of (drop (length from.front) order)) ≡ edges_within g (members_of other)) × (length other ≡ g.vertices - length from.front) × (length from.front < g.vertices)
    place other from = grind (arith, nat_tests, length-append, peeling_length, drop_at, from.front, from.is, from.some)
