-- No vertices of a graph are more than twice as dense as the densest suffix of a peeling list.
use Rattle.std.proofs.Common.{ℕ, suc, ◌+◌, ◌*◌, ◌≤◌, ◌<◌, ◌≡◌, inl, inr, Bool, true, false, ◌&&◌, List, [], ◌∷◌, ◌++◌, length, refl, ap, sym, arith, subst, zero-add}
use Rattle.std.specs.Prelude.{count_by, sum_by}
use Rattle.std.proofs.lemmas.Bool.{cases_lt, cases_Bool}
use Rattle.std.proofs.lemmas.Nat.{mul-le}
use Rattle.std.proofs.lemmas.List.Sums.{sum_by-cons}
use Rattle.std.proofs.lemmas.Bool.Decides.{nat_tests}
use Rattle.kc_graph.specs.Numbers.{has_number}
use Rattle.kc_graph.specs.Shape.{GraphShape, IsGraph}
use Rattle.kc_graph.proofs.lemmas.Counts.{count_by-cons}
use Rattle.kc_dense.specs.Sets.{members_of, degree_within, edges_within, IsOnce, AreVertices}
use Rattle.kc_dense.specs.Dense.{IsPeeled, IsPeelingList, IsSuffix}
use Rattle.kc_dense.specs.Laws.{DensePartIsHalfAsDense}
use Rattle.kc_dense.proofs.SetLemmas.{has_first, has_other, has_rest, all_at, count_by-members, once_from_rising, same_length}
use Rattle.kc_dense.proofs.DegreeLemmas.{IsWithout, degree_mono, edges_none, edges_agree, edges_without, handshake}

-- where each vertex of a list has at least d neighbours in it, it has half as many edges
half : (g : GraphShape) (xs : List ℕ) (d : ℕ) → IsGraph g → IsOnce xs → ((u : ℕ) → has_number u xs ≡ true → d ≤ degree_within g (members_of xs) u) → d * length xs ≤ 2 * edges_within g (members_of xs)
half g xs d graph once enough = omega (arith, many xs enough, handshake g xs graph once)
  where
    many : (ys : List ℕ) → ((u : ℕ) → has_number u ys ≡ true → d ≤ degree_within g (members_of xs) u) → d * length ys ≤ sum_by (degree_within g (members_of xs)) ys
    many [] more = let none : d * 0 ≡ 0 = grind arith in omega (arith, none)
    many (y ∷ ys) more =
        let product : d * suc (length ys) ≡ d * length ys + d = grind arith in
        omega (arith, product, sum_by-cons (degree_within g (members_of xs)) y ys, more y (has_first y ys), many ys (λ u e. more u (has_rest u y ys e)))

cancel : (d z w b e : ℕ) → d * z ≤ 2 * w → w * b ≤ e * z → 1 ≤ z → d * b ≤ 2 * e
cancel d z w b e p q some = elim (cases_lt (2 * e) (d * b)) [
  | inr ge ↦ ge
  | inl lt ↦
      let one : (2 * e + 1) * z ≤ (d * b) * z = mul-le (2 * e + 1) z (d * b) z (omega arith) (omega arith) in
      let two : (d * z) * b ≤ (2 * w) * b = mul-le (d * z) b (2 * w) b p (omega arith) in
      let three : (d * b) * z ≡ (d * z) * b = grind arith in
      let four : (2 * w) * b ≡ 2 * (w * b) = grind arith in
      let five : (2 * e + 1) * z ≡ 2 * (e * z) + z = grind arith in
      absurd (omega (arith, one, two, three, four, five, q, some))
]

adds : (x y c d b e m k : ℕ) → x ≡ y + c → c ≤ d → d * b ≤ 2 * e → y * b ≤ 2 * e * k → m ≡ 1 + k → x * b ≤ 2 * e * m
adds x y c d b e m k p q r h i =
    let one : c * b ≤ d * b = mul-le c b d b q (omega arith) in
    let two : (y + c) * b ≡ y * b + c * b = grind arith in
    let three : 2 * e * (1 + k) ≡ 2 * e * k + 2 * e = grind arith in
    rw (p, i) (omega (arith, one, two, three, r, h))

-- the edges of a set within a list, each counted at the end that is peeled first
factor : (g : GraphShape) (t : ℕ → Bool) (e b : ℕ) (vs : List ℕ) → IsGraph g → IsOnce vs → IsPeeled g vs →
    ((other : List ℕ) → IsSuffix other vs → edges_within g (members_of other) * b ≤ e * length other) →
    edges_within g (λ u. t u && has_number u vs) * b ≤ 2 * e * count_by t vs
factor g t e b [] graph once peeled bound =
    let none : edges_within g (λ u. t u && has_number u []) ≡ 0 = edges_none g (λ u. t u && has_number u []) (λ u. nobody (t u)) in
    let product : 0 * b ≡ 0 = grind arith in
    rw none (omega (arith, product))
  where
    nobody : (p : Bool) → p && false ≡ false
    nobody p = grind arith
factor g t e b (v ∷ vs) graph once peeled bound =
    let later : edges_within g (λ u. t u && has_number u vs) * b ≤ 2 * e * count_by t vs =
    factor g t e b vs graph once.1 peeled.1 (λ other is. bound other (record { front = v ∷ is.front; is = ap (λ (xs : List ℕ). v ∷ xs) is.is; some = is.some })) in
    elim (cases_Bool (t v)) [
      | inr out ↦ grind (arith, nat_tests, edges_agree, left_out, count_by-cons, zero-add, out)
      | inl there ↦
          let enough : degree_within g (members_of (v ∷ vs)) v * suc (length vs) ≤ 2 * edges_within g (members_of (v ∷ vs)) = half g (v ∷ vs) _ graph once peeled.0.least in
          let few : degree_within g (members_of (v ∷ vs)) v * b ≤ 2 * e = cancel _ (suc (length vs)) _ b e enough (bound (v ∷ vs) (record { front = []; is = refl; some = omega arith })) (omega arith) in
          let moved = edges_without g (λ u. t u && has_number u (v ∷ vs)) (λ u. t u && has_number u vs) v graph (without there) in
          let fewer : degree_within g (λ u. t u && has_number u (v ∷ vs)) v ≤ degree_within g (members_of (v ∷ vs)) v = degree_mono g (λ u. t u && has_number u (v ∷ vs)) (members_of (v ∷ vs)) v (λ u h. second (t u) (has_number u (v ∷ vs)) h) in
          let counted : count_by t (v ∷ vs) ≡ 1 + count_by t vs = rw (count_by-cons t v vs, there) refl in
          adds _ _ _ _ b e _ _ moved fewer few later counted
    ]
  where
    second : (p q : Bool) → p && q ≡ true → q ≡ true
    second p q h = grind (arith, h)

    left_out : t v ≡ false → (u : ℕ) → t u && has_number u (v ∷ vs) ≡ t u && has_number u vs
    left_out out u = grind (arith, nat_tests, has_other)

    without : t v ≡ true → IsWithout v (λ u. t u && has_number u (v ∷ vs)) (λ u. t u && has_number u vs)
    without there = record {
      others = λ u ne. ap (λ q. t u && q) (has_other u v vs ne);
      before = rw (there, has_first v vs) refl;
      after = rw (there, once.0) refl;
    }

-- of all vertices
pub half_as_dense : (g : GraphShape) (order part : List ℕ) → IsGraph g → IsPeelingList g order →
    ((other : List ℕ) → IsSuffix other order → edges_within g (members_of other) * length part ≤ edges_within g (members_of part) * length other) →
    (others : List ℕ) → AreVertices g others → edges_within g (members_of others) * length part ≤ 2 * edges_within g (members_of part) * length others
half_as_dense g order part graph peeling densest others are =
    let most = factor g (members_of others) (edges_within g (members_of part)) (length part) order graph peeling.vertices.once peeling.peeled densest in
    let counted : count_by (members_of others) order ≡ length others = count_by-members others order are.once peeling.vertices.once inside in
    let same : edges_within g (members_of others) ≡ edges_within g (λ u. has_number u others && has_number u order) = edges_agree g _ _ everywhere in
    rw (same, sym counted) most
  where
    inside : (u : ℕ) → has_number u others ≡ true → has_number u order ≡ true
    inside u e = peeling.all u (all_at (λ v. v < g.vertices) others u are.inside e)

    both : (p q : Bool) → (p ≡ true → q ≡ true) → p ≡ p && q
    both p q h = grind (arith, h)

    everywhere : (u : ℕ) → has_number u others ≡ has_number u others && has_number u order
    everywhere u = both (has_number u others) (has_number u order) (inside u)

-- the numbers of a suffix each stand once
pub once_suffix : (front part : List ℕ) → IsOnce (front ++ part) → IsOnce part
once_suffix [] part once = once
once_suffix (x ∷ front) part once = once_suffix front part once.1

pub dense_part_is_half_as_dense : DensePartIsHalfAsDense
dense_part_is_half_as_dense g members graph is others are =
    let once : IsOnce is.part = once_suffix is.densest.suffix.front is.part (subst IsOnce is.densest.suffix.is is.peeling.vertices.once) in
    rw (same_length members is.part (once_from_rising 0 members is.ascending) once is.same, edges_agree g (members_of members) (members_of is.part) is.same)
    (half_as_dense g is.order is.part graph is.peeling is.densest.densest others are)
