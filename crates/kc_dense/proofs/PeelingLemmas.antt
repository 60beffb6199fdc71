-- Each graph has one peeling list, and one dense part.
use Rattle.std.proofs.Common.{ℕ, suc, zero, ◌+◌, ◌*◌, ◌≤◌, ◌<◌, ◌≡◌, ◌⊎◌, inl, inr, Bool, true, false, List, [], ◌∷◌, ◌++◌, length, drop, eqb, ltb, ◌||◌, refl, ap, sym, ◌∙◌, arith, subst}
use Rattle.std.proofs.lemmas.Bool.{cases_eq, cases_lt, cases_Bool, true≢false, ltb-true, lt-ltb, eq-eqb, ne_eqb}
use Rattle.std.proofs.lemmas.Nat.{mul-le}
use Rattle.std.proofs.lemmas.List.{length-append, drop_at}
use Rattle.std.proofs.lemmas.Bool.Decides.{nat_tests}
use Rattle.kc_graph.specs.Numbers.{has_number, RisesFrom}
use Rattle.kc_graph.specs.private.Numbers.{without, put}
use Rattle.kc_graph.specs.Shape.{GraphShape}
use Rattle.kc_graph.proofs.lemmas.Numbers.{has_number-without, has_number-put, rises_from_put, same_rising}
use Rattle.kc_dense.specs.Sets.{members_of, degree_within, edges_within, IsOnce}
use Rattle.kc_dense.specs.Dense.{IsNext, IsPeeled, IsPeelingList, IsSuffix, IsAsDense, IsDensestSuffix, IsDensePart}
use Rattle.kc_dense.specs.Laws.{EachHasPeelingList, PeelingListIsOne, EachHasDensePart, DensePartIsOne}
use Rattle.kc_dense.proofs.SetLemmas.{has_first, has_other, has_rest, same_rest, once_without, length-without, same_length, all_below, has_number-all_below, once_all_below, length-all_below, all_at, all_from}
use Rattle.kc_dense.proofs.DegreeLemmas.{degree_agree}

-- the next vertex of equal sets
pub next_agree : (g : GraphShape) (s t : ℕ → Bool) (v : ℕ) → ((u : ℕ) → s u ≡ t u) → IsNext g s v → IsNext g t v
next_agree g s t v same is = record {
  holds = sym (same v) ∙ is.holds;
  least = λ u e. rw (sym (degree_agree g s t v same), sym (degree_agree g s t u same)) (is.least u (same u ∙ e));
  first = λ u e f. is.first u (same u ∙ e) (degree_agree g s t u same ∙ f ∙ sym (degree_agree g s t v same));
}

-- a set has no two
next_is_one : (g : GraphShape) (s : ℕ → Bool) (v w : ℕ) → IsNext g s v → IsNext g s w → v ≡ w
next_is_one g s v w one other = grind (arith, nat_tests)

peeled_is_one : (g : GraphShape) (us vs : List ℕ) → IsOnce us → IsOnce vs → ((u : ℕ) → has_number u us ≡ has_number u vs) → IsPeeled g us → IsPeeled g vs → us ≡ vs
peeled_is_one g [] [] once_u once_v same one other = refl
peeled_is_one g [] (v ∷ vs) once_u once_v same one other = absurd (true≢false (sym (has_first v vs) ∙ sym (same v)))
peeled_is_one g (u ∷ us) [] once_u once_v same one other = absurd (true≢false (sym (has_first u us) ∙ same u))
peeled_is_one g (u ∷ us) (v ∷ vs) once_u once_v same one other =
    let first : v ≡ u = next_is_one g (members_of (u ∷ us)) v u (next_agree g (members_of (v ∷ vs)) (members_of (u ∷ us)) v (λ w. sym (same w)) other.0) one.0 in
    let once : IsOnce (u ∷ vs) = subst (λ (w : ℕ). IsOnce (w ∷ vs)) first once_v in
    let rest = same_rest u us vs once_u once (λ w. same w ∙ ap (λ x. has_number w (x ∷ vs)) first) in
    let later : us ≡ vs = peeled_is_one g us vs once_u.1 once_v.1 rest one.1 other.1 in
    ap (λ (xs : List ℕ). u ∷ xs) later ∙ ap (λ x. x ∷ vs) (sym first)

-- a peeling list has the vertices of the graph
pub peeling_has : (g : GraphShape) (vs : List ℕ) → IsPeelingList g vs → (u : ℕ) → has_number u vs ≡ ltb u g.vertices
peeling_has g vs is u = elim (cases_Bool (has_number u vs)) [
  | inl there ↦ there ∙ sym (lt-ltb u g.vertices (all_at (λ v. v < g.vertices) vs u is.vertices.inside there))
  | inr absent ↦ grind (arith, nat_tests, cases_Bool (ltb u g.vertices), true≢false, ltb-true, is.all)
]

pub peeling_length : (g : GraphShape) (vs : List ℕ) → IsPeelingList g vs → length vs ≡ g.vertices
peeling_length g vs is =
    same_length vs (all_below g.vertices) is.vertices.once (once_all_below g.vertices) (λ u. peeling_has g vs is u ∙ sym (has_number-all_below u g.vertices)) ∙ length-all_below g.vertices

pub peeling_list_is_one : PeelingListIsOne
peeling_list_is_one g us vs one other =
    peeled_is_one g us vs one.vertices.once other.vertices.once (λ u. peeling_has g us one u ∙ sym (peeling_has g vs other u)) one.peeled other.peeled

-- of the vertices of a list one with the least measure, and of several the least vertex
record IsLeastOf (f : ℕ → ℕ) (xs : List ℕ) (v : ℕ) : Type 0 where
  there : has_number v xs ≡ true
  least : (u : ℕ) → has_number u xs ≡ true → f v ≤ f u
  first : (u : ℕ) → has_number u xs ≡ true → f u ≡ f v → v ≤ u

-- a vertex of a longer list is the first or one of the rest
split : (u x : ℕ) (xs : List ℕ) → has_number u (x ∷ xs) ≡ true → (u ≡ x) ⊎ (has_number u xs ≡ true)
split u x xs e = elim (cases_eq u x) [ inl same ↦ inl same | inr ne ↦ inr (sym (has_other u x xs ne) ∙ e) ]

-- the first is before the least of the rest, or after it
least_first : (f : ℕ → ℕ) (x v : ℕ) (xs : List ℕ) → IsLeastOf f xs v → (f x < f v) ⊎ ((f x ≡ f v) × (x ≤ v)) → IsLeastOf f (x ∷ xs) x
least_first f x v xs is before = record {
  there = has_first x xs;
  least = λ u e. grind (arith, nat_tests, split, is.least);
  first = λ u e equal. grind (arith, nat_tests, split, is.least, is.first);
}

least_later : (f : ℕ → ℕ) (x v : ℕ) (xs : List ℕ) → IsLeastOf f xs v → (f v < f x) ⊎ ((f v ≡ f x) × (v ≤ x)) → IsLeastOf f (x ∷ xs) v
least_later f x v xs is before = record {
  there = has_rest v x xs is.there;
  least = λ u e. grind (arith, nat_tests, split, is.least);
  first = λ u e equal. grind (arith, nat_tests, split, is.first);
}

least_of : (f : ℕ → ℕ) (x : ℕ) (xs : List ℕ) → (v : ℕ) × IsLeastOf f (x ∷ xs) v
least_of f x [] = (
  x,
  record {
    there = has_first x [];
    least = λ u e. elim (split u x [] e) [ inl same ↦ omega (arith, ap f same) | inr none ↦ absurd (true≢false (sym none)) ];
    first = λ u e equal. elim (split u x [] e) [ inl same ↦ omega (arith, same) | inr none ↦ absurd (true≢false (sym none)) ];
  },
)
least_of f x (y ∷ ys) =
    let is = least_of f y ys in
    elim (cases_lt (f x) (f is.0)) [
      | inl lt ↦ (x, least_first f x is.0 (y ∷ ys) is.1 (inl lt))
      | inr ge ↦ elim (cases_lt (f is.0) (f x)) [
        | inl lt ↦ (is.0, least_later f x is.0 (y ∷ ys) is.1 (inl lt))
        | inr le ↦
            let equal : f x ≡ f is.0 = omega arith in
            grind (arith, nat_tests, cases_lt x is.0, least_first, least_later)
      ]
    ]

next_of : (g : GraphShape) (x : ℕ) (xs : List ℕ) → (v : ℕ) × IsNext g (members_of (x ∷ xs)) v
next_of g x xs = let is = least_of (degree_within g (members_of (x ∷ xs))) x xs in (is.0, record { holds = is.1.there; least = is.1.least; first = is.1.first })

-- the vertices of a list in the order in which they are peeled
record IsPeelingOf (g : GraphShape) (xs vs : List ℕ) : Type 0 where
  once : IsOnce vs
  same : (u : ℕ) → has_number u vs ≡ has_number u xs
  peeled : IsPeeled g vs

peeling_of : (g : GraphShape) (k : ℕ) (xs : List ℕ) → length xs ≡ k → IsOnce xs → (vs : List ℕ) × IsPeelingOf g xs vs
peeling_of g k [] e once = ([], record { once = tt; same = λ u. refl; peeled = tt })
peeling_of g zero (x ∷ xs) e once = absurd (omega (arith, e))
peeling_of g (suc k) (x ∷ xs) e once =
    let v = next_of g x xs in
    let rest = peeling_of g k (without v.0 (x ∷ xs)) (omega (arith, e, length-without v.0 (x ∷ xs) once v.1.holds)) (once_without v.0 (x ∷ xs) once) in (
      v.0 ∷ rest.0,
      record {
        once = (rest.1.same v.0 ∙ gone v.0, rest.1.once);
        same = λ u. same v.0 v.1.holds rest.0 rest.1.same u;
        peeled = (next_agree g (members_of (x ∷ xs)) (members_of (v.0 ∷ rest.0)) v.0 (λ u. sym (same v.0 v.1.holds rest.0 rest.1.same u)) v.1, rest.1.peeled);
      },
    )
  where
    gone : (v : ℕ) → has_number v (without v (x ∷ xs)) ≡ false
    gone v = has_number-without v v (x ∷ xs) ∙ rw (eq-eqb v v refl) refl

    same : (v : ℕ) → has_number v (x ∷ xs) ≡ true → (vs : List ℕ) → ((u : ℕ) → has_number u vs ≡ has_number u (without v (x ∷ xs))) → (u : ℕ) → has_number u (v ∷ vs) ≡ has_number u (x ∷ xs)
    same v there vs rest u = grind (arith, nat_tests, has_first, has_other, has_number-without, ne_eqb)

pub each_has_peeling_list : EachHasPeelingList
each_has_peeling_list g =
    let is = peeling_of g g.vertices (all_below g.vertices) (length-all_below g.vertices) (once_all_below g.vertices) in
    let has : (u : ℕ) → has_number u is.0 ≡ ltb u g.vertices = λ u. is.1.same u ∙ has_number-all_below u g.vertices in (
      is.0,
      record {
        vertices = record { inside = all_from (λ v. v < g.vertices) is.0 (λ v e. ltb-true v g.vertices (sym (has v) ∙ e)); once = is.1.once };
        all = λ v h. has v ∙ lt-ltb v g.vertices h;
        peeled = is.1.peeled;
      },
    )

-- what is as dense as a part is as dense as all that the part is as dense as
pub as_dense_trans : (a x b y c z : ℕ) → b * x ≤ a * y → c * y ≤ b * z → 1 ≤ y → c * x ≤ a * z
as_dense_trans a x b y c z one other some = elim (cases_lt (a * z) (c * x)) [
  | inr ge ↦ ge
  | inl lt ↦
      let p : (a * z + 1) * y ≤ (c * x) * y = mul-le (a * z + 1) y (c * x) y (omega arith) (omega arith) in
      let q : (c * y) * x ≤ (b * z) * x = mul-le (c * y) x (b * z) x other (omega arith) in
      let r : (b * x) * z ≤ (a * y) * z = mul-le (b * x) z (a * y) z one (omega arith) in
      let s : (c * x) * y ≡ (c * y) * x = grind arith in
      let t : (b * z) * x ≡ (b * x) * z = grind arith in
      let u : (a * z + 1) * y ≡ (a * y) * z + y = grind arith in
      absurd (omega (arith, p, q, r, s, t, u, some))
]

-- a suffix is the whole list, or one of the rest
suffix_cases : (other : List ℕ) (v : ℕ) (vs : List ℕ) → IsSuffix other (v ∷ vs) → (other ≡ v ∷ vs) ⊎ IsSuffix other vs
suffix_cases other v vs is = go is.front is.is is.some
  where
    go : (front : List ℕ) → v ∷ vs ≡ front ++ other → 0 < length other → (other ≡ v ∷ vs) ⊎ IsSuffix other vs
    go [] e some = inl (sym e)
    go (x ∷ front) e some = inr (record { front = front; is = cc; some = some })

suffix_length : (other xs : List ℕ) → IsSuffix other xs → length other ≤ length xs
suffix_length other xs from = omega (arith, ap length from.is, length-append from.front other)

-- a list that is not empty has a densest suffix
densest_of : (g : GraphShape) (v : ℕ) (vs : List ℕ) → (part : List ℕ) × IsDensestSuffix g part (v ∷ vs)
densest_of g v [] = (
  v ∷ [],
  record {
    suffix = record { front = []; is = refl; some = omega arith };
    densest = λ other is. elim (suffix_cases other v [] is) [ inl e ↦ rw e (omega arith) | inr none ↦ absurd (nothing other none.front none.is none.some) ];
    longest = λ other is dense. elim (suffix_cases other v [] is) [ inl e ↦ rw e (omega arith) | inr none ↦ absurd (nothing other none.front none.is none.some) ];
  },
)
  where
    nothing : (other front : List ℕ) → [] ≡ front ++ other → 0 < length other → ⊥
    nothing other [] e some = omega (arith, ap length e)
    nothing other (x ∷ front) e some = cc
densest_of g v (w ∷ ws) = choose (densest_of g w ws)
  where
    choose : (part : List ℕ) × IsDensestSuffix g part (w ∷ ws) → (part : List ℕ) × IsDensestSuffix g part (v ∷ w ∷ ws)
    choose (part, is) = elim (cases_lt (edges_within g (members_of (v ∷ w ∷ ws)) * length part) (edges_within g (members_of part) * length (v ∷ w ∷ ws))) [
      | inl less ↦ (
        part,
        record {
          suffix = record { front = v ∷ is.suffix.front; is = ap (λ (xs : List ℕ). v ∷ xs) is.suffix.is; some = is.suffix.some };
          densest = λ other from. elim (suffix_cases other v (w ∷ ws) from) [ inl e ↦ rw e (omega (arith, less)) | inr later ↦ is.densest other later ];
          longest = λ other from dense. elim (suffix_cases other v (w ∷ ws) from) [ inl e ↦ absurd (omega (arith, less, subst (λ (xs : List ℕ). IsAsDense g xs part) e dense)) | inr later ↦ is.longest other later dense ];
        },
      )
      | inr more ↦ (
        v ∷ w ∷ ws,
        record {
          suffix = record { front = []; is = refl; some = omega arith };
          densest = λ other from. elim (suffix_cases other v (w ∷ ws) from) [
            | inl e ↦ rw e (omega arith)
            | inr later ↦ as_dense_trans _ (length (v ∷ w ∷ ws)) (edges_within g (members_of part)) (length part) _ (length other) more (is.densest other later) is.suffix.some
          ];
          longest = λ other from dense. suffix_length other (v ∷ w ∷ ws) from;
        },
      )
    ]

-- the numbers of a list, ascending
ascending : List ℕ → List ℕ
ascending [] = []
ascending (x ∷ xs) = put x (ascending xs)

rises_ascending : (xs : List ℕ) → RisesFrom 0 (ascending xs)
unfolding ascending
rises_ascending [] = tt
rises_ascending (x ∷ xs) = rises_from_put 0 x (ascending xs) (rises_ascending xs) (omega arith)

has_number-ascending : (u : ℕ) (xs : List ℕ) → has_number u (ascending xs) ≡ has_number u xs
unfolding ascending
has_number-ascending u [] = refl
has_number-ascending u (x ∷ xs) = has_number-put u x (ascending xs) ∙ ap (λ b. eqb x u || b) (has_number-ascending u xs)

pub each_has_dense_part : EachHasDensePart
each_has_dense_part g some = go peeling.0 peeling.1
  where
    peeling : (vs : List ℕ) × IsPeelingList g vs
    peeling = each_has_peeling_list g

    go : (vs : List ℕ) → IsPeelingList g vs → (members : List ℕ) × IsDensePart g members
    go [] is = absurd (omega (arith, peeling_length g [] is, some))
    go (v ∷ vs) is =
        let best = densest_of g v vs in
        (ascending best.0, record { order = v ∷ vs; part = best.0; peeling = is; densest = best.1; ascending = rises_ascending best.0; same = λ u. has_number-ascending u best.0 })

-- a list has no two densest suffixes
densest_is_one : (g : GraphShape) (xs one other : List ℕ) → IsDensestSuffix g one xs → IsDensestSuffix g other xs → one ≡ other
densest_is_one g xs one other p q =
    let a : length one ≤ length other = q.longest one p.suffix (p.densest other q.suffix) in
    let b : length other ≤ length one = p.longest other q.suffix (q.densest one p.suffix) in
    let whole : p.suffix.front ++ one ≡ q.suffix.front ++ other = sym p.suffix.is ∙ q.suffix.is in
    let sized : length p.suffix.front ≡ length q.suffix.front = omega (arith, a, b, ap length whole, length-append p.suffix.front one, length-append q.suffix.front other) in
    sym (drop_at p.suffix.front one (length q.suffix.front) sized) ∙ ap (λ (ys : List ℕ). drop (length q.suffix.front) ys) whole ∙ drop_at q.suffix.front other (length q.suffix.front) refl

pub dense_part_is_one : DensePartIsOne
dense_part_is_one g xs ys one other =
    let orders : other.order ≡ one.order = peeling_list_is_one g other.order one.order other.peeling one.peeling in
    let parts : one.part ≡ other.part = densest_is_one g one.order one.part other.part one.densest (subst (λ (vs : List ℕ). IsDensestSuffix g other.part vs) orders other.densest) in
    same_rising 0 xs ys one.ascending other.ascending (λ u. one.same u ∙ ap (λ (vs : List ℕ). has_number u vs) parts ∙ sym (other.same u))
