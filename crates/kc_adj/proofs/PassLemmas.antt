-- What is found at the vertices of a list as they go up, and what is written down of it.
use Rattle.std.proofs.Common.{ℕ, suc, zero, ◌+◌, ◌-◌, ◌*◌, ◌/◌, ◌%◌, ◌≤◌, ◌<◌, ◌≡◌, inl, inr, Bool, true, false, cond, leb, ltb, ◌&&◌, min, List, [], ◌∷◌, ◌++◌, length, get_or, take, drop, refl, ap, sym, ◌∙◌, arith}
use Rattle.std.specs.Prelude.{filter}
use Rattle.std.specs.List.{flat_map}
use Rattle.std.proofs.Math.Seq.{take-append_seam, drop-append-add}
use Rattle.std.proofs.lemmas.Bool.{cases_Bool, cases_eq, cases_lt, true≢false, and_parts}
use Rattle.std.proofs.lemmas.Bool.Decides.{nat_tests}
use Rattle.std.proofs.lemmas.Grind.{flat_map-append}
use Rattle.std.proofs.lemmas.List.{append-nil, get_or-map, get_or-take, length-append, drop-drop, drop_all, length-drop, length-map, length-take, take_all, take_more}
use Rattle.std.proofs.lemmas.List.Folds.{length-flat_map-take}
use Rattle.kc_graph.specs.Numbers.{has_number, RisesFrom}
use Rattle.kc_graph.specs.Shape.{neighbours_of}
use Rattle.kc_graph.proofs.lemmas.Numbers.{has_number_at, rises_filter}
use Rattle.kc_graph.proofs.lemmas.Neighbours.{neighbour_below, neighbours_rise}
use Rattle.kc_adj.specs.declared.passes.Visit.{Visit}
use Rattle.kc_adj.specs.private.Lifting.{LiftShape, IsLift, is_unmoved, gains, AreGained, HaveGained}
use Rattle.kc_adj.specs.private.Moving.{is_passed}
use Rattle.kc_adj.specs.declared.passes.Passed.{Passed}
use Rattle.kc_adj.specs.private.Passing.{is_touched, touched_by, visit_of, ArePassed}

has_number-filter : (u : ℕ) (p : ℕ → Bool) (xs : List ℕ) → has_number u (filter p xs) ≡ has_number u xs && p u
has_number-filter u p [] = refl
has_number-filter u p (x ∷ xs) = elim (cases_eq x u) [
  | inl e ↦ rw e (grind (arith, nat_tests, has_number-filter u p xs))
  | inr ne ↦ grind (arith, nat_tests, has_number-filter u p xs, ne)
]

-- who isn't touched counts from no level that is passed
untouched : (s : Bool) (k l r d : ℕ) → d ≤ 1 → s && (ltb k r && leb (r - 1) l) ≡ false → ◌≡◌ {A = ℕ} (cond (s && (ltb k (r - d) && leb (r - d) l)) 1 0) 0
untouched s k l r d one off = elim (cases_Bool (s && (ltb k (r - d) && leb (r - d) l))) [
  | inl passed ↦ absurd (true≢false (sym (reaches passed) ∙ off))
  | inr none ↦ ap (λ t. cond t 1 0) none
]
  where
    reaches : s && (ltb k (r - d) && leb (r - d) l) ≡ true → s && (ltb k r && leb (r - 1) l) ≡ true
    reaches e = grind (arith, nat_tests, e, one)

-- whom v touches
module _ (lift : LiftShape) (v : ℕ) (is : IsLift lift) where
  abbrev test : ℕ → Bool
  test = is_touched lift (get_or lift.old v 0) (get_or lift.new v 0)

  abbrev near : List ℕ
  near = neighbours_of v lift.graph.edges

  pub touched_rise : RisesFrom 0 (touched_by lift v)
  touched_rise = rises_filter 0 test near (neighbours_rise lift.graph.vertices v lift.graph.edges is.graph)

  at_place : (i : ℕ) → i < length (touched_by lift v) → (has_number (get_or (touched_by lift v) i 0) near ≡ true) × (test (get_or (touched_by lift v) i 0) ≡ true)
  at_place i at = and_parts _ _ (sym (has_number-filter (get_or (touched_by lift v) i 0) test near) ∙ has_number_at (get_or (touched_by lift v) i 0) (touched_by lift v) i at refl)

  pub touched_is : (touched : List ℕ) (i : ℕ) → touched ≡ touched_by lift v → i < length touched → (get_or touched i 0 < lift.graph.vertices) × (is_unmoved lift (get_or touched i 0) ≡ true)
  touched_is touched i e at =
      let here = at_place i (rw e at at) in
      rw e (neighbour_below lift.graph.vertices v (get_or (touched_by lift v) i 0) lift.graph.edges is.graph here.0, (and_parts _ _ here.1).0)

  -- who isn't touched gains nothing
  pub gained_by_touched : (d : ℕ) (before counts : List ℕ) → d ≤ 1 → AreGained (gains lift (get_or lift.old v 0) (get_or lift.new v 0) d) (touched_by lift v) before counts → HaveGained lift v d before counts
  gained_by_touched d before counts one s = record {
    sized = s.sized;
    values = λ u. s.values u ∙ ap (λ k. get_or before u 0 + k) (ap (λ t. cond t (gains lift (get_or lift.old v 0) (get_or lift.new v 0) d u) 0) (has_number-filter u test near) ∙ same u (has_number u near));
  }
    where
      same : (u : ℕ) (there : Bool) → cond (there && test u) (gains lift (get_or lift.old v 0) (get_or lift.new v 0) d u) 0 ≡ cond there (gains lift (get_or lift.old v 0) (get_or lift.new v 0) d u) 0
      same u false = refl
      same u true = elim (cases_Bool (test u)) [
        | inl on ↦ rw on refl
        | inr off ↦ rw off (sym (untouched (is_unmoved lift u) (get_or lift.old v 0) (get_or lift.new v 0) (get_or lift.new u 0) d one off))
      ]

-- what one who stays gains
pub gains_stays : (lift : LiftShape) (k l d u c reach : ℕ) → is_unmoved lift u ≡ true → reach ≡ get_or lift.new u 0 - d → c + cond (is_passed k l reach) 1 0 ≡ c + gains lift k l d u
gains_stays lift k l d u c reach on is = ap (λ r. c + cond (is_passed k l r) 1 0) is ∙ ap (λ t. c + cond (t && is_passed k l (get_or lift.new u 0 - d)) 1 0) (sym on)

-- what a function gives at the place i of a list, in the list of all that it gives, and where the next begins
module _ (f : ℕ → List ℕ) where
  pub piece_next : (xs : List ℕ) (i : ℕ) → i < length xs → length (flat_map f (take i xs)) + length (f (get_or xs i 0)) ≡ length (flat_map f (take (i + 1) xs))
  piece_next xs i at = sym (ap (λ ys. length (flat_map f ys)) (take_more xs i 0 at) ∙ ap length (flat_map-append f (take i xs) (get_or xs i 0 ∷ [])) ∙ length-append (flat_map f (take i xs)) (f (get_or xs i 0) ++ []) ∙ ap (λ ys. length (flat_map f (take i xs)) + length ys) (append-nil (f (get_or xs i 0))))

  pub piece_within : (xs : List ℕ) (i : ℕ) → i < length xs → length (flat_map f (take i xs)) + length (f (get_or xs i 0)) ≤ length (flat_map f xs)
  piece_within xs i at = length-flat_map-take f xs i 0 at

  pub piece_at : (xs : List ℕ) (i : ℕ) → i < length xs → take (length (f (get_or xs i 0))) (drop (length (flat_map f (take i xs))) (flat_map f xs)) ≡ f (get_or xs i 0)
  piece_at [] i at = absurd (omega arith)
  piece_at (x ∷ xs) zero at = take-append_seam (f x) (flat_map f xs)
  piece_at (x ∷ xs) (suc i) at =
      ap (λ n. take (length (f (get_or xs i 0))) (drop n (f x ++ flat_map f xs))) (length-append (f x) (flat_map f (take i xs)))
      ∙ ap (take (length (f (get_or xs i 0)))) (drop-append-add (f x) (flat_map f xs) (length (flat_map f (take i xs))))
      ∙ piece_at xs i (omega arith)

-- the visit at the place i of those at the first vertices of a list, and the vertices that it touches, from `place` on
pub record IsVisit (lift : LiftShape) (vertices touched : List ℕ) (all i place : ℕ) (t : Visit) : Type 0 where
  pub here : i < length vertices
  pub is : t ≡ visit_of lift (get_or vertices i 0)
  pub next : place + t.touched ≡ length (flat_map (touched_by lift) (take (i + 1) (take all vertices)))
  pub within : place + t.touched ≤ length touched
  pub run : (run : List ℕ) → run ≡ take t.touched (drop place touched) → run ≡ touched_by lift (get_or vertices i 0)

module _ (lift : LiftShape) (vertices : List ℕ) (r : Passed) (i place : ℕ) (t : Visit) (s : ArePassed lift (take (length r.visits.items) vertices) r) (at : i < length r.visits.items) (e : t ≡ get_or r.visits.items i t) (place_is : place ≡ length (flat_map (touched_by lift) (take i (take (length r.visits.items) vertices)))) where
  abbrev first : List ℕ
  first = take (length r.visits.items) vertices

  in_first : i < length first
  in_first = omega (arith, at, ap (λ (ts : List Visit). length ts) s.visits, length-map first (visit_of lift))

  inside_list : i < length vertices
  inside_list = omega (arith, in_first, length-take (length r.visits.items) vertices)

  same : get_or first i 0 ≡ get_or vertices i 0
  same = get_or-take (length r.visits.items) vertices i 0 at

  it_is : t ≡ visit_of lift (get_or vertices i 0)
  it_is = e ∙ ap (λ (ts : List Visit). get_or ts i t) s.visits ∙ get_or-map (visit_of lift) first i 0 t in_first ∙ ap (visit_of lift) same

  count : t.touched ≡ length (touched_by lift (get_or first i 0))
  count = ap (λ (k : Visit). k.touched) it_is ∙ ap (λ v. length (touched_by lift v)) (sym same)

  pub visit_at : IsVisit lift vertices r.touched.items (length r.visits.items) i place t
  visit_at = record {
    here = inside_list;
    is = it_is;
    next = omega (arith, place_is, count, piece_next (touched_by lift) first i in_first);
    within = omega (arith, place_is, count, piece_within (touched_by lift) first i in_first, ap (λ (vs : List ℕ). length vs) s.touched);
    run = λ run run_is. run_is ∙ rw (count, place_is, s.touched) (piece_at (touched_by lift) first i in_first) ∙ ap (touched_by lift) same;
  }

pub visit_is : (a b c k l m : ℕ) → a ≡ k → b ≡ l → c ≡ m → ◌≡◌ {A = Visit} (record { own = a; below = b; touched = c }) (record { own = k; below = l; touched = m })
visit_is a b c k l m e f h = rw (e, f, h) refl

-- at the end of a row the numbers kept are all that pass
pub looked : (q : ℕ → Bool) (row old items : List ℕ) (i end : ℕ) → length row ≤ i → end ≤ length items → take end items ≡ old ++ filter q (take i row) → (take end items ≡ old ++ filter q row) × (end - length old ≡ length (filter q row)) × (length old ≤ end)
looked q row old items i end all within is =
    let whole : take end items ≡ old ++ filter q row = is ∙ ap (λ ws. old ++ filter q ws) (take_all i row all) in
    let long : end ≡ length old + length (filter q row) = omega (arith, length-take end items, ap (λ ws. length ws) whole, length-append old (filter q row), within) in
    (whole, omega (arith, long), omega (arith, long))

-- the vertices that follow a piece
pub rest_next : (size k m : ℕ) (xs rest : List ℕ) → rest ≡ drop (k * size) xs → m ≡ length (take size rest) → drop m rest ≡ drop ((k + 1) * size) xs
rest_next size k m xs rest is long = elim (cases_lt size (length rest)) [
  | inl lt ↦
      let whole : m ≡ size = omega (arith, long, length-take size rest, lt) in
      rw (whole, is) (drop-drop size (k * size) xs ∙ ap (λ n. drop n xs) next)
  | inr ge ↦
      let all : length rest ≤ m = omega (arith, long, length-take size rest, ge) in
      let end : length xs ≤ (k + 1) * size = omega (arith, ap (λ ys. length ys) is, length-drop (k * size) xs, ge, next) in
      drop_all m rest all ∙ sym (drop_all ((k + 1) * size) xs end)
]
  where
    next : k * size + size ≡ (k + 1) * size
    next = omega arith

-- the rest of a list from a place on, as a slice
pub rest_is : (m n : ℕ) (xs : List ℕ) → m ≡ n → take (length xs - m) (drop m xs) ≡ drop n xs
rest_is m n xs is = rw is (take_all (length xs - n) (drop n xs) (omega (arith, length-drop n xs)))

-- the pieces cover the list
pub pieces_cover : (n i size : ℕ) → 0 < size → i ≡ n / size + min 1 (n % size) → n ≤ i * size
pieces_cover n i size some count = grind arith
