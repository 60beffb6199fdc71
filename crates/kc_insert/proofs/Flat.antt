-- The counts of all ranges, one after another, are those of the vertices in order.
use Rattle.std.proofs.Common.{ℕ, suc, zero, ◌+◌, ◌-◌, ◌*◌, ◌/◌, ◌≤◌, ◌<◌, ◌≡◌, inl, inr, List, [], ◌∷◌, ◌++◌, min, length, get_or, take, add-one, refl, ap, sym, subst, ◌∙◌, arith}
use Rattle.std.specs.List.{flat_map}
use Rattle.std.proofs.lemmas.Bool.{cases_lt}
use Rattle.std.proofs.lemmas.Nat.{div-mul-add}
use Rattle.std.proofs.lemmas.List.{length-append, take_more, take_all, append-nil}
use Rattle.std.proofs.lemmas.List.Concat.{get_or-flat_map}
use Rattle.std.proofs.lemmas.Grind.{flat_map-append}
use Rattle.std.proofs.Math.Nat.{div-mul-le_self, lt-div-mul-add, suc-mul}
use Rattle.std.proofs.lemmas.Bool.Decides.{nat_tests}
use Rattle.kc_insert.specs.Ranges.{counts_of, Cut, IsCut, HasVertex, no_part, Part, part_at, part_of, range_of}
use Rattle.kc_insert.specs.private.Ranges.{count_of}

module _ (n levels : ℕ) (r : Cut) (s : IsCut n levels r) where
  abbrev wide : ℕ
  wide = r.width

  -- where a range of n vertices ends, if it is the one before the place j
  abbrev upto : ℕ → ℕ
  upto j = min n (j * wide)

  next : (j : ℕ) → (j + 1) * wide ≡ j * wide + wide
  next j = ap (λ k. k * wide) (add-one j) ∙ suc-mul j wide

  -- the vertices of a range
  from_place : (j v : ℕ) → range_of r.width v ≡ j → (j * wide ≤ v) × (v < j * wide + wide)
  from_place j v here = grind (arith, nat_tests, div-mul-le_self, lt-div-mul-add, s.wide)

  to_place : (j v : ℕ) → j * wide ≤ v → v < j * wide + wide → range_of r.width v ≡ j
  to_place j v low high_ = ap (λ k. k / wide) (omega (arith, low)) ∙ div-mul-add j wide (v - j * wide) (omega (arith, low, high_))

  holds : (j v : ℕ) → j * wide ≤ v → v < j * wide + wide → v < n → HasVertex (part_at r j).watch v
  holds j v low high_ h = subst (λ k. HasVertex (part_at r k).watch v) (to_place j v low high_) (s.vertex v h).held

  -- the first vertex of a range that has some
  first_is : (j : ℕ) → j < length r.parts → j * wide < n → (part_at r j).watch.first ≡ j * wide
  first_is j at some =
      let held = holds j (j * wide) (omega arith) (omega (arith, s.wide)) some in
      elim (cases_lt (part_at r j).watch.first (j * wide)) [
        | inr ge ↦ omega (arith, ge, held.from)
        | inl lt ↦
            let it = s.own j (j * wide - 1) at (record { from = omega (arith, lt); below = omega (arith, held.below, lt) }) in
            absurd (omega (arith, (from_place j (j * wide - 1) it.1).0, lt))
      ]

  -- how many vertices a range has
  size_is : (j : ℕ) → j < length r.parts → upto j + length (part_at r j).watch.counts ≡ upto (j + 1)
  size_is j at = elim (cases_lt (j * wide) n) [
    | inl some ↦
        let begins = first_is j at some in
        let here = holds j (j * wide) (omega arith) (omega (arith, s.wide)) some in
        let it = s.own j ((part_at r j).watch.first + length (part_at r j).watch.counts - 1) at (record { from = omega (arith, here.from, here.below); below = omega (arith, here.from, here.below) }) in
        let most = (from_place j _ it.1).1 in
        elim (cases_lt n (j * wide + wide)) [
          | inl short ↦
              let last = holds j (n - 1) (omega (arith, some)) (omega (arith, short, some)) (omega (arith, some)) in
              omega (arith, begins, last.below, it.0, next j, short, some, here.below, here.from)
          | inr long ↦
              let last = holds j (j * wide + wide - 1) (omega (arith, s.wide)) (omega (arith, s.wide)) (omega (arith, long, s.wide)) in
              omega (arith, begins, last.below, most, next j, long, s.wide, here.below, here.from)
        ]
    | inr none ↦
        let empty : length (part_at r j).watch.counts ≡ 0 = elim (cases_lt 0 (length (part_at r j).watch.counts)) [
          | inr no_ ↦ omega (arith, no_)
          | inl yes_ ↦
              let it = s.own j (part_at r j).watch.first at (record { from = omega arith; below = omega (arith, yes_) }) in
              absurd (omega (arith, (from_place j (part_at r j).watch.first it.1).0, it.0, none))
        ] in
        omega (arith, empty, none, next j)
  ]

  abbrev counts_in : ℕ → List ℕ
  counts_in i = flat_map (λ (p : Part). p.watch.counts) (take i r.parts)

  length_in : (i : ℕ) → i ≤ length r.parts → length (counts_in i) ≡ upto i
  length_in zero h = omega (arith)
  length_in (suc i) h =
      let more : counts_in (suc i) ≡ counts_in i ++ (part_at r i).watch.counts = rw (← add-one i) (ap (flat_map (λ (p : Part). p.watch.counts)) (take_more r.parts i no_part (omega (arith, h))) ∙ flat_map-append (λ (p : Part). p.watch.counts) (take i r.parts) (part_at r i ∷ []) ∙ ap (λ xs. counts_in i ++ xs) (append-nil (part_at r i).watch.counts)) in
      omega (arith, ap length more, length-append (counts_in i) (part_at r i).watch.counts, length_in i (omega (arith, h)), size_is i (omega (arith, h)), add-one i, ap upto (add-one i))

  enough : n ≤ length r.parts * wide
  enough = grind (arith, nat_tests, cases_lt (length r.parts * wide) n, to_place, s.wide, s.vertex)

  pub length_counts : length (counts_of r) ≡ n
  length_counts = ap (λ (ps : List Part). length (flat_map (λ (p : Part). p.watch.counts) ps)) (sym (take_all (length r.parts) r.parts (omega arith))) ∙ length_in (length r.parts) (omega arith) ∙ omega (arith, enough)

  pub count_is : (v : ℕ) → v < n → get_or (counts_of r) v 0 ≡ count_of r v
  count_is v h =
      let at = s.vertex v h in
      let here = from_place (range_of r.width v) v refl in
      let begins = first_is (range_of r.width v) at.place (omega (arith, here.0, h)) in
      ap (λ k. get_or (counts_of r) k 0) (omega (arith, length_in (range_of r.width v) (omega (arith, at.place)), here.0, h, begins, at.held.from))
      ∙ get_or-flat_map (λ (p : Part). p.watch.counts) r.parts (range_of r.width v) (v - (part_of r v).watch.first) no_part 0 at.place (omega (arith, at.held.from, at.held.below))
