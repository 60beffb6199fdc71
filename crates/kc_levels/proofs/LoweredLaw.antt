-- Exactly one list is lowered; level 0 is lowerable, and so is the greater of two lowerable lists.
use Rattle.std.proofs.Common.{ℕ, suc, zero, ◌+◌, ◌≤◌, ◌<◌, ◌≡◌, ◌⊎◌, inl, inr, List, [], ◌∷◌, length, get_or, set, replicate, refl, ap, sym, ◌∙◌, arith, subst, sum}
use Rattle.std.specs.Prelude.{max}
use Rattle.std.proofs.lemmas.Bool.{cases_lt, cases_eq}
use Rattle.std.proofs.lemmas.List.{length-replicate, get_or-replicate}
use Rattle.std.proofs.lemmas.List.Sums.{sum_by-set}
use borrow.Author.Count.{below_more}
use Rattle.kc_graph.specs.Shape.{GraphShape}
use Rattle.kc_levels.specs.declared.profile.Profile.{Profile}
use Rattle.kc_levels.specs.LevelList.{IsBelow, IsHeld, MeetsLower, IsDesired, IsLowered}
use Rattle.kc_levels.specs.private.LevelList.{IsLowering}
use Rattle.kc_levels.specs.Laws.{LoweredIsOneList, ZerosAreLowerable, GreaterIsLowerable, greater}
use Rattle.kc_levels.proofs.Lowering.{held_mono, held_or_not, lowering_first, lowering_more, lowering_done, lowered_same}

-- some vertex below n breaks Lower, or none does
pub breach_or_none : (p : Profile) (g : GraphShape) (y : List ℕ) (n : ℕ) → ((v : ℕ) × (v < n) × ¬ (MeetsLower p g y v)) ⊎ ((v : ℕ) → v < n → MeetsLower p g y v)
breach_or_none p g y zero = inr (λ v h. absurd (omega arith))
breach_or_none p g y (suc n) = elim (breach_or_none p g y n) [
  | inl b ↦ inl (b.0, omega (arith, b.1), b.2)
  | inr all ↦ elim (held_or_not p g y n (get_or y n 0)) [
    | inl held ↦ inr (λ v h. below_more (λ u. MeetsLower p g y u) n all held v (omega arith))
    | inr breach ↦ inl (n, omega arith, breach)
  ]
]

-- the greatest level up to l on which v is held, where it is not held between l and its own level
desired_from : (p : Profile) (g : GraphShape) (y : List ℕ) (v l : ℕ) → l ≤ get_or y v 0 → ((k : ℕ) → l < k → k ≤ get_or y v 0 → ¬ (IsHeld p g y v k)) → (d : ℕ) × IsDesired p g y v d
desired_from p g y v zero le above = (0, record { under = le; held = tt; above = above })
desired_from p g y v (suc l) le above = elim (held_or_not p g y v (suc l)) [
  | inl held ↦ (suc l, record { under = le; held = held; above = above })
  | inr breach ↦ desired_from p g y v l (omega arith) (λ k lt top. elim (cases_eq k (suc l)) [ inl e ↦ rw e breach | inr ne ↦ above k (omega arith) top ])
]

falls : (p : Profile) (g : GraphShape) (x y : List ℕ) (v : ℕ) → IsLowering p g x y → v < g.vertices → ¬ (MeetsLower p g y v) → (z : List ℕ) × IsLowering p g x z × (sum z < sum y)
falls p g x y v r h breach =
    let d = desired_from p g y v (get_or y v 0) (omega arith) (λ k lt le. absurd (omega arith)) in
    let less : d.0 < get_or y v 0 = elim (cases_eq d.0 (get_or y v 0)) [ inl e ↦ absurd (breach (subst (IsHeld p g y v) e d.1.held)) | inr ne ↦ omega (arith, d.1.under) ] in
    let total : sum (set y v d.0) + get_or y v 0 ≡ sum y + d.0 = sum_by-set (λ l. l) y v d.0 0 (omega (arith, r.sized)) in
    (set y v d.0, lowering_more p g x y v d.0 r h d.1, omega arith)

lowered_from : (k : ℕ) (p : Profile) (g : GraphShape) (x y : List ℕ) → IsLowering p g x y → sum y ≤ k → (z : List ℕ) × IsLowered p g x z
lowered_from zero p g x y r left = elim (breach_or_none p g y g.vertices) [
  | inl b ↦ let f = falls p g x y b.0 r b.1 b.2 in absurd (omega (arith, f.2))
  | inr all ↦ (y, lowering_done p g x y r all)
]
lowered_from (suc k) p g x y r left = elim (breach_or_none p g y g.vertices) [
  | inl b ↦ let f = falls p g x y b.0 r b.1 b.2 in lowered_from k p g x f.0 f.1 (omega (arith, f.2))
  | inr all ↦ (y, lowering_done p g x y r all)
]

pub lowered_is_one_list : LoweredIsOneList
lowered_is_one_list p g x long =
    let there = lowered_from (sum x) p g x x (lowering_first p g x long) (omega arith) in
    (there.0, (there.1, λ z lowered. lowered_same p g x z there.0 lowered there.1))

pub zeros_are_lowerable : ZerosAreLowerable
zeros_are_lowerable p g x = record {
  sized = length-replicate g.vertices 0;
  under = λ v h. omega (arith, at v h);
  lower = λ v h. subst (IsHeld p g (replicate g.vertices 0) v) (sym (at v h)) tt;
}
  where
    at : (v : ℕ) → v < g.vertices → get_or {A = ℕ} (replicate g.vertices 0) v 0 ≡ 0
    at v h = get_or-replicate g.vertices v 0 0 h

length-greater : (y z : List ℕ) → length y ≡ length z → length (greater y z) ≡ length y
length-greater [] z same = refl
length-greater (a ∷ y) [] same = absurd (omega arith)
length-greater (a ∷ y) (b ∷ z) same = ap suc (length-greater y z (omega arith))

get_or-greater : (y z : List ℕ) (v : ℕ) → length y ≡ length z → get_or (greater y z) v 0 ≡ max (get_or y v 0) (get_or z v 0)
get_or-greater [] [] v same = refl
get_or-greater [] (b ∷ z) v same = absurd (omega arith)
get_or-greater (a ∷ y) [] v same = absurd (omega arith)
get_or-greater (a ∷ y) (b ∷ z) zero same = refl
get_or-greater (a ∷ y) (b ∷ z) (suc v) same = get_or-greater y z v (omega arith)

pub greater_is_lowerable : GreaterIsLowerable
greater_is_lowerable p g x y z r s = record {
  sized = length-greater y z same_length ∙ r.sized;
  under = λ v h. omega (arith, r.under v h, s.under v h, at v);
  lower = λ v h. elim (cases_lt (get_or z v 0) (get_or y v 0)) [
    | inl lt ↦ as_in y v r.sized (omega (arith, at v)) (r.lower v h) (λ w hw. omega (arith, at w))
    | inr ge ↦ as_in z v s.sized (omega (arith, at v)) (s.lower v h) (λ w hw. omega (arith, at w))
  ];
}
  where
    same_length : length y ≡ length z
    same_length = r.sized ∙ sym s.sized

    at : (v : ℕ) → get_or (greater y z) v 0 ≡ max (get_or y v 0) (get_or z v 0)
    at v = get_or-greater y z v same_length

    as_in : (u : List ℕ) (v : ℕ) → length u ≡ g.vertices → get_or (greater y z) v 0 ≡ get_or u v 0 → MeetsLower p g u v → IsBelow g.vertices u (greater y z) → MeetsLower p g (greater y z) v
    as_in u v long e meets below = subst (IsHeld p g (greater y z) v) (sym e) (held_mono p g u (greater y z) v (get_or u v 0) long below meets)
