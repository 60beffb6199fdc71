-- Exactly one list is raised; the top is raisable, and so is the lesser of two raisable lists.
use Rattle.std.proofs.Common.{ℕ, suc, zero, ◌+◌, ◌≤◌, ◌<◌, ◌≡◌, ◌⊎◌, inl, inr, List, [], ◌∷◌, length, get_or, set, replicate, refl, ap, sym, ◌∙◌, arith}
use Rattle.std.specs.Prelude.{min}
use Rattle.std.proofs.lemmas.Bool.{cases_lt}
use Rattle.std.proofs.lemmas.List.{length-replicate, get_or-replicate}
use borrow.Author.Count.{below_more}
use Rattle.kc_graph.specs.Shape.{GraphShape, IsGraph}
use Rattle.kc_levels.specs.declared.profile.Profile.{Profile}
use Rattle.kc_levels.specs.Thresholds.{high, group_of, top_level}
use Rattle.kc_levels.specs.LevelList.{at_least, MeetsUpper, IsBelow, IsRaised}
use Rattle.kc_levels.specs.private.LevelList.{IsRaising}
use Rattle.kc_levels.specs.Laws.{RaisedIsOneList, TopIsRaisable, LesserIsRaisable, lesser}
use Rattle.kc_levels.proofs.AtLeast.{at_least-mono}
use Rattle.kc_levels.proofs.Raising.{room, raising_first, raising_more, raising_done, raised_same, room_falls, top_meets_upper}

-- some vertex below n breaks Upper, or none does
pub breach_or_none : (p : Profile) (g : GraphShape) (y : List ℕ) (n : ℕ) → ((v : ℕ) × (v < n) × ¬ (MeetsUpper p g y v)) ⊎ ((v : ℕ) → v < n → MeetsUpper p g y v)
breach_or_none p g y zero = inr (λ v h. absurd (omega arith))
breach_or_none p g y (suc n) = elim (breach_or_none p g y n) [
  | inl b ↦ inl (b.0, omega (arith, b.1), b.2)
  | inr all ↦ elim (cases_lt (high p (group_of p g.vertices (get_or y n 0))) (at_least g y n (get_or y n 0))) [
    | inl lt ↦ inl (n, omega arith, λ meets. absurd (omega (arith, meets)))
    | inr ge ↦ inr (λ v h. below_more (λ u. MeetsUpper p g y u) n all ge v (omega arith))
  ]
]

raised_from : (k : ℕ) (p : Profile) (g : GraphShape) (x y : List ℕ) → IsGraph g → IsRaising p g x y → room p g y ≤ k → (z : List ℕ) × IsRaised p g x z
raised_from zero p g x y graph r left = elim (breach_or_none p g y g.vertices) [
  | inl b ↦ absurd (omega (arith, room_falls p g x y b.0 graph r b.1 b.2))
  | inr all ↦ (y, raising_done p g x y r all)
]
raised_from (suc k) p g x y graph r left = elim (breach_or_none p g y g.vertices) [
  | inl b ↦ raised_from k p g x (set y b.0 (get_or y b.0 0 + 1)) graph (raising_more p g x y b.0 graph r b.1 b.2) (omega (arith, room_falls p g x y b.0 graph r b.1 b.2))
  | inr all ↦ (y, raising_done p g x y r all)
]

pub raised_is_one_list : RaisedIsOneList
raised_is_one_list p g x graph long capped =
    let there = raised_from (room p g x) p g x x graph (raising_first p g x long capped) (omega arith) in
    (there.0, (there.1, λ z raised. raised_same p g x z there.0 raised there.1))

pub top_is_raisable : TopIsRaisable
top_is_raisable p g x graph capped = record {
  sized = length-replicate g.vertices (top_level p g.vertices);
  from = λ v h. omega (arith, capped v h, on_top v h);
  capped = λ v h. omega (arith, on_top v h);
  upper = λ v h. top_meets_upper p g (replicate g.vertices (top_level p g.vertices)) v graph h (on_top v h);
}
  where
    on_top : (v : ℕ) → v < g.vertices → get_or (replicate g.vertices (top_level p g.vertices)) v 0 ≡ top_level p g.vertices
    on_top v h = get_or-replicate g.vertices v (top_level p g.vertices) 0 h

length-lesser : (y z : List ℕ) → length y ≡ length z → length (lesser y z) ≡ length y
length-lesser [] z same = refl
length-lesser (a ∷ y) [] same = absurd (omega arith)
length-lesser (a ∷ y) (b ∷ z) same = ap suc (length-lesser y z (omega arith))

get_or-lesser : (y z : List ℕ) (v : ℕ) → length y ≡ length z → get_or (lesser y z) v 0 ≡ min (get_or y v 0) (get_or z v 0)
get_or-lesser [] [] v same = refl
get_or-lesser [] (b ∷ z) v same = absurd (omega arith)
get_or-lesser (a ∷ y) [] v same = absurd (omega arith)
get_or-lesser (a ∷ y) (b ∷ z) zero same = refl
get_or-lesser (a ∷ y) (b ∷ z) (suc v) same = get_or-lesser y z v (omega arith)

pub lesser_is_raisable : LesserIsRaisable
lesser_is_raisable p g x y z r s = record {
  sized = length-lesser y z same_length ∙ r.sized;
  from = λ v h. omega (arith, r.from v h, s.from v h, at v);
  capped = λ v h. omega (arith, r.capped v h, at v);
  upper = λ v h. elim (cases_lt (get_or z v 0) (get_or y v 0)) [
    | inl lt ↦ as_in z v (omega (arith, at v)) (s.upper v h) (λ w hw. omega (arith, at w))
    | inr ge ↦ as_in y v (omega (arith, at v)) (r.upper v h) (λ w hw. omega (arith, at w))
  ];
}
  where
    same_length : length y ≡ length z
    same_length = r.sized ∙ sym s.sized

    at : (v : ℕ) → get_or (lesser y z) v 0 ≡ min (get_or y v 0) (get_or z v 0)
    at v = get_or-lesser y z v same_length

    as_in : (u : List ℕ) (v : ℕ) → get_or (lesser y z) v 0 ≡ get_or u v 0 → MeetsUpper p g u v → IsBelow g.vertices (lesser y z) u → MeetsUpper p g (lesser y z) v
    as_in u v e meets below =
        rw e (omega (arith, meets, at_least-mono g (lesser y z) u v (get_or u v 0) (length-lesser y z same_length ∙ r.sized) below))
