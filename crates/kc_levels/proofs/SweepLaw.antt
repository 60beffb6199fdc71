-- The swept lists are the raised ones.
use Rattle.std.proofs.Common.{ℕ, suc, zero, ◌≤◌, ◌<◌, ◌≡◌, inl, inr, leb, List, length, get_or, set, ◌∙◌, arith, subst}
use Rattle.std.proofs.lemmas.List.{get_or_past, length-set, get_or-set_same}
use Rattle.std.proofs.lemmas.Bool.{cases_lt, cases_eq, leb-true, le-leb}
use Rattle.std.proofs.lemmas.Bool.Decides.{nat_tests}
use Rattle.kc_graph.specs.Shape.{GraphShape, IsGraph, neighbours_of}
use Rattle.kc_levels.specs.declared.profile.Profile.{Profile}
use Rattle.kc_levels.specs.Thresholds.{high, group_of, top_level}
use Rattle.kc_levels.specs.LevelList.{at_least, IsBelow, IsCapped, IsRaisable, IsRaised}
use Rattle.kc_levels.specs.Sweep.{IsSwept, SweptIsRaised}
use Rattle.kc_levels.proofs.Places.{changed}
use Rattle.kc_levels.proofs.AtLeast.{count_by-mono, at_least-mono}
use Rattle.kc_levels.proofs.Raising.{top_meets_upper}

-- counts from l on compare where the vertices on l or above do
at_least-sets : (g : GraphShape) (y z : List ℕ) (v l : ℕ) → ((w : ℕ) → l ≤ get_or y w 0 → l ≤ get_or z w 0) → at_least g y v l ≤ at_least g z v l
unfolding at_least
at_least-sets g y z v l more =
    count_by-mono (λ w. leb l (get_or y w 0)) (λ w. leb l (get_or z w 0)) (neighbours_of v g.edges) (λ w e. le-leb l (get_or z w 0) (more w (leb-true l (get_or y w 0) e)))

-- past the end there is only level 0
everywhere : (n l : ℕ) (y z : List ℕ) (w : ℕ) → length y ≡ n → ((v : ℕ) → v < n → l ≤ get_or y v 0 → l ≤ get_or z v 0) → l ≤ get_or y w 0 → l ≤ get_or z w 0
everywhere n l y z w long more at = grind (arith, nat_tests, get_or_past)

swept_from : (p : Profile) (g : GraphShape) (x y : List ℕ) → IsCapped p g.vertices x → IsSwept p g x y → IsBelow g.vertices x y
swept_from p g x y capped s v h = elim (cases_lt (get_or y v 0) (get_or x v 0)) [
  | inl lt ↦ absurd (omega (arith, s.stays v (get_or y v 0) h (omega (arith, capped v h)) (inl lt)))
  | inr ge ↦ omega arith
]

-- level after level, whoever is there by the swept list is there by every raisable one
swept_least : (p : Profile) (g : GraphShape) (x y z : List ℕ) → IsSwept p g x y → IsRaisable p g x z → (l v : ℕ) → v < g.vertices → l ≤ get_or y v 0 → l ≤ get_or z v 0
swept_least p g x y z s r zero v h at = omega arith
swept_least p g x y z s r (suc l) v h at = elim (s.climbs v l h (omega arith)) [
  | inl old ↦ omega (arith, r.from v h)
  | inr many ↦ elim (cases_eq (get_or z v 0) l) [
    | inl e ↦
        let more = at_least-sets g y z v l (λ w. everywhere g.vertices l y z w s.sized (λ u hu. swept_least p g x y z s r l u hu)) in
        let meets : at_least g z v l ≤ high p (group_of p g.vertices l) = subst (λ k. at_least g z v k ≤ high p (group_of p g.vertices k)) e (r.upper v h) in
        absurd (omega (arith, many.1, meets, more))
    | inr ne ↦ let over : l ≤ get_or z v 0 = swept_least p g x y z s r l v h (omega arith) in omega (arith, ne)
  ]
]

swept_raised : (p : Profile) (g : GraphShape) (x y : List ℕ) → IsGraph g → IsCapped p g.vertices x → IsSwept p g x y → IsRaised p g x y
swept_raised p g x y graph capped s = record {
  raisable = record {
    sized = s.sized;
    from = swept_from p g x y capped s;
    capped = s.capped;
    upper = λ v h. elim (cases_lt (get_or y v 0) (top_level p g.vertices)) [
      | inl lt ↦ elim (cases_lt (high p (group_of p g.vertices (get_or y v 0))) (at_least g y v (get_or y v 0))) [
        | inl many ↦ absurd (omega (arith, s.stays v (get_or y v 0) h lt (inr (omega arith, many))))
        | inr few ↦ few
      ]
      | inr ge ↦ top_meets_upper p g y v graph h (omega (arith, s.capped v h))
    ];
  };
  least = λ z r v h. swept_least p g x y z s r (get_or y v 0) v h (omega arith);
}

-- with v on a lower level l, where it has few enough neighbours, the list is still raisable
lower_raisable : (p : Profile) (g : GraphShape) (x y : List ℕ) (v l : ℕ) → IsRaisable p g x y → v < g.vertices → get_or x v 0 ≤ l → l < get_or y v 0 → at_least g y v l ≤ high p (group_of p g.vertices l) → IsRaisable p g x (set y v l)
lower_raisable p g x y v l r h old less few = record {
  sized = length-set y v l ∙ r.sized;
  from = λ w hw. changed y v l inside (λ u k. get_or x u 0 ≤ k) w old (λ ne. r.from w hw);
  capped = λ w hw. changed y v l inside (λ u k. k ≤ top_level p g.vertices) w (omega (arith, r.capped v h)) (λ ne. r.capped w hw);
  upper = λ w hw. changed y v l inside (λ u k. at_least g (set y v l) u k ≤ high p (group_of p g.vertices k)) w
      (omega (arith, few, at_least-mono g (set y v l) y v l (length-set y v l ∙ r.sized) under))
      (λ ne. omega (arith, r.upper w hw, at_least-mono g (set y v l) y w (get_or y w 0) (length-set y v l ∙ r.sized) under));
}
  where
    inside : v < length y
    inside = omega (arith, r.sized)

    under : IsBelow g.vertices (set y v l) y
    under w hw = changed y v l inside (λ u k. k ≤ get_or y u 0) w (omega arith) (λ ne. omega arith)

raised_swept : (p : Profile) (g : GraphShape) (x y : List ℕ) → IsRaised p g x y → IsSwept p g x y
raised_swept p g x y r = record {
  sized = r.raisable.sized;
  capped = r.raisable.capped;
  climbs = λ v l h less. elim (cases_lt l (get_or x v 0)) [
    | inl old ↦ inl old
    | inr new ↦ elim (cases_lt (high p (group_of p g.vertices l)) (at_least g y v l)) [
      | inl many ↦ inr (omega arith, many)
      | inr few ↦
          let wanted = lower_raisable p g x y v l r.raisable h new less few in
          let same : get_or (set y v l) v 0 ≡ l = get_or-set_same y v l 0 (omega (arith, r.raisable.sized)) in
          absurd (omega (arith, r.least (set y v l) wanted v h, same))
    ]
  ];
  stays = λ v l h top climbs. grind (arith, nat_tests, r.raisable.from, r.raisable.upper);
}

pub swept_is_raised : SweptIsRaised
swept_is_raised p g x y graph capped = (swept_raised p g x y graph capped, raised_swept p g x y)
