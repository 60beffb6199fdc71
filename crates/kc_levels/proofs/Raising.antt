-- Raising: what a rise keeps, whatever the order of the rises, and that it leads to the one raised list.
use Rattle.std.proofs.Common.{ℕ, ◌+◌, ◌-◌, ◌*◌, ◌≤◌, ◌<◌, ◌≡◌, ◌⊎◌, inl, inr, List, length, get_or, set, ap, sym, ◌∙◌, arith, sum}
use Rattle.std.proofs.lemmas.Bool.{cases_lt}
use Rattle.std.proofs.lemmas.List.{length-set}
use Rattle.std.proofs.lemmas.List.Elements.{All-set, All-from_get_or}
use Rattle.std.proofs.lemmas.List.Sums.{sum_by-set, sum_by-le}
use Rattle.std.proofs.lemmas.Grind.{same_number_lists}
use Rattle.std.proofs.lemmas.Bool.Decides.{nat_tests}
use Rattle.kc_graph.specs.Shape.{GraphShape, IsGraph}
use Rattle.kc_levels.specs.declared.profile.Profile.{Profile}
use Rattle.kc_levels.specs.Thresholds.{high, top_level, group_of, last_group}
use Rattle.kc_levels.specs.LevelList.{at_least, MeetsUpper, IsCapped, IsRaisable, IsRaised}
use Rattle.kc_levels.specs.private.LevelList.{IsRaising}
use Rattle.kc_levels.proofs.Groups.{group_of-top, high-last_group}
use Rattle.kc_levels.proofs.Places.{changed}
use Rattle.kc_levels.proofs.AtLeast.{at_least-mono, at_least-few}

-- the last group allows every number of neighbours that there may be
pub top_allows : (p : Profile) (n l count : ℕ) → l ≡ top_level p n → count < n → count ≤ high p (group_of p n l)
top_allows p n l count e few =
    let last : group_of p n l ≡ last_group p n = ap (group_of p n) e ∙ group_of-top p n (omega arith) in
    rw last (omega (arith, high-last_group p n))

-- so a level that does not allow them is below the top
pub below_top : (p : Profile) (n l count : ℕ) → l ≤ top_level p n → count < n → high p (group_of p n l) < count → l < top_level p n
below_top p n l count capped few breach = elim (cases_lt l (top_level p n)) [
  | inl lt ↦ lt
  | inr ge ↦ absurd (omega (arith, top_allows p n l count (omega arith) few))
]

-- a vertex on the top level breaks nothing
pub top_meets_upper : (p : Profile) (g : GraphShape) (x : List ℕ) (v : ℕ) → IsGraph g → v < g.vertices → get_or x v 0 ≡ top_level p g.vertices → MeetsUpper p g x v
top_meets_upper p g x v graph h e = top_allows p g.vertices (get_or x v 0) (at_least g x v (get_or x v 0)) e (at_least-few g x v (get_or x v 0) graph h)

pub breach_below_top : (p : Profile) (g : GraphShape) (x : List ℕ) (v : ℕ) → IsGraph g → v < g.vertices → get_or x v 0 ≤ top_level p g.vertices → ¬ (MeetsUpper p g x v) → get_or x v 0 < top_level p g.vertices
breach_below_top p g x v graph h capped breach = grind (arith, nat_tests, top_meets_upper)

-- the list that raising begins with
pub raising_first : (p : Profile) (g : GraphShape) (x : List ℕ) → length x ≡ g.vertices → IsCapped p g.vertices x → IsRaising p g x x
raising_first p g x long capped = record { sized = long; from = λ v h. omega arith; capped = capped; least = λ z r. r.from }

-- a level that breaks Upper in a list is left by every greater list that is raisable
leaves : (p : Profile) (g : GraphShape) (x y z : List ℕ) (v : ℕ) → IsRaising p g x y → v < g.vertices → ¬ (MeetsUpper p g y v) → IsRaisable p g x z → get_or y v 0 < get_or z v 0
leaves p g x y z v r h breach raisable = grind (arith, nat_tests, at_least-mono, r.least, r.sized, raisable.upper)

-- a vertex that breaks Upper rises by one level
pub raising_more : (p : Profile) (g : GraphShape) (x y : List ℕ) (v : ℕ) → IsGraph g → IsRaising p g x y → v < g.vertices → ¬ (MeetsUpper p g y v) → IsRaising p g x (set y v (get_or y v 0 + 1))
raising_more p g x y v graph r h breach = record {
  sized = length-set y v (get_or y v 0 + 1) ∙ r.sized;
  from = λ w at. changed y v (get_or y v 0 + 1) inside (λ u l. get_or x u 0 ≤ l) w (omega (arith, r.from v h)) (λ ne. r.from w at);
  capped = λ w at. changed y v (get_or y v 0 + 1) inside (λ u l. l ≤ top_level p g.vertices) w (omega (arith, breach_below_top p g y v graph h (r.capped v h) breach)) (λ ne. r.capped w at);
  least = λ z raisable w at. changed y v (get_or y v 0 + 1) inside (λ u l. l ≤ get_or z u 0) w (omega (arith, leaves p g x y z v r h breach raisable)) (λ ne. r.least z raisable w at);
}
  where
    inside : v < length y
    inside = omega (arith, r.sized)

-- many vertices that break Upper rise by one level at once
pub raising_many : (p : Profile) (g : GraphShape) (x y z : List ℕ) → IsGraph g → IsRaising p g x y → length z ≡ g.vertices → ((v : ℕ) → v < g.vertices → (get_or z v 0 ≡ get_or y v 0) ⊎ ((get_or z v 0 ≡ get_or y v 0 + 1) × ¬ (MeetsUpper p g y v))) → IsRaising p g x z
raising_many p g x y z graph r long moves = record {
  sized = long;
  from = λ v h. elim (moves v h) [ inl e ↦ omega (arith, r.from v h) | inr m ↦ omega (arith, m.0, r.from v h) ];
  capped = λ v h. elim (moves v h) [ inl e ↦ omega (arith, r.capped v h) | inr m ↦ omega (arith, m.0, breach_below_top p g y v graph h (r.capped v h) m.1) ];
  least = λ w raisable v h. grind (arith, nat_tests, leaves, r.least);
}

-- raising ends where no vertex breaks Upper
pub raising_done : (p : Profile) (g : GraphShape) (x y : List ℕ) → IsRaising p g x y → ((v : ℕ) → v < g.vertices → MeetsUpper p g y v) → IsRaised p g x y
raising_done p g x y r upper = record { raisable = record { sized = r.sized; from = r.from; capped = r.capped; upper = upper }; least = r.least }

-- two lists raised from one are one
pub raised_same : (p : Profile) (g : GraphShape) (x y z : List ℕ) → IsRaised p g x y → IsRaised p g x z → y ≡ z
raised_same p g x y z r s =
    same_number_lists y z (r.raisable.sized ∙ sym s.raisable.sized)
    (λ v h. let at : v < g.vertices = omega (arith, r.raisable.sized) in omega (arith, r.least z s.raisable v at, s.least y r.raisable v at))

-- how many rises of one level there may still be
abbrev pub room : Profile → GraphShape → List ℕ → ℕ
room p g y = g.vertices * top_level p g.vertices - sum y

rises_left : (n top : ℕ) (y : List ℕ) (v : ℕ) → length y ≡ n → ((w : ℕ) → w < n → get_or y w 0 ≤ top) → v < n → get_or y v 0 < top → n * top - sum (set y v (get_or y v 0 + 1)) < n * top - sum y
rises_left n top y v long capped h low =
    let more : sum (set y v (get_or y v 0 + 1)) + get_or y v 0 ≡ sum y + (get_or y v 0 + 1) = sum_by-set (λ x. x) y v (get_or y v 0 + 1) 0 (omega arith) in
    let new_long : length (set y v (get_or y v 0 + 1)) ≡ n = length-set y v (get_or y v 0 + 1) ∙ long in
    let bound : sum (set y v (get_or y v 0 + 1)) ≤ length (set y v (get_or y v 0 + 1)) * top = sum_by-le (λ x. x) top (set y v (get_or y v 0 + 1)) (λ k d at. within k d at) in
    let bound' : sum (set y v (get_or y v 0 + 1)) ≤ n * top = rw new_long at bound in
    omega arith
  where
    within : (k d : ℕ) → k < length (set y v (get_or y v 0 + 1)) → get_or (set y v (get_or y v 0 + 1)) k d ≤ top
    within = All-set (λ l. l ≤ top) y v (get_or y v 0 + 1) (omega arith) (All-from_get_or (λ l. l ≤ top) y 0 (λ i at. capped i (omega arith)))

pub room_falls : (p : Profile) (g : GraphShape) (x y : List ℕ) (v : ℕ) → IsGraph g → IsRaising p g x y → v < g.vertices → ¬ (MeetsUpper p g y v) → room p g (set y v (get_or y v 0 + 1)) + 1 ≤ room p g y
room_falls p g x y v graph r h breach =
    let left = rises_left g.vertices (top_level p g.vertices) y v r.sized r.capped h (breach_below_top p g y v graph h (r.capped v h) breach) in
    omega arith
