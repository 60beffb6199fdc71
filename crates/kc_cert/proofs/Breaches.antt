-- One vertex of a certificate, by the counts of its neighbours.
use Rattle.std.proofs.Common.{ℕ, ◌-◌, ◌<◌, ◌≤◌, ◌≡◌, List, get_or, leb, refl, ◌∙◌, arith}
use Rattle.std.specs.Prelude.{count_by}
use Rattle.std.proofs.lemmas.Bool.Decides.{nat_tests}
use Rattle.kc_graph.specs.Shape.{GraphShape, neighbours_of}
use Rattle.kc_levels.specs.declared.profile.Profile.{Profile}
use Rattle.kc_levels.specs.Thresholds.{low, high, group_of}
use Rattle.kc_levels.specs.LevelList.{at_least, IsHeld}
use Rattle.kc_cert.specs.declared.certificate.Certificate.{Certificate}
use Rattle.kc_cert.specs.Verdicts.{HasUpper, HasLower}

-- the count over the neighbours of v
pub count_is : (g : GraphShape) (x levels neighbours : List ℕ) (v l count : ℕ) → neighbours ≡ neighbours_of v g.edges → levels ≡ x → count ≡ count_by (λ w. leb l (get_or levels w 0)) neighbours → count ≡ at_least g x v l
unfolding at_least
count_is g x levels neighbours v l count n_is x_is e = e ∙ rw (n_is, x_is) refl

-- the bound of a group, by the thresholds
pub bound_is : (f : Profile → ℕ → ℕ) (p q : Profile) (m n level group bound : ℕ) → p ≡ q → m ≡ n → group ≡ group_of p m level → bound ≡ f p group → bound ≡ f q (group_of q n level)
bound_is f p q m n level group bound e k g b = b ∙ rw (g, e, k) refl

pub meets_upper : (cert : Certificate) (v level up bound : ℕ) → level ≡ get_or cert.levels v 0 → up ≡ at_least cert.graph cert.levels v level → bound ≡ high cert.profile (group_of cert.profile cert.graph.vertices level) → up ≤ bound → HasUpper cert v
meets_upper cert v level up bound l u b le = rw (← l, ← u, ← b) le

pub breaks_upper : (cert : Certificate) (v level up bound : ℕ) → level ≡ get_or cert.levels v 0 → up ≡ at_least cert.graph cert.levels v level → bound ≡ high cert.profile (group_of cert.profile cert.graph.vertices level) → bound < up → ¬ (HasUpper cert v)
breaks_upper cert v level up bound l u b lt meets = let le : up ≤ bound = rw (← l, ← u, ← b) at meets in omega (arith, le, lt)

held : (p : Profile) (g : GraphShape) (x : List ℕ) (v level : ℕ) → 0 < level → low p (group_of p g.vertices (level - 1)) ≤ at_least g x v (level - 1) → IsHeld p g x v level
held p g x v level some h = grind (arith, nat_tests)

not_held : (p : Profile) (g : GraphShape) (x : List ℕ) (v level : ℕ) → 0 < level → at_least g x v (level - 1) < low p (group_of p g.vertices (level - 1)) → ¬ (IsHeld p g x v level)
not_held p g x v level some h k = grind (arith, nat_tests)

pub meets_lower_at_zero : (cert : Certificate) (v level : ℕ) → level ≡ get_or cert.levels v 0 → level ≡ 0 → HasLower cert v
meets_lower_at_zero cert v level l e = rw (← l, e) tt

pub meets_lower : (cert : Certificate) (v level down bound : ℕ) → level ≡ get_or cert.levels v 0 → 0 < level → down ≡ at_least cert.graph cert.levels v (level - 1) → bound ≡ low cert.profile (group_of cert.profile cert.graph.vertices (level - 1)) → bound ≤ down → HasLower cert v
meets_lower cert v level down bound l some d b le = rw (← l) (held cert.profile cert.graph cert.levels v level some (rw (← d, ← b) le))

pub breaks_lower : (cert : Certificate) (v level down bound : ℕ) → level ≡ get_or cert.levels v 0 → 0 < level → down ≡ at_least cert.graph cert.levels v (level - 1) → bound ≡ low cert.profile (group_of cert.profile cert.graph.vertices (level - 1)) → down < bound → ¬ (HasLower cert v)
breaks_lower cert v level down bound l some d b lt meets = not_held cert.profile cert.graph cert.levels v level some (rw (← d, ← b) lt) (rw (← l) at meets)
