-- Levels that are read one after another.
use Rattle.std.proofs.Common.{ℕ, ◌+◌, ◌-◌, ◌≤◌, ◌<◌, ◌≡◌, Bool, true, List, [], ◌∷◌, ◌++◌, length, take, set, get_or, arith}
use Rattle.std.specs.Prelude.{Result, Ok, Err, if◌then◌else◌}
use Rattle.std.proofs.lemmas.Bool.Decides.{nat_tests}
use Rattle.std.proofs.lemmas.List.{length-take, get_or-set_same, get_or-set_other}
use Rattle.kc_graph.specs.Shape.{GraphShape}
use Rattle.kc_levels.specs.declared.profile.Profile.{Profile}
use Rattle.kc_levels.specs.Thresholds.{top_level}
use Rattle.kc_text.specs.declared.reason.Reason.{Reason}
use Rattle.kc_text.specs.declared.reason.Reason.TheVariants.{BadLine, BadVertex}
use Rattle.kc_cert.specs.declared.token.Kind.{Kind}
use Rattle.kc_cert.specs.Documents.{AtBody, level_of, onward, stage_after}

chosen : (inside next : Bool) (m l : ℕ) → (if inside then (if next then Ok m else Err BadLine) else Err BadVertex) ≡ Ok l → (next ≡ true) × (m ≡ l)
chosen inside next m l h = grind (arith, nat_tests)

-- a level that fits is at most the top
pub level_fits : (n top v : ℕ) (k : Kind) (l : ℕ) → level_of n top v k ≡ Ok l → l ≤ top
level_fits n top v k l h = grind (arith, nat_tests, chosen)

-- the stage after the level of vertex v
pub level_step : (p : Profile) (g : GraphShape) (xs : List ℕ) (a b v n top : ℕ) (k : Kind) (x : Result ℕ Reason) → n ≡ g.vertices → top ≡ top_level p g.vertices → length xs ≡ n → v < n → x ≡ level_of n top v k
    → stage_after (AtBody (record { profile = p; graph = g; levels = take v xs }) 0 a b (n - v)) k ≡ onward (λ l. AtBody (record { profile = p; graph = g; levels = take v xs ++ l ∷ [] }) 0 a b (n - (v + 1))) x
level_step p g xs a b v n top k x size top_is long lt x_is = grind (arith, nat_tests, length-take)

-- one more level within the top
pub capped_more : (xs : List ℕ) (v l top : ℕ) → ((w : ℕ) → w < v → get_or xs w 0 ≤ top) → v < length xs → l ≤ top → (w : ℕ) → w < v + 1 → get_or (set xs v l) w 0 ≤ top
capped_more xs v l top h inside le w lt = grind (arith, nat_tests, get_or-set_same, get_or-set_other)
