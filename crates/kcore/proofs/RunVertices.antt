-- The lines of the vertices of a run: each line has its meaning.
use Rattle.std.proofs.Common.{ℕ, suc, zero, ◌+◌, ◌-◌, ◌*◌, ◌≤◌, ◌<◌, ◌≡◌, List, [], ◌∷◌, ◌++◌, get_or, ap, subst, arith}
use Rattle.std.specs.Prelude.{nat_le, codes}
use Rattle.std.proofs.lemmas.List.Sums.{count_by-le-length}
use Rattle.kc_graph.specs.declared.limits.TheConstants.{MAX_VERTICES}
use Rattle.kc_graph.specs.Shape.{GraphShape, IsGraph, neighbours_of}
use Rattle.kc_graph.proofs.lemmas.Neighbours.{fewer_neighbours}
use Rattle.kc_levels.specs.declared.profile.Profile.{Profile}
use Rattle.kc_levels.specs.declared.profile.Profile.TheVariants.{One, Two}
use Rattle.kc_levels.specs.Thresholds.{low, high, lo, est, lo_after, group_of}
use Rattle.kc_levels.specs.LevelList.{at_least, IsCapped}
use Rattle.kc_levels.proofs.lemmas.Thresholds.{group_of-within, low-small, top_level-small, high_over-near, low-step}
use Rattle.kc_report.specs.Lines.{end_line}
use Rattle.kc_report.specs.VertexLines.{vertex_text, vertex_lines, tail_text}
use Rattle.kc_audit.specs.Kinds.{Kind}
use Rattle.kc_audit.specs.Kinds as kind
use Rattle.kc_audit.specs.Printed.{IsSmall}
use Rattle.kc_audit.specs.ReadBack.{vertex_kinds}
use Rattle.kc_audit.proofs.lemmas.Runs.{lines_say_kinds, Prints, prints_nothing, prints_line, prints_both, prints_as}

lo_after_low : (p : Profile) (l : ℕ) → lo_after p l ≤ l + 1
lo_after_low One l = omega arith
lo_after_low Two l = omega arith

lo_low : (p : Profile) (j : ℕ) → lo p j ≤ low p j + 1
unfolding lo
lo_low p zero = omega arith
lo_low p (suc zero) = omega arith
lo_low p (suc (suc i)) = omega (arith, lo_after_low p (low p (suc i)), low-step p (suc i))

high_low : (p : Profile) (j : ℕ) → high p j ≤ 2 * low p j
unfolding high
high_low p zero = omega arith
high_low p (suc i) = high_over-near p (low p (suc i))

few_at_least : (g : GraphShape) (x : List ℕ) (v l : ℕ) → IsGraph g → v < g.vertices → g.vertices ≤ MAX_VERTICES → IsSmall (at_least g x v l)
unfolding at_least
few_at_least g x v l graph inside most = omega (arith, most, fewer_neighbours g.vertices v g.edges graph inside, count_by-le-length (λ w. nat_le l (get_or x w 0)) (neighbours_of v g.edges))

vertex_prints : (p : Profile) (g : GraphShape) (x : List ℕ) (v : ℕ) → 1 ≤ g.vertices → g.vertices ≤ MAX_VERTICES → IsGraph g → IsCapped p g.vertices x → v < g.vertices
    → Prints (vertex_text p g x v) (λ rest. kind.Vertex v ∷ rest)
vertex_prints p g x v some most graph capped inside =
    let level = get_or x v 0 in
    let j = group_of p g.vertices level in
    let top = capped v inside in
    let low_small = low-small p g.vertices j most (group_of-within p g.vertices level some top) in
    let level_small = top_level-small p g.vertices most in
    prints_line _ (kind.Vertex v)
    (lines_say_kinds.levels.vertex v level (est p j) (lo p j) (high p j) (at_least g x v level) (at_least g x v (level - 1)) (omega (arith, inside, most)) (omega (arith, top, level_small))
    (omega (arith, lo_low p j, low_small)) (omega (arith, lo_low p j, low_small)) (omega (arith, high_low p j, low_small)) (few_at_least g x v level graph inside most) (few_at_least g x v (level - 1) graph inside most))

kinds_last : (v k : ℕ) (rest : List Kind) → vertex_kinds v k (kind.Vertex (v + k) ∷ rest) ≡ vertex_kinds v (suc k) rest
kinds_last v zero rest = let e : v + 0 ≡ v = omega arith in ap (λ w. kind.Vertex w ∷ rest) e
kinds_last v (suc k) rest =
    let e : suc v + k ≡ v + suc k = omega arith in
    ap (λ (ks : List Kind). kind.Vertex v ∷ ks) (subst (λ w. vertex_kinds (suc v) k (kind.Vertex w ∷ rest) ≡ vertex_kinds (suc v) (suc k) rest) e (kinds_last (suc v) k rest))

vertices_print : (p : Profile) (g : GraphShape) (x : List ℕ) (k : ℕ) → 1 ≤ g.vertices → g.vertices ≤ MAX_VERTICES → IsGraph g → IsCapped p g.vertices x → k ≤ g.vertices → Prints (vertex_lines (vertex_text p g x) k) (λ rest. vertex_kinds 0 k rest)
unfolding vertex_lines
vertices_print p g x zero some most graph capped within = prints_nothing
vertices_print p g x (suc k) some most graph capped within =
    let zero_on : 0 + k ≡ k = omega arith in
    prints_as (vertex_lines (vertex_text p g x) k ++ vertex_text p g x k) (λ rest. vertex_kinds 0 k (kind.Vertex k ∷ rest)) (λ rest. vertex_kinds 0 (suc k) rest)
    (λ rest. subst (λ w. vertex_kinds 0 k (kind.Vertex w ∷ rest) ≡ vertex_kinds 0 (suc k) rest) zero_on (kinds_last 0 k rest))
    (prints_both (vertex_lines (vertex_text p g x) k) (vertex_text p g x k) (λ rest. vertex_kinds 0 k rest) (λ rest. kind.Vertex k ∷ rest)
    (vertices_print p g x k some most graph capped (omega (arith, within))) (vertex_prints p g x k some most graph capped (omega (arith, within))))

-- the lines of all vertices, and the last line
pub tail_prints : (p : Profile) (g : GraphShape) (x : List ℕ) → 1 ≤ g.vertices → g.vertices ≤ MAX_VERTICES → IsGraph g → IsCapped p g.vertices x → Prints (tail_text p g x) (λ rest. vertex_kinds 0 g.vertices (kind.Close ∷ rest))
tail_prints p g x some most graph capped =
    prints_both (vertex_lines (vertex_text p g x) g.vertices) end_line (λ rest. vertex_kinds 0 g.vertices rest) (λ rest. kind.Close ∷ rest)
    (vertices_print p g x g.vertices some most graph capped (omega arith)) (prints_line (codes "end" ∷ []) kind.Close lines_say_kinds.frame.end)
