-- Edges that are read one after another.
use Rattle.std.proofs.Common.{ℕ, suc, ◌+◌, ◌-◌, ◌<◌, ◌≤◌, ◌≡◌, Bool, true, false, List, [], ◌∷◌, ◌++◌, refl, ap, ◌∙◌, arith}
use Rattle.std.specs.Prelude.{Result, Ok, Err, nat_lt, ◌&&◌, if◌then◌else◌}
use Rattle.std.proofs.lemmas.Bool.Decides.{nat_tests}
use Rattle.std.proofs.lemmas.List.Elements.{All-nil}
use Rattle.kc_graph.specs.Shape.{GraphShape, Pair, IsNotBefore, EdgesFrom, has_edge, with_edges}
use Rattle.kc_graph.specs.Changes.{AllAbsent}
use Rattle.kc_graph.proofs.lemmas.Edges.{edges_from_at}
use Rattle.kc_graph.proofs.lemmas.Changes.{added_behind}
use Rattle.kc_text.specs.declared.reason.Reason.{Reason}
use Rattle.kc_text.specs.declared.reason.Reason.TheVariants.{BadLine, BadVertex}
use Rattle.kc_cert.specs.declared.token.Kind.{Kind}
use Rattle.kc_levels.specs.declared.profile.Profile.{Profile}
use Rattle.kc_cert.specs.Documents.{Stage, AtBody, edge_of, is_next_edge, onward, stage_after}

-- the edge is in its place
pub record Fits (n a b : ℕ) (e : Pair) : Type 0 where
  pub place : IsNotBefore a b e
  pub order : e.0 < e.1
  pub below : e.1 < n

chosen : (inside next : Bool) (p e : Pair) → (if inside then (if next then Ok p else Err BadLine) else Err BadVertex) ≡ Ok e → (inside ≡ true) × (next ≡ true) × (p ≡ e)
chosen inside next p e h = grind (arith, nat_tests)

fits_pair : (n a b x y : ℕ) → (nat_lt x n && nat_lt y n) ≡ true → is_next_edge a b x y ≡ true → Fits n a b (x, y)
fits_pair n a b x y h k = record {
  place = grind (arith, nat_tests, k);
  order = grind (arith, nat_tests, k);
  below = grind (arith, nat_tests, h);
}

pub edge_fits : (n a b : ℕ) (k : Kind) (e : Pair) → edge_of n a b k ≡ Ok e → Fits n a b e
edge_fits n a b k e h = grind (arith, nat_tests, chosen, fits_pair)

-- the edges ascend, and so they do with each next one that is not before (a, b)
pub record MayFollow (n a b : ℕ) (es : List Pair) : Type 0 where
  pub ascending : EdgesFrom n 0 0 es
  pub more : (e : Pair) → Fits n a b e → EdgesFrom n 0 0 (es ++ e ∷ [])

not_before_start : (e : Pair) → IsNotBefore 0 0 e
not_before_start e = grind arith

two_more : (n c d : ℕ) (es : List Pair) (e f : Pair) → EdgesFrom n c d (es ++ e ∷ []) → Fits n e.0 (suc e.1) f → EdgesFrom n c d ((es ++ e ∷ []) ++ f ∷ [])
two_more n c d [] e f up h = (up.0, up.1, up.2, (h.place, h.order, h.below, tt))
two_more n c d (g ∷ gs) e f up h = (up.0, up.1, up.2, two_more n g.0 (suc g.1) gs e f up.3 h)

pub follow_more : (n a b : ℕ) (es : List Pair) (e : Pair) → MayFollow n a b es → Fits n a b e → MayFollow n e.0 (suc e.1) (es ++ e ∷ [])
follow_more n a b es e m h = record { ascending = m.more e h; more = λ f k. two_more n 0 0 es e f (m.more e h) k }

-- an edge after all others isn't among them
absent_last : (n c d : ℕ) (es : List Pair) (e : Pair) (rest : List Pair) → EdgesFrom n c d (es ++ e ∷ rest) → has_edge e es ≡ false
absent_last n c d [] e rest up = refl
absent_last n c d (f ∷ fs) e rest up = grind (arith, nat_tests, absent_last n f.0 (suc f.1) fs e rest up.3, edges_from_at, up.3)

-- edges that ascend from a later place on do so from an earlier one
from_earlier : (n a b c d : ℕ) (es : List Pair) → EdgesFrom n c d es → ((e : Pair) → IsNotBefore c d e → IsNotBefore a b e) → EdgesFrom n a b es
from_earlier n a b c d [] up h = tt
from_earlier n a b c d (e ∷ es) up h = (h e up.0, up.1, up.2, up.3)

later_place : (a b : ℕ) (e f : Pair) → IsNotBefore a b e → IsNotBefore e.0 (suc e.1) f → IsNotBefore a b f
later_place a b e f h k = grind (arith, h, k)

-- one edge less
without_one : (n c d : ℕ) (es : List Pair) (e : Pair) (rest : List Pair) → EdgesFrom n c d (es ++ e ∷ rest) → EdgesFrom n c d (es ++ rest)
without_one n c d [] e rest up = from_earlier n c d e.0 (suc e.1) rest up.3 (λ f k. later_place c d e f up.0 k)
without_one n c d (f ∷ fs) e rest up = (up.0, up.1, up.2, without_one n f.0 (suc f.1) fs e rest up.3)

-- the edges before others, and those after others
pub first_ascend : (n c d : ℕ) (es rest : List Pair) → EdgesFrom n c d (es ++ rest) → EdgesFrom n c d es
first_ascend n c d [] rest up = tt
first_ascend n c d (e ∷ es) rest up = (up.0, up.1, up.2, first_ascend n e.0 (suc e.1) es rest up.3)

pub rest_ascends : (n c d : ℕ) (es rest : List Pair) → EdgesFrom n c d (es ++ rest) → EdgesFrom n 0 0 rest
rest_ascends n c d [] rest up = from_earlier n 0 0 c d rest up (λ e k. not_before_start e)
rest_ascends n c d (e ∷ es) rest up = rest_ascends n e.0 (suc e.1) es rest up.3

-- edges that follow all others aren't among them
pub rest_is_absent : (g : GraphShape) (es : List Pair) → EdgesFrom g.vertices 0 0 (g.edges ++ es) → AllAbsent g es
rest_is_absent g [] up = All-nil (λ f. has_edge f g.edges ≡ false)
rest_is_absent g (e ∷ es) up = grind (arith, nat_tests, rest_is_absent g es (without_one g.vertices 0 0 g.edges e es up), absent_last, without_one)

-- and they come in after them
pub let_in_edges : (g h : GraphShape) (es : List Pair) → EdgesFrom g.vertices 0 0 (g.edges ++ es) → h ≡ with_edges g es → h ≡ record { vertices = g.vertices; edges = g.edges ++ es }
let_in_edges g h es up e = e ∙ added_behind g.vertices g.edges es up

-- the stage where edge i of `count` is due
abbrev pub edges_due : Profile → GraphShape → ℕ → ℕ → ℕ → ℕ → ℕ → Stage
edges_due p g n count i a b = AtBody (record { profile = p; graph = g; levels = [] }) (count - i) a b n

-- the stage after this edge
abbrev pub after_edge : Profile → GraphShape → ℕ → ℕ → ℕ → Pair → Stage
after_edge p g n count i e = AtBody (record { profile = p; graph = record { vertices = g.vertices; edges = g.edges ++ e ∷ [] }; levels = [] }) (count - (i + 1)) e.0 (suc e.1) n

pub edge_step : (p : Profile) (g : GraphShape) (n count i a b : ℕ) (k : Kind) (x : Result Pair Reason) → g.vertices ≡ n → i < count → x ≡ edge_of n a b k
    → stage_after (edges_due p g n count i a b) k ≡ onward (after_edge p g n count i) x
edge_step p g n count i a b k x size lt x_is = grind (arith, nat_tests)

-- the stage where the next edge is due
pub after_one : (p : Profile) (n count i x y : ℕ) (es fs : List Pair) (e : Pair) → fs ≡ es ++ e ∷ [] → e ≡ (x, y)
    → edges_due p (record { vertices = n; edges = fs }) n count (i + 1) x (y + 1) ≡ after_edge p (record { vertices = n; edges = es }) n count i e
after_one p n count i x y es fs e fs_is e_is = grind (arith, nat_tests)

pub follow_one : (n a b x y : ℕ) (es fs : List Pair) (e : Pair) → MayFollow n a b es → Fits n a b e → fs ≡ es ++ e ∷ [] → e ≡ (x, y) → MayFollow n x (y + 1) fs
follow_one n a b x y es fs e m f fs_is e_is =
    let one : y + 1 ≡ suc y = omega arith in
    let first : e.0 ≡ x = ap (λ (q : Pair). q.0) e_is in
    let second : e.1 ≡ y = ap (λ (q : Pair). q.1) e_is in
    rw (fs_is, one, ← first, ← second) (follow_more n a b es e m f)

-- no edge is due any more
pub all_read : (p : Profile) (g : GraphShape) (n count i a b : ℕ) (es : List Pair) → g.vertices ≡ n → g.edges ≡ es → count ≤ i
    → edges_due p (record { vertices = n; edges = es }) n count i a b ≡ AtBody (record { profile = p; graph = g; levels = [] }) 0 a b g.vertices
all_read p g n count i a b es v e h = grind (arith, nat_tests)
