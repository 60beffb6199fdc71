-- A certificate as it is written.
use Rattle.std.specs.Prelude.{ℕ, ◌+◌, ◌≤◌, ◌≡◌, List, [], ◌∷◌, ◌++◌, length, map, decimal, codes}
use Rattle.kc_graph.specs.declared.limits.TheConstants.{MAX_VERTICES, MAX_EDGES}
use Rattle.kc_graph.specs.Shape.{Pair, GraphShape, IsGraph}
use Rattle.kc_levels.specs.declared.profile.Profile.{Profile}
use Rattle.kc_levels.specs.declared.profile.Profile.TheVariants.{One, Two}
use Rattle.kc_levels.specs.LevelList.{IsCapped}
use Rattle.kc_text.specs.Printing.{printed}
use Rattle.kc_cert.specs.declared.certificate.Certificate.{Certificate}

-- the word that names a profile
abbrev pub profile_word : Profile → List ℕ
profile_word One = codes "1"
profile_word Two = codes "2"

-- the lines before the edges
abbrev pub head_lines : Profile → GraphShape → List (List (List ℕ))
head_lines p g =
    (codes "kcore-cert" ∷ codes "1" ∷ []) ∷ (codes "profile" ∷ profile_word p ∷ [])
    ∷ (codes "vertices" ∷ decimal g.vertices ∷ []) ∷ (codes "edges" ∷ decimal (length g.edges) ∷ []) ∷ []

abbrev pub edge_line : Pair → List (List ℕ)
edge_line e = codes "edge" ∷ decimal e.0 ∷ decimal e.1 ∷ []

-- the levels of the vertices from v on
unfoldable pub level_lines : ℕ → List ℕ → List (List (List ℕ))
level_lines v [] = []
level_lines v (l ∷ ls) = (codes "level" ∷ decimal v ∷ decimal l ∷ []) ∷ level_lines (v + 1) ls

-- the last line
abbrev pub end_lines : List (List (List ℕ))
end_lines = (codes "end" ∷ []) ∷ []

-- the lines of a certificate, each as its words
abbrev pub certificate_lines : Certificate → List (List (List ℕ))
certificate_lines cert = head_lines cert.profile cert.graph ++ (map edge_line cert.graph.edges ++ (level_lines 0 cert.levels ++ end_lines))

-- the bytes of a certificate
abbrev pub certificate_text : Certificate → List ℕ
certificate_text cert = printed (certificate_lines cert)

-- a certificate within the limits: its edges are in order, each vertex has one level, and none is above the top
pub record IsCertificate (cert : Certificate) : Type 0 where
  pub some : 1 ≤ cert.graph.vertices
  pub small : cert.graph.vertices ≤ MAX_VERTICES
  pub graph : IsGraph cert.graph
  pub few : length cert.graph.edges ≤ MAX_EDGES
  pub sized : length cert.levels ≡ cert.graph.vertices
  pub capped : IsCapped cert.profile cert.graph.vertices cert.levels
