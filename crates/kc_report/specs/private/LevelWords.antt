-- The words of a vertex line that a level decides.
use Rattle.std.specs.Prelude.{ℕ, ◌≡◌, ◌<◌, ◌≤◌, List, [], ◌++◌, length, get_or, decimal, codes}
use Rattle.kc_levels.specs.declared.profile.Profile.{Profile}
use Rattle.kc_levels.specs.declared.thresholds.Estimate.{Estimate}
use Rattle.kc_report.specs.declared.vertices.VertexCounts.{VertexCounts}
use Rattle.kc_report.specs.Lines.{vertex_line}
use Rattle.kc_report.specs.VertexLines.{estimate_of}

-- the words of a vertex line from its level to the name of its first count
abbrev pub level_words : ℕ → Estimate → List ℕ
level_words level e =
    codes " level " ++ (decimal level ++ (codes " est " ++ (decimal e.est
    ++ (codes " low " ++ (decimal e.lo ++ (codes " high " ++ (decimal e.hi ++ codes " up ")))))))

-- the list at each place has the words of the level of that number
abbrev pub AreLevelWords : Profile → ℕ → List (List ℕ) → Type 0
AreLevelWords p n words = (level : ℕ) → level < length words → get_or words level [] ≡ level_words level (estimate_of p n level)

-- the words of no level have more than 62 bytes
abbrev pub AreShort : List (List ℕ) → Type 0
AreShort words = (level : ℕ) → level < length words → length (get_or words level []) ≤ 62

-- the line of a vertex with these counts, and what its level says of its coreness
abbrev pub counted_line : Profile → ℕ → VertexCounts → List ℕ
counted_line p n c = vertex_line c.v c.level (estimate_of p n c.level) c.up c.down
