-- The thresholds of a profile: how many neighbours a vertex needs to reach a band of levels, and how many it may have
-- there.
--
-- A band is a range of levels; the names of the definitions call it a group (`group_of`, `last_group`). The profile
-- fixes the four sequences low, high, grow and lo. Each has first numbers and a step, so that all else here is said
-- once for every profile. Divisions are whole-number divisions.
use Rattle.std.specs.Prelude.{ℕ, ◌+◌, ◌-◌, ◌*◌, ◌/◌, nat_lt, nat_le, Bool, cond, max}
use Rattle.std.proofs.Common.{suc, zero}
use Rattle.kc_levels.specs.declared.profile.Profile.{Profile}
use Rattle.kc_levels.specs.declared.profile.Profile.TheVariants.{One, Two}

-- the scale of a table of thresholds: a profile and a number of vertices
pub record Scale : Type 0 where
  pub profile : Profile
  pub vertices : ℕ

-- the low that follows l
abbrev pub next_low : Profile → ℕ → ℕ
next_low One l = l + max 1 (l / 4)
next_low Two l = l + max 1 (l / 8)

-- how many neighbours on a level of band i or above a vertex needs to stand on the next level
unfoldable pub low : Profile → ℕ → ℕ
low p zero = 1
low p (suc zero) = 1
low p (suc (suc i)) = next_low p (low p (suc i))

-- the high of a band whose low is l
abbrev pub high_over : Profile → ℕ → ℕ
high_over One l = 2 * l
high_over Two l = l + l / 2

-- how many neighbours at its own level or above a vertex of band i may have
unfoldable pub high : Profile → ℕ → ℕ
high p zero = 0
high p (suc i) = high_over p (low p (suc i))

-- the grow that follows g
abbrev pub next_grow : Profile → ℕ → ℕ
next_grow One g = (5 * g + 3) / 4
next_grow Two g = (9 * g + 7) / 8

-- the least number of vertices after j levels of growth
unfoldable pub grow : Profile → ℕ → ℕ
grow p zero = 1
grow p (suc j) = next_grow p (grow p j)

-- the lo of a band, where l is the low of the band below
abbrev pub lo_after : Profile → ℕ → ℕ
lo_after One l = 4 * l / 9 + 1
lo_after Two l = 8 * l / 17 + 1

-- the lower bound of coreness in band j
unfoldable pub lo : Profile → ℕ → ℕ
lo p zero = 0
lo p (suc zero) = 1
lo p (suc (suc j)) = lo_after p (low p (suc j))

-- the estimate of coreness in band j
abbrev pub est : Profile → ℕ → ℕ
est p j = 2 * lo p j

-- the least number below n that passes, or n
unfoldable pub least : (ℕ → Bool) → ℕ → ℕ
least test zero = 0
least test (suc n) = cond (test 0) 0 (suc (least (λ k. test (suc k)) n))

-- how many levels a band has: the least j with grow j > n
unfoldable pub height : Profile → ℕ → ℕ
height p n = least (λ j. nat_lt n (grow p j)) n

-- the last band: the least i from 1 on with high i ≥ n - 1
unfoldable pub last_group : Profile → ℕ → ℕ
last_group p n = 1 + least (λ i. nat_le (n - 1) (high p (1 + i))) n

-- the greatest level: the first one of the last band
abbrev pub top_level : Profile → ℕ → ℕ
top_level p n = 1 + (last_group p n - 1) * height p n

-- the band of a level: level 0 alone is band 0, and each later band has as many levels as the height
abbrev pub group_of : Profile → ℕ → ℕ → ℕ
group_of p n zero = 0
group_of p n (suc l) = 1 + l / height p n
