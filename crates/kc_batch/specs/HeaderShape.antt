-- What contracts see of a header.
use Rattle.std.specs.Prelude.{ℕ, List}
use Rattle.kc_levels.specs.declared.profile.Profile.{Profile}
use Rattle.kc_batch.specs.declared.ask.Ask.{Ask}

-- its profile, its number of vertices and its asks in order
pub record HeaderShape : Type 0 where
  pub profile : Profile
  pub n : ℕ
  pub asks : List Ask
