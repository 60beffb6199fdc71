-- Lines that a buffer holds back.
use Rattle.std.specs.Prelude.{ℕ, ◌≡◌, List, ◌++◌, Option}
use Rattle.std.specs.Io.KnownBytes.{append_known}

-- the text was taken up to its end, which the buffer holds
pub record IsHeldBack (before now : Option (List ℕ)) (text held : List ℕ) : Type 0 where
  pub said : List ℕ
  pub all : text ≡ said ++ held
  pub taken : now ≡ append_known before said
