-- The bytes that a writer passes on.
use Rattle.std.specs.Prelude.{ℕ, ◌≡◌, Bool, true, false, List, ◌++◌, Option, Some, None}
use Rattle.kc_shell.specs.declared.status.Status.{Status}
use Rattle.kc_shell.specs.Statuses.{unflushed}

-- the writer passed on a part of the bytes
pub record HandsOnSome (all : List ℕ) (now : Option (List ℕ)) : Type 0 where
  pub said : List ℕ
  pub rest : List ℕ
  pub all_is : all ≡ said ++ rest
  pub holds : now ≡ Some said

-- if the writer tells its bytes: after a flush it passed on all of them, and otherwise a part
abbrev pub HandsOn : Bool → Option (List ℕ) → Option (List ℕ) → Type 0
HandsOn done None now = Unit {0}
HandsOn true (Some all) now = now ≡ Some all
HandsOn false (Some all) now = HandsOnSome all now

-- the status of the program
abbrev pub last_status : Bool → Status → Status
last_status true status = status
last_status false status = unflushed status
