-- The bytes that the writer of a process holds when the program has ended.
use Rattle.std.specs.Prelude.{ℕ, ◌≡◌, Bool, true, false, List, ◌++◌, Option, Some, None}
use Rattle.kcore.specs.declared.command.Command.{Command}
use Rattle.kc_shell.specs.declared.status.Status.{Status}
use Rattle.kc_shell.specs.declared.status.Status.TheVariants.{Done, Refused, Usage, ReadFault, WriteFault, Memory}
use Rattle.kcore.specs.Commands.{IsText, worked_on}

-- the writer held `before`, and now also a whole text
pub record HoldsWhole (IsText : List ℕ → Bool → Type 0) (before : List ℕ) (now : Option (List ℕ)) (refused : Bool) : Type 0 where
  pub text : List ℕ
  pub is_text : IsText text refused
  pub holds : now ≡ Some (before ++ text)

-- the writer holds a prefix of that
pub record HoldsPrefix (IsText : List ℕ → Bool → Type 0) (before : List ℕ) (now : Option (List ℕ)) : Type 0 where
  pub text : List ℕ
  pub refused : Bool
  pub is_text : IsText text refused
  pub said : List ℕ
  pub rest : List ℕ
  pub all : before ++ text ≡ said ++ rest
  pub holds : now ≡ Some said

-- the program ended with this status, after a command that works on these bytes
abbrev pub Held : Command → List ℕ → List ℕ → Option (List ℕ) → Status → Type 0
Held command bytes before now Done = HoldsWhole (IsText command bytes) before now false
Held command bytes before now Refused = HoldsWhole (IsText command bytes) before now true
Held command bytes before now Usage = ⊥
Held command bytes before now ReadFault = HoldsPrefix (IsText command bytes) before now
Held command bytes before now WriteFault = HoldsPrefix (IsText command bytes) before now
Held command bytes before now Memory = HoldsPrefix (IsText command bytes) before now

abbrev pub HeldOf : Command → Option (List ℕ) → Option (List ℕ) → Option (List ℕ) → Status → Type 0
HeldOf command None before now status = Unit {0}
HeldOf command (Some bytes) None now status = Unit {0}
HeldOf command (Some bytes) (Some before) now status = Held command bytes before now status

-- the bytes that the writer holds at the end, if the words are a command and its bytes are known
--
-- Known are the bytes that the reader has left, or `gen` makes them, and the bytes that the writer held before. With
-- Done and Refused the writer holds the whole text of the command. With a fault, or if there was no memory, it holds a
-- prefix of it.
abbrev pub ProcessAnswers : Option Command → Option (List ℕ) → Option (List ℕ) → Option (List ℕ) → Status → Type 0
ProcessAnswers None left before now status = Unit {0}
ProcessAnswers (Some command) left before now status = HeldOf command (worked_on command left) before now status
