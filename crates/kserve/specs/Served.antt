-- The text of served scripts, and what a sink has taken of it.
use Rattle.std.specs.Prelude.{ℕ, ◌≡◌, List, ◌++◌, Option, Some, None, ◌⊎◌}
use Rattle.std.specs.Io.KnownBytes.{append_known}
use Rattle.kc_text.specs.Causes.{Rose}
use Rattle.kc_text.specs.Writing.{IsPrefix}
use Rattle.kc_graph.specs.declared.items.Item.{Item}
use Rattle.kc_levels.specs.declared.profile.Profile.TheVariants.{One}
use Rattle.kc_levels.specs.LevelList.{MeetsBoth}
use Rattle.kc_report.specs.VertexLines.{tail_text}
use Rattle.kc_engine.specs.States.{State}
use Rattle.kc_intake.specs.declared.updates.Update.{Update}
use Rattle.kc_shell.specs.declared.status.Status.{Status}
use Rattle.kc_shell.specs.declared.status.Status.TheVariants as status
use Rattle.kserve.specs.Inputs.{ScriptInput, WithScripts, Refused, input_said}
use Rattle.kserve.specs.Batches.{start, LeadTo}
use Rattle.kserve.specs.Fitting.{Fit}
use Rattle.kserve.specs.Lines.{head_text, batch_lines, refused_line}

-- the text of batches of a graph of n vertices that lead to this state
abbrev pub served_text : ℕ → List (List Update) → State → List ℕ
served_text n batches last = head_text n ++ (batch_lines 1 batches ++ tail_text One last.graph last.levels)

-- a text of these scripts: the updates that it prints are what the clients submitted
--
-- The lines of the vertices are of the graph and the levels to which these updates lead. Both invariants hold of them.
pub record IsServed (n : ℕ) (scripts : List (List Item)) (text : List ℕ) : Type 0 where
  pub batches : List (List Update)
  pub fit : Fit scripts batches
  pub last : State
  pub leads : LeadTo (start n) batches last
  pub both : MeetsBoth One last.graph last.levels
  pub text_is : text ≡ served_text n batches last

-- a text of an input: one of its scripts, or the line for which it is refused
abbrev pub IsTextOf : ScriptInput → List ℕ → Type 0
IsTextOf (WithScripts n scripts) text = IsServed n scripts text
IsTextOf (Refused line reason) text = text ≡ refused_line line reason

-- a sink took a whole text
pub record WritesWhole (IsText : List ℕ → Type 0) (before now : Option (List ℕ)) : Type 0 where
  pub text : List ℕ
  pub is_text : IsText text
  pub taken : now ≡ append_known before text

-- it took a prefix of a text
pub record WritesPrefix (IsText : List ℕ → Type 0) (before now : Option (List ℕ)) : Type 0 where
  pub text : List ℕ
  pub is_text : IsText text
  pub prefix : IsPrefix before now text

-- the input has scripts
abbrev pub IsAccepted : ScriptInput → Type 0
IsAccepted (WithScripts n scripts) = Unit {0}
IsAccepted (Refused line reason) = ⊥

-- the input is refused
abbrev pub IsRefused : ScriptInput → Type 0
IsRefused (WithScripts n scripts) = ⊥
IsRefused (Refused line reason) = Unit {0}

-- what a sink took, by how the call ended
--
-- With Done it took a text of the scripts, and with Refused the line for which the input is refused. After a write
-- fault and without memory it took a prefix of such a text, and else nothing.
abbrev pub Wrote : ScriptInput → Option (List ℕ) → Option (List ℕ) → Status → Type 0
Wrote input before now status.Done = IsAccepted input × WritesWhole (IsTextOf input) before now
Wrote input before now status.Refused = IsRefused input × WritesWhole (IsTextOf input) before now
Wrote input before now status.Usage = now ≡ before
Wrote input before now status.ReadFault = now ≡ before
Wrote input before now status.WriteFault = WritesPrefix (IsTextOf input) before now
Wrote input before now status.Memory = WritesPrefix (IsTextOf input) before now

-- the same of the bytes of the source, if the source tells them
abbrev pub Answers : Option (List ℕ) → Option (List ℕ) → Option (List ℕ) → Status → Type 0
Answers None before now ended = Unit {0}
Answers (Some bytes) before now ended = Wrote (input_said bytes) before now ended

-- the call ended as the input decides, with `Done` if it has scripts and with `Refused` if it is refused; or there was
-- no memory
abbrev pub EndsAsDecided : ScriptInput → Status → Type 0
EndsAsDecided (WithScripts n scripts) ended = (ended ≡ status.Done) ⊎ (ended ≡ status.Memory)
EndsAsDecided (Refused line reason) ended = (ended ≡ status.Refused) ⊎ (ended ≡ status.Memory)

-- if the words are a number of workers, the source tells its bytes, and no count of faults rose: no other
-- answer is left
abbrev pub IsComplete : Option ℕ → Option (List ℕ) → ℕ → ℕ → ℕ → ℕ → Status → Type 0
IsComplete workers left r0 r1 w0 w1 ended =
    (count : ℕ) (bytes : List ℕ) → workers ≡ Some count → left ≡ Some bytes → ¬ (Rose r0 r1) → ¬ (Rose w0 w1) → EndsAsDecided (input_said bytes) ended
