-- The text of `gen`: the counts of the session of a generated load.
use Rattle.std.specs.Prelude.{ℕ, ◌≡◌, nat_lt, Bool, List, [], ◌∷◌, decimal, codes}
use Rattle.kc_text.specs.Printing.{printed_line}
use Rattle.kc_history.specs.declared.replies.Reply.{Reply}
use Rattle.kc_batch.specs.declared.batch.Next.{Next}
use Rattle.kc_batch.specs.HeaderShape.{HeaderShape}
use Rattle.kc_batch.specs.BatchInputs.{BatchInput}
use Rattle.kc_session.specs.declared.ended.Ended.{Ended}
use Rattle.kc_session.specs.States.{start, Step, AreSteps}
use Rattle.kc_session.specs.Asking.{Fit}
use Rattle.kc_session.specs.Ended.{IsEnded}
use Rattle.kcore.specs.InputTexts.{IsTextOf}

-- the line of the counts at the end of a session
abbrev pub load_line : Ended → List ℕ
load_line e = printed_line (
    codes "gen" ∷ codes "batches" ∷ decimal e.batches ∷ codes "refused" ∷ decimal e.refused ∷ codes "phases" ∷ decimal e.phases ∷ codes "groups" ∷ decimal e.groups
    ∷ codes "moves" ∷ decimal e.moves ∷ codes "edges" ∷ decimal e.edges ∷ codes "replies" ∷ decimal e.replies ∷ codes "top" ∷ decimal e.top ∷ []
    )

-- the text for a header with these batches, and whether some of them are refused
--
-- It has the counts of their session, which are the same for any replies to its readers.
pub record IsLoadOf (header : HeaderShape) (batches : List Next) (text : List ℕ) (refused : Bool) : Type 0 where
  pub steps : List Step
  pub are_steps : AreSteps (start header.profile header.n) batches steps
  pub replies : List (List Reply)
  pub fit : Fit header.asks replies
  pub ended : Ended
  pub is_ended : IsEnded header batches steps replies ended
  pub text_is : text ≡ load_line ended
  pub refusal : nat_lt 0 ended.refused ≡ refused

-- the text of a generated input, and whether a part of it is refused
abbrev pub IsLoadText : BatchInput → List ℕ → Bool → Type 0
IsLoadText = IsTextOf IsLoadOf
