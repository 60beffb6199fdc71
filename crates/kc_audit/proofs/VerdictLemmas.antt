-- Verdicts that exclude each other.
use Rattle.std.proofs.Common.{ℕ, zero, suc, ◌-◌, ◌≤◌, ◌<◌, ◌≡◌, List, [], ◌∷◌, take, arith}
use Rattle.std.proofs.lemmas.Bool.Decides.{nat_tests}
use Rattle.std.proofs.lemmas.List.{take-take}
use Rattle.kc_history.specs.declared.entries.Entry.{Entry}
use Rattle.kc_history.specs.declared.replies.Reply.{Reply}
use Rattle.kc_history.specs.Replies.{AreExplained}
use Rattle.kc_audit.specs.declared.run_text.RunText.{RunText}
use Rattle.kc_audit.specs.Verdicts.{replies_of, IsExplained, IsFirstUnexplained, IsUnexplained}
use Rattle.kc_audit.specs.Laws.{ExplainedPasses, IsOneVerdict}

-- what begins explained replies is explained
fewer : (n : ℕ) (history : List Entry) (from k : ℕ) (rs : List Reply) → AreExplained n history from rs → AreExplained n history from (take k rs)
fewer n history from zero rs e = tt
fewer n history from (suc k) [] e = tt
fewer n history from (suc k) (r ∷ rs) e = (e.0, (e.1.0, (e.1.1.0, fewer n history e.0 k rs e.1.1.1)))

shorter : (run : RunText) (j k : ℕ) (rs : List Reply) → j ≤ k → IsExplained run (take k rs) → IsExplained run (take j rs)
shorter run j k rs h e = rw (take-take j k rs h) at (fewer run.vertices _ 0 j (take k rs) e)

explained_here : (run : RunText) (rs : List Reply) (ask : ℕ) → IsExplained run rs → IsFirstUnexplained run rs ask → ⊥
explained_here run rs ask e f = f.unfit (fewer run.vertices _ 0 ask rs e)

pub explained_passes : ExplainedPasses
explained_passes run it all v = grind (arith, nat_tests, explained_here)

no_less : (run : RunText) (r a s b : ℕ) → IsUnexplained run r a → IsUnexplained run s b → r < s → ⊥
no_less run r a s b u w h = explained_here run (replies_of run r) a (w.before r h) u.here

no_less_ask : (run : RunText) (r a b : ℕ) → IsUnexplained run r a → IsUnexplained run r b → a < b → ⊥
no_less_ask run r a b u w h = u.here.unfit (shorter run a (b - 1) (replies_of run r) (omega (arith, h)) w.here.before)

same_number : (a b : ℕ) → (a < b → ⊥) → (b < a → ⊥) → a ≡ b
same_number a b p q = grind (arith, nat_tests)

pub one_verdict : IsOneVerdict
one_verdict run it h v w = grind (arith, nat_tests, explained_here, same_number, no_less, no_less_ask)
