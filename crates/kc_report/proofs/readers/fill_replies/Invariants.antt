use Rattle.std.proofs.Common.{◌≡◌, ◌++◌, ◌∷◌, take}
use Rattle.std.specs.List.{flat_map}
use Rattle.kc_history.specs.declared.replies.Reply.{Reply}
use Rattle.kc_report.specs.Lines.{reply_word}
use Rattle.kc_report.proofs.readers.fill_replies.Given as goal

abbrev pub invariant-loop-r : goal.invariant-loop-r
invariant-loop-r l = l.buf ≡ l.initial.buf ++ flat_map (λ (r : Reply). 32 ∷ reply_word r) (take l.r-index l.replies)
