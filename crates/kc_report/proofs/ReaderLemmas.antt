-- The line of a reader as it is put together.
use Rattle.std.proofs.Common.{ℕ, ◌≡◌, List, [], ◌∷◌, ◌++◌, append_assoc, arith}
use Rattle.std.specs.Prelude.{decimal, codes}
use Rattle.std.specs.List.{flat_map}
use Rattle.std.proofs.lemmas.Bool.Decides.{nat_tests}
use Rattle.kc_history.specs.declared.replies.Reply.{Reply}
use Rattle.kc_report.specs.Lines.{reply_word, reader_line}
use Rattle.kc_report.proofs.TextLemmas.{joined}

parts : (number : ℕ) (replies words old a b : List ℕ) → old ≡ [] → a ≡ (old ++ codes "reader ") ++ decimal number → b ≡ a ++ replies → words ≡ decimal number ++ replies → b ++ 10 ∷ [] ≡ (codes "reader" ++ 32 ∷ words) ++ 10 ∷ []
parts number replies words old a b z ea eb ew = rw (eb, ea, z, ew) (simp append_assoc)

pub reader_filled : (number : ℕ) (replies : List Reply) (old a b : List ℕ) → old ≡ [] → a ≡ (old ++ codes "reader ") ++ decimal number → b ≡ a ++ flat_map (λ (r : Reply). 32 ∷ reply_word r) replies → b ++ 10 ∷ [] ≡ reader_line number replies
reader_filled number replies old a b z ea eb = grind (arith, nat_tests, parts, joined)
