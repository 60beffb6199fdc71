-- The knowledge of each pass, after the role of one was changed.
use Rattle.std.proofs.Common.{◌≡◌, ◌≢◌, ℕ, List, Option, Some, set, sym, ap, ◌∙◌, ⊎_elim, arith}
use Rattle.std.proofs.lemmas.Bool.Decides.{nat_tests}
use mathlib.Core.Option.{some}
use lib.ListN.{get_elem?}
use Rattle.crossbeam_queue.proofs.Lists.{at_set}
use Rattle.kc_intake.specs.declared.roles.Role.{Role}

pub views_set : (K K' : ℕ → Role → Type 0) (views : List Role) (j : ℕ) (w : Role) → K' j w → ((k : ℕ) (v : Role) → k ≢ j → K k v → K' k v)
    → ((k : ℕ) (v : Role) → get_elem? views k ≡ some v → K k v) → (k : ℕ) (v : Role) → get_elem? (set views j w) k ≡ some v → K' k v
views_set K K' views j w mine others all k v e = grind (arith, nat_tests, ⊎_elim, at_set)

-- no two passes are the pass of one client
pub same_pass : (pass : ℕ → Option ℕ) (c d j k : ℕ) → pass c ≡ Some j → pass d ≡ Some k → c ≡ d → j ≡ k
same_pass pass c d j k a b e = let t : Some j ≡ Some k = sym a ∙ ap pass e ∙ b in cc
