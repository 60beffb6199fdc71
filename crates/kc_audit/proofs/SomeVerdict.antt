-- Each run has a verdict.
use Rattle.std.proofs.Common.{ℕ, zero, suc, ◌-◌, ◌≤◌, ◌<◌, ◌≡◌, ◌⊎◌, inl, inr, List, [], ◌∷◌, take, length, arith}
use Rattle.std.proofs.lemmas.Bool.Decides.{nat_tests}
use Rattle.std.proofs.Math.Seq.{take-length}
use Rattle.kc_history.specs.declared.entries.Entry.{Entry}
use Rattle.kc_history.specs.declared.replies.Reply.{Reply}
use Rattle.kc_history.specs.Replies.{IsLevelAt, AreExplained}
use Rattle.kc_audit.specs.declared.run_text.RunText.{RunText}
use Rattle.kc_audit.specs.declared.verdict.AuditVerdict.{AuditVerdict}
use Rattle.kc_audit.specs.declared.verdict.AuditVerdict.TheVariants.{Unexplained}
use Rattle.kc_audit.specs.Runs.{history_of}
use Rattle.kc_audit.specs.Verdicts.{replies_of, IsExplained, IsFirstUnexplained, IsVerdict}
use Rattle.kc_audit.specs.Laws.{HasVerdict}

same_or_not : (a b : ℕ) → (a ≡ b) ⊎ ¬ (a ≡ b)
same_or_not a b = grind (arith, nat_tests)

-- what holds below k and at k holds below k + 1
one_more : (P : ℕ → Type 0) (k : ℕ) → ((i : ℕ) → i < k → P i) → P k → (i : ℕ) → i < suc k → P i
one_more P k h here i lt = grind (arith, nat_tests)

-- a number below k that passes, or none
below : (P : ℕ → Type 0) → ((i : ℕ) → P i ⊎ ¬ (P i)) → (k : ℕ) → ((i : ℕ) × ((i < k) × P i)) ⊎ ((i : ℕ) → i < k → ¬ (P i))
below P test zero = inr (λ i lt. absurd (omega (arith, lt)))
below P test (suc k) = elim (below P test k) [
  | inl found ↦ inl (found.0, (omega (arith, found.1.0), found.1.1))
  | inr none ↦ grind (arith, nat_tests, below P test k, test k, one_more)
]

level_or_not : (n : ℕ) (history : List Entry) (p : ℕ) (r : Reply) → IsLevelAt n history p r ⊎ ¬ (IsLevelAt n history p r)
level_or_not n history p r = grind (arith, nat_tests, same_or_not)

-- p is a point, from `from` on, at which r can be told, and from which the others are explained
abbrev Goes : ℕ → List Entry → ℕ → Reply → List Reply → ℕ → Type 0
Goes n history from r rs p = (from ≤ p) × (IsLevelAt n history p r × AreExplained n history p rs)

goes_or_not : (n : ℕ) (history : List Entry) (from : ℕ) (r : Reply) (rs : List Reply) → ((p : ℕ) → AreExplained n history p rs ⊎ ¬ (AreExplained n history p rs))
    → (p : ℕ) → Goes n history from r rs p ⊎ ¬ (Goes n history from r rs p)
goes_or_not n history from r rs rest p = grind (arith, nat_tests, level_or_not)

explained_or_not : (n : ℕ) (history : List Entry) (rs : List Reply) (from : ℕ) → AreExplained n history from rs ⊎ ¬ (AreExplained n history from rs)
explained_or_not n history [] from = inl tt
explained_or_not n history (r ∷ rs) from = grind (arith, nat_tests, below (Goes n history from r rs) (goes_or_not n history from r rs (explained_or_not n history rs)) (suc (length history)), below, goes_or_not)

-- of the first k replies each part is explained, or one reply is the first up to which they aren't
first_unexplained : (run : RunText) (rs : List Reply) (k : ℕ) → k ≤ length rs → IsExplained run (take k rs) ⊎ ((ask : ℕ) × IsFirstUnexplained run rs ask)
first_unexplained run rs zero within = inl tt
first_unexplained run rs (suc k) within = elim (first_unexplained run rs k (omega (arith, within))) [
  | inr found ↦ inr found
  | inl before ↦ elim (explained_or_not run.vertices (history_of run.groups) (take (suc k) rs) 0) [
    | inl here ↦ inl here
    | inr unfit ↦
        let e : suc k - 1 ≡ k = omega arith in
        inr (suc k, record { counted = omega arith; within = within; before = rw e before; unfit = unfit })
  ]
]

-- the replies of a reader are explained, or one is the first up to which they aren't
reader_or_not : (run : RunText) (rs : List Reply) → IsExplained run rs ⊎ ((ask : ℕ) × IsFirstUnexplained run rs ask)
reader_or_not run rs = grind (arith, nat_tests, first_unexplained run rs (length rs) (omega arith), first_unexplained, take-length)

-- the readers below k are explained, or there is a verdict
readers_or_not : (run : RunText) (k : ℕ) → k ≤ length run.readers → ((r : ℕ) → r < k → IsExplained run (replies_of run r)) ⊎ ((verdict : AuditVerdict) × IsVerdict run verdict)
readers_or_not run zero within = inl (λ r lt. absurd (omega (arith, lt)))
readers_or_not run (suc k) within = elim (readers_or_not run k (omega (arith, within))) [
  | inr found ↦ inr found
  | inl before ↦ elim (reader_or_not run (replies_of run k)) [
    | inl here ↦ inl (one_more (λ r. IsExplained run (replies_of run r)) k before here)
    | inr ask ↦ inr (Unexplained k ask.0, record { within = omega (arith, within); before = before; here = ask.1 })
  ]
]

pub has_verdict : HasVerdict
has_verdict run = grind (arith, nat_tests, readers_or_not run (length run.readers) (omega arith), readers_or_not, run.readers)
