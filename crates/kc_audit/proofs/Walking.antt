-- All readers of a run at one point of its history.
use Rattle.std.proofs.Common.{ℕ, ◌+◌, ◌≤◌, ◌<◌, ◌≡◌, ◌≢◌, Bool, true, false, List, [], length, replicate, get_or, ap, sym, ◌∙◌, arith}
use Rattle.std.specs.Prelude.{All}
use Rattle.std.proofs.lemmas.List.{get_or-replicate}
use Rattle.std.proofs.lemmas.List.Elements.{All-weaker}
use Rattle.std.proofs.lemmas.Bool.Decides.{nat_tests}
use Rattle.kc_history.specs.declared.entries.Entry.{Entry}
use Rattle.kc_history.specs.declared.replies.Reply.{Reply}
use Rattle.kc_history.specs.Points.{levels_at}
use Rattle.kc_audit.specs.declared.groups.GroupLine.{GroupLine}
use Rattle.kc_audit.specs.declared.run_text.RunText.{RunText}
use Rattle.kc_audit.specs.declared.verdict.AuditVerdict.{AuditVerdict}
use Rattle.kc_audit.specs.Runs.{history_of}
use Rattle.kc_audit.specs.private.Walks.{EachGoesOn, AreWithin, IsAwaited, Tells, reply_at}
use Rattle.kc_audit.specs.Verdicts.{IsVerdict}
use Rattle.kc_audit.proofs.MoveLemmas.{moves_other, levels_next, length-history}
use Rattle.kc_audit.proofs.Reaching.{IsAt, IsStuck, at_start, goes_on, passes, explained_so_far, explained_all, unexplained_next}

-- each reader has told the number of its replies in `told`, and is at the point p
pub AreAt : ℕ → List Entry → List (List Reply) → List ℕ → ℕ → Type 0
AreAt n history readers told p = (r : ℕ) → r < length readers → IsAt n history (get_or readers r []) (get_or told r 0) p

-- and can tell no more there
pub AreStuck : ℕ → List Entry → List (List Reply) → List ℕ → ℕ → Type 0
AreStuck n history readers told p = (r : ℕ) → r < length readers → IsStuck n history (get_or readers r []) (get_or told r 0) p

pub all_at_start : (n : ℕ) (history : List Entry) (readers : List (List Reply)) → AreAt n history readers (replicate (length readers) 0) 0
unfolding AreAt
all_at_start n history readers r h = rw (get_or-replicate {A = ℕ} (length readers) r 0 0 h) (at_start n history (get_or readers r []))

pub all_go_on : (n : ℕ) (history : List Entry) (readers : List (List Reply)) (levels before now : List ℕ) (p : ℕ) → AreAt n history readers before p → p ≤ length history
    → levels ≡ levels_at n history p → EachGoesOn levels readers before now → AreStuck n history readers now p
unfolding AreAt AreStuck
all_go_on n history readers levels before now p at inside e on r h = grind (arith, nat_tests, goes_on)

pub all_within : (readers : List (List Reply)) (levels before now : List ℕ) → length now ≡ length readers → EachGoesOn levels readers before now → AreWithin readers now
all_within readers levels before now sized on = record { sized = sized; each = λ r h. (on r h).within }

pub all_pass : (n : ℕ) (history : List Entry) (readers : List (List Reply)) (told : List ℕ) (p : ℕ) → AreStuck n history readers told p → AreAt n history readers told (p + 1)
unfolding AreAt AreStuck
all_pass n history readers told p h r lt = passes n history (get_or readers r []) (get_or told r 0) p (h r lt)

other_vertex : (awaited : List Bool) (v : ℕ) (m : Reply) → get_or awaited v false ≡ true → get_or awaited m.vertex false ≡ false → m.vertex ≢ v
other_vertex awaited v m is not e = let here = rw e at not in absurd cc

-- where no reader waits for a vertex that moves, all stay where they are
pub all_stay : (n : ℕ) (groups : List GroupLine) (readers : List (List Reply)) (told : List ℕ) (awaited : List Bool) (g : GroupLine) (p : ℕ) → AreStuck n (history_of groups) readers told p
    → IsAwaited awaited readers told → p < length groups → All (λ m. get_or awaited m.vertex false ≡ false) (get_or groups p g).members → AreStuck n (history_of groups) readers told (p + 1)
unfolding AreStuck
all_stay n groups readers told awaited g p h waits lt unmet r inside =
    let rs = get_or readers r [] in
    let k = get_or told r 0 in
    let here = h r inside in
    record {
      at = passes n (history_of groups) rs k p here;
      unfit = λ left at.
          let v = (reply_at rs k).vertex in
          let others = All-weaker (λ (m : Reply). get_or awaited m.vertex false ≡ false) (λ (m : Reply). m.vertex ≢ v) (λ m no. other_vertex awaited v m (waits r inside left) no) (get_or groups p g).members unmet in
          let same : get_or (levels_at n (history_of groups) (p + 1)) v 0 ≡ get_or (levels_at n (history_of groups) p) v 0 =
          ap (λ (x : List ℕ). get_or x v 0) (levels_next n groups p g lt) ∙ moves_other (levels_at n (history_of groups) p) (get_or groups p g).members v others in
          here.unfit left (record { inside = omega (arith, lt, length-history groups); level = sym same ∙ at.level });
    }

-- where no reader waits, or the history has ended, the verdict on what the readers have told is the verdict on the run
pub told_verdict : (run : RunText) (told : List ℕ) (p : ℕ) (verdict : AuditVerdict) → AreStuck run.vertices (history_of run.groups) run.readers told p
    → ((r : ℕ) → r < length run.readers → get_or told r 0 < length (get_or run.readers r []) → length run.groups ≤ p) → Tells run.readers told verdict → IsVerdict run verdict
unfolding AreStuck
told_verdict run told p verdict h last t = grind (arith, nat_tests, explained_all, explained_so_far, unexplained_next, length-history)
