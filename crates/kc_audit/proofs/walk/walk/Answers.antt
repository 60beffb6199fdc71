use Rattle.std.proofs.Common.{◌≡◌, ◌≤◌, ◌<◌, ◌+◌, ℕ, List, [], length, ap, sym, ◌∙◌, arith, get_or}
use Rattle.std.proofs.lemmas.List.{length-replicate}
use Rattle.kc_audit.specs.Runs.{history_of}
use Rattle.kc_audit.proofs.MoveLemmas.{no_line, members_at, levels_next, length-history}
use Rattle.kc_audit.proofs.Walking.{all_at_start, all_go_on, all_within, all_pass, all_stay, told_verdict}
use Rattle.kc_audit.proofs.walk.walk.Goals as goal
use Rattle.kc_audit.proofs.walk.walk.Goals.{then-move_members, else-move_members, then-loop-waits-test+else-point-len, else-loop-waits-test}

pub loop-waits-init : goal.loop-waits-init
loop-waits-init c =
    let n = c.args.run.now.vertices in
    let readers = c.args.run.now.readers in
    let history = history_of c.args.run.now.groups in
    let on = rw c.as_slice-readers.ensures at c.advance-waits.ensures.passed in
    let sized : length c.advance-waits.new.passed ≡ length readers = c.advance-waits.auto.passed ∙ (ap (λ (xs : List ℕ). length xs) c.requires.passed ∙ length-replicate {A = ℕ} (length readers) 0) in
    record {
      point = omega arith;
      levels = c.requires.levels;
      within = all_within readers c.args.levels.now c.args.passed.now c.advance-waits.new.passed sized on;
      stuck = all_go_on n history readers c.args.levels.now c.args.passed.now c.advance-waits.new.passed 0 (rw c.requires.passed (all_at_start n history readers)) (omega arith) c.requires.levels on;
      awaited = rw c.as_slice-readers.ensures at c.advance-waits.ensures.awaited;
      none = rw c.as_slice-readers.ensures at c.advance-waits.ensures.none;
    }

pub move_members-requires-clause-below : goal.move_members-requires-clause-below
move_members-requires-clause-below c =
    let lt : c.loop-waits.point < length c.args.run.now.groups = omega (arith, c.if-point-len.true, c.len.ensures) in
    let n : length c.loop-waits.levels ≡ c.args.run.now.vertices = c.loop-waits.auto.levels ∙ (ap (λ (xs : List ℕ). length xs) c.requires.levels ∙ length-replicate {A = ℕ} c.args.run.now.vertices 0) in
    rw (members_at c.args.run.now.groups c.loop-waits.point c.members.result.now lt c.members.ensures, n) (c.requires.run.members c.loop-waits.point no_line lt)

pub loop-waits-preserved : goal.loop-waits-preserved
loop-waits-preserved c =
    let n = c.args.run.now.vertices in
    let readers = c.args.run.now.readers in
    let groups = c.args.run.now.groups in
    let history = history_of groups in
    let p = c.loop-waits.point in
    let old = c.loop-waits.invariant in
    let lt : p < length groups = omega (arith, c.if-point-len.true, c.len.ensures) in
    let members = members_at groups p c.members.result.now lt c.members.ensures in
    let levels = rw (old.levels, members, sym (levels_next n groups p no_line lt)) at c.move_members.ensures.levels in
    elim c.if-move_members.branch [
      | then-move_members w ↦
          let passed = w.advance-waits-then-move_members.new.passed in
          let on = rw c.as_slice-readers.ensures at w.advance-waits-then-move_members.ensures.passed in
          let sized : length passed ≡ length readers = w.advance-waits-then-move_members.auto.passed ∙ old.within.sized in
          record {
            point = omega (arith, lt);
            levels = levels;
            within = rw w.passed-is (all_within readers c.move_members.new.levels c.loop-waits.passed passed sized on);
            stuck = rw w.passed-is (all_go_on n history readers c.move_members.new.levels c.loop-waits.passed passed (p + 1) (all_pass n history readers c.loop-waits.passed p old.stuck) (omega (arith, lt, length-history groups)) levels on);
            awaited = rw (w.passed-is, w.awaited-is) (rw c.as_slice-readers.ensures at w.advance-waits-then-move_members.ensures.awaited);
            none = rw (w.waits-is, w.passed-is) (rw c.as_slice-readers.ensures at w.advance-waits-then-move_members.ensures.none);
          }
      | else-move_members w ↦ record {
        point = omega (arith, lt);
        levels = levels;
        within = rw w.passed-is old.within;
        stuck = rw w.passed-is (all_stay n groups readers c.loop-waits.passed c.loop-waits.awaited no_line p old.stuck old.awaited lt (rw members at (c.move_members.ensures.unmet w.if-move_members.false)));
        awaited = rw (w.passed-is, w.awaited-is) old.awaited;
        none = rw (w.waits-is, w.passed-is) old.none;
      }
    ]

pub returns : goal.returns
returns c =
    let run = c.args.run.now in
    let old = c.loop-waits.invariant in
    let last : (r : ℕ) → r < length run.readers → get_or c.loop-waits.passed r 0 < length (get_or run.readers r []) → length run.groups ≤ c.loop-waits.point = elim c.loop-waits-test.branch [
      | then-loop-waits-test+else-point-len w ↦ λ r h left. omega (arith, w.if-point-len.false, w.len.ensures)
      | else-loop-waits-test w ↦ λ r h left. absurd (omega (arith, left, old.none w.loop-waits-test.false r h))
    ] in
    told_verdict run c.loop-waits.passed c.loop-waits.point c.verdict_of.result old.stuck last (rw c.as_slice-readers.ensures at c.verdict_of.ensures)
