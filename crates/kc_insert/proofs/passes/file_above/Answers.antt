use Rattle.std.proofs.Common.{◌≡◌, ◌+◌, ◌++◌, ◌∷◌, [], length, ap, sym, ◌∙◌, arith}
use Rattle.kc_insert.specs.private.Crossing.{Crossing, above_near}
use Rattle.kc_insert.proofs.Beginning.{beginning_first, beginning_next, beginning_over, begun_filed, begun_telling, is_found}
use Rattle.kc_insert.proofs.Rows.{length-with_levels}
use Rattle.kc_insert.proofs.passes.file_above.Goals.{then-stood-next+in_ok-tell, else-stood-next}
use Rattle.kc_insert.proofs.passes.file_above.Goals as goal

pub loop-i-init : goal.loop-i-init
loop-i-init c = beginning_first c.args.step.now c.args.v (above_near c.args.step.now c.args.v) c.args.told.now c.args.meetings.now

pub overflow_cast-stood : goal.overflow_cast-stood
overflow_cast-stood c =
    let there = is_found c.args.step.now c.args.v c.loop-i.i c.args.above.now c.requires.above c.loop-i-test.true in
    omega (arith, there.level, there.small)

pub file-requires : goal.file-requires
file-requires c =
    let there = is_found c.args.step.now c.args.v c.loop-i.i c.args.above.now c.requires.above c.loop-i-test.true in
    omega (arith, there.level, c.requires.places _ there.above, c.loop-i.invariant.filing.sized)

pub loop-i-preserved : goal.loop-i-preserved
loop-i-preserved c =
    let there = is_found c.args.step.now c.args.v c.loop-i.i c.args.above.now c.requires.above c.loop-i-test.true in
    let level : c.step.inside.level ≡ c.args.step.now.level = ap (λ (s : Crossing). s.level) c.step.view_is in
    elim c.if-stood-next.branch [
      | then-stood-next+in_ok-tell w ↦ rw (w.told-is, c.in_ok-file.ensures.ok, there.vertex, there.level)
          (beginning_next c.args.step.now c.args.v c.loop-i.i (above_near c.args.step.now c.args.v) c.args.told.now c.loop-i.told c.args.meetings.now c.loop-i.meetings there.at there.over (c.requires.places _ there.above) c.loop-i.invariant w.tell.new.self
          (sym there.level ∙ w.if-stood-next.true ∙ ap (λ k. k + 1) level)
          (w.in_ok-tell.ensures ∙ ap (λ u. record c.loop-i.told { all = c.loop-i.told.all ++ u ∷ [] }) there.vertex))
      | else-stood-next w ↦ rw (w.told-is, c.in_ok-file.ensures.ok, there.vertex, there.level)
          (beginning_over c.args.step.now c.args.v c.loop-i.i (above_near c.args.step.now c.args.v) c.args.told.now c.loop-i.told c.args.meetings.now c.loop-i.meetings there.at there.over (c.requires.places _ there.above) c.loop-i.invariant
          (λ e. w.if-stood-next.false (there.level ∙ e ∙ ap (λ k. k + 1) (sym level))))
    ]

pub returns-clause-told : goal.returns-clause-told
returns-clause-told c =
    let level : c.step.inside.level ≡ c.args.step.now.level = ap (λ (s : Crossing). s.level) c.step.view_is in
    begun_telling c.args.step.now c.args.v c.loop-i.i c.args.told.now c.loop-i.told c.args.meetings.now c.loop-i.meetings (omega (arith, c.loop-i-test.false, ap length c.requires.above ∙ length-with_levels c.args.step.now.levels.stored (above_near c.args.step.now c.args.v))) (omega (arith, c.step.invariant.small, level)) c.loop-i.invariant

pub returns-clause-meetings : goal.returns-clause-meetings
returns-clause-meetings c =
    let level : c.step.inside.level ≡ c.args.step.now.level = ap (λ (s : Crossing). s.level) c.step.view_is in
    begun_filed c.args.step.now c.args.v c.loop-i.i c.args.told.now c.loop-i.told c.args.meetings.now c.loop-i.meetings (omega (arith, c.loop-i-test.false, ap length c.requires.above ∙ length-with_levels c.args.step.now.levels.stored (above_near c.args.step.now c.args.v))) (omega (arith, c.step.invariant.small, level)) c.loop-i.invariant
