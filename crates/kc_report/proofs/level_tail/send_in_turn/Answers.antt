use Rattle.std.proofs.Common.{◌<◌, ◌≡◌, ◌∙◌, refl, arith}
use Rattle.std.proofs.lemmas.Result.{err_from_is_err_and}
use Rattle.kc_text.proofs.lemmas.Writing.{prefix_none}
use Rattle.kc_report.specs.VertexLines.{vertex_lines}
use Rattle.kc_report.specs.private.Tails.{line_of, count_of}
use Rattle.kc_report.proofs.VertexLemmas.{held_none, held_more, held_emptied, held_prefix, appends_held}
use Rattle.kc_report.proofs.level_tail.send_in_turn.Goals.{then-as_bytes-ge-BLOCK+in_ok-send_held, else-as_bytes-ge-BLOCK}
use Rattle.kc_report.proofs.level_tail.send_in_turn.Goals as goal

pub loop-v-init : goal.loop-v-init
loop-v-init g c = record { held = held_none _ _ _ c.clear.ensures; faults = refl }

pub returns-in_err-append_line-clause-text : goal.returns-in_err-append_line-clause-text
returns-in_err-append_line-clause-text g c =
    let p = err_from_is_err_and c.from_residual.result c.from_residual.ensures.1 in
    let within : c.loop-v.v < count_of c.args.tail.now = omega (arith, c.loop-v-test.true, c.vertices-v-end.ensures.count) in
    rw p.1 (held_prefix (line_of c.args.tail.now) _ _ _ _ _ _ (omega (arith, within)) c.loop-v.invariant.held (prefix_none _ _ _ refl))

pub returns-in_err-send_held-clause-text : goal.returns-in_err-send_held-clause-text
returns-in_err-send_held-clause-text g c =
    let p = err_from_is_err_and c.from_residual-in_err-send_held.result c.from_residual-in_err-send_held.ensures.1 in
    let within : c.loop-v.v < count_of c.args.tail.now = omega (arith, c.loop-v-test.true, c.vertices-v-end.ensures.count) in
    let more = held_more (line_of c.args.tail.now) _ _ c.loop-v.v _ _ c.loop-v.invariant.held c.in_ok-append_line.ensures in
    rw p.1 (held_prefix (line_of c.args.tail.now) _ _ _ _ _ _ (omega (arith, within)) more c.in_err-send_held.ensures.text)

pub loop-v-preserved : goal.loop-v-preserved
loop-v-preserved g c =
    let more = held_more (line_of c.args.tail.now) _ _ c.loop-v.v _ _ c.loop-v.invariant.held c.in_ok-append_line.ensures in
    elim c.if-as_bytes-ge-BLOCK.branch [
      | then-as_bytes-ge-BLOCK+in_ok-send_held w ↦ rw (w.buf-is, w.sink-is) (record {
        held = held_emptied _ _ _ _ _ _ more w.in_ok-send_held.ensures.text w.in_ok-send_held.ensures.buffer;
        faults = w.in_ok-send_held.ensures.cause ∙ c.loop-v.invariant.faults;
      })
      | else-as_bytes-ge-BLOCK w ↦ rw (w.buf-is, w.sink-is) (record { held = more; faults = c.loop-v.invariant.faults })
    ]

pub returns-clause-text : goal.returns-clause-text
returns-clause-text g c =
    let end : c.loop-v.v ≡ count_of c.args.tail.now = omega (arith, c.loop-v-test.false, c.loop-v.auto.v-end, c.vertices-v-end.ensures.count) in
    appends_held _ _ _ (vertex_lines (line_of c.args.tail.now) (count_of c.args.tail.now)) _ c.send_held-2.result (rw end at c.loop-v.invariant.held) c.send_held-2.ensures.text
