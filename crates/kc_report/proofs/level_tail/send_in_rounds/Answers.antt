use Rattle.std.proofs.Common.{◌<◌, ◌≡◌, ◌∙◌, ◌*◌, ◌+◌, min, length, refl, sym, subst, arith, rules}
use Rattle.std.specs.Prelude.{IfOk}
use Rattle.std.proofs.lemmas.Result.{err_from_is_err_and}
use Rattle.kc_report.specs.private.Tails.{line_of, count_of, AreLinesOf}
use Rattle.kc_report.proofs.VertexLemmas.{no_lines, some_lines, piece_failed, piece_written}
use Rattle.kc_report.proofs.level_tail.send_in_rounds.Goals as goal

pub loop-sent-init : goal.loop-sent-init
loop-sent-init g c = record { taken = no_lines (line_of c.args.tail.now) _ _ (omega arith); faults = refl; within = omega arith }

pub returns-in_err-texts-clause-text : goal.returns-in_err-texts-clause-text
returns-in_err-texts-clause-text g c =
    let p = err_from_is_err_and c.from_residual.result c.from_residual.ensures.1 in
    rw p.1 (some_lines (line_of c.args.tail.now) _ _ _ (count_of c.args.tail.now) (omega arith) c.loop-sent.invariant.taken)

pub returns-in_err-put_piece-clause-text : goal.returns-in_err-put_piece-clause-text
returns-in_err-put_piece-clause-text g c =
    let p = err_from_is_err_and c.from_residual-in_err-put_piece.result c.from_residual-in_err-put_piece.ensures.1 in
    let line = line_of c.args.tail.now in
    let n = count_of c.args.tail.now in
    let i = c.loop-text.text-index in
    let piece = c.loop-sent.sent + i in
    let within : i < length c.in_ok-texts.texts.items = search rules in
    let given = (c.in_ok-texts.ensures.each i c.text-item.result (omega (arith, within, c.in_ok-texts.ensures.len))).1 in
    let are : IfOk c.text-item.result (AreLinesOf line (piece * 8192) (min (piece * 8192 + 8192) n)) = subst (λ x. IfOk x (AreLinesOf line (piece * 8192) (min (piece * 8192 + 8192) n))) (sym (rw c.deref-text-items.ensures.value at c.text-item.is)) given.met in
    let start : min (c.loop-text.sent * 8192) n ≡ piece * 8192 = omega (arith, within, c.in_ok-texts.ensures.len, c.min.ensures, c.div_ceil-pieces.ensures, c.loop-text.invariant.counted, c.requires.ready.levels.1) in
    rw p.1 (piece_failed line _ _ _ (piece * 8192) (min (piece * 8192 + 8192) n) n c.text-item.result (omega (arith, start)) (omega arith) (rw start at c.loop-text.invariant.taken) are c.in_err-put_piece.ensures.text)

pub loop-text-preserved : goal.loop-text-preserved
loop-text-preserved g c =
    let line = line_of c.args.tail.now in
    let n = count_of c.args.tail.now in
    let i = c.loop-text.text-index in
    let piece = c.loop-sent.sent + i in
    let within : i < length c.in_ok-texts.texts.items = search rules in
    let given = (c.in_ok-texts.ensures.each i c.text-item.result (omega (arith, within, c.in_ok-texts.ensures.len))).1 in
    let are : IfOk c.text-item.result (AreLinesOf line (piece * 8192) (min (piece * 8192 + 8192) n)) = subst (λ x. IfOk x (AreLinesOf line (piece * 8192) (min (piece * 8192 + 8192) n))) (sym (rw c.deref-text-items.ensures.value at c.text-item.is)) given.met in
    let start : min (c.loop-text.sent * 8192) n ≡ piece * 8192 = omega (arith, within, c.in_ok-texts.ensures.len, c.min.ensures, c.div_ceil-pieces.ensures, c.loop-text.invariant.counted, c.requires.ready.levels.1) in
    let next : min ((c.loop-text.sent + 1) * 8192) n ≡ min (piece * 8192 + 8192) n = omega (arith, c.loop-text.invariant.counted) in
    record {
      taken = rw next (piece_written line _ _ _ (piece * 8192) (min (piece * 8192 + 8192) n) c.text-item.result c.in_ok-put_piece.ensures.made (rw start at c.loop-text.invariant.taken) are c.in_ok-put_piece.ensures.text);
      faults = c.in_ok-put_piece.ensures.cause ∙ c.loop-text.invariant.faults;
      counted = omega (arith, c.loop-text.invariant.counted);
    }
