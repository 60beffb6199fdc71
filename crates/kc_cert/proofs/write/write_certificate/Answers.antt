use Rattle.std.proofs.Common.{refl}
use Rattle.std.proofs.lemmas.Result.{err_from_is_err_and}
use Rattle.kc_cert.proofs.LineTexts.{certificate_is}
use Rattle.kc_cert.proofs.Written.{writes_start, writes_on, writes_fault, writes_last}
use Rattle.kc_cert.proofs.write.write_certificate.Goals as goal

pub returns-in_err-write_head-clause-text : goal.returns-in_err-write_head-clause-text
returns-in_err-write_head-clause-text g c =
    let p = err_from_is_err_and c.from_residual.result c.from_residual.ensures.1 in
    let whole = certificate_is c.args.profile c.args.graph.now c.args.levels.now in
    rw p.1 (writes_fault _ _ _ _ _ _ _ whole (writes_start _ _) c.in_err-write_head.ensures.text)

pub returns-in_err-write_edges-clause-text : goal.returns-in_err-write_edges-clause-text
returns-in_err-write_edges-clause-text g c =
    let p = err_from_is_err_and c.from_residual-in_err-write_edges.result c.from_residual-in_err-write_edges.ensures.1 in
    let whole = certificate_is c.args.profile c.args.graph.now c.args.levels.now in
    let w1 = writes_on _ _ _ _ _ _ _ whole (writes_start _ _) c.in_ok-write_head.ensures.text in
    rw p.1 (writes_fault _ _ _ _ _ _ _ refl w1 c.in_err-write_edges.ensures.text)

pub returns-in_err-write_levels-clause-text : goal.returns-in_err-write_levels-clause-text
returns-in_err-write_levels-clause-text g c =
    let p = err_from_is_err_and c.from_residual-in_err-write_levels.result c.from_residual-in_err-write_levels.ensures.1 in
    let whole = certificate_is c.args.profile c.args.graph.now c.args.levels.now in
    let w1 = writes_on _ _ _ _ _ _ _ whole (writes_start _ _) c.in_ok-write_head.ensures.text in
    let w2 = writes_on _ _ _ _ _ _ _ refl w1 c.in_ok-write_edges.ensures.text in
    rw p.1 (writes_fault _ _ _ _ _ _ _ refl w2 c.in_err-write_levels.ensures.text)

pub returns-clause-text : goal.returns-clause-text
returns-clause-text g c =
    let whole = certificate_is c.args.profile c.args.graph.now c.args.levels.now in
    let w1 = writes_on _ _ _ _ _ _ _ whole (writes_start _ _) c.in_ok-write_head.ensures.text in
    let w2 = writes_on _ _ _ _ _ _ _ refl w1 c.in_ok-write_edges.ensures.text in
    let w3 = writes_on _ _ _ _ _ _ _ refl w2 c.in_ok-write_levels.ensures.text in
    writes_last _ _ _ _ _ _ c.write_text.result refl w3 c.write_text.ensures.text
