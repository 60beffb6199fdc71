use Rattle.std.proofs.Common.{refl, ◌++◌, length}
use Rattle.std.specs.Prelude.{codes}
use Rattle.std.proofs.lemmas.Result.{err_from_is_err_and}
use Rattle.kc_cert.specs.Texts.{profile_word}
use Rattle.kc_cert.proofs.LineTexts.{head_is}
use Rattle.kc_cert.proofs.Written.{writes_start, writes_on, writes_fault, writes_last}
use Rattle.kc_cert.proofs.write.write_head.Goals as goal

pub returns-in_err-write_text-clause-text : goal.returns-in_err-write_text-clause-text
returns-in_err-write_text-clause-text g c =
    let p = err_from_is_err_and c.from_residual.result c.from_residual.ensures.1 in
    let whole = head_is c.args.profile c.args.graph.now (codes "profile " ++ profile_word c.args.profile) c.args.graph.now.vertices (length c.args.graph.now.edges) refl refl refl in
    rw p.1 (writes_fault _ _ _ _ _ _ _ whole (writes_start _ _) c.in_err-write_text.ensures.text)

pub returns-in_err-write_text-2-clause-text : goal.returns-in_err-write_text-2-clause-text
returns-in_err-write_text-2-clause-text g c =
    let p = err_from_is_err_and c.from_residual-in_err-write_text-2.result c.from_residual-in_err-write_text-2.ensures.1 in
    let whole = head_is c.args.profile c.args.graph.now c.profile_text.result.now c.args.graph.now.vertices (length c.args.graph.now.edges) c.profile_text.ensures refl refl in
    let w1 = writes_on _ _ _ _ _ _ _ whole (writes_start _ _) c.in_ok-write_text.ensures.text in
    rw p.1 (writes_fault _ _ _ _ _ _ _ refl w1 c.in_err-write_text-2.ensures.text)

pub returns-in_err-write_named-clause-text : goal.returns-in_err-write_named-clause-text
returns-in_err-write_named-clause-text g c =
    let p = err_from_is_err_and c.from_residual-in_err-write_named.result c.from_residual-in_err-write_named.ensures.1 in
    let whole = head_is c.args.profile c.args.graph.now c.profile_text.result.now c.vertices.result (length c.args.graph.now.edges) c.profile_text.ensures c.vertices.ensures.count refl in
    let w1 = writes_on _ _ _ _ _ _ _ whole (writes_start _ _) c.in_ok-write_text.ensures.text in
    let w2 = writes_on _ _ _ _ _ _ _ refl w1 c.in_ok-write_text-2.ensures.text in
    rw p.1 (writes_fault _ _ _ _ _ _ _ refl w2 c.in_err-write_named.ensures.text)

pub returns-clause-text : goal.returns-clause-text
returns-clause-text g c =
    let whole = head_is c.args.profile c.args.graph.now c.profile_text.result.now c.vertices.result c.edge_count.result c.profile_text.ensures c.vertices.ensures.count c.edge_count.ensures.count in
    let w1 = writes_on _ _ _ _ _ _ _ whole (writes_start _ _) c.in_ok-write_text.ensures.text in
    let w2 = writes_on _ _ _ _ _ _ _ refl w1 c.in_ok-write_text-2.ensures.text in
    let w3 = writes_on _ _ _ _ _ _ _ refl w2 c.in_ok-write_named.ensures.text in
    writes_last _ _ _ _ _ _ c.write_named-2.result refl w3 c.write_named-2.ensures.text
