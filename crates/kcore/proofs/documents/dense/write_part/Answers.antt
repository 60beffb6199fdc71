use Rattle.std.proofs.Common.{◌∙◌, refl, length, get_or}
use Rattle.std.specs.List.{flat_map}
use Rattle.std.proofs.lemmas.Result.{err_from_is_err_and}
use Rattle.kc_text.proofs.lemmas.Writing.{prefix_longer, prefix_none}
use Rattle.kc_report.proofs.lemmas.Lines.{sent_prefix, sent_whole}
use Rattle.kc_report.proofs.lemmas.Texts.{none_after, more_after, prefix_after}
use Rattle.kcore.specs.DenseLines.{size_line, member_line}
use Rattle.kcore.proofs.documents.dense.write_part.Goals as goal

pub returns-in_err-send_to-clause-text : goal.returns-in_err-send_to-clause-text
returns-in_err-send_to-clause-text g c =
    let p = err_from_is_err_and c.from_residual-in_err-send_to.result c.from_residual-in_err-send_to.ensures.1 in
    rw (p.1, ← c.as_slice-members.ensures.value) (prefix_longer _ _ (size_line (length c.as_slice-members.result.now) c.args.part.now.edges) (flat_map member_line c.as_slice-members.result.now) (sent_prefix _ _ _ _ c.send_to.result c.in_ok-fill_size.ensures c.send_to.ensures.sent))

pub loop-v-init : goal.loop-v-init
loop-v-init g c = record {
  taken = none_after _ _ (size_line (length c.as_slice-members.result.now) c.args.part.now.edges) (sent_whole _ _ _ _ c.in_ok-fill_size.ensures c.in_ok-send_to.ensures.sent);
  faults = c.in_ok-send_to.ensures.cause;
}

pub returns-in_err-fill_member-clause-text : goal.returns-in_err-fill_member-clause-text
returns-in_err-fill_member-clause-text g c =
    let p = err_from_is_err_and c.from_residual-in_err-fill_member.result c.from_residual-in_err-fill_member.ensures.1 in
    rw (p.1, ← c.as_slice-members.ensures.value)
    (prefix_after (size_line (length c.as_slice-members.result.now) c.args.part.now.edges) member_line c.as_slice-members.result.now c.loop-v.v-index 0 (get_or c.as_slice-members.result.now c.loop-v.v-index 0) _ _ _ c.loop-v-test.true refl c.loop-v.invariant.taken (prefix_none _ _ _ refl))

pub returns-in_err-send_to-2-clause-text : goal.returns-in_err-send_to-2-clause-text
returns-in_err-send_to-2-clause-text g c =
    let p = err_from_is_err_and c.from_residual-in_err-send_to-2.result c.from_residual-in_err-send_to-2.ensures.1 in
    rw (p.1, ← c.as_slice-members.ensures.value)
    (prefix_after (size_line (length c.as_slice-members.result.now) c.args.part.now.edges) member_line c.as_slice-members.result.now c.loop-v.v-index 0 (get_or c.as_slice-members.result.now c.loop-v.v-index 0) _ _ _ c.loop-v-test.true refl c.loop-v.invariant.taken (sent_prefix _ _ _ _ c.send_to-in-loop-v.result c.in_ok-fill_member.ensures c.send_to-in-loop-v.ensures.sent))

pub loop-v-preserved : goal.loop-v-preserved
loop-v-preserved g c = record {
  taken = more_after (size_line (length c.as_slice-members.result.now) c.args.part.now.edges) member_line c.as_slice-members.result.now c.loop-v.v-index 0 (get_or c.as_slice-members.result.now c.loop-v.v-index 0) _ _ _ c.loop-v-test.true refl c.loop-v.invariant.taken (sent_whole _ _ _ _ c.in_ok-fill_member.ensures c.in_ok-send_to-2.ensures.sent);
  faults = c.in_ok-send_to-2.ensures.cause ∙ c.loop-v.invariant.faults;
}
