use Rattle.std.proofs.lemmas.Result.{on_ok_weaker}
use Rattle.kcore.proofs.DenseLineLemmas.{member_filled}
use Rattle.kcore.proofs.documents.dense.fill_member.Goals as goal

pub returns : goal.returns
returns c = on_ok_weaker c.put_named.result (λ v. member_filled c.args.v _ _ c.clear.ensures v) c.put_named.ensures
