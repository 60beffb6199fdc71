use Rattle.std.proofs.lemmas.Result.{on_ok_weaker}
use Rattle.kc_report.proofs.ReaderLemmas.{reader_filled}
use Rattle.kc_report.proofs.readers.fill_reader.Goals as goal

pub returns : goal.returns
returns c =
    on_ok_weaker c.fill_replies.result (λ replies. reader_filled c.args.reader c.args.replies.now _ _ _ c.clear.ensures c.in_ok-put_named.ensures replies) c.fill_replies.ensures
