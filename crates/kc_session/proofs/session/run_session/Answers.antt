use Rattle.std.proofs.Common.{sym, ◌∙◌}
use Rattle.std.proofs.lemmas.Bool.{eqb-true}
use Rattle.std.proofs.lemmas.List.{nil_from_length}
use Rattle.std.proofs.lemmas.Result.{err_from_is_err_and}
use Rattle.kc_batch.specs.Tokens.{tokens_left}
use Rattle.kc_session.proofs.SessionTexts.{head_prefix, after_head, without_asks}
use Rattle.kc_session.proofs.session.run_session.Goals as goal

pub returns-in_err-write_head-clause-text : goal.returns-in_err-write_head-clause-text
returns-in_err-write_head-clause-text g c =
    let p = err_from_is_err_and c.from_residual.result c.from_residual.ensures.1 in
    rw (p.1, ← c.header.view_is) (head_prefix (record { profile = c.header.inside.profile; n = c.header.inside.n; asks = c.header.inside.asks }) (tokens_left c.args.reader (g.S.Source.left c.args.src.now)) _ _ p.0 c.in_err-write_head.ensures.text)

pub run_beside_readers-requires-clause-asks : goal.run_beside_readers-requires-clause-asks
run_beside_readers-requires-clause-asks g c κs within = record { few = c.header.invariant.few; each = c.header.invariant.asks }

pub returns-then-is_empty-clause-text : goal.returns-then-is_empty-clause-text
returns-then-is_empty-clause-text g c =
    let none = sym c.as_slice.ensures ∙ nil_from_length _ (eqb-true _ 0 (sym c.is_empty.ensures ∙ c.if-is_empty.true)) in
    let body = without_asks c.header.inside.profile c.header.inside.n c.header.inside.asks _ _ _ _ none c.run_without_readers.ensures.text in
    rw (← c.header.view_is) (after_head (record { profile = c.header.inside.profile; n = c.header.inside.n; asks = c.header.inside.asks }) _ _ _ _ _ c.in_ok-write_head.ensures.text body)

pub returns-clause-text : goal.returns-clause-text
returns-clause-text g c =
    rw (← c.header.view_is) (after_head (record { profile = c.header.inside.profile; n = c.header.inside.n; asks = c.header.inside.asks }) _ _ _ _ _ c.in_ok-write_head.ensures.text c.run_beside_readers.ensures.text)
