use Rattle.std.proofs.Common.{ℕ, ◌≡◌, List, ◌∙◌, refl, subst}
use Rattle.std.proofs.lemmas.Result.{err_from_is_err_and}
use Rattle.std.specs.Io.KnownBytes.{append_known}
use Rattle.kc_text.specs.Writing.{IsPrefix}
use Rattle.kc_text.proofs.lemmas.Writing.{append_twice, prefix_all, prefix_longer, prefix_then}
use Rattle.kc_report.specs.VertexLines.{tail_text}
use Rattle.kc_session.specs.ReaderLines.{reader_lines}
use Rattle.kc_session.proofs.LastLines.{last_levels}
use Rattle.kc_session.proofs.session.write_rest.Goals as goal

pub returns-in_err-write_readers-clause-text : goal.returns-in_err-write_readers-clause-text
returns-in_err-write_readers-clause-text g c =
    let p = err_from_is_err_and c.from_residual.result c.from_residual.ensures.1 in
    rw p.1 (prefix_longer _ _ (reader_lines 0 c.args.lists.now) _ c.in_err-write_readers.ensures.text)

pub returns-in_err-levels-clause-text : goal.returns-in_err-levels-clause-text
returns-in_err-levels-clause-text g c =
    let p = err_from_is_err_and c.from_residual-in_err-levels.result c.from_residual-in_err-levels.ensures.1 in
    rw p.1 (prefix_longer _ _ (reader_lines 0 c.args.lists.now) _ (prefix_all _ _ _ c.in_ok-write_readers.ensures.text))

pub write_tail-requires-clause-levels : goal.write_tail-requires-clause-levels
write_tail-requires-clause-levels g c = rw c.as_slice.ensures.value (λ κs h. last_levels c.args.writer.now.state c.args.engine.now.state c.args.engine.now.state.graph.vertices c.args.store.now.vertices c.in_ok-levels.levels.items c.requires.abreast refl c.requires.size c.in_ok-levels.ensures.levels)

pub returns-in_err-write_tail-clause-text : goal.returns-in_err-write_tail-clause-text
returns-in_err-write_tail-clause-text g c =
    let levels = c.as_slice.ensures.value ∙ last_levels c.args.writer.now.state c.args.engine.now.state c.args.engine.now.state.graph.vertices c.args.store.now.vertices c.in_ok-levels.levels.items c.requires.abreast refl c.requires.size c.in_ok-levels.ensures.levels in
    let p = err_from_is_err_and c.from_residual-in_err-write_tail.result c.from_residual-in_err-write_tail.ensures.1 in
    rw p.1 (prefix_then _ _ _ (reader_lines 0 c.args.lists.now) _ c.in_ok-write_readers.ensures.text (subst (λ (x : List ℕ). IsPrefix (g.K.Sink.taken c.write_readers.new.sink) (g.K.Sink.taken c.write_tail.new.sink) (tail_text c.args.engine.now.state.profile c.args.engine.now.state.graph x)) levels c.in_err-write_tail.ensures.text))

pub returns-clause-text : goal.returns-clause-text
returns-clause-text g c =
    let levels = c.as_slice.ensures.value ∙ last_levels c.args.writer.now.state c.args.engine.now.state c.args.engine.now.state.graph.vertices c.args.store.now.vertices c.in_ok-levels.levels.items c.requires.abreast refl c.requires.size c.in_ok-levels.ensures.levels in
    append_twice _ _ _ (reader_lines 0 c.args.lists.now) _ c.in_ok-write_readers.ensures.text (subst (λ (x : List ℕ). g.K.Sink.taken c.write_tail.new.sink ≡ append_known (g.K.Sink.taken c.write_readers.new.sink) (tail_text c.args.engine.now.state.profile c.args.engine.now.state.graph x)) levels c.in_ok-write_tail.ensures.text)

pub returns-clause-levels : goal.returns-clause-levels
returns-clause-levels g c = last_levels c.args.writer.now.state c.args.engine.now.state c.args.engine.now.state.graph.vertices c.args.store.now.vertices c.in_ok-levels.levels.items c.requires.abreast refl c.requires.size c.in_ok-levels.ensures.levels
