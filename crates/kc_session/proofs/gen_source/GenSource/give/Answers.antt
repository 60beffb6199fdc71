use Rattle.std.proofs.Common.{ℕ, ◌≡◌, ◌-◌, List, length, take, drop, ap, sym, ◌∙◌, length-drop}
use Rattle.std.specs.Prelude.{min}
use Rattle.std.proofs.lemmas.List.{take_rest}
use Rattle.kc_text.specs.Printing.{printed}
use Rattle.kc_session.specs.Generating.{words_left}
use Rattle.kc_session.proofs.LoadLemmas.{part_given, all_given}
use Rattle.kc_session.proofs.gen_source.GenSource.give.Goals as goal

pub returns-clause-given : goal.returns-clause-given
returns-clause-given c =
    let line = c.refill-self-inside.new.line.items in
    let at = c.refill-self-inside.result in
    let count = c.copy_front-count.result in
    sym c.self.view_is ∙ c.refill-self-inside.ensures.same
    ∙ part_given line (printed (words_left c.refill-self-inside.new.generator)) (take count c.copy_front-count.new.buf) at count
    (c.copy_front-count.ensures.copied ∙ ap (λ (t : List ℕ). take count (take (length t - at) (drop at t))) c.deref.ensures.0 ∙ ap (λ (t : List ℕ). take count t) (take_rest line at))

pub returns-clause-end : goal.returns-clause-end
returns-clause-end c =
    let line = c.refill-self-inside.new.line.items in
    let at = c.refill-self-inside.result in
    let count : c.copy_front-count.result ≡ min (length line - at) (length c.args.buf.now) =
    c.copy_front-count.ensures.count ∙ ap (λ (t : List ℕ). min (length (take (length t - at) (drop at t))) (length c.args.buf.now)) c.deref.ensures.0
    ∙ ap (λ (t : List ℕ). min (length t) (length c.args.buf.now)) (take_rest line at) ∙ ap (λ (n : ℕ). min n (length c.args.buf.now)) (length-drop at line) in
    all_given c.refill-self-inside.new.generator line at c.copy_front-count.result (length c.args.buf.now) c.refill-self-inside.ensures.within count c.requires c.refill-self-inside.ensures.end
