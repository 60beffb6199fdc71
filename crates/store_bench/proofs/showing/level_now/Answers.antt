use Rattle.std.proofs.Common.{List, ap, subst, ◌∙◌}
use mathlib.Core.List.{IsPrefix}
use Rattle.kc_history.specs.declared.entries.Entry.{Entry}
use Rattle.kc_store.specs.States.{last_level}
use Rattle.store_bench.proofs.Shows.{begin_each_other}
use Rattle.store_bench.proofs.showing.level_now.Goals as goal

pub returns-clause-level : goal.returns-clause-level
returns-clause-level c =
    let first = ap (λ z. z.seen) c.pass-pass.ensures.pass in
    let history = ap (λ z. z.state.history) c.take_in.ensures.same ∙ ap (λ z. z.state.history) c.pass-pass.ensures.same in
    let later = subst (λ (es : List Entry). IsPrefix es c.read-level.new.pass.seen) first c.read-level.ensures.later in
    let within = subst (λ (es : List Entry). IsPrefix c.read-level.new.pass.seen es) history c.take_in.ensures.seen in
    ap (λ (es : List Entry). last_level c.args.store.now.vertices es c.args.v) (begin_each_other _ _ later within) ∙ c.read-level.ensures.level
