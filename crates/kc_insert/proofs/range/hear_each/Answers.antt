use Rattle.std.proofs.Common.{◌≡◌, [], get_or, sym, ap, ◌∙◌, arith}
use Rattle.kc_graph.specs.Numbers.{has_number}
use Rattle.kc_insert.specs.private.Telling.{times}
use Rattle.kc_insert.specs.Ranges.{Tell}
use Rattle.kc_insert.proofs.Hearing.{here, heard_first, less_held, less_enough, less_next, less_last}
use Rattle.kc_insert.proofs.range.hear_each.Goals as goal

pub loop-i-init : goal.loop-i-init
loop-i-init c = heard_first c.args.own c.args.told.now c.args.watched.now

pub lessen_all-requires-clause-held : goal.lessen_all-requires-clause-held
lessen_all-requires-clause-held c =
    let is : here c.args.own c.args.told.now c.loop-i.i c.index-told-i.result (omega arith) ≡ c.of_range.result.now = ap (λ (t : Tell). get_or t.lists c.args.own []) (sym c.index-told-i.is) ∙ sym c.of_range.ensures in
    λ v there. less_held c.args.own c.args.told.now c.loop-i.i c.index-told-i.result (omega arith) _ _ c.requires.held c.requires.enough c.loop-i.invariant v (ap (has_number v) is ∙ there)

pub lessen_all-requires-clause-enough : goal.lessen_all-requires-clause-enough
lessen_all-requires-clause-enough c =
    let is : here c.args.own c.args.told.now c.loop-i.i c.index-told-i.result (omega arith) ≡ c.of_range.result.now = ap (λ (t : Tell). get_or t.lists c.args.own []) (sym c.index-told-i.is) ∙ sym c.of_range.ensures in
    λ v. omega (arith, ap (times v) is, less_enough c.args.own c.args.told.now c.loop-i.i c.index-told-i.result (omega arith) _ _ c.requires.held c.requires.enough c.loop-i.invariant v)

pub loop-i-preserved : goal.loop-i-preserved
loop-i-preserved c =
    let is : here c.args.own c.args.told.now c.loop-i.i c.index-told-i.result (omega arith) ≡ c.of_range.result.now = ap (λ (t : Tell). get_or t.lists c.args.own []) (sym c.index-told-i.is) ∙ sym c.of_range.ensures in
    less_next c.args.own c.args.told.now c.loop-i.i c.index-told-i.result (omega arith) _ _ c.requires.held c.requires.enough c.loop-i.invariant _ (λ v from. omega (arith, ap (times v) is, c.in_ok-lessen_all.ensures.less v from)) c.in_ok-lessen_all.ensures.watched

pub returns-clause-less : goal.returns-clause-less
returns-clause-less c = less_last c.args.own c.args.told.now c.loop-i.i _ _ (omega arith) c.loop-i.invariant
