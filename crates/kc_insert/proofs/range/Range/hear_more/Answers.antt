use Rattle.std.proofs.Common.{ℕ, List, ◌≡◌, [], get_or, ap, sym, subst, ◌∙◌, arith}
use Rattle.kc_graph.specs.Numbers.{has_number}
use Rattle.kc_insert.specs.private.Parts.{HaveMet}
use Rattle.kc_insert.specs.private.Telling.{times}
use Rattle.kc_insert.specs.Ranges.{Tell}
use Rattle.kc_insert.proofs.Hearing.{here, more_held, more_small, more_next}
use Rattle.kc_insert.proofs.range.Range.hear_more.Goals as goal

pub meet_all-requires-clause-held : goal.meet_all-requires-clause-held
meet_all-requires-clause-held c =
    let is : here c.args.own c.args.told.now c.loop-i.i c.index-told-i.result (omega arith) ≡ c.of_range.result.now = ap (λ (t : Tell). get_or t.lists c.args.own []) (sym c.index-told-i.is) ∙ sym c.of_range.ensures in
    λ v there. more_held c.args.own c.args.level c.args.most c.args.told.now c.loop-i.i c.index-told-i.result (omega arith) c.args.self.now c.loop-i.self c.loop-i.invariant c.requires.held v (ap (has_number v) is ∙ there)

pub meet_all-requires-clause-small : goal.meet_all-requires-clause-small
meet_all-requires-clause-small c =
    let is : here c.args.own c.args.told.now c.loop-i.i c.index-told-i.result (omega arith) ≡ c.of_range.result.now = ap (λ (t : Tell). get_or t.lists c.args.own []) (sym c.index-told-i.is) ∙ sym c.of_range.ensures in
    λ v. omega (arith, ap (times v) is, more_small c.args.own c.args.level c.args.most c.args.told.now c.loop-i.i c.index-told-i.result (omega arith) c.args.self.now c.loop-i.self c.loop-i.invariant _ c.requires.held c.requires.small v)

pub loop-i-preserved : goal.loop-i-preserved
loop-i-preserved c =
    let is : here c.args.own c.args.told.now c.loop-i.i c.index-told-i.result (omega arith) ≡ c.of_range.result.now = ap (λ (t : Tell). get_or t.lists c.args.own []) (sym c.index-told-i.is) ∙ sym c.of_range.ensures in
    more_next c.args.own c.args.level c.args.most c.args.told.now c.loop-i.i c.index-told-i.result (omega arith) c.args.self.now c.loop-i.self c.loop-i.invariant c.meet_all.new.self (subst (λ (xs : List ℕ). HaveMet c.args.level c.args.most xs c.loop-i.self c.meet_all.new.self) (sym is) c.in_ok-meet_all.ensures)
