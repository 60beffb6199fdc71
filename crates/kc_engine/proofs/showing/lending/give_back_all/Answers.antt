use Rattle.std.proofs.Common.{◌≡◌, length, List, [], ◌∷◌, sym, ap, ◌∙◌, arith, get_or, length-append}
use Rattle.std.proofs.lemmas.Grind.{common_steps}
use Rattle.std.proofs.lemmas.List.{get_or_append_left}
use Rattle.kc_store.specs.Seats.{MarkerShape, WriterShape}
use Rattle.kc_engine.specs.private.Lending.{all_returned}
use Rattle.kc_engine.proofs.Loans.{returned_last}
use Rattle.kc_engine.proofs.showing.lending.give_back_all.Goals as goal
use Rattle.kc_engine.proofs.showing.lending.give_back_all.Goals.{in-Some, in_default}

pub loop-turn-preserved : goal.loop-turn-preserved
loop-turn-preserved c = elim c.match-pop.branch [
  | in-Some w ↦ let t = w.in-Some.ensures.items in
      let h = c.loop-turn.invariant in
      let len = ap (length {A = MarkerShape}) t in
      let more = length-append c.pop.new.self.items (w.in-Some.marker ∷ []) in
      let went = w.writer-is ∙ w.give_back.ensures in (
        omega (arith, h.0, len, more),
        ap (λ (a : WriterShape). a.table) went ∙ h.1,
        (λ k d lt. ap (λ (m : MarkerShape). m.table) (sym (get_or_append_left c.pop.new.self.items (w.in-Some.marker ∷ []) d k lt) ∙ ap (λ (ms : List MarkerShape). get_or ms k d) (sym t)) ∙ h.2 k d (omega (arith, lt, len, more))),
        ap (λ (a : WriterShape). all_returned c.pop.new.self.items a.state) went ∙ (sym (returned_last c.pop.new.self.items w.in-Some.marker c.loop-turn.writer.state) ∙ (ap (λ (ms : List MarkerShape). all_returned ms c.loop-turn.writer.state) (sym t) ∙ h.3)),
        w.in-Some.ensures.capacity ∙ h.4,
      )
  | in_default w ↦ let r = w.in_default.ensures.cases.0 in let none : length c.loop-turn.markers.items ≡ 0 = grind (arith, common_steps, r) in let size = c.loop-turn.invariant.0 in let lt = c.loop-turn-test.true in let len = c.len-turn-end.ensures in absurd (omega (arith, none, size, lt, len))
]
