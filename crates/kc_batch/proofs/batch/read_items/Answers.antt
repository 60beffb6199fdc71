use Rattle.std.proofs.Common.{arith, ◌≡◌, true, ◌∙◌, refl, sym, ap, nat_le}
use Rattle.std.proofs.lemmas.List.Elements.{All-weaker}
use Rattle.kc_batch.specs.private.Tokens.{onto_token}
use Rattle.kc_graph.specs.Cleaning.{IsInside}
use Rattle.kc_batch.specs.Turns.{is_inside}
use Rattle.kc_batch.specs.Batches.{Within, batch_from, with_next}
use Rattle.kc_batch.proofs.BatchRanges.{inside_is, one_more}
use Rattle.kc_batch.proofs.Saying.{takes_le}
use Rattle.kc_batch.proofs.Stepping.{step_on, step_last, passed_over, items_add, items_close, items_pass, items_stop, stopping_turn}
use Rattle.kc_batch.proofs.batch.read_items.Goals as goal

pub loop-e-init : goal.loop-e-init
loop-e-init g c =
    let a = c.args.ahead in
    record {
      same = refl;
      are = record { few = a.few; inside = All-weaker (λ item. is_inside a.rules.n item ≡ true) (IsInside a.rules.n) (inside_is a.rules.n) a.items a.inside; allowed = a.allowed };
      budget = omega arith;
      taken = refl;
      read_faults = refl;
      write_faults = refl;
    }

pub loop-e-preserved : goal.loop-e-preserved
loop-e-preserved g c =
    let t = c.in_ok-token.token in
    let s = c.in_ok-token.ensures in
    let now = c.in-Ok.ensures.ok in
    let full = ap (nat_le c.args.ahead.rules.item_limit) c.len.ensures in
    record {
      same = c.loop-e.invariant.same ∙ c.in_default.ensures.adds.batch _ ∙ step_on (batch_from c.args.ahead.rules (Within c.add_items.new.items)) (batch_from c.args.ahead.rules (Within c.push.new.self)) (onto_token t) _ _ s.token
          (λ rest. rw now (items_add c.args.ahead.rules c.add_items.new.items t c.in-Add.item _ full (sym c.turn_at.ensures.turn ∙ c.in-Add.is) rest));
      are = rw now (one_more c.args.ahead.rules c.add_items.new.items c.in-Add.item _ full c.in_default.ensures.items (rw c.in-Add.is at c.turn_at.ensures.sound));
      budget = omega (arith, takes_le _ _ _ s.takes, c.add_items.ensures.budget, c.loop-e.invariant.budget);
      taken = s.taken ∙ c.loop-e.invariant.taken;
      read_faults = s.cause.0 ∙ c.loop-e.invariant.read_faults;
      write_faults = s.cause.1 ∙ c.loop-e.invariant.write_faults;
    }

pub returns-in-Close-clause-batch : goal.returns-in-Close-clause-batch
returns-in-Close-clause-batch g c =
    let t = c.in_ok-token.token in
    let s = c.in_ok-token.ensures in
    c.loop-e.invariant.same ∙ c.in_default.ensures.adds.batch _ ∙ step_on (batch_from c.args.ahead.rules (Within c.add_items.new.items)) (with_next _) (onto_token t) _ _ s.token
    (items_close c.args.ahead.rules c.add_items.new.items t _ (ap (nat_le c.args.ahead.rules.item_limit) c.len.ensures) (sym c.turn_at.ensures.turn ∙ c.in-Close.is))

pub returns-in-Stop-clause-batch : goal.returns-in-Stop-clause-batch
returns-in-Stop-clause-batch g c =
    let t = c.in_ok-token.token in
    let s = c.in_ok-token.ensures in
    let k = sym c.turn_at.ensures.turn ∙ c.in-Stop.is in
    let l = stopping_turn c.args.ahead.rules _ t.kind c.in-Stop.reason k in
    c.loop-e.invariant.same ∙ c.in_default.ensures.adds.batch _ ∙ step_last (batch_from c.args.ahead.rules (Within c.add_items.new.items)) (with_next _) t _ _ s.token (s.last l.0) l.1
    (items_stop c.args.ahead.rules c.add_items.new.items t _ c.in-Stop.reason (ap (nat_le c.args.ahead.rules.item_limit) c.len.ensures) k)

pub returns-in-Pass-clause-batch : goal.returns-in-Pass-clause-batch
returns-in-Pass-clause-batch g c =
    let t = c.in_ok-token.token in
    let s = c.in_ok-token.ensures in
    c.loop-e.invariant.same ∙ c.in_default.ensures.adds.batch _ ∙ passed_over (batch_from c.args.ahead.rules (Within c.add_items.new.items)) _ t _ _ _ s.token
    (items_pass c.args.ahead.rules c.add_items.new.items t _ c.in-Pass.reason (ap (nat_le c.args.ahead.rules.item_limit) c.len.ensures) (sym c.turn_at.ensures.turn ∙ c.in-Pass.is)) c.in_ok-pass_to_end-in-Pass.ensures.passed
