use Rattle.std.proofs.Common.{◌∙◌, sym, arith, [], ◌∷◌, length-append}
use Rattle.std.proofs.lemmas.List.Elements.{All-push}
use Rattle.kc_text.specs.Reading.{onto}
use Rattle.kc_batch.specs.Headers.{asks_from, Accepted, refused_at, IsAsk}
use Rattle.kc_text.proofs.lemmas.Kept.{told_goes}
use Rattle.kc_batch.proofs.Stepping.{step_on}
use Rattle.kc_batch.proofs.Asking.{step_back, ask_missing, ask_refused, ask_there, takes_ask, takes_no_less}
use Rattle.kc_batch.proofs.header.read_asks.Goals as goal

pub returns-then-not-is_ask-clause-header : goal.returns-then-not-is_ask-clause-header
returns-then-not-is_ask-clause-header g c =
    let line = c.in_ok-line.line in
    let missing = rw c.text_of-text.ensures at (sym c.is_ask.ensures ∙ c.if-not-is_ask.true) in
    c.loop-asks.invariant.same ∙ step_back (asks_from c.args.profile c.args.n c.loop-asks.asks) (Accepted (record { profile = c.args.profile; n = c.args.n; asks = c.loop-asks.asks })) line _ _ _
    c.in_ok-line.ensures.line (told_goes line _ _ c.in_ok-line.ensures.kept (c.put_back.ensures.left (g.S.Source.left c.next_kept.new.src))) (ask_missing c.args.profile c.args.n c.loop-asks.asks line missing)

pub returns-then-not-is_ask-clause-budget : goal.returns-then-not-is_ask-clause-budget
returns-then-not-is_ask-clause-budget g c =
    omega (arith, c.put_back.ensures.budget, takes_no_less c.in_ok-line.line.body _ _ c.in_ok-line.ensures.takes, c.loop-asks.invariant.budget)

pub returns-in-None-clause-header : goal.returns-in-None-clause-header
returns-in-None-clause-header g c =
    let line = c.in_ok-line.line in
    let there = rw c.text_of-text.ensures at (sym c.is_ask.ensures ∙ c.if-not-is_ask.false) in
    let none = rw (c.in-None.is, c.text_of-text.ensures, c.len.ensures) at c.in_ok-ask.ensures.ask in
    c.loop-asks.invariant.same ∙ step_on (asks_from c.args.profile c.args.n c.loop-asks.asks) (refused_at line.number) (onto line) _ _ c.in_ok-line.ensures.line (ask_refused c.args.profile c.args.n c.loop-asks.asks line there (sym none))

pub loop-asks-preserved-in_ok-push-in-Some : goal.loop-asks-preserved-in_ok-push-in-Some
loop-asks-preserved-in_ok-push-in-Some g c =
    let line = c.in_ok-line.line in
    let ask = c.in-Some.ask in
    let now = c.in_ok-push-in-Some.ensures.ok in
    let there = rw c.text_of-text.ensures at (sym c.is_ask.ensures ∙ c.if-not-is_ask.false) in
    let found = rw (c.in-Some.is, c.text_of-text.ensures, c.len.ensures) at c.in_ok-ask.ensures.ask in
    let fits = rw c.in-Some.is at c.in_ok-ask.ensures.fits in
    let few = rw (c.in-Some.is, c.len.ensures) at c.in_ok-ask.ensures.few in
    record {
      same = c.loop-asks.invariant.same ∙ step_on (asks_from c.args.profile c.args.n c.loop-asks.asks) (asks_from c.args.profile c.args.n c.push.new.self) (onto line) _ _ c.in_ok-line.ensures.line
          (λ rest. rw now (ask_there c.args.profile c.args.n c.loop-asks.asks line ask there (sym found) rest));
      few = rw (now, length-append c.loop-asks.asks (ask ∷ [])) (omega (arith, few));
      asks = rw now (All-push (IsAsk c.args.n) c.loop-asks.asks ask c.loop-asks.invariant.asks fits);
      budget = omega (arith, takes_no_less line.body _ _ c.in_ok-line.ensures.takes, c.loop-asks.invariant.budget);
      faults = c.in_ok-line.ensures.cause ∙ c.loop-asks.invariant.faults;
    }

pub loop-asks-preserved : goal.loop-asks-preserved
loop-asks-preserved g c =
    let line = c.in_ok-line.line in
    let ask = c.in-Some.ask in
    let now = c.in_ok-push-in-Some.ensures.ok in
    let there = rw c.text_of-text.ensures at (sym c.is_ask.ensures ∙ c.if-not-is_ask.false) in
    let found = rw (c.in-Some.is, c.text_of-text.ensures, c.len.ensures) at c.in_ok-ask.ensures.ask in
    let fits = rw c.in-Some.is at c.in_ok-ask.ensures.fits in
    let few = rw (c.in-Some.is, c.len.ensures) at c.in_ok-ask.ensures.few in
    record {
      same = c.loop-asks.invariant.same ∙ step_on (asks_from c.args.profile c.args.n c.loop-asks.asks) (asks_from c.args.profile c.args.n c.push.new.self) (onto line) _ _ c.in_ok-line.ensures.line
          (λ rest. rw now (ask_there c.args.profile c.args.n c.loop-asks.asks line ask there (sym found) rest));
      few = rw (now, length-append c.loop-asks.asks (ask ∷ [])) (omega (arith, few));
      asks = rw now (All-push (IsAsk c.args.n) c.loop-asks.asks ask c.loop-asks.invariant.asks fits);
      budget = omega (arith, takes_no_less line.body _ _ c.in_ok-line.ensures.takes, c.loop-asks.invariant.budget);
      faults = c.in_ok-line.ensures.cause ∙ c.loop-asks.invariant.faults;
    }

pub loop-asks-smaller : goal.loop-asks-smaller
loop-asks-smaller g c =
    let there = rw c.text_of-text.ensures at (sym c.is_ask.ensures ∙ c.if-not-is_ask.false) in
    takes_ask c.in_ok-line.line.body _ _ there c.in_ok-line.ensures.takes
