use Rattle.std.proofs.Common.{◌≡◌, ◌∙◌, sym, arith}
use Rattle.kc_text.specs.WholeLines.{whole_line}
use Rattle.kc_batch.proofs.NumberLines.{number_item}
use Rattle.kc_batch.proofs.Saying.{says, says_nothing, told_token, told_no_token}
use Rattle.kc_batch.proofs.token.next_token.Goals as goal

pub loop-numbers-preserved : goal.loop-numbers-preserved
loop-numbers-preserved g c =
    let e : c.as_slice.result.now ≡ c.in-Text.text = c.as_slice.ensures ∙ c.in-Text.text-is in
    let s = says_nothing c.in-Text.text (sym (rw e at c.in-None.ensures)) in
    let t = rw c.in-Text.is at c.in-Ok-next_line.ensures.takes in
    record {
      tokens = rw c.reuse.ensures (sym (told_no_token c.in-Ok-next_line.line _ _ (rw c.in-Text.is s) c.in-Ok-next_line.ensures.line) ∙ c.loop-numbers.invariant.tokens);
      budget = rw c.reuse.ensures (omega (arith, t, c.loop-numbers.invariant.budget));
      taken = c.in-Ok.ensures.taken ∙ c.loop-numbers.invariant.taken;
      read_faults = c.in-Ok-next_line.ensures.cause ∙ c.loop-numbers.invariant.read_faults;
      write_faults = c.in-Ok.ensures.quiet ∙ c.loop-numbers.invariant.write_faults;
    }

pub returns-in-Some-said-clause-token : goal.returns-in-Some-said-clause-token
returns-in-Some-said-clause-token g c =
    let e : c.as_slice.result.now ≡ c.in-Text.text = c.as_slice.ensures ∙ c.in-Text.text-is in
    let s = says c.in-Text.text c.in-Some-said.kind (sym (rw e at c.in-Some-said.ensures)) in
    rw c.reuse.ensures (sym c.loop-numbers.invariant.tokens ∙ told_token c.in-Ok-next_line.line c.in-Some-said.kind _ _ (rw c.in-Text.is s.kept) (rw c.in-Text.is s.kind) c.in-Ok-next_line.ensures.line)

pub returns-in-Some-said-clause-last : goal.returns-in-Some-said-clause-last
returns-in-Some-said-clause-last g c =
    let e : c.as_slice.result.now ≡ c.in-Text.text = c.as_slice.ensures ∙ c.in-Text.text-is in
    let s = says c.in-Text.text c.in-Some-said.kind (sym (rw e at c.in-Some-said.ensures)) in
    λ l. absurd (s.goes_on.more l)

pub loop-numbers-preserved-in_default-told : goal.loop-numbers-preserved-in_default-told
loop-numbers-preserved-in_default-told g c =
    let none = c.in_default-told.is in
    let s = says_nothing c.in-Some-whole_line.ahead.now (sym c.classify-told.ensures ∙ none) in
    let t = rw c.in-Some-whole_line.ensures.text at s in
    let line = whole_line c.pass_line-number-in-Some-whole_line.result c.in-Some-whole_line.len c.loop-numbers.reader.scan in
    record {
      tokens = sym (told_no_token line _ _ t (c.pass_line-number-in-Some-whole_line.ensures.line _)) ∙ c.loop-numbers.invariant.tokens;
      budget = omega (arith, c.pass_line-number-in-Some-whole_line.ensures.takes, c.loop-numbers.invariant.budget);
      taken = c.loop-numbers.invariant.taken;
      read_faults = c.loop-numbers.invariant.read_faults;
      write_faults = c.loop-numbers.invariant.write_faults;
    }

pub returns-in-Some-whole_line-clause-token : goal.returns-in-Some-whole_line-clause-token
returns-in-Some-whole_line-clause-token g c =
    let s = says c.in-Some-whole_line.ahead.now c.in-Some-told.kind (sym c.classify-told.ensures ∙ c.in-Some-told.is) in
    let t = rw c.in-Some-whole_line.ensures.text at s in
    let line = whole_line c.pass_line-number-in-Some-whole_line.result c.in-Some-whole_line.len c.loop-numbers.reader.scan in
    sym c.loop-numbers.invariant.tokens ∙ told_token line c.in-Some-told.kind _ _ t.kept t.kind (c.pass_line-number-in-Some-whole_line.ensures.line _)

pub returns-in-Some-whole_line-clause-last : goal.returns-in-Some-whole_line-clause-last
returns-in-Some-whole_line-clause-last g c =
    let s = says c.in-Some-whole_line.ahead.now c.in-Some-told.kind (sym c.classify-told.ensures ∙ c.in-Some-told.is) in
    λ l. absurd (s.goes_on.more l)

pub returns-in-Some-clause-token : goal.returns-in-Some-clause-token
returns-in-Some-clause-token g c =
    let s = number_item _ _ _ _ c.in-Some.ensures.says in
    let line = whole_line c.pass_line-number.result c.in-Some.numbers.len c.loop-numbers.reader.scan in
    rw c.item_of.ensures (sym c.loop-numbers.invariant.tokens ∙ told_token line _ _ _ s.kept s.kind (c.pass_line-number.ensures.line _))
