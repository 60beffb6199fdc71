use Rattle.std.proofs.Common.{ℕ, ◌≡◌, List, length, sym, ap, arith}
use Rattle.std.specs.Prelude.{min}
use Rattle.std.proofs.lemmas.List.{append-nil}
use Rattle.kc_session.specs.Generated.{first_numbers}
use Rattle.kc_session.proofs.LoadLemmas.{number_added, ask_filled}
use Rattle.kc_session.proofs.generator.fill_ask.Goals as goal

pub loop-v-init : goal.loop-v-init
unfolding first_numbers
loop-v-init c = (sym (append-nil c.put_text.new.line.items), omega (arith, ap (λ (t : List ℕ). length t) c.requires))

pub loop-v-preserved : goal.loop-v-preserved
loop-v-preserved c = (number_added c.loop-v.v _ _ _ c.loop-v.invariant.0 c.put_number.ensures.text, omega arith)

pub returns : goal.returns
returns c =
    let same : c.loop-v.v ≡ min c.args.n 16 = omega arith in
    ask_filled c.args.n _ _ _ _ c.requires c.put_text.ensures.text (rw (← same) c.loop-v.invariant.0) c.put_text-2.ensures.text
