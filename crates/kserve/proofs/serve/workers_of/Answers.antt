use Rattle.std.proofs.Common.{◌∙◌, sym, ap}
use Rattle.kserve.specs.Ending.{workers_of}
use Rattle.kserve.proofs.WordLemmas.{one_word, other_words}
use Rattle.kserve.proofs.serve.workers_of.Goals as goal

pub returns-clause-workers : goal.returns-clause-workers
unfolding workers_of
returns-clause-workers c = c.workers_in.ensures.number ∙ ap workers_of (sym (one_word c.args.words.now _ (sym c.len.ensures ∙ c.if-len-ne1.false) c.word.ensures))

pub returns-then-len-ne1-clause-workers : goal.returns-then-len-ne1-clause-workers
returns-then-len-ne1-clause-workers c = sym (other_words c.args.words.now (λ e. c.if-len-ne1.true (c.len.ensures ∙ e)))
