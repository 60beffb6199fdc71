use Rattle.std.proofs.Common.{◌∙◌, sym, ap}
use Rattle.kcore.specs.Commands.{command_of}
use Rattle.kcore.proofs.WordLists.{one_word, two_words, other_words}
use Rattle.kcore.proofs.command.Command.from_words.Goals as goal

pub returns-then-count-eq1-clause-command : goal.returns-then-count-eq1-clause-command
returns-then-count-eq1-clause-command c = c.of_one.ensures.command ∙ ap command_of (sym (one_word c.args.words.now _ (sym c.len-count.ensures ∙ c.if-count-eq1.true) c.word.ensures))

pub returns-then-count-ne2-clause-command : goal.returns-then-count-ne2-clause-command
returns-then-count-ne2-clause-command c =
    sym (other_words c.args.words.now (λ e. c.if-count-eq1.false (c.len-count.ensures ∙ e)) (λ e. c.if-count-ne2.true (c.len-count.ensures ∙ e)) (λ e. c.if-count-eq6.false (c.len-count.ensures ∙ e)))

pub returns-clause-command : goal.returns-clause-command
returns-clause-command c = c.of_two.ensures.command ∙ ap command_of (sym (two_words c.args.words.now _ _ (sym c.len-count.ensures ∙ c.if-count-ne2.false) c.word-2.ensures c.word-3.ensures))
