use Rattle.std.proofs.Common.{◌∙◌, sym}
use Rattle.kcore.proofs.WordLists.{load_words, no_load}
use Rattle.kcore.proofs.command.of_six.Goals as goal

pub returns-then-is_named-clause-command : goal.returns-then-is_named-clause-command
returns-then-is_named-clause-command c =
    c.gen_with.ensures.command
    ∙ sym (load_words c.args.words.now _ _ _ _ _ _ c.requires.six c.word.ensures c.word-then-is_named.ensures c.word-then-is_named-2.ensures c.word-then-is_named-3.ensures c.word-then-is_named-4.ensures c.word-then-is_named-5.ensures (sym c.is_named.ensures ∙ c.if-is_named.true))

pub returns-else-is_named-clause-command : goal.returns-else-is_named-clause-command
returns-else-is_named-clause-command c = sym (no_load c.args.words.now _ c.requires.six c.word.ensures (sym c.is_named.ensures ∙ c.if-is_named.false))
