use Rattle.std.proofs.Common.{◌∙◌, refl, sym}
use Rattle.std.specs.Prelude.{None}
use Rattle.kc_shell.specs.declared.status.Status.TheVariants.{Usage}
use Rattle.kcore.specs.Commands.{command_of}
use Rattle.kcore.proofs.Completeness.{complete}
use Rattle.kcore.proofs.ExactTexts.{holds}
use Rattle.kcore.proofs.top.run_command.Goals as goal

pub returns-in-Some-clause-answer : goal.returns-in-Some-clause-answer
returns-in-Some-clause-answer g c = rw (sym c.from_words.ensures.command ∙ c.in-Some.is, c.status_of.ensures) c.carry_out.ensures.answer

pub returns-in-Some-clause-holds : goal.returns-in-Some-clause-holds
returns-in-Some-clause-holds g c = holds (command_of c.args.words.now) (g.S.Source.left c.args.input.now)

pub returns-in-Some-clause-cause : goal.returns-in-Some-clause-cause
returns-in-Some-clause-cause g c = rw c.status_of.ensures c.carry_out.ensures.cause

pub returns-in-Some-clause-complete : goal.returns-in-Some-clause-complete
returns-in-Some-clause-complete g c = rw (sym c.from_words.ensures.command ∙ c.in-Some.is, c.status_of.ensures) (complete _ _ _ _ _ _ _ _ _ c.carry_out.ensures.answer c.carry_out.ensures.cause)

pub returns-in-Some-clause-unread : goal.returns-in-Some-clause-unread
returns-in-Some-clause-unread g c = rw (sym c.from_words.ensures.command ∙ c.in-Some.is, c.status_of.ensures) c.carry_out.ensures.unread

pub returns-in-None-clause-holds : goal.returns-in-None-clause-holds
returns-in-None-clause-holds g c = holds (command_of c.args.words.now) (g.S.Source.left c.args.input.now)

pub returns-in-None-clause-complete : goal.returns-in-None-clause-complete
returns-in-None-clause-complete g c =
    let taken = g.K.Sink.taken c.args.output.now in
    let read = g.S.Source.faults c.args.input.now in
    let written = g.K.Sink.faults c.args.output.now in
    rw (sym c.from_words.ensures.command ∙ c.in-None.is) (complete None (g.S.Source.left c.args.input.now) taken taken read read written written Usage tt (refl, refl))
