use Rattle.std.proofs.Common.{ap}
use Rattle.kc_text.specs.Causes.{Inlet, Outlet}
use Rattle.kcore.specs.Commands.{command_of}
use Rattle.kcore.proofs.Processes.{process_answers, process_usage}
use Rattle.kcore.proofs.process.told.Goals as goal

pub returns-clause-answer : goal.returns-clause-answer
returns-clause-answer g c =
    process_answers (command_of c.args.words.now) g.J.Told.told g.K.Told.told _ _ _ _ _ _ _ _ _ _
    (ap (λ (s : Inlet). s.left) c.telling-input.ensures) (ap (λ (s : Outlet). s.taken) c.telling-output.ensures) c.requires.left c.requires.taken
    c.run_command-status.ensures.answer c.into_writer.ensures.taken c.flush_into_inner-done.ensures c.last_status.ensures

pub returns-clause-usage : goal.returns-clause-usage
returns-clause-usage g c = process_usage (command_of c.args.words.now) _ _ _ c.run_command-status.ensures.usage c.last_status.ensures
