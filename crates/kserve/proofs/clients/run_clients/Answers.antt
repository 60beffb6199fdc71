use Rattle.kserve.proofs.ClientLemmas.{all_ended}
use Rattle.kserve.proofs.clients.run_clients.Goals as goal

pub returns : goal.returns
returns g c = all_ended c.args.intake.now c.args.scripts.now c.args.clients.now.len c.args.clients.now.items c.as_mut_slice.result.now c.run_each.new.clients c.as_mut_slice.ensures.value c.run_each.auto.clients c.as_mut_slice.ensures.len c.run_each.ensures
