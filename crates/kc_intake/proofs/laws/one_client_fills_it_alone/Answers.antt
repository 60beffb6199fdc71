use Rattle.kc_intake.proofs.Alone.{fills_alone}
use Rattle.kc_intake.proofs.laws.one_client_fills_it_alone.Goals as goal

pub returns : goal.returns
returns c = fills_alone
