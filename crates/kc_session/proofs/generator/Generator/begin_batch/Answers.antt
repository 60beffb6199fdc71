use Rattle.std.proofs.Common.{refl}
use Rattle.kc_session.proofs.LoadLemmas.{no_batch_left, batch_made}
use Rattle.kc_session.proofs.generator.Generator.begin_batch.Goals as goal

pub returns-then-self-eq0 : goal.returns-then-self-eq0
returns-then-self-eq0 c = (no_batch_left c.args.self.now c.requires.batch c.if-self-eq0.true, (refl, c.requires.empty))

pub returns : goal.returns
returns c = batch_made c.args.self.now _ _ c.requires.batch c.if-self-eq0.false c.requires.empty c.put_text.ensures.text
