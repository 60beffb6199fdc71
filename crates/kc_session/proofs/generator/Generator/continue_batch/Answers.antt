use Rattle.kc_session.proofs.LoadLemmas.{end_made, item_made}
use Rattle.kc_session.proofs.generator.Generator.continue_batch.Goals as goal

pub returns-then-left-eq0 : goal.returns-then-left-eq0
returns-then-left-eq0 c = end_made c.args.self.now c.args.left _ _ c.requires.batch c.if-left-eq0.true c.requires.empty c.put_text.ensures.text

pub returns-else-left-eq0 : goal.returns-else-left-eq0
returns-else-left-eq0 c = rw c.fill_drawn.ensures.state (item_made c.args.self.now c.args.left _ c.requires.batch c.if-left-eq0.false c.fill_drawn.ensures.line)
