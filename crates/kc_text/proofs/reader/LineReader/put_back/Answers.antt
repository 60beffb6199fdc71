use Rattle.std.proofs.Common.{◌∙◌, ap, refl}
use Rattle.kc_text.proofs.Holding.{comes_back, told}
use Rattle.kc_text.proofs.reader.LineReader.put_back.Goals as goal

pub returns-clause-lines : goal.returns-clause-lines
returns-clause-lines c = λ bs. rw (← c.self.view_is) (comes_back _ _ _ _ _ (ap (λ r. r.held) c.self.view_is ∙ c.requires) refl bs)

pub returns-clause-left : goal.returns-clause-left
returns-clause-left c = λ left. rw (← c.self.view_is) (told _ _ _ left (comes_back _ _ _ _ _ (ap (λ r. r.held) c.self.view_is ∙ c.requires) refl))
