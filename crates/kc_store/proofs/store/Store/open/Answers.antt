use Rattle.std.proofs.Common.{arith}
use Rattle.std.proofs.lemmas.Grind.{common_steps}
use Rattle.kc_store.proofs.Joins.{opens}
use Rattle.kc_store.proofs.store.Store.open.Goals as goal

pub of_words-requires : goal.of_words-requires
of_words-requires c = opens _ _ _ c.requires.vertices.0 c.requires.vertices.1 c.requires.phases (grind (arith, common_steps)) (grind (arith, common_steps)) (λ i pos lt. grind (arith, common_steps))
