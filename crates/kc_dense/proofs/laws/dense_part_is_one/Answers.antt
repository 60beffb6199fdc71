use Rattle.kc_dense.proofs.PeelingLemmas.{each_has_dense_part, dense_part_is_one}
use Rattle.kc_dense.proofs.laws.dense_part_is_one.Goals as goal

pub returns-clause-some : goal.returns-clause-some
returns-clause-some c = each_has_dense_part

pub returns-clause-one : goal.returns-clause-one
returns-clause-one c = dense_part_is_one
