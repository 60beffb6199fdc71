use Rattle.std.proofs.Common.{◌∙◌}
use Rattle.kc_audit.proofs.WordLemmas.{pairs_end, pairs_stop, pairs_next}
use Rattle.kc_audit.proofs.words.read_pairs.Goals as goal

pub returns-in-None : goal.returns-in-None
returns-in-None c = c.loop-start.invariant.same ∙ pairs_stop c.args.mark c.loop-start.pairs.items _ _ _ c.in-Some.ensures.word.words c.in-None.ensures

pub loop-start-preserved : goal.loop-start-preserved
loop-start-preserved c = record {
  same = c.loop-start.invariant.same ∙ rw c.in_ok-push-in-Some-pair_of.ensures.items (pairs_next c.args.mark c.loop-start.pairs.items _ c.in-Some-pair_of.pair _ _ c.in-Some.ensures.word.words c.in-Some-pair_of.ensures);
  within = c.in-Some.ensures.word.within;
}

pub returns : goal.returns
returns c = c.loop-start.invariant.same ∙ pairs_end c.args.mark c.loop-start.pairs.items _ c.in_default.ensures.none
