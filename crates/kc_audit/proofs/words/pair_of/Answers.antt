use Rattle.std.proofs.Common.{◌+◌, sym}
use Rattle.std.proofs.lemmas.List.{take_rest}
use Rattle.kc_audit.proofs.WordLemmas.{place_found, pair_there, pair_missing}
use Rattle.kc_audit.proofs.words.pair_of.Goals as goal

pub returns-in-Some : goal.returns-in-Some
returns-in-Some c =
    let place = place_found _ c.args.word.now c.in-Some.at c.in-Some.ensures.place in
    rw (pair_there c.args.mark c.args.word.now c.in-Some.at place, c.reply_with.ensures, c.level_in.ensures, c.read_number.ensures, c.read_number-in-Some.ensures, take_rest c.args.word.now (c.in-Some.at + 1))

pub returns-in-None : goal.returns-in-None
returns-in-None c = sym (pair_missing c.args.mark c.args.word.now c.in-None.ensures.place)
