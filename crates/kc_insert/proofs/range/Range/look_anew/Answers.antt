use Rattle.std.proofs.Common.{◌≡◌, true, filter, sym, ap, ◌∙◌, arith}
use Rattle.std.proofs.lemmas.Bool.Decides.{nat_tests}
use Rattle.kc_graph.specs.Numbers.{has_number}
use Rattle.kc_insert.specs.private.Rising.{rises}
use Rattle.kc_insert.proofs.Buckets.{has_number-filter}
use Rattle.kc_insert.proofs.range.Range.look_anew.Goals as goal

pub keep_rising-requires : goal.keep_rising-requires
keep_rising-requires c = record { inside = λ v there. ((rw (← c.self.view_is) at c.requires) v there).0 }

pub watch-requires : goal.watch-requires
watch-requires c = λ v there.
    let rising : has_number v (filter (rises c.args.levels.now) c.self.inside.began.items) ≡ true = sym (ap (has_number v) (c.deref.ensures.value ∙ c.in_ok-keep_rising.ensures)) ∙ there in
    let both = sym (has_number-filter v (rises c.args.levels.now) c.self.inside.began.items) ∙ rising in
    ((rw (← c.self.view_is) at c.requires) v (grind (arith, nat_tests, both))).1
