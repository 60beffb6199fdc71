use Rattle.std.proofs.Common.{◌≡◌, ◌∙◌, [], sym, rules, get_or}
use Rattle.kserve.specs.private.Clients.{ended_client}
use Rattle.kserve.proofs.clients.run_each.Goals as goal

pub returns : goal.returns
returns g c = record {
  count_is = c.for_each_mut.auto.s ∙ c.requires.clients.count_is;
  each = λ i d lt.
      let e = c.for_each_mut.ensures i d (rw c.requires.clients.count_is lt) in
      let h : e.1.after_call.now ≡ ended_client c.args.intake.now i (get_or c.args.scripts.now i []) = search rules in
      sym e.1.left ∙ h;
}
