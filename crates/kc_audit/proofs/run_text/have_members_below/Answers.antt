use Rattle.std.proofs.Common.{◌<◌, ◌≤◌, length, refl, arith, rules}
use Rattle.std.proofs.lemmas.List.{take_all}
use Rattle.std.proofs.lemmas.List.Elements.{All-more}
use Rattle.kc_audit.specs.declared.groups.GroupLine.{GroupLine}
use Rattle.kc_audit.specs.Runs.{AreBelow}
use Rattle.kc_audit.proofs.MoveLemmas.{no_line, members_at}
use Rattle.kc_audit.proofs.run_text.have_members_below.Goals as goal

pub loop-i-preserved : goal.loop-i-preserved
loop-i-preserved c =
    let groups = c.args.groups.now in
    let lt : c.loop-i.i < length groups = omega (arith, c.loop-i-test.true, c.len-i-end.ensures) in
    let members = members_at groups c.loop-i.i c.members.result.now lt c.members.ensures in
    let below : AreBelow c.args.n c.members.result.now = search rules in
    All-more (λ (line : GroupLine). AreBelow c.args.n line.members) groups c.loop-i.i no_line lt c.loop-i.invariant (rw members at below)

pub returns : goal.returns
returns c =
    let all : length c.args.groups.now ≤ c.loop-i.i = omega (arith, c.loop-i-test.false, c.len-i-end.ensures) in
    (λ t. rw (take_all c.loop-i.i c.args.groups.now all) at c.loop-i.invariant, λ h. refl)
