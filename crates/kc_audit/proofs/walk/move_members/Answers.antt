use Rattle.std.proofs.Common.{◌≡◌, ◌<◌, ◌∙◌, sym, false, length, get_or, arith}
use Rattle.std.proofs.lemmas.List.Elements.{All-more}
use Rattle.std.proofs.lemmas.List.{take_all}
use Rattle.std.proofs.lemmas.Bool.{or_parts}
use Rattle.kc_history.specs.declared.replies.Reply.{Reply}
use Rattle.kc_audit.specs.private.Walks.{no_reply}
use Rattle.kc_audit.proofs.MoveLemmas.{moves_more}
use Rattle.kc_audit.proofs.walk.move_members.Goals as goal

pub loop-member-preserved : goal.loop-member-preserved
loop-member-preserved c =
    let i = c.loop-member.member-index in
    let ms = c.args.members.now in
    let lt : i < length ms = omega arith in
    record {
      levels = sym (moves_more c.loop-member.levels ms i no_reply lt) ∙ c.loop-member.invariant.levels;
      unmet = λ e. let n = or_parts _ _ e in All-more (λ (m : Reply). get_or c.args.awaited.now m.vertex false ≡ false) ms i no_reply lt (c.loop-member.invariant.unmet n.0) n.1;
    }

pub returns-clause-unmet : goal.returns-clause-unmet
returns-clause-unmet c = λ e. rw (take_all c.loop-member.member-index c.args.members.now (omega arith)) at (c.loop-member.invariant.unmet e)
