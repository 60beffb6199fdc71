use Rattle.std.proofs.Common.{◌≡◌, List, length, sym, ap, ◌∙◌, rules}
use Rattle.kc_audit.specs.declared.groups.GroupLine.{GroupLine}
use Rattle.kc_audit.proofs.FlatLemmas.{length-lines}
use Rattle.kc_audit.proofs.groups.GroupLines.len.Goals as goal

pub returns : goal.returns
returns c =
    let same : length c.self.inside.heads.items ≡ length c.args.self.now =
    sym (length-lines 0 c.self.inside.heads.items c.self.inside.members.items) ∙ ap (λ (ls : List GroupLine). length ls) c.self.view_is in
    search rules
