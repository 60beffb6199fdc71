use Rattle.std.proofs.Common.{◌++◌, ◌∙◌, ap, refl, arith}
use Rattle.kc_graph.specs.declared.later.Later.{Later}
use Rattle.kc_graph.specs.private.Later.{untouched_at}
use Rattle.kc_graph.proofs.LaterLemmas.{neighbours_apart, all_noted, row_idle, row_works}
use Rattle.kc_graph.proofs.later.Later.isolate.Goals.{then-len-before, else-len-before}
use Rattle.kc_graph.proofs.later.Later.isolate.Goals as goal

pub returns-then-has_all_at-clause-cleaned : goal.returns-then-has_all_at-clause-cleaned
returns-then-has_all_at-clause-cleaned c = all_noted c.args.graph.now.edges c.args.self.now.touched c.args.v c.args.self.now.cleaned (c.if-has_all_at.ensures refl)

pub take_row-requires : goal.take_row-requires
take_row-requires c = rw c.neighbours.ensures.value (neighbours_apart c.args.graph.now.vertices 0 0 c.args.v c.args.graph.now.edges c.requires.graph)

pub returns-clause-cleaned : goal.returns-clause-cleaned
returns-clause-cleaned c =
    let edges = c.args.graph.now.edges in
    let t = c.args.self.now.touched in
    let before = c.args.self.now.cleaned in
    let row = c.in_ok-take_row.ensures ∙ ap (λ ws. before.removed ++ untouched_at t c.args.v ws) c.neighbours.ensures.value in
    elim c.if-len-before.branch [
      | then-len-before w ↦
          ap (λ (l : Later). l.cleaned) w.self-is
          ∙ row_idle c.args.graph.now.vertices edges t c.args.v before c.take_row.new.removed c.requires.graph row (omega (arith, c.len.ensures, c.len-before.ensures, w.if-len-before.true))
      | else-len-before w ↦
          ap (λ (l : Later). l.cleaned) w.self-is
          ∙ row_works c.args.graph.now.vertices edges t c.args.v before c.take_row.new.removed c.requires.graph row (λ same. w.if-len-before.false (omega (arith, same, c.len.ensures, c.len-before.ensures)))
    ]
