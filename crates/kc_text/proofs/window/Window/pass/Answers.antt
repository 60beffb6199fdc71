use Rattle.std.proofs.Common.{sym, ◌≤◌, ◌+◌, length, arith, ap}
use Rattle.std.proofs.lemmas.List.{length-take, length-drop}
use Rattle.kc_text.proofs.Ranges.{drop_range}
use Rattle.kc_text.proofs.window.Window.pass.Goals as goal

pub returns : goal.returns
returns c =
    let h : c.self.inside.from + c.args.n ≤ c.self.inside.to = omega (arith, c.requires, simp (length-take, length-drop) at (ap length c.self.view_is)) in
    rw (← c.self.view_is) (sym (drop_range c.args.n c.self.inside.from c.self.inside.to c.self.inside.buf.items h))
