use Rattle.std.proofs.Common.{Bool, true, false, not, ◌&&◌, List, ◌≡◌, ap, ◌∙◌, arith}
use Rattle.std.specs.List.{flat_map}
use Rattle.std.proofs.lemmas.Bool.Decides.{nat_tests}
use Rattle.kc_graph.specs.Numbers.{has_number}
use Rattle.kc_insert.specs.declared.rising.RisingLevels.{RisingLevels}
use Rattle.kc_insert.specs.declared.sweep.Sweep.{Sweep}
use Rattle.kc_insert.specs.Ranges.{Part}
use Rattle.kc_insert.specs.private.Rising.{rises, seen}
use Rattle.kc_insert.proofs.Staying.{nobody_rises}
use Rattle.kc_insert.proofs.sweep.Sweep.stop_all.Goals as goal

gone : (a b c : Bool) → a ≡ b → (b ≡ true → c ≡ true) → a && not c ≡ false
gone a true c e h = ap (λ x. x && not c) e ∙ ap (λ x. true && not x) (h (grind (arith, nat_tests)))
gone a false c e h = ap (λ x. x && not c) e

pub returns-clause-levels : goal.returns-clause-levels
returns-clause-levels c =
    let listed : c.deref.result.now ≡ c.args.self.now.ranges.parts = c.deref.ensures.value ∙ ap (λ (w : Sweep). w.ranges.parts) c.self.view_is in
    let was : c.self.inside.0.0 ≡ c.args.self.now.levels = ap (λ (w : Sweep). w.levels) c.self.view_is in
    nobody_rises c.stop_kept.new.levels (λ v. c.stop_kept.ensures.rises v ∙ gone (rises c.self.inside.0.0 v) (rises c.args.self.now.levels v) _ (ap (λ (s : RisingLevels). rises s v) was) (λ up. ap (λ (ps : List Part). has_number v (flat_map (λ (p : Part). p.began) ps)) listed ∙ c.requires.began v up)) ∙ c.stop_kept.ensures.seen ∙ ap seen was
