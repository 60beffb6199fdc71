use Rattle.std.proofs.Common.{◌≡◌, ◌-◌, ◌∷◌, [], ◌++◌, decimal, arith, refl, ◌∙◌, drop, take_all, length-drop}
use Rattle.std.proofs.lemmas.List.{append-nil}
use Rattle.std.proofs.lemmas.Result.{on_ok_weaker}
use Rattle.kc_report.proofs.pairs.put_pair.Goals as goal

pub returns : goal.returns
returns c =
    let s = c.write_pair-start in
    let word : drop s.result s.new.words ≡ 32 ∷ (decimal c.args.first ++ c.args.between ∷ (decimal c.args.second ++ [])) = s.ensures.written in
    let all = take_all (22 - s.result) (drop s.result s.new.words) (omega (arith, length-drop s.result s.new.words)) in
    on_ok_weaker c.put.result (λ e. e ∙ rw (all, word, append-nil) refl) c.put.ensures.ok
