use Rattle.std.proofs.Common.{◌∙◌, sym}
use Rattle.kc_graph.proofs.LaterLemmas.{net_effect_found_key, net_effect_isolation}
use Rattle.kc_graph.proofs.later.Later.take.Goals as goal

pub returns-in_ok-take_key-in-Some-default : goal.returns-in_ok-take_key-in-Some-default
returns-in_ok-take_key-in-Some-default c = λ later before.
    net_effect_found_key c.args.graph.now.edges c.args.item later c.in-Some-default.key c.args.self.now c.take_key.new.self (sym c.of.ensures ∙ c.in-Some-default.is-0) before c.in_ok-take_key-in-Some-default.ensures.cleaned c.in_ok-take_key-in-Some-default.ensures.touched

pub returns-in_ok-isolate-in-None-Isolate : goal.returns-in_ok-isolate-in-None-Isolate
returns-in_ok-isolate-in-None-Isolate c = λ later before.
    rw c.in-None-Isolate.is-1
    (net_effect_isolation c.args.graph.now.vertices c.args.graph.now.edges c.in-None-Isolate.v later c.args.self.now c.isolate.new.self c.requires.graph before c.in_ok-isolate-in-None-Isolate.ensures.cleaned c.in_ok-isolate-in-None-Isolate.ensures.touched)
