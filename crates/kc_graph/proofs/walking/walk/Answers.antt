use Rattle.std.proofs.Common.{ℕ, ◌≡◌, [], ◌∷◌, ◌∙◌, List, map, sym, ap, arith}
use Rattle.std.proofs.lemmas.List.{nil_from_length}
use Rattle.kc_graph.specs.declared.keys.Key.{Key}
use Rattle.kc_graph.specs.declared.cleaning.Cleaned.{Cleaned}
use Rattle.kc_graph.specs.Keys.{decided}
use Rattle.kc_graph.specs.private.Keys.{unpacked}
use Rattle.kc_graph.specs.private.Walks.{walked}
use Rattle.kc_graph.proofs.CleaningLemmas.{walked_decided, walked_repeated, first_inside, later_inside, decided_counts}
use Rattle.kc_graph.proofs.walking.walk.Goals as goal

pub loop-key-init : goal.loop-key-init
loop-key-init c = record {
  known = ap (λ (d : Cleaned). walked c.args.graph.now.edges (map (unpacked c.args.bits) c.args.keys.now) d) c.of_loops-cleaned.ensures;
  inside = c.requires.inside;
  repeats = rw c.of_loops-cleaned.ensures (omega (arith, c.requires.few));
  idle = rw c.of_loops-cleaned.ensures (omega (arith, c.requires.few));
}

pub ends_pair_with_prefetch-requires : goal.ends_pair_with_prefetch-requires
ends_pair_with_prefetch-requires c = c.requires.fits

pub unpacked-requires-clause-below : goal.unpacked-requires-clause-below
unpacked-requires-clause-below c =
    let bits = c.args.bits in
    let inside = first_inside c.args.graph.now.vertices (map (unpacked bits) c.loop-key.rest.now) (map (unpacked bits) c.in-Some.later.now) (unpacked bits c.in-Some.key.now) (ap (map (unpacked bits)) c.in-Some.ensures.cases.0) c.loop-key.invariant.inside in
    omega (arith, inside.0, inside.1, c.requires.small)

pub decide-requires-clause-ordered : goal.decide-requires-clause-ordered
decide-requires-clause-ordered c =
    let bits = c.args.bits in
    rw c.unpacked.ensures
    (first_inside c.args.graph.now.vertices (map (unpacked bits) c.loop-key.rest.now) (map (unpacked bits) c.in-Some.later.now) (unpacked bits c.in-Some.key.now) (ap (map (unpacked bits)) c.in-Some.ensures.cases.0) c.loop-key.invariant.inside).0

pub decide-requires-clause-below : goal.decide-requires-clause-below
decide-requires-clause-below c =
    let bits = c.args.bits in
    rw c.unpacked.ensures
    (first_inside c.args.graph.now.vertices (map (unpacked bits) c.loop-key.rest.now) (map (unpacked bits) c.in-Some.later.now) (unpacked bits c.in-Some.key.now) (ap (map (unpacked bits)) c.in-Some.ensures.cases.0) c.loop-key.invariant.inside).1

pub loop-key-preserved-in_ok-decide : goal.loop-key-preserved-in_ok-decide
loop-key-preserved-in_ok-decide c =
    let edges = c.args.graph.now.edges in
    let of_number : ℕ → Key = unpacked c.args.bits in
    let key = of_number c.in-Some.key.now in
    let rest = map of_number c.loop-key.rest.now in
    let later = map of_number c.in-Some.later.now in
    let before = c.loop-key.cleaned in
    let first : rest ≡ key ∷ later = ap (map of_number) c.in-Some.ensures.cases.0 in
    let here : c.decide.new.self ≡ decided edges key before = c.in_ok-decide.ensures ∙ ap (λ (k : Key). decided edges k before) c.unpacked.ensures in
    let counts = decided_counts edges key before c.decide.new.self here in
    record {
      known =
          walked_decided edges rest later key before c.decide.new.self first c.if-ends_pair_with_prefetch.ensures here
          ∙ c.loop-key.invariant.known;
      inside = later_inside c.args.graph.now.vertices rest later key first c.loop-key.invariant.inside;
      repeats = omega (arith, counts.0, c.in-Some.ensures.cases.1, c.loop-key.invariant.repeats);
      idle = omega (arith, counts.1, c.in-Some.ensures.cases.1, c.loop-key.invariant.idle);
    }

pub loop-key-preserved : goal.loop-key-preserved
loop-key-preserved c =
    let edges = c.args.graph.now.edges in
    let of_number : ℕ → Key = unpacked c.args.bits in
    let key = of_number c.in-Some.key.now in
    let rest = map of_number c.loop-key.rest.now in
    let later = map of_number c.in-Some.later.now in
    let before = c.loop-key.cleaned in
    let first : rest ≡ key ∷ later = ap (map of_number) c.in-Some.ensures.cases.0 in
    record {
      known =
          walked_repeated edges rest later key before first c.if-ends_pair_with_prefetch.ensures
          ∙ c.loop-key.invariant.known;
      inside = later_inside c.args.graph.now.vertices rest later key first c.loop-key.invariant.inside;
      repeats = omega (arith, c.in-Some.ensures.cases.1, c.loop-key.invariant.repeats);
      idle = omega (arith, c.in-Some.ensures.cases.1, c.loop-key.invariant.idle);
    }

pub returns : goal.returns
returns c =
    let done : c.loop-key.rest.now ≡ [] = nil_from_length c.loop-key.rest.now c.in_default.ensures.cases in
    ap (λ (ks : List ℕ). walked c.args.graph.now.edges (map (unpacked c.args.bits) ks) c.loop-key.cleaned) (sym done)
    ∙ c.loop-key.invariant.known
