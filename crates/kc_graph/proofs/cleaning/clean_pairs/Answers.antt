use Rattle.std.proofs.Common.{ℕ, ◌≤◌, ◌-◌, ◌^◌, ◌∙◌, length, map, sym, ap, arith}
use Rattle.std.proofs.lemmas.List.{length-map}
use Rattle.std.proofs.lemmas.List.Elements.{All-weaker}
use Rattle.kc_graph.specs.declared.keys.Key.{Key}
use Rattle.kc_graph.specs.Cleaning.{IsInside}
use Rattle.kc_graph.specs.private.Keys.{unpacked}
use Rattle.kc_graph.proofs.KeyLemmas.{inside_more}
use Rattle.kc_graph.specs.declared.cleaning.Cleaned.{Cleaned}
use Rattle.kc_graph.proofs.CleaningLemmas.{length_sorted, sorted_inside, sorted_numbers, walked_is_cleaned, walked_with_loops}
use Rattle.kc_graph.proofs.cleaning.clean_pairs.Goals as goal

pub sorted_keys-requires-clause-inside : goal.sorted_keys-requires-clause-inside
sorted_keys-requires-clause-inside g c κs within =
    let n = c.args.graph.now.vertices in
    let m = 2 ^ c.bits_below-bits.result in
    All-weaker (IsInside n) (IsInside m) (inside_more n m (omega (arith, c.bits_below-bits.ensures.enough, c.vertices.ensures.count))) c.args.items.now c.requires.inside

pub overflow_sub-cleaned : goal.overflow_sub-cleaned
overflow_sub-cleaned g c = omega (arith, length_sorted c.args.graph.now.vertices c.bits_below-bits.result c.args.items.now c.in_ok-keys.keys.items (omega (arith, c.bits_below-bits.ensures.enough, c.vertices.ensures.count)) c.requires.inside c.in_ok-keys.ensures)

pub walk_by-requires-after_bounds : goal.walk_by-requires-after_bounds
walk_by-requires-after_bounds g c κs within =
    let n = c.args.graph.now.vertices in
    let items = c.args.items.now in
    let keys = c.in_ok-keys.keys.items in
    let enough : n ≤ 2 ^ c.bits_below-bits.result = omega (arith, c.bits_below-bits.ensures.enough, c.vertices.ensures.count) in
    rw c.deref.ensures.value
    (record {
      fits = c.bits_below-bits.ensures.few;
      small = c.vertices.ensures.small;
      few = omega (arith, c.requires.few, length_sorted n c.bits_below-bits.result items keys enough c.requires.inside c.in_ok-keys.ensures);
      inside = sorted_inside n c.bits_below-bits.result items keys enough c.requires.inside c.in_ok-keys.ensures;
    })

pub returns : goal.returns
returns g c =
    let edges = c.args.graph.now.edges in
    let items = c.args.items.now in
    let keys = c.in_ok-keys.keys.items in
    let n = c.args.graph.now.vertices in
    let bits = c.bits_below-bits.result in
    let of_number : ℕ → Key = unpacked bits in
    let loops = length items - c.len.result in
    let enough : n ≤ 2 ^ bits = omega (arith, c.bits_below-bits.ensures.enough, c.vertices.ensures.count) in
    let few = length_sorted n bits items keys enough c.requires.inside c.in_ok-keys.ensures in
    ap (λ (d : Cleaned). record d { loops = loops }) (rw c.deref.ensures.value at c.in_ok-cleaned.ensures)
    ∙ sym (walked_with_loops edges loops (map of_number keys))
    ∙ walked_is_cleaned c.args.graph.now bits items (map of_number keys) loops c.requires.none c.vertices.ensures.graph c.requires.inside enough (sorted_numbers n bits items keys enough c.requires.inside c.in_ok-keys.ensures) (omega (arith, few, length-map keys of_number))
