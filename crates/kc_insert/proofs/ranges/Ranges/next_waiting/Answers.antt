use Rattle.std.proofs.Common.{ℕ, List, [], ◌≡◌, ◌<◌, get_or, length, ap, sym, subst, ◌∙◌, arith}
use Rattle.std.specs.Prelude.{All}
use Rattle.std.specs.List.{flat_map}
use Rattle.std.proofs.lemmas.List.{get_or_default}
use Rattle.kc_insert.specs.Ranges.{Cut, Part, waits}
use Rattle.kc_insert.proofs.Nearest.{flat_none, flat_nothing, nearest_first, nearest_kept, nearest_lower}
use Rattle.kc_insert.proofs.ranges.Ranges.next_waiting.Goals.{then-level-next, else-level-next}
use Rattle.kc_insert.proofs.ranges.Ranges.next_waiting.Goals as goal

pub loop-range-init : goal.loop-range-init
loop-range-init c = nearest_first (λ (p : Part). p.queue) c.as_slice-items.result.now c.args.from (omega (arith, c.ranges.from))

pub loop-range-preserved : goal.loop-range-preserved
loop-range-preserved c =
    let at : c.loop-range.range-index < length c.as_slice-items.result.now = c.loop-range-test.true in
    let here : (d : Part) → c.range.inside.queue ≡ (get_or c.as_slice-items.result.now c.loop-range.range-index d).queue = λ d. ap (λ (p : Part). p.queue) (c.range.view_is ∙ c.range-item.is ∙ get_or_default c.as_slice-items.result.now c.loop-range.range-index c.range-item.result d at) in
    elim c.if-level-next.branch [
      | then-level-next w ↦ rw w.next-is (nearest_lower (λ (p : Part). p.queue) c.as_slice-items.result.now c.loop-range.range-index c.args.from c.loop-range.next c.next-level.result at c.loop-range.invariant (omega (arith, c.next-level.type_inv)) c.next-level.ensures.from
          (λ d. omega (arith, c.next-level.ensures.inside, ap length (here d)))
          (λ d k a b. ap (λ (q : List (List ℕ)). get_or q k []) (sym (here d)) ∙ c.next-level.ensures.none k a b)
          (λ d e. omega (arith, c.next-level.ensures.some (ap (λ (q : List (List ℕ)). get_or q c.next-level.result []) (here d) ∙ e), ap length (here d)))
          w.if-level-next.true)
      | else-level-next w ↦ rw w.next-is (nearest_kept (λ (p : Part). p.queue) c.as_slice-items.result.now c.loop-range.range-index c.args.from c.loop-range.next c.next-level.result at c.loop-range.invariant (omega (arith, c.next-level.type_inv)) c.next-level.ensures.from
          (λ d. omega (arith, c.next-level.ensures.inside, ap length (here d)))
          (λ d k a b. ap (λ (q : List (List ℕ)). get_or q k []) (sym (here d)) ∙ c.next-level.ensures.none k a b)
          (λ d e. omega (arith, c.next-level.ensures.some (ap (λ (q : List (List ℕ)). get_or q c.next-level.result []) (here d) ∙ e), ap length (here d)))
          w.if-level-next.false)
    ]

pub returns-clause-none : goal.returns-clause-none
returns-clause-none c = λ k a b. ap (λ (r : Cut). waits r k) (sym c.self.view_is) ∙ ap (flat_map (λ (p : Part). get_or p.queue k [])) (sym c.as_slice-items.ensures.value) ∙ flat_none (λ (p : Part). get_or p.queue k []) c.as_slice-items.result.now (λ j d h. c.loop-range.invariant.none k j d a b (omega (arith, h, c.loop-range-test.false)))

pub returns-clause-some : goal.returns-clause-some
returns-clause-some c = λ n pos all.
    let pos_ = rw (← c.self.view_is) at pos in
    let s = c.loop-range.invariant.some n (omega (arith, pos_, ap length c.as_slice-items.ensures.value, c.loop-range-test.false)) (subst (λ (xs : List Part). All (λ (p : Part). length p.queue ≡ n) xs) (sym c.as_slice-items.ensures.value) (rw (← c.self.view_is) at all)) in
    (s.0, λ none. s.1 (λ j d h. flat_nothing (λ (p : Part). get_or p.queue c.loop-range.next []) c.as_slice-items.result.now (ap (flat_map (λ (p : Part). get_or p.queue c.loop-range.next [])) c.as_slice-items.ensures.value ∙ ap (λ (r : Cut). waits r c.loop-range.next) c.self.view_is ∙ none) j d (omega (arith, h))))
