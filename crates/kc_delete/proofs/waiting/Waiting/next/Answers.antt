use Rattle.std.proofs.Common.{◌≡◌, ◌<◌, ◌∙◌, ℕ, Bool, [], ap, sym, subst, arith, rules, length, get_or, filter, false, not, ◌&&◌, ◌||◌, List}
use Rattle.std.proofs.lemmas.List.{nil_from_length}
use Rattle.std.proofs.lemmas.List.Elements.{All-from_get_or}
use Rattle.kc_graph.specs.Numbers.{has_number}
use Rattle.kc_delete.specs.private.Settling.{is_short}
use Rattle.kc_delete.specs.private.Waiting.{AreFiled, IsSifted}
use Rattle.kc_delete.proofs.WaitingLemmas.{if_none, round_begun, filed_last, filed_none, round_inside, sifted_then, sifted_round, filed_movers, movers_inside}
use Rattle.kc_delete.proofs.waiting.Waiting.next.Goals as goal

pub invariant_of-self-then-is_empty : goal.invariant_of-self-then-is_empty
invariant_of-self-then-is_empty g c =
    let filed : AreFiled c.take_least.new.first c.take_least.new.filed c.take_least.result.items c.take_from-taken.new.marks.items = round_begun _ _ _ _ _ _ _ _ _ _ c.loop-taken.invariant.filed (sym c.is_some.ensures ∙ c.if-is_some.false) c.take_from-taken.ensures.kept c.take_from-taken.ensures.none c.take_from-taken.ensures.still c.take_least.ensures.filed in
    let zero_long : length c.take_least.result.items ≡ 0 = search rules in
    let empty : c.take_least.result.items ≡ [] = nil_from_length c.take_least.result.items zero_long in
    rw (c.clear.ensures, empty) (filed_none c.take_least.new.first c.take_least.new.filed c.take_from-taken.new.marks.items filed.start (filed_last _ _ _ _ filed empty (c.take_least.ensures.none empty)))

pub invariant_of-self-in_err-movers : goal.invariant_of-self-in_err-movers
invariant_of-self-in_err-movers g c = round_begun _ _ _ _ _ _ _ _ _ _ c.loop-taken.invariant.filed (sym c.is_some.ensures ∙ c.if-is_some.false) c.take_from-taken.ensures.kept c.take_from-taken.ensures.none c.take_from-taken.ensures.still c.take_least.ensures.filed

pub returns-then-is_empty-clause-nobody : goal.returns-then-is_empty-clause-nobody
returns-then-is_empty-clause-nobody g c =
    let filed : AreFiled c.take_least.new.first c.take_least.new.filed c.take_least.result.items c.take_from-taken.new.marks.items = round_begun _ _ _ _ _ _ _ _ _ _ c.loop-taken.invariant.filed (sym c.is_some.ensures ∙ c.if-is_some.false) c.take_from-taken.ensures.kept c.take_from-taken.ensures.none c.take_from-taken.ensures.still c.take_least.ensures.filed in
    let zero_long : length c.take_least.result.items ≡ 0 = search rules in
    let empty : c.take_least.result.items ≡ [] = nil_from_length c.take_least.result.items zero_long in
    filed_last _ _ _ _ filed empty (c.take_least.ensures.none empty)

pub movers-requires-after_bounds : goal.movers-requires-after_bounds
movers-requires-after_bounds g c κs within =
    let filed : AreFiled c.take_least.new.first c.take_least.new.filed c.take_least.result.items c.take_from-taken.new.marks.items = round_begun _ _ _ _ _ _ _ _ _ _ c.loop-taken.invariant.filed (sym c.is_some.ensures ∙ c.if-is_some.false) c.take_from-taken.ensures.kept c.take_from-taken.ensures.none c.take_from-taken.ensures.still c.take_least.ensures.filed in
    let same : c.take_from-taken.new.marks.items ≡ c.loop-taken.self-inside.marks.items = if_none _ _ (sym c.is_some.ensures ∙ c.if-is_some.false) c.take_from-taken.ensures.kept in
    let long : length c.take_from-taken.new.marks.items ≡ c.args.capped.adj.now.graph.vertices = ap (λ (bs : List Bool). length bs) same ∙ c.loop-taken.invariant.sifted.sized ∙ ap (λ (bs : List Bool). length bs) c.self.view_is ∙ c.requires in
    let low : (k : ℕ) → k < length c.deref.result.now → get_or c.deref.result.now k 0 < length c.take_from-taken.new.marks.items = rw c.deref.ensures.value (round_inside _ _ _ _ filed) in
    All-from_get_or (λ v. (v < length c.take_from-taken.new.marks.items) × (v < c.args.capped.adj.now.graph.vertices)) c.deref.result.now 0 (λ i h.
    (low i h, omega (arith, low i h, long)))

pub keep_marks-requires-clause-candidates : goal.keep_marks-requires-clause-candidates
keep_marks-requires-clause-candidates g c =
    let filed : AreFiled c.take_least.new.first c.take_least.new.filed c.take_least.result.items c.take_from-taken.new.marks.items = round_begun _ _ _ _ _ _ _ _ _ _ c.loop-taken.invariant.filed (sym c.is_some.ensures ∙ c.if-is_some.false) c.take_from-taken.ensures.kept c.take_from-taken.ensures.none c.take_from-taken.ensures.still c.take_least.ensures.filed in
    All-from_get_or (λ v. v < length c.take_from-taken.new.marks.items) c.deref-in-loop-taken.result.now 0 (rw c.deref-in-loop-taken.ensures.value (round_inside _ _ _ _ filed))

pub keep_marks-requires-clause-movers : goal.keep_marks-requires-clause-movers
keep_marks-requires-clause-movers g c =
    let filed : AreFiled c.take_least.new.first c.take_least.new.filed c.take_least.result.items c.take_from-taken.new.marks.items = round_begun _ _ _ _ _ _ _ _ _ _ c.loop-taken.invariant.filed (sym c.is_some.ensures ∙ c.if-is_some.false) c.take_from-taken.ensures.kept c.take_from-taken.ensures.none c.take_from-taken.ensures.still c.take_least.ensures.filed in
    let kept : c.in_ok-movers.movers.items ≡ filter (λ v. get_or c.take_from-taken.new.marks.items v false && is_short c.args.capped.th.now.profile c.args.capped.adj.now.graph c.args.capped.adj.now.levels v) c.take_least.result.items = rw c.deref.ensures.value at c.in_ok-movers.ensures in
    All-from_get_or (λ v. v < length c.take_from-taken.new.marks.items) c.deref-in-loop-taken-2.result.now 0 (rw c.deref-in-loop-taken-2.ensures.value (movers_inside c.args.capped.th.now.profile c.args.capped.adj.now.graph c.args.capped.adj.now.levels _ _ _ _ _ filed kept))

pub loop-taken-preserved : goal.loop-taken-preserved
loop-taken-preserved g c =
    let filed : AreFiled c.take_least.new.first c.take_least.new.filed c.take_least.result.items c.take_from-taken.new.marks.items = round_begun _ _ _ _ _ _ _ _ _ _ c.loop-taken.invariant.filed (sym c.is_some.ensures ∙ c.if-is_some.false) c.take_from-taken.ensures.kept c.take_from-taken.ensures.none c.take_from-taken.ensures.still c.take_least.ensures.filed in
    let same : c.take_from-taken.new.marks.items ≡ c.loop-taken.self-inside.marks.items = if_none _ _ (sym c.is_some.ensures ∙ c.if-is_some.false) c.take_from-taken.ensures.kept in
    let kept : c.in_ok-movers.movers.items ≡ filter (λ v. get_or c.take_from-taken.new.marks.items v false && is_short c.args.capped.th.now.profile c.args.capped.adj.now.graph c.args.capped.adj.now.levels v) c.take_least.result.items = rw c.deref.ensures.value at c.in_ok-movers.ensures in
    let marks : (v : ℕ) → get_or c.keep_marks.new.marks.items v false ≡ has_number v c.in_ok-movers.movers.items || (get_or c.take_from-taken.new.marks.items v false && not (has_number v c.take_least.result.items)) = rw (c.deref-in-loop-taken.ensures.value, c.deref-in-loop-taken-2.ensures.value) at c.keep_marks.ensures.marks in
    record {
      filed = filed_movers c.args.capped.th.now.profile c.args.capped.adj.now.graph c.args.capped.adj.now.levels _ _ _ _ _ _ filed kept c.keep_marks.ensures.sized marks;
      sifted = sifted_then _ _ _ _ _ _ c.loop-taken.invariant.sifted (subst (λ (bs : List Bool). IsSifted c.args.capped.th.now.profile c.args.capped.adj.now.graph c.args.capped.adj.now.levels bs c.keep_marks.new.marks.items) same (sifted_round c.args.capped.th.now.profile c.args.capped.adj.now.graph c.args.capped.adj.now.levels _ _ _ _ _ _ filed kept c.keep_marks.ensures.sized marks));
    }
