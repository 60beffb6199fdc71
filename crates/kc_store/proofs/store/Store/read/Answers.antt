use Rattle.std.proofs.Common.{rules, ◌≡◌, ◌≢◌, ℕ, ◌+◌, ◌<◌, ◌≤◌, refl, sym, ap, ◌∙◌, subst, arith}
use Rattle.kc_words.specs.declared.marks.Mark.{Mark}
use Rattle.kc_words.specs.Packed.{unpacked}
use Rattle.kc_store.proofs.Calls.{first_from, second_from, third_from, first_done, first_left, second_done, second_left, third_done}
use Rattle.kc_store.proofs.Views.{same_vertices}
use Rattle.kc_store.proofs.PassViews.{read_level}
use Rattle.kc_store.proofs.store.Store.read.Goals as goal

pub load-requires : goal.load-requires
load-requires c =
    let table : c.pass.inside.seat.table_id ≡ c.self.inside.table.shared.table_id = search rules in
    let words = ap (λ z. z.words) table in
    let vertices = same_vertices c.self.inside.n _ _ (sym words ∙ c.pass.invariant.sized) c.self.invariant.1 in
    let inside : c.args.v < c.self.inside.n = subst (λ k. c.args.v < k) (ap (λ z. z.vertices) (sym c.self.view_is)) c.requires.vertex in
    let size = c.self.invariant.1 in (
      table,
      omega (arith, inside, size),
      first_from _ c.self.inside.n _ _ c.args.v _ c.self.invariant.0 c.pass.invariant.me_is (subst (λ k. c.args.v < k) (sym vertices) inside) vertices,
    )

pub returns-then-mark-eq0-clause-level : goal.returns-then-mark-eq0-clause-level
returns-then-mark-eq0-clause-level c =
    let u = c.unpack-mark.ensures in
    let none = ap (λ (m : Mark). m.phase) (sym u) ∙ c.if-mark-eq0.true in
    let h = first_done 0 c.args.v c.load.result _ _ c.pass.invariant.me_is c.load.ensures.2 none in
    read_level c.args.self.now.vertices _ _ c.args.v _ _ c.requires.vertex h (ap (λ (m : Mark). m.new) u)

pub load-stamp-requires : goal.load-stamp-requires
load-stamp-requires c =
    let u = c.unpack-mark.ensures in
    let table : c.pass.inside.seat.table_id ≡ c.self.inside.table.shared.table_id = search rules in
    let words = ap (λ z. z.words) table in
    let vertices = same_vertices c.self.inside.n _ _ (sym words ∙ c.pass.invariant.sized) c.self.invariant.1 in
    let some : (unpacked c.load.result).phase ≢ 0 = (λ s. c.if-mark-eq0.false (ap (λ (m : Mark). m.phase) u ∙ s)) in
    let left = first_left 0 c.args.v c.load.result _ _ c.pass.invariant.me_is c.load.ensures.2 some in
    let label : c.unpack-mark.result.label ≡ (unpacked c.load.result).label = ap (λ (m : Mark). m.label) u in
    let size = c.self.invariant.1 in (
      c.load.ensures.0 ∙ table,
      omega (arith, label, c.load.ensures.2.0, size, vertices),
      second_from _ c.self.inside.n _ _ c.args.v c.load.result _ c.pass.inside.seat.me _ left.0 c.self.invariant.0 left.1 (ap (λ (k : ℕ). c.self.inside.n + 1 + k) label),
    )

pub returns-then-from-stamp-clause-level : goal.returns-then-from-stamp-clause-level
returns-then-from-stamp-clause-level c =
    let u = c.unpack-mark.ensures in
    let some : (unpacked c.load.result).phase ≢ 0 = (λ s. c.if-mark-eq0.false (ap (λ (m : Mark). m.phase) u ∙ s)) in
    let left = first_left 0 c.args.v c.load.result _ _ c.pass.invariant.me_is c.load.ensures.2 some in
    let phase = c.from.ensures ∙ ap (λ (m : Mark). m.phase) u in
    let le : (unpacked c.load.result).phase ≤ c.load-stamp.result = subst (λ k. k ≤ c.load-stamp.result) phase c.if-from-stamp.true in
    let h = second_done 0 0 c.args.v c.load.result c.load-stamp.result c.pass.inside.seat.me _ _ left.0 left.1 c.load-stamp.ensures.2 le in
    read_level c.args.self.now.vertices _ _ c.args.v _ _ c.requires.vertex h (ap (λ (m : Mark). m.new) u)

pub load-requires-2 : goal.load-requires-2
load-requires-2 c =
    let u = c.unpack-mark.ensures in
    let table : c.pass.inside.seat.table_id ≡ c.self.inside.table.shared.table_id = search rules in
    let some : (unpacked c.load.result).phase ≢ 0 = (λ s. c.if-mark-eq0.false (ap (λ (m : Mark). m.phase) u ∙ s)) in
    let left = first_left 0 c.args.v c.load.result _ _ c.pass.invariant.me_is c.load.ensures.2 some in
    let phase = c.from.ensures ∙ ap (λ (m : Mark). m.phase) u in
    let lt : c.load-stamp.result < (unpacked c.load.result).phase = omega (arith, phase, c.if-from-stamp.false) in
    let below = second_left 0 0 c.args.v c.load.result c.load-stamp.result c.pass.inside.seat.me _ _ left.0 left.1 c.load-stamp.ensures.2 lt in
    let inside : c.args.v < c.self.inside.n = subst (λ k. c.args.v < k) (ap (λ z. z.vertices) (sym c.self.view_is)) c.requires.vertex in
    let size = c.self.invariant.1 in (
      c.load-stamp.ensures.0 ∙ (c.load.ensures.0 ∙ table),
      omega (arith, inside, size),
      third_from _ c.self.inside.n _ _ c.args.v c.load.result _ c.pass.inside.seat.me _ left.0 c.self.invariant.0 below refl,
    )

pub returns-clause-level : goal.returns-clause-level
returns-clause-level c =
    let u = c.unpack-mark.ensures in
    let some : (unpacked c.load.result).phase ≢ 0 = (λ s. c.if-mark-eq0.false (ap (λ (m : Mark). m.phase) u ∙ s)) in
    let left = first_left 0 c.args.v c.load.result _ _ c.pass.invariant.me_is c.load.ensures.2 some in
    let phase = c.from.ensures ∙ ap (λ (m : Mark). m.phase) u in
    let lt : c.load-stamp.result < (unpacked c.load.result).phase = omega (arith, phase, c.if-from-stamp.false) in
    let below = second_left 0 0 c.args.v c.load.result c.load-stamp.result c.pass.inside.seat.me _ _ left.0 left.1 c.load-stamp.ensures.2 lt in
    let h = third_done 0 0 c.args.v c.load.result c.load-2.result c.pass.inside.seat.me _ _ left.0 below c.load-2.ensures.2 in
    read_level c.args.self.now.vertices _ _ c.args.v _ _ c.requires.vertex h.1 refl
