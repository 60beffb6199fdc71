use Rattle.std.proofs.Common.{◌≡◌, ◌∙◌, ap, arith, List, [], ◌∷◌, ◌++◌, length, true, false}
use Rattle.std.proofs.lemmas.Grind.{common_steps}
use Rattle.kc_graph.specs.declared.items.Item.{Item}
use Rattle.std.proofs.lemmas.List.{length-append}
use Rattle.kc_text.specs.declared.reason.Reason.TheVariants.{TooMany}
use Rattle.kc_batch.specs.Batches.{batches_left}
use Rattle.kserve.specs.declared.reading.Said.TheVariants as said
use Rattle.kserve.specs.Inputs.{rules_for, items_in, has_room}
use Rattle.kserve.specs.private.Scripts.{AreScripts}
use Rattle.kserve.proofs.ScriptLemmas.{on_ok_mapped, says, told_script, told_full, told_refused, told_end, due_script, items_more, room_told, room_as}
use Rattle.kserve.proofs.reading.read_scripts.Goals as goal

pub returns-then-not-has_room-clause-said : goal.returns-then-not-has_room-clause-said
returns-then-not-has_room-clause-said g c =
    let i = c.loop-scripts.invariant in
    let size : c.len.result ≡ length c.loop-scripts.scripts.items = grind (arith, common_steps, c.len.ensures) in
    let room : has_room (length c.loop-scripts.scripts.items) (items_in c.loop-scripts.scripts.items) (length c.in-Items.batch.items) ≡ false =
    room_as _ _ _ _ _ _ c.has_room.result false size i.count c.as_slice-more.ensures c.has_room.ensures c.if-not-has_room.true in
    says (said.Refused c.in-Items.batch.line TooMany) _ (batches_left (rules_for c.args.n) c.next_batch.new.reader (g.S.Source.left c.next_batch.new.src))
    (i.told ∙ told_full c.args.n c.loop-scripts.scripts.items c.in-Items.batch _ _ room (rw c.in-Items.is at c.in_ok-batch.ensures.batches))

pub returns-in-Refused-clause-said : goal.returns-in-Refused-clause-said
returns-in-Refused-clause-said g c =
    let i = c.loop-scripts.invariant in
    says (said.Refused c.in-Refused.line c.in-Refused.reason) _ (batches_left (rules_for c.args.n) c.next_batch.new.reader (g.S.Source.left c.next_batch.new.src))
    (i.told ∙ told_refused c.args.n c.loop-scripts.scripts.items c.in-Refused.line c.in-Refused.reason _ _ (rw c.in-Refused.is at c.in_ok-batch.ensures.batches))

pub returns-in-End-clause-said : goal.returns-in-End-clause-said
returns-in-End-clause-said g c =
    let i = c.loop-scripts.invariant in
    let ranges : AreScripts c.args.n c.loop-scripts.scripts.items =
    record { some_vertices = c.requires.some; small = c.requires.small; few = i.few; few_items = omega (arith, i.count, i.few_items); due = i.due } in
    says (said.Accepted (record { n = c.args.n; scripts = c.loop-scripts.scripts; count = c.loop-scripts.count; ranges = ranges; counted = i.count })) _ (batches_left (rules_for c.args.n) c.next_batch.new.reader (g.S.Source.left c.next_batch.new.src))
    (i.told ∙ told_end c.args.n c.loop-scripts.scripts.items _ _ (rw c.in-End.is at c.in_ok-batch.ensures.batches))

pub loop-scripts-preserved : goal.loop-scripts-preserved
loop-scripts-preserved g c =
    let i = c.loop-scripts.invariant in
    let size : c.len.result ≡ length c.loop-scripts.scripts.items = grind (arith, common_steps, c.len.ensures) in
    let room : has_room (length c.loop-scripts.scripts.items) (items_in c.loop-scripts.scripts.items) (length c.in-Items.batch.items) ≡ true =
    room_as _ _ _ _ _ _ c.has_room.result true size i.count c.as_slice-more.ensures c.has_room.ensures c.if-not-has_room.false in
    let there = room_told (length c.loop-scripts.scripts.items) (items_in c.loop-scripts.scripts.items) (length c.in-Items.batch.items) room in
    let more : c.add_script.new.scripts.items ≡ c.loop-scripts.scripts.items ++ c.in-Items.batch.items ∷ [] = on_ok_mapped c.add_script.result c.map_err.result _ _ c.in_ok-map_err-in-Items.was c.map_err.ensures.variant c.add_script.ensures in
    let items = items_more c.loop-scripts.scripts.items c.in-Items.batch.items in
    let long = length-append c.loop-scripts.scripts.items (c.in-Items.batch.items ∷ []) in
    let same = ap (λ (xs : List Item). length xs) c.as_slice-more.ensures in
    record {
      told = rw more (i.told ∙ told_script c.args.n c.loop-scripts.scripts.items c.in-Items.batch _ _ room (rw c.in-Items.is at c.in_ok-batch.ensures.batches));
      few = rw more (omega (arith, long, there.0));
      count = rw more (omega (arith, items, i.count, same));
      few_items = omega (arith, there.1, i.count, same);
      due = rw more (due_script c.args.n c.loop-scripts.scripts.items c.in-Items.batch (rw c.in-Items.is at c.in_ok-batch.ensures.sound) i.due);
      faults = c.in_ok-batch.ensures.cause ∙ i.faults;
    }
