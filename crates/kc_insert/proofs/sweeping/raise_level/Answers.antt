-- The step of a sweep: what its calls ask, and what they leave.
use Rattle.std.proofs.Common.{ℕ, ◌+◌, ◌<◌, ◌≡◌, true, List, get_or, filter, refl, ap, sym, subst, ◌∙◌, arith}
use Rattle.std.proofs.lemmas.List.{get_or_default}
use Rattle.kc_graph.specs.Numbers.{has_number}
use Rattle.kc_graph.specs.Shape.{GraphShape}
use Rattle.kc_graph.proofs.lemmas.Numbers.{has_number_at}
use Rattle.kc_levels.specs.declared.profile.Profile.{Profile}
use Rattle.kc_levels.specs.Thresholds.{group_of, high, top_level}
use Rattle.kc_insert.specs.private.LevelStep.{HasLimit, IsLevelStep}
use Rattle.kc_insert.specs.private.Ranges.{count_of, is_over}
use Rattle.kc_insert.specs.Ranges.{Cut, waits}
use Rattle.kc_insert.specs.private.Rising.{seen}
use Rattle.kc_insert.specs.private.Sharing.{AllParted, AllRisen, CanPartAll, CanRiseAll}
use Rattle.kc_insert.specs.private.Sweeping.{IsPaid, sweeping_of}
use Rattle.kc_insert.proofs.RoundCalls.{call_lift, call_meetings, call_movers, call_part, call_rise, call_rise_step, call_stay, call_steps, next_order, next_paid, next_step, next_sweeping}
use Rattle.kc_insert.proofs.RoundParts.{step_at}
use Rattle.kc_insert.proofs.sweeping.raise_level.Goals as goal

level_limit : (p : Profile) (n m level most group : ℕ) → most ≡ high p group → group ≡ group_of p n level → n ≡ m → most ≡ high p (group_of p m level)
level_limit p n m level most group e f scale = rw (← scale) (e ∙ ap (high p) f)

-- the limit, the room and the top of the level, by the graph's own number of vertices
level_is : (p : Profile) (n m level most group : ℕ) (r : Cut) → n ≡ m → most ≡ high p group → group ≡ group_of p n level → HasLimit (high p (group_of p n level)) r → level < top_level p n → top_level p n < 65535
    → (most ≡ high p (group_of p m level)) × HasLimit most r × (level < top_level p m) × (top_level p m < 65535)
level_is p n m level most group r scale e f limit room tops = rw (← scale) (e ∙ ap (high p) f, subst (λ k. HasLimit k r) (sym (e ∙ ap (high p) f)) limit, room, tops)

-- the vertices that begin
begin_from : (count : ℕ → ℕ) (most : ℕ) (asked taken waiting starting given : List ℕ) → given ≡ starting → starting ≡ filter (is_over count most) asked → asked ≡ taken → taken ≡ waiting → given ≡ filter (is_over count most) waiting
begin_from count most asked taken waiting starting given e f a b = e ∙ f ∙ ap (filter (is_over count most)) (a ∙ b)

step_from : (p : Profile) (n level most group : ℕ) (g : GraphShape) (y z : List ℕ) (c d : ℕ → ℕ) → most ≡ high p group → group ≡ group_of p n level → IsLevelStep g y z c d level most → IsLevelStep g y z c d level (high p (group_of p n level))
step_from p n level most group g y z c d e f step = subst (λ m. IsLevelStep g y z c d level m) (e ∙ ap (high p) f) step

pub movers-requires-after_bounds : goal.movers-requires-after_bounds
movers-requires-after_bounds g c κs within = λ i d at.
    let known = level_is c.args.scaled.th.now.profile c.args.scaled.th.now.vertices c.args.scaled.graph.now.vertices c.args.sweep.now.levels.level c.high-most.result c.group.result c.args.sweep.now.ranges c.args.scaled.scale c.high-most.ensures.value c.group.ensures.value c.requires.limit c.requires.room c.group.ensures.small in
    let listed : has_number (get_or c.deref.result.now i d) (waits c.args.sweep.now.ranges c.args.sweep.now.levels.level) ≡ true = ap (has_number (get_or c.deref.result.now i d)) (sym (c.deref.ensures.value ∙ c.in_ok-waiting.ensures.waiting)) ∙ has_number_at (get_or c.deref.result.now i d) c.deref.result.now i at (get_or_default c.deref.result.now i 0 d at) in
    call_movers c.args.scaled.th.now.profile c.args.scaled.graph.now c.requires.running.start c.args.sweep.now.levels c.args.sweep.now.ranges c.high-most.result c.requires.running.order known.1 c.requires.running.sweeping known.0 c.vertices-n.ensures.graph c.vertices-n.ensures.small known.2 known.3 c.take_waiting.new.self c.in_ok-waiting.ensures.took c.in_ok-waiting.ensures.same (get_or c.deref.result.now i d) listed

pub let_stay-requires : goal.let_stay-requires
let_stay-requires g c =
    let known = level_is c.args.scaled.th.now.profile c.args.scaled.th.now.vertices c.args.scaled.graph.now.vertices c.args.sweep.now.levels.level c.high-most.result c.group.result c.args.sweep.now.ranges c.args.scaled.scale c.high-most.ensures.value c.group.ensures.value c.requires.limit c.requires.room c.group.ensures.small in
    call_stay c.args.scaled.th.now.profile c.args.scaled.graph.now c.requires.running.start c.args.sweep.now.levels c.args.sweep.now.ranges c.high-most.result c.requires.running.order known.1 c.requires.running.sweeping known.0 c.vertices-n.ensures.graph c.vertices-n.ensures.small known.2 known.3 c.take_waiting.new.self c.in_ok-waiting.ensures.took c.in_ok-waiting.ensures.same

pub part-requires-clause-ready : goal.part-requires-clause-ready
part-requires-clause-ready g c κs within =
    let known = level_is c.args.scaled.th.now.profile c.args.scaled.th.now.vertices c.args.scaled.graph.now.vertices c.args.sweep.now.levels.level c.high-most.result c.group.result c.args.sweep.now.ranges c.args.scaled.scale c.high-most.ensures.value c.group.ensures.value c.requires.limit c.requires.room c.group.ensures.small in
    let movers : c.in_ok-starting.starting.items ≡ filter (is_over (count_of c.take_waiting.new.self) c.high-most.result) (waits c.args.sweep.now.ranges c.args.sweep.now.levels.level) = begin_from (count_of c.take_waiting.new.self) c.high-most.result c.deref.result.now c.in_ok-waiting.waiting.items (waits c.args.sweep.now.ranges c.args.sweep.now.levels.level) c.in_ok-starting.starting.items c.in_ok-starting.starting.items refl c.in_ok-starting.ensures c.deref.ensures.value c.in_ok-waiting.ensures.waiting in
    let parting : c.new-parting.result ≡ step_at c.args.scaled.graph.now c.let_stay.new.levels c.let_stay.new.self.width c.args.sweep.now.levels.level c.sharing-sharing.result.is_dealt = c.new-parting.ensures ∙ ap (λ b. step_at c.args.scaled.graph.now c.let_stay.new.levels b c.args.sweep.now.levels.level c.sharing-sharing.result.is_dealt) c.sharing-sharing.ensures in
    subst (λ k. CanPartAll k c.let_stay.new.self.parts c.let_stay.new.self.told) (sym parting) (call_part c.args.scaled.th.now.profile c.args.scaled.graph.now c.requires.running.start c.args.sweep.now.levels c.args.sweep.now.ranges c.high-most.result c.requires.running.order known.1 c.requires.running.sweeping known.0 c.vertices-n.ensures.graph c.vertices-n.ensures.small known.2 known.3 c.take_waiting.new.self c.in_ok-waiting.ensures.took c.in_ok-waiting.ensures.same c.in_ok-starting.starting.items movers c.let_stay.new.levels c.let_stay.new.self c.in_ok-staying.ensures.stay c.in_ok-staying.ensures.same c.sharing-sharing.result.is_dealt)

pub lift_off-requires : goal.lift_off-requires
lift_off-requires g c =
    let known = level_is c.args.scaled.th.now.profile c.args.scaled.th.now.vertices c.args.scaled.graph.now.vertices c.args.sweep.now.levels.level c.high-most.result c.group.result c.args.sweep.now.ranges c.args.scaled.scale c.high-most.ensures.value c.group.ensures.value c.requires.limit c.requires.room c.group.ensures.small in
    let movers : c.deref-2.result.now ≡ filter (is_over (count_of c.take_waiting.new.self) c.high-most.result) (waits c.args.sweep.now.ranges c.args.sweep.now.levels.level) = begin_from (count_of c.take_waiting.new.self) c.high-most.result c.deref.result.now c.in_ok-waiting.waiting.items (waits c.args.sweep.now.ranges c.args.sweep.now.levels.level) c.in_ok-starting.starting.items c.deref-2.result.now c.deref-2.ensures.value c.in_ok-starting.ensures c.deref.ensures.value c.in_ok-waiting.ensures.waiting in
    let parted : AllParted (step_at c.args.scaled.graph.now c.let_stay.new.levels c.let_stay.new.self.width c.args.sweep.now.levels.level c.sharing-sharing.result.is_dealt) c.let_stay.new.self.parts c.part.new.self.parts = subst (λ k. AllParted k c.let_stay.new.self.parts c.part.new.self.parts) (c.new-parting.ensures ∙ ap (λ b. step_at c.args.scaled.graph.now c.let_stay.new.levels b c.args.sweep.now.levels.level c.sharing-sharing.result.is_dealt) c.sharing-sharing.ensures) c.in_ok-part.ensures.parted in
    call_lift c.args.scaled.th.now.profile c.args.scaled.graph.now c.requires.running.start c.args.sweep.now.levels c.args.sweep.now.ranges c.high-most.result c.requires.running.order known.1 c.requires.running.sweeping known.0 c.vertices-n.ensures.graph c.vertices-n.ensures.small known.2 known.3 c.take_waiting.new.self c.in_ok-waiting.ensures.took c.in_ok-waiting.ensures.same c.deref-2.result.now movers c.let_stay.new.levels c.let_stay.new.self c.in_ok-staying.ensures.stay c.in_ok-staying.ensures.same c.sharing-sharing.result.is_dealt c.part.new.self parted c.in_ok-part.ensures.told c.in_ok-part.ensures.same c.go_to.new.self c.go_to.ensures.level c.go_to.ensures.seen c.go_to.ensures.rises

pub meeting_count-requires : goal.meeting_count-requires
meeting_count-requires g c =
    let known = level_is c.args.scaled.th.now.profile c.args.scaled.th.now.vertices c.args.scaled.graph.now.vertices c.args.sweep.now.levels.level c.high-most.result c.group.result c.args.sweep.now.ranges c.args.scaled.scale c.high-most.ensures.value c.group.ensures.value c.requires.limit c.requires.room c.group.ensures.small in
    let movers : c.deref-2.result.now ≡ filter (is_over (count_of c.take_waiting.new.self) c.high-most.result) (waits c.args.sweep.now.ranges c.args.sweep.now.levels.level) = begin_from (count_of c.take_waiting.new.self) c.high-most.result c.deref.result.now c.in_ok-waiting.waiting.items (waits c.args.sweep.now.ranges c.args.sweep.now.levels.level) c.in_ok-starting.starting.items c.deref-2.result.now c.deref-2.ensures.value c.in_ok-starting.ensures c.deref.ensures.value c.in_ok-waiting.ensures.waiting in
    let parted : AllParted (step_at c.args.scaled.graph.now c.let_stay.new.levels c.let_stay.new.self.width c.args.sweep.now.levels.level c.sharing-sharing.result.is_dealt) c.let_stay.new.self.parts c.part.new.self.parts = subst (λ k. AllParted k c.let_stay.new.self.parts c.part.new.self.parts) (c.new-parting.ensures ∙ ap (λ b. step_at c.args.scaled.graph.now c.let_stay.new.levels b c.args.sweep.now.levels.level c.sharing-sharing.result.is_dealt) c.sharing-sharing.ensures) c.in_ok-part.ensures.parted in
    call_meetings c.args.scaled.th.now.profile c.args.scaled.graph.now c.requires.running.start c.args.sweep.now.levels c.args.sweep.now.ranges c.high-most.result c.requires.running.order known.1 c.requires.running.sweeping known.0 c.vertices-n.ensures.graph c.vertices-n.ensures.small known.2 known.3 c.take_waiting.new.self c.in_ok-waiting.ensures.took c.in_ok-waiting.ensures.same c.deref-2.result.now movers c.let_stay.new.levels c.let_stay.new.self c.in_ok-staying.ensures.stay c.in_ok-staying.ensures.same c.sharing-sharing.result.is_dealt c.part.new.self parted c.in_ok-part.ensures.told c.in_ok-part.ensures.same c.go_to.new.self c.go_to.ensures.level c.go_to.ensures.seen c.go_to.ensures.rises c.lift_off.new.levels c.lift_off.new.self c.in_ok-begun.ensures.lifted c.in_ok-begun.ensures.same c.args.sweep.now.levels.level (omega arith)

pub meeting_count-requires-2 : goal.meeting_count-requires-2
meeting_count-requires-2 g c =
    let known = level_is c.args.scaled.th.now.profile c.args.scaled.th.now.vertices c.args.scaled.graph.now.vertices c.args.sweep.now.levels.level c.high-most.result c.group.result c.args.sweep.now.ranges c.args.scaled.scale c.high-most.ensures.value c.group.ensures.value c.requires.limit c.requires.room c.group.ensures.small in
    let movers : c.deref-2.result.now ≡ filter (is_over (count_of c.take_waiting.new.self) c.high-most.result) (waits c.args.sweep.now.ranges c.args.sweep.now.levels.level) = begin_from (count_of c.take_waiting.new.self) c.high-most.result c.deref.result.now c.in_ok-waiting.waiting.items (waits c.args.sweep.now.ranges c.args.sweep.now.levels.level) c.in_ok-starting.starting.items c.deref-2.result.now c.deref-2.ensures.value c.in_ok-starting.ensures c.deref.ensures.value c.in_ok-waiting.ensures.waiting in
    let parted : AllParted (step_at c.args.scaled.graph.now c.let_stay.new.levels c.let_stay.new.self.width c.args.sweep.now.levels.level c.sharing-sharing.result.is_dealt) c.let_stay.new.self.parts c.part.new.self.parts = subst (λ k. AllParted k c.let_stay.new.self.parts c.part.new.self.parts) (c.new-parting.ensures ∙ ap (λ b. step_at c.args.scaled.graph.now c.let_stay.new.levels b c.args.sweep.now.levels.level c.sharing-sharing.result.is_dealt) c.sharing-sharing.ensures) c.in_ok-part.ensures.parted in
    call_meetings c.args.scaled.th.now.profile c.args.scaled.graph.now c.requires.running.start c.args.sweep.now.levels c.args.sweep.now.ranges c.high-most.result c.requires.running.order known.1 c.requires.running.sweeping known.0 c.vertices-n.ensures.graph c.vertices-n.ensures.small known.2 known.3 c.take_waiting.new.self c.in_ok-waiting.ensures.took c.in_ok-waiting.ensures.same c.deref-2.result.now movers c.let_stay.new.levels c.let_stay.new.self c.in_ok-staying.ensures.stay c.in_ok-staying.ensures.same c.sharing-sharing.result.is_dealt c.part.new.self parted c.in_ok-part.ensures.told c.in_ok-part.ensures.same c.go_to.new.self c.go_to.ensures.level c.go_to.ensures.seen c.go_to.ensures.rises c.lift_off.new.levels c.lift_off.new.self c.in_ok-begun.ensures.lifted c.in_ok-begun.ensures.same (c.args.sweep.now.levels.level + 1) (omega arith)

pub new-rising-requires-clause-sized : goal.new-rising-requires-clause-sized
new-rising-requires-clause-sized g c =
    let known = level_is c.args.scaled.th.now.profile c.args.scaled.th.now.vertices c.args.scaled.graph.now.vertices c.args.sweep.now.levels.level c.high-most.result c.group.result c.args.sweep.now.ranges c.args.scaled.scale c.high-most.ensures.value c.group.ensures.value c.requires.limit c.requires.room c.group.ensures.small in
    let movers : c.deref-2.result.now ≡ filter (is_over (count_of c.take_waiting.new.self) c.high-most.result) (waits c.args.sweep.now.ranges c.args.sweep.now.levels.level) = begin_from (count_of c.take_waiting.new.self) c.high-most.result c.deref.result.now c.in_ok-waiting.waiting.items (waits c.args.sweep.now.ranges c.args.sweep.now.levels.level) c.in_ok-starting.starting.items c.deref-2.result.now c.deref-2.ensures.value c.in_ok-starting.ensures c.deref.ensures.value c.in_ok-waiting.ensures.waiting in
    let parted : AllParted (step_at c.args.scaled.graph.now c.let_stay.new.levels c.let_stay.new.self.width c.args.sweep.now.levels.level c.sharing-sharing.result.is_dealt) c.let_stay.new.self.parts c.part.new.self.parts = subst (λ k. AllParted k c.let_stay.new.self.parts c.part.new.self.parts) (c.new-parting.ensures ∙ ap (λ b. step_at c.args.scaled.graph.now c.let_stay.new.levels b c.args.sweep.now.levels.level c.sharing-sharing.result.is_dealt) c.sharing-sharing.ensures) c.in_ok-part.ensures.parted in
    (call_rise_step c.args.scaled.th.now.profile c.args.scaled.graph.now c.requires.running.start c.args.sweep.now.levels c.args.sweep.now.ranges c.high-most.result c.requires.running.order known.1 c.requires.running.sweeping known.0 c.vertices-n.ensures.graph c.vertices-n.ensures.small known.2 known.3 c.take_waiting.new.self c.in_ok-waiting.ensures.took c.in_ok-waiting.ensures.same c.deref-2.result.now movers c.let_stay.new.levels c.let_stay.new.self c.in_ok-staying.ensures.stay c.in_ok-staying.ensures.same c.sharing-sharing.result.is_dealt c.part.new.self parted c.in_ok-part.ensures.told c.in_ok-part.ensures.same c.go_to.new.self c.go_to.ensures.level c.go_to.ensures.seen c.go_to.ensures.rises c.lift_off.new.levels c.lift_off.new.self c.in_ok-begun.ensures.lifted c.in_ok-begun.ensures.same c.sharing-sharing-2.result.layout.width c.sharing-sharing-2.result.is_dealt).sized

pub rise-requires-after_bounds : goal.rise-requires-after_bounds
rise-requires-after_bounds g c κs within =
    let known = level_is c.args.scaled.th.now.profile c.args.scaled.th.now.vertices c.args.scaled.graph.now.vertices c.args.sweep.now.levels.level c.high-most.result c.group.result c.args.sweep.now.ranges c.args.scaled.scale c.high-most.ensures.value c.group.ensures.value c.requires.limit c.requires.room c.group.ensures.small in
    let movers : c.deref-2.result.now ≡ filter (is_over (count_of c.take_waiting.new.self) c.high-most.result) (waits c.args.sweep.now.ranges c.args.sweep.now.levels.level) = begin_from (count_of c.take_waiting.new.self) c.high-most.result c.deref.result.now c.in_ok-waiting.waiting.items (waits c.args.sweep.now.ranges c.args.sweep.now.levels.level) c.in_ok-starting.starting.items c.deref-2.result.now c.deref-2.ensures.value c.in_ok-starting.ensures c.deref.ensures.value c.in_ok-waiting.ensures.waiting in
    let parted : AllParted (step_at c.args.scaled.graph.now c.let_stay.new.levels c.let_stay.new.self.width c.args.sweep.now.levels.level c.sharing-sharing.result.is_dealt) c.let_stay.new.self.parts c.part.new.self.parts = subst (λ k. AllParted k c.let_stay.new.self.parts c.part.new.self.parts) (c.new-parting.ensures ∙ ap (λ b. step_at c.args.scaled.graph.now c.let_stay.new.levels b c.args.sweep.now.levels.level c.sharing-sharing.result.is_dealt) c.sharing-sharing.ensures) c.in_ok-part.ensures.parted in
    let rising : c.new-rising.result ≡ step_at c.args.scaled.graph.now c.lift_off.new.levels c.lift_off.new.self.width c.args.sweep.now.levels.level c.sharing-sharing-2.result.is_dealt = c.new-rising.ensures ∙ ap (λ b. step_at c.args.scaled.graph.now c.lift_off.new.levels b c.args.sweep.now.levels.level c.sharing-sharing-2.result.is_dealt) c.sharing-sharing-2.ensures in
    subst (λ k. CanRiseAll k c.lift_off.new.self.parts c.lift_off.new.self.told) (sym rising) (call_rise c.args.scaled.th.now.profile c.args.scaled.graph.now c.requires.running.start c.args.sweep.now.levels c.args.sweep.now.ranges c.high-most.result c.requires.running.order known.1 c.requires.running.sweeping known.0 c.vertices-n.ensures.graph c.vertices-n.ensures.small known.2 known.3 c.take_waiting.new.self c.in_ok-waiting.ensures.took c.in_ok-waiting.ensures.same c.deref-2.result.now movers c.let_stay.new.levels c.let_stay.new.self c.in_ok-staying.ensures.stay c.in_ok-staying.ensures.same c.sharing-sharing.result.is_dealt c.part.new.self parted c.in_ok-part.ensures.told c.in_ok-part.ensures.same c.go_to.new.self c.go_to.ensures.level c.go_to.ensures.seen c.go_to.ensures.rises c.lift_off.new.levels c.lift_off.new.self c.in_ok-begun.ensures.lifted c.in_ok-begun.ensures.same c.sharing-sharing-2.result.is_dealt)

pub take_steps-requires : goal.take_steps-requires
take_steps-requires g c =
    let known = level_is c.args.scaled.th.now.profile c.args.scaled.th.now.vertices c.args.scaled.graph.now.vertices c.args.sweep.now.levels.level c.high-most.result c.group.result c.args.sweep.now.ranges c.args.scaled.scale c.high-most.ensures.value c.group.ensures.value c.requires.limit c.requires.room c.group.ensures.small in
    let movers : c.deref-2.result.now ≡ filter (is_over (count_of c.take_waiting.new.self) c.high-most.result) (waits c.args.sweep.now.ranges c.args.sweep.now.levels.level) = begin_from (count_of c.take_waiting.new.self) c.high-most.result c.deref.result.now c.in_ok-waiting.waiting.items (waits c.args.sweep.now.ranges c.args.sweep.now.levels.level) c.in_ok-starting.starting.items c.deref-2.result.now c.deref-2.ensures.value c.in_ok-starting.ensures c.deref.ensures.value c.in_ok-waiting.ensures.waiting in
    let parted : AllParted (step_at c.args.scaled.graph.now c.let_stay.new.levels c.let_stay.new.self.width c.args.sweep.now.levels.level c.sharing-sharing.result.is_dealt) c.let_stay.new.self.parts c.part.new.self.parts = subst (λ k. AllParted k c.let_stay.new.self.parts c.part.new.self.parts) (c.new-parting.ensures ∙ ap (λ b. step_at c.args.scaled.graph.now c.let_stay.new.levels b c.args.sweep.now.levels.level c.sharing-sharing.result.is_dealt) c.sharing-sharing.ensures) c.in_ok-part.ensures.parted in
    let above_is : c.high-above.result ≡ high c.args.scaled.th.now.profile (group_of c.args.scaled.th.now.profile c.args.scaled.graph.now.vertices (c.args.sweep.now.levels.level + 1)) = level_limit c.args.scaled.th.now.profile c.args.scaled.th.now.vertices c.args.scaled.graph.now.vertices (c.args.sweep.now.levels.level + 1) c.high-above.result c.group-2.result c.high-above.ensures.value c.group-2.ensures.value c.args.scaled.scale in
    let risen : AllRisen (step_at c.args.scaled.graph.now c.lift_off.new.levels c.lift_off.new.self.width c.args.sweep.now.levels.level c.sharing-sharing-2.result.is_dealt) c.high-above.result c.lift_off.new.self.parts c.rise.new.self.parts = subst (λ k. AllRisen k c.high-above.result c.lift_off.new.self.parts c.rise.new.self.parts) (c.new-rising.ensures ∙ ap (λ b. step_at c.args.scaled.graph.now c.lift_off.new.levels b c.args.sweep.now.levels.level c.sharing-sharing-2.result.is_dealt) c.sharing-sharing-2.ensures) c.in_ok-rise.ensures.risen in
    call_steps c.args.scaled.th.now.profile c.args.scaled.graph.now c.requires.running.start c.args.sweep.now.levels c.args.sweep.now.ranges c.high-most.result c.requires.running.order known.1 c.requires.running.sweeping known.0 c.vertices-n.ensures.graph c.vertices-n.ensures.small known.2 known.3 c.take_waiting.new.self c.in_ok-waiting.ensures.took c.in_ok-waiting.ensures.same c.deref-2.result.now movers c.let_stay.new.levels c.let_stay.new.self c.in_ok-staying.ensures.stay c.in_ok-staying.ensures.same c.sharing-sharing.result.is_dealt c.part.new.self parted c.in_ok-part.ensures.told c.in_ok-part.ensures.same c.go_to.new.self c.go_to.ensures.level c.go_to.ensures.seen c.go_to.ensures.rises c.lift_off.new.levels c.lift_off.new.self c.in_ok-begun.ensures.lifted c.in_ok-begun.ensures.same c.high-above.result above_is c.sharing-sharing-2.result.is_dealt c.rise.new.self risen c.in_ok-rise.ensures.told c.in_ok-rise.ensures.same

pub returns-clause-step : goal.returns-clause-step
returns-clause-step g c =
    let known = level_is c.args.scaled.th.now.profile c.args.scaled.th.now.vertices c.args.scaled.graph.now.vertices c.args.sweep.now.levels.level c.high-most.result c.group.result c.args.sweep.now.ranges c.args.scaled.scale c.high-most.ensures.value c.group.ensures.value c.requires.limit c.requires.room c.group.ensures.small in
    let movers : c.deref-2.result.now ≡ filter (is_over (count_of c.take_waiting.new.self) c.high-most.result) (waits c.args.sweep.now.ranges c.args.sweep.now.levels.level) = begin_from (count_of c.take_waiting.new.self) c.high-most.result c.deref.result.now c.in_ok-waiting.waiting.items (waits c.args.sweep.now.ranges c.args.sweep.now.levels.level) c.in_ok-starting.starting.items c.deref-2.result.now c.deref-2.ensures.value c.in_ok-starting.ensures c.deref.ensures.value c.in_ok-waiting.ensures.waiting in
    let parted : AllParted (step_at c.args.scaled.graph.now c.let_stay.new.levels c.let_stay.new.self.width c.args.sweep.now.levels.level c.sharing-sharing.result.is_dealt) c.let_stay.new.self.parts c.part.new.self.parts = subst (λ k. AllParted k c.let_stay.new.self.parts c.part.new.self.parts) (c.new-parting.ensures ∙ ap (λ b. step_at c.args.scaled.graph.now c.let_stay.new.levels b c.args.sweep.now.levels.level c.sharing-sharing.result.is_dealt) c.sharing-sharing.ensures) c.in_ok-part.ensures.parted in
    let above_is : c.high-above.result ≡ high c.args.scaled.th.now.profile (group_of c.args.scaled.th.now.profile c.args.scaled.graph.now.vertices (c.args.sweep.now.levels.level + 1)) = level_limit c.args.scaled.th.now.profile c.args.scaled.th.now.vertices c.args.scaled.graph.now.vertices (c.args.sweep.now.levels.level + 1) c.high-above.result c.group-2.result c.high-above.ensures.value c.group-2.ensures.value c.args.scaled.scale in
    let risen : AllRisen (step_at c.args.scaled.graph.now c.lift_off.new.levels c.lift_off.new.self.width c.args.sweep.now.levels.level c.sharing-sharing-2.result.is_dealt) c.high-above.result c.lift_off.new.self.parts c.rise.new.self.parts = subst (λ k. AllRisen k c.high-above.result c.lift_off.new.self.parts c.rise.new.self.parts) (c.new-rising.ensures ∙ ap (λ b. step_at c.args.scaled.graph.now c.lift_off.new.levels b c.args.sweep.now.levels.level c.sharing-sharing-2.result.is_dealt) c.sharing-sharing-2.ensures) c.in_ok-rise.ensures.risen in
    step_from c.args.scaled.th.now.profile c.args.scaled.th.now.vertices c.args.sweep.now.levels.level c.high-most.result c.group.result c.args.scaled.graph.now (seen c.args.sweep.now.levels) (seen c.lift_off.new.levels) (count_of c.args.sweep.now.ranges) (count_of c.take_steps.new.self) c.high-most.ensures.value c.group.ensures.value (next_step c.args.scaled.th.now.profile c.args.scaled.graph.now c.requires.running.start c.args.sweep.now.levels c.args.sweep.now.ranges c.high-most.result c.requires.running.order known.1 c.requires.running.sweeping known.0 c.vertices-n.ensures.graph c.vertices-n.ensures.small known.2 known.3 c.take_waiting.new.self c.in_ok-waiting.ensures.took c.in_ok-waiting.ensures.same c.deref-2.result.now movers c.let_stay.new.levels c.let_stay.new.self c.in_ok-staying.ensures.stay c.in_ok-staying.ensures.same c.sharing-sharing.result.is_dealt c.part.new.self parted c.in_ok-part.ensures.told c.in_ok-part.ensures.same c.go_to.new.self c.go_to.ensures.level c.go_to.ensures.seen c.go_to.ensures.rises c.lift_off.new.levels c.lift_off.new.self c.in_ok-begun.ensures.lifted c.in_ok-begun.ensures.same c.high-above.result above_is c.sharing-sharing-2.result.is_dealt c.rise.new.self risen c.in_ok-rise.ensures.told c.in_ok-rise.ensures.same c.take_steps.new.self c.take_steps.ensures.rest c.take_steps.ensures.same)

pub returns-clause-running : goal.returns-clause-running
returns-clause-running g c = λ now x first run.
    let known = level_is c.args.scaled.th.now.profile c.args.scaled.th.now.vertices c.args.scaled.graph.now.vertices c.args.sweep.now.levels.level c.high-most.result c.group.result c.args.sweep.now.ranges c.args.scaled.scale c.high-most.ensures.value c.group.ensures.value c.requires.limit c.requires.room c.group.ensures.small in
    let movers : c.deref-2.result.now ≡ filter (is_over (count_of c.take_waiting.new.self) c.high-most.result) (waits c.args.sweep.now.ranges c.args.sweep.now.levels.level) = begin_from (count_of c.take_waiting.new.self) c.high-most.result c.deref.result.now c.in_ok-waiting.waiting.items (waits c.args.sweep.now.ranges c.args.sweep.now.levels.level) c.in_ok-starting.starting.items c.deref-2.result.now c.deref-2.ensures.value c.in_ok-starting.ensures c.deref.ensures.value c.in_ok-waiting.ensures.waiting in
    let parted : AllParted (step_at c.args.scaled.graph.now c.let_stay.new.levels c.let_stay.new.self.width c.args.sweep.now.levels.level c.sharing-sharing.result.is_dealt) c.let_stay.new.self.parts c.part.new.self.parts = subst (λ k. AllParted k c.let_stay.new.self.parts c.part.new.self.parts) (c.new-parting.ensures ∙ ap (λ b. step_at c.args.scaled.graph.now c.let_stay.new.levels b c.args.sweep.now.levels.level c.sharing-sharing.result.is_dealt) c.sharing-sharing.ensures) c.in_ok-part.ensures.parted in
    let above_is : c.high-above.result ≡ high c.args.scaled.th.now.profile (group_of c.args.scaled.th.now.profile c.args.scaled.graph.now.vertices (c.args.sweep.now.levels.level + 1)) = level_limit c.args.scaled.th.now.profile c.args.scaled.th.now.vertices c.args.scaled.graph.now.vertices (c.args.sweep.now.levels.level + 1) c.high-above.result c.group-2.result c.high-above.ensures.value c.group-2.ensures.value c.args.scaled.scale in
    let risen : AllRisen (step_at c.args.scaled.graph.now c.lift_off.new.levels c.lift_off.new.self.width c.args.sweep.now.levels.level c.sharing-sharing-2.result.is_dealt) c.high-above.result c.lift_off.new.self.parts c.rise.new.self.parts = subst (λ k. AllRisen k c.high-above.result c.lift_off.new.self.parts c.rise.new.self.parts) (c.new-rising.ensures ∙ ap (λ b. step_at c.args.scaled.graph.now c.lift_off.new.levels b c.args.sweep.now.levels.level c.sharing-sharing-2.result.is_dealt) c.sharing-sharing-2.ensures) c.in_ok-rise.ensures.risen in
    let paid : IsPaid c.args.scaled.graph.now x (sweeping_of c.lift_off.new.levels c.take_steps.new.self) first (now + c.take_steps.result) = subst (λ n. IsPaid c.args.scaled.graph.now x (sweeping_of c.lift_off.new.levels c.take_steps.new.self) first (now + n)) (sym c.take_steps.ensures.steps) (next_paid c.args.scaled.th.now.profile c.args.scaled.graph.now x c.args.sweep.now.levels c.args.sweep.now.ranges c.high-most.result run.order known.1 run.sweeping known.0 c.vertices-n.ensures.graph c.vertices-n.ensures.small known.2 known.3 c.take_waiting.new.self c.in_ok-waiting.ensures.took c.in_ok-waiting.ensures.same c.deref-2.result.now movers c.let_stay.new.levels c.let_stay.new.self c.in_ok-staying.ensures.stay c.in_ok-staying.ensures.same c.sharing-sharing.result.is_dealt c.part.new.self parted c.in_ok-part.ensures.told c.in_ok-part.ensures.same c.go_to.new.self c.go_to.ensures.level c.go_to.ensures.seen c.go_to.ensures.rises c.lift_off.new.levels c.lift_off.new.self c.in_ok-begun.ensures.lifted c.in_ok-begun.ensures.same c.high-above.result above_is c.sharing-sharing-2.result.is_dealt c.rise.new.self risen c.in_ok-rise.ensures.told c.in_ok-rise.ensures.same c.take_steps.new.self c.take_steps.ensures.rest c.take_steps.ensures.same first now run.paid) in
    record {
      order = next_order c.args.scaled.th.now.profile c.args.scaled.graph.now c.requires.running.start c.args.sweep.now.levels c.args.sweep.now.ranges c.high-most.result c.requires.running.order known.1 c.requires.running.sweeping known.0 c.vertices-n.ensures.graph c.vertices-n.ensures.small known.2 known.3 c.take_waiting.new.self c.in_ok-waiting.ensures.took c.in_ok-waiting.ensures.same c.deref-2.result.now movers c.let_stay.new.levels c.let_stay.new.self c.in_ok-staying.ensures.stay c.in_ok-staying.ensures.same c.sharing-sharing.result.is_dealt c.part.new.self parted c.in_ok-part.ensures.told c.in_ok-part.ensures.same c.go_to.new.self c.go_to.ensures.level c.go_to.ensures.seen c.go_to.ensures.rises c.lift_off.new.levels c.lift_off.new.self c.in_ok-begun.ensures.lifted c.in_ok-begun.ensures.same c.high-above.result above_is c.sharing-sharing-2.result.is_dealt c.rise.new.self risen c.in_ok-rise.ensures.told c.in_ok-rise.ensures.same c.take_steps.new.self c.take_steps.ensures.rest c.take_steps.ensures.same;
      sweeping = next_sweeping c.args.scaled.th.now.profile c.args.scaled.graph.now x c.args.sweep.now.levels c.args.sweep.now.ranges c.high-most.result run.order known.1 run.sweeping known.0 c.vertices-n.ensures.graph c.vertices-n.ensures.small known.2 known.3 c.take_waiting.new.self c.in_ok-waiting.ensures.took c.in_ok-waiting.ensures.same c.deref-2.result.now movers c.let_stay.new.levels c.let_stay.new.self c.in_ok-staying.ensures.stay c.in_ok-staying.ensures.same c.sharing-sharing.result.is_dealt c.part.new.self parted c.in_ok-part.ensures.told c.in_ok-part.ensures.same c.go_to.new.self c.go_to.ensures.level c.go_to.ensures.seen c.go_to.ensures.rises c.lift_off.new.levels c.lift_off.new.self c.in_ok-begun.ensures.lifted c.in_ok-begun.ensures.same c.high-above.result above_is c.sharing-sharing-2.result.is_dealt c.rise.new.self risen c.in_ok-rise.ensures.told c.in_ok-rise.ensures.same c.take_steps.new.self c.take_steps.ensures.rest c.take_steps.ensures.same;
      paid = paid;
    }
