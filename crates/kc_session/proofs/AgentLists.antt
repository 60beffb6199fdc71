-- Agents that are opened, run and are closed.
use Rattle.std.proofs.Common.{ℕ, suc, ◌≡◌, ◌+◌, ◌<◌, List, [], ◌∷◌, ◌++◌, length, get_or, take, drop, refl, ap, sym, ◌∙◌, arith, subst, false, true}
use Rattle.std.specs.Prelude.{All}
use Rattle.std.proofs.lemmas.List.{take-append-le}
use Rattle.std.proofs.lemmas.List.Elements.{All-nil, All-cons}
use Rattle.std.proofs.lemmas.Bool.Decides.{nat_tests}
use Rattle.std.proofs.Math.Seq.{take-length}
use Rattle.kc_history.specs.declared.entries.Entry.{Entry}
use Rattle.kc_history.specs.declared.replies.Reply.{Reply}
use Rattle.kc_history.specs.Replies.{AreExplained, vertices_of}
use Rattle.kc_history.proofs.lemmas.Replies.{earlier_explains}
use Rattle.kc_batch.specs.declared.ask.Ask.{Ask}
use Rattle.kc_store.specs.declared.roles.WriterState.{WriterState}
use Rattle.kc_store.specs.Seats.{StoreShape}
use Rattle.kc_session.specs.Agents.{AgentShape, agent_for, questions}
use Rattle.kc_session.specs.Asking.{HasRun, HaveRun, agents_for, Fit, AreClosed}

-- one more agent
pub agents_more : (store : StoreShape) (history : List Entry) (k : ℕ) (asks : List Ask) (ask : Ask) → agents_for store history k (asks ++ ask ∷ []) ≡ agents_for store history k asks ++ agent_for store history (k + length asks) ask ∷ []
agents_more store history k [] ask = let e : k ≡ k + 0 = omega arith in ap (λ j. agent_for store history j ask ∷ []) e
agents_more store history k (a ∷ asks) ask =
    let e : (k + 1) + length asks ≡ k + suc (length asks) = omega arith in
    ap (λ (rest : List AgentShape). agent_for store history k a ∷ rest) (agents_more store history (k + 1) asks ask ∙ ap (λ j. agents_for store history (k + 1) asks ++ agent_for store history j ask ∷ []) e)

pub length-agents : (store : StoreShape) (history : List Entry) (k : ℕ) (asks : List Ask) → length (agents_for store history k asks) ≡ length asks
length-agents store history k [] = refl
length-agents store history k (a ∷ asks) = ap suc (length-agents store history (k + 1) asks)

pub opened_more : (store : StoreShape) (history : List Entry) (asks : List Ask) (ask : Ask) (reader : ℕ) (agents more : List AgentShape) (a : AgentShape) → agents ≡ agents_for store history 0 asks → reader ≡ length agents → a ≡ agent_for store history reader ask → more ≡ agents ++ a ∷ []
    → more ≡ agents_for store history 0 (asks ++ ask ∷ [])
opened_more store history asks ask reader agents more a h n is e =
    let m : reader ≡ 0 + length asks = (let x = ap (λ (rest : List AgentShape). length rest) h in let y = length-agents store history 0 asks in omega (arith, n, x, y)) in
    e ∙ (ap (λ (rest : List AgentShape). rest ++ a ∷ []) h ∙ (ap (λ (z : AgentShape). agents_for store history 0 asks ++ z ∷ []) (is ∙ ap (λ j. agent_for store history j ask) m) ∙ sym (agents_more store history 0 asks ask)))

-- agents that were just opened may run
pub ready_to_run : (store : StoreShape) (history : List Entry) (k : ℕ) (asks : List Ask) → All (λ (a : AgentShape). (a.store ≡ store) × (a.has_run ≡ false)) (agents_for store history k asks)
ready_to_run store history k [] = All-nil (λ (a : AgentShape). (a.store ≡ store) × (a.has_run ≡ false))
ready_to_run store history k (ask ∷ asks) = All-cons (λ (a : AgentShape). (a.store ≡ store) × (a.has_run ≡ false)) (agent_for store history k ask) (agents_for store history (k + 1) asks) (refl, refl) (ready_to_run store history (k + 1) asks)

-- the facts that hold of each place
pub have_run : (old new : List AgentShape) → length new ≡ length old → ((i : ℕ) (d : AgentShape) → i < length old → HasRun (get_or old i d) (get_or new i d)) → HaveRun old new
have_run [] [] e h = tt
have_run [] (b ∷ bs) e h = absurd (omega (arith, e))
have_run (a ∷ rest) [] e h = absurd (omega (arith, e))
have_run (a ∷ rest) (b ∷ bs) e h = (h 0 a (omega arith), have_run rest bs (omega (arith, e)) (λ i d lt. h (suc i) d (omega (arith, lt))))

-- agents that have run may be closed
pub ready_to_close : (store : StoreShape) (history : List Entry) (k : ℕ) (asks : List Ask) (ran : List AgentShape) → HaveRun (agents_for store history k asks) ran → All (λ (a : AgentShape). (a.store ≡ store) × (a.has_run ≡ true)) ran
ready_to_close store history k [] [] h = All-nil (λ (a : AgentShape). (a.store ≡ store) × (a.has_run ≡ true))
ready_to_close store history k [] (b ∷ bs) h = absurd h
ready_to_close store history k (ask ∷ asks) [] h = absurd h
ready_to_close store history k (ask ∷ asks) (b ∷ bs) h =
    All-cons (λ (a : AgentShape). (a.store ≡ store) × (a.has_run ≡ true)) b bs (ap (λ (z : AgentShape). z.store) h.0.same, ap (λ (z : AgentShape). z.has_run) h.0.same) (ready_to_close store history (k + 1) asks bs h.1)

-- one more agent was closed
pub closed_more : (history : List Entry) (agents : List AgentShape) (lists : List (List Reply)) (a : AgentShape) (rs : List Reply) → AreClosed history agents lists → rs ≡ a.replies → vertices_of rs ≡ questions a.ask → AreExplained a.store.vertices history a.made rs
    → AreClosed history (agents ++ a ∷ []) (lists ++ rs ∷ [])
closed_more history [] [] a rs h e f g = ((e, (f, g)), tt)
closed_more history [] (ss ∷ more) a rs h e f g = absurd h
closed_more history (b ∷ bs) [] a rs h e f g = absurd h
closed_more history (b ∷ bs) (ss ∷ more) a rs h e f g = (h.0, closed_more history bs more a rs h.1 e f g)

-- the replies of agents that were opened for these asks, ran, and were closed fit the asks
pub closed_fit : (store : StoreShape) (first history : List Entry) (k : ℕ) (asks : List Ask) (ran : List AgentShape) (lists : List (List Reply)) → HaveRun (agents_for store first k asks) ran → AreClosed history ran lists → Fit asks lists
closed_fit store first history k [] [] [] r h = tt
closed_fit store first history k [] [] (rs ∷ more) r h = absurd h
closed_fit store first history k [] (b ∷ bs) lists r h = absurd r
closed_fit store first history k (ask ∷ asks) [] lists r h = absurd r
closed_fit store first history k (ask ∷ asks) (b ∷ bs) [] r h = absurd h
closed_fit store first history k (ask ∷ asks) (b ∷ bs) (rs ∷ more) r h =
    let asked : b.ask ≡ ask = ap (λ (z : AgentShape). z.ask) r.0.same in
    (h.0.1.0 ∙ ap (λ (q : Ask). questions q) asked, closed_fit store first history (k + 1) asks bs more r.1 h.1)

-- the history at the end explains the replies, from the start of the agents on
pub closed_explained : (store : StoreShape) (first history : List Entry) (k : ℕ) (asks : List Ask) (ran : List AgentShape) (lists : List (List Reply)) → HaveRun (agents_for store first k asks) ran → AreClosed history ran lists → All (AreExplained store.vertices history 0) lists
closed_explained store first history k [] [] [] r h = All-nil (AreExplained store.vertices history 0)
closed_explained store first history k [] [] (rs ∷ more) r h = absurd h
closed_explained store first history k [] (b ∷ bs) lists r h = absurd r
closed_explained store first history k (ask ∷ asks) [] lists r h = absurd r
closed_explained store first history k (ask ∷ asks) (b ∷ bs) [] r h = absurd h
closed_explained store first history k (ask ∷ asks) (b ∷ bs) (rs ∷ more) r h = grind (arith, nat_tests, closed_explained store first history (k + 1) asks bs more r.1 h.1, earlier_explains, r.0.same, h.0.1.1, r.1, h.1)

-- a list that was written through a slice of the whole
written : {A : Type 0} → (n : ℕ) (xs ys : List A) → n ≡ length xs → length ys ≡ length xs → take n (ys ++ drop (length ys) xs) ≡ ys
written n xs ys here same =
    let e : n ≡ length ys = here ∙ sym same in
    take-append-le n ys (drop (length ys) xs) (omega (arith, e)) ∙ (ap (λ k. take k ys) e ∙ take-length ys)

pub all_have_run : (k : ℕ) (first slice new : List AgentShape) → slice ≡ first → length new ≡ length slice → length slice ≡ k → ((i : ℕ) (d : AgentShape) → i < length slice → HasRun (get_or slice i d) (get_or new i d))
    → HaveRun first (take k (new ++ drop (length new) first))
all_have_run k first slice new same long size h =
    let both : length new ≡ length first = long ∙ ap (λ (xs : List AgentShape). length xs) same in
    let all : k ≡ length first = sym size ∙ ap (λ (xs : List AgentShape). length xs) same in
    subst (λ (xs : List AgentShape). HaveRun first xs) (sym (written k first new all both))
    (have_run first new both (subst (λ (xs : List AgentShape). (i : ℕ) (d : AgentShape) → i < length xs → HasRun (get_or xs i d) (get_or new i d)) same h))

-- one more pass was taken in, and nothing else is new
pub joined_on : (first now next : WriterState) (passes : List (List Entry)) → now ≡ record first { joined = now.joined } → next ≡ record now { joined = passes } → next ≡ record first { joined = next.joined }
joined_on first now next passes e f = f ∙ (ap (λ (s : WriterState). record s { joined = passes }) e ∙ sym (ap (λ (s : WriterState). record first { joined = s.joined }) f))
