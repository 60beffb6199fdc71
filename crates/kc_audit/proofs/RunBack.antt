-- The lines of a run are read back.
use Rattle.std.proofs.Common.{ℕ, zero, suc, ◌+◌, ◌^◌, ◌≤◌, ◌<◌, ◌≡◌, Bool, true, false, ◌&&◌, List, [], ◌∷◌, ◌++◌, length, map, refl, sym, ap, ◌∙◌, arith, append_assoc, length-append}
use Rattle.std.specs.Prelude.{Option, Some, None, nat_le, ◌==◌}
use Rattle.std.proofs.lemmas.Bool.Decides.{nat_tests}
use Rattle.std.proofs.lemmas.List.{append-nil}
use Rattle.std.proofs.lemmas.Option.{same_Some}
use Rattle.std.proofs.lemmas.Bool.{le-leb, lt-ltb}
use Rattle.kc_graph.specs.declared.limits.TheConstants.{MAX_VERTICES}
use Rattle.kc_text.specs.declared.line.Line.{Line}
use Rattle.kc_history.specs.declared.replies.Reply.{Reply}
use Rattle.kc_audit.specs.declared.groups.GroupLine.{GroupLine}
use Rattle.kc_audit.specs.declared.run_text.RunText.{RunText}
use Rattle.kc_audit.specs.declared.stage.PhasesLeft.{PhasesLeft}
use Rattle.kc_audit.specs.declared.stage.PhasesLeft.TheVariants.{NoPhase, Insertion, AnyPhase}
use Rattle.kc_audit.specs.declared.stage.Place.{Place}
use Rattle.kc_audit.specs.declared.stage.Stage.{Stage}
use Rattle.kc_audit.specs.declared.stage.Stage.TheVariants.{Batches, Groups, Readers, VertexLines}
use Rattle.kc_audit.specs.Kinds.{Kind, Accepted, Refused, Phase, Group, Reader, Vertex, Close, InputEnd, kind_of}
use Rattle.kc_audit.specs.Documents.{Step, Goes, Ends, Stops, step_of, reader_step, vertex_step, batches_step, left_after, act, read_from, empty_run, first_place, after_head, document_of}
use Rattle.kc_audit.specs.Documents as document
use Rattle.kc_audit.specs.ReadBack.{pair_words, PhaseText, BatchText, Took, Left, group_kinds, batch_kinds, reader_kinds, vertex_kinds, GroupFits, GroupsFit, BatchesFit, ReaderFits, ReadersFit, batch_groups, RunIsReadBack}
use Rattle.kc_audit.proofs.PairsBack.{pairs_back}

-- the run that kinds of lines tell, if they tell one
on_kind : Step → (RunText → Stage → Option RunText) → Option RunText
on_kind (Goes run stage) next = next run stage
on_kind (Ends run) next = Some run
on_kind (Stops reason) next = None

run_from : RunText → Stage → List Kind → Option RunText
run_from run stage [] = None
run_from run stage (k ∷ ks) = on_kind (step_of run stage k) (λ more next. run_from more next ks)

kinds : List Line → List Kind
kinds ls = map (λ (l : Line). kind_of l.body) ls

by_step : (s : Step) (number : ℕ) (rest : List Line) (r : RunText) → ((run : RunText) (stage : Stage) → run_from run stage (kinds rest) ≡ Some r → read_from run stage rest ≡ document.Accepted r)
    → on_kind s (λ more next. run_from more next (kinds rest)) ≡ Some r → act number s (λ more next. read_from more next rest) ≡ document.Accepted r
unfolding on_kind
by_step s number rest r h e = grind (arith, nat_tests, same_Some)

by_kinds : (ls : List Line) (r : RunText) (run : RunText) (stage : Stage) → run_from run stage (kinds ls) ≡ Some r → read_from run stage ls ≡ document.Accepted r
unfolding run_from read_from kinds
by_kinds [] r run stage e = absurd cc
by_kinds (line ∷ rest) r run stage e = by_step (step_of run stage (kind_of line.body)) line.number rest r (by_kinds rest r) e

itself : (a : ℕ) → (a == a) ≡ true
itself a = grind (arith, nat_tests)

-- groups
abbrev with_groups : RunText → List GroupLine → RunText
with_groups run gs = record { vertices = run.vertices; groups = run.groups ++ gs; readers = run.readers }

group_goes : (run : RunText) (place : Place) (low : ℕ) (g : GroupLine) → run.vertices ≤ 2 ^ 32 → GroupFits run.vertices place.phase low g
    → step_of run (Groups place low) (Group g.phase g.label (pair_words 58 g.members)) ≡ Goes (with_groups run (g ∷ [])) (Groups place (suc g.label))
group_goes run place low g small fits = grind (arith, nat_tests, itself, le-leb, pairs_back, fits.phase, fits.label, fits.below, fits.levels, fits.rises)

none : (run : RunText) → with_groups run [] ≡ run
none run = ap (λ (gs : List GroupLine). record { vertices = run.vertices; groups = gs; readers = run.readers }) (append-nil run.groups)

join : (run : RunText) (gs hs : List GroupLine) → with_groups (with_groups run gs) hs ≡ with_groups run (gs ++ hs)
join run gs hs = ap (λ (ls : List GroupLine). record { vertices = run.vertices; groups = ls; readers = run.readers }) (append_assoc run.groups gs hs)

-- a stage at which batch lines, phase lines and what follows them may come
record IsOpen (stage : Stage) (place : Place) : Type 0 where
  accepted : (run : RunText) (t : ℕ) → step_of run stage (Accepted t) ≡ batches_step run place (Accepted t)
  refused : (run : RunText) (t : ℕ) → step_of run stage (Refused t) ≡ batches_step run place (Refused t)
  phase : (run : RunText) (p : ℕ) (add : Bool) → step_of run stage (Phase p add) ≡ batches_step run place (Phase p add)
  reader : (run : RunText) (r : ℕ) (ws : List (List ℕ)) → step_of run stage (Reader r ws) ≡ reader_step run r ws
  vertex : (run : RunText) (v : ℕ) → step_of run stage (Vertex v) ≡ vertex_step run 0 v

open_batches : (place : Place) → IsOpen (Batches place) place
open_batches place = record { accepted = λ run t. refl; refused = λ run t. refl; phase = λ run p add. refl; reader = λ run r ws. refl; vertex = λ run v. refl }

open_groups : (place : Place) (low : ℕ) → IsOpen (Groups place low) place
open_groups place low = record { accepted = λ run t. refl; refused = λ run t. refl; phase = λ run p add. refl; reader = λ run r ws. refl; vertex = λ run v. refl }

-- kinds lead to a run at a stage that is open at a place
record LeadsTo (before : Option RunText) (run : RunText) (place : Place) (rest : List Kind) : Type 0 where
  stage : Stage
  opens : IsOpen stage place
  same : before ≡ run_from run stage rest

led : (before other : Option RunText) (run more : RunText) (place : Place) (rest : List Kind) → before ≡ other → run ≡ more → LeadsTo other run place rest → LeadsTo before more place rest
led before other run more place rest e f h = record { stage = h.stage; opens = h.opens; same = e ∙ (h.same ∙ ap (λ (x : RunText). run_from x h.stage rest) f) }

read_groups : (gs : List GroupLine) (run : RunText) (place : Place) (low : ℕ) (rest : List Kind) → run.vertices ≤ 2 ^ 32 → GroupsFit run.vertices place.phase low gs
    → LeadsTo (run_from run (Groups place low) (group_kinds gs rest)) (with_groups run gs) place rest
unfolding run_from on_kind
read_groups [] run place low rest small fits = record { stage = Groups place low; opens = open_groups place low; same = ap (λ (x : RunText). run_from x (Groups place low) rest) (sym (none run)) }
read_groups (g ∷ gs) run place low rest small fits = grind (arith, nat_tests, read_groups gs (with_groups run (g ∷ [])) place (suc g.label) rest small fits.1, led, group_goes, join, fits.0, fits.1)

abbrev place_at : ℕ → ℕ → PhasesLeft → Place
place_at t p left = record { batch = t; phase = p; left = left }

-- one phase
read_phase : (run : RunText) (stage : Stage) (t p : ℕ) (left after : PhasesLeft) (x : PhaseText) (rest : List Kind) → IsOpen stage (place_at t p left) → left_after left x.add ≡ Some after
    → run.vertices ≤ 2 ^ 32 → GroupsFit run.vertices (suc p) 0 x.groups
    → LeadsTo (run_from run stage (Phase (suc p) x.add ∷ group_kinds x.groups rest)) (with_groups run x.groups) (place_at t (suc p) after) rest
unfolding run_from on_kind
read_phase run stage t p left after x rest op turn small fits = grind (arith, nat_tests, read_groups, itself, op.phase)

first_after : Bool → PhasesLeft
first_after true = NoPhase
first_after false = Insertion

first_turn : (add : Bool) → left_after AnyPhase add ≡ Some (first_after add)
unfolding first_after
first_turn add = grind (arith, nat_tests)

takes : (run : RunText) (stage : Stage) (t p : ℕ) (left : PhasesLeft) (ks : List Kind) → IsOpen stage (place_at t p left)
    → run_from run stage (Accepted (suc t) ∷ ks) ≡ run_from run (Batches (place_at (suc t) p AnyPhase)) ks
unfolding run_from on_kind
takes run stage t p left ks op = rw (op.accepted run (suc t), itself (suc t)) refl

leaves : (run : RunText) (stage : Stage) (t p : ℕ) (left : PhasesLeft) (ks : List Kind) → IsOpen stage (place_at t p left)
    → run_from run stage (Refused (suc t) ∷ ks) ≡ run_from run (Batches (place_at (suc t) p NoPhase)) ks
unfolding run_from on_kind
leaves run stage t p left ks op = rw (op.refused run (suc t), itself (suc t)) refl

-- kinds lead to a run at some open stage
record LeadsOn (before : Option RunText) (run : RunText) (rest : List Kind) : Type 0 where
  place : Place
  to : LeadsTo before run place rest

on : (before other : Option RunText) (run more : RunText) (rest : List Kind) → before ≡ other → run ≡ more → LeadsOn other run rest → LeadsOn before more rest
on before other run more rest e f h = record { place = h.place; to = led before other run more h.place rest e f h.to }

one_phase : (run : RunText) (xs more : List GroupLine) → with_groups (with_groups run xs) more ≡ with_groups run ((xs ++ []) ++ more)
one_phase run xs more = join run xs more ∙ ap (λ (ls : List GroupLine). with_groups run (ls ++ more)) (sym (append-nil xs))

two_phases : (run : RunText) (xs ys more : List GroupLine) → with_groups (with_groups (with_groups run xs) ys) more ≡ with_groups run ((xs ++ (ys ++ [])) ++ more)
two_phases run xs ys more = grind (arith, nat_tests, join, append-nil)

read_batches : (bs : List BatchText) (run : RunText) (stage : Stage) (t p : ℕ) (left : PhasesLeft) (rest : List Kind) → IsOpen stage (place_at t p left) → run.vertices ≤ 2 ^ 32 → BatchesFit run.vertices p bs
    → LeadsOn (run_from run stage (batch_kinds t p bs rest)) (with_groups run (batch_groups bs)) rest
read_batches [] run stage t p left rest op small fits =
    record { place = place_at t p left; to = record { stage = stage; opens = op; same = ap (λ (x : RunText). run_from x stage rest) (sym (none run)) } }
read_batches (Left ∷ bs) run stage t p left rest op small fits =
    on _ _ _ _ rest (leaves run stage t p left _ op) refl (read_batches bs run (Batches (place_at (suc t) p NoPhase)) (suc t) p NoPhase rest (open_batches (place_at (suc t) p NoPhase)) small fits)
read_batches (Took [] ∷ bs) run stage t p left rest op small fits =
    on _ _ _ _ rest (takes run stage t p left _ op) refl (read_batches bs run (Batches (place_at (suc t) p AnyPhase)) (suc t) p AnyPhase rest (open_batches (place_at (suc t) p AnyPhase)) small fits.1)
read_batches (Took (x ∷ []) ∷ bs) run stage t p left rest op small fits =
    let after = first_after x.add in
    let a = read_phase run (Batches (place_at (suc t) p AnyPhase)) (suc t) p AnyPhase after x (batch_kinds (suc t) (suc p) bs rest) (open_batches (place_at (suc t) p AnyPhase)) (first_turn x.add) small fits.0 in
    on _ _ _ _ rest (takes run stage t p left _ op ∙ a.same) (one_phase run x.groups (batch_groups bs)) (read_batches bs (with_groups run x.groups) a.stage (suc t) (suc p) after rest a.opens small fits.1)
read_batches (Took (x ∷ y ∷ []) ∷ bs) run stage t p left rest op small fits =
    let deletes : left_after AnyPhase x.add ≡ Some Insertion = rw fits.0.0 refl in
    let inserts : left_after Insertion y.add ≡ Some NoPhase = rw fits.0.1.0 refl in
    let a = read_phase run (Batches (place_at (suc t) p AnyPhase)) (suc t) p AnyPhase Insertion x (Phase (suc (suc p)) y.add ∷ group_kinds y.groups (batch_kinds (suc t) (suc (suc p)) bs rest)) (open_batches (place_at (suc t) p AnyPhase)) deletes small fits.0.1.1.0 in
    let b = read_phase (with_groups run x.groups) a.stage (suc t) (suc p) Insertion NoPhase y (batch_kinds (suc t) (suc (suc p)) bs rest) a.opens inserts small fits.0.1.1.1 in
    on _ _ _ _ rest (takes run stage t p left _ op ∙ (a.same ∙ b.same)) (two_phases run x.groups y.groups (batch_groups bs))
    (read_batches bs (with_groups (with_groups run x.groups) y.groups) b.stage (suc t) (suc (suc p)) NoPhase rest b.opens small fits.1)
read_batches (Took (x ∷ y ∷ z ∷ xs) ∷ bs) run stage t p left rest op small fits = absurd fits.0

-- vertices and the end
vertex_goes : (run : RunText) (v : ℕ) → v < run.vertices → vertex_step run v v ≡ Goes run (VertexLines (suc v))
vertex_goes run v h = rw (itself v, lt-ltb v run.vertices h) refl

abbrev the_end : List Kind
the_end = Close ∷ InputEnd ∷ []

read_vertices : (more : ℕ) (run : RunText) (v : ℕ) → v + more ≡ run.vertices → run_from run (VertexLines v) (vertex_kinds v more the_end) ≡ Some run
unfolding run_from on_kind
read_vertices zero run v e = grind (arith, nat_tests, itself)
read_vertices (suc more) run v e = rw (vertex_goes run v (omega (arith, e))) (read_vertices more run (suc v) (omega (arith, e)))

-- a stage at which readers and the first vertex line may come
record IsTail (stage : Stage) : Type 0 where
  reader : (run : RunText) (r : ℕ) (ws : List (List ℕ)) → step_of run stage (Reader r ws) ≡ reader_step run r ws
  vertex : (run : RunText) (v : ℕ) → step_of run stage (Vertex v) ≡ vertex_step run 0 v

first_vertex : (n : ℕ) (run : RunText) (stage : Stage) → n ≡ run.vertices → IsTail stage → 1 ≤ n → run_from run stage (vertex_kinds 0 n the_end) ≡ Some run
unfolding run_from on_kind
first_vertex n run stage e h some = grind (arith, nat_tests, vertex_goes, read_vertices)

abbrev with_readers : RunText → List (List Reply) → RunText
with_readers run rs = record { vertices = run.vertices; groups = run.groups; readers = run.readers ++ rs }

no_readers : (run : RunText) → with_readers run [] ≡ run
no_readers run = ap (λ (rs : List (List Reply)). record { vertices = run.vertices; groups = run.groups; readers = rs }) (append-nil run.readers)

reader_goes : (run : RunText) (r : ℕ) (x : List Reply) → r ≡ length run.readers → r < 64 → run.vertices ≤ 2 ^ 32 → ReaderFits run.vertices x → reader_step run r (pair_words 61 x) ≡ Goes (with_readers run (x ∷ [])) Readers
reader_goes run r x e few small fits = grind (arith, nat_tests, itself, lt-ltb, pairs_back, fits.below, fits.levels, fits.some)

read_readers : (rs : List (List Reply)) (n : ℕ) (run : RunText) (stage : Stage) (r : ℕ) → n ≡ run.vertices → IsTail stage → 1 ≤ n → run.vertices ≤ 2 ^ 32 → r ≡ length run.readers → r + length rs ≤ 64 → ReadersFit run.vertices rs
    → run_from run stage (reader_kinds r rs (vertex_kinds 0 n the_end)) ≡ Some (with_readers run rs)
unfolding run_from on_kind
read_readers [] n run stage r e h some small count few fits = first_vertex n run stage e h some ∙ ap (λ (x : RunText). Some x) (sym (no_readers run))
read_readers (x ∷ rs) n run stage r e h some small count few fits =
    let next : suc r ≡ length (run.readers ++ x ∷ []) = omega (arith, count, length-append run.readers (x ∷ [])) in
    rw (h.reader run r (pair_words 61 x), reader_goes run r x count (omega (arith, few)) small fits.0)
    (read_readers rs n (with_readers run (x ∷ [])) Readers (suc r) e (record { reader = λ a b ws. refl; vertex = λ a v. refl }) some small next (omega (arith, few)) fits.1
    ∙ ap (λ (ls : List (List Reply)). Some (record { vertices = run.vertices; groups = run.groups; readers = ls })) (append_assoc run.readers (x ∷ []) rs))

-- the first two lines
split : (k : Kind) (ks : List Kind) (ls : List Line) (P : List Line → Type 0) → kinds ls ≡ k ∷ ks → ((l : Line) (rest : List Line) → kind_of l.body ≡ k → kinds rest ≡ ks → P (l ∷ rest)) → P ls
unfolding kinds
split k ks [] P e h = absurd cc
split k ks (l ∷ rest) P e h = h l rest (cc) (cc)

body_back : (n : ℕ) (bs : List BatchText) (rs : List (List Reply)) → 1 ≤ n → n ≤ MAX_VERTICES → BatchesFit n 0 bs → length rs ≤ 64 → ReadersFit n rs
    → run_from (empty_run n) (Batches first_place) (batch_kinds 0 0 bs (reader_kinds 0 rs (vertex_kinds 0 n the_end))) ≡ Some (record { vertices = n; groups = batch_groups bs; readers = rs })
body_back n bs rs some most fits few readers =
    let small : n ≤ 2 ^ 32 = omega (arith, most) in
    let e = read_batches bs (empty_run n) (Batches first_place) 0 0 NoPhase (reader_kinds 0 rs (vertex_kinds 0 n the_end)) (open_batches first_place) small fits in
    e.to.same ∙ read_readers rs n (with_groups (empty_run n) (batch_groups bs)) e.to.stage 0 refl (record { reader = e.to.opens.reader; vertex = e.to.opens.vertex }) some small refl (omega (arith, few)) readers

vertices_ok : (n : ℕ) → 1 ≤ n → n ≤ MAX_VERTICES → (nat_le 1 n && nat_le n MAX_VERTICES) ≡ true
vertices_ok n some most = rw (le-leb 1 n some, le-leb n MAX_VERTICES most) refl

pub run_is_read_back : RunIsReadBack
unfolding document_of after_head kinds
run_is_read_back n bs rs ls some most fits few readers e = grind (arith, nat_tests, split, vertices_ok, by_kinds, body_back)
