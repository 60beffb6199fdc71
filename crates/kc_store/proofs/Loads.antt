-- The three loads of a read.
use Rattle.std.proofs.Common.{◌≡◌, ℕ, ◌+◌, ◌*◌, ◌<◌, ◌≤◌, List, [], length, get_or, sym, refl, ap, ◌∙◌, subst, arith, length-append, lt_of_not-le}
use mathlib.Core.List.{IsPrefix}
use mathlib.Core.Logic.{dite}
use native.Mathlib.Decide.{ℕ_discrete, dec_le}
use Rattle.atomic_table.specs.Table.{step, keeps, Allows}
use Rattle.kc_words.specs.Packed.{unpacked}
use Rattle.kc_history.specs.declared.entries.Entry.{Entry}
use Rattle.kc_history.specs.private.Ends.{level_of, stamp_of}
use Rattle.kc_store.specs.declared.roles.Pending.{Pending}
use Rattle.kc_store.specs.declared.roles.Role.TheVariants.{Reads, Looks, FoundBelow}
use Rattle.kc_store.specs.private.Rule.{IsKept}
use Rattle.kc_store.specs.private.Steps.{first_load, second_load, third_load}
use Rattle.kc_store.proofs.Points.{before_itself, before_both}
use Rattle.kc_store.proofs.Seats.{reader_step, pred_is}

pub longer : (k log : List Entry) (m : ℕ) → IsPrefix k log → m ≤ length k → m ≤ length log
longer k log m p le = let e = ap (length {A = Entry}) p.1 in omega (arith, e, length-append k p.0)

abbrev pub pending_at : ℕ → ℕ → List Entry → ℕ → ℕ → List Entry → Pending
pending_at vertices made seen v word from = record { vertices = vertices; seen = seen; made = made; vertex = v; word = word; from = from }

pub first : (n slots id v vertices made : ℕ) (seen : List Entry) → v < n → Allows (IsKept n) slots id (Reads vertices seen made, []) (v + 1) (λ n. n) (first_load (step slots (v + 1) 0 0 mathlib.Core.Option.none) (Reads vertices seen made, []))
first n slots id v vertices made seen inside s r homes at bound =
    let mine = r.seats id (Reads vertices seen made) at in
    let word : ℕ = get_or s.words (v + 1) 0 in
    let f = r.writes.facts.vertices v inside in
    let label : (unpacked word).label < vertices = subst (λ (k : ℕ). (unpacked word).label < k) (sym mine.0) f.label_in in
    dite (ℕ_discrete (unpacked word).phase 0)
    (λ none. (
      Reads vertices r.state.history made,
      keeps,
      tt,
      reader_step n s r id (v + 1) (Reads vertices seen made) (Reads vertices r.state.history made) at (λ k h. h) (mine.0, before_itself r.state.history, longer seen r.state.history made mine.1 mine.2),
      (
        label,
        (λ h. (r.state.history, refl, record { later = mine.1; level_is = ap (level_of 0 r.state.history) (pred_is v) ∙ f.shown (omega (arith, none)) })),
        (λ h. absurd (h none)),
      ),
    ))
    (λ other.
    let q : Pending = pending_at vertices made seen v word r.state.history in (
      Looks q,
      keeps,
      tt,
      reader_step n s r id (v + 1) (Reads vertices seen made) (Looks q) at (λ k h. h) record {
        reading = record { seen_in = mine.1; from_in = before_itself r.state.history; made_in = mine.2; vertices_is = mine.0; inside = inside };
        label_in = f.label_in;
        shown = λ le. record { point = r.state.history; after = before_itself r.state.history; within = before_itself r.state.history; level_is = f.shown le };
        unpublished = f.unpublished;
      },
      (
        label,
        (λ h. absurd (other h)),
        (λ h. (r.state.history, (λ i. (Looks (pending_at vertices made seen (sym (pred_is v) i) word r.state.history), [])), mine.1)),
      ),
    ))

pub second : (n slots id : ℕ) (q : Pending) → Allows (IsKept n) slots id (Looks q, []) (n + 1 + (unpacked q.word).label) (λ n. n) (second_load (step slots (n + 1 + (unpacked q.word).label) 0 0 mathlib.Core.Option.none) (Looks q, []))
second n slots id q s r homes at bound =
    let h = r.seats id (Looks q) at in
    let i : ℕ = n + 1 + (unpacked q.word).label in
    let found : get_or s.words i 0 ≡ stamp_of 0 r.state.history (unpacked q.word).label = r.writes.facts.stamps.words (unpacked q.word).label h.label_in in
    dite (dec_le (unpacked q.word).phase (get_or s.words i 0))
    (λ le.
    let a = h.shown (subst (λ (k : ℕ). (unpacked q.word).phase ≤ k) found le) in
    let before = before_both q.seen q.from a.point h.reading.seen_in a.after in (
      Reads q.vertices a.point q.made,
      keeps,
      tt,
      reader_step n s r id i (Looks q) (Reads q.vertices a.point q.made) at (λ k h. h) (h.reading.vertices_is, a.within, longer q.seen a.point q.made before h.reading.made_in),
      ((λ t. (a.point, refl, record { later = before; level_is = a.level_is })), (λ t. absurd (omega (arith, le, t)))),
    ))
    (λ late.
    let lt = lt_of_not-le late in
    let y = h.unpublished (subst (λ (k : ℕ). k < (unpacked q.word).phase) found lt) in (
      FoundBelow q,
      keeps,
      tt,
      reader_step n s r id i (Looks q) (FoundBelow q) at (λ k h. h) record {
        reading = h.reading;
        old = record { point = r.state.history; after = h.reading.from_in; within = before_itself r.state.history; level_is = y.level_is ∙ sym y.old_is };
      },
      ((λ t. absurd (late t)), (λ t. refl)),
    ))

pub third : (n slots id : ℕ) (q : Pending) → Allows (IsKept n) slots id (FoundBelow q, []) (2 * n + 1 + q.vertex) (λ n. n) (third_load (step slots (2 * n + 1 + q.vertex) 0 0 mathlib.Core.Option.none) (FoundBelow q, []))
third n slots id q s r homes at bound =
    let h = r.seats id (FoundBelow q) at in
    let i : ℕ = 2 * n + 1 + q.vertex in
    let a = h.old in
    let before = before_both q.seen q.from a.point h.reading.seen_in a.after in (
      Reads q.vertices a.point q.made,
      keeps,
      tt,
      reader_step n s r id i (FoundBelow q) (Reads q.vertices a.point q.made) at (λ k h. h) (h.reading.vertices_is, a.within, longer q.seen a.point q.made before h.reading.made_in),
      (r.writes.facts.olds q.vertex h.reading.inside, (a.point, refl, record { later = before; level_is = a.level_is })),
    )
