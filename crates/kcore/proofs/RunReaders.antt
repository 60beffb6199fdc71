-- The lines of the readers of a run: each line has its meaning, and the meanings fit the asks.
use Rattle.std.proofs.Common.{ℕ, suc, zero, ◌+◌, ◌≤◌, ◌<◌, ◌≡◌, true, List, [], ◌∷◌, length, refl, sym, ap, subst, arith, length-append}
use Rattle.std.specs.Prelude.{All, nat_lt}
use Rattle.std.proofs.lemmas.Bool.{and_from, lt-ltb}
use Rattle.std.proofs.lemmas.List.{length-map}
use Rattle.std.proofs.lemmas.List.Elements.{All-nil, All-head, All-tail, All-append}
use Rattle.kc_graph.specs.declared.limits.TheConstants.{MAX_VERTICES}
use Rattle.kc_history.specs.declared.replies.Reply.{Reply}
use Rattle.kc_history.specs.Replies.{AreExplained, vertices_of}
use Rattle.kc_batch.specs.declared.ask.Ask.{Ask}
use Rattle.kc_batch.specs.Headers.{IsAsk}
use Rattle.kc_report.specs.Lines.{reader_line}
use Rattle.kc_session.specs.Agents.{repeated, questions}
use Rattle.kc_session.specs.Asking.{Fit}
use Rattle.kc_session.specs.ReaderLines.{reader_lines}
use Rattle.kc_audit.specs.declared.groups.GroupLine.{GroupLine}
use Rattle.kc_audit.specs.Kinds as kind
use Rattle.kc_audit.specs.ReadBack.{pair_words, reader_kinds, ReaderFits, ReadersFit}
use Rattle.kc_audit.specs.Runs.{are_below, history_of}
use Rattle.kc_audit.proofs.lemmas.Runs.{Prints, prints_nothing, prints_line, prints_both, reader_says, HaveLevels, reply_levels}

repeated_below : (n k : ℕ) (vs : List ℕ) → All (λ v. v < n) vs → All (λ v. v < n) (repeated k vs)
repeated_below n zero vs h = All-nil (λ v. v < n)
repeated_below n (suc k) vs h = All-append (λ v. v < n) (repeated k vs) vs (repeated_below n k vs h) h

repeated_some : (k : ℕ) (vs : List ℕ) → 1 ≤ k → 0 < length vs → 0 < length (repeated k vs)
repeated_some zero vs h some = absurd (omega (arith, h))
repeated_some (suc k) vs h some = omega (arith, some, length-append (repeated k vs) vs)

are_all_below : (n : ℕ) (rs : List Reply) → All (λ v. v < n) (vertices_of rs) → are_below n rs ≡ true
are_all_below n [] h = refl
are_all_below n (r ∷ rs) h =
    and_from (nat_lt r.vertex n) (are_below n rs) (lt-ltb r.vertex n (All-head (λ v. v < n) r.vertex (vertices_of rs) h)) (are_all_below n rs (All-tail (λ v. v < n) r.vertex (vertices_of rs) h))

reader_fits : (n : ℕ) (gs : List GroupLine) (ask : Ask) (rs : List Reply) → All HaveLevels gs → IsAsk n ask → vertices_of rs ≡ questions ask → AreExplained n (history_of gs) 0 rs → ReaderFits n rs
reader_fits n gs ask rs levels i e explained = record {
  some = omega (arith, length-map rs (λ (r : Reply). r.vertex), ap (λ (vs : List ℕ). length vs) e, repeated_some ask.times ask.vertices i.times i.some);
  below = are_all_below n rs (subst (λ (vs : List ℕ). All (λ v. v < n) vs) (sym e) (repeated_below n ask.times ask.vertices i.below));
  levels = reply_levels n gs 0 rs levels explained;
}

-- replies to the questions of asks, with levels that group lines explain
pub readers_fit : (n : ℕ) (gs : List GroupLine) (asks : List Ask) (replies : List (List Reply)) → All HaveLevels gs → All (IsAsk n) asks → Fit asks replies → All (AreExplained n (history_of gs) 0) replies → ReadersFit n replies
readers_fit n gs [] [] levels i f e = tt
readers_fit n gs [] (rs ∷ more) levels i f e = absurd f
readers_fit n gs (ask ∷ asks) [] levels i f e = absurd f
readers_fit n gs (ask ∷ asks) (rs ∷ more) levels i f e = (
  reader_fits n gs ask rs levels (All-head (IsAsk n) ask asks i) f.0 (All-head (AreExplained n (history_of gs) 0) rs more e),
  readers_fit n gs asks more levels (All-tail (IsAsk n) ask asks i) f.1 (All-tail (AreExplained n (history_of gs) 0) rs more e),
)

pub as_many : (asks : List Ask) (replies : List (List Reply)) → Fit asks replies → length replies ≡ length asks
as_many [] [] f = refl
as_many [] (rs ∷ more) f = absurd f
as_many (ask ∷ asks) [] f = absurd f
as_many (ask ∷ asks) (rs ∷ more) f = ap suc (as_many asks more f.1)

pub readers_print : (n r : ℕ) (replies : List (List Reply)) → n ≤ MAX_VERTICES → r + length replies ≤ 64 → ReadersFit n replies → Prints (reader_lines r replies) (λ rest. reader_kinds r replies rest)
readers_print n r [] most few fit = prints_nothing
readers_print n r (rs ∷ more) most few fit =
    let next : r + 1 ≡ suc r = omega arith in
    prints_both (reader_line r rs) (reader_lines (r + 1) more) (λ rest. kind.Reader r (pair_words 61 rs) ∷ rest) (λ rest. reader_kinds (suc r) more rest)
    (prints_line _ (kind.Reader r (pair_words 61 rs)) (reader_says n r rs most (omega (arith, few)) fit.0))
    (subst (λ k. Prints (reader_lines k more) (λ rest. reader_kinds (suc r) more rest)) (sym next) (readers_print n (suc r) more most (omega (arith, few)) fit.1))
