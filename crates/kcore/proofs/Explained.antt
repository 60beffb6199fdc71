-- A text of `run` is explained.
use Rattle.std.proofs.Common.{ℕ, ◌≡◌, ◌≤◌, ◌<◌, Bool, false, List, [], ◌∷◌, ◌++◌, length, get_or, refl, sym, ap, ◌∙◌, subst, arith, length-append}
use Rattle.std.specs.Prelude.{All, codes, decimal}
use Rattle.std.proofs.lemmas.Bool.Decides.{nat_tests}
use Rattle.kc_graph.specs.declared.limits.TheConstants.{MAX_VERTICES, MAX_EDGES, MAX_ITEMS}
use Rattle.kc_graph.specs.Shape.{GraphShape}
use Rattle.kc_text.specs.Lines.{lines}
use Rattle.kc_text.specs.Kept.{kept}
use Rattle.kc_levels.specs.declared.profile.Profile.{Profile}
use Rattle.kc_history.specs.declared.entries.Entry.{Entry}
use Rattle.kc_history.specs.declared.replies.Reply.{Reply}
use Rattle.kc_history.specs.Points.{graph_at, levels_at}
use Rattle.kc_history.specs.Replies.{AreExplained}
use Rattle.kc_batch.specs.declared.batch.Next.{Next}
use Rattle.kc_batch.specs.HeaderShape.{HeaderShape}
use Rattle.kc_batch.specs.Headers.{HeaderText, Accepted, Refused, header_of}
use Rattle.kc_batch.specs.Batches.{batches}
use Rattle.kc_batch.specs.BatchInputs.{rules_of, behind_header}
use Rattle.kc_batch.specs.Tokens.{tokens}
use Rattle.kc_batch.proofs.lemmas.Inputs.{batches_keep_ranges}
use Rattle.kc_engine.specs.States.{State, IsSound}
use Rattle.kc_report.specs.Lines.{magic_line, vertices_line, head_text}
use Rattle.kc_report.specs.VertexLines.{tail_text}
use Rattle.kc_session.specs.declared.report.Report.TheVariants.{Lines}
use Rattle.kc_session.specs.ReaderLines.{reader_lines}
use Rattle.kc_session.specs.RunText.{batch_lines}
use Rattle.kc_session.specs.States.{start, last_state, history_of}
use Rattle.kc_session.proofs.lemmas.Runs.{sound_last, profile_last, sound_start}
use Rattle.kc_audit.specs.declared.run_text.RunText.{RunText}
use Rattle.kc_audit.specs.declared.groups.GroupLine.{GroupLine}
use Rattle.kc_audit.specs.declared.verdict.AuditVerdict.TheVariants as verdict
use Rattle.kc_audit.specs.Documents as document
use Rattle.kc_audit.specs.Documents.{document_in}
use Rattle.kc_audit.specs.Kinds as kind
use Rattle.kc_audit.specs.Laws.{lines_of, IsQuietUnlessLabelled}
use Rattle.kc_audit.specs.ReadBack.{BatchText, batch_kinds, reader_kinds, vertex_kinds, ReadersFit}
use Rattle.kc_audit.specs.Runs as runs
use Rattle.kc_audit.specs.Verdicts.{replies_of, IsExplained}
use Rattle.kc_audit.proofs.lemmas.Verdicts.{lines_explain, explained_passes}
use Rattle.kc_audit.proofs.lemmas.Runs.{lines_say_kinds, Prints, prints_line, prints_both, run_kinds_before, whole_run, HaveLevels, batches_low}
use Rattle.kcore.specs.declared.limits.TheConstants.{LINE_LIMIT, INPUT_LIMIT, RUN_LINE_LIMIT}
use Rattle.kcore.specs.AuditLaw.{recorded, ExplainsAfter, RunIsExplained}
use Rattle.kcore.specs.AuditText.{verdict_line, IsDocumentText}
use Rattle.kcore.specs.RunText.{IsRun}
use Rattle.kcore.proofs.HeaderRanges.{HasRanges, header_keeps}
use Rattle.kcore.proofs.LineNumbers.{kept_are_numbered, batches_have_small_lines}
use Rattle.kcore.proofs.Points.{are_points}
use Rattle.kcore.proofs.RunBatches.{run_batches, AreTakenAs, batches_taken, few_batches}
use Rattle.kcore.proofs.RunReaders.{readers_fit, readers_print, as_many}
use Rattle.kcore.proofs.RunVertices.{tail_prints}

head_prints : (n : ℕ) → n ≤ MAX_VERTICES → Prints (head_text n) (λ rest. kind.Head ∷ kind.Vertices n ∷ rest)
head_prints n most =
    prints_both magic_line (vertices_line n) (λ rest. kind.Head ∷ rest) (λ rest. kind.Vertices n ∷ rest) (prints_line (codes "kcore-run" ∷ codes "1" ∷ []) kind.Head lines_say_kinds.frame.head)
    (prints_line (codes "vertices" ∷ decimal n ∷ []) (kind.Vertices n) (lines_say_kinds.frame.vertices n (omega (arith, most))))

-- the tail of a session at the end of its history, if that is a sound state
end_prints : (p : Profile) (n : ℕ) (g : GraphShape) (x : List ℕ) (s : State) → 1 ≤ n → n ≤ MAX_VERTICES → g ≡ s.graph → x ≡ s.levels → s.profile ≡ p → s.graph.vertices ≡ n → IsSound MAX_EDGES s
    → Prints (tail_text p g x) (λ rest. vertex_kinds 0 n (kind.Close ∷ rest))
end_prints p n g x s some most eg ex ep en k =
    rw (eg, ex, ← ep) (subst (λ m. Prints (tail_text s.profile s.graph s.levels) (λ rest. vertex_kinds 0 m (kind.Close ∷ rest))) en
    (tail_prints s.profile s.graph s.levels (rw en some) (rw en most) k.graph k.capped))

-- four texts one after another
all_print : (head batches readers tail : List ℕ) (n : ℕ) (xs : List BatchText) (replies : List (List Reply))
    → Prints head (λ rest. kind.Head ∷ kind.Vertices n ∷ rest) → Prints batches (λ rest. batch_kinds 0 0 xs rest) → Prints readers (λ rest. reader_kinds 0 replies rest) → Prints tail (λ rest. vertex_kinds 0 n (kind.Close ∷ rest))
    → Prints (head ++ (batches ++ (readers ++ tail))) (run_kinds_before n xs replies)
all_print head batches readers tail n xs replies h b r t =
    prints_both head (batches ++ (readers ++ tail)) (λ rest. kind.Head ∷ kind.Vertices n ∷ rest) (λ rest. batch_kinds 0 0 xs (reader_kinds 0 replies (vertex_kinds 0 n (kind.Close ∷ rest)))) h
    (prints_both batches (readers ++ tail) (λ rest. batch_kinds 0 0 xs rest) (λ rest. reader_kinds 0 replies (vertex_kinds 0 n (kind.Close ∷ rest))) b
    (prints_both readers tail (λ rest. reader_kinds 0 replies rest) (λ rest. vertex_kinds 0 n (kind.Close ∷ rest)) r t))

-- a part of a text isn't longer than the text
part_fits : (a b c text : List ℕ) → text ≡ a ++ (b ++ c) → length b ≤ length text
part_fits a b c text e = omega (arith, ap (λ (t : List ℕ). length t) e, length-append a (b ++ c), length-append b c)

-- the verdict on a run whose readers are explained is `Explained`
told : (run : RunText) (d : document.Document) (line : List ℕ) (refused : Bool) → d ≡ document.Accepted run → ((r : ℕ) → r < length run.readers → IsExplained run (replies_of run r)) → IsDocumentText d line refused
    → (line ≡ verdict_line verdict.Explained) × (refused ≡ false)
told run d line refused e explained t = grind (arith, nat_tests, explained_passes)

-- if a history explains the replies of each reader, so do its group lines
all_by_lines : (n : ℕ) (history : List Entry) (replies : List (List Reply)) → All IsQuietUnlessLabelled history → All (AreExplained n history 0) replies
    → All (AreExplained n (runs.history_of (lines_of history)) 0) replies
all_by_lines n history replies quiet all = λ i d h. lines_explain n history (get_or replies i d) quiet (all i d h)

module _ (header : HeaderShape) (bs : List Next) (replies : List (List Reply)) (text : List ℕ) (refused : Bool) (r : IsRun header bs replies text refused) where
  abbrev first : State
  first = start header.profile header.n

  abbrev history : List Entry
  history = history_of r.steps

  -- the text is read as the run
  read_back : (taken : AreTakenAs header.n first bs r.steps (run_batches first bs r.steps)) → 1 ≤ header.n → header.n ≤ MAX_VERTICES → length bs ≤ length (batch_lines Lines 1 first bs r.steps) → length replies ≤ 64
      → ReadersFit header.n replies
      → Prints (tail_text header.profile (graph_at header.n history (length history)) (levels_at header.n history (length history))) (λ rest. vertex_kinds 0 header.n (kind.Close ∷ rest))
      → length text ≤ INPUT_LIMIT → document_in RUN_LINE_LIMIT INPUT_LIMIT text ≡ document.Accepted (recorded header.n r.steps replies)
  read_back taken some most few readers fit tail long =
      let lined = batch_lines Lines 1 first bs r.steps in
      let last = tail_text header.profile (graph_at header.n history (length history)) (levels_at header.n history (length history)) in
      let short = part_fits (head_text header.n) lined (reader_lines 0 replies ++ last) text r.text_is in
      let xs = run_batches first bs r.steps in
      let prints : Prints text (run_kinds_before header.n xs replies) =
      subst (λ (t : List ℕ). Prints t (run_kinds_before header.n xs replies)) (sym r.text_is)
      (all_print (head_text header.n) lined (reader_lines 0 replies) last header.n xs replies (head_prints header.n most) (taken.prints 0 (omega (arith, few, short, long))) (readers_print header.n 0 replies most (omega (arith, readers)) fit) tail) in
      whole_run RUN_LINE_LIMIT INPUT_LIMIT header.n xs replies text some most taken.fits readers fit prints long (omega arith)
      ∙ ap (λ (gs : List GroupLine). document.Accepted (record { vertices = header.n; groups = gs; readers = replies })) taken.groups

explains : (text : HeaderText) → HasRanges text → ExplainsAfter (behind_header MAX_ITEMS text)
explains (Refused line) h = tt
explains (Accepted header rest) h = λ replies text refused long r.
    let n = header.n in
    let bs = batches (rules_of header MAX_ITEMS) (tokens rest) in
    let s = start header.profile n in
    let all = batches_keep_ranges (rules_of header MAX_ITEMS) (tokens rest) in
    let small = batches_have_small_lines (rules_of header MAX_ITEMS) rest h.1 in
    let taken = batches_taken n header s bs r.steps h.0.small refl (sound_start header.profile n) refl all small r.are_steps in
    let gs = lines_of (history_of r.steps) in
    let by_history : All (AreExplained n (history_of r.steps) 0) replies = subst (λ (es : List Entry). All (AreExplained n es 0) replies) r.history_is r.explained in
    let by_lines = all_by_lines n (history_of r.steps) replies taken.quiet by_history in
    let low : All HaveLevels gs = subst (λ (x : List GroupLine). All HaveLevels x) taken.groups (batches_low n s.phases (run_batches s bs r.steps) taken.fits) in
    let count : length replies ≤ 64 = omega (arith, as_many header.asks replies r.fit, h.0.few) in
    let fit = readers_fit n gs header.asks replies low h.0.asks r.fit by_lines in
    let end = last_state s r.steps in
    let sound = sound_last header s bs r.steps (sound_start header.profile n) refl all r.are_steps in
    let points = (are_points header bs r.steps all r.are_steps).last in
    let tail = end_prints header.profile n _ _ end h.0.some h.0.small points.graph points.levels (profile_last s bs r.steps r.are_steps) sound.1 sound.0 in
    let read = read_back header bs replies text refused r taken h.0.some h.0.small (few_batches 1 s bs r.steps small r.are_steps) count fit tail long in
    let explained : (i : ℕ) → i < length replies → IsExplained (recorded n r.steps replies) (get_or replies i []) = λ i inside. by_lines i [] inside in
    record { read = read; explained = explained; audited = λ line x t. told (recorded n r.steps replies) _ line x read explained t }

pub run_is_explained : RunIsExplained
run_is_explained bytes = explains (header_of (kept (lines LINE_LIMIT INPUT_LIMIT bytes))) (header_keeps (kept (lines LINE_LIMIT INPUT_LIMIT bytes)) (kept_are_numbered bytes))
