-- Lines as they are put together, and as their definitions have them.
use Rattle.std.proofs.Common.{ℕ, ◌≡◌, ◌<◌, ◌≤◌, ◌^◌, List, [], ◌∷◌, ◌++◌, length, refl, sym, ap, ◌∙◌, append_assoc, length-append, arith, subst}
use Rattle.std.proofs.lemmas.Fmt.{length-decimal-le}
use Rattle.std.specs.Prelude.{Option, Result, Ok, Err, decimal, codes}
use Rattle.std.specs.List.{join_with_byte}
use Rattle.std.specs.Io.KnownBytes.{append_known}
use Rattle.kc_text.specs.declared.buf.SendFault.{SendFault}
use Rattle.kc_text.specs.declared.reason.Reason.{Reason}
use Rattle.kc_text.specs.Reasons.{reason_word}
use Rattle.kc_text.specs.Writing.{Sends, IsPrefix, Appends}
use Rattle.kc_text.proofs.lemmas.Writing.{appends_send, prefix_all}
use Rattle.kc_graph.specs.declared.cleaning.Cleaned.{Cleaned}
use Rattle.kc_levels.specs.declared.thresholds.Estimate.{Estimate}
use Rattle.kc_report.specs.Lines.{vertices_line, batch_line, refusal_line, refused_line, note_line, vertex_line, coreness_line}
use Rattle.kc_report.specs.private.LevelWords.{level_words}

-- a text by another name
pub appends_as : {T : Type 0} → (before now : Option (List ℕ)) (text line : List ℕ) (result : Result T SendFault) → text ≡ line → Appends before now text result → Appends before now line result
appends_as before now text line result e a = subst (λ text. Appends before now text result) e a

-- a buffer that was sent as a line
pub sent_as : {T : Type 0} → (before now : Option (List ℕ)) (buffer line : List ℕ) (result : Result T SendFault) → buffer ++ 10 ∷ [] ≡ line → Sends before now (buffer ++ 10 ∷ []) result → Appends before now line result
sent_as before now buffer line result e s = appends_as before now (buffer ++ 10 ∷ []) line result e (appends_send before now (buffer ++ 10 ∷ []) result s)

-- a buffer that was sent as a line, so far as it was
pub sent_prefix : {T : Type 0} → (before now : Option (List ℕ)) (buffer line : List ℕ) (result : Result T SendFault) → buffer ++ 10 ∷ [] ≡ line → Sends before now (buffer ++ 10 ∷ []) result → IsPrefix before now line
sent_prefix {T = T} before now buffer line (Ok x) e s = prefix_all before now line (sent_as {T = T} before now buffer line (Ok x) e s)
sent_prefix {T = T} before now buffer line (Err f) e s = sent_as {T = T} before now buffer line (Err f) e s

-- a buffer that was sent whole as a line
pub sent_whole : (before now : Option (List ℕ)) (buffer line : List ℕ) → buffer ++ 10 ∷ [] ≡ line → now ≡ append_known before (buffer ++ 10 ∷ []) → now ≡ append_known before line
sent_whole before now buffer line e s = s ∙ ap (λ (text : List ℕ). append_known before text) e

pub words_filled : (words buffer old : List ℕ) → old ≡ [] → buffer ≡ old ++ words → buffer ++ 10 ∷ [] ≡ words ++ 10 ∷ []
words_filled words buffer old e f = rw (f, e) refl

pub vertices_filled : (n : ℕ) (buffer old : List ℕ) → old ≡ [] → buffer ≡ (old ++ codes "vertices ") ++ decimal n → buffer ++ 10 ∷ [] ≡ vertices_line n
vertices_filled n buffer old e f = rw (f, e) (simp append_assoc)

pub vertex_filled : (v level up down : ℕ) (e : Estimate) (old a b c d : List ℕ) → old ≡ [] → a ≡ (old ++ codes "vertex ") ++ decimal v
    → b ≡ (((((((a ++ codes " level ") ++ decimal level) ++ codes " est ") ++ decimal e.est) ++ codes " low ") ++ decimal e.lo) ++ codes " high ") ++ decimal e.hi
    → c ≡ (b ++ codes " up ") ++ decimal up → d ≡ (c ++ codes " down ") ++ decimal down → d ++ 10 ∷ [] ≡ vertex_line v level e up down
vertex_filled v level up down e old a b c d z ea eb ec ed = rw (ed, ec, eb, ea, z) (simp append_assoc)

-- the words of a level, as they are put together
pub level_filled : (level : ℕ) (e : Estimate) (old a b : List ℕ) → old ≡ []
    → a ≡ (((((((old ++ codes " level ") ++ decimal level) ++ codes " est ") ++ decimal e.est) ++ codes " low ") ++ decimal e.lo) ++ codes " high ") ++ decimal e.hi
    → b ≡ a ++ codes " up " → b ≡ level_words level e
level_filled level e old a b z ea eb = rw (eb, ea, z) (simp append_assoc)

-- no number of 32 bits has more than 10 digits
pub short : (n : ℕ) → n < 2 ^ 32 → length (decimal n) ≤ 10
short n h = length-decimal-le 10 n (omega arith) (omega arith) (omega arith)

-- the words of a level have at most 62 bytes
pub level_short : (level : ℕ) (e : Estimate) (words : List ℕ) → level < 2 ^ 16 → e.est < 2 ^ 32 → e.lo < 2 ^ 32 → e.hi < 2 ^ 32 → words ≡ level_words level e → length words ≤ 62
level_short level e words h a b c ew =
    rw ew (simp length-append (omega (arith, length-decimal-le 5 level (omega arith) (omega arith) (omega arith), short e.est a, short e.lo b, short e.hi c)))

-- a vertex line, put together from the words of its level after other lines
pub counted_filled : (v level up down : ℕ) (e : Estimate) (old words new : List ℕ) → words ≡ level_words level e
    → new ≡ old ++ (codes "vertex " ++ (decimal v ++ (words ++ (decimal up ++ (codes " down " ++ (decimal down ++ 10 ∷ [])))))) → new ≡ old ++ vertex_line v level e up down
counted_filled v level up down e old words new ew en = rw (en, ew) (simp append_assoc)

counts_filled : (number : ℕ) (c : Cleaned) (old a tail : List ℕ) → old ≡ []
    → a ≡ (((((((old ++ codes "batch ") ++ decimal number) ++ codes " loops ") ++ decimal c.loops) ++ codes " repeats ") ++ decimal c.repeats) ++ codes " idle ") ++ decimal c.idle
    → a ++ tail ≡ codes "batch " ++ (decimal number ++ (codes " loops " ++ (decimal c.loops ++ (codes " repeats " ++ (decimal c.repeats ++ (codes " idle " ++ (decimal c.idle ++ tail)))))))
counts_filled number c old a tail z e = rw (e, z) (simp append_assoc)

changes_filled : (removed added : ℕ) (a b d : List ℕ) → b ≡ (a ++ codes " removed ") ++ decimal removed → d ≡ (b ++ codes " added ") ++ decimal added
    → d ++ 10 ∷ [] ≡ a ++ (codes " removed " ++ (decimal removed ++ (codes " added " ++ (decimal added ++ 10 ∷ []))))
changes_filled removed added a b d eb ed = rw (ed, eb) (simp append_assoc)

line_in_order : (number : ℕ) (c : Cleaned) → batch_line number c ≡ codes "batch " ++ (decimal number ++ (codes " loops " ++ (decimal c.loops ++ (codes " repeats " ++ (decimal c.repeats ++ (codes " idle " ++ (decimal c.idle
    ++ (codes " removed " ++ (decimal (length c.removed) ++ (codes " added " ++ (decimal (length c.added) ++ 10 ∷ [])))))))))))
line_in_order number c = simp append_assoc

pub batch_filled : (number removed added : ℕ) (c : Cleaned) (old a b d : List ℕ) → old ≡ []
    → a ≡ (((((((old ++ codes "batch ") ++ decimal number) ++ codes " loops ") ++ decimal c.loops) ++ codes " repeats ") ++ decimal c.repeats) ++ codes " idle ") ++ decimal c.idle
    → removed ≡ length c.removed → added ≡ length c.added → b ≡ (a ++ codes " removed ") ++ decimal removed → d ≡ (b ++ codes " added ") ++ decimal added → d ++ 10 ∷ [] ≡ batch_line number c
batch_filled number removed added c old a b d z ea er eg eb ed =
    changes_filled removed added a b d eb ed
    ∙ counts_filled number c old a (codes " removed " ++ (decimal removed ++ (codes " added " ++ (decimal added ++ 10 ∷ [])))) z ea
    ∙ rw (er, eg) (sym (line_in_order number c))

pub refusal_filled : (line : ℕ) (reason : Reason) (old a b d : List ℕ) → a ≡ (old ++ codes "refused line ") ++ decimal line → b ≡ a ++ codes " " → d ≡ b ++ reason_word reason
    → d ++ 10 ∷ [] ≡ old ++ refusal_line line reason
refusal_filled line reason old a b d ea eb ed = rw (ed, eb, ea) (simp append_assoc)

refusal_regrouped : (b n r s e : List ℕ) → (((b ++ s) ++ n) ++ s) ++ (r ++ e) ≡ (b ++ (s ++ (n ++ (s ++ r)))) ++ e
refusal_regrouped b n r s e = simp append_assoc

refusal_words : ℕ → Reason → List ℕ
refusal_words line reason = join_with_byte 32 (codes "refused" ∷ codes "line" ∷ decimal line ∷ reason_word reason ∷ [])

pub refused_filled : (number line : ℕ) (reason : Reason) (old a b : List ℕ) → old ≡ [] → a ≡ (old ++ codes "batch ") ++ decimal number → b ≡ a ++ codes " " → b ++ refusal_line line reason ≡ refused_line number line reason
unfolding refusal_words
refused_filled number line reason old a b z ea eb = rw (eb, ea, z) (refusal_regrouped (codes "batch") (decimal number) (refusal_words line reason) (32 ∷ []) (10 ∷ []))

pub note_filled : (number line : ℕ) (reason : Reason) (old a b : List ℕ) → old ≡ [] → a ≡ (old ++ codes "# batch ") ++ decimal number → b ≡ a ++ codes " " → b ++ refusal_line line reason ≡ note_line number line reason
unfolding refusal_words
note_filled number line reason old a b z ea eb = rw (eb, ea, z) (refusal_regrouped (codes "# batch") (decimal number) (refusal_words line reason) (32 ∷ []) (10 ∷ []))

pub coreness_filled : (v coreness : ℕ) (e : Estimate) (old a b c d f : List ℕ) → old ≡ [] → a ≡ (old ++ codes "vertex ") ++ decimal v
    → b ≡ (a ++ codes " coreness ") ++ decimal coreness → c ≡ (b ++ codes " low ") ++ decimal e.lo
    → d ≡ (c ++ codes " est ") ++ decimal e.est → f ≡ (d ++ codes " high ") ++ decimal e.hi → f ++ 10 ∷ [] ≡ coreness_line v coreness e
coreness_filled v coreness e old a b c d f z ea eb ec ed ef = rw (ef, ed, ec, eb, ea, z) (simp append_assoc)
