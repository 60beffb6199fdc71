-- Texts that are printed lines and say kinds, put together, and a whole run of them.
use Rattle.std.proofs.Common.{ℕ, ◌≤◌, ◌<◌, ◌≡◌, true, List, [], ◌∷◌, ◌++◌, length, refl, sym, ap, ◌∙◌, subst, arith, length-append, append_assoc}
use Rattle.std.specs.Prelude.{nat_lt, nat_le, codes, decimal}
use Rattle.std.specs.List.{list_all, join_with_byte}
use Rattle.std.proofs.lemmas.Bool.{and_from, and_parts, le-leb, leb-true, ltb-true, eqb-true}
use Rattle.std.proofs.lemmas.List.{append-nil}
use Rattle.std.proofs.lemmas.List.Concat.{flat_map-append}
use Rattle.std.proofs.lemmas.Bool.Decides.{nat_tests}
use Rattle.kc_graph.specs.declared.limits.TheConstants.{MAX_VERTICES}
use Rattle.kc_text.specs.Printing.{is_line, printed_line, printed}
use Rattle.kc_history.specs.declared.replies.Reply.{Reply}
use Rattle.kc_audit.specs.declared.groups.GroupLine.{GroupLine}
use Rattle.kc_audit.specs.Documents.{is_group, document_in}
use Rattle.kc_audit.specs.Documents as document
use Rattle.kc_audit.specs.Kinds.{Kind, Head, Vertices, Close, InputEnd}
use Rattle.kc_audit.specs.Printed.{IsSmall, AreSmall, Says, SayAll}
use Rattle.kc_audit.specs.ReadBack.{pair_words, BatchText, have_levels, GroupFits, ReaderFits, BatchesFit, ReadersFit, batch_kinds, reader_kinds, vertex_kinds, batch_groups, run_kinds}
use Rattle.kc_audit.specs.Runs.{are_below}
use Rattle.kc_audit.proofs.PrintedForms.{lines_say_kinds, printed_run_is_read_back}

-- a text is printed lines that say these kinds, whatever lines come after them
pub record Prints (text : List ℕ) (kinds : List Kind → List Kind) : Type 0 where
  pub lines : List (List (List ℕ))
  pub text_is : text ≡ printed lines
  pub say : (more : List (List (List ℕ))) (rest : List Kind) → SayAll more rest → SayAll (lines ++ more) (kinds rest)

pub prints_nothing : Prints [] (λ rest. rest)
unfolding printed
prints_nothing = record { lines = []; text_is = refl; say = λ more rest s. s }

pub prints_line : (ws : List (List ℕ)) (k : Kind) → Says ws k → Prints (printed_line ws) (λ rest. k ∷ rest)
unfolding printed
prints_line ws k says = record { lines = ws ∷ []; text_is = sym (append-nil (printed_line ws)); say = λ more rest s. (says, s) }

pub prints_both : (a b : List ℕ) (f g : List Kind → List Kind) → Prints a f → Prints b g → Prints (a ++ b) (λ rest. f (g rest))
unfolding printed
prints_both a b f g x y = record {
  lines = x.lines ++ y.lines;
  text_is = ap (λ (t : List ℕ). t ++ b) x.text_is ∙ ap (λ (t : List ℕ). printed x.lines ++ t) y.text_is ∙ sym (flat_map-append printed_line x.lines y.lines);
  say = λ more rest s. subst (λ ls. SayAll ls (f (g rest))) (sym (append_assoc x.lines y.lines more)) (x.say (y.lines ++ more) (g rest) (y.say more rest s));
}

pub prints_as : (text : List ℕ) (f g : List Kind → List Kind) → ((rest : List Kind) → f rest ≡ g rest) → Prints text f → Prints text g
prints_as text f g same p = record { lines = p.lines; text_is = p.text_is; say = λ more rest s. subst (λ ks. SayAll (p.lines ++ more) ks) (same rest) (p.say more rest s) }

-- no line is longer than all of them
lines_fit : (limit : ℕ) (ls : List (List (List ℕ))) (ks : List Kind) → SayAll ls ks → length (printed ls) ≤ limit → list_all (is_line limit) ls ≡ true
unfolding printed
lines_fit limit [] ks s h = refl
lines_fit limit (ws ∷ ls) [] s h = absurd s
lines_fit limit (ws ∷ ls) (k ∷ ks) s h =
    let sum = length-append (printed_line ws) (printed ls) in
    let own = length-append (join_with_byte 32 ws) (10 ∷ []) in
    let short : length (join_with_byte 32 ws) ≤ limit = omega (arith, h, sum, own) in
    let later : length (printed ls) ≤ limit = omega (arith, h, sum) in
    and_from _ _ (and_from _ _ s.0.words (le-leb _ _ short)) (lines_fit limit ls ks s.1 later)

-- what the lines of a run say, before other kinds
abbrev pub run_kinds_before : ℕ → List BatchText → List (List Reply) → List Kind → List Kind
run_kinds_before n bs rs rest = Head ∷ Vertices n ∷ batch_kinds 0 0 bs (reader_kinds 0 rs (vertex_kinds 0 n (Close ∷ rest)))

-- a text of a run is read back, where no line can be longer than the input
pub whole_run : (limit room n : ℕ) (bs : List BatchText) (rs : List (List Reply)) (text : List ℕ) → 1 ≤ n → n ≤ MAX_VERTICES → BatchesFit n 0 bs → length rs ≤ 64 → ReadersFit n rs
    → Prints text (run_kinds_before n bs rs) → length text ≤ room → room ≤ limit
    → document_in limit room text ≡ document.Accepted (record { vertices = n; groups = batch_groups bs; readers = rs })
whole_run limit room n bs rs text some most fits few readers p long wide =
    let says : SayAll p.lines (run_kinds n bs rs) = subst (λ ls. SayAll ls (run_kinds n bs rs)) (append-nil p.lines) (p.say [] (InputEnd ∷ []) refl) in
    let short : length (printed p.lines) ≤ room = omega (arith, long, ap length p.text_is) in
    ap (λ (t : List ℕ). document_in limit room t) p.text_is
    ∙ printed_run_is_read_back limit room n bs rs p.lines some most fits few readers says (lines_fit limit p.lines (run_kinds n bs rs) says (omega (arith, short, wide))) short

-- the numbers of members and replies that fit are small
pub are_small : (n : ℕ) (rs : List Reply) → n ≤ MAX_VERTICES → are_below n rs ≡ true → have_levels rs ≡ true → AreSmall rs
are_small n [] most below levels = tt
are_small n (r ∷ rs) most below levels =
    let b = and_parts (nat_lt r.vertex n) (are_below n rs) below in
    let l = and_parts (nat_le r.level 65535) (have_levels rs) levels in
    let vertex = ltb-true r.vertex n b.0 in
    let level = leb-true r.level 65535 l.0 in
    ((omega (arith, vertex, most), omega (arith, level)), are_small n rs most b.1 l.1)

-- the label of a group is one of its vertices
label_below : (n label : ℕ) (ms : List Reply) → is_group label ms ≡ true → are_below n ms ≡ true → label < n
label_below n label ms g b = grind (arith, nat_tests, eqb-true, and_parts, ltb-true)

-- the words of a group line
abbrev pub group_words : GroupLine → List (List ℕ)
group_words g = codes "group" ∷ decimal g.phase ∷ decimal g.label ∷ pair_words 58 g.members

pub group_says : (n p low : ℕ) (g : GroupLine) → n ≤ MAX_VERTICES → IsSmall p → GroupFits n p low g → Says (group_words g) (Rattle.kc_audit.specs.Kinds.Group g.phase g.label (pair_words 58 g.members))
group_says n p low g most small fits =
    let label = label_below n g.label g.members fits.rises fits.below in
    lines_say_kinds.batches.group g.phase g.label g.members (omega (arith, small, fits.phase)) (omega (arith, label, most)) (are_small n g.members most fits.below fits.levels)

pub reader_says : (n r : ℕ) (rs : List Reply) → n ≤ MAX_VERTICES → r < 64 → ReaderFits n rs → Says (codes "reader" ∷ decimal r ∷ pair_words 61 rs) (Rattle.kc_audit.specs.Kinds.Reader r (pair_words 61 rs))
reader_says n r rs most few fits = lines_say_kinds.levels.reader r rs (omega (arith, few)) (are_small n rs most fits.below fits.levels)
