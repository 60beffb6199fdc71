-- A certificate is read back from its text.
use Rattle.std.proofs.Common.{ℕ, suc, ◌+◌, ◌≤◌, ◌<◌, ◌≡◌, ◌^◌, true, List, [], ◌∷◌, ◌++◌, length, get_or, map, refl, sym, ap, ◌∙◌, arith, append_assoc, length-append}
use Rattle.std.specs.Prelude.{Ok, nat_le, ◌&&◌, decimal, codes}
use Rattle.std.specs.List.{list_all, join_with_byte}
use Rattle.std.proofs.lemmas.Bool.{and_parts, and_from, le-leb}
use Rattle.std.proofs.lemmas.Bool.Decides.{nat_tests}
use Rattle.std.proofs.lemmas.List.{append-nil}
use Rattle.std.proofs.lemmas.List.Folds.{list_all-append}
use Rattle.kc_graph.specs.declared.limits.TheConstants.{MAX_VERTICES, MAX_EDGES}
use Rattle.kc_graph.specs.Shape.{GraphShape, Pair, IsNotBefore, EdgesFrom}
use Rattle.kc_levels.specs.declared.profile.Profile.{Profile}
use Rattle.kc_levels.specs.Thresholds.{top_level}
use Rattle.kc_levels.proofs.lemmas.Thresholds.{top_is_low}
use Rattle.kc_text.specs.declared.line.Line.{Line}
use Rattle.kc_text.specs.declared.line.Body.TheVariants.{End}
use Rattle.kc_text.specs.Printing.{is_word, is_line, printed, lines_of_words}
use Rattle.kc_text.specs.Words.{is_skip}
use Rattle.kc_text.proofs.lemmas.Printing.{words_are_read_back, lines_are_read_back}
use Rattle.kc_cert.specs.declared.certificate.Certificate.{Certificate}
use Rattle.kc_cert.specs.declared.token.Kind.{Kind}
use Rattle.kc_cert.specs.declared.token.Kind.TheVariants as kind
use Rattle.kc_cert.specs.Documents.{Stage, AtMagic, AtProfile, AtVertices, AtEdgeCount, AtBody, AtInputEnd, Accepted, empty_certificate, stage_after, read_from, document_of}
use Rattle.kc_cert.specs.Laws.{CertificateIsReadBack, document_in}
use Rattle.kc_cert.specs.Texts.{IsCertificate, head_lines, edge_line, level_lines, end_lines, certificate_lines, certificate_text}
use Rattle.kc_cert.specs.Tokens.{kind_of_text, tokens}
use Rattle.kc_cert.proofs.LineTexts.{printed_append}
use Rattle.kc_cert.proofs.SaidLines.{Says, says_line, says_magic, says_profile, says_vertices, says_count, says_edge, says_level, says_end}

-- a line that fits
step : (s s' : Stage) (k : Kind) (n : ℕ) (ws : List (List ℕ)) (ls : List (List (List ℕ))) (end : List Line) → Says ws k → stage_after s k ≡ Ok s'
    → read_from s (tokens (lines_of_words n (ws ∷ ls) ++ end)) ≡ read_from s' (tokens (lines_of_words (n + 1) ls ++ end))
unfolding read_from tokens lines_of_words kind_of_text
step s s' k n ws ls end say e = rw (words_are_read_back ws say.words_are, say.said, say.kind_is, e) refl

-- lines that are skipped
skips : (s : Stage) (n : ℕ) (notes ls : List (List (List ℕ))) (end : List Line) → list_all (list_all is_word) notes ≡ true → list_all is_skip notes ≡ true
    → read_from s (tokens (lines_of_words n (notes ++ ls) ++ end)) ≡ read_from s (tokens (lines_of_words (n + length notes) ls ++ end))
unfolding tokens lines_of_words kind_of_text
skips s n [] ls end h k = let e : n + 0 ≡ n = omega arith in rw e refl
skips s n (ws ∷ notes) ls end h k =
    let p = and_parts (list_all is_word ws) (list_all (list_all is_word) notes) h in
    let q = and_parts (is_skip ws) (list_all is_skip notes) k in
    let e : n + 1 + length notes ≡ n + suc (length notes) = omega arith in
    rw (words_are_read_back ws p.0, q.0) (rw e at (skips s (n + 1) notes ls end p.1 q.1))

-- the end of the input
closes : (cert : Certificate) (n : ℕ) → read_from (AtInputEnd cert) (tokens (record { number = n; body = End } ∷ [])) ≡ Accepted cert
unfolding read_from tokens
closes cert n = refl

at_end : ℕ → List Line
at_end n = record { number = n; body = End } ∷ []

-- a vertex has its level
level_turn : (p : Profile) (g : GraphShape) (before : List ℕ) (a b due v l : ℕ) → v ≡ length before → v < g.vertices → l ≤ top_level p g.vertices
    → stage_after (AtBody (record { profile = p; graph = g; levels = before }) 0 a b (suc due)) (kind.Level v l) ≡ Ok (AtBody (record { profile = p; graph = g; levels = before ++ l ∷ [] }) 0 a b due)
level_turn p g before a b due v l e lt le = grind (arith, nat_tests, and_from, le-leb)

top_small : (p : Profile) (n : ℕ) → n ≤ MAX_VERTICES → top_level p n ≤ 16769
top_small p n h = grind (arith, nat_tests, top_is_low)

no_line : (s : Stage) (n : ℕ) (end : List Line) → read_from s (tokens (lines_of_words n [] ++ end)) ≡ read_from s (tokens end)
unfolding lines_of_words
no_line s n end = refl

levels_back : (p : Profile) (g : GraphShape) (before ls : List ℕ) (a b n v last : ℕ) → g.vertices ≤ MAX_VERTICES → v ≡ length before → v + length ls ≡ g.vertices → ((w : ℕ) → w < length ls → get_or ls w 0 ≤ top_level p g.vertices)
    → read_from (AtBody (record { profile = p; graph = g; levels = before }) 0 a b (length ls)) (tokens (lines_of_words n (level_lines v ls ++ end_lines) ++ at_end last)) ≡ Accepted (record { profile = p; graph = g; levels = before ++ ls })
unfolding level_lines at_end
levels_back p g before [] a b n v last small e s h =
    rw append-nil (step (AtBody (record { profile = p; graph = g; levels = before }) 0 a b 0) (AtInputEnd (record { profile = p; graph = g; levels = before })) kind.Close n (codes "end" ∷ []) [] (at_end last) says_end refl ∙ closed)
  where
    closed : read_from (AtInputEnd (record { profile = p; graph = g; levels = before })) (tokens (lines_of_words (n + 1) [] ++ at_end last)) ≡ Accepted (record { profile = p; graph = g; levels = before })
    closed = no_line (AtInputEnd (record { profile = p; graph = g; levels = before })) (n + 1) (at_end last) ∙ closes (record { profile = p; graph = g; levels = before }) last
levels_back p g before (l ∷ ls) a b n v last small e s h =
    let le : l ≤ top_level p g.vertices = h 0 (omega arith) in
    let low : l < 2 ^ 32 = omega (arith, le, top_small p g.vertices small) in
    let inside : v < g.vertices = omega (arith, s) in
    let one : v + 1 ≡ length (before ++ l ∷ []) = omega (arith, e, length-append before (l ∷ [])) in
    step (AtBody (record { profile = p; graph = g; levels = before }) 0 a b (suc (length ls))) (AtBody (record { profile = p; graph = g; levels = before ++ l ∷ [] }) 0 a b (length ls)) (kind.Level v l) n
    (codes "level" ∷ decimal v ∷ decimal l ∷ []) (level_lines (v + 1) ls ++ end_lines) (at_end last) (says_level v l (omega (arith, inside, small)) low) (level_turn p g before a b (length ls) v l e inside le)
    ∙ rw append_assoc at (levels_back p g (before ++ l ∷ []) ls a b (n + 1) (v + 1) last small one (omega (arith, s)) (λ w lt. h (suc w) (omega (arith, lt))))

-- an edge is in its place
edge_turn : (p : Profile) (n : ℕ) (before : List Pair) (wait a b due : ℕ) (e : Pair) → IsNotBefore a b e → e.0 < e.1 → e.1 < n
    → stage_after (AtBody (record { profile = p; graph = record { vertices = n; edges = before }; levels = [] }) (suc wait) a b due) (kind.Edge e.0 e.1) ≡ Ok (AtBody (record { profile = p; graph = record { vertices = n; edges = before ++ e ∷ [] }; levels = [] }) wait e.0 (suc e.1) due)
edge_turn p n before wait a b due e place order below = grind (arith, nat_tests)

edges_back : (p : Profile) (n : ℕ) (before es : List Pair) (x : List ℕ) (a b k last : ℕ) → n ≤ MAX_VERTICES → EdgesFrom n a b es → length x ≡ n → ((w : ℕ) → w < n → get_or x w 0 ≤ top_level p n)
    → read_from (AtBody (record { profile = p; graph = record { vertices = n; edges = before }; levels = [] }) (length es) a b n) (tokens (lines_of_words k (map edge_line es ++ (level_lines 0 x ++ end_lines)) ++ at_end last))
    ≡ Accepted (record { profile = p; graph = record { vertices = n; edges = before ++ es }; levels = x })
edges_back p n before [] x a b k last small up long h =
    rw (append-nil, ← long) (levels_back p (record { vertices = length x; edges = before }) [] x a b k 0 last (omega (arith, small, long)) refl (omega arith) (λ w lt. rw long (h w (omega (arith, lt, long)))))
edges_back p n before (e ∷ es) x a b k last small up long h =
    step (AtBody (record { profile = p; graph = record { vertices = n; edges = before }; levels = [] }) (suc (length es)) a b n) (AtBody (record { profile = p; graph = record { vertices = n; edges = before ++ e ∷ [] }; levels = [] }) (length es) e.0 (suc e.1) n)
    (kind.Edge e.0 e.1) k (edge_line e) (map edge_line es ++ (level_lines 0 x ++ end_lines)) (at_end last) (says_edge e.0 e.1 (omega (arith, up.1, up.2, small)) (omega (arith, up.2, small))) (edge_turn p n before (length es) a b n e up.0 up.1 up.2)
    ∙ rw append_assoc at (edges_back p n (before ++ e ∷ []) es x e.0 (suc e.1) (k + 1) last small up.3 long h)

head_back : (cert : Certificate) (k last : ℕ) → IsCertificate cert → read_from AtMagic (tokens (lines_of_words k (certificate_lines cert) ++ at_end last)) ≡ Accepted cert
head_back cert k last h =
    let p = cert.profile in
    let n = cert.graph.vertices in
    let m = length cert.graph.edges in
    let body = map edge_line cert.graph.edges ++ (level_lines 0 cert.levels ++ end_lines) in
    let sized : (nat_le 1 n && nat_le n MAX_VERTICES) ≡ true = and_from _ _ (le-leb _ _ h.some) (le-leb _ _ h.small) in
    let few : nat_le m MAX_EDGES ≡ true = le-leb _ _ h.few in
    step AtMagic AtProfile kind.Magic k _ _ (at_end last) says_magic refl
    ∙ step AtProfile (AtVertices p) (kind.Profile p) (k + 1) _ _ (at_end last) (says_profile p) refl
    ∙ step (AtVertices p) (AtEdgeCount p n) (kind.Vertices n) (k + 1 + 1) _ _ (at_end last) (says_vertices n (omega (arith, h.small))) (rw sized refl)
    ∙ step (AtEdgeCount p n) (AtBody (empty_certificate p n) m 0 0 n) (kind.EdgeCount m) (k + 1 + 1 + 1) _ body (at_end last) (says_count m (omega (arith, h.few))) (rw few refl)
    ∙ edges_back p n [] cert.graph.edges cert.levels 0 0 (k + 1 + 1 + 1 + 1) last h.small h.graph h.sized h.capped

-- each line may be printed
level_lines_print : (limit v n top : ℕ) (ls : List ℕ) → 32 ≤ limit → v + length ls ≤ n → n ≤ MAX_VERTICES → top ≤ 16769 → ((w : ℕ) → w < length ls → get_or ls w 0 ≤ top) → list_all (is_line limit) (level_lines v ls) ≡ true
unfolding level_lines
level_lines_print limit v n top [] big s small t h = refl
level_lines_print limit v n top (l ∷ ls) big s small t h =
    let le : l ≤ top = h 0 (omega arith) in
    and_from _ _ (says_line limit _ (kind.Level v l) big (says_level v l (omega (arith, s, small)) (omega (arith, le, t))))
    (level_lines_print limit (v + 1) n top ls big (omega (arith, s)) small t (λ w lt. h (suc w) (omega (arith, lt))))

edge_lines_print : (limit n a b : ℕ) (es : List Pair) → 32 ≤ limit → n ≤ MAX_VERTICES → EdgesFrom n a b es → list_all (is_line limit) (map edge_line es) ≡ true
edge_lines_print limit n a b [] big small up = refl
edge_lines_print limit n a b (e ∷ es) big small up = grind (arith, nat_tests, edge_lines_print limit n e.0 (suc e.1) es big small up.3, and_from, says_line, says_edge, up.1, up.2, up.3)

head_lines_print : (limit : ℕ) (cert : Certificate) → 32 ≤ limit → IsCertificate cert → list_all (is_line limit) (head_lines cert.profile cert.graph) ≡ true
head_lines_print limit cert big h = grind (arith, nat_tests, and_from, says_line, says_magic, says_profile, says_vertices, says_count, h.small, h.few)

both_print : (limit : ℕ) (xs ys : List (List (List ℕ))) → list_all (is_line limit) xs ≡ true → list_all (is_line limit) ys ≡ true → list_all (is_line limit) (xs ++ ys) ≡ true
both_print limit xs ys h k = list_all-append (is_line limit) xs ys ∙ and_from _ _ h k

pub certificate_prints : (limit : ℕ) (cert : Certificate) → 32 ≤ limit → IsCertificate cert → list_all (is_line limit) (certificate_lines cert) ≡ true
certificate_prints limit cert big h = grind (arith, nat_tests, level_lines_print, top_small, and_from, says_line, says_end, both_print, edge_lines_print, head_lines_print, h.sized, h.small, h.capped, h.graph)

-- lines that may be printed are words
are_words : (limit : ℕ) (ls : List (List (List ℕ))) → list_all (is_line limit) ls ≡ true → list_all (list_all is_word) ls ≡ true
are_words limit [] h = refl
are_words limit (ws ∷ ls) h =
    let p = and_parts (is_line limit ws) (list_all (is_line limit) ls) h in
    and_from _ _ (and_parts (list_all is_word ws) (nat_le (length (join_with_byte 32 ws)) limit) p.0).0 (are_words limit ls p.1)

pub certificate_back : CertificateIsReadBack
unfolding at_end
certificate_back cert limit room notes h big n_print n_skip fits =
    let ls = certificate_lines cert in
    let all = notes ++ ls in
    let text : printed notes ++ certificate_text cert ≡ printed all = sym (printed_append notes ls) in
    let long : length (printed all) ≤ room = omega (arith, fits, ap length text, length-append (printed notes) (certificate_text cert)) in
    let whole = lines_are_read_back.whole limit room all (both_print limit notes ls n_print (certificate_prints limit cert big h)) long in
    ap (λ (bs : List ℕ). document_in limit room bs) text
    ∙ ap (λ (xs : List Line). document_of (tokens xs)) whole
    ∙ skips AtMagic 1 notes ls (at_end (1 + length all)) (are_words limit notes n_print) n_skip
    ∙ head_back cert (1 + length notes) (1 + length all) h
