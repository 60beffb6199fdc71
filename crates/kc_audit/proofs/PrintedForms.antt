-- Printed lines say their kinds, and the lines of a run are read back from bytes.
use Rattle.std.proofs.Common.{ℕ, ◌+◌, ◌<◌, ◌≡◌, Bool, true, List, [], ◌∷◌, ◌++◌, length, map, refl, sym, ap, arith, length-append}
use Rattle.std.specs.Prelude.{Some, decimal, nat_lt, codes}
use Rattle.std.specs.List.{list_all, join_with_byte}
use Rattle.std.proofs.lemmas.Bool.Decides.{nat_tests}
use Rattle.std.proofs.lemmas.Bool.{and_parts, and_from}
use Rattle.kc_text.specs.declared.line.Line.{Line}
use Rattle.kc_text.specs.declared.line.Body.TheVariants as body
use Rattle.kc_text.specs.declared.reason.Reason.{Reason}
use Rattle.kc_text.specs.Numbers.{number_of}
use Rattle.kc_text.specs.Words.{words, words_from}
use Rattle.kc_text.specs.Printing.{is_word, lines_of_words}
use Rattle.kc_text.specs.Reasons.{reason_word}
use Rattle.kc_text.specs.Kept.{kept}
use Rattle.kc_text.proofs.lemmas.Printing.{numbers_are_read_back, words_are_read_back, lines_are_read_back}
use Rattle.kc_history.specs.declared.replies.Reply.{Reply}
use Rattle.kc_audit.specs.Kinds.{Kind, is_version, is_refusal, direction_kind, kind_of_words, kind_of}
use Rattle.kc_audit.specs.Words.{first_number, has_fields}
use Rattle.kc_audit.specs.ReadBack.{pair_word, pair_words}
use Rattle.kc_audit.specs.Printed.{IsSmall, AreSmall, Says, IsRefusedReason, direction_word, LinesSayKinds, SayAll, PrintedRunIsReadBack}
use Rattle.kc_audit.proofs.RunBack.{run_is_read_back}

value : (n : ℕ) → IsSmall n → number_of (decimal n) ≡ Some n
value n h = numbers_are_read_back.value n h

word : (n : ℕ) → IsSmall n → is_word (decimal n) ≡ true
word n h = numbers_are_read_back.word n h

print_append : (xs ys : List ℕ) → list_all (λ b. nat_lt 32 b) xs ≡ true → list_all (λ b. nat_lt 32 b) ys ≡ true → list_all (λ b. nat_lt 32 b) (xs ++ ys) ≡ true
print_append [] ys e f = f
print_append (x ∷ xs) ys e f =
    let p = and_parts (nat_lt 32 x) (list_all (λ b. nat_lt 32 b) xs) e in
    and_from (nat_lt 32 x) (list_all (λ b. nat_lt 32 b) (xs ++ ys)) p.0 (print_append xs ys p.1 f)

some_bytes : (xs : List ℕ) (y : ℕ) (ys : List ℕ) → nat_lt 0 (length (xs ++ y ∷ ys)) ≡ true
some_bytes xs y ys = let h : 0 < length (xs ++ y ∷ ys) = omega (arith, length-append xs (y ∷ ys)) in grind (arith, nat_tests, h)

above : (mark : ℕ) → 57 < mark → nat_lt 32 mark ≡ true
above mark h = grind (arith, nat_tests, h)

pair_is_word : (mark : ℕ) (r : Reply) → 57 < mark → IsSmall r.vertex → IsSmall r.level → is_word (pair_word mark r) ≡ true
pair_is_word mark r h v l =
    let first = and_parts (nat_lt 0 (length (decimal r.vertex))) (list_all (λ b. nat_lt 32 b) (decimal r.vertex)) (word r.vertex v) in
    let second = and_parts (nat_lt 0 (length (decimal r.level))) (list_all (λ b. nat_lt 32 b) (decimal r.level)) (word r.level l) in
    and_from (nat_lt 0 (length (pair_word mark r))) (list_all (λ b. nat_lt 32 b) (pair_word mark r)) (some_bytes (decimal r.vertex) mark (decimal r.level))
    (print_append (decimal r.vertex) (mark ∷ decimal r.level) first.1 (and_from (nat_lt 32 mark) (list_all (λ b. nat_lt 32 b) (decimal r.level)) (above mark h) second.1))

pairs_are_words : (mark : ℕ) (rs : List Reply) → 57 < mark → AreSmall rs → list_all is_word (pair_words mark rs) ≡ true
pairs_are_words mark [] h s = refl
pairs_are_words mark (r ∷ rs) h s = and_from (is_word (pair_word mark r)) (list_all is_word (pair_words mark rs)) (pair_is_word mark r h s.0.0 s.0.1) (pairs_are_words mark rs h s.1)

refused_says : (t n : ℕ) (r : Reason) → IsSmall t → IsSmall n → IsRefusedReason r → Says (codes "batch" ∷ decimal t ∷ codes "refused" ∷ codes "line" ∷ decimal n ∷ reason_word r ∷ []) (Rattle.kc_audit.specs.Kinds.Refused t)
unfolding kind_of_words first_number has_fields is_refusal words_from
refused_says t n r x y h = grind (arith, nat_tests, word, value)

phase_says : (p e : ℕ) (add : Bool) → IsSmall p → IsSmall e → Says (codes "phase" ∷ decimal p ∷ direction_word add ∷ codes "quiet" ∷ decimal e ∷ []) (Rattle.kc_audit.specs.Kinds.Phase p add)
unfolding kind_of_words first_number has_fields direction_kind words_from
phase_says p e add x y = grind (arith, nat_tests, word, value)

pub lines_say_kinds : LinesSayKinds
unfolding kind_of_words first_number has_fields is_version words_from
lines_say_kinds = record {
  frame = record {
    head = record { words = refl; kept = refl; kind = refl };
    vertices = λ n h. record { words = rw (word n h) refl; kept = refl; kind = rw (value n h) refl };
    end = record { words = refl; kept = refl; kind = refl };
  };
  batches = record {
    accepted = λ t a b c d i ht ha hb hc hd hi. record {
      words = rw (word t ht, word a ha, word b hb, word c hc, word d hd, word i hi) refl;
      kept = refl;
      kind = rw (value t ht, value a ha, value b hb, value c hc, value d hd, value i hi) refl;
    };
    refused = refused_says;
    phase = phase_says;
    group = λ p label ms hp hl hm. record { words = rw (word p hp, word label hl) (pairs_are_words 58 ms (omega arith) hm); kept = refl; kind = rw (value p hp, value label hl) refl };
  };
  levels = record {
    reader = λ r rs hr hs. record { words = rw (word r hr) (pairs_are_words 61 rs (omega arith) hs); kept = refl; kind = rw (value r hr) refl };
    vertex = λ v l e lo hi u d hv hl he ho hh hu hd. record {
      words = rw (word v hv, word l hl, word e he, word lo ho, word hi hh, word u hu, word d hd) refl;
      kept = refl;
      kind = rw (value v hv, value l hl, value e he, value lo ho, value hi hh, value u hu, value d hd) refl;
    };
  };
}

-- lines of words, and the end of the input
abbrev text_lines : ℕ → ℕ → List (List (List ℕ)) → List Line
text_lines n last ls = lines_of_words n ls ++ record { number = last; body = body.End } ∷ []

back : (ws : List (List ℕ)) → list_all is_word ws ≡ true → words (join_with_byte 32 ws) ≡ ws
back ws h = words_are_read_back ws h

none_skipped : (n last : ℕ) (ls : List (List (List ℕ))) (ks : List Kind) → SayAll ls ks → kept (text_lines n last ls) ≡ text_lines n last ls
unfolding lines_of_words
none_skipped n last [] ks s = refl
none_skipped n last (ws ∷ ls) [] s = absurd s
none_skipped n last (ws ∷ ls) (k ∷ ks) s = rw (back ws s.0.words, s.0.kept) (ap (λ (x : List Line). record { number = n; body = body.Text (join_with_byte 32 ws) } ∷ x) (none_skipped (n + 1) last ls ks s.1))

all_kinds : (n last : ℕ) (ls : List (List (List ℕ))) (ks : List Kind) → SayAll ls ks → map (λ (l : Line). kind_of l.body) (text_lines n last ls) ≡ ks
unfolding lines_of_words
all_kinds n last [] [] s = absurd s
all_kinds n last [] (k ∷ []) s = ap (λ (j : Kind). j ∷ []) (sym s)
all_kinds n last [] (k ∷ j ∷ ks) s = absurd s
all_kinds n last (ws ∷ ls) [] s = absurd s
all_kinds n last (ws ∷ ls) (k ∷ ks) s = rw (back ws s.0.words, s.0.kind) (ap (λ (js : List Kind). k ∷ js) (all_kinds (n + 1) last ls ks s.1))

pub printed_run_is_read_back : PrintedRunIsReadBack
printed_run_is_read_back limit room n bs rs ls some most fits few readers says short whole = grind (arith, nat_tests, lines_are_read_back, none_skipped, run_is_read_back, all_kinds)
