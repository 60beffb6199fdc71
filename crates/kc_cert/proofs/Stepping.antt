-- One line of a certificate, and what the lines say after it.
use Rattle.std.proofs.Common.{ℕ, zero, suc, ◌≡◌, List, [], ◌∷◌, length, refl, sym, ap, ◌∙◌, arith}
use Rattle.std.specs.Prelude.{Option, Result, Ok, Err}
use Rattle.std.specs.Option.{option_map}
use Rattle.std.proofs.lemmas.Option.{same_Some}
use Rattle.std.proofs.lemmas.Bool.Decides.{nat_tests}
use Rattle.kc_levels.specs.Thresholds.{top_level}
use Rattle.kc_text.specs.declared.document_fault.DocumentFault.{DocumentFault}
use Rattle.kc_text.specs.declared.document_fault.DocumentFault.TheVariants as fault
use Rattle.kc_text.specs.declared.reason.Reason.{Reason}
use Rattle.kc_cert.specs.declared.certificate.Certificate.{Certificate}
use Rattle.kc_cert.specs.declared.token.Token.{Token}
use Rattle.kc_cert.specs.declared.token.Kind.{Kind}
use Rattle.kc_cert.specs.declared.token.Kind.TheVariants as kind
use Rattle.kc_cert.specs.private.Tokens.{onto_token}
use Rattle.kc_cert.specs.Documents.{Stage, AtMagic, AtBody, AtInputEnd, Done, Accepted, Refused, with_last_level, level_of, input_end_of, onward, stage_after, act, read_from}
use Rattle.kc_cert.specs.private.Reads.{Answers, Fits}
use Rattle.kc_cert.proofs.Saying.{GoesOn}

-- a line is due
abbrev pub IsOpen : Stage → Type 0
IsOpen (Done cert) = ⊥
IsOpen _ = Unit {0}

stage_of : Result Stage Reason → Stage
stage_of (Ok s) = s
stage_of (Err reason) = AtMagic

same_stage : (s s' : Stage) (r : Result Stage Reason) → r ≡ Ok s → r ≡ Ok s' → s ≡ s'
unfolding stage_of
same_stage s s' r e f = ap stage_of (sym e ∙ f)

no_limit : (s s' : Stage) → stage_after s kind.Limit ≡ Ok s' → ⊥
no_limit s s' e = grind (arith, nat_tests)

no_input_end : (s s' : Stage) → stage_after s kind.InputEnd ≡ Ok s' → IsOpen s' → ⊥
no_input_end s s' e h = grind (arith, nat_tests, same_stage)

-- a line after which another is due isn't the last
goes_on : (s s' : Stage) (k : Kind) → stage_after s k ≡ Ok s' → IsOpen s' → GoesOn k
goes_on s s' k e h rest = grind (arith, nat_tests, no_limit, no_input_end)

-- a line that fits
pub reads_on : (s s' : Stage) (t : Token) (rest : List Token) → stage_after s t.kind ≡ Ok s' → IsOpen s' → read_from s (onto_token t rest) ≡ read_from s' rest
unfolding read_from
reads_on s s' t rest e h = rw (e, goes_on s s' t.kind e h rest) refl

pub reaches_on : (s s' : Stage) (t : Token) (old new : Option (List Token)) → stage_after s t.kind ≡ Ok s' → IsOpen s' → old ≡ option_map (onto_token t) new → option_map (read_from s) old ≡ option_map (read_from s') new
reaches_on s s' t old new e h told = grind (arith, nat_tests, reads_on)

-- the result of the lines from a later stage on
pub answers_before : (s s' : Stage) (old new : Option (List Token)) (r : Result Certificate DocumentFault) → option_map (read_from s) old ≡ option_map (read_from s') new → Answers s' new r → Answers s old r
answers_before s s' old new r e a = grind (arith, nat_tests, same_Some)

refused : (s : Stage) (t : Token) (rest : List Token) (reason : Reason) → stage_after s t.kind ≡ Err reason → read_from s (onto_token t rest) ≡ Refused t.number reason
unfolding read_from
refused s t rest reason e = rw e refl

-- a line that doesn't fit
pub answers_refused : (s : Stage) (t : Token) (old new : Option (List Token)) (reason : Reason) → stage_after s t.kind ≡ Err reason → old ≡ option_map (onto_token t) new → Answers s old (Err (fault.Refused t.number reason))
answers_refused s t old new reason e told = grind (arith, nat_tests, refused)

pub answers_misfit : {T : Type 0} (s : Stage) (next : T → Stage) (t : Token) (old new : Option (List Token)) (found : Result T Reason) (f : DocumentFault) → stage_after s t.kind ≡ onward next found → old ≡ option_map (onto_token t) new → Fits t.number found (Err f)
    → Answers s old (Err f)
answers_misfit s next t old new found f e told h = grind (arith, nat_tests, answers_refused)

after_level : (cert : Certificate) (a b levels number : ℕ) (rest : List Token) (x : Result ℕ Reason) → ((c : Certificate) → read_from (AtBody c zero a b levels) rest ≡ read_from (AtBody c zero 0 0 levels) rest)
    → act number (onward (λ l. AtBody (with_last_level cert l) zero a b levels) x) (λ next. read_from next rest) ≡ act number (onward (λ l. AtBody (with_last_level cert l) zero 0 0 levels) x) (λ next. read_from next rest)
after_level cert a b levels number rest x h = grind (arith, nat_tests)

no_edge_due : (cert : Certificate) (a b levels : ℕ) (ts : List Token) → read_from (AtBody cert zero a b levels) ts ≡ read_from (AtBody cert zero 0 0 levels) ts
unfolding read_from
no_edge_due cert a b levels [] = refl
no_edge_due cert a b zero (t ∷ rest) = refl
no_edge_due cert a b (suc levels) (t ∷ rest) =
    after_level cert a b levels t.number rest (level_of cert.graph.vertices (top_level cert.profile cert.graph.vertices) (length cert.levels) t.kind) (λ c. no_edge_due c a b levels rest)

-- after the last edge it doesn't matter which edge could follow
pub all_edges_read : (cert : Certificate) (a b levels : ℕ) (told : Option (List Token)) → option_map (read_from (AtBody cert 0 a b levels)) told ≡ option_map (read_from (AtBody cert 0 0 0 levels)) told
all_edges_read cert a b levels told = grind (arith, nat_tests, no_edge_due)

ends_input : (k : Kind) (u : Unit {0}) → input_end_of k ≡ Ok u → k ≡ kind.InputEnd
ends_input k u e = grind (arith, nat_tests)

accepted : (cert : Certificate) (t : Token) (rest : List Token) → t.kind ≡ kind.InputEnd → read_from (AtInputEnd cert) (onto_token t rest) ≡ Accepted cert
unfolding read_from
accepted cert t rest e = rw e refl

-- the end of the input after `end`
pub answers_accepted : (cert : Certificate) (t : Token) (old new : Option (List Token)) (u : Unit {0}) → input_end_of t.kind ≡ Ok u → old ≡ option_map (onto_token t) new → Answers (AtInputEnd cert) old (Ok cert)
answers_accepted cert t old new u e told = grind (arith, nat_tests, accepted, ends_input)
