-- One line, and what a document says of the lines after it.
use Rattle.std.proofs.Common.{ℕ, ◌≡◌, ◌<◌, List, refl, arith}
use Rattle.std.specs.Prelude.{Option, Result, Ok, Err}
use Rattle.std.specs.Option.{option_map}
use Rattle.std.proofs.lemmas.Option.{same_Some}
use Rattle.std.proofs.lemmas.Bool.Decides.{nat_tests}
use Rattle.kc_text.specs.declared.line.Line.{Line}
use Rattle.kc_text.specs.declared.line.Body.{Body}
use Rattle.kc_text.specs.declared.document_fault.DocumentFault.{DocumentFault}
use Rattle.kc_text.specs.declared.document_fault.DocumentFault.TheVariants as fault
use Rattle.kc_text.specs.declared.reason.Reason.{Reason}
use Rattle.kc_text.specs.declared.reason.Reason.TheVariants.{LineLong, InputLimit}
use Rattle.kc_text.specs.Reading.{onto, behind, Takes}
use Rattle.kc_audit.specs.declared.run_text.RunText.{RunText}
use Rattle.kc_audit.specs.declared.stage.Stage.{Stage}
use Rattle.kc_audit.specs.declared.stage.Stage.TheVariants.{Batches}
use Rattle.kc_audit.specs.Kinds.{kind_of}
use Rattle.kc_audit.specs.Kinds as kind
use Rattle.kc_audit.specs.Documents.{Document, Accepted, Refused, Goes, Ends, Stops, step_of, read_from, head_of, vertices_of, after_head, document_of, empty_run, first_place}
use Rattle.kc_audit.specs.Reads.{Answers}

-- a line that fits is a text
pub record IsText (body : Body) : Type 0 where
  pub behind : (rest : List Line) → behind body rest ≡ rest
  pub takes : (old new : ℕ) → Takes body old new → new < old

stops_long : (run : RunText) (stage : Stage) → step_of run stage kind.TooLong ≡ Stops LineLong
stops_long run stage = grind (arith, nat_tests)

stops_limit : (run : RunText) (stage : Stage) → step_of run stage kind.Limit ≡ Stops InputLimit
stops_limit run stage = grind (arith, nat_tests)

no_end : (run : RunText) (stage : Stage) (more : RunText) (next : Stage) → step_of run stage kind.InputEnd ≡ Goes more next → ⊥
no_end run stage more next e = grind (arith, nat_tests)

pub fits_text : (run : RunText) (stage : Stage) (body : Body) (more : RunText) (next : Stage) → step_of run stage (kind_of body) ≡ Goes more next → IsText body
fits_text run stage body more next e = grind (arith, nat_tests, stops_long, stops_limit, no_end)

pub goes_on : (run : RunText) (stage : Stage) (line : Line) (more : RunText) (next : Stage) → step_of run stage (kind_of line.body) ≡ Goes more next → (rest : List Line)
    → read_from run stage (onto line rest) ≡ read_from more next rest
unfolding read_from
goes_on run stage line more next e rest = rw (e, (fits_text run stage line.body more next e).behind rest) refl

pub stops : (run : RunText) (stage : Stage) (line : Line) (reason : Reason) → step_of run stage (kind_of line.body) ≡ Stops reason → (rest : List Line) → read_from run stage (onto line rest) ≡ Refused line.number reason
unfolding read_from
stops run stage line reason e rest = rw e refl

pub ends : (run : RunText) (stage : Stage) (line : Line) (more : RunText) → step_of run stage (kind_of line.body) ≡ Ends more → (rest : List Line) → read_from run stage (onto line rest) ≡ Accepted more
unfolding read_from
ends run stage line more e rest = rw e refl

-- what a rule F says of lines with one put before them, G says of the lines after it
pub step_on : (F G : List Line → Document) (line : Line) (old new : Option (List Line)) → old ≡ option_map (onto line) new → ((rest : List Line) → F (onto line rest) ≡ G rest) → option_map F old ≡ option_map G new
step_on it k line old new e h = grind (arith, nat_tests)

-- an answer on later lines is one on the lines before
pub answer_before : (F G : List Line → Document) (old new : Option (List Line)) (result : Result RunText DocumentFault) → option_map F old ≡ option_map G new → Answers G new result → Answers F old result
answer_before it k old new result e h = grind (arith, nat_tests, same_Some)

-- where the document is decided by one line
pub refused_here : (F : List Line → Document) (line : Line) (reason : Reason) (old new : Option (List Line)) → option_map F old ≡ option_map (λ rest. Refused line.number reason) new
    → Answers F old (Err (fault.Refused line.number reason))
refused_here it line reason old new e = grind (arith, nat_tests, answer_before)

pub accepted_here : (F : List Line → Document) (run : RunText) (old new : Option (List Line)) → option_map F old ≡ option_map (λ rest. Accepted run) new → Answers F old (Ok run)
accepted_here it run old new e = grind (arith, nat_tests, answer_before)

-- the first two lines are texts where they fit
ok_text : (body : Body) (n : ℕ) → vertices_of (kind_of body) ≡ Ok n → IsText body
ok_text body n e = grind (arith, nat_tests)

head_text : (body : Body) (u : Unit {0}) → head_of (kind_of body) ≡ Ok u → IsText body
head_text body u e = grind (arith, nat_tests)

pub head_there : (line : Line) (u : Unit {0}) → head_of (kind_of line.body) ≡ Ok u → (rest : List Line) → document_of (onto line rest) ≡ after_head rest
unfolding document_of
head_there line u e rest = rw (e, (head_text line.body u e).behind rest) refl

pub head_missing : (line : Line) (reason : Reason) → head_of (kind_of line.body) ≡ Err reason → (rest : List Line) → document_of (onto line rest) ≡ Refused line.number reason
unfolding document_of
head_missing line reason e rest = rw e refl

pub vertices_there : (line : Line) (n : ℕ) → vertices_of (kind_of line.body) ≡ Ok n → (rest : List Line) → after_head (onto line rest) ≡ read_from (empty_run n) (Batches first_place) rest
unfolding after_head
vertices_there line n e rest = rw (e, (ok_text line.body n e).behind rest) refl

pub vertices_missing : (line : Line) (reason : Reason) → vertices_of (kind_of line.body) ≡ Err reason → (rest : List Line) → after_head (onto line rest) ≡ Refused line.number reason
unfolding after_head
vertices_missing line reason e rest = rw e refl
