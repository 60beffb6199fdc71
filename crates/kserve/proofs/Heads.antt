-- The first two lines of an input.
use Rattle.std.proofs.Common.{ℕ, ◌≡◌, true, false, List, [], refl, sym, ◌∙◌}
use Rattle.std.specs.Prelude.{Some, None}
use Rattle.kc_text.specs.declared.line.Line.{Line}
use Rattle.kc_text.specs.declared.line.Body.{Body}
use Rattle.kc_text.specs.declared.line.Body.TheVariants.{Text, TooLong, Limit, End}
use Rattle.kc_text.specs.declared.reason.Reason.TheVariants.{Header}
use Rattle.kc_text.specs.Reading.{onto, behind}
use Rattle.kc_text.specs.Words.{words, words_from}
use Rattle.kc_text.specs.Kept.{text_of}
use Rattle.kc_batch.specs.Headers.{vertices_in}
use Rattle.kserve.specs.declared.head.Head.TheVariants as head
use Rattle.kserve.specs.Inputs.{Refused, is_magic, after_head, after_magic, input_from}

no_magic : is_magic [] ≡ false
unfolding is_magic
no_magic = refl

no_vertices : vertices_in [] ≡ None
unfolding vertices_in
no_vertices = refl

-- no end of the input is `kserve 1`
going : (b : Body) → is_magic (words (text_of b)) ≡ true → (rest : List Line) → behind b rest ≡ rest
unfolding words_from
going (Text text) e rest = refl
going TooLong e rest = refl
going Limit e rest = let x : true ≡ false = sym e ∙ no_magic in absurd cc
going End e rest = let x : true ≡ false = sym e ∙ no_magic in absurd cc

-- nor `vertices N`
going_some : (n : ℕ) (b : Body) → vertices_in (words (text_of b)) ≡ Some n → (rest : List Line) → behind b rest ≡ rest
unfolding words_from
going_some n (Text text) e rest = refl
going_some n TooLong e rest = refl
going_some n Limit e rest = let x : Some n ≡ None = sym e ∙ no_vertices in absurd cc
going_some n End e rest = let x : Some n ≡ None = sym e ∙ no_vertices in absurd cc

pub magic_there : (line : Line) → is_magic (words (text_of line.body)) ≡ true → (rest : List Line) → input_from (onto line rest) ≡ after_magic rest
unfolding input_from
magic_there line e rest = rw (e, going line.body e rest) refl

pub magic_missing : (line : Line) → is_magic (words (text_of line.body)) ≡ false → (rest : List Line) → input_from (onto line rest) ≡ Refused line.number Header
unfolding input_from
magic_missing line e rest = rw e refl

pub vertices_there : (line : Line) (n : ℕ) → vertices_in (words (text_of line.body)) ≡ Some n → (rest : List Line) → after_magic (onto line rest) ≡ after_head (head.Vertices n) rest
unfolding after_magic
vertices_there line n e rest = rw (e, going_some n line.body e rest) refl

pub vertices_missing : (line : Line) → vertices_in (words (text_of line.body)) ≡ None → (rest : List Line) → after_magic (onto line rest) ≡ Refused line.number Header
unfolding after_magic
vertices_missing line e rest = rw e refl
