-- A generator, and the lines that it has still to make.
use Rattle.std.specs.Prelude.{ℕ, ◌++◌, ◌∷◌, List, []}
use Rattle.std.specs.Prelude.{decimal, codes}
use Rattle.kc_session.specs.declared.generator.Place.{Place}
use Rattle.kc_session.specs.declared.generator.Place.TheVariants.{Format, Vertices, FirstAsk, SecondAsk, Batch, Items}
use Rattle.kc_session.specs.declared.generator.Generator.{Generator}
use Rattle.kc_session.specs.Generated.{ask_words, head_words, drawn_items, after_items, drawn_batches}

-- the lines from this place on, with `batches` batches that begin after it
abbrev pub words_from : Place → ℕ → ℕ → ℕ → ℕ → List (List (List ℕ))
words_from Format n items batches s = head_words n ++ drawn_batches n items s batches
words_from Vertices n items batches s = (codes "vertices" ∷ decimal n ∷ []) ∷ ask_words n ∷ ask_words n ∷ drawn_batches n items s batches
words_from FirstAsk n items batches s = ask_words n ∷ ask_words n ∷ drawn_batches n items s batches
words_from SecondAsk n items batches s = ask_words n ∷ drawn_batches n items s batches
words_from Batch n items batches s = drawn_batches n items s batches
words_from (Items left) n items batches s = drawn_items n s left ++ (codes "end" ∷ []) ∷ drawn_batches n items (after_items s left) batches

-- the lines that a generator has still to make
unfoldable pub words_left : Generator → List (List (List ℕ))
words_left g = words_from g.place g.n g.items g.batches g.state
