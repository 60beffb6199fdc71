-- The lines that are written, but for those of the vertices.
use Rattle.std.specs.Prelude.{ℕ, ◌+◌, List, [], ◌∷◌, ◌++◌, decimal, codes}
use Rattle.std.specs.List.{flat_map}
use Rattle.kc_graph.specs.declared.items.Item.{Item}
use Rattle.kc_graph.specs.declared.items.Item.TheVariants.{Insert, Delete, Isolate}
use Rattle.kc_text.specs.declared.reason.Reason.{Reason}
use Rattle.kc_text.specs.Reasons.{reason_word}
use Rattle.kc_text.specs.Printing.{printed_line}
use Rattle.kc_report.specs.Lines.{vertices_line}
use Rattle.kc_intake.specs.declared.updates.Update.{Update}

abbrev pub magic_line : List ℕ
magic_line = printed_line (codes "kserve-run" ∷ codes "1" ∷ [])

-- the two lines ahead of all others
abbrev pub head_text : ℕ → List ℕ
head_text n = magic_line ++ vertices_line n

-- the one line of an input that is refused
abbrev pub refused_line : ℕ → Reason → List ℕ
refused_line line reason = printed_line (codes "refused" ∷ codes "line" ∷ decimal line ∷ reason_word reason ∷ [])

abbrev pub batch_line : ℕ → List ℕ
batch_line number = printed_line (codes "batch" ∷ decimal number ∷ [])

-- the words of an item's line
abbrev pub item_words : Item → List (List ℕ)
item_words (Insert u v) = codes "+" ∷ decimal u ∷ decimal v ∷ []
item_words (Delete u v) = codes "-" ∷ decimal u ∷ decimal v ∷ []
item_words (Isolate v) = codes "x" ∷ decimal v ∷ []

-- an update: the number of its client, and its item
abbrev pub take_line : Update → List ℕ
take_line u = printed_line (codes "take" ∷ decimal u.client ∷ item_words u.item)

-- a batch: its number, and its updates
abbrev pub batch_text : ℕ → List Update → List ℕ
batch_text number updates = batch_line number ++ flat_map take_line updates

-- the batches, of which the first has this number
abbrev pub batch_lines : ℕ → List (List Update) → List ℕ
batch_lines number [] = []
batch_lines number (batch ∷ batches) = batch_text number batch ++ batch_lines (number + 1) batches
