-- What the form of a line says.
use Rattle.std.specs.Prelude.{ℕ, List, length, ◌≤◌, drop}
use Rattle.kc_text.specs.Words.{words}
use Rattle.kc_audit.specs.declared.form.Form.{Form}
use Rattle.kc_audit.specs.declared.form.Form.TheVariants as form
use Rattle.kc_audit.specs.Kinds.{Kind, Head, Vertices, Accepted, Refused, Phase, Group, Reader, Vertex, Close, Other, TooLong, Limit, InputEnd}

-- the kind of a text by its form, which has the place of the words of a group or a reader
abbrev pub kind_told : List ℕ → Form → Kind
kind_told text form.Head = Head
kind_told text (form.Vertices n) = Vertices n
kind_told text (form.Accepted t) = Accepted t
kind_told text (form.Refused t) = Refused t
kind_told text (form.Phase p add) = Phase p add
kind_told text (form.Group p l from) = Group p l (words (drop from text))
kind_told text (form.Reader r from) = Reader r (words (drop from text))
kind_told text (form.Vertex v) = Vertex v
kind_told text form.Close = Close
kind_told text form.Other = Other
kind_told text form.TooLong = TooLong
kind_told text form.Limit = Limit
kind_told text form.InputEnd = InputEnd

-- the place lies in the text
abbrev pub IsWithin : List ℕ → Form → Type 0
IsWithin text (form.Group p l from) = from ≤ length text
IsWithin text (form.Reader r from) = from ≤ length text
IsWithin text _ = Unit {0}
