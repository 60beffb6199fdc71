-- How lines follow one another from a reader.
use Rattle.std.specs.Prelude.{List, [], ◌∷◌}
use Rattle.kc_cert.specs.declared.token.Token.{Token}
use Rattle.kc_cert.specs.declared.token.Kind.{Kind}
use Rattle.kc_cert.specs.declared.token.Kind.TheVariants as kind

-- the tokens after one of this kind: none after the end of the input or its limit
abbrev pub behind_kind : Kind → List Token → List Token
behind_kind kind.Limit rest = []
behind_kind kind.InputEnd rest = []
behind_kind _ rest = rest

-- a token and those after it
abbrev pub onto_token : Token → List Token → List Token
onto_token t rest = t ∷ behind_kind t.kind rest
