-- Laws of certificates, and examples: what is written is read back.
use Rattle.std.specs.Prelude.{ℕ, ◌+◌, ◌≡◌, ◌≤◌, true, List, [], ◌∷◌, ◌++◌, length, codes}
use Rattle.std.specs.List.{list_all}
use Rattle.kc_levels.specs.declared.profile.Profile.TheVariants.{Two}
use Rattle.kc_levels.specs.LevelList.{MeetsBoth}
use Rattle.kc_text.specs.declared.reason.Reason.TheVariants.{LineLong, BadLine, BadVertex, Truncated, InputLimit}
use Rattle.kc_text.specs.Lines.{lines}
use Rattle.kc_text.specs.Printing.{is_line, printed}
use Rattle.kc_text.specs.Words.{is_skip}
use Rattle.kc_cert.specs.declared.certificate.Certificate.{Certificate}
use Rattle.kc_cert.specs.Documents.{Document, Accepted, Refused, document_of}
use Rattle.kc_cert.specs.Texts.{IsCertificate, certificate_text}
use Rattle.kc_cert.specs.Tokens.{tokens}
use Rattle.kc_cert.specs.Verdicts.{IsVerdict}
use Rattle.kc_cert.specs.declared.verdict.Verdict.{Verdict}
use Rattle.kc_cert.specs.declared.verdict.Verdict.TheVariants.{Certified}

-- the result of bytes as a certificate: at most `limit` bytes a line, of the first `room` bytes
abbrev pub document_in : ℕ → ℕ → List ℕ → Document
document_in limit room bytes = document_of (tokens (lines limit room bytes))

-- a certificate is read back from its text, after any skipped lines; its own lines have fewer than 32 bytes
abbrev pub CertificateIsReadBack : Type 0
CertificateIsReadBack =
    (cert : Certificate) (limit room : ℕ) (notes : List (List (List ℕ))) → IsCertificate cert → 32 ≤ limit → list_all (is_line limit) notes ≡ true → list_all is_skip notes ≡ true
    → length (printed notes) + length (certificate_text cert) ≤ room → document_in limit room (printed notes ++ certificate_text cert) ≡ Accepted cert

-- each certificate has a verdict
abbrev pub HasVerdict : Type 0
HasVerdict = (cert : Certificate) → (verdict : Verdict) × IsVerdict cert verdict

-- two verdicts of a certificate within the limits are the same, since no vertex breaks both invariants
abbrev pub VerdictIsOne : Type 0
VerdictIsOne = (cert : Certificate) (first second : Verdict) → IsCertificate cert → IsVerdict cert first → IsVerdict cert second → first ≡ second

-- the verdict of a certificate in which both invariants hold is `Certified`, and no other
abbrev pub VerdictIsCertified : Type 0
VerdictIsCertified = (cert : Certificate) (verdict : Verdict) → MeetsBoth cert.profile cert.graph cert.levels → IsVerdict cert verdict → verdict ≡ Certified

-- the result of a text under the limits of the program
abbrev pub said : List ℕ → Document
said text = document_in 65536 1073741824 text

-- one edge between two vertices, each on level 1
abbrev pub one_edge : Certificate
one_edge = record { profile = Two; graph = record { vertices = 2; edges = (0, 1) ∷ [] }; levels = 1 ∷ 1 ∷ [] }

-- a certificate, and an example of each reason for a refusal
pub record ReadsCertificates : Type 0 where
  pub whole : said (codes "kcore-cert 1\nprofile 2\nvertices 2\nedges 1\nedge 0 1\nlevel 0 1\nlevel 1 1\nend\n") ≡ Accepted one_edge
  pub skipped : said (codes "# a comment\r\n\r\nkcore-cert\t1\r\nprofile  2\r\nvertices 02\r\nedges 1\r\n# more\r\nedge 0 01\r\nlevel 0 1\r\nlevel 1 1\r\nend") ≡ Accepted one_edge
  pub nothing : said [] ≡ Refused 1 Truncated
  pub version : said (codes "kcore-cert 01\n") ≡ Refused 1 BadLine
  pub profile : said (codes "kcore-cert 1\nprofile 3\n") ≡ Refused 2 BadLine
  pub no_vertices : said (codes "kcore-cert 1\nprofile 1\nvertices 0\n") ≡ Refused 3 BadLine
  pub too_many_vertices : said (codes "kcore-cert 1\nprofile 1\nvertices 16777217\n") ≡ Refused 3 BadLine
  pub too_many_edges : said (codes "kcore-cert 1\nprofile 1\nvertices 2\nedges 16777217\n") ≡ Refused 4 BadLine
  pub vertex : said (codes "kcore-cert 1\nprofile 1\nvertices 2\nedges 1\nedge 2 0\n") ≡ Refused 5 BadVertex
  pub order : said (codes "kcore-cert 1\nprofile 1\nvertices 2\nedges 2\nedge 0 1\nedge 0 1\n") ≡ Refused 6 BadLine
  pub turned : said (codes "kcore-cert 1\nprofile 1\nvertices 2\nedges 1\nedge 1 0\n") ≡ Refused 5 BadLine
  pub early_level : said (codes "kcore-cert 1\nprofile 1\nvertices 2\nedges 1\nlevel 9 0\n") ≡ Refused 5 BadLine
  pub late_edge : said (codes "kcore-cert 1\nprofile 1\nvertices 2\nedges 0\nedge 9 9\n") ≡ Refused 5 BadLine
  pub level_vertex : said (codes "kcore-cert 1\nprofile 1\nvertices 2\nedges 0\nlevel 2 0\n") ≡ Refused 5 BadVertex
  pub level_order : said (codes "kcore-cert 1\nprofile 1\nvertices 2\nedges 0\nlevel 1 0\n") ≡ Refused 5 BadLine
  pub top : said (codes "kcore-cert 1\nprofile 1\nvertices 2\nedges 0\nlevel 0 2\n") ≡ Refused 5 BadLine
  pub early_end : said (codes "kcore-cert 1\nprofile 1\nvertices 2\nedges 0\nlevel 0 0\nend\n") ≡ Refused 6 BadLine
  pub no_end : said (codes "kcore-cert 1\nprofile 1\nvertices 1\nedges 0\nlevel 0 0\n") ≡ Refused 6 Truncated
  pub more : said (codes "kcore-cert 1\nprofile 1\nvertices 1\nedges 0\nlevel 0 0\nend\nend\n") ≡ Refused 7 BadLine
  pub long_line : document_in 9 1073741824 (codes "kcore-cert 1\n") ≡ Refused 1 LineLong
  pub limit : document_in 65536 20 (codes "kcore-cert 1\nprofile 1\n") ≡ Refused 2 InputLimit
