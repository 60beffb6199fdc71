-- What follows from the definitions of headers and batches, on examples.
use Rattle.std.specs.Prelude.{ℕ, ◌≡◌, List, [], ◌∷◌, ◌++◌, codes}
use Rattle.kc_graph.specs.declared.items.Item.TheVariants.{Insert, Delete, Isolate}
use Rattle.kc_levels.specs.declared.profile.Profile.TheVariants.{One, Two}
use Rattle.kc_text.specs.declared.reason.Reason.TheVariants.{LineLong, BadLine, BadVertex, TooMany, Truncated, InputLimit}
use Rattle.kc_batch.specs.declared.batch.Next.{Next}
use Rattle.kc_batch.specs.declared.batch.Next.TheVariants.{Refused}
use Rattle.kc_batch.specs.Batches.{whole}
use Rattle.kc_batch.specs.BatchInputs.{BatchInput, WithBatches, HeaderRefused, input_of}

-- the content of a text under the limits of the program
abbrev pub said : List ℕ → BatchInput
said text = input_of 65536 1073741824 1048576 text

-- a header with n vertices and no asks, and these batches
abbrev pub plain : ℕ → List Next → BatchInput
plain n batches = WithBatches (record { profile = One; n = n; asks = [] }) batches

-- batches of a graph with three vertices
abbrev pub among_three : List ℕ → BatchInput
among_three text = said (codes "kcore 1\nvertices 3\n" ++ text)

-- batches of a graph with five vertices under the second profile
abbrev pub second : List Next → BatchInput
second batches = WithBatches (record { profile = Two; n = 5; asks = [] }) batches

abbrev pub among_five : List ℕ → BatchInput
among_five text = said (codes "kcore 2\nvertices 5\n" ++ text)

-- a SNAP edge file as a batch: comments, tabs, carriage returns
abbrev pub ReadsSnap : Type 0
ReadsSnap = said (codes "kcore 1\r\nvertices 3\r\nbatch\r\n# Undirected graph\r\n# FromNodeId\tToNodeId\r\n0\t1\r\n1\t0\r\n1\t2\r\n2\t1\r\nend\r\n")
    ≡ plain 3 (whole (Insert 0 1 ∷ Insert 1 0 ∷ Insert 1 2 ∷ Insert 2 1 ∷ []) 10 ∷ [])

-- headers, and the first line at which one is refused
pub record ReadsHeaders : Type 0 where
  pub no_batch : said (codes "kcore 1\nvertices 1") ≡ plain 1 []
  pub asks : said (codes "# questions\n\nkcore  1\nvertices 2\nask 2 0\n\nask 1 1 0 1\n")
      ≡ WithBatches (record { profile = One; n = 2; asks = record { times = 2; vertices = 0 ∷ [] } ∷ record { times = 1; vertices = 1 ∷ 0 ∷ 1 ∷ [] } ∷ [] }) []
  pub nothing : said [] ≡ HeaderRefused 1
  pub version : said (codes "kcore 01\nvertices 1\n") ≡ HeaderRefused 1
  pub second_version : said (codes "kcore 2\nvertices 5\nask 1 4\n") ≡ WithBatches (record { profile = Two; n = 5; asks = record { times = 1; vertices = 4 ∷ [] } ∷ [] }) []
  pub third_version : said (codes "kcore 3\nvertices 1\n") ≡ HeaderRefused 1
  pub no_vertices : said (codes "kcore 1\nvertices 0\n") ≡ HeaderRefused 2
  pub most_vertices : said (codes "kcore 1\nvertices 16777216\n") ≡ plain 16777216 []
  pub too_many_vertices : said (codes "kcore 1\nvertices 16777217\n") ≡ HeaderRefused 2
  pub no_second_line : said (codes "kcore 1\n\n# more\n") ≡ HeaderRefused 4
  pub limit : input_of 65536 9 1 (codes "kcore 1\nvertices 1\n") ≡ HeaderRefused 2
  pub long_line : input_of 7 100 1 (codes "kcore 1\nvertices 1\n") ≡ HeaderRefused 2

-- each fault of an ask line refuses the header at that line
pub record RefusesAsks : Type 0 where
  pub no_times : among_three (codes "ask\n") ≡ HeaderRefused 3
  pub no_vertex : among_three (codes "ask 1\n") ≡ HeaderRefused 3
  pub times_zero : among_three (codes "ask 0 1\n") ≡ HeaderRefused 3
  pub times_no_number : among_three (codes "ask x 1\n") ≡ HeaderRefused 3
  pub no_number : among_three (codes "ask 1 0 x\n") ≡ HeaderRefused 3
  pub no_vertex_of_the_graph : among_three (codes "ask 1 0 3\n") ≡ HeaderRefused 3
  pub too_many_questions : among_three (codes "ask 32769 0 1\n") ≡ HeaderRefused 3
  pub second : among_three (codes "ask 32768 0 1\nask 1 3\n") ≡ HeaderRefused 4

-- a refused batch between two others
abbrev pub ReadsBatches : Type 0
ReadsBatches = among_three (codes "batch\n0 1\nend\nbatch\n1 2\n0 2\n1 3\nend\nbatch\n+ 1 2\n- 2 1\n2 2\nend\nbatch\nend\n")
    ≡ plain 3 (whole (Insert 0 1 ∷ []) 5 ∷ Refused 9 BadVertex ∷ whole (Insert 1 2 ∷ Delete 2 1 ∷ Insert 2 2 ∷ []) 15 ∷ whole [] 17 ∷ [])

-- each fault of a batch, and which of two faults decides
pub record RefusesBatches : Type 0 where
  pub line_long : input_of 10 100 9 (codes "kcore 1\nvertices 3\nbatch\n0 1\n0 1 # two words more\nend\n") ≡ plain 3 (Refused 5 LineLong ∷ [])
  pub long_comment : input_of 10 100 9 (codes "kcore 1\nvertices 3\nbatch\n# a comment\nend\n") ≡ plain 3 (Refused 4 LineLong ∷ [])
  pub one_word : among_three (codes "batch\n0\nend\n") ≡ plain 3 (Refused 4 BadLine ∷ [])
  pub sign : among_three (codes "batch\n* 0 1\nend\n") ≡ plain 3 (Refused 4 BadLine ∷ [])
  pub no_number : among_three (codes "batch\n+ 0 x\nend\n") ≡ plain 3 (Refused 4 BadLine ∷ [])
  pub four_words : among_three (codes "batch\n+ 0 1 2\nend\n") ≡ plain 3 (Refused 4 BadLine ∷ [])
  pub batch_within : among_three (codes "batch\nbatch\nend\n") ≡ plain 3 (Refused 4 BadLine ∷ [])
  pub late_ask : among_three (codes "batch\nend\nask 1 0\nend\n") ≡ plain 3 (whole [] 4 ∷ Refused 5 BadLine ∷ [])
  pub bad_vertex : among_three (codes "batch\n0 3\nend\n") ≡ plain 3 (Refused 4 BadVertex ∷ [])
  pub too_many : input_of 65536 1073741824 2 (codes "kcore 1\nvertices 3\nbatch\n0 1\n0 2\n1 2\nend\n") ≡ plain 3 (Refused 6 TooMany ∷ [])
  pub bad_line_first : input_of 65536 1073741824 0 (codes "kcore 1\nvertices 3\nbatch\n0 1 3\nend\n") ≡ plain 3 (Refused 4 BadLine ∷ [])
  pub bad_vertex_before_too_many : input_of 65536 1073741824 0 (codes "kcore 1\nvertices 3\nbatch\n0 3\nend\n") ≡ plain 3 (Refused 4 BadVertex ∷ [])
  pub truncated : among_three (codes "batch\n0 1\n") ≡ plain 3 (Refused 5 Truncated ∷ [])
  pub input_limit : input_of 65536 24 9 (codes "kcore 1\nvertices 3\nbatch\n0 1\nend\n") ≡ plain 3 (Refused 3 InputLimit ∷ [])

-- isolations: items under the second profile, a wrong line under the first; which of two faults decides
pub record ReadsIsolations : Type 0 where
  pub item : among_five (codes "batch\n+ 0 1\nx 0\n\tx  04\r\n- 1 2\nend\n") ≡ second (whole (Insert 0 1 ∷ Isolate 0 ∷ Isolate 4 ∷ Delete 1 2 ∷ []) 8 ∷ [])
  pub first_profile : among_three (codes "batch\nx 1\nend\n") ≡ plain 3 (Refused 4 BadLine ∷ [])
  pub bad_line_before_bad_vertex : among_three (codes "batch\nx 9\nend\n") ≡ plain 3 (Refused 4 BadLine ∷ [])
  pub bad_vertex : among_five (codes "batch\nx 5\nend\n") ≡ second (Refused 4 BadVertex ∷ [])
  pub no_number : among_five (codes "batch\nx y\nend\n") ≡ second (Refused 4 BadLine ∷ [])
  pub no_vertex : among_five (codes "batch\nx\nend\n") ≡ second (Refused 4 BadLine ∷ [])
  pub two_vertices : among_five (codes "batch\nx 1 2\nend\n") ≡ second (Refused 4 BadLine ∷ [])
  pub capital : among_five (codes "batch\nX 1\nend\n") ≡ second (Refused 4 BadLine ∷ [])
  pub too_many : input_of 65536 1073741824 1 (codes "kcore 2\nvertices 5\nbatch\nx 1\nx 2\nend\n") ≡ second (Refused 5 TooMany ∷ [])
  pub outside : among_five (codes "x 1\nend\n") ≡ second (Refused 3 BadLine ∷ [])

-- the lines that are passed over after a fault: all up to the next `end`, and nothing in them is another fault
pub record PassesOver : Type 0 where
  -- the example at the head of `Batches`
  pub example : among_three (codes "batch\n0 1\n0 9\n1 2\nend\nbatch\n+ 1 2\nend\n") ≡ plain 3 (Refused 5 BadVertex ∷ whole (Insert 1 2 ∷ []) 10 ∷ [])
  pub first_fault : among_three (codes "batch\n0 3\n0 1 2 3\nbatch\nend\nbatch\nend\n") ≡ plain 3 (Refused 4 BadVertex ∷ whole [] 9 ∷ [])
  pub wrong_line : among_three (codes "0 1\nbatch\n0 1\nend\nend\nbatch\nend") ≡ plain 3 (Refused 3 BadLine ∷ Refused 7 BadLine ∷ whole [] 9 ∷ [])
  pub input_ends : among_three (codes "0 1\n0 2\n") ≡ plain 3 (Refused 3 BadLine ∷ [])
  pub limit_between : input_of 65536 33 9 (codes "kcore 1\nvertices 3\nbatch\nend\nbatch\n") ≡ plain 3 (whole [] 4 ∷ Refused 5 InputLimit ∷ [])
  pub limit_within : input_of 65536 26 9 (codes "kcore 1\nvertices 3\nbatch\n0 1\nend\n") ≡ plain 3 (Refused 4 InputLimit ∷ [])
  pub limit_after_fault : input_of 65536 31 9 (codes "kcore 1\nvertices 3\nbatch\n0 1 2\n0 1\nend\n") ≡ plain 3 (Refused 4 BadLine ∷ Refused 5 InputLimit ∷ [])
