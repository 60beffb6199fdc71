-- The content of bytes for the program.
use Rattle.std.specs.Prelude.{ℕ, List}
use Rattle.kc_graph.specs.declared.limits.TheConstants.{MAX_ITEMS}
use Rattle.kc_batch.specs.BatchInputs.{BatchInput, input_of}
use Rattle.kcore.specs.declared.limits.TheConstants.{LINE_LIMIT, INPUT_LIMIT}

-- the content of bytes whose lines have at most 65,536 bytes
--
-- The input has at most 1,073,741,824 bytes, and a batch at most 1,048,576 items.
abbrev pub input_said : List ℕ → BatchInput
input_said bytes = input_of LINE_LIMIT INPUT_LIMIT MAX_ITEMS bytes
