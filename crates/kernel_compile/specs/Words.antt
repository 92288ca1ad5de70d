-- How many words a file has at most, by what a reader counts in its kernel, and not by the size alone.
use Rattle.std.specs.Prelude.{ℕ, ◌+◌, ◌*◌, length, Bool, true, false}
use Rattle.kernel_tree.specs.Plain.{Program}
use Rattle.dependence.specs.Bound.{is_vector}
use Rattle.dependence.specs.Classes.{class_of}
use Rattle.close_bound.specs.CloseBound.{outside_steps, iteration_steps}
use Rattle.loop_code.specs.Loosening.{held_loosely}
use Rattle.vector_emit.specs.VectorCode.{passes_most}

-- the passes of a kernel of class Vector: those of two passes, or in a loop without a break of five and one more
abbrev pub passes_words : (vector : Bool) → Program → ℕ
passes_words true k = passes_most k
passes_words false k = 0

-- One iteration of the scalar code, the passes, what stands outside the loop, two for each name that scalar code holds in another
-- form, and 32, most of which lay the numbers that scalar code holds.
abbrev pub close_words : Program → ℕ
close_words k = outside_steps k + iteration_steps k + passes_words (is_vector (class_of k)) k + 2 * length (held_loosely k) + 32
