-- How many words a worked kernel may have.
use Rattle.std.proofs.Common.{◌≡◌, ℕ, refl}
use Rattle.loop_form.specs.Entries.{item_type}
use Rattle.loop_form.specs.Lanes.{widest}
use Rattle.loop_form.specs.Needs.{constants}
use Rattle.loop_form.proofs.Kernels.{axpy}
use Rattle.dependence.specs.Classes.{before_break, computed_index, carried}
use Rattle.dependence.specs.Apart.{least_of, greatest_of, most_reach, used_from}
use Rattle.kernel_compile.specs.Words.{close_words}

-- 49 outside the loop, 28 of an iteration, five passes of 13 and one, three names in another form, and 32; it has 76
axpy-words : close_words axpy ≡ 181
unfolding item_type widest constants before_break computed_index carried least_of greatest_of most_reach used_from
axpy-words = refl
