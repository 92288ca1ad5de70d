-- A sweep's kernel meets the rules and its needs are within the registers, whatever its numbers.
use Rattle.std.proofs.Common.{◌≡◌, ℕ, ◌<◌, ◌≤◌, ◌^◌, None, refl}
use Rattle.std.proofs.lemmas.Bool.{lt-ltb, le-leb}
use Rattle.kernel_tree.specs.Typing.{check_fault}
use Rattle.loop_form.specs.Entries.{item_type}
use Rattle.loop_form.specs.Listing.{last_use_from}
use Rattle.loop_form.specs.Lanes.{widest}
use Rattle.loop_form.specs.Needs.{constants, most_live, needs_of}
use Rattle.dependence.specs.declared.reason.Class.TheVariants.{Vector}
use Rattle.dependence.specs.Classes.{before_break, carried, computed_index, class_of}
use Rattle.promises.specs.Refusals.{too_many}
use Rattle.sweep_kernel.specs.Tree.{kernel_with}

-- no rule fails: the literals are in range, and the offset is near
pub checked_with : (initial offset level : ℕ) → initial < 2 ^ 31 → offset ≤ 1024 → level < 2 ^ 31 → check_fault (kernel_with initial offset level) ≡ None
unfolding kernel_with
checked_with initial offset level hi ho hl = rw (lt-ltb initial (2 ^ 31) hi, le-leb offset 1024 ho, lt-ltb level (2 ^ 31) hl) refl

needs_with : (initial offset level : ℕ) → needs_of (kernel_with initial offset level) ≡ record { size = 41; z = 7; p = 3; x = 5 }
unfolding item_type last_use_from constants most_live kernel_with
needs_with initial offset level = refl

class_with : (initial offset level : ℕ) → class_of (kernel_with initial offset level) ≡ Vector
unfolding item_type widest before_break carried computed_index kernel_with
class_with initial offset level = refl

pub enough_with : (initial offset level : ℕ) → too_many (kernel_with initial offset level) ≡ None
enough_with initial offset level = rw (needs_with initial offset level, class_with initial offset level) refl
