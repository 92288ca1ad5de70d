-- What `check` prints of a kernel: its canonical text, its size, its class and the registers that it needs, a line each.
use Rattle.std.specs.Prelude.{ℕ, List, [], ◌∷◌, ◌++◌, codes, decimal}
use Rattle.guest_types.specs.declared.length.Width.{Width}
use Rattle.guest_types.specs.Length.{width_bits}
use Rattle.kernel_tree.specs.Plain.{Program}
use Rattle.kernel_tree.specs.Printing.{canonical_text}
use Rattle.loop_form.specs.declared.need.Needs.{Needs}
use Rattle.loop_form.specs.Needs.{needs_of}
use Rattle.loop_form.specs.Lanes.{lane_width_of}
use Rattle.dependence.specs.declared.reason.Class.{Class}
use Rattle.dependence.specs.declared.reason.Class.TheVariants as class
use Rattle.dependence.specs.declared.reason.Why.{Why}
use Rattle.dependence.specs.declared.reason.Why.TheVariants as why
use Rattle.dependence.specs.Classes.{class_of}

abbrev pub line : List ℕ → List ℕ
line text = text ++ 10 ∷ []

abbrev pub why_text : Why → List ℕ
why_text why.NoLoop = codes "noloop"
why_text why.AccumulatorRead = codes "accumulator"
why_text why.MixedUpdate = codes "mixed"
why_text why.BeforeBreak = codes "break"
why_text why.ComputedIndex = codes "computed"
why_text why.Carried = codes "carried"

-- the lane width in bits where the class is Vector, and else the reason
abbrev pub kind_text : Class → Width → List ℕ
kind_text class.Vector width = codes "vector " ++ decimal (width_bits width)
kind_text (class.Scalar reason) width = codes "scalar " ++ why_text reason

abbrev pub class_text : Class → Width → List ℕ
class_text c width = codes "class " ++ kind_text c width

-- the registers of each class that is tried
abbrev pub need_text : Class → Needs → List ℕ
need_text class.Vector needs = codes "need z " ++ (decimal needs.z ++ (codes " p " ++ (decimal needs.p ++ (codes " x " ++ decimal needs.x))))
need_text (class.Scalar reason) needs = codes "need x " ++ decimal needs.x

abbrev pub size_text : Needs → List ℕ
size_text needs = codes "size " ++ decimal needs.size

unfoldable pub check_text : Program → List ℕ
check_text k =
    line (canonical_text k) ++ (line (size_text (needs_of k)) ++ (line (class_text (class_of k) (lane_width_of k)) ++ line (need_text (class_of k) (needs_of k))))
