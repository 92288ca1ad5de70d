-- When a kernel is refused: more values of a class are live than there are registers for them.
use Rattle.std.specs.Prelude.{◌≡◌, ℕ, List, [], ◌∷◌, Option, Some, Bool, nat_lt}
use Rattle.std.specs.List.{find}
use Rattle.kernel_tree.specs.Plain.{Program}
use Rattle.reg_assign.specs.declared.interval.RegClass.{RegClass}
use Rattle.reg_assign.specs.declared.interval.RegClass.TheVariants.{Z, P, X}
use Rattle.loop_form.specs.declared.need.Needs.{Needs}
use Rattle.loop_form.specs.Needs.{needs_of}
use Rattle.loop_form.specs.Registers.{counted_registers}
use Rattle.dependence.specs.declared.reason.Class.{Class}
use Rattle.dependence.specs.declared.reason.Class.TheVariants.{Vector, Scalar}
use Rattle.dependence.specs.Classes.{class_of}
use Rattle.promises.specs.declared.fault.CompileFault.{CompileFault}
use Rattle.promises.specs.declared.fault.CompileFault.TheVariants.{TooManyLive, Memory}

-- the classes of registers whose need is tried, in order: those of vectors for class Vector alone
abbrev pub tried : Class → List RegClass
tried Vector = Z ∷ P ∷ X ∷ []
tried (Scalar why) = X ∷ []

abbrev pub need_in : Needs → RegClass → ℕ
need_in needs Z = needs.z
need_in needs P = needs.p
need_in needs X = needs.x

-- more values are live than there are registers for them
abbrev pub exceeds : Needs → RegClass → Bool
exceeds needs class = nat_lt (counted_registers class) (need_in needs class)

-- the first of some classes that is exceeded
abbrev pub exceeded : Needs → List RegClass → Option RegClass
exceeded needs classes = find (exceeds needs) classes

-- the class of which too many values of a kernel are live
abbrev pub too_many : Program → Option RegClass
too_many k = exceeded (needs_of k) (tried (class_of k))

abbrev pub IsRefusalIn : Needs → List RegClass → CompileFault → Type 0
IsRefusalIn needs classes (TooManyLive class n) = (exceeded needs classes ≡ Some class) × (n ≡ need_in needs class)
IsRefusalIn needs classes Memory = Unit {0}

-- a refusal names the first class that is exceeded, with its need; want of memory may come at any time
abbrev pub IsRefusal : Program → CompileFault → Type 0
IsRefusal k fault = IsRefusalIn (needs_of k) (tried (class_of k)) fault
