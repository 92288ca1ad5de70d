-- What the answer to a kernel that is refused says of it.
use Rattle.std.specs.Prelude.{◌≡◌, ℕ, Option, Some}
use Rattle.kernel_tree.specs.declared.fault.Fault.{Fault}
use Rattle.kernel_tree.specs.declared.fault.Fault.TheVariants as fault
use Rattle.kernel_tree.specs.Typing.{Refusal, TooLarge, TooDeep, Fails}
use Rattle.kernel_types.specs.declared.fault.TypeFault.{TypeFault}
use Rattle.kernel_types.specs.declared.fault.TypeFault.TheVariants as faults

-- a rule that fails at an item
abbrev pub fails : ℕ → Fault → Option Refusal
fails item f = Some (Fails (record { item = item; fault = f }))

-- a kernel is refused as the answer says; want of memory says nothing of the kernel
abbrev pub IsCause : Option Refusal → TypeFault → Type 0
IsCause refusal (faults.Unknown item) = refusal ≡ fails item fault.Unknown
IsCause refusal (faults.Twice item) = refusal ≡ fails item fault.Twice
IsCause refusal (faults.WrongKind item) = refusal ≡ fails item fault.WrongKind
IsCause refusal (faults.Mismatch item want found) = refusal ≡ fails item (fault.Mismatch want found)
IsCause refusal (faults.Untyped item) = refusal ≡ fails item fault.Untyped
IsCause refusal (faults.LiteralRange item) = refusal ≡ fails item fault.LiteralRange
IsCause refusal (faults.ShiftRange item) = refusal ≡ fails item fault.ShiftRange
IsCause refusal (faults.OffsetRange item) = refusal ≡ fails item fault.OffsetRange
IsCause refusal (faults.TooLarge size) = refusal ≡ Some (TooLarge size)
IsCause refusal (faults.TooDeep depth) = refusal ≡ Some (TooDeep depth)
IsCause refusal faults.Memory = Unit {0}
