-- What a text is as a kernel.
use Rattle.std.specs.Prelude.{◌≡◌, ℕ, List, Option, Some, None}
use Rattle.kernel_tree.specs.Plain.{Program}
use Rattle.kernel_tree.specs.Typing.{Refusal, check_fault}
use Rattle.kernel_syntax.specs.declared.fault.ReadFault.{ReadFault}
use Rattle.kernel_syntax.specs.declared.fault.ReadFault.TheVariants as reading
use Rattle.kernel_syntax.specs.Refusals.{limit_fault, IsReadFrom, HasNoTree, StopsAt}
use Rattle.kernel_types.specs.declared.fault.TypeFault.TheVariants as typing
use Rattle.kernel_types.specs.Causes.{IsCause}
use Rattle.kernel_front.specs.declared.fault.KernelFault.{KernelFault}
use Rattle.kernel_front.specs.declared.fault.KernelFault.TheVariants as faults

-- It passes a limit of texts or holds a bad byte; or its tokens are the tree of no kernel and stop at one of them; or it is a
-- kernel that breaks a rule; or it is a sound kernel.
pub data Verdict : Type 0 where
  Limited : ReadFault → Verdict
  NoKernel : ℕ → Verdict
  Refused : Refusal → Verdict
  Sound : Program → Verdict

-- what reading a text gives breaks a rule
pub record IsRefused (text : List ℕ) (refusal : Refusal) : Type 0 where
  pub kernel : Program
  pub read : IsReadFrom text kernel
  pub fault : check_fault kernel ≡ Some refusal

abbrev pub IsVerdict : List ℕ → Verdict → Type 0
IsVerdict text (Limited fault) = limit_fault text ≡ Some fault
IsVerdict text (NoKernel token) = (limit_fault text ≡ None) × HasNoTree text × StopsAt text token
IsVerdict text (Refused refusal) = (limit_fault text ≡ None) × IsRefused text refusal
IsVerdict text (Sound k) = (limit_fault text ≡ None) × IsReadFrom text k × (check_fault k ≡ None)

-- A fault says of a text what its verdict is; want of memory says nothing of it.
abbrev pub Explains : Verdict → KernelFault → Type 0
Explains v (faults.Unread (reading.Syntax token)) = v ≡ NoKernel token
Explains v (faults.Unread reading.Memory) = Unit {0}
Explains v (faults.Unread fault) = v ≡ Limited fault
Explains v (faults.Broken typing.Memory) = Unit {0}
Explains v (faults.Broken fault) = (refusal : Refusal) × (v ≡ Refused refusal) × IsCause (Some refusal) fault

-- a kernel that was read is refused for its own fault
abbrev pub IsBroken : Option Refusal → KernelFault → Type 0
IsBroken refusal (faults.Unread fault) = ⊥
IsBroken refusal (faults.Broken fault) = IsCause refusal fault
