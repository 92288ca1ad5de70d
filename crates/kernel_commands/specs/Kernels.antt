-- What is wanted of the text of a kernel.
use Rattle.std.specs.Prelude.{◌≡◌, ℕ, List, Err}
use Rattle.kernel_tree.specs.Plain.{Program}
use Rattle.kernel_syntax.specs.declared.fault.ReadFault.TheVariants as reading
use Rattle.kernel_types.specs.declared.fault.TypeFault.TheVariants as typing
use Rattle.kernel_front.specs.declared.fault.KernelFault.{KernelFault}
use Rattle.kernel_front.specs.declared.fault.KernelFault.TheVariants as kernels
use Rattle.kernel_front.specs.Verdict.{Verdict, Limited, NoKernel, Refused, Sound, IsVerdict, Explains}
use Rattle.refusals.specs.declared.refusal.Refusal.TheVariants.{Kernel}
use Rattle.command_answers.specs.Answer.{Expected}

-- a fault that says something of a text: each but want of memory
abbrev pub IsOfText : KernelFault → Type 0
IsOfText (kernels.Unread reading.Memory) = ⊥
IsOfText (kernels.Broken typing.Memory) = ⊥
IsOfText fault = Unit {0}

-- the command is refused with a fault that explains the verdict
pub record IsRefusedFor (v : Verdict) (work : Expected) : Type 0 where
  pub fault : KernelFault
  pub explains : Explains v fault
  pub of_text : IsOfText fault
  pub is_refused : work ≡ Err (Kernel fault)

-- what is wanted of a text by its verdict, where `sound` is wanted of a kernel
abbrev pub IsExpectedOf : (Program → Expected) → Verdict → Expected → Type 0
IsExpectedOf sound (Limited fault) work = IsRefusedFor (Limited fault) work
IsExpectedOf sound (NoKernel token) work = IsRefusedFor (NoKernel token) work
IsExpectedOf sound (Refused refusal) work = IsRefusedFor (Refused refusal) work
IsExpectedOf sound (Sound k) work = work ≡ sound k

-- what is wanted of a text, which has a verdict
pub record ByVerdict (sound : Program → Expected) (text : List ℕ) (work : Expected) : Type 0 where
  pub verdict : Verdict
  pub has : IsVerdict text verdict
  pub wanted : IsExpectedOf sound verdict work
