-- The kernel of a sweep and its file are refused for want of memory alone.
use Rattle.std.proofs.Common.{◌≡◌, ℕ, List, Ok, Some, Result, refl, ap, subst, ◌∙◌}
use Rattle.kernel_tree.specs.Plain.{Program}
use Rattle.kernel_syntax.specs.declared.fault.ReadFault.{ReadFault}
use Rattle.kernel_syntax.specs.declared.fault.ReadFault.TheVariants as reading
use Rattle.kernel_types.specs.declared.fault.TypeFault.{TypeFault}
use Rattle.kernel_types.specs.declared.fault.TypeFault.TheVariants as typing
use Rattle.kernel_front.specs.declared.fault.KernelFault.{KernelFault}
use Rattle.kernel_front.specs.declared.fault.KernelFault.TheVariants.{Unread, Broken}
use Rattle.kernel_front.specs.Verdict.{Verdict, Sound, IsVerdict, Explains}
use Rattle.kernel_front.proofs.OneVerdict.{one_verdict}
use Rattle.reg_assign.specs.declared.interval.RegClass.{RegClass}
use Rattle.promises.specs.declared.fault.CompileFault.{CompileFault}
use Rattle.promises.specs.declared.fault.CompileFault.TheVariants.{TooManyLive}
use Rattle.promises.specs.Refusals.{too_many, IsRefusal}
use Rattle.machine_model.specs.declared.elf_fault.ElfFault.{ElfFault}
use Rattle.machine_model.specs.declared.elf_fault.ElfFault.TheVariants as loading
use Rattle.machine_model.specs.Load.{Image, load}
use Rattle.machine_model.specs.Written.{image_of_words}
use Rattle.machine_model.proofs.WrittenLoads.{load-file_of}
use Rattle.elf_image.specs.Loaded.{Refuses}
use Rattle.sweep_kernel.specs.KernelText.{kernel_text}
use Rattle.sweep_kernel.specs.Tree.{kernel_of}
use Rattle.sweep_kernel.specs.Accepted.{AllAccepted}
use Rattle.sweep_run.specs.SweepText.{IsSweepFile}

-- ---- reading and checking

unread_of : (k : Program) (cause : ReadFault) → Explains (Sound k) (Unread cause) → cause ≡ reading.Memory
unread_of k reading.Memory h = refl
unread_of k other h = absurd cc

broken_of : (k : Program) (cause : TypeFault) → Explains (Sound k) (Broken cause) → cause ≡ typing.Memory
broken_of k typing.Memory h = refl
broken_of k other h = absurd (let e = h.1 in cc)

-- what a fault explains of each verdict
abbrev ExplainsAll : ℕ → KernelFault → Type 0
ExplainsAll number fault = (v : Verdict) → IsVerdict (kernel_text number) v → Explains v fault

pub unread : AllAccepted → (number : ℕ) (fault : KernelFault) (cause : ReadFault) → ExplainsAll number fault → fault ≡ Unread cause → cause ≡ reading.Memory
unread all number fault cause h e =
    unread_of (kernel_of number) cause (subst (Explains (Sound (kernel_of number))) e (h (Sound (kernel_of number)) (all number).sound))

pub broken : AllAccepted → (number : ℕ) (fault : KernelFault) (cause : TypeFault) → ExplainsAll number fault → fault ≡ Broken cause → cause ≡ typing.Memory
broken all number fault cause h e =
    broken_of (kernel_of number) cause (subst (Explains (Sound (kernel_of number))) e (h (Sound (kernel_of number)) (all number).sound))

-- a kernel that the text was accepted as is the kernel of the number
same_kernel : (j k : Program) → Sound j ≡ Sound k → j ≡ k
same_kernel j k e = cc

pub accepted : AllAccepted → (number : ℕ) (k : Program) → IsVerdict (kernel_text number) (Sound k) → k ≡ kernel_of number
accepted all number k h =
    same_kernel k (kernel_of number) (one_verdict (kernel_text number) (Sound k) (Sound (kernel_of number)) h (all number).sound)

-- ---- compiling

pub enough : AllAccepted → (number : ℕ) (fault : CompileFault) (class : RegClass) (need : ℕ) → IsRefusal (kernel_of number) fault → fault ≡ TooManyLive class need → ⊥
enough all number fault class need h e =
    let r = subst (IsRefusal (kernel_of number)) e h in
    let some : too_many (kernel_of number) ≡ Some class = r.0 in
    let none = (all number).enough in
    absurd cc

-- ---- loading

pub loads : (number : ℕ) (file : List ℕ) → (f : IsSweepFile number file) → load file ≡ Ok (image_of_words f.words)
loads number file f = ap load f.file_is ∙ load-file_of f.words f.few

loaded_of : (i : Image) (fault : ElfFault) → Refuses (Ok i) fault → fault ≡ loading.Memory
loaded_of i loading.Memory h = refl
loaded_of i other h = absurd cc

pub loaded : (number : ℕ) (file : List ℕ) (fault : ElfFault) → IsSweepFile number file → Refuses (load file) fault → fault ≡ loading.Memory
loaded number file fault f h =
    loaded_of (image_of_words f.words) fault (subst (λ (r : Result Image ElfFault). Refuses r fault) (loads number file f) h)
