-- The lines of refusals. Each ends with a line feed; numbers are decimal.
use Rattle.std.specs.Prelude.{ℕ, List, ◌++◌, codes, decimal}
use Rattle.kernel_tree.specs.declared.ops.Ty.{Ty}
use Rattle.kernel_tree.specs.Printing.{type_text}
use Rattle.kernel_syntax.specs.declared.fault.ReadFault.{ReadFault}
use Rattle.kernel_syntax.specs.declared.fault.ReadFault.TheVariants as reading
use Rattle.kernel_types.specs.declared.fault.TypeFault.{TypeFault}
use Rattle.kernel_types.specs.declared.fault.TypeFault.TheVariants as typing
use Rattle.kernel_front.specs.declared.fault.KernelFault.{KernelFault}
use Rattle.kernel_front.specs.declared.fault.KernelFault.TheVariants as kernels
use Rattle.machine_model.specs.declared.elf_fault.ElfFault.{ElfFault}
use Rattle.machine_model.specs.declared.elf_fault.ElfFault.TheVariants as elf
use Rattle.machine_model.specs.OutcomeText.{line_feed}
use Rattle.reg_assign.specs.declared.interval.RegClass.{RegClass}
use Rattle.reg_assign.specs.declared.interval.RegClass.TheVariants.{Z, P, X}
use Rattle.map_text.specs.declared.fault.MapFault.{MapFault}
use Rattle.map_text.specs.declared.fault.MapFault.TheVariants as maps
use Rattle.sve_asm.specs.declared.fault.AsmFault.{AsmFault}
use Rattle.sve_asm.specs.declared.fault.AsmFault.TheVariants as assembling
use Rattle.pipe_script.specs.declared.fault.PipeFault.{PipeFault}
use Rattle.pipe_script.specs.declared.fault.PipeFault.TheVariants as pipes
use Rattle.refusals.specs.declared.refusal.Refusal.{Refusal}
use Rattle.refusals.specs.declared.refusal.Refusal.TheVariants.{Usage, TooManyLive, Kernel, TooLong, Elf, Map, Asm, Pipe, Memory, File, Output}

abbrev pub line : List ℕ → List ℕ
line text = codes "svec: " ++ (text ++ line_feed)

-- a line that ends with a number
abbrev pub numbered : List ℕ → ℕ → List ℕ
numbered front n = front ++ (decimal n ++ line_feed)

-- why a text could not be read as a kernel
abbrev pub line_of_reading : ReadFault → List ℕ
line_of_reading reading.TooLong = line (codes "kernel: too long")
line_of_reading (reading.BadByte at) = numbered (codes "svec: kernel: bad byte at ") at
line_of_reading (reading.TooDeep token) = numbered (codes "svec: kernel: too deep at token ") token
line_of_reading (reading.Syntax token) = numbered (codes "svec: kernel: syntax at token ") token
line_of_reading reading.Memory = line (codes "out of memory")

-- a type that is wanted, and another that was found
abbrev pub mismatch : (item : ℕ) (want found : Ty) → List ℕ
mismatch item want found =
    codes "svec: kernel: want " ++ (type_text want ++ (codes " found " ++ (type_text found ++ numbered (codes " at item ") item)))

-- why a kernel is refused
abbrev pub line_of_typing : TypeFault → List ℕ
line_of_typing (typing.Unknown item) = numbered (codes "svec: kernel: unknown name at item ") item
line_of_typing (typing.Twice item) = numbered (codes "svec: kernel: name declared twice at item ") item
line_of_typing (typing.WrongKind item) = numbered (codes "svec: kernel: wrong kind at item ") item
line_of_typing (typing.Mismatch item want found) = mismatch item want found
line_of_typing (typing.Untyped item) = numbered (codes "svec: kernel: no type at item ") item
line_of_typing (typing.LiteralRange item) = numbered (codes "svec: kernel: literal out of range at item ") item
line_of_typing (typing.ShiftRange item) = numbered (codes "svec: kernel: shift out of range at item ") item
line_of_typing (typing.OffsetRange item) = numbered (codes "svec: kernel: offset out of range at item ") item
line_of_typing (typing.TooLarge size) = numbered (codes "svec: kernel: too large ") size
line_of_typing (typing.TooDeep depth) = numbered (codes "svec: kernel: too deep ") depth
line_of_typing typing.Memory = line (codes "out of memory")

abbrev pub line_of_kernel : KernelFault → List ℕ
line_of_kernel (kernels.Unread fault) = line_of_reading fault
line_of_kernel (kernels.Broken fault) = line_of_typing fault

-- of a kernel of which more values are live than there are registers of a class
abbrev pub line_of_need : RegClass → ℕ → List ℕ
line_of_need Z need = numbered (codes "svec: kernel: too many live z ") need
line_of_need P need = numbered (codes "svec: kernel: too many live p ") need
line_of_need X need = numbered (codes "svec: kernel: too many live x ") need

-- why a file is no program that can be loaded
abbrev pub line_of_fault : ElfFault → List ℕ
line_of_fault (elf.Short need have) = codes "svec: file: short " ++ (decimal need ++ (codes " " ++ (decimal have ++ line_feed)))
line_of_fault elf.NotElf = line (codes "file: not elf")
line_of_fault elf.NotAarch64 = line (codes "file: not aarch64")
line_of_fault elf.NotStatic = line (codes "file: not static")
line_of_fault (elf.BadSegment index) = numbered (codes "svec: file: bad segment ") index
line_of_fault elf.SegmentsClash = line (codes "file: segments clash")
line_of_fault elf.TooManyPages = line (codes "file: too many pages")
line_of_fault elf.Memory = line (codes "out of memory")

-- why a text is no page map that may stand beside a program
abbrev pub line_of_map : MapFault → List ℕ
line_of_map (maps.BadLine place) = numbered (codes "svec: map: bad line ") place
line_of_map (maps.Clash place) = numbered (codes "svec: map: clash at line ") place
line_of_map (maps.Unmapped place) = numbered (codes "svec: map: unmapped at line ") place
line_of_map maps.TooManyPages = line (codes "map: too many pages")
line_of_map maps.Memory = line (codes "out of memory")

-- why a text is none of words
abbrev pub line_of_asm : AsmFault → List ℕ
line_of_asm assembling.TooLong = line (codes "asm: too long")
line_of_asm (assembling.BadLine place) = numbered (codes "svec: asm: bad line ") place
line_of_asm (assembling.Differs place want found) = numbered (codes "svec: asm: word differs at line ") place
line_of_asm assembling.TooManyWords = line (codes "asm: too many words")
line_of_asm assembling.Memory = line (codes "out of memory")

-- why a text is no script, or why a map does not fit beside the file of a line
abbrev pub line_of_pipe : PipeFault → List ℕ
line_of_pipe pipes.TooLong = line (codes "pipe: too long")
line_of_pipe (pipes.BadLine place) = numbered (codes "svec: pipe: bad line ") place
line_of_pipe (pipes.Clash place) = numbered (codes "svec: pipe: clash at line ") place
line_of_pipe (pipes.TooManyPages place) = numbered (codes "svec: pipe: too many pages at line ") place
line_of_pipe pipes.Memory = line (codes "out of memory")

abbrev pub line_of_refusal : Refusal → List ℕ
line_of_refusal Usage = line (codes "usage")
line_of_refusal (TooManyLive class need) = line_of_need class need
line_of_refusal (Kernel fault) = line_of_kernel fault
line_of_refusal TooLong = line (codes "file: too long")
line_of_refusal (Elf fault) = line_of_fault fault
line_of_refusal (Map fault) = line_of_map fault
line_of_refusal (Asm fault) = line_of_asm fault
line_of_refusal (Pipe fault) = line_of_pipe fault
line_of_refusal Memory = line (codes "out of memory")
line_of_refusal File = line (codes "file failed")
line_of_refusal Output = line (codes "output or input failed")
