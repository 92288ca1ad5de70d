-- What a load answers.
use Rattle.std.specs.Prelude.{◌≡◌, Result, Err}
use Rattle.guest_types.specs.declared.image.Image.{Image as GuestImage}
use Rattle.machine_model.specs.declared.elf_fault.ElfFault.{ElfFault}
use Rattle.machine_model.specs.declared.elf_fault.ElfFault.TheVariants.{Memory}
use Rattle.machine_model.specs.Load.{Image}

-- an image as plain data: its entry, both ends of its code, and its pages
abbrev pub plain : GuestImage → Image
plain image = record { entry = image.entry; code_from = image.code_from; code_end = image.code_end; pages = image.pages.items }

-- a fault is the wanted refusal, or want of memory, which alone is free
abbrev pub Refuses : Result Image ElfFault → ElfFault → Type 0
Refuses wanted Memory = Unit {0}
Refuses wanted fault = wanted ≡ Err fault
