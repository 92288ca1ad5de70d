use Rattle.std.proofs.Common.{◌≡◌, ◌-◌, ◌++◌}
use Rattle.machine_model.specs.Load.{pages_from}
use Rattle.elf_image.proofs.pages.put_pages.Given as goal

abbrev pub invariant-loop-number : goal.invariant-loop-number
invariant-loop-number l =
    l.pages.items ≡ l.initial.pages.items ++ pages_from l.bytes l.segment l.first (l.number - l.first)
