use Rattle.std.proofs.Common.{◌≡◌, List, length, None, sym, subst}
use Rattle.machine_model.specs.Load.{Segment, first_bad}
use Rattle.elf_image.specs.Loadable.{AllLoadable}
use Rattle.elf_image.proofs.Tables.{loadable_from_none}
use Rattle.elf_image.proofs.segments.loaded_segments.Goals as goal

pub returns-clause-loadable : goal.returns-clause-loadable
returns-clause-loadable c =
    let segments = c.in_ok-segments.segments.items in
    let size = length c.args.bytes.now in
    let none : first_bad size 0 segments ≡ None = cc in
    let P : List Segment → Type 0 = AllLoadable size in
    subst P (sym c.only_loaded-loaded.ensures) (loadable_from_none size 0 segments none)
