use Rattle.std.proofs.Common.{◌≡◌, ℕ, ◌<◌, false, length, flat_map, ap, ◌∙◌, arith, rules}
use Rattle.std.specs.Prelude.{slice_index}
use Rattle.machine_model.specs.Load.{pages_of}
use Rattle.elf_image.proofs.Ordering.{clash_from_meets, all_in_order}
use Rattle.elf_image.proofs.Memories.{is_memory, image_is}
use Rattle.elf_image.proofs.load.laid.Goals as goal

pub pages_of_all-requires : goal.pages_of_all-requires
pages_of_all-requires c = all_in_order (length c.args.bytes.now) c.args.loaded.now _ c.requires.loadable c.requires.order

pub invariant_of-result : goal.invariant_of-result
invariant_of-result c =
    let bytes = c.args.bytes.now in
    let segments = c.args.segments.now in
    let all = all_in_order (length bytes) c.args.loaded.now segments c.requires.loadable c.requires.order in
    let is : c.in_ok-pages.pages.items ≡ flat_map (pages_of bytes) segments = search rules in
    let small : (i : ℕ) → slice_index bytes i < 256 = λ i. omega (arith, c.type_inv.bytes i) in
    record { in_order = is_memory (length bytes) bytes segments _ small all c.requires.apart is }

pub returns-clause-image : goal.returns-clause-image
returns-clause-image c =
    let bytes = c.args.bytes.now in
    let loaded = c.args.loaded.now in
    let segments = c.args.segments.now in
    let apart = clash_from_meets (length bytes) loaded segments false c.requires.loadable c.requires.order c.requires.apart in
    let is : c.in_ok-pages.pages.items ≡ flat_map (pages_of bytes) segments = search rules in
    image_is bytes c.args.entry loaded _ _ _ apart c.code_end-code_end.ensures c.code_from.ensures (is ∙ ap (flat_map (pages_of bytes)) c.requires.order)
