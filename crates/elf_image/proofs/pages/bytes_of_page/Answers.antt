use Rattle.std.proofs.Common.{◌≡◌, ◌+◌, ◌-◌, ◌*◌, ◌++◌, length, replicate, ap, ◌∙◌, arith}
use Rattle.machine_model.specs.Load.{segment_byte}
use Rattle.elf_image.proofs.Laid.{page_filled_between, length_filled, page_bytes_are}
use Rattle.elf_image.proofs.pages.bytes_of_page.Goals as goal

pub put_zeros-requires-2 : goal.put_zeros-requires-2
put_zeros-requires-2 c =
    let f = segment_byte c.args.bytes.now c.args.segment.now in
    let start = 4096 * c.args.number in
    let from = c.clamp-from.result in
    let end = c.clamp-end.result in
    let e = page_filled_between f _ _ _ start from end c.in_ok-page.ensures.items c.in_ok-put_zeros.ensures c.in_ok-put_file_bytes.ensures in
    let size = length_filled f _ start from end (omega arith) (omega arith) e in
    omega arith

pub returns : goal.returns
returns c =
    let bytes = c.args.bytes.now in
    let s = c.args.segment.now in
    let f = segment_byte bytes s in
    let start = 4096 * c.args.number in
    let from = c.clamp-from.result in
    let end = c.clamp-end.result in
    let second = c.put_file_bytes.new.page.items in
    let e = page_filled_between f _ _ second start from end c.in_ok-page.ensures.items c.in_ok-put_zeros.ensures c.in_ok-put_file_bytes.ensures in
    let size = length_filled f second start from end (omega arith) (omega arith) e in
    let count : 4096 - length second ≡ start + 4096 - end = omega arith in
    c.in_ok-put_zeros-2.ensures
    ∙ ap (λ k. second ++ replicate k 0) count
    ∙ ap (λ r. r ++ replicate (start + 4096 - end) 0) e
    ∙ page_bytes_are bytes s c.args.number from end (omega arith) (omega arith) (omega arith) (λ h. omega arith) (λ h. omega arith)
