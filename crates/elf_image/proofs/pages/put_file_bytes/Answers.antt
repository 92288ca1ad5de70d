use Rattle.std.proofs.Common.{◌-◌, arith}
use Rattle.elf_image.proofs.Laid.{file_bytes_are}
use Rattle.elf_image.proofs.pages.put_file_bytes.Goals as goal

pub returns : goal.returns
returns c =
    let from = c.args.from in
    let end = c.args.end in
    let s = c.args.segment.now in
    let low = c.requires.low (omega arith) in
    let high = c.requires.high (omega arith) in
    let are = file_bytes_are c.args.bytes.now s from (end - from) c.requires.loadable.in_file low (omega arith) in
    cc (c.in_ok-extend_from_slice.ensures.items)
