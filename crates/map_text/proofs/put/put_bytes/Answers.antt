use Rattle.std.proofs.Common.{◌≡◌, ◌+◌, ◌%◌, ◌^◌, true, drop, get_or, ap, sym, ◌∙◌, subst, arith}
use Rattle.guest_types.specs.Memory.{Memory, IsMemory, can_read}
use Rattle.guest_types.proofs.Writes.{IsMemory-put_byte}
use Rattle.map_text.specs.Mapping.{put_bytes}
use Rattle.map_text.proofs.Puts.{put_more, beside-put}
use Rattle.map_text.proofs.put.put_bytes.Goals as goal

pub returns-then-not-put_byte-clause-beside : goal.returns-then-not-put_byte-clause-beside
returns-then-not-put_byte-clause-beside c = λ image is.
    beside-put image c.loop-byte.pages c.put_byte.new.pages c.loop-byte.at (get_or c.args.bytes.now c.loop-byte.byte-index 0)
    (omega (arith, c.type_inv.bytes c.loop-byte.byte-index)) c.put_byte.ensures.put (c.loop-byte.invariant.2 image is)

pub loop-byte-preserved : goal.loop-byte-preserved
loop-byte-preserved c =
    let bytes = c.args.bytes.now in
    let i = c.loop-byte.byte-index in
    let b = get_or bytes i 0 in
    let at = c.loop-byte.at in
    let memory = c.loop-byte.pages in
    let readable : can_read memory at ≡ true = sym c.put_byte.ensures.mapped ∙ c.if-not-put_byte.false in (
      ap (λ (m : Memory). put_bytes m ((at + 1) % 2 ^ 64) (drop (i + 1) bytes)) c.put_byte.ensures.put ∙ sym (put_more memory at i bytes (omega arith) readable) ∙ c.loop-byte.invariant.0,
      subst IsMemory (sym c.put_byte.ensures.put) (IsMemory-put_byte memory at b c.loop-byte.invariant.1 (omega (arith, c.type_inv.bytes i))),
      λ image is. beside-put image memory c.put_byte.new.pages at b (omega (arith, c.type_inv.bytes i)) c.put_byte.ensures.put (c.loop-byte.invariant.2 image is),
    )
