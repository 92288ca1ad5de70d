use Rattle.std.proofs.Common.{◌≡◌, ◌/◌, ◌^◌, take}
use Rattle.guest_types.specs.Elements.{bytes_of}
use Rattle.guest_types.proofs.bytes.put_number.Given as goal

abbrev pub invariant-loop-byte : goal.invariant-loop-byte
invariant-loop-byte l = (take l.byte-index l.bytes ≡ bytes_of l.byte-index l.value) × (l.rest ≡ l.value / 256 ^ l.byte-index)
