use Rattle.std.proofs.Common.{◌≡◌, ◌-◌, ◌^◌, ◌<◌, drop}
use Rattle.guest_types.specs.Elements.{number_of_bytes}
use Rattle.guest_types.proofs.bytes.number.Given as goal

abbrev pub invariant-loop-i : goal.invariant-loop-i
invariant-loop-i l = (l.value ≡ number_of_bytes (drop (l.k - l.i) l.bytes)) × (l.value < 256 ^ l.i)
