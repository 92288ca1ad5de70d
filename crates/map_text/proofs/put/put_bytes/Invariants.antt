use Rattle.std.proofs.Common.{◌≡◌, drop}
use Rattle.guest_types.specs.Memory.{Memory, IsMemory}
use Rattle.map_text.specs.Mapping.{put_bytes}
use Rattle.map_text.specs.View.{IsBeside}
use Rattle.map_text.proofs.put.put_bytes.Given as goal

abbrev pub invariant-loop-byte : goal.invariant-loop-byte
invariant-loop-byte l =
    (put_bytes l.pages l.at (drop l.byte-index l.bytes) ≡ put_bytes l.initial.pages l.address l.bytes)
    × IsMemory l.pages
    × ((image : Memory) → IsBeside image l.initial.pages → IsBeside image l.pages)
