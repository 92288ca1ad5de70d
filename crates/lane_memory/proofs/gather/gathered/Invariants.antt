use Rattle.std.proofs.Common.{◌≡◌, ◌<◌, ℕ, false}
use Rattle.guest_types.specs.declared.length.Width.TheVariants.{D}
use Rattle.guest_types.specs.Length.{width_bytes}
use Rattle.guest_types.specs.Elements.{register}
use Rattle.lane_memory.specs.Gathers.{gathered_of, gather_refused}
use Rattle.lane_memory.proofs.gather.gathered.Given as goal

abbrev pub invariant-loop-e : goal.invariant-loop-e
invariant-loop-e l = (l.out.bytes ≡ register (width_bytes D) (gathered_of l.reading l.pages.memory l.offsets.bytes l.pg.bits) l.e) × ((j : ℕ) → j < l.e → gather_refused l.reading l.pages.memory l.offsets.bytes l.pg.bits j ≡ false)
