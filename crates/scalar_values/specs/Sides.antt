-- What contracts see of a right side.
use Rattle.scalar_values.specs.declared.side.Side.{Side}
use Rattle.scalar_values.specs.declared.side.Side.TheVariants as side
use Rattle.value_code.specs.ItemWords as plain

abbrev pub side_view : Side → plain.Side
side_view (side.Number v) = plain.Number v
side_view (side.Register r) = plain.Register r.number
side_view (side.Product p q) = plain.Product p.number q.number
side_view (side.Moved left signed count register) = plain.Moved (plain.shift_kind left signed) count.number register.number
