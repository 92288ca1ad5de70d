-- The stop list of a run, as the code keeps it.
use Rattle.std.specs.Prelude.{◌<◌}
use Rattle.guest_types.specs.EarlyLoads.{StopList, Each, never}
use Rattle.lane_memory.specs.declared.suppress.Stops.{Stops}
use Rattle.lane_memory.specs.declared.suppress.Stops.TheVariants.{Never, EachOf}

abbrev pub stop_list_of : Stops → StopList
stop_list_of Never = never
stop_list_of (EachOf period seen) = Each period seen

-- the elements seen are counted modulo the period
abbrev pub IsCounted : Stops → Type 0
IsCounted Never = Unit {0}
IsCounted (EachOf period seen) = seen < period
