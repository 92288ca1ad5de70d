-- Stop lists, counted on.
use Rattle.std.proofs.Common.{◌≡◌, ◌%◌, refl, ap, ◌∙◌}
use Rattle.std.proofs.Math.Nat.{mod-eq_of_lt, add-zero}
use Rattle.guest_types.specs.EarlyLoads.{Each, later}
use Rattle.lane_memory.specs.declared.suppress.Stops.{Stops}
use Rattle.lane_memory.specs.declared.suppress.Stops.TheVariants.{Never, EachOf}
use Rattle.lane_memory.specs.StopLists.{stop_list_of, IsCounted}

-- what the code keeps is counted from here
pub later_by_none : (s : Stops) → IsCounted s → later (stop_list_of s) 0 ≡ stop_list_of s
later_by_none Never h = refl
later_by_none (EachOf period seen) h = ap (Each period) (ap (λ n. n % period) (add-zero seen) ∙ mod-eq_of_lt h)
