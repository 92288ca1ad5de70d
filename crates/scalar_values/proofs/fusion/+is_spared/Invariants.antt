use Rattle.scalar_values.proofs.fusion.+is_spared.Given as goal

abbrev pub decreases-is_spared : goal.decreases-is_spared
decreases-is_spared l = l.count
