use Rattle.guest_types.proofs.EarlyLoads.{later-later, stop_at-later, suppressed-add}
use Rattle.guest_types.proofs.laws.stop_lists_go_on.Goals as goal

pub returns-clause-lists : goal.returns-clause-lists
returns-clause-lists c = later-later

pub returns-clause-stops : goal.returns-clause-stops
returns-clause-stops c = stop_at-later

pub returns-clause-elements : goal.returns-clause-elements
returns-clause-elements c = suppressed-add
