use Rattle.guest_types.proofs.AfterStores.{can_read-after, can_write-after, fetched-after, IsMemory-after}
use Rattle.guest_types.proofs.laws.stores_leave_alone.Goals as goal

pub returns-clause-read : goal.returns-clause-read
returns-clause-read c before after is = can_read-after is

pub returns-clause-write : goal.returns-clause-write
returns-clause-write c before after is = can_write-after is

pub returns-clause-code : goal.returns-clause-code
returns-clause-code c before after is = fetched-after is

pub returns-clause-memory : goal.returns-clause-memory
returns-clause-memory c before after is = IsMemory-after is
