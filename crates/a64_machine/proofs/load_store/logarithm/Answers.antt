use Rattle.std.proofs.Common.{sym, ap, lit≤}
use Rattle.a64_machine.specs.Accesses.{logarithm}
use Rattle.a64_machine.proofs.load_store.logarithm.Goals as goal

pub returns-in-Ldrh : goal.returns-in-Ldrh
returns-in-Ldrh c = record { value = ap logarithm (sym c.in-Ldrh.is); small = lit≤ tt }

pub returns-in-LdrW : goal.returns-in-LdrW
returns-in-LdrW c = record { value = ap logarithm (sym c.in-LdrW.is); small = lit≤ tt }

pub returns-in-LdrX : goal.returns-in-LdrX
returns-in-LdrX c = record { value = ap logarithm (sym c.in-LdrX.is); small = lit≤ tt }

pub returns-in-Ldrsh : goal.returns-in-Ldrsh
returns-in-Ldrsh c = record { value = ap logarithm (sym c.in-Ldrsh.is); small = lit≤ tt }

pub returns-in-Ldrsw : goal.returns-in-Ldrsw
returns-in-Ldrsw c = record { value = ap logarithm (sym c.in-Ldrsw.is); small = lit≤ tt }

pub returns-in-Strh : goal.returns-in-Strh
returns-in-Strh c = record { value = ap logarithm (sym c.in-Strh.is); small = lit≤ tt }

pub returns-in-StrW : goal.returns-in-StrW
returns-in-StrW c = record { value = ap logarithm (sym c.in-StrW.is); small = lit≤ tt }

pub returns-in-StrX : goal.returns-in-StrX
returns-in-StrX c = record { value = ap logarithm (sym c.in-StrX.is); small = lit≤ tt }
