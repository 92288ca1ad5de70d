use Rattle.std.proofs.Common.{◌≡◌, ◌+◌, map, drop}
use Rattle.kernel_scope.specs.Scopes.{local_of}
use Rattle.kernel_plan.specs.Resolve.{place}
use Rattle.kernel_plan.proofs.names.place_among.Given as goal

abbrev pub invariant-loop-i : goal.invariant-loop-i
invariant-loop-i l = l.i + place (map local_of (drop l.i l.locals)) l.text ≡ place (map local_of l.locals) l.text
