use Rattle.std.proofs.Common.{◌≡◌, Bool, true, false, refl}
use Rattle.guest_types.specs.Elements.{Flags, nzcv}
use Rattle.a64_machine.specs.Cores.{flags_in}
use Rattle.a64_machine.proofs.laws.flags_are_kept.Goals as goal

kept : (n z c v : Bool) → let flags : Flags = record { n = n; z = z; c = c; v = v } in flags_in (nzcv flags) ≡ flags
kept false false false false = refl
kept false false false true = refl
kept false false true false = refl
kept false false true true = refl
kept false true false false = refl
kept false true false true = refl
kept false true true false = refl
kept false true true true = refl
kept true false false false = refl
kept true false false true = refl
kept true false true false = refl
kept true false true true = refl
kept true true false false = refl
kept true true false true = refl
kept true true true false = refl
kept true true true true = refl

pub returns : goal.returns
returns c flags = kept flags.n flags.z flags.c flags.v
