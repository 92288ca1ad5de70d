use Rattle.std.proofs.Common.{◌≡◌, ◌<◌, ◌^◌, drop}
use Rattle.std.specs.List.{fold}
use Rattle.number_text.specs.Numbers.{appended, value_of}
use Rattle.kernel_tokens.proofs.number.value.Given as goal

abbrev pub invariant-loop-d : goal.invariant-loop-d
invariant-loop-d l = (l.n < 2 ^ 127) × (value_of l.base l.digits ≡ fold (appended l.base) l.n (drop l.d-index l.digits))
