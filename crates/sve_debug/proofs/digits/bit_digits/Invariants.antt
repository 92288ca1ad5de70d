use Rattle.std.proofs.Common.{◌≡◌, ◌≤◌, length}
use Rattle.sve_debug.specs.Replies.{bits_text}
use Rattle.sve_debug.proofs.digits.bit_digits.Given as goal

abbrev pub invariant-loop-j : goal.invariant-loop-j
invariant-loop-j l = record {
  text : l.text.items ≡ bits_text l.j l.register.bits;
  room : length l.text.items ≤ l.j;
}
