use Rattle.std.proofs.Common.{◌≡◌, ◌*◌, ◌≤◌, length}
use Rattle.sve_debug.specs.Replies.{bytes_text}
use Rattle.sve_debug.proofs.digits.hex_bytes.Given as goal

abbrev pub invariant-loop-j : goal.invariant-loop-j
invariant-loop-j l = record {
  text : l.text.items ≡ bytes_text l.j l.bytes;
  room : length l.text.items ≤ 2 * l.j;
}
