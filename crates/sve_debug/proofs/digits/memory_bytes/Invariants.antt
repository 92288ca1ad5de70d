use Rattle.std.proofs.Common.{◌≡◌, ◌*◌, ◌≤◌, length, flat_map}
use Rattle.std.specs.List.{range_with_len}
use Rattle.machine_model.specs.DumpText.{byte_text}
use Rattle.sve_debug.proofs.digits.memory_bytes.Given as goal

abbrev pub invariant-loop-k : goal.invariant-loop-k
invariant-loop-k g l = record {
  text : l.text.items ≡ flat_map (byte_text (g.D.Debuggee.view_of l.machine).state.memory) (range_with_len l.address l.k);
  room : length l.text.items ≤ 3 * l.k;
}
