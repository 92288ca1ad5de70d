use Rattle.std.proofs.Common.{◌≡◌, ◌++◌, flat_map}
use Rattle.std.specs.List.{range_with_len}
use Rattle.machine_model.specs.DumpText.{byte_text}
use Rattle.dump_text.proofs.push_bytes.Given as goal

abbrev pub invariant-loop-k : goal.invariant-loop-k
invariant-loop-k l = l.text.items ≡ l.initial.text.items ++ flat_map (byte_text l.pages.memory) (range_with_len l.address l.k)
