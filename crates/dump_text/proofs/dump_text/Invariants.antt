use Rattle.std.proofs.Common.{◌≡◌, flat_map}
use Rattle.std.specs.List.{range_with_len}
use Rattle.machine_model.specs.DumpText.{line_of_dump}
use Rattle.dump_text.proofs.dump_text.Given as goal

abbrev pub invariant-loop-k : goal.invariant-loop-k
invariant-loop-k l = l.text.items ≡ flat_map (line_of_dump l.pages.memory l.address l.len) (range_with_len 0 l.k)
