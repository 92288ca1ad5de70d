use Rattle.std.proofs.Common.{◌≡◌, ◌+◌, ◌++◌, drop}
use Rattle.std.specs.Prelude.{length}
use Rattle.kernel_tree.specs.Plain.{parameters_of}
use Rattle.loop_form.specs.Entries.{params_entries}
use Rattle.loop_form.specs.View.{program, entries_view}
use Rattle.loop_lists.proofs.entry_list.list_params.Given as goal

abbrev pub invariant-loop-param : goal.invariant-loop-param
invariant-loop-param l = record {
  item : l.item ≡ l._param-index;
  len : length l.entries.items ≡ length l.fn.entries.items + l.item;
  items : entries_view l.entries.items ++ params_entries (program l.fn.kernel) l.item (parameters_of (drop l._param-index l.params)) ≡ entries_view l.fn.entries.items ++ params_entries (program l.fn.kernel) 0 (parameters_of l.params);
}
