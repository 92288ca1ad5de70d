use Rattle.std.proofs.Common.{List, ◌++◌, ap, sym, ◌∙◌, arith, append-nil}
use Rattle.std.proofs.lemmas.List.{drop_all}
use Rattle.kernel_tree.specs.declared.ast.Param.{Param}
use Rattle.kernel_tree.specs.Plain.{parameters_of}
use Rattle.kernel_tree.proofs.Walks.{next_item, listed_one_on}
use Rattle.loop_form.specs.Entries.{params_entries}
use Rattle.loop_form.specs.View.{program, entries_view}
use Rattle.loop_lists.proofs.entry_list.list_params.Goals as goal

pub loop-param-preserved : goal.loop-param-preserved
loop-param-preserved c =
    let l = c.loop-param in
    let k = program c.args.kernel.now in
    let inv = l.invariant in
    record {
      item = omega (arith, inv.item);
      len = omega (arith, inv.len, c.put.ensures.len);
      items = listed_one_on (entries_view l.entries.items) (entries_view c.put.new.entries.items) _ _ _ _ c.put.ensures.items
          (ap (λ (ps : List Param). params_entries k l.item (parameters_of ps)) (next_item c.args.params.now l._param-index c._param-item.result c.loop-param-test.true c._param-item.is)) inv.items;
    }

pub returns : goal.returns
returns c =
    let l = c.loop-param in
    let k = program c.args.kernel.now in
    let ps = c.args.params.now in
    let es = entries_view l.entries.items in
    record {
      items = sym (ap (λ (qs : List Param). es ++ params_entries k l.item (parameters_of qs)) (drop_all l._param-index ps c.loop-param-test.false) ∙ append-nil es) ∙ l.invariant.items;
      len = omega (arith, l.invariant.item, l.invariant.len, c.loop-param-test.false, l.auto._param-index-end);
    }
