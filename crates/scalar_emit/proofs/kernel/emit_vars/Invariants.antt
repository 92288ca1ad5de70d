use Rattle.std.proofs.Common.{◌≡◌, ◌+◌, List, ◌++◌, drop}
use Rattle.kernel_tree.specs.Plain.{accumulators_of}
use Rattle.kernel_tree.specs.Items.{vars_size}
use Rattle.kernel_tree.specs.Kinds.{VarsKinds}
use Rattle.kernel_scope.specs.Scopes.{scope_of}
use Rattle.scalar_words.specs.View.{homes_of}
use Rattle.label_fix.specs.DraftRun as plain
use Rattle.loop_code.specs.Kernel as kernels
use Rattle.scalar_words.specs.KernelRegisters as registers
use Rattle.scalar_emit.proofs.kernel.emit_vars.Given as goal

-- what is left of the accumulators leads from here to where they all lead
abbrev pub invariant-loop-var : goal.invariant-loop-var
invariant-loop-var l = record {
  place : l.place ≡ l.var-index;
  kinds : VarsKinds (accumulators_of (drop l.var-index l.vars));
  item : l.next + vars_size (scope_of l.site.scope).index (accumulators_of (drop l.var-index l.vars)) ≡ l.fn.item + vars_size (scope_of l.fn.site.scope).index (accumulators_of l.vars);
  labels : l.draft.labels + kernels.vars_labels (scope_of l.site.scope).index (accumulators_of (drop l.var-index l.vars)) ≡ l.fn.draft.labels + kernels.vars_labels (scope_of l.fn.site.scope).index (accumulators_of l.vars);
  code : (rest : List plain.DraftEntry) → l.draft.entries ++ kernels.vars_code l.site.layout (registers.register_in l.regs) (homes_of l.site.homes.items) (scope_of l.site.scope) l.place l.next l.draft.labels (accumulators_of (drop l.var-index l.vars)) rest ≡ l.fn.draft.entries ++ kernels.vars_code l.fn.site.layout (registers.register_in l.regs) (homes_of l.fn.site.homes.items) (scope_of l.fn.site.scope) 0 l.fn.item l.fn.draft.labels (accumulators_of l.vars) rest;
}
