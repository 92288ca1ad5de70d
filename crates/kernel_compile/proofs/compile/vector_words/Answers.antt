use Rattle.std.proofs.Common.{◌≤◌, ◌+◌, ◌*◌, length, ap, sym, ◌∙◌, subst}
use Rattle.std.proofs.lemmas.Result.{IfOk-from_err}
use Rattle.kernel_tree.specs.Items.{size_of}
use Rattle.loop_form.specs.Entries.{loop_entries}
use Rattle.loop_form.specs.Registers.{FitsKernel}
use Rattle.reg_assign.specs.declared.interval.RegClass.TheVariants.{Z, P, X}
use Rattle.promises.specs.declared.fault.CompileFault.TheVariants.{Memory}
use Rattle.promises.specs.Refusals.{IsRefusal}
use Rattle.guest_types.proofs.Errors.{on_error}
use Rattle.kernel_compile.proofs.Tried.{on_fault}
use Rattle.kernel_tree.specs.declared.checked.Checked.{Checked}
use Rattle.loop_form.specs.View.{program, entries_view}
use Rattle.machine_model.specs.Written.{file_of}
use Rattle.dependence.specs.Classes.{class_of}
use Rattle.promises.specs.Faithful.{FreeEnds, CloseFaithful}
use Rattle.kernel_compile.specs.Drafted.{AreDrafted, FollowsClosely}
use Rattle.kernel_compile.specs.Words.{close_words}
use Rattle.kernel_compile.proofs.compile.vector_words.Goals as goal

pub emit_vector_code-requires : goal.emit_vector_code-requires
emit_vector_code-requires c = record {
  items = ap entries_view c.deref.ensures.0 ∙ c.requires.items.1 ∙ ap (λ (kernel : Checked). loop_entries (program kernel)) (sym c.in_ok-facts.ensures);
  class = ap (λ (kernel : Checked). class_of (program kernel)) c.in_ok-facts.ensures ∙ c.requires.class;
  vectors = subst (λ (kernel : Checked). FitsKernel (program kernel) Z c.in_ok-regs.regs.z) (sym c.in_ok-facts.ensures) c.in_ok-regs.ensures.vectors;
  predicates = subst (λ (kernel : Checked). FitsKernel (program kernel) P c.in_ok-regs.regs.p) (sym c.in_ok-facts.ensures) c.in_ok-regs.ensures.predicates;
  scalars = subst (λ (kernel : Checked). FitsKernel (program kernel) X c.in_ok-regs.regs.x) (sym c.in_ok-facts.ensures) c.in_ok-regs.ensures.scalars;
}

pub returns-in_err-regs : goal.returns-in_err-regs
returns-in_err-regs c =
    let failed = c.from_residual.ensures.0 in
    record {
      close = IfOk-from_err _ _ failed;
      ends = IfOk-from_err _ _ failed;
      short = IfOk-from_err _ _ failed;
      counted = IfOk-from_err _ _ failed;
      reserved = IfOk-from_err _ _ failed;
      one_exit = IfOk-from_err _ _ failed;
      drafted = IfOk-from_err _ _ failed;
      enough = on_error _ _ failed;
      refusal = on_fault (IsRefusal (program c.args.kernel.now)) (c.in_err-regs.field-0.0) _ c.from_residual.ensures.1 c.in_err-regs.ensures.refusal;
    }

pub returns-in_err-facts : goal.returns-in_err-facts
returns-in_err-facts c =
    let failed = c.from_residual-in_err-facts.ensures.0 in
    record {
      close = IfOk-from_err _ _ failed;
      ends = IfOk-from_err _ _ failed;
      short = IfOk-from_err _ _ failed;
      counted = IfOk-from_err _ _ failed;
      reserved = IfOk-from_err _ _ failed;
      one_exit = IfOk-from_err _ _ failed;
      drafted = IfOk-from_err _ _ failed;
      enough = on_error _ _ failed;
      refusal = on_fault (IsRefusal (program c.args.kernel.now)) (Memory) _ c.from_residual-in_err-facts.ensures.1 tt;
    }

pub returns-in_err-words : goal.returns-in_err-words
returns-in_err-words c =
    let failed = c.from_residual-in_err-words.ensures.0 in
    record {
      close = IfOk-from_err _ _ failed;
      ends = IfOk-from_err _ _ failed;
      short = IfOk-from_err _ _ failed;
      counted = IfOk-from_err _ _ failed;
      reserved = IfOk-from_err _ _ failed;
      one_exit = IfOk-from_err _ _ failed;
      drafted = IfOk-from_err _ _ failed;
      enough = on_error _ _ failed;
      refusal = on_fault (IsRefusal (program c.args.kernel.now)) (Memory) _ c.from_residual-in_err-words.ensures.1 tt;
    }

pub returns : goal.returns
returns c = record {
  close = subst (λ (kernel : Checked). CloseFaithful (program kernel) (file_of c.in_ok-words.words.items)) c.in_ok-facts.ensures c.in_ok-words.ensures.close;
  ends = subst (λ (kernel : Checked). FreeEnds (program kernel) (file_of c.in_ok-words.words.items)) c.in_ok-facts.ensures c.in_ok-words.ensures.ends;
  short = subst (λ (kernel : Checked). length c.in_ok-words.words.items ≤ 1000 + 60 * size_of (program kernel)) c.in_ok-facts.ensures c.in_ok-words.ensures.short;
  counted = subst (λ (kernel : Checked). length c.in_ok-words.words.items ≤ close_words (program kernel)) c.in_ok-facts.ensures c.in_ok-words.ensures.counted;
  reserved = c.in_ok-words.ensures.reserved;
  one_exit = c.in_ok-words.ensures.one_exit;
  drafted = subst (λ (kernel : Checked). AreDrafted (FollowsClosely (program kernel)) c.in_ok-words.words.items) c.in_ok-facts.ensures c.in_ok-words.ensures.drafted;
  enough = c.in_ok-regs.ensures.enough;
  refusal = tt;
}
