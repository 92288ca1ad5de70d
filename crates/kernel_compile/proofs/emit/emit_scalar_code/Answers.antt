use Rattle.std.proofs.Common.{◌∙◌, ◌<◌, ◌^◌, All, length, sym, ap, subst, arith}
use Rattle.loop_form.specs.View.{program}
use Rattle.label_fix.specs.Finished.{size}
use Rattle.label_fix.proofs.PlacedRuns.{words_length}
use Rattle.scalar_words.specs.KernelRegisters.{register_in}
use Rattle.promises.specs.OneExit.{HasOneExit}
use Rattle.promises.specs.Reserved.{LeavesReserved}
use Rattle.kernel_compile.proofs.CountedWords.{scalar_size}
use Rattle.kernel_compile.proofs.ScalarFaithful.{emitted, compiled, followed}
use Rattle.kernel_compile.proofs.ReservedWords.{iterations_alone}
use Rattle.kernel_compile.proofs.emit.emit_scalar_code.Goals as goal

-- the listing that is handed on
pub emit_begin-requires-clause-listed : goal.emit_begin-requires-clause-listed
unfolding program
emit_begin-requires-clause-listed c = c.deref.ensures.value ∙ c.in_ok-items.ensures

pub emit_scalar-requires-clause-listed : goal.emit_scalar-requires-clause-listed
unfolding program
emit_scalar-requires-clause-listed c = c.deref-2.ensures.value ∙ c.in_ok-items.ensures

pub finish-requires : goal.finish-requires
finish-requires c =
    let none = ap size c.new-draft.ensures.entries in
    record { few = omega (arith, none, c.in_ok-emit_begin.ensures.words, c.in_ok-emit_scalar.ensures.words, c.few_items.ensures.size) }

pub returns-clause-short : goal.returns-clause-short
returns-clause-short c =
    let none = ap size c.new-draft.ensures.entries in
    let n = ap length c.in_ok-words.ensures.words in
    omega (arith, none, n, c.in_ok-emit_begin.ensures.words, c.in_ok-emit_scalar.ensures.words, words_length c.emit_scalar.new.draft.entries)

pub returns-clause-counted : goal.returns-clause-counted
returns-clause-counted c =
    let k = program c.args.kernel.now in
    let R = register_in c.args.regs.now in
    let e = emitted R k _ _ _ _ _ c.new-draft.ensures.entries c.new-draft.ensures.labels c.in_ok-emit_begin.ensures.emits.labels c.in_ok-emit_begin.ensures.emits.code c.in_ok-emit_scalar.ensures.emits.code in
    let same = ap size e.begun_by in
    let few = scalar_size R k c.emit_begin.new.draft.labels in
    let n = ap length c.in_ok-words.ensures.words in
    omega (arith, same, few, n, words_length c.emit_scalar.new.draft.entries)

pub returns-clause-faithful : goal.returns-clause-faithful
returns-clause-faithful c =
    let k = program c.args.kernel.now in
    let R = register_in c.args.regs.now in
    let e = emitted R k _ _ _ _ _ c.new-draft.ensures.entries c.new-draft.ensures.labels c.in_ok-emit_begin.ensures.emits.labels c.in_ok-emit_begin.ensures.emits.code c.in_ok-emit_scalar.ensures.emits.code in
    let none = ap size c.new-draft.ensures.entries in
    let small : All (λ w. w < 2 ^ 32) c.in_ok-words.words.items = subst (λ ws. All (λ w. w < 2 ^ 32) ws) c.deref-3.ensures.value c.have_32_bits.ensures in
    compiled R k c.requires.class c.begin_runs.ensures c.scalar_runs.ensures c.emit_scalar.new.draft.labels _ c.emit_scalar.new.draft.entries _ c.in_ok-words.words.items e.following e.begun_by e.placed c.in_ok-words.ensures.fit
    (omega (arith, none, c.in_ok-emit_begin.ensures.words, c.in_ok-emit_scalar.ensures.words, c.few_items.ensures.size)) c.in_ok-words.ensures.words small

pub returns-clause-reserved : goal.returns-clause-reserved
returns-clause-reserved c =
    let alone = iterations_alone (register_in c.args.regs.now) (program c.args.kernel.now) c.new-draft.result.labels c.emit_begin.new.draft.labels c.new-draft.result.entries c.emit_begin.new.draft.entries c.emit_scalar.new.draft.entries c.new-draft.ensures.entries c.in_ok-emit_begin.ensures.emits.code c.in_ok-emit_scalar.ensures.emits.code (c.scalar_code_leaves.ensures.begin c.new-draft.result.labels) (c.scalar_code_leaves.ensures.scalar c.emit_begin.new.draft.labels) in
    subst (λ ws. All LeavesReserved ws) (sym c.in_ok-words.ensures.words) (c.words_leave.ensures c.emit_scalar.new.draft.labels 1 c.emit_scalar.new.draft.entries c.in_ok-words.ensures.fit alone)

pub returns-clause-one_exit : goal.returns-clause-one_exit
returns-clause-one_exit c =
    let alone = iterations_alone (register_in c.args.regs.now) (program c.args.kernel.now) c.new-draft.result.labels c.emit_begin.new.draft.labels c.new-draft.result.entries c.emit_begin.new.draft.entries c.emit_scalar.new.draft.entries c.new-draft.ensures.entries c.in_ok-emit_begin.ensures.emits.code c.in_ok-emit_scalar.ensures.emits.code (c.scalar_code_leaves.ensures.begin c.new-draft.result.labels) (c.scalar_code_leaves.ensures.scalar c.emit_begin.new.draft.labels) in
    subst HasOneExit (sym c.in_ok-words.ensures.words) (c.words_exit.ensures c.emit_scalar.new.draft.labels c.emit_scalar.new.draft.entries c.in_ok-words.ensures.fit alone)

pub returns-clause-drafted : goal.returns-clause-drafted
returns-clause-drafted c =
    let k = program c.args.kernel.now in
    let R = register_in c.args.regs.now in
    let e = emitted R k _ _ _ _ _ c.new-draft.ensures.entries c.new-draft.ensures.labels c.in_ok-emit_begin.ensures.emits.labels c.in_ok-emit_begin.ensures.emits.code c.in_ok-emit_scalar.ensures.emits.code in
    let none = ap size c.new-draft.ensures.entries in
    record {
      entries = c.emit_scalar.new.draft.entries;
      labels = c.emit_scalar.new.draft.labels;
      is = c.in_ok-words.ensures.words;
      fit = c.in_ok-words.ensures.fit;
      few = omega (arith, none, c.in_ok-emit_begin.ensures.words, c.in_ok-emit_scalar.ensures.words, c.few_items.ensures.size);
      alone = iterations_alone (register_in c.args.regs.now) (program c.args.kernel.now) c.new-draft.result.labels c.emit_begin.new.draft.labels c.new-draft.result.entries c.emit_begin.new.draft.entries c.emit_scalar.new.draft.entries c.new-draft.ensures.entries c.in_ok-emit_begin.ensures.emits.code c.in_ok-emit_scalar.ensures.emits.code (c.scalar_code_leaves.ensures.begin c.new-draft.result.labels) (c.scalar_code_leaves.ensures.scalar c.emit_begin.new.draft.labels);
      holds = followed R k c.requires.class c.begin_runs.ensures c.scalar_runs.ensures _ c.emit_scalar.new.draft.entries _ e.following e.begun_by e.placed;
    }
