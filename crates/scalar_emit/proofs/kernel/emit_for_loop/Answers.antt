use Rattle.std.proofs.Common.{◌++◌, List, sym, ap, ◌∙◌, subst, refl, ◌≤◌}
use Rattle.std.proofs.lemmas.Result.{IfOk-from_err}
use Rattle.kernel_tree.specs.Plain.{for_loop_of, program_of}
use Rattle.kernel_tree.specs.Kinds.{ForLoopKinds}
use Rattle.kernel_tree.specs.Typing.{Scope}
use Rattle.kernel_scope.specs.Scopes.{scope_of}
use Rattle.label_fix.specs.DraftRun.{DraftEntry}
use Rattle.scalar_words.specs.Layout.{with_constants}
use Rattle.scalar_words.specs.KernelRegisters.{register_in}
use Rattle.scalar_words.proofs.Layouts.{count_params}
use Rattle.scalar_words.specs.View.{homes_of}
use Rattle.loop_code.specs.Loop.{bare}
use Rattle.loop_code.proofs.Emission.{numbers_are, for_loop_is, for_loop_count, held_is, loop_ends, loop_room, answer_room, within_loop_end}
use Rattle.guest_types.proofs.Errors.{on_error}
use Rattle.kernel_tree.proofs.Walks.{var_scope-index}
use Rattle.scalar_emit.proofs.KernelCalls.{few_given}
use Rattle.scalar_emit.proofs.kernel.emit_for_loop.Goals as goal

pub emit_loop-requires : goal.emit_loop-requires
emit_loop-requires c = record {
  kinds = subst ForLoopKinds c.requires.for_loop c.requires.kinds.for_loop;
  fits =
      loop_room (program_of c.args.kernel.now) (for_loop_of c.args.for_loop.now) (scope_of c.loosen_names.new.scope) c.args.item c.requires.few (c.in_ok-loosen_names.ensures.scope ∙ c.requires.scope) c.requires.for_loop c.requires.start;
}

pub emit_answer-requires : goal.emit_answer-requires
emit_answer-requires c = record {
  kind = c.requires.kinds.answer;
  fits =
      let k = program_of c.args.kernel.now in
      let l = for_loop_of c.args.for_loop.now in
      let scope = c.in_ok-loosen_names.ensures.scope ∙ c.requires.scope in
      let end = loop_ends k l (scope_of c.loosen_names.new.scope) c.args.item c.emit_loop.new.item scope c.requires.for_loop c.requires.start c.in_ok-at_iteration.ensures.item in
      answer_room k (scope_of c.emit_loop.new.site.scope) c.emit_loop.new.item c.requires.few (ap (λ (t : Scope). t.index) c.in_ok-at_iteration.ensures.scope ∙ var_scope-index k _ scope) (within_loop_end k c.emit_loop.new.item end);
}

pub returns-in_err-hold_numbers : goal.returns-in_err-hold_numbers
returns-in_err-hold_numbers c =
    let failed = c.from_residual.ensures.0 in
    record { entry = IfOk-from_err _ _ failed; emits = on_error _ _ failed }

pub returns-in_err-loosen_names : goal.returns-in_err-loosen_names
returns-in_err-loosen_names c =
    let failed = c.from_residual-in_err-loosen_names.ensures.0 in
    record { entry = IfOk-from_err _ _ failed; emits = on_error _ _ failed }

pub returns-in_err-at_iteration : goal.returns-in_err-at_iteration
returns-in_err-at_iteration c =
    let failed = c.from_residual-in_err-at_iteration.ensures.0 in
    record { entry = IfOk-from_err _ _ failed; emits = on_error _ _ failed }

pub returns-in_err-leave_loop : goal.returns-in_err-leave_loop
returns-in_err-leave_loop c =
    let failed = c.from_residual-in_err-leave_loop.ensures.0 in
    record { entry = IfOk-from_err _ _ failed; emits = on_error _ _ failed }

pub returns-in_err-emit_answer : goal.returns-in_err-emit_answer
returns-in_err-emit_answer c =
    let failed = c.from_residual-in_err-emit_answer.ensures.0 in
    record { entry = IfOk-from_err _ _ failed; emits = on_error _ _ failed }

pub returns : goal.returns
returns c = record {
  emits =
      let k = program_of c.args.kernel.now in
      let R = register_in c.args.regs.now in
      let l = for_loop_of c.args.for_loop.now in
      let s = scope_of c.loosen_names.new.scope in
      let t = scope_of c.emit_loop.new.site.scope in
      let scope = c.in_ok-loosen_names.ensures.scope ∙ c.requires.scope in
      let homes = c.in_ok-at_iteration.ensures.homes in
      let tree = c.args.kernel.now in
      let params = c.len-params.ensures ∙ tree.params.ok.0 ∙ sym (count_params tree.params.items) in
      let numbers = c.in_ok-hold_numbers.ensures ∙ ap (with_constants c.args.site.now.layout) (numbers_are R k l c.len-params.result (homes_of c.deref.result.now) (scope_of c.args.site.now.scope) params (ap homes_of c.deref.ensures.value ∙ c.requires.homes) c.requires.scope c.requires.for_loop) in
      let held = held_is R k c.loosen_names.new.layout c.hold_numbers.new.layout c.args.site.now.layout c.in_ok-loosen_names.ensures.layout numbers c.requires.layout in
      let left = c.in_ok-leave_loop.ensures ∙ ap bare (c.in_ok-at_iteration.ensures.layout ∙ held) in
      let end = loop_ends k l s c.args.item c.emit_loop.new.item scope c.requires.for_loop c.requires.start c.in_ok-at_iteration.ensures.item in
      record {
        labels = for_loop_count k l s t c.args.draft.now.labels c.emit_loop.new.draft.labels c.emit_answer.new.draft.labels scope c.in_ok-at_iteration.ensures.scope c.requires.for_loop c.in_ok-at_iteration.ensures.emits.labels c.in_ok-emit_answer.ensures.labels;
        code = λ rest. c.in_ok-emit_answer.ensures.code rest
            ∙ c.in_ok-at_iteration.ensures.emits.code _
            ∙ ap (λ (es : List DraftEntry). c.args.draft.now.entries ++ es)
            (for_loop_is R k c.loosen_names.new.layout c.leave_loop.new.layout (homes_of c.args.site.now.homes.items) (homes_of c.emit_loop.new.site.homes.items) s t l c.args.item c.args.draft.now.labels c.emit_loop.new.item c.emit_loop.new.draft.labels rest
            held left c.requires.homes scope homes c.in_ok-at_iteration.ensures.scope c.requires.for_loop c.requires.start end c.in_ok-at_iteration.ensures.emits.labels);
      };
  entry = c.in_ok-at_iteration.ensures.head;
}

pub hold_numbers-requires : goal.hold_numbers-requires
hold_numbers-requires c = subst (λ n. n ≤ 8) (sym (c.len-params.ensures ∙ c.args.kernel.now.params.ok.0)) (few_given (program_of c.args.kernel.now) c.args.kernel.now.params.items refl c.requires.params)

pub loosen_names-requires : goal.loosen_names-requires
loosen_names-requires c = record {
  for_loop = c.requires.for_loop;
  scope = c.requires.scope;
}
