use Rattle.std.proofs.Common.{◌++◌, List, Option, ap, ◌∙◌}
use Rattle.std.proofs.lemmas.Result.{IfOk-from_err}
use Rattle.std.specs.Prelude.{option_map}
use Rattle.kernel_tree.specs.declared.ast.Loop.{Loop}
use Rattle.kernel_tree.specs.Plain.{for_loop_of, program_of}
use Rattle.kernel_scope.specs.Scopes.{scope_of}
use Rattle.label_fix.specs.DraftRun.{DraftEntry}
use Rattle.scalar_words.specs.KernelRegisters.{register_in}
use Rattle.scalar_words.specs.View.{homes_of}
use Rattle.loop_code.proofs.Emission.{bare_code, bare_count, answer_room, at_start}
use Rattle.guest_types.proofs.Errors.{on_error}
use Rattle.scalar_emit.proofs.kernel.emit_rest.Goals as goal

pub emit_answer-requires : goal.emit_answer-requires
emit_answer-requires c = record {
  kind = c.requires.kinds.answer;
  fits =
      let k = program_of c.args.kernel.now in
      answer_room k (scope_of c.declare_names.new.scope) c.args.item c.requires.few c.in_ok-declare_names.ensures.index (at_start k c.args.item c.requires.start);
}

pub returns-in_err-declare_names : goal.returns-in_err-declare_names
returns-in_err-declare_names c =
    let failed = c.from_residual.ensures.0 in
    record { entry = IfOk-from_err _ _ failed; emits = on_error _ _ failed }

pub returns-in_err-at_iteration-in-None : goal.returns-in_err-at_iteration-in-None
returns-in_err-at_iteration-in-None c =
    let failed = c.from_residual-in_err-at_iteration-in-None.ensures.0 in
    record { entry = IfOk-from_err _ _ failed; emits = on_error _ _ failed }

pub returns-in_err-emit_answer-in-None : goal.returns-in_err-emit_answer-in-None
returns-in_err-emit_answer-in-None c =
    let failed = c.from_residual-in_err-emit_answer-in-None.ensures.0 in
    record { entry = IfOk-from_err _ _ failed; emits = on_error _ _ failed }

pub declare_names-requires : goal.declare_names-requires
declare_names-requires c = record {
  assigned = c.requires.assigned;
  vars = c.requires.vars;
  params = c.requires.params;
  scope = c.requires.scope;
  homes = c.requires.homes;
}

pub emit_for_loop-requires : goal.emit_for_loop-requires
emit_for_loop-requires c = record {
  params = c.requires.params;
  kinds = c.requires.kinds;
  few = c.requires.few;
  layout = c.requires.layout;
  start = c.requires.start;
  scope = c.in_ok-declare_names.ensures.scope;
  homes = c.in_ok-declare_names.ensures.homes;
  for_loop = ap (λ (o : Option Loop). option_map for_loop_of o) c.in-Some.is;
}

pub returns-in_ok-emit_answer-in-None : goal.returns-in_ok-emit_answer-in-None
returns-in_ok-emit_answer-in-None c = record {
  emits =
      let k = program_of c.args.kernel.now in
      let R = register_in c.args.regs.now in
      let s = scope_of c.declare_names.new.scope in
      let for_loop = ap (λ (o : Option Loop). option_map for_loop_of o) c.in-None.is in
      let homes = c.in_ok-declare_names.ensures.homes in
      record {
        labels = bare_count k s c.args.draft.now.labels c.emit_head.new.draft.labels c.emit_answer.new.draft.labels c.in_ok-declare_names.ensures.index for_loop c.in_ok-at_iteration-in-None.ensures.emits.labels c.in_ok-emit_answer-in-None.ensures.labels;
        code = λ rest. c.in_ok-emit_answer-in-None.ensures.code rest
            ∙ c.in_ok-at_iteration-in-None.ensures.emits.code _
            ∙ ap (λ (es : List DraftEntry). c.args.draft.now.entries ++ es)
            (bare_code R k c.args.site.now.layout (homes_of c.declare_names.new.homes.items) s c.args.item c.args.draft.now.labels c.emit_head.new.draft.labels rest c.requires.layout homes c.in_ok-declare_names.ensures.scope for_loop c.requires.start c.in_ok-at_iteration-in-None.ensures.emits.labels);
      };
  entry = c.in_ok-at_iteration-in-None.ensures.head;
}

pub returns-in-Some : goal.returns-in-Some
returns-in-Some c = record {
  entry = c.emit_for_loop.ensures.entry;
  emits = c.emit_for_loop.ensures.emits;
}
