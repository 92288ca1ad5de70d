use Rattle.std.proofs.Common.{◌≡◌, ℕ, ◌+◌, List, ◌++◌, Option, length, ap, ap₂, ◌∙◌, refl}
use Rattle.std.proofs.lemmas.Result.{IfOk-weaker, IfOk-from_err}
use Rattle.kernel_tree.specs.declared.ops.Ty.{Ty}
use Rattle.kernel_tree.specs.declared.fault.Found.{Found}
use Rattle.kernel_tree.specs.Plain.{parameters_of, accumulators_of, program_of}
use Rattle.kernel_tree.specs.Items.{for_loop_size}
use Rattle.kernel_tree.specs.Typing.{Scope, after_params, after_vars, after_for_loop, param_scope, var_scope, params_faults, sooner, least, params_types, vars_types, for_loop_types, answer_types, types_of}
use Rattle.kernel_tree.proofs.Walks.{var_scope-index}
use Rattle.kernel_scope.specs.Scopes.{scope_of}
use Rattle.kernel_types.specs.Parts.{Adds}
use Rattle.kernel_types.proofs.KernelWalks.{count_params, vars_outside, vars_room, for_loop_room, answer_room, vars_count, whole, params_room}
use Rattle.kernel_types.proofs.TypeLists.{then_types}
use Rattle.kernel_types.proofs.kernels.walk_parts.Goals as goal

pub walk_vars-requires : goal.walk_vars-requires
walk_vars-requires c =
    let k = program_of c.args.kernel.now in
    let s0 = c.requires.scope in
    let d1 = ap parameters_of c.deref.ensures.value in
    let s1 : scope_of c.walk_params.new.scope ≡ param_scope k = c.in_ok-walk_params.ensures.scope ∙ ap₂ after_params s0 d1 in
    let n1 : c.walk_params.new.notes.next ≡ length k.params = c.in_ok-walk_params.ensures.next ∙ ap (λ (n : ℕ). n + length c.deref.result.now) c.requires.next ∙ count_params c.args.kernel.now.params.items c.deref.result.now c.deref.ensures.value in
    let d2 = ap accumulators_of c.deref-2.ensures.value in
    vars_room k (scope_of c.walk_params.new.scope) c.walk_params.new.notes.next (accumulators_of c.deref-2.result.now) s1 n1 d2 c.requires.room

pub walk_for_loop-requires-clause-room : goal.walk_for_loop-requires-clause-room
walk_for_loop-requires-clause-room c =
    let k = program_of c.args.kernel.now in
    let s0 = c.requires.scope in
    let d1 = ap parameters_of c.deref.ensures.value in
    let s1 : scope_of c.walk_params.new.scope ≡ param_scope k = c.in_ok-walk_params.ensures.scope ∙ ap₂ after_params s0 d1 in
    let n1 : c.walk_params.new.notes.next ≡ length k.params = c.in_ok-walk_params.ensures.next ∙ ap (λ (n : ℕ). n + length c.deref.result.now) c.requires.next ∙ count_params c.args.kernel.now.params.items c.deref.result.now c.deref.ensures.value in
    let d2 = ap accumulators_of c.deref-2.ensures.value in
    let n2 = vars_count k (scope_of c.walk_params.new.scope) c.walk_params.new.notes.next c.walk_vars.new.notes.next (accumulators_of c.deref-2.result.now) s1 n1 d2 c.in_ok-walk_vars.ensures.next in
    for_loop_room k c.walk_vars.new.notes.next n2 c.requires.room

pub walk_for_loop-requires-clause-outside : goal.walk_for_loop-requires-clause-outside
walk_for_loop-requires-clause-outside c =
    let k = program_of c.args.kernel.now in
    let s0 = c.requires.scope in
    let d1 = ap parameters_of c.deref.ensures.value in
    let s1 : scope_of c.walk_params.new.scope ≡ param_scope k = c.in_ok-walk_params.ensures.scope ∙ ap₂ after_params s0 d1 in
    let d2 = ap accumulators_of c.deref-2.ensures.value in
    let s2 : scope_of c.walk_vars.new.scope ≡ var_scope k = c.in_ok-walk_vars.ensures.scope ∙ ap₂ after_vars s1 d2 in
    vars_outside k (scope_of c.walk_vars.new.scope) s2

pub walk_for_loop-requires-clause-index : goal.walk_for_loop-requires-clause-index
walk_for_loop-requires-clause-index c =
    let k = program_of c.args.kernel.now in
    let s0 = c.requires.scope in
    let d1 = ap parameters_of c.deref.ensures.value in
    let s1 : scope_of c.walk_params.new.scope ≡ param_scope k = c.in_ok-walk_params.ensures.scope ∙ ap₂ after_params s0 d1 in
    let d2 = ap accumulators_of c.deref-2.ensures.value in
    let s2 : scope_of c.walk_vars.new.scope ≡ var_scope k = c.in_ok-walk_vars.ensures.scope ∙ ap₂ after_vars s1 d2 in
    var_scope-index k (scope_of c.walk_vars.new.scope) s2

pub walk_answer-requires : goal.walk_answer-requires
walk_answer-requires c =
    let k = program_of c.args.kernel.now in
    let s0 = c.requires.scope in
    let d1 = ap parameters_of c.deref.ensures.value in
    let s1 : scope_of c.walk_params.new.scope ≡ param_scope k = c.in_ok-walk_params.ensures.scope ∙ ap₂ after_params s0 d1 in
    let n1 : c.walk_params.new.notes.next ≡ length k.params = c.in_ok-walk_params.ensures.next ∙ ap (λ (n : ℕ). n + length c.deref.result.now) c.requires.next ∙ count_params c.args.kernel.now.params.items c.deref.result.now c.deref.ensures.value in
    let d2 = ap accumulators_of c.deref-2.ensures.value in
    let s2 : scope_of c.walk_vars.new.scope ≡ var_scope k = c.in_ok-walk_vars.ensures.scope ∙ ap₂ after_vars s1 d2 in
    let n2 = vars_count k (scope_of c.walk_params.new.scope) c.walk_params.new.notes.next c.walk_vars.new.notes.next (accumulators_of c.deref-2.result.now) s1 n1 d2 c.in_ok-walk_vars.ensures.next in
    let s3 : scope_of c.walk_for_loop.new.scope ≡ after_for_loop (var_scope k) k.for_loop = c.in_ok-walk_for_loop.ensures.scope ∙ ap (λ (s : Scope). after_for_loop s k.for_loop) s2 in
    let n3 = c.in_ok-walk_for_loop.ensures.next ∙ ap (λ (n : ℕ). n + for_loop_size k.for_loop) n2 in
    record { room = answer_room k (scope_of c.walk_for_loop.new.scope) c.walk_for_loop.new.notes.next s3 n3 c.requires.room }

pub returns-clause-found : goal.returns-clause-found
returns-clause-found c =
    let k = program_of c.args.kernel.now in
    let s0 = c.requires.scope in
    let d1 = ap parameters_of c.deref.ensures.value in
    let s1 : scope_of c.walk_params.new.scope ≡ param_scope k = c.in_ok-walk_params.ensures.scope ∙ ap₂ after_params s0 d1 in
    let n1 : c.walk_params.new.notes.next ≡ length k.params = c.in_ok-walk_params.ensures.next ∙ ap (λ (n : ℕ). n + length c.deref.result.now) c.requires.next ∙ count_params c.args.kernel.now.params.items c.deref.result.now c.deref.ensures.value in
    let d2 = ap accumulators_of c.deref-2.ensures.value in
    let s2 : scope_of c.walk_vars.new.scope ≡ var_scope k = c.in_ok-walk_vars.ensures.scope ∙ ap₂ after_vars s1 d2 in
    let n2 = vars_count k (scope_of c.walk_params.new.scope) c.walk_params.new.notes.next c.walk_vars.new.notes.next (accumulators_of c.deref-2.result.now) s1 n1 d2 c.in_ok-walk_vars.ensures.next in
    let s3 : scope_of c.walk_for_loop.new.scope ≡ after_for_loop (var_scope k) k.for_loop = c.in_ok-walk_for_loop.ensures.scope ∙ ap (λ (s : Scope). after_for_loop s k.for_loop) s2 in
    let n3 = c.in_ok-walk_for_loop.ensures.next ∙ ap (λ (n : ℕ). n + for_loop_size k.for_loop) n2 in
    let found = c.in_ok-walk_params.ensures.found ∙ ap₂ (λ (o : Option Found) (n : ℕ). sooner o (least (params_faults (scope_of c.args.scope.now) n (parameters_of c.deref.result.now)))) c.requires.found c.requires.next in
    IfOk-weaker c.kept.result _ _ (λ _ _. whole k _ (scope_of c.walk_params.new.scope) (scope_of c.walk_vars.new.scope) (scope_of c.walk_for_loop.new.scope) c.walk_params.new.notes.next c.walk_vars.new.notes.next c.walk_for_loop.new.notes.next (parameters_of c.deref.result.now) (accumulators_of c.deref-2.result.now) c.walk_params.new.notes.found c.walk_vars.new.notes.found c.walk_for_loop.new.notes.found c.walk_answer.new.notes.found s0 d1 found s1 n1 d2 c.in_ok-walk_vars.ensures.found s2 n2 c.in_ok-walk_for_loop.ensures.found s3 n3 c.walk_answer.ensures.found) c.kept.ensures

pub returns-clause-types : goal.returns-clause-types
returns-clause-types c =
    let k = program_of c.args.kernel.now in
    let s0 = c.requires.scope in
    let d1 = ap parameters_of c.deref.ensures.value in
    let s1 : scope_of c.walk_params.new.scope ≡ param_scope k = c.in_ok-walk_params.ensures.scope ∙ ap₂ after_params s0 d1 in
    let d2 = ap accumulators_of c.deref-2.ensures.value in
    let s2 : scope_of c.walk_vars.new.scope ≡ var_scope k = c.in_ok-walk_vars.ensures.scope ∙ ap₂ after_vars s1 d2 in
    let s3 : scope_of c.walk_for_loop.new.scope ≡ after_for_loop (var_scope k) k.for_loop = c.in_ok-walk_for_loop.ensures.scope ∙ ap (λ (s : Scope). after_for_loop s k.for_loop) s2 in
    let params : Adds c.args.notes.now c.walk_params.new.notes (params_types k.params) = rw d1 at c.in_ok-walk_params.ensures.types in
    let vars : Adds c.walk_params.new.notes c.walk_vars.new.notes (vars_types (param_scope k) k.vars) = rw (s1, d2) at c.in_ok-walk_vars.ensures.types in
    let for_loop : Adds c.walk_vars.new.notes c.walk_for_loop.new.notes (for_loop_types (var_scope k) k.for_loop) = rw s2 at c.in_ok-walk_for_loop.ensures.types in
    let answer : Adds c.walk_for_loop.new.notes c.walk_answer.new.notes (answer_types (after_for_loop (var_scope k) k.for_loop) k.answer) = rw s3 at c.walk_answer.ensures.types in
    let all : Adds c.args.notes.now c.walk_answer.new.notes (types_of k) = then_types params (then_types vars (then_types for_loop answer)) in
    IfOk-weaker c.kept.result _ _ (λ _ lost. all.items lost ∙ ap (λ (ts : List (Option Ty)). ts ++ types_of k) c.requires.types) c.kept.ensures

pub walk_params-requires : goal.walk_params-requires
walk_params-requires c =
    params_room (program_of c.args.kernel.now) c.args.kernel.now.params.items c.deref.result.now c.args.notes.now.next c.requires.next c.deref.ensures.value refl c.requires.room

pub returns-in_err-walk_params : goal.returns-in_err-walk_params
returns-in_err-walk_params c =
    let failed = c.from_residual.ensures.0 in
    record { found = IfOk-from_err _ _ failed; types = IfOk-from_err _ (λ _. c.walk_params.new.notes.types.items ≡ types_of (program_of c.args.kernel.now)) failed }

pub returns-in_err-walk_vars : goal.returns-in_err-walk_vars
returns-in_err-walk_vars c =
    let failed = c.from_residual-in_err-walk_vars.ensures.0 in
    record { found = IfOk-from_err _ _ failed; types = IfOk-from_err _ (λ _. c.walk_vars.new.notes.types.items ≡ types_of (program_of c.args.kernel.now)) failed }

pub returns-in_err-walk_for_loop : goal.returns-in_err-walk_for_loop
returns-in_err-walk_for_loop c =
    let failed = c.from_residual-in_err-walk_for_loop.ensures.0 in
    record { found = IfOk-from_err _ _ failed; types = IfOk-from_err _ (λ _. c.walk_for_loop.new.notes.types.items ≡ types_of (program_of c.args.kernel.now)) failed }
