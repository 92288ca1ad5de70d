use Rattle.std.proofs.Common.{ap, ◌∙◌, arith}
use Rattle.std.proofs.lemmas.Result.{IfOk-weaker, IfOk-equal, IfOk-from_err}
use Rattle.kernel_tree.specs.Plain.{block_of, for_loop_of}
use Rattle.kernel_scope.specs.Scopes.{scope_of}
use Rattle.kernel_types.proofs.KernelWalks.{loop_found, loop_types}
use Rattle.kernel_tree.specs.Typing.{Scope}
use Rattle.kernel_types.proofs.PartWalks.{loop_room, loop_next}
use Rattle.kernel_types.proofs.kernels.walk_loop.Goals as goal

pub returns-clause-found : goal.returns-clause-found
returns-clause-found c = IfOk-weaker c.walk_body.result _ _ (λ _ h. loop_found (scope_of c.args.scope.now) (scope_of c.declare.new.scope) c.args.notes.now.next c.end.new.notes.next c.args.notes.now.found c.end.new.notes.found c.walk_body.new.notes.found c.bound_fault-bound.result c.twice.result c.sooner-found.result c.lookup.result c.is_taken.result (for_loop_of c.args.for_loop.now) (block_of c.deref.result.now) c.lookup.ensures c.bound_fault-bound.ensures c.is_taken.ensures c.twice.ensures c.sooner-found.ensures c.end.ensures.found c.in_ok-declare.ensures c.end.ensures.next (ap block_of c.deref.ensures.value) h) c.walk_body.ensures.found

pub returns-clause-types : goal.returns-clause-types
returns-clause-types c = IfOk-weaker c.walk_body.result _ _ (λ _ h. loop_types (scope_of c.args.scope.now) (scope_of c.declare.new.scope) (for_loop_of c.args.for_loop.now) (block_of c.deref.result.now) c.in_ok-declare.ensures (ap block_of c.deref.ensures.value) c.end.ensures.types h) c.walk_body.ensures.types

pub end-requires : goal.end-requires
end-requires c =
    omega arith

pub walk_body-requires : goal.walk_body-requires
walk_body-requires c =
    record {
      room = loop_room (scope_of c.args.scope.now) (scope_of c.declare.new.scope) c.args.notes.now.next c.end.new.notes.next (for_loop_of c.args.for_loop.now) (block_of c.deref.result.now) c.in_ok-declare.ensures (ap block_of c.deref.ensures.value) c.end.ensures.next c.requires.index c.requires.room;
      outside = ap (λ (s : Scope). s.inside) c.in_ok-declare.ensures ∙ c.requires.outside;
    }

pub returns-in_err-declare : goal.returns-in_err-declare
returns-in_err-declare c =
    let failed = c.from_residual.ensures.0 in
    record { scope = IfOk-from_err _ _ failed; next = IfOk-from_err _ _ failed; found = IfOk-from_err _ _ failed; types = IfOk-from_err _ _ failed }

pub returns-clause-scope : goal.returns-clause-scope
returns-clause-scope c =
    IfOk-equal c.walk_body.result _ _ _ c.walk_body.ensures.scope c.in_ok-declare.ensures

pub returns-clause-next : goal.returns-clause-next
returns-clause-next c =
    IfOk-weaker c.walk_body.result _ _ (λ _ h. loop_next (scope_of c.args.scope.now) (scope_of c.declare.new.scope) c.args.notes.now.next c.end.new.notes.next c.walk_body.new.notes.next (for_loop_of c.args.for_loop.now) (block_of c.deref.result.now) c.in_ok-declare.ensures (ap block_of c.deref.ensures.value) c.end.ensures.next c.requires.index h) c.walk_body.ensures.next
