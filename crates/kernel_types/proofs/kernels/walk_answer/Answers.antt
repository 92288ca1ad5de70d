use Rattle.std.proofs.Common.{ap}
use Rattle.std.specs.Prelude.{option_map}
use Rattle.kernel_tree.specs.Plain.{returned_of}
use Rattle.kernel_scope.specs.Scopes.{scope_of}
use Rattle.kernel_types.proofs.PartWalks.{no_answer, one_answer, value_fits, mark_room}
use Rattle.kernel_types.proofs.kernels.walk_answer.Goals as goal

pub walk_expr-requires : goal.walk_expr-requires
walk_expr-requires c =
    value_fits (scope_of c.args.scope.now).index c.args.notes.now.next (returned_of c.in-Some.answer) (option_map returned_of c.args.answer.now) (ap (option_map returned_of) c.in-Some.is) c.requires.room

pub end-requires : goal.end-requires
end-requires c =
    mark_room (scope_of c.args.scope.now).index c.args.notes.now.next c.walk_expr.new.notes.next (returned_of c.in-Some.answer) (option_map returned_of c.args.answer.now) (ap (option_map returned_of) c.in-Some.is) c.requires.room c.walk_expr.ensures.next

pub returns-in-None : goal.returns-in-None
returns-in-None c =
    let made = no_answer (scope_of c.args.scope.now) c.args.notes.now (option_map returned_of c.args.answer.now) (ap (option_map returned_of) c.in-None.is) in
    record { next = made.next; found = made.found; types = made.types }

pub returns-in-Some : goal.returns-in-Some
returns-in-Some c =
    let made = one_answer (scope_of c.args.scope.now) c.args.notes.now c.walk_expr.new.notes c.end.new.notes (returned_of c.in-Some.answer) (option_map returned_of c.args.answer.now) (ap (option_map returned_of) c.in-Some.is) (record { next = c.walk_expr.ensures.next; found = c.walk_expr.ensures.found; types = c.walk_expr.ensures.types }) c.end.ensures.next c.end.ensures.found c.end.ensures.types in
    record { next = made.next; found = made.found; types = made.types }
