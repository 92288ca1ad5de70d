use Rattle.std.proofs.Common.{◌+◌, ◌<◌, ◌^◌, ap, subst, ◌∙◌, Option}
use Rattle.std.specs.Prelude.{option_map}
use Rattle.kernel_tree.specs.Plain.{PlainLoop, for_loop_of}
use Rattle.kernel_tree.specs.Items as items
use Rattle.kernel_scope.specs.Scopes.{scope_of}
use Rattle.kernel_types.proofs.PartWalks.{no_loop, one_loop}
use Rattle.kernel_types.proofs.kernels.walk_for_loop.Goals as goal

pub walk_loop-requires : goal.walk_loop-requires
walk_loop-requires c =
    let is = ap (option_map for_loop_of) c.in-Some.is in
    record {
      room = subst (λ (o : Option PlainLoop). c.args.notes.now.next + items.for_loop_size o < 2 ^ 32) is c.requires.room;
      outside = c.requires.outside;
      index = c.requires.index ∙ ap (option_map items.index_of) is;
    }

pub returns-in-None : goal.returns-in-None
returns-in-None c =
    let made = no_loop (scope_of c.args.scope.now) c.args.notes.now (option_map for_loop_of c.args.for_loop.now) (ap (option_map for_loop_of) c.in-None.is) in
    record { scope = made.scope; next = made.next; found = made.found; types = made.types }

pub returns-in-Some : goal.returns-in-Some
returns-in-Some c =
    let made = one_loop c.walk_loop.result (scope_of c.args.scope.now) (scope_of c.walk_loop.new.scope) c.args.notes.now c.walk_loop.new.notes (for_loop_of c.in-Some.for_loop) (option_map for_loop_of c.args.for_loop.now) (ap (option_map for_loop_of) c.in-Some.is) (record { scope = c.walk_loop.ensures.scope; next = c.walk_loop.ensures.next; found = c.walk_loop.ensures.found; types = c.walk_loop.ensures.types }) in
    record { scope = made.scope; next = made.next; found = made.found; types = made.types }
