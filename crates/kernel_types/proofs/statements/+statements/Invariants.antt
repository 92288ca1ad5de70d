use Rattle.std.proofs.Common.{◌≡◌, ◌+◌, ◌*◌, ◌≤◌, drop}
use Rattle.std.specs.Prelude.{max}
use Rattle.kernel_tree.specs.Plain.{action_of, block_of}
use Rattle.kernel_tree.specs.Items as items
use Rattle.kernel_tree.specs.Limits.{action_depth, block_depth}
use Rattle.kernel_tree.specs.Typing as typing
use Rattle.kernel_scope.specs.Scopes.{scope_of}
use Rattle.kernel_types.specs.declared.notes.Notes.{Notes}
use Rattle.kernel_types.specs.Parts.{Adds}
use Rattle.kernel_types.proofs.statements.+statements.Given as goal

-- what is left of the statements leads from here to where they all lead
abbrev pub invariant-walk_block-loop-stmt : goal.invariant-walk_block-loop-stmt
invariant-walk_block-loop-stmt l = record {
  depth : block_depth (block_of (drop l.stmt-index l.block)) ≤ block_depth (block_of l.block);
  scope : typing.after_block (scope_of l.scope) (block_of (drop l.stmt-index l.block)) ≡ typing.after_block (scope_of l.fn.scope) (block_of l.block);
  next : l.notes.next + items.block_size (scope_of l.scope).index (block_of (drop l.stmt-index l.block)) ≡ l.fn.notes.next + items.block_size (scope_of l.fn.scope).index (block_of l.block);
  found : typing.sooner l.notes.found (typing.least (typing.block_faults (scope_of l.scope) l.notes.next (block_of (drop l.stmt-index l.block)))) ≡ typing.sooner l.fn.notes.found (typing.least (typing.block_faults (scope_of l.fn.scope) l.fn.notes.next (block_of l.block)));
  types : (last : Notes) → Adds l.notes last (typing.block_types (scope_of l.scope) (block_of (drop l.stmt-index l.block))) → Adds l.fn.notes last (typing.block_types (scope_of l.fn.scope) (block_of l.block));
}

-- a block stands above its statements, and an `if` above its blocks
abbrev pub decreases-walk_stmt : goal.decreases-walk_stmt
decreases-walk_stmt l = 4 * action_depth (action_of l.stmt.now)

abbrev pub decreases-walk_if : goal.decreases-walk_if
decreases-walk_if l = 4 * block_depth (block_of l.block.now) + 3

abbrev pub decreases-walk_if_else : goal.decreases-walk_if_else
decreases-walk_if_else l = 4 * max (block_depth (block_of l.block.now)) (block_depth (block_of l.other.now)) + 3

abbrev pub decreases-walk_inner : goal.decreases-walk_inner
decreases-walk_inner l = 4 * block_depth (block_of l.block.now) + 2

abbrev pub decreases-walk_block : goal.decreases-walk_block
decreases-walk_block l = 4 * block_depth (block_of l.block.now) + 1
