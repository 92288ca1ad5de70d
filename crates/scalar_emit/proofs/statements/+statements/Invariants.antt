use Rattle.std.proofs.Common.{◌≡◌, ◌+◌, ◌*◌, ◌<◌, ◌≤◌, List, ◌++◌, drop}
use Rattle.std.specs.Prelude.{max}
use Rattle.kernel_tree.specs.Plain.{action_of, block_of}
use Rattle.kernel_tree.specs.Items.{block_size}
use Rattle.kernel_tree.specs.Limits.{action_depth, block_depth}
use Rattle.kernel_tree.specs.Kinds.{BlockKinds}
use Rattle.kernel_scope.specs.Scopes.{scope_of}
use Rattle.scalar_words.specs.View.{homes_of}
use Rattle.kernel_tree.specs.Typing as typing
use Rattle.label_fix.specs.DraftRun as plain
use Rattle.loop_code.specs.Statements as statements
use Rattle.scalar_emit.proofs.statements.+statements.Given as goal

-- what is left of the statements leads from here to where they all lead
abbrev pub invariant-emit_block-loop-stmt : goal.invariant-emit_block-loop-stmt
invariant-emit_block-loop-stmt l = record {
  exit : l.exit < l.draft.labels;
  depth : block_depth (block_of (drop l.stmt-index l.block)) ≤ block_depth (block_of l.block);
  kinds : BlockKinds (block_of (drop l.stmt-index l.block));
  layout : l.site.layout ≡ l.fn.site.layout;
  scope : typing.after_block (scope_of l.site.scope) (block_of (drop l.stmt-index l.block)) ≡ typing.after_block (scope_of l.fn.site.scope) (block_of l.block);
  homes : statements.block_homes l.site.layout (homes_of l.site.homes.items) (scope_of l.site.scope) l.item (block_of (drop l.stmt-index l.block)) ≡ statements.block_homes l.fn.site.layout (homes_of l.fn.site.homes.items) (scope_of l.fn.site.scope) l.fn.item (block_of l.block);
  item : l.item + block_size (scope_of l.site.scope).index (block_of (drop l.stmt-index l.block)) ≡ l.fn.item + block_size (scope_of l.fn.site.scope).index (block_of l.block);
  labels : l.draft.labels + statements.block_labels (scope_of l.site.scope).index (block_of (drop l.stmt-index l.block)) ≡ l.fn.draft.labels + statements.block_labels (scope_of l.fn.site.scope).index (block_of l.block);
  code : (rest : List plain.DraftEntry) → l.draft.entries ++ statements.block_code l.site.layout (homes_of l.site.homes.items) (scope_of l.site.scope) l.exit l.item l.draft.labels (block_of (drop l.stmt-index l.block)) rest ≡ l.fn.draft.entries ++ statements.block_code l.fn.site.layout (homes_of l.fn.site.homes.items) (scope_of l.fn.site.scope) l.exit l.fn.item l.fn.draft.labels (block_of l.block) rest;
}

-- a block stands above its statements, and an `if` above its blocks
abbrev pub decreases-emit_stmt : goal.decreases-emit_stmt
decreases-emit_stmt l = 5 * action_depth (action_of l.stmt.now)

abbrev pub decreases-emit_if : goal.decreases-emit_if
decreases-emit_if l = 5 * block_depth (block_of l.block.now) + 3

abbrev pub decreases-emit_if_else : goal.decreases-emit_if_else
decreases-emit_if_else l = 5 * max (block_depth (block_of l.block.now)) (block_depth (block_of l.second.now)) + 4

abbrev pub decreases-emit_inner : goal.decreases-emit_inner
decreases-emit_inner l = 5 * block_depth (block_of l.block.now) + 2

abbrev pub decreases-emit_block : goal.decreases-emit_block
decreases-emit_block l = 5 * block_depth (block_of l.block.now) + 1
