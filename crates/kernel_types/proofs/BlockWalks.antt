-- The walk over the statements of a block: what it asks of its calls, and where it ends.
use Rattle.std.proofs.Common.{◌≡◌, ℕ, ◌+◌, ◌*◌, ◌<◌, sym, ap, subst, ◌∙◌, arith}
use Rattle.kernel_tree.specs.Plain.{Term, Action, Choose, Block, Done, Nothing}
use Rattle.kernel_tree.specs.Items.{block_size}
use Rattle.kernel_tree.specs.Limits.{action_depth, block_depth}
use Rattle.kernel_tree.specs.Typing.{Scope, after_block, block_faults, block_types, sooner, least}
use Rattle.kernel_types.specs.declared.notes.Notes.{Notes}
use Rattle.kernel_types.specs.Parts.{Adds}
use Rattle.kernel_types.proofs.LeastFault.{sooner-none}
use Rattle.kernel_types.proofs.TypeLists.{no_types}

-- ---- each call is less deep, and its items have room

pub four_only_block_below : (t : ℕ) (a : Action) (c : Term) (b : Block) → 4 * action_depth a ≡ t → a ≡ Choose c b Nothing → 4 * block_depth b + 3 < t
four_only_block_below t a c b h e = omega (arith, ap action_depth e)

-- ---- the end of a block

pub record Ended (s t : Scope) (old new : Notes) (b : Block) : Type 0 where
  pub scope : t ≡ after_block s b
  pub next : new.next ≡ old.next + block_size s.index b
  pub found : new.found ≡ sooner old.found (least (block_faults s old.next b))
  pub types : Adds old new (block_types s b)

pub block_end : (s t : Scope) (old new : Notes) (x whole : Block) → x ≡ Done → after_block t x ≡ after_block s whole → new.next + block_size t.index x ≡ old.next + block_size s.index whole
    → sooner new.found (least (block_faults t new.next x)) ≡ sooner old.found (least (block_faults s old.next whole)) → ((last : Notes) → Adds new last (block_types t x) → Adds old last (block_types s whole)) → Ended s t old new whole
block_end s t old new x whole e f g h k = record {
  scope = ap (after_block t) (sym e) ∙ f;
  next = omega (arith, ap (block_size t.index) e, g);
  found = sym (sooner-none new.found) ∙ ap (λ (b : Block). sooner new.found (least (block_faults t new.next b))) (sym e) ∙ h;
  types = k new (subst (λ (b : Block). Adds new new (block_types t b)) (sym e) (no_types new));
}
