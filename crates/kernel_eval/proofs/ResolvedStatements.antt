-- Resolved statements do what their statements do.
use Rattle.std.proofs.Common.{◌≡◌, ℕ, ◌+◌, ◌≤◌, List, [], ◌∷◌, Bool, true, false, Option, Some, None, Result, Ok, Err, length, take, refl, sym, subst, ◌∙◌, arith}
use Rattle.std.specs.Prelude.{ℤ, ◌+ℤ◌, option_and_then, slice_set}
use Rattle.std.proofs.lemmas.List.{length-set, set_past, length-append}
use Rattle.kernel_tree.specs.declared.ops.Ty.{Ty}
use Rattle.kernel_tree.specs.declared.ops.Ty.TheVariants as ty
use Rattle.kernel_tree.specs.Wrap.{wrap, byte_count}
use Rattle.kernel_tree.specs.declared.ops.UpdateOp.{UpdateOp}
use Rattle.kernel_tree.specs.declared.fault.Binding.TheVariants as binding
use Rattle.kernel_tree.specs.Items.{stream_offset}
use Rattle.kernel_tree.specs.Plain.{Action, Define, Put, Update, Choose, Leave, Block, Done, Then, Otherwise, Nothing, Else}
use Rattle.kernel_tree.specs.Typing.{Scope, local, first, own, lookup, accumulator_type, index_type, left, defined, after_action, after_block, array_type}
use Rattle.guest_types.specs.declared.memory.AccessFault.{AccessFault}
use Rattle.guest_types.specs.Memory.{Memory, stored}
use Rattle.kernel_meaning.specs.Ends.{BlockEnd, Next, Broke, Faulted}
use Rattle.kernel_meaning.specs.Operators.{word, binary_value, operator_of}
use Rattle.kernel_meaning.specs.Eval.{Names, value_at, address, iteration, element_number, on_both, value, holds}
use Rattle.kernel_meaning.specs.Iterate.{with_name, assigned, cut, define, update, write, put, choose, leave, then_do, act, do_block, do_otherwise}
use Rattle.kernel_eval.specs.Slots.{Slots, slot_at, stream_number, tree_value, set_slot, write as write_slots, store, branch, quit, then_go, do_task, do_tasks}
use Rattle.kernel_plan.specs.Trees.{Tree}
use Rattle.kernel_plan.specs.Resolve.{most_slots, slot_of, index_slot, let_slot, store_task, resolved, resolved_action, resolved_block, resolved_otherwise}
use Rattle.kernel_eval.proofs.HeldSlots.{AreInSlots, value-held, assigned-held, named-held, cut-held, held-length}
use Rattle.kernel_eval.proofs.ResolvedValues.{resolved_value_is_same, stream-alike, address-word}
use Rattle.kernel_meaning.proofs.Extends.{Extends, extends_none, extends_on, visible_after, visible_block}

-- two ends that leave the same memory, and in the slots what the names have: those of the scope after the statements, or
-- of a wider one than theirs where a `break` ended the loop
pub data Matches (s t : Scope) : BlockEnd Names → BlockEnd Slots → Type 0 where
  Nexts : (m : Memory) (ns : Names) (vs : Slots) → AreInSlots t.visible ns vs → length vs ≡ most_slots → Matches s t (Next m ns) (Next m vs)
  Breaks : (m : Memory) (ns : Names) (vs : Slots) (u : Scope) → Extends s.visible u.visible → AreInSlots u.visible ns vs → length vs ≡ most_slots → Matches s t (Broke m ns) (Broke m vs)
  Faults : (m : Memory) → Matches s t (Faulted m) (Faulted m)

-- the same after a block
pub data Closed (s : Scope) : BlockEnd Names → BlockEnd Slots → Type 0 where
  NextsIn : (m : Memory) (ns : Names) (vs : Slots) → AreInSlots s.visible ns vs → length vs ≡ most_slots → Closed s (Next m ns) (Next m vs)
  BreaksIn : (m : Memory) (ns : Names) (vs : Slots) → AreInSlots s.visible ns vs → length vs ≡ most_slots → Closed s (Broke m ns) (Broke m vs)
  FaultsIn : (m : Memory) → Closed s (Faulted m) (Faulted m)

-- ---- statements, by what their expressions give

define-same : (s : Scope) (x : List ℕ) (want : Option Ty) (m : Memory) (ns : Names) (vs : Slots) (o : Option ℤ) → AreInSlots s.visible ns vs → length vs ≡ most_slots → length s.visible + 1 ≤ most_slots → Matches s (defined s x want) (define x want m ns o) (set_slot (let_slot s want) m vs o)
define-same s x None m ns vs None h l room = Faults m
define-same s x (Some t) m ns vs None h l room = Faults m
define-same s x None m ns vs (Some v) h l room =
    Nexts m ns (slice_set vs most_slots v) (subst (λ ws. AreInSlots s.visible ns ws) (sym (set_past vs most_slots v (omega arith))) h) (length-set vs most_slots v ∙ l)
define-same s x (Some t) m ns vs (Some v) h l room =
    Nexts m (with_name x ns v) (slice_set vs (length s.visible) v) (named-held s.visible ns vs x (binding.Value t) v h (omega arith)) (length-set vs (length s.visible) v ∙ l)

update-same : (s : Scope) (x : List ℕ) (op : UpdateOp) (want : Option Ty) (m : Memory) (ns : Names) (vs : Slots) (o : Option ℤ) → AreInSlots s.visible ns vs → length vs ≡ most_slots → Matches s s (update x op want m ns o) (set_slot (slot_of s x) m vs (on_both (binary_value (operator_of op) want) (Some (slot_at vs (slot_of s x))) o))
update-same s x op want m ns vs None h l = Faults m
update-same s x op want m ns vs (Some v) h l =
    subst (λ w. Matches s s (update x op want m ns (Some v)) (Next m (slice_set vs (slot_of s x) (binary_value (operator_of op) want w v)))) (sym (value-held s.visible ns vs x h (omega arith)))
    (Nexts m (assigned x (binary_value (operator_of op) want (value_at ns x) v) ns) (slice_set vs (slot_of s x) (binary_value (operator_of op) want (value_at ns x) v)) (assigned-held s.visible ns vs x (binary_value (operator_of op) want (value_at ns x) v) h) (length-set vs (slot_of s x) (binary_value (operator_of op) want (value_at ns x) v) ∙ l))

write-same : (s : Scope) (m : Memory) (ns : Names) (vs : Slots) (r : Result Memory AccessFault) → AreInSlots s.visible ns vs → length vs ≡ most_slots → Matches s s (write m ns r) (write_slots m vs r)
write-same s m ns vs (Ok after) h l = Nexts after ns vs h l
write-same s m ns vs (Err f) h l = Faults m

put-words : (s : Scope) (t : Option Ty) (base : ℤ) (m : Memory) (ns : Names) (vs : Slots) (v : Option ℤ) (x y : ℤ) → word y ≡ word x → AreInSlots s.visible ns vs → length vs ≡ most_slots → Matches s s (put t base m ns v (Some x)) (store t base m vs v (Some y))
put-words s t base m ns vs None x y e h l = Faults m
put-words s None base m ns vs (Some v) x y e h l = Faults m
put-words s (Some t) base m ns vs (Some v) x y e h l =
    subst (λ a. Matches s s (write m ns (stored m (address t base x) (byte_count t) (word v))) (write_slots m vs (stored m a (byte_count t) (word v)))) (sym (address-word t base y x e))
    (write-same s m ns vs (stored m (address t base x) (byte_count t) (word v)) h l)

put-none : (s : Scope) (t : Option Ty) (base : ℤ) (m : Memory) (ns : Names) (vs : Slots) (v : Option ℤ) → Matches s s (put t base m ns v None) (store t base m vs v None)
put-none s t base m ns vs None = Faults m
put-none s t base m ns vs (Some v) = Faults m

put-same : (s : Scope) (t : Option Ty) (base : ℤ) (m : Memory) (ns : Names) (vs : Slots) (v x : Option ℤ) → AreInSlots s.visible ns vs → length vs ≡ most_slots → Matches s s (put t base m ns v x) (store t base m vs v x)
put-same s t base m ns vs v None h l = put-none s t base m ns vs v
put-same s t base m ns vs v (Some x) h l = put-words s t base m ns vs v x x refl h l

-- a store, by the offset of its index or its computed number
store-same : (s : Scope) (a : List ℕ) (c : Option ℤ) (i e : Tree) (m : Memory) (ns : Names) (vs : Slots) (x v : Option ℤ) → AreInSlots s.visible ns vs → length vs ≡ most_slots → tree_value i m vs ≡ x → tree_value e m vs ≡ v → Matches s s (put (array_type s a) (value_at ns a) m ns v (element_number c (iteration s.index ns) x)) (do_task (store_task s a c i e) m vs)
store-same s a None i e m ns vs x v h l is of =
    let put-is = put (array_type s a) (value_at ns a) m ns v x in
    subst (λ base. Matches s s put-is (store (array_type s a) base m vs (tree_value e m vs) (tree_value i m vs))) (sym (value-held s.visible ns vs a h (omega arith)))
    (subst (λ o. Matches s s put-is (store (array_type s a) (value_at ns a) m vs o (tree_value i m vs))) (sym of)
    (subst (λ o. Matches s s put-is (store (array_type s a) (value_at ns a) m vs v o)) (sym is) (put-same s (array_type s a) (value_at ns a) m ns vs v x h l)))
store-same s a (Some c) i e m ns vs x v h l is of =
    let le : length vs ≤ most_slots = omega arith in
    let number = stream_number (slot_at vs (index_slot s.visible s.index)) (wrap ty.U64 c) in
    let put-is = put (array_type s a) (value_at ns a) m ns v (Some (iteration s.index ns +ℤ c)) in
    subst (λ base. Matches s s put-is (store (array_type s a) base m vs (tree_value e m vs) (Some number))) (sym (value-held s.visible ns vs a h le))
    (subst (λ o. Matches s s put-is (store (array_type s a) (value_at ns a) m vs o (Some number))) (sym of)
    (put-words s (array_type s a) (value_at ns a) m ns vs v (iteration s.index ns +ℤ c) number (stream-alike s c ns vs h le) h l))

leave-same : (s : Scope) (m : Memory) (ns : Names) (vs : Slots) (o : Option Bool) → AreInSlots s.visible ns vs → length vs ≡ most_slots → Matches s s (leave m ns o) (quit m vs o)
leave-same s m ns vs None h l = Faults m
leave-same s m ns vs (Some true) h l = Breaks m ns vs s (extends_none s.visible) h l
leave-same s m ns vs (Some false) h l = Nexts m ns vs h l

narrow : (s u : Scope) (n : ℕ) (ns : Names) (vs : Slots) → Extends s.visible u.visible → n ≡ length s.visible → AreInSlots u.visible ns vs → AreInSlots s.visible (take n ns) vs
narrow s u n ns vs g e h = subst (λ k. AreInSlots s.visible (take k ns) vs) (sym e) (cut-held s.visible g.more ns vs (subst (λ ls. AreInSlots ls ns vs) g.is h))

pub cut-same : (s t : Scope) (n : ℕ) (iteration_end : BlockEnd Names) (stand : BlockEnd Slots) → Matches s t iteration_end stand → Extends s.visible t.visible → n ≡ length s.visible → Closed s (cut n iteration_end) stand
cut-same s t n _ _ (Nexts m ns vs h l) g e = NextsIn m (take n ns) vs (narrow s t n ns vs g e h) l
cut-same s t n _ _ (Breaks m ns vs u w h l) g e = BreaksIn m (take n ns) vs (narrow s u n ns vs w e h) l
cut-same s t n _ _ (Faults m) g e = FaultsIn m

reopen : (s t : Scope) (iteration_end : BlockEnd Names) (stand : BlockEnd Slots) → t.visible ≡ s.visible → Closed s iteration_end stand → Matches s t iteration_end stand
reopen s t _ _ e (NextsIn m ns vs h l) = Nexts m ns vs (subst (λ ls. AreInSlots ls ns vs) (sym e) h) l
reopen s t _ _ e (BreaksIn m ns vs h l) = Breaks m ns vs s (extends_none s.visible) h l
reopen s t _ _ e (FaultsIn m) = Faults m

branch-same : (s t : Scope) (m : Memory) (o : Option Bool) (one other : BlockEnd Names) (a b : BlockEnd Slots) → Matches s t one a → Matches s t other b → Matches s t (choose m o one other) (branch m o a b)
branch-same s t m None one other a b p q = Faults m
branch-same s t m (Some true) one other a b p q = p
branch-same s t m (Some false) one other a b p q = q

pub widen : (r s t : Scope) (iteration_end : BlockEnd Names) (stand : BlockEnd Slots) → Extends r.visible s.visible → Matches s t iteration_end stand → Matches r t iteration_end stand
widen r s t _ _ g (Nexts m ns vs h l) = Nexts m ns vs h l
widen r s t _ _ g (Breaks m ns vs u w h l) = Breaks m ns vs u (extends_on g w) h l
widen r s t _ _ g (Faults m) = Faults m

then-same : (r s t : Scope) (iteration_end : BlockEnd Names) (stand : BlockEnd Slots) (rest : Memory → Names → BlockEnd Names) (others : Memory → Slots → BlockEnd Slots) → Matches r s iteration_end stand → Extends r.visible s.visible → ((m : Memory) (ns : Names) (vs : Slots) → AreInSlots s.visible ns vs → length vs ≡ most_slots → Matches s t (rest m ns) (others m vs)) → Matches r t (then_do iteration_end rest) (then_go stand others)
then-same r s t _ _ rest others (Nexts m ns vs h l) g next = widen r s t (rest m ns) (others m vs) g (next m ns vs h l)
then-same r s t _ _ rest others (Breaks m ns vs u w h l) g next = Breaks m ns vs u w h l
then-same r s t _ _ rest others (Faults m) g next = Faults m

-- ---- how many names statements define

abbrev mutual
  pub action_lets : Action → ℕ
  action_lets (Define x t e) = 1
  action_lets (Choose c b d) = block_lets b + otherwise_lets d
  action_lets other = 0

  pub block_lets : Block → ℕ
  block_lets Done = 0
  block_lets (Then a b) = action_lets a + block_lets b

  pub otherwise_lets : Otherwise → ℕ
  otherwise_lets Nothing = 0
  otherwise_lets (Else b) = block_lets b

defined_room : (s : Scope) (x : List ℕ) (want : Option Ty) → length (defined s x want).visible ≤ length s.visible + 1
defined_room s x None = omega arith
defined_room s x (Some t) = omega (arith, length-append s.visible (local x (binding.Value t) ∷ []))

action_room : (s : Scope) (a : Action) → length (after_action s a).visible ≤ length s.visible + action_lets a
action_room s (Define x t e) = defined_room s x (first t (own s e))
action_room s other = omega arith

-- ---- statements

mutual
  act-same : (a : Action) (s : Scope) (m : Memory) (ns : Names) (vs : Slots) → AreInSlots s.visible ns vs → length vs ≡ most_slots → length s.visible + action_lets a ≤ most_slots → Matches s (after_action s a) (act s a m ns) (do_task (resolved_action s a) m vs)
  act-same (Define x t e) s m ns vs h l room =
      let want = first t (own s e) in
      let v = (resolved_value_is_same s e m ns vs h (omega arith)).value_is want in
      subst (λ o. Matches s (defined s x want) (define x want m ns (value s want e m ns)) (set_slot (let_slot s want) m vs o)) (sym v) (define-same s x want m ns vs (value s want e m ns) h l room)
  act-same (Put a i e) s m ns vs h l room =
      let le : length vs ≤ most_slots = omega arith in
      let v = (resolved_value_is_same s e m ns vs h le).value_is (array_type s a) in
      let x = (resolved_value_is_same s i m ns vs h le).value_is (index_type s i) in
      store-same s a (stream_offset s.index i) (resolved s (index_type s i) i) (resolved s (array_type s a) e) m ns vs (value s (index_type s i) i m ns) (value s (array_type s a) e m ns) h l x v
  act-same (Update x op e) s m ns vs h l room =
      let want = option_and_then accumulator_type (lookup s x) in
      let v = (resolved_value_is_same s e m ns vs h (omega arith)).value_is want in
      subst (λ o. Matches s s (update x op want m ns (value s want e m ns)) (set_slot (slot_of s x) m vs (on_both (binary_value (operator_of op) want) (Some (slot_at vs (slot_of s x))) o))) (sym v) (update-same s x op want m ns vs (value s want e m ns) h l)
  act-same (Choose c b d) s m ns vs h l room =
      let t = left s (after_block s b) in
      let u = after_action s (Choose c b d) in
      let truth = (resolved_value_is_same s c m ns vs h (omega arith)).holds_is None in
      let n = held-length s.visible ns vs h in
      let one = cut-same s (after_block s b) (length ns) (do_block s b m ns) (do_tasks (resolved_block s b) m vs) (block-same b s m ns vs h l (omega arith)) (visible_block s b) n in
      let other = otherwise-same d t (length ns) m ns vs h l (omega arith) n in
      subst (λ o. Matches s u (choose m (holds s c m ns) (cut (length ns) (do_block s b m ns)) (cut (length ns) (do_otherwise t d m ns))) (branch m o (do_tasks (resolved_block s b) m vs) (do_tasks (resolved_otherwise t d) m vs))) (sym truth)
      (branch-same s u m (holds s c m ns) (cut (length ns) (do_block s b m ns)) (cut (length ns) (do_otherwise t d m ns)) (do_tasks (resolved_block s b) m vs) (do_tasks (resolved_otherwise t d) m vs)
      (reopen s u (cut (length ns) (do_block s b m ns)) (do_tasks (resolved_block s b) m vs) refl one)
      (widen s t u (cut (length ns) (do_otherwise t d m ns)) (do_tasks (resolved_otherwise t d) m vs) (extends_none s.visible) (reopen t u (cut (length ns) (do_otherwise t d m ns)) (do_tasks (resolved_otherwise t d) m vs) refl other)))
  act-same (Leave c) s m ns vs h l room =
      let truth = (resolved_value_is_same s c m ns vs h (omega arith)).holds_is None in
      subst (λ o. Matches s s (leave m ns (holds s c m ns)) (quit m vs o)) (sym truth) (leave-same s m ns vs (holds s c m ns) h l)

  pub block-same : (b : Block) (s : Scope) (m : Memory) (ns : Names) (vs : Slots) → AreInSlots s.visible ns vs → length vs ≡ most_slots → length s.visible + block_lets b ≤ most_slots → Matches s (after_block s b) (do_block s b m ns) (do_tasks (resolved_block s b) m vs)
  block-same Done s m ns vs h l room = Nexts m ns vs h l
  block-same (Then a b) s m ns vs h l room =
      let r = action_room s a in
      then-same s (after_action s a) (after_block (after_action s a) b) (act s a m ns) (do_task (resolved_action s a) m vs) (do_block (after_action s a) b) (do_tasks (resolved_block (after_action s a) b))
      (act-same a s m ns vs h l (omega arith)) (visible_after s a) (λ m' ns' vs' h' l'. block-same b (after_action s a) m' ns' vs' h' l' (omega arith))

  otherwise-same : (d : Otherwise) (s : Scope) (n : ℕ) (m : Memory) (ns : Names) (vs : Slots) → AreInSlots s.visible ns vs → length vs ≡ most_slots → length s.visible + otherwise_lets d ≤ most_slots → n ≡ length s.visible → Closed s (cut n (do_otherwise s d m ns)) (do_tasks (resolved_otherwise s d) m vs)
  otherwise-same Nothing s n m ns vs h l room e = cut-same s s n (Next m ns) (Next m vs) (Nexts m ns vs h l) (extends_none s.visible) e
  otherwise-same (Else b) s n m ns vs h l room e = cut-same s (after_block s b) n (do_block s b m ns) (do_tasks (resolved_block s b) m vs) (block-same b s m ns vs h l room) (visible_block s b) e
