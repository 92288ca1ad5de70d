-- Iterations of statements in which no rule fails leave each name a value of its type.
use Rattle.std.proofs.Common.{◌≡◌, ℕ, zero, suc, ◌+◌, ◌^◌, ◌≤◌, ◌<◌, Bool, true, false, List, [], length, take, Option, Some, None, Result, Ok, Err, refl, sym, ap, ◌∙◌, subst, arith}
use Rattle.std.specs.Prelude.{ℤ, pos, option_and_then}
use Rattle.guest_types.specs.declared.memory.AccessFault.{AccessFault}
use Rattle.guest_types.specs.Memory.{Memory, stored}
use Rattle.kernel_tree.specs.declared.ops.Ty.{Ty}
use Rattle.kernel_tree.specs.declared.ops.Ty.TheVariants.{U64}
use Rattle.kernel_tree.specs.declared.ops.UpdateOp.{UpdateOp}
use Rattle.kernel_tree.specs.Plain.{Term, Action, Define, Put, Update, Choose, Leave, Block, Done, Then, Otherwise, Nothing, Else, PlainLoop}
use Rattle.kernel_tree.specs.Items.{term_size, block_size, action_size, stream_offset}
use Rattle.kernel_tree.specs.Typing.{Scope, Local, Value, Condition, local, lookup, own, first, element_type, accumulator_type, index_type, after_action, after_block, left, defined, in_loop, faults, action_faults, block_faults, otherwise_faults}
use Rattle.kernel_meaning.specs.Ends.{BlockEnd, Next, Broke, Faulted, LoopState, go_on}
use Rattle.kernel_meaning.specs.Operators.{word, binary_value, operator_of}
use Rattle.kernel_meaning.specs.TypeValues.{IsOf}
use Rattle.kernel_meaning.specs.Eval.{Names, value_at, iteration, element_number, address, value, holds}
use Rattle.kernel_meaning.specs.Iterate.{with_name, cut, define, update, write, put, choose, leave, then_do, act, do_block, do_otherwise, iterate}
use Rattle.kernel_meaning.specs.ScalarRun.{iterations}
use Rattle.kernel_meaning.specs.Ranges.{AreRanged, LeavesRanged}
use Rattle.kernel_meaning.proofs.TypeRanges.{is_of, wrap-is_of}
use Rattle.kernel_meaning.proofs.Extends.{Extends, extends_none, extends_one, extends_on, extends_length, take_less, visible_after, visible_block}
use Rattle.kernel_meaning.proofs.NameRanges.{ranged_more, ranged_length, ranged_cut, ranged_assigned, acc_value}
use Rattle.kernel_meaning.proofs.ValueRanges.{typed, value_range}
use Rattle.kernel_tree.proofs.Faultless.{nil-left, nil-right}
use Rattle.kernel_tree.proofs.NoFault.{update_some as no_update}
use Rattle.kernel_tree.specs.declared.fault.Binding.TheVariants as binding
use Rattle.kernel_tree.specs.Wrap.{byte_count}

-- names that a statement leaves are in range: those that are visible after it, and after a `break` the outer ones
abbrev pub RangedIteration : List Local → List Local → BlockEnd Names → Type 0
RangedIteration outer ls (Next m names) = AreRanged ls names
RangedIteration outer ls (Broke m names) = AreRanged outer (take (length outer) names)
RangedIteration outer ls (Faulted m) = Unit {0}

cut_front : (outer ls : List Local) (names : Names) → Extends outer ls → AreRanged ls names → AreRanged outer (take (length outer) names)
cut_front outer ls names x h = ranged_cut outer x.more names (subst (λ l. AreRanged l names) x.is h)

cut_ranged : (outer ls ls2 : List Local) (n : ℕ) (iteration_end : BlockEnd Names) → n ≡ length ls → Extends outer ls → Extends ls ls2 → RangedIteration outer ls2 iteration_end → RangedIteration outer ls (cut n iteration_end)
cut_ranged outer ls ls2 n (Next m names) e x y h = subst (λ k. AreRanged ls (take k names)) (sym e) (cut_front ls ls2 names y h)
cut_ranged outer ls ls2 n (Broke m names) e x y h = let z = extends_length x in subst (AreRanged outer) (sym (take_less (length outer) n names (omega (arith, e, z)))) h
cut_ranged outer ls ls2 n (Faulted m) e x y h = tt

write_ranged : (outer ls : List Local) (m : Memory) (names : Names) (r : Result Memory AccessFault) → AreRanged ls names → RangedIteration outer ls (write m names r)
write_ranged outer ls m names (Ok after) h = h
write_ranged outer ls m names (Err fault) h = tt

put_ranged : (outer ls : List Local) (t : Option Ty) (base : ℤ) (m : Memory) (names : Names) (v x : Option ℤ) → AreRanged ls names → RangedIteration outer ls (put t base m names v x)
put_ranged outer ls t base m names None x h = tt
put_ranged outer ls t base m names (Some v) None h = tt
put_ranged outer ls None base m names (Some v) (Some x) h = tt
put_ranged outer ls (Some t) base m names (Some v) (Some x) h = write_ranged outer ls m names (stored m (address t base x) (byte_count t) (word v)) h

define_ranged : (outer : List Local) (s : Scope) (x : List ℕ) (want : Option Ty) (m : Memory) (names : Names) (o : Option ℤ) → AreRanged s.visible names → ((T : Ty) (v : ℤ) → want ≡ Some T → o ≡ Some v → IsOf T v) → RangedIteration outer (defined s x want).visible (define x want m names o)
define_ranged outer s x want m names None h range = tt
define_ranged outer s x None m names (Some v) h range = h
define_ranged outer s x (Some T) m names (Some v) h range = ranged_more s.visible names (local x (binding.Value T)) v h (range T v refl refl)

update_ranged : (outer : List Local) (s : Scope) (x : List ℕ) (op : UpdateOp) (want : Option Ty) (T : Ty) (m : Memory) (names : Names) (o : Option ℤ) → want ≡ option_and_then accumulator_type (lookup s x) → want ≡ Some T → AreRanged s.visible names → RangedIteration outer s.visible (update x op want m names o)
update_ranged outer s x op want T m names None e0 e h = tt
update_ranged outer s x op want T m names (Some v) e0 e h =
    subst (λ w. RangedIteration outer s.visible (update x op w m names (Some v))) (sym e)
    (ranged_assigned T s.visible names x (binary_value (operator_of op) (Some T) (value_at names x) v) (wrap-is_of T _) h (acc_value T (lookup s x) (sym e0 ∙ e)))

choose_ranged : (outer ls : List Local) (m : Memory) (c : Option Bool) (one other : BlockEnd Names) → RangedIteration outer ls one → RangedIteration outer ls other → RangedIteration outer ls (choose m c one other)
choose_ranged outer ls m None one other h k = tt
choose_ranged outer ls m (Some true) one other h k = h
choose_ranged outer ls m (Some false) one other h k = k

leave_ranged : (outer ls : List Local) (m : Memory) (names : Names) (c : Option Bool) → Extends outer ls → AreRanged ls names → RangedIteration outer ls (leave m names c)
leave_ranged outer ls m names None x h = tt
leave_ranged outer ls m names (Some true) x h = cut_front outer ls names x h
leave_ranged outer ls m names (Some false) x h = h

then_ranged : (outer ls ls2 : List Local) (iteration_end : BlockEnd Names) (more : Memory → Names → BlockEnd Names) → RangedIteration outer ls iteration_end → ((m : Memory) (names : Names) → AreRanged ls names → RangedIteration outer ls2 (more m names)) → RangedIteration outer ls2 (then_do iteration_end more)
then_ranged outer ls ls2 (Next m names) more h f = f m names h
then_ranged outer ls ls2 (Broke m names) more h f = h
then_ranged outer ls ls2 (Faulted m) more h f = tt

-- after an iteration the outer names are in range
abbrev RangedEnd : List Local → BlockEnd Names → Type 0
RangedEnd ls (Next m names) = AreRanged ls names
RangedEnd ls (Broke m names) = AreRanged ls names
RangedEnd ls (Faulted m) = Unit {0}

end_ranged : (ls ls2 : List Local) (n : ℕ) (iteration_end : BlockEnd Names) → n ≡ length ls → Extends ls ls2 → RangedIteration ls ls2 iteration_end → RangedEnd ls (cut n iteration_end)
end_ranged ls ls2 n (Next m names) e x h = subst (λ k. AreRanged ls (take k names)) (sym e) (cut_front ls ls2 names x h)
end_ranged ls ls2 n (Broke m names) e x h = subst (λ k. AreRanged ls (take k names)) (sym e) h
end_ranged ls ls2 n (Faulted m) e x h = tt

-- a value that is wanted
wanted_range : (s : Scope) (from : ℕ) (names : Names) (m : Memory) (e : Term) (want : Option Ty) (T : Ty) (v : ℤ) → want ≡ Some T → faults s from (Value want) e ≡ [] → AreRanged s.visible names → value s want e m names ≡ Some v → IsOf T v
wanted_range s from names m e want T v q none r is = value_range e s T m names v (typed e s from T (subst (λ w. faults s from (Value w) e ≡ []) q none)) r (sym (ap (λ w. value s w e m names) q) ∙ is)

mutual
  action_ranged : (a : Action) (outer : List Local) (s : Scope) (from : ℕ) (m : Memory) (names : Names) → Extends outer s.visible → action_faults s from a ≡ [] → AreRanged s.visible names → RangedIteration outer (after_action s a).visible (act s a m names)
  action_ranged (Define x t e) outer s from m names ext none h =
      let want = first t (own s e) in
      define_ranged outer s x want m names (value s want e m names) h (λ T v q is. wanted_range s from names m e want T v q (nil-left (faults s from (Value want) e) _ none) h is)
  action_ranged (Put a i e) outer s from m names ext none h =
      put_ranged outer s.visible (option_and_then element_type (lookup s a)) (value_at names a) m names (value s (option_and_then element_type (lookup s a)) e m names) (element_number (stream_offset s.index i) (iteration s.index names) (value s (index_type s i) i m names)) h
  action_ranged (Update x op e) outer s from m names ext none h =
      let want = option_and_then accumulator_type (lookup s x) in
      let w = no_update (from + term_size s.index e) (lookup s x) (nil-right (faults s from (Value want) e) _ none) in
      update_ranged outer s x op want w.0 m names (value s want e m names) refl w.1 h
  action_ranged (Choose c b d) outer s from m names ext none h =
      let n = ranged_length s.visible names h in
      let next = from + term_size s.index c + 1 in
      let rest = nil-right (faults s from Condition c) _ none in
      choose_ranged outer s.visible m (holds s c m names) (cut (length names) (do_block s b m names)) (cut (length names) (do_otherwise (left s (after_block s b)) d m names))
      (cut_ranged outer s.visible (after_block s b).visible (length names) (do_block s b m names) n ext (visible_block s b) (block_ranged b outer s next m names ext (nil-left (block_faults s next b) _ rest) h))
      (otherwise_ranged d outer (left s (after_block s b)) (next + block_size s.index b) m names n ext (nil-right (block_faults s next b) _ rest) h)
  action_ranged (Leave c) outer s from m names ext none h = leave_ranged outer s.visible m names (holds s c m names) ext h

  block_ranged : (b : Block) (outer : List Local) (s : Scope) (from : ℕ) (m : Memory) (names : Names) → Extends outer s.visible → block_faults s from b ≡ [] → AreRanged s.visible names → RangedIteration outer (after_block s b).visible (do_block s b m names)
  block_ranged Done outer s from m names ext none h = h
  block_ranged (Then a b) outer s from m names ext none h =
      then_ranged outer (after_action s a).visible (after_block (after_action s a) b).visible (act s a m names) (do_block (after_action s a) b) (action_ranged a outer s from m names ext (nil-left (action_faults s from a) _ none) h)
      (λ m2 names2 k. block_ranged b outer (after_action s a) (from + action_size s.index a) m2 names2 (extends_on ext (visible_after s a)) (nil-right (action_faults s from a) _ none) k)

  otherwise_ranged : (d : Otherwise) (outer : List Local) (s : Scope) (from : ℕ) (m : Memory) (names : Names) → length names ≡ length s.visible → Extends outer s.visible → otherwise_faults s from d ≡ [] → AreRanged s.visible names → RangedIteration outer s.visible (cut (length names) (do_otherwise s d m names))
  otherwise_ranged Nothing outer s from m names n ext none h = cut_ranged outer s.visible s.visible (length names) (Next m names) n ext (extends_none s.visible) h
  otherwise_ranged (Else b) outer s from m names n ext none h = cut_ranged outer s.visible (after_block s b).visible (length names) (do_block s b m names) n ext (visible_block s b) (block_ranged b outer s (from + 1) m names ext none h)

iterate_ranged : (s : Scope) (l : PlainLoop) (from i : ℕ) (m : Memory) (names : Names) → block_faults (in_loop s l) from l.body ≡ [] → i < 2 ^ 64 → AreRanged s.visible names → RangedEnd s.visible (iterate s l i m names)
iterate_ranged s l from i m names none small h =
    let inner = extends_one s.visible (local l.index binding.Index) in
    let start : AreRanged (in_loop s l).visible (with_name l.index names (pos i)) = ranged_more s.visible names (local l.index binding.Index) (pos i) h (is_of U64 (pos i) small) in
    end_ranged s.visible (after_block (in_loop s l) l.body).visible (length names) (do_block (in_loop s l) l.body m (with_name l.index names (pos i))) (ranged_length s.visible names h) (extends_on inner (visible_block (in_loop s l) l.body))
    (block_ranged l.body s.visible (in_loop s l) from m (with_name l.index names (pos i)) inner none start)

go_on_ranged : (ls : List Local) (iteration_end : BlockEnd Names) (i : ℕ) (rest : Memory → Names → LoopState Names) → RangedEnd ls iteration_end → ((m : Memory) (names : Names) → AreRanged ls names → LeavesRanged ls (rest m names)) → LeavesRanged ls (go_on iteration_end i rest)
go_on_ranged ls (Next m names) i rest h f = f m names h
go_on_ranged ls (Broke m names) i rest h f = h
go_on_ranged ls (Faulted m) i rest h f = tt

pub iterations_ranged : (count i : ℕ) (s : Scope) (l : PlainLoop) (from : ℕ) (m : Memory) (names : Names) → block_faults (in_loop s l) from l.body ≡ [] → i + count ≤ 2 ^ 64 → AreRanged s.visible names → LeavesRanged s.visible (iterations s l count i m names)
unfolding iterations
iterations_ranged zero i s l from m names none small h = h
iterations_ranged (suc count) i s l from m names none small h =
    go_on_ranged s.visible (iterate s l i m names) i (iterations s l count (i + 1)) (iterate_ranged s l from i m names none (omega (arith, small)) h)
    (λ m2 names2 k. iterations_ranged count (i + 1) s l from m2 names2 none (omega (arith, small)) k)
