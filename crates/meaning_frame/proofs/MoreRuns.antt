-- A run that ends ends alike where the memory has other pages too.
use Rattle.std.proofs.Common.{◌≡◌, ℕ, zero, suc, ◌+◌, Bool, true, false, List, [], ◌∷◌, length, Option, Some, None, Result, Ok, Err, refl, sym, ap, subst}
use Rattle.std.specs.Prelude.{ℤ, pos, option_map, option_and_then}
use Rattle.guest_types.specs.declared.memory.AccessFault.{AccessFault}
use Rattle.guest_types.specs.Memory.{Memory, stored, merged, DoNotMeet}
use Rattle.kernel_tree.specs.declared.ops.Ty.{Ty}
use Rattle.kernel_tree.specs.declared.ops.UpdateOp.{UpdateOp}
use Rattle.kernel_tree.specs.declared.fault.Binding.TheVariants as binding
use Rattle.kernel_tree.specs.Plain.{Accumulator, Action, Define, Put, Update, Choose, Leave, Block, Done, Then, Otherwise, Nothing, Else, PlainLoop, Returned, Program}
use Rattle.kernel_tree.specs.Items.{stream_offset}
use Rattle.kernel_tree.specs.Typing.{Scope, lookup, own, first, element_type, accumulator_type, index_type, after_action, after_block, after_for_loop, left, in_loop, declared, param_scope, var_scope}
use Rattle.kernel_tree.specs.Wrap.{byte_count}
use Rattle.kernel_meaning.specs.Ends.{BlockEnd, Next, Broke, Faulted, LoopState, Going, Left, Failed, go_on}
use Rattle.kernel_meaning.specs.Operators.{word}
use Rattle.kernel_meaning.specs.Eval.{Names, value_at, address, iteration, value}
use Rattle.kernel_meaning.specs.Iterate.{with_name, cut, define, update, write, put, choose, leave, then_do, act, do_block, do_otherwise, iterate}
use Rattle.kernel_meaning.specs.ScalarRun.{initial, iterations, bound_of, Run, End, Fault, returned, ended, closed, finish, run_for_loop, run_named, started, scalar_run, argument_names}
use Rattle.meaning_frame.proofs.MorePages.{stored-merged, apart-stored}
use Rattle.meaning_frame.proofs.MoreValues.{Gives, map_gives, number_gives, value_gives, holds_gives}

module _ (others : Memory) where
  -- ---- statements

  -- where the one does not fault, the other ends alike, and leaves the other pages
  abbrev Does : BlockEnd Names → BlockEnd Names → Type 0
  Does (Next memory names) other = (other ≡ Next (merged others memory) names) × DoNotMeet others memory
  Does (Broke memory names) other = (other ≡ Broke (merged others memory) names) × DoNotMeet others memory
  Does (Faulted memory) other = Unit {0}

  cut_does : (n : ℕ) (a b : BlockEnd Names) → Does a b → Does (cut n a) (cut n b)
  cut_does n (Next memory names) b h = (ap (cut n) h.0, h.1)
  cut_does n (Broke memory names) b h = (ap (cut n) h.0, h.1)
  cut_does n (Faulted memory) b h = tt

  then_does : (a b : BlockEnd Names) (f : Memory → Names → BlockEnd Names) → ((memory : Memory) (names : Names) → DoNotMeet others memory → Does (f memory names) (f (merged others memory) names)) → Does a b → Does (then_do a f) (then_do b f)
  then_does (Next memory names) b f all h = subst (λ t. Does (f memory names) (then_do t f)) (sym h.0) (all memory names h.1)
  then_does (Broke memory names) b f all h = (ap (λ t. then_do t f) h.0, h.1)
  then_does (Faulted memory) b f all h = tt

  module _ (memory : Memory) (apart : DoNotMeet others memory) (names : Names) where
    define_does : (x : List ℕ) (want : Option Ty) (a b : Option ℤ) → Gives a b → Does (define x want memory names a) (define x want (merged others memory) names b)
    define_does x want None b h = tt
    define_does x want (Some v) b h = (ap (define x want (merged others memory) names) h, apart)

    update_does : (x : List ℕ) (op : UpdateOp) (want : Option Ty) (a b : Option ℤ) → Gives a b → Does (update x op want memory names a) (update x op want (merged others memory) names b)
    update_does x op want None b h = tt
    update_does x op want (Some v) b h = (ap (update x op want (merged others memory) names) h, apart)

    put_does : (t : Option Ty) (base : ℤ) (a b c d : Option ℤ) → Gives a b → Gives c d → Does (put t base memory names a c) (put t base (merged others memory) names b d)
    put_does t base None b c d h k = tt
    put_does t base (Some v) b None d h k = tt
    put_does None base (Some v) b (Some x) d h k = tt
    put_does (Some t) base (Some v) b (Some x) d h k =
        subst (λ o. Does (write memory names (stored memory (address t base x) (byte_count t) (word v))) (put (Some t) base (merged others memory) names o d)) (sym h)
        (subst (λ o. Does (write memory names (stored memory (address t base x) (byte_count t) (word v))) (put (Some t) base (merged others memory) names (Some v) o)) (sym k)
        (go (stored memory (address t base x) (byte_count t) (word v)) refl))
      where
        go : (r : Result Memory AccessFault) → stored memory (address t base x) (byte_count t) (word v) ≡ r → Does (write memory names r) (write (merged others memory) names (stored (merged others memory) (address t base x) (byte_count t) (word v)))
        go (Ok after) e =
            (ap (write (merged others memory) names) (stored-merged others memory after (address t base x) (byte_count t) (word v) apart e), apart-stored others memory after (address t base x) (byte_count t) (word v) apart e)
        go (Err fault) e = tt

    choose_does : (a b : Option Bool) (one other one2 other2 : BlockEnd Names) → Gives a b → Does one one2 → Does other other2 → Does (choose memory a one other) (choose (merged others memory) b one2 other2)
    choose_does None b one other one2 other2 h k l = tt
    choose_does (Some true) b one other one2 other2 h k l = subst (λ o. Does one (choose (merged others memory) o one2 other2)) (sym h) k
    choose_does (Some false) b one other one2 other2 h k l = subst (λ o. Does other (choose (merged others memory) o one2 other2)) (sym h) l

    leave_does : (a b : Option Bool) → Gives a b → Does (leave memory names a) (leave (merged others memory) names b)
    leave_does None b h = tt
    leave_does (Some true) b h = (ap (leave (merged others memory) names) h, apart)
    leave_does (Some false) b h = (ap (leave (merged others memory) names) h, apart)

  mutual
    act_does : (a : Action) (s : Scope) (memory : Memory) (names : Names) → DoNotMeet others memory → Does (act s a memory names) (act s a (merged others memory) names)
    act_does (Define x t e) s memory names apart = let want = first t (own s e) in define_does memory apart names x want _ _ (value_gives others memory apart e s want names)
    act_does (Put a i e) s memory names apart =
        let type = option_and_then element_type (lookup s a) in
        put_does memory apart names type (value_at names a) _ _ _ _ (value_gives others memory apart e s type names)
        (number_gives (stream_offset s.index i) (iteration s.index names) _ _ (value_gives others memory apart i s (index_type s i) names))
    act_does (Update x op e) s memory names apart =
        let want = option_and_then accumulator_type (lookup s x) in update_does memory apart names x op want _ _ (value_gives others memory apart e s want names)
    act_does (Choose c b d) s memory names apart =
        choose_does memory apart names _ _ _ _ _ _ (holds_gives others memory apart c s names) (cut_does (length names) _ _ (block_does b s memory names apart))
        (cut_does (length names) _ _ (otherwise_does d (left s (after_block s b)) memory names apart))
    act_does (Leave c) s memory names apart = leave_does memory apart names _ _ (holds_gives others memory apart c s names)

    block_does : (b : Block) (s : Scope) (memory : Memory) (names : Names) → DoNotMeet others memory → Does (do_block s b memory names) (do_block s b (merged others memory) names)
    block_does Done s memory names apart = (refl, apart)
    block_does (Then a b) s memory names apart =
        then_does (act s a memory names) (act s a (merged others memory) names) (do_block (after_action s a) b) (block_does b (after_action s a)) (act_does a s memory names apart)

    otherwise_does : (d : Otherwise) (s : Scope) (memory : Memory) (names : Names) → DoNotMeet others memory → Does (do_otherwise s d memory names) (do_otherwise s d (merged others memory) names)
    otherwise_does Nothing s memory names apart = (refl, apart)
    otherwise_does (Else b) s memory names apart = block_does b s memory names apart

  iterate_does : (s : Scope) (l : PlainLoop) (i : ℕ) (memory : Memory) (names : Names) → DoNotMeet others memory → Does (iterate s l i memory names) (iterate s l i (merged others memory) names)
  iterate_does s l i memory names apart = cut_does (length names) _ _ (block_does l.body (in_loop s l) memory (with_name l.index names (pos i)) apart)

  -- ---- the loop

  abbrev Stands : LoopState Names → LoopState Names → Type 0
  Stands (Going memory names) other = (other ≡ Going (merged others memory) names) × DoNotMeet others memory
  Stands (Left memory names i) other = (other ≡ Left (merged others memory) names i) × DoNotMeet others memory
  Stands (Failed memory i) other = Unit {0}

  on_stands : (a b : BlockEnd Names) (i : ℕ) (f : Memory → Names → LoopState Names) → ((memory : Memory) (names : Names) → DoNotMeet others memory → Stands (f memory names) (f (merged others memory) names)) → Does a b → Stands (go_on a i f) (go_on b i f)
  on_stands (Next memory names) b i f all h = subst (λ t. Stands (f memory names) (go_on t i f)) (sym h.0) (all memory names h.1)
  on_stands (Broke memory names) b i f all h = (ap (λ t. go_on t i f) h.0, h.1)
  on_stands (Faulted memory) b i f all h = tt

  iterations_stand : (count : ℕ) (s : Scope) (l : PlainLoop) (i : ℕ) (memory : Memory) (names : Names) → DoNotMeet others memory → Stands (iterations s l count i memory names) (iterations s l count i (merged others memory) names)
  unfolding iterations
  iterations_stand zero s l i memory names apart = (refl, apart)
  iterations_stand (suc count) s l i memory names apart =
      on_stands (iterate s l i memory names) (iterate s l i (merged others memory) names) i (iterations s l count (i + 1)) (iterations_stand count s l (i + 1)) (iterate_does s l i memory names apart)

  -- ---- the whole run

  -- where the one ends, the other ends alike, and leaves the other pages
  abbrev pub Ends : Run → Run → Type 0
  Ends (End memory result m) other = (other ≡ End (merged others memory) result m) × DoNotMeet others memory
  Ends (Fault memory m) other = Unit {0}

  ended_ends : (memory : Memory) (n : ℕ) (a b : Option ℕ) → DoNotMeet others memory → Gives a b → Ends (ended memory n a) (ended (merged others memory) n b)
  ended_ends memory n None b apart h = tt
  ended_ends memory n (Some result) b apart h = (ap (ended (merged others memory) n) h, apart)

  returned_gives : (s : Scope) (answer : Option Returned) (memory : Memory) (names : Names) → DoNotMeet others memory → Gives (returned s answer memory names) (returned s answer (merged others memory) names)
  returned_gives s None memory names apart = refl
  returned_gives s (Some a) memory names apart = map_gives word _ _ (value_gives others memory apart a.value s (Some a.type) names)

  closed_ends : (s : Scope) (l : PlainLoop) (answer : Option Returned) (memory : Memory) (names : Names) (done n : ℕ) → DoNotMeet others memory → Ends (closed s l answer memory names done n) (closed s l answer (merged others memory) names done n)
  closed_ends s l answer memory names done n apart =
      ended_ends memory n _ _ apart (returned_gives (after_for_loop s (Some l)) answer memory (with_name l.index names (pos done)) apart)

  finish_ends : (s : Scope) (l : PlainLoop) (answer : Option Returned) (n : ℕ) (a b : LoopState Names) → Stands a b → Ends (finish s l answer n a) (finish s l answer n b)
  finish_ends s l answer n (Going memory names) b h =
      subst (λ t. Ends (closed s l answer memory names n n) (finish s l answer n t)) (sym h.0) (closed_ends s l answer memory names n n h.1)
  finish_ends s l answer n (Left memory names i) b h =
      subst (λ t. Ends (closed s l answer memory names i (i + 1)) (finish s l answer n t)) (sym h.0) (closed_ends s l answer memory names i (i + 1) h.1)
  finish_ends s l answer n (Failed memory i) b h = tt

  for_loop_ends : (s : Scope) (for_loop : Option PlainLoop) (answer : Option Returned) (memory : Memory) (names : Names) → DoNotMeet others memory → Ends (run_for_loop s for_loop answer memory names) (run_for_loop s for_loop answer (merged others memory) names)
  for_loop_ends s None answer memory names apart = ended_ends memory 0 _ _ apart (returned_gives s answer memory names apart)
  for_loop_ends s (Some l) answer memory names apart = finish_ends s l answer (bound_of l names) _ _ (iterations_stand (bound_of l names) s l 0 memory names apart)

  initial_gives : (vs : List Accumulator) (s : Scope) (memory : Memory) (names : Names) → DoNotMeet others memory → Gives (initial s vs memory names) (initial s vs (merged others memory) names)
  initial_gives [] s memory names apart = refl
  initial_gives (v ∷ vs) s memory names apart =
      go (value s (Some v.type) v.init memory names) (value_gives others memory apart v.init s (Some v.type) names) (λ n. initial_gives vs (declared s v.name (binding.Accumulator v.type)) memory n apart)
    where
      next : Memory → Names → Option Names
      next m n = initial (declared s v.name (binding.Accumulator v.type)) vs m n

      go : (a : Option ℤ) → Gives a (value s (Some v.type) v.init (merged others memory) names) → ((n : Names) → Gives (next memory n) (next (merged others memory) n))
          → Gives (option_and_then (next memory) (option_map (with_name v.name names) a)) (initial s (v ∷ vs) (merged others memory) names)
      go None h all = tt
      go (Some x) h all =
          subst (λ o. Gives (next memory (with_name v.name names x)) (option_and_then (next (merged others memory)) (option_map (with_name v.name names) o))) (sym h) (all (with_name v.name names x))

  named_ends : (k : Program) (memory : Memory) (a b : Option Names) → DoNotMeet others memory → Gives a b → Ends (run_named k memory a) (run_named k (merged others memory) b)
  named_ends k memory None b apart h = tt
  named_ends k memory (Some names) b apart h =
      subst (λ o. Ends (run_for_loop (var_scope k) k.for_loop k.answer memory names) (run_named k (merged others memory) o)) (sym h) (for_loop_ends (var_scope k) k.for_loop k.answer memory names apart)

  scalar_run_ends_with_more : (k : Program) (args : List ℕ) (memory : Memory) → DoNotMeet others memory → Ends (scalar_run k args memory) (scalar_run k args (merged others memory))
  scalar_run_ends_with_more k args memory apart = named_ends k memory (started k args memory) (started k args (merged others memory)) apart (initial_gives k.vars (param_scope k) memory (argument_names k.params args) apart)

  pub run-merged : (k : Program) (args : List ℕ) (memory after : Memory) (result m : ℕ) → DoNotMeet others memory → scalar_run k args memory ≡ End after result m
      → (scalar_run k args (merged others memory) ≡ End (merged others after) result m) × DoNotMeet others after
  run-merged k args memory after result m apart e = subst (λ r. Ends r (scalar_run k args (merged others memory))) e (scalar_run_ends_with_more k args memory apart)
