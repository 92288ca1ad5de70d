-- A run that does not come to some bytes is the same whatever they hold.
use Rattle.std.proofs.Common.{◌≡◌, ℕ, zero, suc, ◌+◌, ◌^◌, ◌<◌, Bool, true, false, List, [], ◌∷◌, ◌++◌, length, Option, Some, None, Result, Ok, Err, refl, sym, ap, ap₂, ◌∙◌, subst}
use Rattle.std.specs.Prelude.{ℤ, pos, not, option_map, option_and_then}
use Rattle.guest_types.specs.declared.memory.AccessFault.{AccessFault}
use Rattle.guest_types.specs.Memory.{Memory, can_read, can_write, first_fault, number_at, put_number, loaded, stored, Disjoint}
use Rattle.guest_types.proofs.Stores.{first_fault-ext, can_read-put_number, can_write-put_number, number_at-put_number_other, put_number-put_number_other}
use Rattle.kernel_tree.specs.declared.ops.Ty.{Ty}
use Rattle.kernel_tree.specs.declared.ops.UpdateOp.{UpdateOp}
use Rattle.kernel_tree.specs.declared.fault.Binding.TheVariants as binding
use Rattle.kernel_tree.specs.Plain.{Term, Literal, Variable, Element, Unary, Operation, Shift, Conversion, Choice, Comparison, Both, Either, Not, Accumulator, Action, Define, Put, Update, Choose, Leave, Block, Done, Then, Otherwise, Nothing, Else, PlainLoop, Returned, Program}
use Rattle.kernel_tree.specs.Wrap.{wrap, byte_count}
use Rattle.kernel_tree.specs.Items.{stream_offset}
use Rattle.kernel_tree.specs.Typing.{Scope, lookup, own, first, element_type, accumulator_type, index_type, side_type, after_action, after_block, after_for_loop, left, in_loop, declared, param_scope, var_scope}
use Rattle.kernel_meaning.specs.Ends.{BlockEnd, Next, Broke, Faulted, LoopState, Going, Left, Failed, go_on}
use Rattle.kernel_meaning.specs.Operators.{word, unary_value, binary_value, shift_value, compare_on}
use Rattle.kernel_meaning.specs.Eval.{Names, value_at, address, iteration, element_number, read_value, read_element, on_both, choose_value, chosen, and_then, or_else, value, holds}
use Rattle.kernel_meaning.specs.Iterate.{with_name, cut, define, update, write, put, choose, leave, then_do, act, do_block, do_otherwise, iterate}
use Rattle.kernel_meaning.specs.ScalarRun.{initial, iterations, bound_of, Run, End, Fault, returned, ended, closed, finish, run_for_loop, run_named, started, scalar_run, argument_names}
use Rattle.kernel_meaning.proofs.Residues.{word-below}
use Rattle.meaning_frame.specs.Accesses.{Access, element_access, where_true, where_false, reads, condition_reads, after, act_accesses, block_accesses, otherwise_accesses, loop_accesses, behind, initial_accesses, answer_accesses, finish_accesses, for_loop_accesses, accesses, IsOff, AreOff, run_with}

module _ (lo n v : ℕ) (low : lo < 2 ^ 64) where
  -- the memory with other bytes there
  abbrev changed : Memory → Memory
  changed memory = put_number memory lo n v

  abbrev Off : List Access → Type 0
  Off xs = AreOff lo n xs

  off_front : (xs ys : List Access) → Off (xs ++ ys) → Off xs
  off_front [] ys h = tt
  off_front (x ∷ xs) ys h = (h.0, off_front xs ys h.1)

  off_back : (xs ys : List Access) → Off (xs ++ ys) → Off ys
  off_back [] ys h = h
  off_back (x ∷ xs) ys h = off_back xs ys h.1

  -- ---- reads and writes

  load_same : (memory : Memory) (c k : ℕ) → c < 2 ^ 64 → Disjoint lo n c k → loaded (changed memory) c k ≡ loaded memory c k
  load_same memory c k small off =
      ap₂ (λ o w. elim o as (λ o. Result ℕ AccessFault) [ None ↦ Ok w | Some fault ↦ Err (record { address = fault; write = false }) ])
      (first_fault-ext (can_read (changed memory)) (can_read memory) c k (can_read-put_number memory lo n v))
      (number_at-put_number_other memory lo n v c k low small off)

  -- what a store comes to, with other bytes
  abbrev after_store : Result Memory AccessFault → Result Memory AccessFault
  after_store (Ok memory) = Ok (changed memory)
  after_store (Err fault) = Err fault

  store_same : (memory : Memory) (c k w : ℕ) → c < 2 ^ 64 → Disjoint lo n c k → stored (changed memory) c k w ≡ after_store (stored memory c k w)
  store_same memory c k w small off =
      ap₂ (λ o m. elim o as (λ o. Result Memory AccessFault) [ None ↦ Ok m | Some fault ↦ Err (record { address = fault; write = true }) ])
      (first_fault-ext (can_write (changed memory)) (can_write memory) c k (can_write-put_number memory lo n v))
      (put_number-put_number_other memory lo n v c k w low small off)
      ∙ by (first_fault (can_write memory) c k)
    where
      by : (o : Option ℕ) → elim o as (λ o. Result Memory AccessFault) [ None ↦ Ok (changed (put_number memory c k w)) | Some fault ↦ Err (record { address = fault; write = true }) ]
          ≡ after_store (elim o as (λ o. Result Memory AccessFault) [ None ↦ Ok (put_number memory c k w) | Some fault ↦ Err (record { address = fault; write = true }) ])
      by None = refl
      by (Some fault) = refl

  address_low : (t : Ty) (base x : ℤ) → address t base x < 2 ^ 64
  address_low t base x = word-below _

  -- ---- expressions

  read_same : (t : Option Ty) (memory : Memory) (base : ℤ) (x : Option ℤ) → Off (element_access t base x) → option_and_then (read_element t (changed memory) base) x ≡ option_and_then (read_element t memory base) x
  read_same None memory base None h = refl
  read_same None memory base (Some x) h = refl
  read_same (Some t) memory base None h = refl
  read_same (Some t) memory base (Some x) h = ap (read_value t) (load_same memory (address t base x) (byte_count t) (address_low t base x) h.0)

  and_same : (a b c : Option Bool) (more : List Access) → Off (where_true a more) → (Off more → b ≡ c) → and_then a b ≡ and_then a c
  and_same None b c more h k = refl
  and_same (Some true) b c more h k = k h
  and_same (Some false) b c more h k = refl

  or_same : (a b c : Option Bool) (more : List Access) → Off (where_false a more) → (Off more → b ≡ c) → or_else a b ≡ or_else a c
  or_same None b c more h k = refl
  or_same (Some true) b c more h k = refl
  or_same (Some false) b c more h k = k h

  module _ (memory : Memory) where
    mutual
      value_same : (e : Term) (s : Scope) (want : Option Ty) (names : Names) → Off (reads s want e memory names) → value s want e (changed memory) names ≡ value s want e memory names
      value_same (Literal k) s want names h = refl
      value_same (Variable x) s want names h = refl
      value_same (Element a i) s want names h =
          let inner = reads s (index_type s i) i memory names in
          let same = value_same i s (index_type s i) names (off_front inner _ h) in
          ap (λ o. option_and_then (read_element (option_and_then element_type (lookup s a)) (changed memory) (value_at names a)) (element_number (stream_offset s.index i) (iteration s.index names) o)) same
          ∙ read_same (option_and_then element_type (lookup s a)) memory (value_at names a) _ (off_back inner _ h)
      value_same (Unary op e) s want names h = ap (option_map (unary_value op want)) (value_same e s want names h)
      value_same (Operation op a b) s want names h =
          ap₂ (on_both (binary_value op want)) (value_same a s want names (off_front (reads s want a memory names) _ h)) (value_same b s want names (off_back (reads s want a memory names) _ h))
      value_same (Shift left e k) s want names h = ap (option_map (shift_value left k want)) (value_same e s want names h)
      value_same (Conversion e t) s want names h = ap (option_map (wrap t)) (value_same e s (own s e) names h)
      value_same (Choice c a b) s want names h =
          let in_a = reads s want a memory names in
          let in_b = reads s want b memory names in
          let rest = off_back in_a _ h in
          ap (λ o. chosen o (value s want b (changed memory) names) (holds s c (changed memory) names)) (value_same a s want names (off_front in_a _ h))
          ∙ ap (λ o. chosen (value s want a memory names) o (holds s c (changed memory) names)) (value_same b s want names (off_front in_b _ rest))
          ∙ ap (chosen (value s want a memory names) (value s want b memory names)) (holds_same c s names (off_back in_b _ rest))
      value_same (Comparison op a b) s want names h = refl
      value_same (Both a b) s want names h = refl
      value_same (Either a b) s want names h = refl
      value_same (Not e) s want names h = refl

      holds_same : (e : Term) (s : Scope) (names : Names) → Off (condition_reads s e memory names) → holds s e (changed memory) names ≡ holds s e memory names
      holds_same (Comparison op a b) s names h =
          let t = side_type s a b in
          ap₂ (on_both (compare_on op)) (value_same a s t names (off_front (reads s t a memory names) _ h)) (value_same b s t names (off_back (reads s t a memory names) _ h))
      holds_same (Both a b) s names h =
          let in_a = condition_reads s a memory names in
          ap (λ o. and_then o (holds s b (changed memory) names)) (holds_same a s names (off_front in_a _ h))
          ∙ and_same (holds s a memory names) _ _ (condition_reads s b memory names) (off_back in_a _ h) (holds_same b s names)
      holds_same (Either a b) s names h =
          let in_a = condition_reads s a memory names in
          ap (λ o. or_else o (holds s b (changed memory) names)) (holds_same a s names (off_front in_a _ h))
          ∙ or_same (holds s a memory names) _ _ (condition_reads s b memory names) (off_back in_a _ h) (holds_same b s names)
      holds_same (Not e) s names h = ap (option_map not) (holds_same e s names h)
      holds_same (Literal k) s names h = refl
      holds_same (Variable x) s names h = refl
      holds_same (Element a i) s names h = refl
      holds_same (Unary op e) s names h = refl
      holds_same (Operation op a b) s names h = refl
      holds_same (Shift left e k) s names h = refl
      holds_same (Conversion e t) s names h = refl
      holds_same (Choice c a b) s names h = refl

  -- ---- statements

  abbrev end_with : BlockEnd Names → BlockEnd Names
  end_with (Next memory names) = Next (changed memory) names
  end_with (Broke memory names) = Broke (changed memory) names
  end_with (Faulted memory) = Faulted (changed memory)

  define_same : (x : List ℕ) (want : Option Ty) (memory : Memory) (names : Names) (o : Option ℤ) → define x want (changed memory) names o ≡ end_with (define x want memory names o)
  define_same x want memory names None = refl
  define_same x want memory names (Some k) = refl

  update_same : (x : List ℕ) (op : UpdateOp) (want : Option Ty) (memory : Memory) (names : Names) (o : Option ℤ) → update x op want (changed memory) names o ≡ end_with (update x op want memory names o)
  update_same x op want memory names None = refl
  update_same x op want memory names (Some k) = refl

  leave_same : (memory : Memory) (names : Names) (o : Option Bool) → leave (changed memory) names o ≡ end_with (leave memory names o)
  leave_same memory names None = refl
  leave_same memory names (Some true) = refl
  leave_same memory names (Some false) = refl

  write_same : (memory : Memory) (names : Names) (r : Result Memory AccessFault) → write (changed memory) names (after_store r) ≡ end_with (write memory names r)
  write_same memory names (Ok m) = refl
  write_same memory names (Err fault) = refl

  put_same : (t : Option Ty) (base : ℤ) (memory : Memory) (names : Names) (a b : Option ℤ) → Off (element_access t base b) → put t base (changed memory) names a b ≡ end_with (put t base memory names a b)
  put_same t base memory names None b h = refl
  put_same t base memory names (Some k) None h = refl
  put_same None base memory names (Some k) (Some x) h = refl
  put_same (Some t) base memory names (Some k) (Some x) h =
      ap (write (changed memory) names) (store_same memory (address t base x) (byte_count t) (word k) (address_low t base x) h.0)
      ∙ write_same memory names (stored memory (address t base x) (byte_count t) (word k))

  cut_same : (k : ℕ) (b : BlockEnd Names) → cut k (end_with b) ≡ end_with (cut k b)
  cut_same k (Next memory names) = refl
  cut_same k (Broke memory names) = refl
  cut_same k (Faulted memory) = refl

  choose_same : (memory : Memory) (o : Option Bool) (a b c d : BlockEnd Names) (xs ys : List Access) → Off (where_true o xs) → Off (where_false o ys) → (Off xs → a ≡ end_with c) → (Off ys → b ≡ end_with d) → choose (changed memory) o a b ≡ end_with (choose memory o c d)
  choose_same memory None a b c d xs ys h k p q = refl
  choose_same memory (Some true) a b c d xs ys h k p q = p h
  choose_same memory (Some false) a b c d xs ys h k p q = q k

  then_same : (b : BlockEnd Names) (f : Memory → Names → BlockEnd Names) (g : Memory → Names → List Access) → Off (after b g) → ((memory : Memory) (names : Names) → Off (g memory names) → f (changed memory) names ≡ end_with (f memory names)) → then_do (end_with b) f ≡ end_with (then_do b f)
  then_same (Next memory names) f g h all = all memory names h
  then_same (Broke memory names) f g h all = refl
  then_same (Faulted memory) f g h all = refl

  mutual
    act_same : (s : Action) (c : Scope) (memory : Memory) (names : Names) → Off (act_accesses c s memory names) → act c s (changed memory) names ≡ end_with (act c s memory names)
    act_same (Define x t e) c memory names h =
        let want = first t (own c e) in
        ap (define x want (changed memory) names) (value_same memory e c want names h) ∙ define_same x want memory names (value c want e memory names)
    act_same (Put a i e) c memory names h =
        let t = option_and_then element_type (lookup c a) in
        let u = index_type c i in
        let in_e = reads c t e memory names in
        let in_i = reads c u i memory names in
        let rest = off_back in_e _ h in
        ap (λ o. put t (value_at names a) (changed memory) names o (element_number (stream_offset c.index i) (iteration c.index names) (value c u i (changed memory) names))) (value_same memory e c t names (off_front in_e _ h))
        ∙ ap (λ o. put t (value_at names a) (changed memory) names (value c t e memory names) (element_number (stream_offset c.index i) (iteration c.index names) o)) (value_same memory i c u names (off_front in_i _ rest))
        ∙ put_same t (value_at names a) memory names (value c t e memory names) _ (off_back in_i _ rest)
    act_same (Update x op e) c memory names h =
        let want = option_and_then accumulator_type (lookup c x) in
        ap (update x op want (changed memory) names) (value_same memory e c want names h) ∙ update_same x op want memory names (value c want e memory names)
    act_same (Choose p b d) c memory names h =
        let in_p = condition_reads c p memory names in
        let o = holds c p memory names in
        let one = block_accesses c b memory names in
        let other = otherwise_accesses (left c (after_block c b)) d memory names in
        let rest = off_back in_p _ h in
        ap (λ q. choose (changed memory) q (cut (length names) (do_block c b (changed memory) names)) (cut (length names) (do_otherwise (left c (after_block c b)) d (changed memory) names))) (holds_same memory p c names (off_front in_p _ h))
        ∙ choose_same memory o _ _ (cut (length names) (do_block c b memory names)) (cut (length names) (do_otherwise (left c (after_block c b)) d memory names)) one other (off_front (where_true o one) _ rest) (off_back (where_true o one) _ rest)
        (λ off. ap (cut (length names)) (block_same b c memory names off) ∙ cut_same (length names) (do_block c b memory names))
        (λ off. ap (cut (length names)) (otherwise_same d (left c (after_block c b)) memory names off) ∙ cut_same (length names) (do_otherwise (left c (after_block c b)) d memory names))
    act_same (Leave p) c memory names h = ap (leave (changed memory) names) (holds_same memory p c names h) ∙ leave_same memory names (holds c p memory names)

    block_same : (b : Block) (c : Scope) (memory : Memory) (names : Names) → Off (block_accesses c b memory names) → do_block c b (changed memory) names ≡ end_with (do_block c b memory names)
    block_same Done c memory names h = refl
    block_same (Then s b) c memory names h =
        let in_s = act_accesses c s memory names in
        ap (λ r. then_do r (do_block (after_action c s) b)) (act_same s c memory names (off_front in_s _ h))
        ∙ then_same (act c s memory names) (do_block (after_action c s) b) (block_accesses (after_action c s) b) (off_back in_s _ h) (block_same b (after_action c s))

    otherwise_same : (b : Otherwise) (c : Scope) (memory : Memory) (names : Names) → Off (otherwise_accesses c b memory names) → do_otherwise c b (changed memory) names ≡ end_with (do_otherwise c b memory names)
    otherwise_same Nothing c memory names h = refl
    otherwise_same (Else b) c memory names h = block_same b c memory names h

  -- ---- the loop

  abbrev state_with : LoopState Names → LoopState Names
  state_with (Going memory names) = Going (changed memory) names
  state_with (Left memory names i) = Left (changed memory) names i
  state_with (Failed memory i) = Failed (changed memory) i

  go_same : (b : BlockEnd Names) (i : ℕ) (f : Memory → Names → LoopState Names) (g : Memory → Names → List Access) → Off (after b g) → ((memory : Memory) (names : Names) → Off (g memory names) → f (changed memory) names ≡ state_with (f memory names)) → go_on (end_with b) i f ≡ state_with (go_on b i f)
  go_same (Next memory names) i f g h all = all memory names h
  go_same (Broke memory names) i f g h all = refl
  go_same (Faulted memory) i f g h all = refl

  iterations_same : (count : ℕ) (s : Scope) (l : PlainLoop) (i : ℕ) (memory : Memory) (names : Names) → Off (loop_accesses s l count i memory names) → iterations s l count i (changed memory) names ≡ state_with (iterations s l count i memory names)
  unfolding iterations loop_accesses
  iterations_same zero s l i memory names h = refl
  iterations_same (suc count) s l i memory names h =
      let body = block_accesses (in_loop s l) l.body memory (with_name l.index names (pos i)) in
      let one : iterate s l i (changed memory) names ≡ end_with (iterate s l i memory names) =
      ap (cut (length names)) (block_same l.body (in_loop s l) memory (with_name l.index names (pos i)) (off_front body _ h))
      ∙ cut_same (length names) (do_block (in_loop s l) l.body memory (with_name l.index names (pos i))) in
      ap (λ b. go_on b i (iterations s l count (i + 1))) one
      ∙ go_same (iterate s l i memory names) i (iterations s l count (i + 1)) (loop_accesses s l count (i + 1)) (off_back body _ h) (iterations_same count s l (i + 1))

  -- ---- the whole run

  ended_same : (memory : Memory) (k : ℕ) (o : Option ℕ) → ended (changed memory) k o ≡ run_with changed (ended memory k o)
  ended_same memory k None = refl
  ended_same memory k (Some r) = refl

  returned_same : (s : Scope) (answer : Option Returned) (memory : Memory) (names : Names) → Off (answer_accesses s answer memory names) → returned s answer (changed memory) names ≡ returned s answer memory names
  returned_same s None memory names h = refl
  returned_same s (Some a) memory names h = ap (option_map word) (value_same memory a.value s (Some a.type) names h)

  closed_same : (s : Scope) (l : PlainLoop) (answer : Option Returned) (memory : Memory) (names : Names) (done k : ℕ) → Off (answer_accesses (after_for_loop s (Some l)) answer memory (with_name l.index names (pos done))) → closed s l answer (changed memory) names done k ≡ run_with changed (closed s l answer memory names done k)
  closed_same s l answer memory names done k h =
      ap (ended (changed memory) k) (returned_same (after_for_loop s (Some l)) answer memory (with_name l.index names (pos done)) h)
      ∙ ended_same memory k (returned (after_for_loop s (Some l)) answer memory (with_name l.index names (pos done)))

  finish_same : (s : Scope) (l : PlainLoop) (answer : Option Returned) (k : ℕ) (state : LoopState Names) → Off (finish_accesses s l answer k state) → finish s l answer k (state_with state) ≡ run_with changed (finish s l answer k state)
  finish_same s l answer k (Going memory names) h = closed_same s l answer memory names k k h
  finish_same s l answer k (Left memory names i) h = closed_same s l answer memory names i (i + 1) h
  finish_same s l answer k (Failed memory i) h = refl

  for_loop_same : (s : Scope) (o : Option PlainLoop) (answer : Option Returned) (memory : Memory) (names : Names) → Off (for_loop_accesses s o answer memory names) → run_for_loop s o answer (changed memory) names ≡ run_with changed (run_for_loop s o answer memory names)
  for_loop_same s None answer memory names h = ap (ended (changed memory) 0) (returned_same s answer memory names h) ∙ ended_same memory 0 (returned s answer memory names)
  for_loop_same s (Some l) answer memory names h =
      let k = bound_of l names in
      let body = loop_accesses s l k 0 memory names in
      ap (finish s l answer k) (iterations_same k s l 0 memory names (off_front body _ h))
      ∙ finish_same s l answer k (iterations s l k 0 memory names) (off_back body _ h)

  behind_same : (vs : List Accumulator) (s : Scope) (memory : Memory) (o : Option Names) → Off (behind o (initial_accesses s vs memory)) → ((names : Names) → Off (initial_accesses s vs memory names) → initial s vs (changed memory) names ≡ initial s vs memory names) → option_and_then (initial s vs (changed memory)) o ≡ option_and_then (initial s vs memory) o
  behind_same vs s memory None h all = refl
  behind_same vs s memory (Some names) h all = all names h

  initial_same : (vs : List Accumulator) (s : Scope) (memory : Memory) (names : Names) → Off (initial_accesses s vs memory names) → initial s vs (changed memory) names ≡ initial s vs memory names
  initial_same [] s memory names h = refl
  initial_same (a ∷ vs) s memory names h =
      let in_a = reads s (Some a.type) a.init memory names in
      let next = declared s a.name (binding.Accumulator a.type) in
      ap (λ o. option_and_then (initial next vs (changed memory)) (option_map (with_name a.name names) o)) (value_same memory a.init s (Some a.type) names (off_front in_a _ h))
      ∙ behind_same vs next memory (option_map (with_name a.name names) (value s (Some a.type) a.init memory names)) (off_back in_a _ h) (initial_same vs next memory)

  named_same : (k : Program) (memory : Memory) (o : Option Names) → Off (behind o (for_loop_accesses (var_scope k) k.for_loop k.answer memory)) → run_named k (changed memory) o ≡ run_with changed (run_named k memory o)
  named_same k memory None h = refl
  named_same k memory (Some names) h = for_loop_same (var_scope k) k.for_loop k.answer memory names h

  pub run_same : (k : Program) (args : List ℕ) (memory : Memory) → Off (accesses k args memory) → scalar_run k args (changed memory) ≡ run_with changed (scalar_run k args memory)
  run_same k args memory h =
      let in_vars = initial_accesses (param_scope k) k.vars memory (argument_names k.params args) in
      ap (run_named k (changed memory)) (initial_same k.vars (param_scope k) memory (argument_names k.params args) (off_front in_vars _ h))
      ∙ named_same k memory (started k args memory) (off_back in_vars _ h)
