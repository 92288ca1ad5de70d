-- The walks over the parts of a kernel, put together.
use Rattle.std.proofs.Common.{◌≡◌, ℕ, ◌+◌, ◌<◌, ◌^◌, List, [], ◌∷◌, ◌++◌, Bool, Option, Some, None, false, if◌then◌else◌, length, refl, sym, ap, ap₂, ◌∙◌, append_assoc, arith}
use Rattle.std.proofs.lemmas.List.{length-map}
use Rattle.kernel_tree.specs.declared.ast.Param.{Param}
use Rattle.kernel_tree.specs.declared.fault.Found.{Found}
use Rattle.kernel_tree.specs.declared.fault.Binding.{Binding}
use Rattle.kernel_tree.specs.declared.fault.Binding.TheVariants as binding
use Rattle.kernel_tree.specs.declared.fault.Fault.TheVariants as fault
use Rattle.kernel_tree.specs.Plain.{Parameter, Accumulator, Block, PlainLoop, Program, parameter_of, parameters_of}
use Rattle.kernel_tree.specs.Items.{vars_size, for_loop_size, answer_size, loop_index, size_of}
use Rattle.kernel_tree.specs.Typing.{Scope, empty, after_for_loop, param_scope, var_scope, params_faults, vars_faults, for_loop_faults, for_loop_types, answer_faults, kernel_faults, block_faults, block_types, bound_faults, found_at, twice, is_taken, lookup, declared, in_loop, sooner, least}
use Rattle.kernel_scope.specs.Scopes.{in_body}
use Rattle.kernel_types.specs.declared.notes.Notes.{Notes}
use Rattle.kernel_types.specs.Parts.{Adds}
use Rattle.kernel_tree.proofs.Scopes.{param_index, last_index, scope_outside}
use Rattle.kernel_types.proofs.LeastFault.{sooner-assoc, least-append, both_rules}
use Rattle.kernel_types.proofs.ListWalks.{two_parts}
use Rattle.kernel_types.proofs.TypeLists.{then_types}

index : Scope → Option (List ℕ)
index s = s.index

pub count_params : (ps xs : List Param) → xs ≡ ps → 0 + length xs ≡ length (parameters_of ps)
count_params ps xs e = omega (arith, ap length e, length-map ps parameter_of)

pub params_room : (k : Program) (ps xs : List Param) (n : ℕ) → n ≡ 0 → xs ≡ ps → parameters_of ps ≡ k.params → size_of k < 2 ^ 32 → n + length xs < 2 ^ 32
params_room k ps xs n e f g h = omega (arith, count_params ps xs f, ap length g, e, h)

pub vars_outside : (k : Program) (s : Scope) → s ≡ var_scope k → s.inside ≡ false
vars_outside k s e = rw e (scope_outside k)

pub vars_room : (k : Program) (s : Scope) (n : ℕ) (vs : List Accumulator) → s ≡ param_scope k → n ≡ length k.params → vs ≡ k.vars → size_of k < 2 ^ 32 → n + vars_size s.index vs < 2 ^ 32
vars_room k s n vs e f g h = rw (e, g) (rw (param_index k) (omega arith))

pub for_loop_room : (k : Program) (n : ℕ) → n ≡ length k.params + vars_size (loop_index k) k.vars → size_of k < 2 ^ 32 → n + for_loop_size k.for_loop < 2 ^ 32
for_loop_room k n e h = omega arith

pub answer_room : (k : Program) (s : Scope) (n : ℕ) → s ≡ after_for_loop (var_scope k) k.for_loop → n ≡ length k.params + vars_size (loop_index k) k.vars + for_loop_size k.for_loop → size_of k < 2 ^ 32 → n + answer_size s.index k.answer < 2 ^ 32
answer_room k s n e f h = rw e (rw (last_index k) (omega arith))

pub vars_count : (k : Program) (s : Scope) (n m : ℕ) (vs : List Accumulator) → s ≡ param_scope k → n ≡ length k.params → vs ≡ k.vars → m ≡ n + vars_size s.index vs → m ≡ length k.params + vars_size (loop_index k) k.vars
vars_count k s n m vs e f g h = h ∙ ap₂ (λ i xs. n + vars_size i xs) (rw e (param_index k)) g ∙ ap (λ x. x + vars_size (loop_index k) k.vars) f

-- the first fault of the kernel from those of its parts
pub whole : (k : Program) (s₀ s₁ s₂ s₃ : Scope) (n₁ n₂ n₃ : ℕ) (ps : List Parameter) (vs : List Accumulator) (o₁ o₂ o₃ o₄ : Option Found) →
    s₀ ≡ empty (loop_index k) → ps ≡ k.params → o₁ ≡ least (params_faults s₀ 0 ps) →
    s₁ ≡ param_scope k → n₁ ≡ length k.params → vs ≡ k.vars → o₂ ≡ sooner o₁ (least (vars_faults s₁ n₁ vs)) →
    s₂ ≡ var_scope k → n₂ ≡ length k.params + vars_size (loop_index k) k.vars → o₃ ≡ sooner o₂ (least (for_loop_faults s₂ n₂ k.for_loop)) →
    s₃ ≡ after_for_loop (var_scope k) k.for_loop → n₃ ≡ length k.params + vars_size (loop_index k) k.vars + for_loop_size k.for_loop → o₄ ≡ sooner o₃ (least (answer_faults s₃ n₃ k.answer)) →
    o₄ ≡ least (kernel_faults k)
whole k s₀ s₁ s₂ s₃ n₁ n₂ n₃ ps vs o₁ o₂ o₃ o₄ a b c d e f g h i j l m n =
    let for_loop = length k.params + vars_size (loop_index k) k.vars in
    let p = params_faults (empty (loop_index k)) 0 k.params in
    let v = vars_faults (param_scope k) (length k.params) k.vars in
    let t = for_loop_faults (var_scope k) for_loop k.for_loop in
    let r = answer_faults (after_for_loop (var_scope k) k.for_loop) (for_loop + for_loop_size k.for_loop) k.answer in
    let first : o₁ ≡ least p = rw (← a, ← b) c in
    let second : o₂ ≡ sooner (least p) (least v) = g ∙ parts o₁ (least p) (vars_faults s₁ n₁ vs) v first (rw (d, e, f) refl) in
    let third : o₃ ≡ sooner (sooner (least p) (least v)) (least t) = j ∙ parts o₂ (sooner (least p) (least v)) (for_loop_faults s₂ n₂ k.for_loop) t second (rw (h, i) refl) in
    let fourth : o₄ ≡ sooner (sooner (sooner (least p) (least v)) (least t)) (least r) = n ∙ parts o₃ (sooner (sooner (least p) (least v)) (least t)) (answer_faults s₃ n₃ k.answer) r third (rw (l, m) refl) in
    fourth ∙ joined p v t r
  where
    parts : (o q : Option Found) (xs ys : List Found) → o ≡ q → xs ≡ ys → sooner o (least xs) ≡ sooner q (least ys)
    parts o q xs ys e f = ap₂ (λ (x : Option Found) (zs : List Found). sooner x (least zs)) e f

    joined : (p v t r : List Found) → sooner (sooner (sooner (least p) (least v)) (least t)) (least r) ≡ least (p ++ (v ++ (t ++ r)))
    joined p v t r =
        sooner-assoc (sooner (least p) (least v)) (least t) (least r)
        ∙ ap (sooner (sooner (least p) (least v))) (sym (least-append t r))
        ∙ sooner-assoc (least p) (least v) (least (t ++ r))
        ∙ ap (sooner (least p)) (sym (least-append v (t ++ r)))
        ∙ sym (least-append p (v ++ (t ++ r)))

-- the faults at a loop, and then those of its body
pub loop_found : (s t : Scope) (n m : ℕ) (o p q bound again both : Option Found) (x : Option Binding) (taken : Bool) (l : PlainLoop) (b : Block) →
    x ≡ lookup s l.bound → bound ≡ least (bound_faults n x) →
    taken ≡ is_taken s l.index → again ≡ least (if taken then found_at n fault.Twice else []) →
    both ≡ sooner bound again → p ≡ sooner o both →
    t ≡ declared s l.index binding.Index → m ≡ n + 1 → b ≡ l.body → q ≡ sooner p (least (block_faults (in_body t) m b)) →
    q ≡ sooner o (least (for_loop_faults s n (Some l)))
loop_found s t n m o p q bound again both x taken l b a c d e f g h i j k =
    let bs = bound_faults n (lookup s l.bound) in
    let ts = twice n s l.index in
    let gs = block_faults (in_loop s l) (n + 1) l.body in
    let bound_is : bound ≡ least bs = c ∙ ap (λ (y : Option Binding). least (bound_faults n y)) a in
    let again_is : again ≡ least ts = e ∙ ap (λ (y : Bool). least (if y then found_at n fault.Twice else [])) d in
    let first : p ≡ sooner o (least (bs ++ ts)) = g ∙ ap (sooner o) (f ∙ both_rules bound again bs ts bound_is again_is) in
    let body : block_faults (in_body t) m b ≡ gs = rw (h, i, j) refl in
    k
    ∙ ap (λ (fs : List Found). sooner p (least fs)) body
    ∙ two_parts o p (bs ++ ts) gs first
    ∙ ap (λ (fs : List Found). sooner o (least fs)) (append_assoc bs ts gs)

-- the wanted types of the items of a loop: that of the loop itself, and then those of its body
pub loop_types : {m n o : Notes} (s t : Scope) (l : PlainLoop) (b : Block) → t ≡ declared s l.index binding.Index → b ≡ l.body → Adds m n (None ∷ []) → Adds n o (block_types (in_body t) b) → Adds m o (for_loop_types s (Some l))
loop_types s t l b e f g h = then_types g (rw (e, f) at h)
