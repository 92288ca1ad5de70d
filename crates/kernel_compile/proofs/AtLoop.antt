-- What the registers of parameters hold as a loop begins: the arguments of its arrays and of its bound as they are.
use Rattle.std.proofs.Common.{◌≡◌, ℕ, zero, suc, ◌+◌, ◌%◌, ◌^◌, ◌<◌, Bool, true, false, cond, List, [], ◌∷◌, ◌++◌, length, Option, Some, None, refl, sym, ap, ◌∙◌, subst, arith}
use Rattle.std.specs.Prelude.{All, pos, bytes_eq, option_map, option_and_then, unwrap_or, slice_index, drop, filter, if◌then◌else◌}
use Rattle.std.specs.List.{find}
use Rattle.std.proofs.Math.Nat.{mod-eq_of_lt}
use Rattle.guest_types.specs.Memory.{Memory}
use Rattle.machine_model.specs.Machine.{State, x_at}
use Rattle.kernel_tree.specs.declared.ops.Ty.{Ty}
use Rattle.kernel_tree.specs.declared.ast.Shape.{Shape}
use Rattle.kernel_tree.specs.Plain.{Parameter, Accumulator, PlainLoop, Program}
use Rattle.kernel_tree.specs.Typing.{local, has_name, binding_of, binding_of_shape, check_fault, element_type}
use Rattle.kernel_tree.specs.Scopes.{locals_of, accs_of}
use Rattle.kernel_tree.proofs.Scopes.{var_visible}
use Rattle.kernel_tree.proofs.NoFault.{bound_scalar}
use Rattle.kernel_tree.proofs.Names.{accumulator_is_no_scalar}
use Rattle.kernel_meaning.specs.Operators.{word}
use Rattle.kernel_meaning.specs.Eval.{Names, is_named, value_of, value_at}
use Rattle.kernel_meaning.specs.Iterate.{named}
use Rattle.kernel_meaning.specs.ScalarRun.{argument_names, argument, started, bound_of}
use Rattle.kernel_meaning.proofs.Started.{started_names, started_bound}
use Rattle.loop_form.specs.declared.stream.Stream.{Stream}
use Rattle.loop_form.specs.declared.reach.Reach.{Reach}
use Rattle.loop_form.specs.Reaches.{reaches_of}
use Rattle.loop_form.specs.Lanes.{type_width}
use Rattle.loop_form.specs.Streams.{place_from, streams_of, is_of, type_of_place}
use Rattle.dependence.specs.declared.used.Used.{Used}
use Rattle.dependence.specs.Apart.{is_reach_of, greatest_reach, with_reach, used_by, used_at, used_from, used_of, bound_in, bound_place}
use Rattle.vector_order.specs.Operands.{nth_value}
use Rattle.vector_order.proofs.ArrayParameters.{started_bases}
use Rattle.overlap_guard.specs.Meets.{BasesHeld}
use Rattle.scalar_words.specs.Layout.{Homes}
use Rattle.scalar_words.specs.KernelRegisters.{param_homes, var_homes, kernel_homes}
use Rattle.scalar_words.specs.Iterations.{AreHeld}
use Rattle.kernel_compile.proofs.ApartBoth.{base_given, dropped}
use Rattle.kernel_tree.specs.declared.ops.Ty.TheVariants as ty
use Rattle.kernel_tree.specs.declared.ast.Shape.TheVariants as shape
use Rattle.kernel_tree.specs.declared.fault.Binding.TheVariants as binding
use Rattle.loop_form.proofs.Places.{typed_place-below}
use Rattle.loop_code.proofs.BeginRuns.{small_word}

-- ---- parameters in their registers

held_from : (n : ℕ) (ps : List Parameter) (hs : Homes) (names : Names) (s : State) (p r : ℕ) → AreHeld (param_homes n ps ++ hs) names s → p < length ps → r ≡ n + p → x_at s r ≡ word (nth_value names p)
held_from n [] hs names s p r h lt at = absurd (omega arith)
held_from n (q ∷ ps) hs [] s p r h lt at = elim h [ ]
held_from n (q ∷ ps) hs (m ∷ names) s zero r h lt at = let here : r ≡ n = omega (arith, at) in ap (x_at s) here ∙ h.1
held_from n (q ∷ ps) hs (m ∷ names) s (suc p) r h lt at = held_from (n + 1) ps hs names s p r h.2 (omega (arith, lt)) (omega (arith, at))

-- each parameter stands in its register
pub params_held : (R : ℕ → ℕ) (k : Program) (names : Names) (s : State) → AreHeld (kernel_homes R k) names s → (p : ℕ) → p < length k.params → x_at s p ≡ word (nth_value names p)
params_held R k names s h p lt = held_from 0 k.params (var_homes R 0 k.vars) names s p p h lt (omega arith)

-- an argument is a word, also one that is missing
pub argument_small : (args : List ℕ) → All (λ arg. arg < 2 ^ 64) args → (p : ℕ) → slice_index args p < 2 ^ 64
argument_small [] h p = let z : 0 < 2 ^ 64 = omega arith in z
argument_small (a ∷ args) h zero = h 0 0 (omega arith)
argument_small (a ∷ args) h (suc p) = argument_small args (λ j d lt. h (suc j) d (omega (arith, lt))) p

-- an array's register holds its argument
array_held : (R : ℕ → ℕ) (k : Program) (args : List ℕ) (m : Memory) (names : Names) (s : State) → All (λ arg. arg < 2 ^ 64) args → started k args m ≡ Some names → AreHeld (kernel_homes R k) names s → (p : ℕ) (t : Ty) → type_of_place k.params p ≡ Some t → x_at s p ≡ slice_index args p
array_held R k args m names s small start h p t e = params_held R k names s h p (typed_place-below k.params p t e) ∙ ap word (started_bases k args m names start p t e ∙ base_given k.params args p t e) ∙ small_word (slice_index args p) (argument_small args small p)

-- ---- the bases of the arrays that the loop uses

bases-append : (args : List ℕ) (us vs : List Used) (s : State) → BasesHeld args us s → BasesHeld args vs s → BasesHeld args (us ++ vs) s
bases-append args [] vs s h k = k
bases-append args (u ∷ us) vs s h k = (h.0, bases-append args us vs s h.1 k)

bases_at : (args : List ℕ) (ss : List Stream) (rs : List Reach) (n : ℕ) (h : Shape) (s : State) → ((t : Ty) → element_type (binding_of_shape h) ≡ Some t → x_at s n ≡ slice_index args n) → BasesHeld args (used_at ss rs n h) s
bases_at args ss rs n (shape.Scalar t) s held = tt
bases_at args ss rs n (shape.Array t) s held = by (filter (is_of n) ss) (greatest_reach (filter (is_reach_of n) rs))
  where
    by : (fs : List Stream) (o : Option ℕ) → BasesHeld args (with_reach n (type_width t) o (used_by n (type_width t) fs)) s
    by [] None = tt
    by [] (Some r) = (held t refl, tt)
    by (f ∷ fs) None = (held t refl, tt)
    by (f ∷ fs) (Some r) = (held t refl, tt)

bases_from : (args : List ℕ) (ss : List Stream) (rs : List Reach) (n : ℕ) (ps : List Parameter) (s : State) → ((j p : ℕ) (t : Ty) → p ≡ n + j → type_of_place ps j ≡ Some t → x_at s p ≡ slice_index args p) → BasesHeld args (used_from ss rs n ps) s
unfolding used_from
bases_from args ss rs n [] s held = tt
bases_from args ss rs n (q ∷ ps) s held =
    bases-append args (used_at ss rs n q.shape) (used_from ss rs (n + 1) ps) s (bases_at args ss rs n q.shape s (λ t e. held 0 n t (omega arith) e))
    (bases_from args ss rs (n + 1) ps s (λ j p t at e. held (suc j) p t (omega (arith, at)) e))

pub bases_held : (R : ℕ → ℕ) (k : Program) (args : List ℕ) (m : Memory) (names : Names) (s : State) → All (λ arg. arg < 2 ^ 64) args → started k args m ≡ Some names → AreHeld (kernel_homes R k) names s → BasesHeld args (used_of k) s
bases_held R k args m names s small start h =
    bases_from args (streams_of k) (reaches_of k) 0 k.params s (λ j p t at e. let same : p ≡ j = omega (arith, at) in array_held R k args m names s small start h p t (subst (λ q. type_of_place k.params q ≡ Some t) (sym same) e))

-- ---- the bound

-- The bound of a loop: a parameter of 64 bits, whose value is its argument.
record IsBound (ps : List Parameter) (x : List ℕ) (n : ℕ) (args : List ℕ) (more : Names) : Type 0 where
  place : ℕ
  is : place_from x n ps ≡ Some (n + place)
  low : place < length ps
  value : value_at (argument_names ps args) x ≡ pos (slice_index args place % 2 ^ 64)
  own : nth_value (argument_names ps args ++ more) place ≡ pos (slice_index args place % 2 ^ 64)

whole_argument : (h : Shape) (n : ℕ) → Some (binding_of_shape h) ≡ Some (binding.Scalar ty.U64) → argument h n ≡ pos (n % 2 ^ 64)
whole_argument (shape.Array t) n e = absurd cc
whole_argument (shape.Scalar t) n e = let same : t ≡ ty.U64 = cc in ap (λ u. argument (shape.Scalar u) n) same

bound_from : (n : ℕ) (ps : List Parameter) (vs : List Accumulator) (args : List ℕ) (more : Names) (x : List ℕ) → option_map binding_of (find (has_name x) (locals_of ps ++ accs_of vs)) ≡ Some (binding.Scalar ty.U64) → IsBound ps x n args more
bound_from n [] vs args more x e = absurd (accumulator_is_no_scalar vs x ty.U64 e)
bound_from n (p ∷ ps) vs args more x e = by (bytes_eq p.name x) refl e (bound_from (n + 1) ps vs (drop 1 args) more x)
  where
    by : (b : Bool) → bytes_eq p.name x ≡ b → option_map binding_of (cond b (Some (local p.name (binding_of_shape p.shape))) (find (has_name x) (locals_of ps ++ accs_of vs))) ≡ Some (binding.Scalar ty.U64)
        → (option_map binding_of (find (has_name x) (locals_of ps ++ accs_of vs)) ≡ Some (binding.Scalar ty.U64) → IsBound ps x (n + 1) (drop 1 args) more) → IsBound (p ∷ ps) x n args more
    by true f e h = record {
      place = 0;
      is = ap (λ b. if b then Some n else place_from x (n + 1) ps) f ∙ (let z : n ≡ n + 0 = omega arith in ap Some z);
      low = omega arith;
      value = ap (λ b. unwrap_or (option_map value_of (cond b (Some (named p.name (argument p.shape (slice_index args 0)))) (find (is_named x) (argument_names ps (drop 1 args))))) (pos 0)) f ∙ whole_argument p.shape (slice_index args 0) e;
      own = whole_argument p.shape (slice_index args 0) e;
    }
    by false f e h =
        let r = h e in
        let at : n + 1 + r.place ≡ n + suc r.place = omega arith in
        record {
          place = suc r.place;
          is = ap (λ b. if b then Some n else place_from x (n + 1) ps) f ∙ r.is ∙ ap Some at;
          low = (let l = r.low in omega (arith, l));
          value = ap (λ b. unwrap_or (option_map value_of (cond b (Some (named p.name (argument p.shape (slice_index args 0)))) (find (is_named x) (argument_names ps (drop 1 args))))) (pos 0)) f ∙ r.value ∙ ap (λ a. pos (a % 2 ^ 64)) (dropped args r.place);
          own = r.own ∙ ap (λ a. pos (a % 2 ^ 64)) (dropped args r.place);
        }

-- What a loop's bound is: its argument, in the register of its place.
pub record Bounded (R : ℕ → ℕ) (k : Program) (l : PlainLoop) (args : List ℕ) (names : Names) (s : State) : Type 0 where
  pub limit : bound_of l names ≡ slice_index args (bound_place k)
  pub first : bound_of l (argument_names k.params args) ≡ slice_index args (bound_place k)
  pub held : x_at s (bound_place k) ≡ slice_index args (bound_place k)

pub bounded : (R : ℕ → ℕ) (k : Program) (l : PlainLoop) (args : List ℕ) (m : Memory) (names : Names) (s : State) → check_fault k ≡ None → k.for_loop ≡ Some l → All (λ arg. arg < 2 ^ 64) args → started k args m ≡ Some names → AreHeld (kernel_homes R k) names s → Bounded R k l args names s
bounded R k l args m names s sound is small start h =
    let seen = bound_scalar k l sound is in
    let more = started_names k args m names start in
    let found = bound_from 0 k.params k.vars args more.0 l.bound (ap (λ vs. option_map binding_of (find (has_name l.bound) vs)) (sym (var_visible k)) ∙ seen) in
    let zero_first : 0 + found.place ≡ found.place = omega arith in
    let place : bound_place k ≡ found.place = ap (λ t. unwrap_or (option_and_then (bound_in k.params) t) 0) is ∙ ap (λ q. unwrap_or q 0) (found.is ∙ ap Some zero_first) in
    let fits : slice_index args found.place % 2 ^ 64 ≡ slice_index args found.place = mod-eq_of_lt (argument_small args small found.place) in
    let first : bound_of l (argument_names k.params args) ≡ slice_index args (bound_place k) = ap word found.value ∙ ap (λ n. n % 2 ^ 64) fits ∙ fits ∙ ap (slice_index args) (sym place) in
    record {
      limit = started_bound k l args m names ty.U64 start seen ∙ first;
      first = first;
      held = ap (x_at s) place ∙ params_held R k names s h found.place found.low ∙ ap word (ap (λ ns. nth_value ns found.place) more.1 ∙ found.own) ∙ ap (λ n. n % 2 ^ 64) fits ∙ fits ∙ ap (slice_index args) (sym place);
    }
