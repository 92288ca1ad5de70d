-- In a checked kernel values stand where values are wanted and conditions where conditions are.
use Rattle.std.proofs.Common.{◌≡◌, ℕ, ◌+◌, Bool, true, false, List, [], ◌∷◌, ◌++◌, Option, Some, None, refl}
use Rattle.std.specs.Prelude.{ℤ, option_and_then, if◌then◌else◌}
use Rattle.kernel_tree.specs.declared.ops.Ty.{Ty}
use Rattle.kernel_tree.specs.declared.ops.BinaryOp.{BinaryOp}
use Rattle.kernel_tree.specs.declared.fault.Found.{Found}
use Rattle.kernel_tree.specs.Plain.{Term, Literal, Variable, Element, Unary, Operation, Shift, Conversion, Choice, Comparison, Both, Either, Not, Action, Define, Put, Update, Choose, Leave, Block, Done, Then, Otherwise, Nothing, Else, Accumulator, PlainLoop, Returned, Program}
use Rattle.kernel_tree.specs.Items.{term_size, is_index_term, literal_value, moved_by, stream_offset}
use Rattle.kernel_tree.specs.Typing.{Scope, Value, Condition, index_type, after_action, after_block, left, declared, in_loop, after_for_loop, param_scope, var_scope, faults, inner_faults, action_faults, block_faults, otherwise_faults, vars_faults, for_loop_faults, answer_faults, check_fault}
use Rattle.kernel_tree.specs.Kinds.{IsValue, IsTruth, ActionKinds, BlockKinds, OtherwiseKinds, VarsKinds, ForLoopKinds, AnswerKinds, KernelKinds}
use Rattle.kernel_tree.proofs.Faultless.{nil-left, nil-right, never, vars_faultless, loop_faultless, answer_faultless, body_faultless}
use Rattle.kernel_tree.specs.declared.fault.Binding.TheVariants as binding

-- ---- expressions

following-three : (xs ys zs : List Found) (f : Found) → xs ++ (ys ++ (zs ++ f ∷ [])) ≡ [] → ⊥
following-three xs ys zs f h = never (nil-right zs _ (nil-right ys _ (nil-right xs _ h)))

-- a stream index
index-value : (i : Option (List ℕ)) (a : Term) (o : Option ℤ) (c : ℤ) → (if is_index_term i a then o else None) ≡ Some c → IsValue a
index-value i (Literal n) o c h = absurd cc
index-value i (Variable x) o c h = tt
index-value i other o c h = absurd cc

offset-value : (t : Bool) (op : BinaryOp) (b : Term) (c : ℤ) → (if t then option_and_then (moved_by op) (literal_value b) else None) ≡ Some c → IsValue b
offset-value t op (Literal n) c h = tt
offset-value true op b c h = absurd cc
offset-value false op b c h = absurd cc

stream-value : (i : Option (List ℕ)) (e : Term) (c : ℤ) → stream_offset i e ≡ Some c → IsValue e
stream-value i (Literal n) c h = absurd cc
stream-value i (Variable x) c h = tt
stream-value i (Element d j) c h = absurd cc
stream-value i (Unary op e) c h = absurd cc
stream-value i (Operation p x y) c h = (index-value i x (option_and_then (moved_by p) (literal_value y)) c h, offset-value (is_index_term i x) p y c h)
stream-value i other c h = absurd cc

index-kinds : (o : Option ℤ) (i : Option (List ℕ)) (e : Term) (fs : List Found) → stream_offset i e ≡ o → (fs ≡ [] → IsValue e) → inner_faults o fs ≡ [] → IsValue e
index-kinds None i e fs q f h = f h
index-kinds (Some c) i e fs q f h = stream-value i e c q

mutual
  pub value-kinds : (e : Term) (s : Scope) (from : ℕ) (want : Option Ty) → faults s from (Value want) e ≡ [] → IsValue e
  value-kinds (Literal n) s from want h = tt
  value-kinds (Variable x) s from want h = tt
  value-kinds (Element a i) s from want h = index-kinds (stream_offset s.index i) s.index i _ refl (value-kinds i s from (index_type s i)) (nil-left _ _ h)
  value-kinds (Unary op e) s from want h = value-kinds e s _ _ (nil-left _ _ h)
  value-kinds (Operation op a b) s from want h = (value-kinds a s _ _ (nil-left _ _ h), value-kinds b s _ _ (nil-left _ _ (nil-right _ _ h)))
  value-kinds (Shift l e n) s from want h = value-kinds e s _ _ (nil-left _ _ h)
  value-kinds (Conversion e t) s from want h = value-kinds e s _ _ (nil-left _ _ h)
  value-kinds (Choice c a b) s from want h = (value-kinds a s _ _ (nil-left _ _ h), value-kinds b s _ _ (nil-left _ _ (nil-right _ _ h)), truth-kinds c s _ (nil-left _ _ (nil-right _ _ (nil-right _ _ h))))
  value-kinds (Comparison op a b) s from want h = absurd (never (nil-right _ _ (nil-right _ _ h)))
  value-kinds (Both a b) s from want h = absurd (never (nil-right _ _ (nil-right _ _ h)))
  value-kinds (Either a b) s from want h = absurd (never (nil-right _ _ (nil-right _ _ h)))
  value-kinds (Not e) s from want h = absurd (never (nil-right _ _ h))

  pub truth-kinds : (e : Term) (s : Scope) (from : ℕ) → faults s from Condition e ≡ [] → IsTruth e
  truth-kinds (Literal n) s from h = absurd (never h)
  truth-kinds (Variable x) s from h = absurd (never h)
  truth-kinds (Element a i) s from h = absurd (never (nil-right _ _ h))
  truth-kinds (Unary op e) s from h = absurd (never (nil-right _ _ h))
  truth-kinds (Operation op a b) s from h = absurd (never (nil-right _ _ (nil-right _ _ h)))
  truth-kinds (Shift l e n) s from h = absurd (never (nil-right _ _ h))
  truth-kinds (Conversion e t) s from h = absurd (never (nil-right _ _ h))
  truth-kinds (Choice c a b) s from h =
      let next = from + term_size s.index a in
      let last = next + term_size s.index b in
      absurd (following-three (faults s from (Value None) a) (faults s next (Value None) b) (faults s last Condition c) _ h)
  truth-kinds (Comparison op a b) s from h = (value-kinds a s _ _ (nil-left _ _ h), value-kinds b s _ _ (nil-left _ _ (nil-right _ _ h)))
  truth-kinds (Both a b) s from h = (truth-kinds a s _ (nil-left _ _ h), truth-kinds b s _ (nil-left _ _ (nil-right _ _ h)))
  truth-kinds (Either a b) s from h = (truth-kinds a s _ (nil-left _ _ h), truth-kinds b s _ (nil-left _ _ (nil-right _ _ h)))
  truth-kinds (Not e) s from h = truth-kinds e s _ (nil-left _ _ h)

-- ---- statements and kernels

mutual
  action-kinds : (a : Action) (s : Scope) (from : ℕ) → action_faults s from a ≡ [] → ActionKinds a
  action-kinds (Define x t e) s from h = value-kinds e s _ _ (nil-left _ _ h)
  action-kinds (Put a i e) s from h = value-kinds e s _ _ (nil-left _ _ h)
  action-kinds (Update x op e) s from h = value-kinds e s _ _ (nil-left _ _ h)
  action-kinds (Choose c b d) s from h = (truth-kinds c s _ (nil-left _ _ h), block-kinds b s _ (nil-left _ _ (nil-right _ _ h)), otherwise-kinds d (left s (after_block s b)) _ (nil-right _ _ (nil-right _ _ h)))
  action-kinds (Leave c) s from h = truth-kinds c s _ h

  pub block-kinds : (b : Block) (s : Scope) (from : ℕ) → block_faults s from b ≡ [] → BlockKinds b
  block-kinds Done s from h = tt
  block-kinds (Then a b) s from h = (action-kinds a s from (nil-left _ _ h), block-kinds b (after_action s a) _ (nil-right _ _ h))

  otherwise-kinds : (d : Otherwise) (s : Scope) (from : ℕ) → otherwise_faults s from d ≡ [] → OtherwiseKinds d
  otherwise-kinds Nothing s from h = tt
  otherwise-kinds (Else b) s from h = block-kinds b s _ h

vars-kinds : (vs : List Accumulator) (s : Scope) (from : ℕ) → vars_faults s from vs ≡ [] → VarsKinds vs
vars-kinds [] s from h = tt
vars-kinds (v ∷ vs) s from h = (value-kinds v.init s _ _ (nil-left _ _ h), vars-kinds vs (declared s v.name (binding.Accumulator v.type)) _ (nil-right _ _ (nil-right _ _ h)))

for_loop-kinds : (o : Option PlainLoop) (s : Scope) (from : ℕ) → for_loop_faults s from o ≡ [] → ForLoopKinds o
for_loop-kinds None s from h = tt
for_loop-kinds (Some l) s from h = block-kinds l.body (in_loop s l) _ (nil-right _ _ (nil-right _ _ h))

answer-kinds : (o : Option Returned) (s : Scope) (from : ℕ) → answer_faults s from o ≡ [] → AnswerKinds o
answer-kinds None s from h = tt
answer-kinds (Some a) s from h = value-kinds a.value s _ _ h

pub kernel-kinds : (k : Program) → check_fault k ≡ None → KernelKinds k
kernel-kinds k e = record {
  vars = vars-kinds k.vars (param_scope k) _ (vars_faultless k e);
  for_loop = for_loop-kinds k.for_loop (var_scope k) _ (loop_faultless k e);
  answer = answer-kinds k.answer (after_for_loop (var_scope k) k.for_loop) _ (answer_faultless k e);
}

pub body-kinds : (k : Program) (l : PlainLoop) → check_fault k ≡ None → k.for_loop ≡ Some l → BlockKinds l.body
body-kinds k l e t = block-kinds l.body (in_loop (var_scope k) l) _ (body_faultless k l e t)
