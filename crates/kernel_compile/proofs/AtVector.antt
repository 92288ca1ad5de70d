-- The state in which the vector part of a kernel's code is entered.
use Rattle.std.proofs.Common.{◌≡◌, ℕ, zero, suc, ◌+◌, ◌<◌, ◌≤◌, ◌^◌, List, [], ◌∷◌, ◌++◌, length, Option, Some, None, refl, sym, ◌∙◌, arith}
use Rattle.std.specs.Prelude.{All, slice_index, is_none, if◌then◌else◌}
use Rattle.guest_types.specs.Length.{IsLength}
use Rattle.guest_types.specs.Memory.{Memory}
use Rattle.machine_model.specs.Machine.{State, x_at}
use Rattle.kernel_tree.specs.Plain.{Parameter, Accumulator, PlainLoop, Program}
use Rattle.kernel_tree.specs.Grammar.{IsTree}
use Rattle.kernel_tree.specs.Typing.{check_fault}
use Rattle.kernel_meaning.specs.Eval.{Names}
use Rattle.kernel_meaning.specs.ScalarRun.{started}
use Rattle.reg_assign.specs.declared.interval.RegClass.TheVariants.{X, Z, P}
use Rattle.reg_assign.specs.Registers.{Assignment}
use Rattle.loop_form.specs.Entries.{loop_entries}
use Rattle.loop_form.specs.Registers.{FitsKernel}
use Rattle.dependence.specs.Apart as by_use
use Rattle.dependence.specs.Apart.{bound_place}
use Rattle.dependence.specs.Classes.{class_of, class_by, reason}
use Rattle.dependence.specs.declared.reason.Class.TheVariants.{Vector, Scalar}
use Rattle.dependence.specs.declared.reason.Why.TheVariants as why
use Rattle.scalar_words.specs.Layout.{Homes}
use Rattle.scalar_words.specs.KernelRegisters.{param_homes, var_homes, kernel_homes, register_in}
use Rattle.scalar_words.specs.Iterations.{AreHeld, AtIteration}
use Rattle.scalar_words.proofs.AssignedOf.{counted-high}
use Rattle.vector_emit.proofs.FromBelow.{Ground, IsGround}
use Rattle.reserved_registers.proofs.FreeRegisters.{assigned_below}
use Rattle.kernel_compile.proofs.ArrayStreams.{streams_typed, reaches_typed}
use Rattle.kernel_compile.proofs.ApartBoth.{apart_both}
use Rattle.kernel_compile.proofs.AtLoop.{params_held, bounded}

-- ---- what is held stands in registers that the guard leaves alone

abbrev AreLow : Homes → Type 0
AreLow [] = Unit {0}
AreLow (h ∷ hs) = (h.register ≤ 25) × AreLow hs

low-append : (hs gs : Homes) → AreLow hs → AreLow gs → AreLow (hs ++ gs)
low-append [] gs h k = k
low-append (x ∷ hs) gs h k = (h.0, low-append hs gs h.1 k)

params_low : (n : ℕ) (ps : List Parameter) → n + length ps ≤ 8 → AreLow (param_homes n ps)
params_low n [] h = tt
params_low n (p ∷ ps) h = (omega (arith, h), params_low (n + 1) ps (omega (arith, h)))

vars_low : (R : ℕ → ℕ) → ((j : ℕ) → R j < 15) → (j : ℕ) (vs : List Accumulator) → AreLow (var_homes R j vs)
vars_low R below j [] = tt
vars_low R below j (v ∷ vs) = (counted-high (R j) (below j), vars_low R below (j + 1) vs)

past_end : (xs : List ℕ) (j : ℕ) → length xs ≤ j → slice_index xs j ≡ 0
past_end [] j h = refl
past_end (x ∷ xs) zero h = absurd (omega (arith, h))
past_end (x ∷ xs) (suc j) h = past_end xs j (omega (arith, h))

pub homes_low : (k : Program) (a : Assignment) → FitsKernel k X a → length k.params ≤ 8 → AreLow (kernel_homes (register_in a) k)
homes_low k a fits few = low-append (param_homes 0 k.params) (var_homes (register_in a) 0 k.vars) (params_low 0 k.params (omega (arith, few))) (vars_low (register_in a) (assigned_below k a fits) 0 k.vars)

held_same : (hs : Homes) (names : Names) (s t : State) → AreLow hs → ((r : ℕ) → r ≤ 25 → x_at t r ≡ x_at s r) → AreHeld hs names s → AreHeld hs names t
held_same [] [] s t low same h = tt
held_same [] (n ∷ ns) s t low same h = h
held_same (x ∷ hs) [] s t low same h = h
held_same (x ∷ hs) (n ∷ ns) s t low same h = (h.0, same x.register low.0 ∙ h.1, held_same hs ns s t low.1 same h.2)

-- a state whose low registers and memory are those of one before an iteration
pub at_same : (R : ℕ → ℕ) (k : Program) (i : ℕ) (names : Names) (m : Memory) (s t : State) → AreLow (kernel_homes R k) → ((r : ℕ) → r ≤ 25 → x_at t r ≡ x_at s r) → length t.x ≡ length s.x → t.memory ≡ s.memory → AtIteration R k i names m s → AtIteration R k i names m t
at_same R k i names m s t low same sized memory at = record {
  sized = sized ∙ at.sized;
  index = same 9 (omega arith) ∙ at.index;
  ranged = at.ranged;
  held = held_same (kernel_homes R k) names s t low same at.held;
  memory = memory ∙ at.memory;
  good = at.good;
}

-- ---- a kernel of class Vector has a loop

pub has_loop : (k : Program) → class_of k ≡ Vector → (l : PlainLoop) × (k.for_loop ≡ Some l)
has_loop k e = by k.for_loop refl e
  where
    by : (o : Option PlainLoop) → k.for_loop ≡ o → (if is_none o then Scalar why.NoLoop else class_by (reason k (loop_entries k))) ≡ Vector → (l : PlainLoop) × (k.for_loop ≡ Some l)
    by None f e = absurd cc
    by (Some l) f e = (l, f)

-- ---- the ground of the loop

-- the ground of a loop that begins in a state
abbrev pub ground_of : (k : Program) (l : PlainLoop) (a b : Assignment) (args : List ℕ) (m : Memory) (names : Names) (s : State) → Ground
ground_of k l a b args m names s = record { kernel = k; for_loop = l; vectors = a; predicates = b; args = args; start = m; names = names; vl = s.vl; x = s.x }

pub is_ground : (R : ℕ → ℕ) (k : Program) (l : PlainLoop) (a b : Assignment) (args : List ℕ) (m : Memory) (names : Names) (s : State) → ∥ IsTree k ∥₁ → check_fault k ≡ None → class_of k ≡ Vector → length k.params ≤ 8 → bound_place k ≤ 7 → FitsKernel k Z a → FitsKernel k P b → k.for_loop ≡ Some l
    → All (λ arg. arg < 2 ^ 64) args → started k args m ≡ Some names → AtIteration R k 0 names m s → IsLength s.vl → by_use.Apart k args → IsGround (ground_of k l a b args m names s)
is_ground R k l a b args m names s spelled sound vector few near z p loops small start at sized apart =
    let bound = bounded R k l args m names s sound loops small start at.held in
    record {
      spelled = spelled;
      sound = sound;
      loops = loops;
      vector = vector;
      apart = apart_both k args l (streams_typed k sound) (reaches_typed k sound) loops bound.first apart;
      begins = start;
      z_fits = z;
      p_fits = p;
      sized = sized;
      few = few;
      given = params_held R k names s at.held;
      bound = bound.held ∙ sym bound.limit;
      near = near;
    }
