-- An accumulator in the lanes of a vector register: its start, and an update under a mask.
use Rattle.std.specs.Prelude.{◌≡◌, ℕ, ◌%◌, ◌^◌, ◌<◌, ◌≤◌, ℤ, Bool, true, cond, List, [], ◌∷◌, if◌then◌else◌}
use Rattle.guest_types.specs.declared.length.Width.{Width}
use Rattle.guest_types.specs.Length.{width_bits, lanes}
use Rattle.guest_types.specs.Elements.{at}
use Rattle.kernel_tree.specs.declared.ops.Ty.{Ty}
use Rattle.kernel_tree.specs.declared.ops.UpdateOp.{UpdateOp}
use Rattle.kernel_tree.specs.declared.ops.UpdateOp.TheVariants as update
use Rattle.kernel_tree.specs.Wrap.{residue, bits_of, is_signed}
use Rattle.kernel_meaning.specs.Operators.{word as word_of}
use Rattle.machine_model.specs.Machine.{State, Went, x_at, z_at, p_at}
use Rattle.machine_model.specs.States.{IsState}
use Rattle.sve_code.specs.Table.{Name, m_add, m_and, m_orr, m_eor, m_smin, m_umin, m_smax, m_umax}
use Rattle.lane_emit.specs.Right.{IsOf, PRight}
use Rattle.lane_emit.specs.Stretch.{VectorInstruction, word, do_all, OnlyZ}
use Rattle.lane_emit.specs.LaneCode.{size_of, dup_code}
use Rattle.lane_emit.specs.Joins.{joined, identity}

-- What a lane took in, as its element holds it: of a sum the low bits of the type, since no word extends it; of the others
-- the value itself, extended by its type.
abbrev pub Holds : UpdateOp → Ty → Width → ℕ → ℤ → Type 0
Holds update.Add t w x v = x % 2 ^ bits_of t ≡ residue (bits_of t) v
Holds update.And t w x v = x ≡ residue (width_bits w) v
Holds update.Or t w x v = x ≡ residue (width_bits w) v
Holds update.Xor t w x v = x ≡ residue (width_bits w) v
Holds update.Min t w x v = x ≡ residue (width_bits w) v
Holds update.Max t w x v = x ≡ residue (width_bits w) v

-- in the first n elements of a register
abbrev pub LanesHold : UpdateOp → Ty → Width → (n : ℕ) → List ℕ → (ℕ → ℤ) → Type 0
LanesHold op t w n z taken = (e : ℕ) → e < n → Holds op t w (at w z e) (taken e)

-- ---- words

abbrev pub update_name : UpdateOp → Ty → Name
update_name update.Add t = m_add
update_name update.And t = m_and
update_name update.Or t = m_orr
update_name update.Xor t = m_eor
update_name update.Min t = if is_signed t then m_smin else m_umin
update_name update.Max t = if is_signed t then m_smax else m_umax

-- the accumulator in z is updated by the value in a where the mask m is true; its other lanes stay
abbrev pub update_code : Width → UpdateOp → Ty → (z m a : ℕ) → List VectorInstruction
update_code w op t z m a = word (update_name op t) (z ∷ a ∷ m ∷ size_of w ∷ []) ∷ []

-- ---- what they leave

-- an accumulator in vector register z after some code, and nothing else changed
pub record Updated (c : List VectorInstruction) (s : State) (op : UpdateOp) (t : Ty) (w : Width) (n z : ℕ) (taken : ℕ → ℤ) : Type 0 where
  pub end : State
  pub runs : do_all c s ≡ Went end
  pub is : IsState end
  pub only : OnlyZ z s end
  pub holds : LanesHold op t w n (z_at end z) taken

-- The start of an accumulator, from a general register that holds the identity.
abbrev pub StartIsIdentity : Type 0
StartIsIdentity =
    (op : UpdateOp) (t : Ty) (w : Width) (s : State) (z x : ℕ) → IsState s → z < 32 → x < 31 → bits_of t ≤ width_bits w → x_at s x ≡ word_of (identity op t)
    → Updated (dup_code w z x) s op t w (lanes s.vl w) z (λ e. identity op t)

-- An update under a mask, in all lanes of the vector length: where the mask is true a lane takes in its value.
abbrev pub UpdateIsTaken : Type 0
UpdateIsTaken =
    (op : UpdateOp) (t : Ty) (w : Width) (s : State) (z m a : ℕ) (on : ℕ → Bool) (taken value : ℕ → ℤ) → IsState s → z < 32 → bits_of t ≤ width_bits w
    → PRight w (lanes s.vl w) (p_at s m) on → LanesHold op t w (lanes s.vl w) (z_at s z) taken
    → ((e : ℕ) → e < lanes s.vl w → IsOf t (taken e) × IsOf t (value e) × (on e ≡ true → at w (z_at s a) e ≡ residue (width_bits w) (value e)))
    → Updated (update_code w op t z m a) s op t w (lanes s.vl w) z (λ e. cond (on e) (joined op t (taken e) (value e)) (taken e))
