-- A kernel that writes a vector register in place leaves what the row says.
use Rattle.std.proofs.Common.{◌≡◌, ℕ, ◌<◌, List, [], true, get_or, refl, sym, ap, ap₂, ◌∙◌, subst}
use Rattle.std.specs.Prelude.{slice_set}
use Rattle.std.proofs.lemmas.Bool.{cond-true}
use Rattle.std.proofs.lemmas.List.{set-get_or}
use Rattle.std.proofs.Math.ListN.{get_or-map}
use Rattle.guest_types.specs.Length.{width_bytes, lanes}
use Rattle.guest_types.specs.declared.length.Width.{Width}
use Rattle.guest_types.specs.declared.register.ZReg.{ZReg}
use Rattle.guest_types.specs.declared.predicate.PReg.{PReg}
use Rattle.guest_types.specs.declared.operation.LaneOp.{LaneOp}
use Rattle.guest_types.specs.Elements.{active, register}
use Rattle.guest_types.specs.Lanes.{binary_at, merge_at}
use Rattle.guest_types.proofs.Registers.{register-ext}
use Rattle.guest_types.specs.EarlyLoads.{StopList}
use Rattle.lane_blocks.specs.Banks.{bytes_at, with_elements}
use Rattle.machine_model.specs.States.{IsVector}
use Rattle.machine_model.proofs.StateSteps.{vector_made, fills}
use Rattle.a64_machine.specs.Cores.{VectorState}
use Rattle.sve_machine.specs.VectorStates.{z_bytes, p_bits, vector_state_of, IsVectorState, z_of, p_of, put_z, put_lanes}
use Rattle.sve_machine.proofs.VectorStateLaws.{z_set, z_put}

pub z_is : (z : List ZReg) (p : List PReg) (ffr : PReg) (vl : ℕ) (stops : StopList) (n : ℕ) → bytes_at z n ≡ z_of (vector_state_of z p ffr vl stops) n
z_is z p ffr vl stops n = sym (get_or-map z_bytes z n (record { bytes = [] }))

pub predicate_of_bank : (z : List ZReg) (p : List PReg) (ffr : PReg) (vl : ℕ) (stops : StopList) (n : ℕ) → (get_or p n (record { bits = [] })).bits ≡ p_of (vector_state_of z p ffr vl stops) n
predicate_of_bank z p ffr vl stops n = sym (get_or-map p_bits p n (record { bits = [] }))

-- the predicate registers, of which one was lent, are what they were
pub mask_back : (p : List PReg) (n : ℕ) → slice_set p n (get_or p n (record { bits = [] })) ≡ p
mask_back p n = set-get_or p n (record { bits = [] })

pub lane3 : (f : (m l k : List ℕ) → ℕ → ℕ) (m l k m2 l2 k2 : List ℕ) → m ≡ m2 → l ≡ l2 → k ≡ k2 → f m l k ≡ f m2 l2 k2
lane3 f m l k m2 l2 k2 a b c = ap₂ (λ x y. f x y k) a b ∙ ap (f m2 l2) c

-- a merge in which every element is active
pub merged_all : (r : VectorState) (d : ℕ) (op : LaneOp) (w : Width) (p l k : List ℕ) → ((e : ℕ) → e < lanes r.vl w → active w p e ≡ true) → put_lanes r d w (binary_at op w l k) ≡ put_lanes r d w (merge_at op w p l k)
merged_all r d op w p l k all =
    ap (put_z r d) (register-ext (width_bytes w) (binary_at op w l k) (merge_at op w p l k) (lanes r.vl w) (λ e lt. sym (cond-true _ _ _ (all e lt))))

-- the registers stay of their shape where one is made anew
pub made_shape : (z : List ZReg) (p : List PReg) (ffr : PReg) (vl : ℕ) (stops : StopList) (d : ℕ) (w : Width) (f : ℕ → ℕ) (made : ZReg)
    → IsVectorState (vector_state_of z p ffr vl stops) → made.bytes ≡ register (width_bytes w) f (lanes vl w) → IsVectorState (vector_state_of (slice_set z d made) p ffr vl stops)
made_shape z p ffr vl stops d w f made h e =
    let r = vector_state_of z p ffr vl stops in
    subst IsVectorState (sym (z_set z p ffr vl stops d made))
    (z_put r d made.bytes h (subst (IsVector vl) (sym e) (vector_made vl (width_bytes w) f (lanes vl w) h.sized (fills vl w h.sized))))

-- and that one has its elements
pub made_put : (z : List ZReg) (p : List PReg) (ffr : PReg) (vl : ℕ) (stops : StopList) (d : ℕ) (w : Width) (f : ℕ → ℕ) (made : ZReg)
    → made.bytes ≡ register (width_bytes w) f (lanes vl w) → vector_state_of (slice_set z d made) p ffr vl stops ≡ put_lanes (vector_state_of z p ffr vl stops) d w f
made_put z p ffr vl stops d w f made e = z_set z p ffr vl stops d made ∙ ap (put_z (vector_state_of z p ffr vl stops) d) e

-- the same where a kernel writes it among the others
pub bank_shape : (z : List ZReg) (p : List PReg) (ffr : PReg) (vl : ℕ) (stops : StopList) (d : ℕ) (w : Width) (f : ℕ → ℕ) (after : List ZReg)
    → IsVectorState (vector_state_of z p ffr vl stops) → after ≡ with_elements z d w f (lanes vl w) → IsVectorState (vector_state_of after p ffr vl stops)
bank_shape z p ffr vl stops d w f after h e =
    subst (λ zs. IsVectorState (vector_state_of zs p ffr vl stops)) (sym e)
    (made_shape z p ffr vl stops d w f (record { bytes = register (width_bytes w) f (lanes vl w) }) h refl)

pub bank_put : (z : List ZReg) (p : List PReg) (ffr : PReg) (vl : ℕ) (stops : StopList) (d : ℕ) (w : Width) (f g : ℕ → ℕ) (after : List ZReg)
    → after ≡ with_elements z d w f (lanes vl w) → f ≡ g → vector_state_of after p ffr vl stops ≡ put_lanes (vector_state_of z p ffr vl stops) d w g
bank_put z p ffr vl stops d w f g after e same =
    ap (λ zs. vector_state_of zs p ffr vl stops) e
    ∙ made_put z p ffr vl stops d w f (record { bytes = register (width_bytes w) f (lanes vl w) }) refl
    ∙ ap (put_lanes (vector_state_of z p ffr vl stops) d w) same
