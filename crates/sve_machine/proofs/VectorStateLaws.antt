-- The vector registers keep their shape.
use Rattle.std.proofs.Common.{◌≡◌, ℕ, ◌<◌, List, [], replicate, get_or, ap, ◌∙◌, subst, arith}
use Rattle.std.specs.Prelude.{slice_set}
use Rattle.std.proofs.lemmas.List.{map-set, length-set, length-replicate}
use Rattle.std.proofs.Math.ListN.{get_or-map}
use Rattle.std.proofs.lemmas.List.Elements.{All-replicate, All-set, All-get_or}
use Rattle.guest_types.specs.Length.{IsLength}
use Rattle.guest_types.specs.declared.register.ZReg.{ZReg}
use Rattle.guest_types.specs.declared.predicate.PReg.{PReg}
use Rattle.guest_types.specs.EarlyLoads.{StopList}
use Rattle.machine_model.specs.States.{IsVector, IsPredicate}
use Rattle.machine_model.proofs.StateSteps.{zero_vector, zero_predicate}
use Rattle.a64_machine.specs.Cores.{VectorState}
use Rattle.sve_machine.specs.VectorStates.{IsVectorState, vector_state_of, z_bytes, p_bits, z_of, p_of, put_z, put_p, zeros}

pub zeros_are : (vl : ℕ) (stops : StopList) → IsLength vl → IsVectorState (zeros vl stops)
zeros_are vl stops sized = record {
  sized = sized;
  z_count = length-replicate {A = List ℕ} 32 (replicate 256 0);
  z_each = All-replicate (IsVector vl) 32 (replicate 256 0) (zero_vector vl);
  p_count = length-replicate {A = List ℕ} 16 (replicate 32 0);
  p_each = All-replicate (IsPredicate vl) 16 (replicate 32 0) (zero_predicate vl);
  ffr_is = zero_predicate vl;
}

pub z_put : (r : VectorState) (d : ℕ) (bytes : List ℕ) → IsVectorState r → IsVector r.vl bytes → IsVectorState (put_z r d bytes)
z_put r d bytes h v = record {
  sized = h.sized;
  z_count = length-set r.z d bytes ∙ h.z_count;
  z_each = All-set (IsVector r.vl) r.z d bytes v h.z_each;
  p_count = h.p_count;
  p_each = h.p_each;
  ffr_is = h.ffr_is;
}

pub p_put : (r : VectorState) (d : ℕ) (bits : List ℕ) → IsVectorState r → IsPredicate r.vl bits → IsVectorState (put_p r d bits)
p_put r d bits h v = record {
  sized = h.sized;
  z_count = h.z_count;
  z_each = h.z_each;
  p_count = length-set r.p d bits ∙ h.p_count;
  p_each = All-set (IsPredicate r.vl) r.p d bits v h.p_each;
  ffr_is = h.ffr_is;
}

pub z_shape : (r : VectorState) (n : ℕ) → IsVectorState r → n < 32 → IsVector r.vl (z_of r n)
z_shape r n h lt = All-get_or (IsVector r.vl) r.z n [] (omega (arith, h.z_count)) h.z_each

pub p_shape : (r : VectorState) (n : ℕ) → IsVectorState r → n < 16 → IsPredicate r.vl (p_of r n)
p_shape r n h lt = All-get_or (IsPredicate r.vl) r.p n [] (omega (arith, h.p_count)) h.p_each

-- ---- by their fields

pub z_set : (z : List ZReg) (p : List PReg) (ffr : PReg) (vl : ℕ) (stops : StopList) (n : ℕ) (register : ZReg) → vector_state_of (slice_set z n register) p ffr vl stops ≡ put_z (vector_state_of z p ffr vl stops) n register.bytes
z_set z p ffr vl stops n register = ap (λ zs. record (vector_state_of z p ffr vl stops) { z = zs }) (map-set z_bytes z n register)

pub p_set : (z : List ZReg) (p : List PReg) (ffr : PReg) (vl : ℕ) (stops : StopList) (n : ℕ) (register : PReg) → vector_state_of z (slice_set p n register) ffr vl stops ≡ put_p (vector_state_of z p ffr vl stops) n register.bits
p_set z p ffr vl stops n register = ap (λ ps. record (vector_state_of z p ffr vl stops) { p = ps }) (map-set p_bits p n register)

pub z_read : (z : List ZReg) (p : List PReg) (ffr : PReg) (vl : ℕ) (stops : StopList) (n : ℕ) → IsVectorState (vector_state_of z p ffr vl stops) → n < 32 → IsVector vl (get_or z n (record { bytes = [] })).bytes
z_read z p ffr vl stops n h lt = subst (IsVector vl) (get_or-map z_bytes z n (record { bytes = [] })) (z_shape (vector_state_of z p ffr vl stops) n h lt)

pub p_read : (z : List ZReg) (p : List PReg) (ffr : PReg) (vl : ℕ) (stops : StopList) (n : ℕ) → IsVectorState (vector_state_of z p ffr vl stops) → n < 16 → IsPredicate vl (get_or p n (record { bits = [] })).bits
p_read z p ffr vl stops n h lt = subst (IsPredicate vl) (get_or-map p_bits p n (record { bits = [] })) (p_shape (vector_state_of z p ffr vl stops) n h lt)
