use Rattle.std.proofs.Common.{◌≡◌, Ok, Err, OnOk, IfErr, ap, ap₂, ◌∙◌, subst}
use Rattle.std.proofs.lemmas.Result.{IfOk-weaker}
use Rattle.std.specs.Prelude.{ℕ, List}
use Rattle.guest_types.specs.Memory.{Memory}
use Rattle.machine_model.specs.States.{IsVector, IsPredicate}
use Rattle.a64_machine.specs.Cores.{VectorState}
use Rattle.lane_memory.specs.Loads.{LoadLeft}
use Rattle.lane_memory.specs.Gathers.{gather_of}
use Rattle.sve_machine.specs.VectorStates.{z_of, p_of}
use Rattle.sve_machine.proofs.Loads.{gather_shape}
use Rattle.sve_machine.proofs.vectors.Vectors.gathered.Goals as goal

-- the operands are those of the registers
at_registers : (dtype base : ℕ) (memory : Memory) (r : VectorState) (zm g vl : ℕ) (offsets pg : List ℕ) → vl ≡ r.vl → offsets ≡ z_of r zm → pg ≡ p_of r g → gather_of dtype base vl memory r.stops offsets pg r.ffr ≡ gather_of dtype base r.vl memory r.stops (z_of r zm) (p_of r g) r.ffr
at_registers dtype base memory r zm g vl offsets pg v o p =
    ap (λ n. gather_of dtype base n memory r.stops offsets pg r.ffr) v
    ∙ ap₂ (λ z m. gather_of dtype base r.vl memory r.stops z m r.ffr) o p

pub returns-clause-done : goal.returns-clause-done
returns-clause-done c =
    let r = c.args.self.now in
    let left : LoadLeft = record { z = c.gather_into.new.out.bytes; ffr = r.ffr; stops = r.stops } in
    subst (λ o. OnOk c.gather_into.result (o ≡ Ok left))
    (at_registers c.args.row.dtype c.args.base c.args.pages.now.memory r c.args.zm c.args.pg c.vl.result c.z-offsets.result.now.bytes c.p-mask.result.now.bits c.vl.ensures.value c.z-offsets.ensures.value c.p-mask.ensures.value)
    (c.gather_into.ensures.done r.stops r.ffr)

pub returns-clause-refused : goal.returns-clause-refused
returns-clause-refused c =
    let r = c.args.self.now in
    subst (λ o. IfErr c.gather_into.result (λ fault. o ≡ Err fault))
    (at_registers c.args.row.dtype c.args.base c.args.pages.now.memory r c.args.zm c.args.pg c.vl.result c.z-offsets.result.now.bytes c.p-mask.result.now.bits c.vl.ensures.value c.z-offsets.ensures.value c.p-mask.ensures.value)
    (c.gather_into.ensures.refused r.stops r.ffr)

pub returns-clause-shape : goal.returns-clause-shape
returns-clause-shape c =
    let r = c.args.self.now in
    let left : LoadLeft = record { z = c.gather_into.new.out.bytes; ffr = r.ffr; stops = r.stops } in
    IfOk-weaker c.gather_into.result
    (λ _. gather_of c.args.row.dtype c.args.base r.vl c.args.pages.now.memory r.stops (z_of r c.args.zm) (p_of r c.args.pg) r.ffr ≡ Ok left)
    (λ _. IsVector r.vl c.gather_into.new.out.bytes)
    (λ _ e. (gather_shape c.args.row.dtype c.args.base r.vl c.args.pages.now.memory r.stops (z_of r c.args.zm) (p_of r c.args.pg) r.ffr left c.ffr-ffr.ensures.sized (subst (IsPredicate r.vl) c.ffr-ffr.ensures.value c.ffr-ffr.ensures.shape) e).z)
    (returns-clause-done c)
