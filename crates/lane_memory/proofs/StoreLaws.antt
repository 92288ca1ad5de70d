-- Stores of lanes, at their operands.
use Rattle.std.proofs.Common.{◌≡◌, ℕ, ◌+◌, ◌-◌, true, false, List, Result, Ok, Err, OnOk, OnErr, IfErr, sym, ap, ap₂, ◌∙◌, arith}
use Rattle.std.proofs.lemmas.Bool.{cond-true, cond-false}
use Rattle.guest_types.specs.declared.length.Width.{Width}
use Rattle.guest_types.specs.Length.{width_bytes, lanes}
use Rattle.guest_types.specs.declared.memory.AccessFault.{AccessFault}
use Rattle.guest_types.specs.Memory.{Memory, stored}
use Rattle.guest_types.specs.Elements.{at, active}
use Rattle.guest_types.specs.LaneMemory.{AllStored, StoreFault, lane_address, store_lanes, store_on, store_of, width_of_size}
use Rattle.lane_memory.specs.declared.writing.Writing.{Writing}
use Rattle.lane_memory.specs.Writings.{target_of, stored_of}

pub store_of-writing : (msz size base index vl : ℕ) (pg z : List ℕ) (memory : Memory) (w : Writing) (n : ℕ) → w.memory ≡ width_of_size msz → w.element ≡ width_of_size size → w.base ≡ base → w.index ≡ index → n ≡ lanes vl w.element → store_of msz size base index vl pg z memory ≡ stored_of w pg z (n - 0) 0 memory
store_of-writing msz size base index vl pg z memory w n m e b i count =
    let store : Width → Width → ℕ → ℕ → ℕ → _ = λ v u base index n. store_lanes (active u pg) (lane_address base index (width_bytes v)) (at u z) (width_bytes v) n 0 memory in
    ap₂ (λ v u. store v u base index (lanes vl u)) (sym m) (sym e)
    ∙ ap₂ (λ b i. store w.memory w.element b i (lanes vl w.element)) (sym b) (sym i)
    ∙ ap (store w.memory w.element w.base w.index) (sym count ∙ (let q : n ≡ n - 0 = omega arith in q))

-- ---- one element

stored-same : (w : Writing) (z : List ℕ) (m : Memory) (e a k v : ℕ) → a ≡ target_of w e → k ≡ width_bytes w.memory → v ≡ at w.element z e → stored m (target_of w e) (width_bytes w.memory) (at w.element z e) ≡ stored m a k v
stored-same w z m e a k v ea ek ev = sym (ap₂ (λ a k. stored m a k v) ea ek ∙ ap (stored m (target_of w e) (width_bytes w.memory)) ev)

pub one-done : {T : Type 0} (w : Writing) (pg z : List ℕ) (m new : Memory) (e a k v : ℕ) (r : Result T AccessFault) → active w.element pg e ≡ true → a ≡ target_of w e → k ≡ width_bytes w.memory → v ≡ at w.element z e → OnOk r (stored m a k v ≡ Ok new) → OnOk r (stored_of w pg z 1 e m ≡ AllStored new)
one-done w pg z m new e a k v (Ok x) on ea ek ev h = cond-true _ _ _ on ∙ ap (λ s. store_on s m (stored_of w pg z 0 (e + 1))) (stored-same w z m e a k v ea ek ev ∙ h)
one-done w pg z m new e a k v (Err f) on ea ek ev h = tt

pub one-refused : {T : Type 0} (w : Writing) (pg z : List ℕ) (m new : Memory) (e a k v : ℕ) (r : Result T AccessFault) → active w.element pg e ≡ true → a ≡ target_of w e → k ≡ width_bytes w.memory → v ≡ at w.element z e → IfErr r (λ fault. stored m a k v ≡ Err fault) → OnErr r (new ≡ m)
    → IfErr r (λ fault. stored_of w pg z 1 e m ≡ StoreFault fault new)
one-refused w pg z m new e a k v (Ok x) on ea ek ev h same = tt
one-refused w pg z m new e a k v (Err f) on ea ek ev h same =
    cond-true _ _ _ on ∙ ap (λ s. store_on s m (stored_of w pg z 0 (e + 1))) (stored-same w z m e a k v ea ek ev ∙ h) ∙ ap (StoreFault f) (sym same)

pub one-passed : (w : Writing) (pg z : List ℕ) (m : Memory) (e : ℕ) → active w.element pg e ≡ false → stored_of w pg z 1 e m ≡ AllStored m
one-passed w pg z m e off = cond-false _ _ _ off
