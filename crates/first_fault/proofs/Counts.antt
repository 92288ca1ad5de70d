-- How many words the region has.
use Rattle.std.proofs.Common.{ℕ, ◌+◌, ◌≤◌, ℤ, pos, zero, Bool, true, false, List, [], ◌∷◌, length, Option, Some, None, sym, subst, arith}
use Rattle.std.specs.Prelude.{if◌then◌else◌}
use Rattle.std.proofs.lemmas.List.{length-append}
use Rattle.guest_types.specs.declared.length.Width.{Width}
use Rattle.kernel_tree.specs.declared.ops.Ty.{Ty}
use Rattle.machine_model.specs.InstructionTable.{Listed}
use Rattle.loop_form.specs.declared.loop_item.Operand.{Operand}
use Rattle.loop_form.specs.LoopItems.{Op, Item}
use Rattle.loop_form.specs.LoopItems as ops
use Rattle.lane_emit.specs.ItemCode.{op_code, mask_register}
use Rattle.close_bound.specs.CloseBound.{offset_steps, lane_steps, early_steps, items_steps}
use Rattle.chunk_emit.specs.Registers.{Layout, base_of, is_used}
use Rattle.chunk_emit.specs.ChunkCode.{with_index, index_of, vectors}
use Rattle.chunk_emit.proofs.Counts.{used_few as code_few}
use Rattle.first_fault.specs.RegionCode.{Mode, Early, Single, narrow_words, load_words, step_words, region_words}
use Rattle.first_fault.specs.Rest.{AlwaysFew}

-- a word that a mask has more
abbrev narrowed : Option ℕ → ℕ
narrowed None = 0
narrowed (Some q) = 1

narrow_few : (l : Layout) (mask : Option ℕ) (rest : List Listed) (n : ℕ) → length rest ≤ n → length (narrow_words l mask rest) ≤ narrowed mask + n
narrow_few l None rest n h = omega (arith, h)
narrow_few l (Some q) rest n h = omega (arith, h)

index_few : (c : ℤ) (rest : List Listed) (n : ℕ) → length rest ≤ n → length (with_index c rest) ≤ offset_steps c + n
index_few (pos zero) rest n h = omega (arith, h)
index_few other rest n h = omega (arith, h)

-- the words of a load, with those of its mask
load_few : (mode : Mode) (w : Width) (l : Layout) (q : ℕ) (mask : Option ℕ) (a : List ℕ) (from : Operand) (t : Ty) (base index : ℕ) (c : ℤ) → narrowed mask + (offset_steps c + length (load_words mode w l q mask t base index)) ≤ early_steps mask (ops.Load a from (Some t) c)
load_few Early w l q None a from t base index c = omega arith
load_few Early w l q (Some m) a from t base index c = omega arith
load_few Single w l q None a from t base index c = omega arith
load_few Single w l q (Some m) a from t base index c = omega arith

-- an item's own code
own_few : (mask : Option ℕ) (op : Op) (n : ℕ) → n ≤ lane_steps op → narrowed mask + n ≤ early_steps mask op
own_few None op n h = omega (arith, h)
own_few (Some m) op n h = omega (arith, h)

some_few : (mask : Option ℕ) (c : ℕ) → 1 ≤ early_steps mask (ops.Break c)
some_few None c = omega arith
some_few (Some m) c = omega arith

used_few : (w : Width) (l : Layout) (q : ℕ) (mask : Option ℕ) (op : Op) (b : Bool) → length (if b then narrow_words l mask (vectors (op_code w l.registers q (mask_register l.registers mask) op)) else []) ≤ early_steps mask op
used_few w l q mask op true =
    let code = vectors (op_code w l.registers q (mask_register l.registers mask) op) in
    let few = code_few w l q (mask_register l.registers mask) op true in
    let all = narrow_few l mask code (length code) (omega arith) in
    let own = own_few mask op (length code) few in
    omega (arith, all, own)
used_few w l q mask op false = omega arith

step_few : (mode : Mode) (w : Width) (l : Layout) (q : ℕ) (mask : Option ℕ) (op : Op) → length (step_words mode w l q mask op) ≤ early_steps mask op
step_few mode w l q mask (ops.Load a base (Some t) c) =
    let load = load_words mode w l q mask t (base_of base) (index_of c) in
    let few = load_few mode w l q mask a base t (base_of base) (index_of c) c in
    let index = index_few c load (length load) (omega arith) in
    let all = narrow_few l mask (with_index c load) (offset_steps c + length load) index in
    omega (arith, few, all)
step_few mode w l q mask (ops.Load a base None c) = used_few w l q mask (ops.Load a base None c) (is_used l (ops.Load a base None c) q)
step_few mode w l q mask (ops.Break c) = some_few mask c
step_few mode w l q mask (ops.Gather a base t reach u x) = used_few w l q mask (ops.Gather a base t reach u x) (is_used l (ops.Gather a base t reach u x) q)
step_few mode w l q mask (ops.Unary op t x) = used_few w l q mask (ops.Unary op t x) (is_used l (ops.Unary op t x) q)
step_few mode w l q mask (ops.Binary op t x y) = used_few w l q mask (ops.Binary op t x y) (is_used l (ops.Binary op t x y) q)
step_few mode w l q mask (ops.Shift left k t x) = used_few w l q mask (ops.Shift left k t x) (is_used l (ops.Shift left k t x) q)
step_few mode w l q mask (ops.Cast s t x) = used_few w l q mask (ops.Cast s t x) (is_used l (ops.Cast s t x) q)
step_few mode w l q mask (ops.Let t x) = used_few w l q mask (ops.Let t x) (is_used l (ops.Let t x) q)
step_few mode w l q mask (ops.Select t c x y) = used_few w l q mask (ops.Select t c x y) (is_used l (ops.Select t c x y) q)
step_few mode w l q mask (ops.Store a base t c v) = used_few w l q mask (ops.Store a base t c v) (is_used l (ops.Store a base t c v) q)
step_few mode w l q mask (ops.Update x op t v) = used_few w l q mask (ops.Update x op t v) (is_used l (ops.Update x op t v) q)
step_few mode w l q mask (ops.Compare op t x y) = used_few w l q mask (ops.Compare op t x y) (is_used l (ops.Compare op t x y) q)
step_few mode w l q mask (ops.Not c) = used_few w l q mask (ops.Not c) (is_used l (ops.Not c) q)
step_few mode w l q mask (ops.And c) = used_few w l q mask (ops.And c) (is_used l (ops.And c) q)
step_few mode w l q mask (ops.Or c d) = used_few w l q mask (ops.Or c d) (is_used l (ops.Or c d) q)

region_few : (mode : Mode) (w : Width) (l : Layout) (items : List Item) → length (region_words mode w l items) ≤ items_steps true items
region_few mode w l [] = omega arith
region_few mode w l (it ∷ items) =
    subst (λ n. n ≤ items_steps true (it ∷ items)) (sym (length-append (step_words mode w l it.item it.mask it.op) (region_words mode w l items)))
    (let here = step_few mode w l it.item it.mask it.op in let more = region_few mode w l items in omega (arith, here, more))

pub always_few : AlwaysFew
always_few w l items = record { exits = let few = region_few Early w l items in omega (arith, few); single = region_few Single w l items }
