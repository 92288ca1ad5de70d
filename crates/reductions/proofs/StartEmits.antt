-- The code before the loop, value after value.
use Rattle.std.proofs.Common.{◌≡◌, ℕ, suc, ◌+◌, ◌<◌, List, length, drop, get_or, sym, ap₂, ◌∙◌, arith}
use Rattle.std.specs.Prelude.{slice_index}
use Rattle.std.proofs.lemmas.List.{at_drop_more}
use Rattle.kernel_tree.specs.Plain.{Program}
use Rattle.label_fix.specs.DraftRun.{DraftEntry}
use Rattle.reg_assign.specs.Registers.{Assignment}
use Rattle.loop_form.specs.declared.held_throughout.Held.{Held}
use Rattle.loop_form.specs.HeldView.{view_of, view}
use Rattle.reductions.specs.EdgeCode.{hold_code, holds_code}

-- the code of a value, and that of the values after it
pub next_value : (k : Program) (a : Assignment) (j z i : ℕ) (values : List Held) (d : Held) (rest : List DraftEntry) → i < length values → z ≡ slice_index a.registers j
    → hold_code k z (view_of (get_or values i d)) (holds_code k a (j + 1) (view (drop (i + 1) values)) rest) ≡ holds_code k a j (view (drop i values)) rest
next_value k a j z i values d rest lt is =
    let next : j + 1 ≡ suc j = omega arith in
    ap₂ (λ r n. hold_code k r (view_of (get_or values i d)) (holds_code k a n (view (drop (i + 1) values)) rest)) is next
    ∙ sym (at_drop_more (λ vs. holds_code k a j (view vs) rest) values i d lt)
