-- The entries of a kernel's draft leave X18, X29, X30 and SP alone, and one of them is an exit call.
use Rattle.std.proofs.Common.{◌≡◌, ℕ, suc, List, [], ◌∷◌, ◌++◌, ◌∙◌}
use Rattle.kernel_tree.specs.Plain.{Program}
use Rattle.reg_assign.specs.Registers.{Assignment}
use Rattle.label_fix.specs.DraftRun.{DraftEntry, Branch, Place, Always}
use Rattle.loop_code.specs.Kernel.{begin_code, scalar_code}
use Rattle.overlap_guard.specs.Guard.{guard_code}
use Rattle.vector_emit.specs.VectorCode.{vector_code}
use Rattle.reserved_registers.specs.Alone.{AreAlone, StaysAlone, ExitsOnce}
use Rattle.reserved_registers.proofs.Drafts.{none_adds, emits_adds, whole_alone}
use Rattle.kernel_compile.proofs.VectorEmitted.{Emitted}

abbrev same : ℕ → ℕ
same n = n

-- code before the loop, and scalar code
pub iterations_alone : (R : ℕ → ℕ) (k : Program) (l0 l1 : ℕ) (e0 e1 e2 : List DraftEntry) → e0 ≡ [] → ((rest : List DraftEntry) → e1 ++ rest ≡ e0 ++ begin_code R k l0 rest) → ((rest : List DraftEntry) → e2 ++ rest ≡ e1 ++ scalar_code R k l1 rest) → StaysAlone (begin_code R k l0) → ExitsOnce (scalar_code R k l1) → AreAlone 1 e2
iterations_alone R k l0 l1 e0 e1 e2 none begin loop begins loops =
    whole_alone e2 (emits_adds same suc e1 e2 (scalar_code R k l1) loop (emits_adds same same e0 e1 (begin_code R k l0) begin (none_adds e0 none) begins) loops)

-- and with the guard and the vector part
module _ {R : ℕ → ℕ} {k : Program} {a b : Assignment} {vector scalar n0 n1 n2 n3 n4 n5 n6 : ℕ} {e0 e1 e2 e3 e4 e5 e6 e7 : List DraftEntry} (d : Emitted R k a b vector scalar n0 n1 n2 n3 n4 n5 n6 e0 e1 e2 e3 e4 e5 e6 e7) where
  pub lanes_alone : StaysAlone (begin_code R k n1) → ExitsOnce (scalar_code R k n3) → StaysAlone (guard_code k scalar n5) → StaysAlone (vector_code R k a b scalar n6) → AreAlone 1 e7
  lanes_alone begins loops guards lanes =
      let labelled : StaysAlone (λ rest. e1 ++ rest) = none_adds e1 (d.same ∙ d.none) in
      let begun : StaysAlone (λ rest. e2 ++ rest) = emits_adds same same e1 e2 (begin_code R k n1) d.begin labelled begins in
      let branched : StaysAlone (λ rest. e3 ++ rest) = emits_adds same same e2 e3 (λ rest. Branch Always vector ∷ rest) d.branch begun (λ exits rest h. h) in
      let looped : ExitsOnce (λ rest. e4 ++ rest) = emits_adds same suc e3 e4 (scalar_code R k n3) d.loop branched loops in
      let placed : ExitsOnce (λ rest. e5 ++ rest) = emits_adds suc same e4 e5 (λ rest. Place vector ∷ rest) d.place looped (λ exits rest h. h) in
      let guarded : ExitsOnce (λ rest. e6 ++ rest) = emits_adds suc same e5 e6 (guard_code k scalar n5) d.guard placed guards in
      whole_alone e7 (emits_adds suc same e6 e7 (vector_code R k a b scalar n6) d.lanes guarded lanes)
