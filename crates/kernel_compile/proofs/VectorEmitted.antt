-- What the emitting calls of a kernel with a vector part leave in a draft.
use Rattle.std.proofs.Common.{◌≡◌, ℕ, ◌+◌, ◌*◌, ◌<◌, ◌≤◌, List, [], ◌∷◌, ◌++◌, append-nil, Option, Some, None, sym, ap, ◌∙◌, subst, arith}
use Rattle.kernel_tree.specs.Plain.{PlainLoop, Returned, Program}
use Rattle.kernel_tree.specs.Items.{size_of, loop_index}
use Rattle.label_fix.specs.DraftRun.{DraftEntry, Branch, Place, Always}
use Rattle.label_fix.specs.Finished.{size}
use Rattle.label_fix.proofs.LabelsOnce.{Once}
use Rattle.label_fix.proofs.PlacedRuns.{size-append}
use Rattle.reg_assign.specs.Registers.{Assignment}
use Rattle.dependence.specs.Apart.{used_of}
use Rattle.loop_code.specs.Kernel.{begin_code, begin_labels, scalar_code, scalar_labels, for_loop_labels}
use Rattle.overlap_guard.specs.Guard.{is_free, guard_code}
use Rattle.vector_emit.specs.VectorCode.{vector_code}
use Rattle.kernel_compile.proofs.VectorPlaced.{guard_end, whole_code, grows_by, whole_once}
use Rattle.kernel_compile.proofs.VectorJoin.{scalar_part, guard_part, vector_part}
use Rattle.kernel_compile.proofs.VectorFiles.{IsWhole}

-- Drafts one after another, each by its labels and entries, and how each comes of the one before it: a label for the vector
-- part, the code before the loop, a branch, scalar code, the label's place, the guard and the vector part.
pub record Emitted (R : ℕ → ℕ) (k : Program) (a b : Assignment) (vector scalar n0 n1 n2 n3 n4 n5 n6 : ℕ) (e0 e1 e2 e3 e4 e5 e6 e7 : List DraftEntry) : Type 0 where
  pub none : e0 ≡ []
  pub first : n0 ≡ 0
  pub label : vector ≡ n0
  pub one : n1 ≡ n0 + 1
  pub same : e1 ≡ e0
  pub begun : n2 ≡ n1 + begin_labels k
  pub begin : (rest : List DraftEntry) → e2 ++ rest ≡ e1 ++ begin_code R k n1 rest
  pub branched : n3 ≡ n2
  pub branch : (rest : List DraftEntry) → e3 ++ rest ≡ e2 ++ Branch Always vector ∷ rest
  pub entry : scalar ≡ n3
  pub looped : n4 ≡ n3 + scalar_labels k
  pub loop : (rest : List DraftEntry) → e4 ++ rest ≡ e3 ++ scalar_code R k n3 rest
  pub placed : n5 ≡ n4
  pub place : (rest : List DraftEntry) → e5 ++ rest ≡ e4 ++ Place vector ∷ rest
  pub guarded : n6 ≡ guard_end k n5
  pub guard : (rest : List DraftEntry) → e6 ++ rest ≡ e5 ++ guard_code k scalar n5 rest
  pub lanes : (rest : List DraftEntry) → e7 ++ rest ≡ e6 ++ vector_code R k a b scalar n6 rest

-- scalar code has a label
some_label : (k : Program) → 1 ≤ scalar_labels k
some_label k = by (loop_index k) k.for_loop k.answer
  where
    by : (i : Option (List ℕ)) (l : Option PlainLoop) (answer : Option Returned) → 1 ≤ for_loop_labels i l answer
    by i None answer = omega arith
    by i (Some l) answer = omega arith

-- the label of scalar code is given when the vector part is emitted
pub label_given : (k : Program) (scalar n3 n4 n5 n6 : ℕ) → scalar ≡ n3 → n4 ≡ n3 + scalar_labels k → n5 ≡ n4 → n6 ≡ guard_end k n5 → scalar < n6
label_given k scalar n3 n4 n5 n6 s v u g = let h = grows_by (is_free (used_of k)) n5 (used_of k) in omega (arith, s, u, v, g, h, some_label k)

-- and when the guard is
pub label_placed : (k : Program) (scalar n3 n4 n5 : ℕ) → scalar ≡ n3 → n4 ≡ n3 + scalar_labels k → n5 ≡ n4 → scalar < n5
label_placed k scalar n3 n4 n5 s v u = omega (arith, s, u, v, some_label k)

module _ {R : ℕ → ℕ} {k : Program} {a b : Assignment} {vector scalar n0 n1 n2 n3 n4 n5 n6 : ℕ} {e0 e1 e2 e3 e4 e5 e6 e7 : List DraftEntry} (d : Emitted R k a b vector scalar n0 n1 n2 n3 n4 n5 n6 e0 e1 e2 e3 e4 e5 e6 e7) where
  zero_label : vector ≡ 0
  zero_label = d.label ∙ d.first

  first_label : n1 ≡ 1
  first_label = let h = d.one in let z = d.first in omega (arith, h, z)

  pub is_whole : IsWhole R k a b n3 n5 n6 e7
  is_whole =
      let part = vector_part R k a b n3 n6 in
      let guard = guard_part R k a b n3 n5 n6 in
      let loop = scalar_part R k a b n3 n5 n6 in
      let in_vector : e7 ≡ e6 ++ part = sym (append-nil e7) ∙ d.lanes [] ∙ ap (λ s. e6 ++ vector_code R k a b s n6 []) d.entry in
      let in_guard : e7 ≡ e4 ++ Place 0 ∷ guard = in_vector ∙ d.guard part ∙ ap (λ s. e5 ++ guard_code k s n5 part) d.entry ∙ d.place guard ∙ ap (λ l. e4 ++ Place l ∷ guard) zero_label in
      let in_loop : e7 ≡ e3 ++ loop = in_guard ∙ d.loop (Place 0 ∷ guard) in
      let before : e1 ≡ [] = d.same ∙ d.none in
      let all : e7 ≡ whole_code R k a b n3 n5 n6 =
      in_loop ∙ d.branch loop ∙ ap (λ l. e2 ++ Branch Always l ∷ loop) zero_label ∙ d.begin (Branch Always 0 ∷ loop) ∙ ap (λ es. es ++ begin_code R k n1 (Branch Always 0 ∷ loop)) before ∙ ap (λ l. begin_code R k l (Branch Always 0 ∷ loop)) first_label in
      let x = d.branched in
      let y = d.begun in
      let u = d.placed in
      let v = d.looped in
      record {
        all = all;
        before_scalar = e3;
        scalar = in_loop;
        before_guard = e4;
        guard = in_guard;
        before_vector = e6;
        vector = in_vector;
        placed = subst Once (sym all) (whole_once R k a b n3 n5 n6 (omega (arith, x, y, first_label)) (omega (arith, u, v)) d.guarded);
      }

  -- by the words of each part
  pub vector_code_words_le : size e2 ≤ size e1 + (40 + 8 * size_of k) → size e4 ≤ size e3 + (64 + 16 * size_of k) → size e6 ≤ size e5 + 464 → size e7 ≤ size e6 + (200 + 32 * size_of k) → size e7 ≤ 860 + 56 * size_of k
  vector_code_words_le begin loop guard lanes =
      let none : size e1 ≡ 0 = ap size (d.same ∙ d.none) in
      let branch : size e3 ≡ size e2 + 1 = ap size (sym (append-nil e3) ∙ d.branch []) ∙ size-append e2 (Branch Always vector ∷ []) in
      let place : size e5 ≡ size e4 = ap size (sym (append-nil e5) ∙ d.place []) ∙ size-append e4 (Place vector ∷ []) ∙ (let z : size e4 + 0 ≡ size e4 = omega arith in z) in
      omega (arith, begin, loop, none, branch, place, guard, lanes)
