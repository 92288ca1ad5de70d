-- What the code of a draft keeps: X18, X29, X30 and SP, and the registers that none of its words writes.
use Rattle.std.proofs.Common.{◌≡◌, ◌≢◌, ℕ, suc, Bool, true, false, List, [], ◌∷◌, ◌++◌, Option, Some, None, refl, sym, ap, ◌∙◌, subst}
use Rattle.std.specs.Prelude.{not, slice_index, slice_index_or}
use Rattle.std.proofs.lemmas.Bool.{and_parts}
use Rattle.machine_model.specs.CodeInMemory.{spell, IsListed}
use Rattle.machine_model.specs.Frames.{SameUnless, OtherX, OtherZ}
use Rattle.machine_model.specs.InstructionTable.{Listed, Scalar, Vector}
use Rattle.machine_model.specs.Machine.{State, Went, x_at, z_at}
use Rattle.machine_model.specs.OneStep.{does}
use Rattle.machine_model.specs.VectorEffects.{field_of}
use Rattle.machine_model.proofs.Frames.{went_leaves}
use Rattle.machine_model.proofs.ScalarFrames.{scalar_leaves}
use Rattle.label_fix.specs.DraftRun.{DraftEntry, Put, Branch, Place, Laid}
use Rattle.label_fix.specs.Finished.{AreFit, words_from, words_of}
use Rattle.promises.specs.Reserved.{register_written, writes_stack_pointer, is_reserved, none_reserved, leaves_reserved}
use Rattle.call_code.specs.Called.{LeavesAlone}
use Rattle.promises.specs.Saved.{is_number, word_writes, is_written, vector_written}
use Rattle.promises.proofs.ReservedKept.{reserved_x_stays, sp_unless_written}
use Rattle.call_code.proofs.Among.{spelled_writes, head_not, tail_not, is_other}
use Rattle.call_code.proofs.ReturnedRuns.{IsKept}

-- ---- what an instruction keeps

other_x_stays : (o : Option ℕ) (s t : State) (n : ℕ) → is_number n o ≡ false → OtherX o s t → x_at t n ≡ x_at s n
other_x_stays None s t n h same = ap (λ x. slice_index x n) same
other_x_stays (Some d) s t n h same = same n (is_other n d h)

other_z_stays : (o : Option ℕ) (s t : State) (n : ℕ) → is_number n o ≡ false → OtherZ o s t → z_at t n ≡ z_at s n
other_z_stays None s t n h same = ap (λ z. slice_index_or z n []) same
other_z_stays (Some d) s t n h same = same n (is_other n d h)

-- ---- the words of a draft

put_listed : (labels : ℕ) (pre rest : List DraftEntry) (i : Listed) → AreFit labels (pre ++ Put i ∷ rest) → IsListed i
put_listed labels [] rest i h = h.0.0
put_listed labels (Put j ∷ pre) rest i h = put_listed labels pre rest i h.1
put_listed labels (Branch k l ∷ pre) rest i h = put_listed labels pre rest i h.2
put_listed labels (Place l ∷ pre) rest i h = put_listed labels pre rest i h.1

put_not : (written : Listed → Option ℕ) (r : ℕ) (whole pre rest : List DraftEntry) (n : ℕ) (i : Listed) → is_written written r (words_from whole n (pre ++ Put i ∷ rest)) ≡ false → word_writes written r (spell i) ≡ false
put_not written r whole [] rest n i h = head_not written r _ _ h
put_not written r whole (Put j ∷ pre) rest n i h = put_not written r whole pre rest (suc n) i (tail_not written r _ _ h)
put_not written r whole (Branch k l ∷ pre) rest n i h = put_not written r whole pre rest (suc n) i (tail_not written r _ _ h)
put_not written r whole (Place l ∷ pre) rest n i h = put_not written r whole pre rest n i h

-- ---- what their run keeps

pub record Keeps (words : List ℕ) (s t : State) : Type 0 where
  pub x : (n : ℕ) → is_reserved n ≡ true → x_at t n ≡ x_at s n
  pub sp : t.sp ≡ s.sp
  pub other_x : (n : ℕ) → is_written register_written n words ≡ false → x_at t n ≡ x_at s n
  pub other_z : (n : ℕ) → is_written vector_written n words ≡ false → z_at t n ≡ z_at s n

-- where what the words do not write the instruction does not write
abbrev IsAmong : List ℕ → Listed → Type 0
IsAmong words i = (written : Listed → Option ℕ) (r : ℕ) → is_written written r words ≡ false → is_number r (written i) ≡ false

goes_keeping : (words : List ℕ) (i : Listed) (s t : State) → IsAmong words i → leaves_reserved i ≡ true → does i s ≡ Went t → Keeps words s t
goes_keeping words (Scalar i) s t among h e =
    let l = scalar_leaves i.name i.numbers s t e in
    let two = and_parts (none_reserved (register_written (Scalar i))) (not (writes_stack_pointer (Scalar i))) h in
    record {
      x = λ n r. reserved_x_stays (register_written (Scalar i)) s t n two.0 r l.x;
      sp = sp_unless_written (writes_stack_pointer (Scalar i)) s.sp t.sp two.1 l.sp;
      other_x = λ n off. other_x_stays (register_written (Scalar i)) s t n (among register_written n off) l.x;
      other_z = λ n off. other_z_stays None s t n refl l.z;
    }
goes_keeping words (Vector i) s t among h e =
    let l = went_leaves i.name (field_of i.name i.numbers) s t e in
    let two = and_parts (none_reserved (register_written (Vector i))) (not (writes_stack_pointer (Vector i))) h in
    record {
      x = λ n r. reserved_x_stays (register_written (Vector i)) s t n two.0 r l.x;
      sp = l.sp;
      other_x = λ n off. other_x_stays (register_written (Vector i)) s t n (among register_written n off) l.x;
      other_z = λ n off. other_z_stays (vector_written (Vector i)) s t n (among vector_written n off) l.z;
    }

keeps_on : (words : List ℕ) (s t u : State) → Keeps words s t → Keeps words t u → Keeps words s u
keeps_on words s t u h k = record {
  x = λ n r. k.x n r ∙ h.x n r;
  sp = k.sp ∙ h.sp;
  other_x = λ n off. k.other_x n off ∙ h.other_x n off;
  other_z = λ n off. k.other_z n off ∙ h.other_z n off;
}

pub draft_keeps : (labels : ℕ) (d : Laid) → AreFit labels d.entries → LeavesAlone d.entries → IsKept (Keeps (words_of d.entries)) d
unfolding words_of
draft_keeps labels d fit alone = record {
  on = keeps_on (words_of d.entries);
  jumps = λ s pc. record { x = λ n r. refl; sp = refl; other_x = λ n off. refl; other_z = λ n off. refl };
  puts = λ i pre rest s t e is.
      let listed = put_listed labels pre rest i (subst (AreFit labels) e fit) in
      goes_keeping (words_of d.entries) i s t
      (λ written r off. sym (spelled_writes written i r listed) ∙ put_not written r d.entries pre rest 0 i (ap (λ es. is_written written r (words_from d.entries 0 es)) (sym e) ∙ off))
      (alone i pre rest e) is;
}
