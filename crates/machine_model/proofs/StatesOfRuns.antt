-- Every state of a run keeps its shape, whatever words are run.
use Rattle.std.proofs.Common.{◌≡◌, ℕ, zero, suc, List, [], ◌∷◌, Option, Some, None, refl, sym, ◌∙◌, subst, inl, inr}
use Rattle.std.specs.Prelude.{◌==◌, bit_and}
use Rattle.std.proofs.lemmas.Bool.{cases_Bool, cond-true, cond-false, and_parts}
use Rattle.guest_types.specs.Memory.{fetched}
use Rattle.word_rows.specs.Row.{Row, Instruction, IsInstruction, reads, takes, numbers_in, mask_of}
use Rattle.word_rows.proofs.TableLaws.{numbers_in-fit}
use Rattle.a64_code.specs.Table as a64
use Rattle.sve_code.specs.Table as sve
use Rattle.machine_model.specs.declared.outcome.StopKind.TheVariants.{Undefined}
use Rattle.machine_model.specs.InstructionTable.{Listed, Scalar, Vector, either_table, listed}
use Rattle.machine_model.specs.Machine.{State, Step, Went, Ended, Stopped}
use Rattle.machine_model.specs.OneStep.{step, does, do_word, reads_word}
use Rattle.machine_model.specs.Run.{after_steps}
use Rattle.machine_model.specs.States.{IsState}
use Rattle.machine_model.proofs.ScalarStates.{scalar_keeps}
use Rattle.machine_model.proofs.StateLaws.{vector_keeps}

-- ---- what is read is listed

read_row : {Name : Type 0} (row : Name → Row) (names : List Name) (word : ℕ) (i : Instruction Name) → reads row names word ≡ Some i → IsInstruction row names i
unfolding reads
read_row row [] word i e = cc
read_row row (n ∷ names) word i e =
    elim (cases_Bool (takes (row n) word)) [
      | inl takes_it ↦
          let found : Some (record { name = n; numbers = numbers_in word (row n).fields }) ≡ Some i = sym (cond-true _ _ _ takes_it) ∙ e in
          let same : record { name = n; numbers = numbers_in word (row n).fields } ≡ i = cc in
          subst (IsInstruction row (n ∷ names)) same
          (record { place = zero; listed = refl; fits = numbers_in-fit word (row n).fields; admitted = (and_parts (bit_and word (mask_of (row n)) == (row n).base) _ takes_it).1 })
      | inr other ↦
          let rest = read_row row names word i (sym (cond-false _ _ _ other) ∙ e) in
          record { place = suc rest.place; listed = rest.listed; fits = rest.fits; admitted = rest.admitted }
    ]

scalar_read : (a : Option (Instruction a64.Name)) (v : Option (Instruction sve.Name)) (i : Instruction a64.Name) → either_table a v ≡ Some (Scalar i) → a ≡ Some i
scalar_read (Some j) v i e = cc
scalar_read None (Some w) i e = cc
scalar_read None None i e = cc

vector_read : (a : Option (Instruction a64.Name)) (v : Option (Instruction sve.Name)) (i : Instruction sve.Name) → either_table a v ≡ Some (Vector i) → v ≡ Some i
vector_read (Some j) v i e = cc
vector_read None (Some w) i e = cc
vector_read None None i e = cc

-- ---- a step, and a run

does_keeps : (word : ℕ) (i : Listed) (s t : State) → listed word ≡ Some i → IsState s → does i s ≡ Went t → IsState t
does_keeps word (Scalar i) s t is h e =
    let table = read_row a64.row a64.a64_names word i (scalar_read (reads a64.row a64.a64_names word) (reads sve.row sve.sve_names word) i is) in
    scalar_keeps i.name i.numbers s t table.fits h e
does_keeps word (Vector i) s t is h e =
    vector_keeps i s t (read_row sve.row sve.sve_names word i (vector_read (reads a64.row a64.a64_names word) (reads sve.row sve.sve_names word) i is)) h e

read_keeps : (word : ℕ) (o : Option Listed) (s t : State) → listed word ≡ o → IsState s → elim o as (λ o. Step) [ None ↦ Stopped Undefined s.pc word s.memory | Some i ↦ does i s ] ≡ Went t → IsState t
read_keeps word None s t is h e = absurd cc
read_keeps word (Some i) s t is h e = does_keeps word i s t is h e

word_keeps : (o : Option ℕ) (s t : State) → IsState s → do_word o s ≡ Went t → IsState t
unfolding reads_word
word_keeps None s t h e = absurd cc
word_keeps (Some word) s t h e = read_keeps word (listed word) s t refl h e

pub step_keeps : (s t : State) → IsState s → step s ≡ Went t → IsState t
step_keeps s t h e = word_keeps (fetched s.memory s.pc) s t h e

state_after_step : (o : Step) (n : ℕ) (t : State) → ((u : State) → o ≡ Went u → IsState u) → ((u : State) → IsState u → after_steps n u ≡ Some t → IsState t) → elim o as (λ o. Option State) [ Went u ↦ after_steps n u | Ended result ↦ None | Stopped kind pc at memory ↦ None ] ≡ Some t → IsState t
state_after_step (Went u) n t is rest e = rest u (is u refl) e
state_after_step (Ended r) n t is rest e = absurd cc
state_after_step (Stopped k p a m) n t is rest e = absurd cc

pub steps_keep : (n : ℕ) (s t : State) → IsState s → after_steps n s ≡ Some t → IsState t
steps_keep zero s t h e = let same : s ≡ t = cc in subst IsState same h
steps_keep (suc n) s t h e = state_after_step (step s) n t (λ u is. step_keeps s u h is) (λ u is rest. steps_keep n u t is rest) e
