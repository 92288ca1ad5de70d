-- A run that begins with no stop list has none after any step.
use Rattle.std.proofs.Common.{◌≡◌, ℕ, zero, suc, Option, Some, None, refl, ap, ◌∙◌, subst}
use Rattle.guest_types.specs.declared.memory.AccessFault.{AccessFault}
use Rattle.guest_types.specs.Memory.{fetched}
use Rattle.guest_types.specs.Length.{lanes}
use Rattle.guest_types.specs.Elements.{first_true}
use Rattle.guest_types.specs.LaneMemory.{load_form, fault_at}
use Rattle.guest_types.specs.EarlyLoads.{StopList, EarlyLoad, never, later, early_load, later_than, unless_fault}
use Rattle.guest_types.proofs.EarlyLoads.{later-never}
use Rattle.word_rows.specs.Field.{Field, rm}
use Rattle.sve_code.specs.Table as sve
use Rattle.sve_code.specs.Table.{Name, dtype, zt, ldff1, ldnf1}
use Rattle.machine_model.specs.declared.outcome.StopKind.TheVariants.{Undefined}
use Rattle.machine_model.specs.InstructionTable.{Listed, Scalar, Vector}
use Rattle.machine_model.specs.Machine.{State, Step, Went, Ended, Stopped, x_at, next}
use Rattle.machine_model.specs.VectorEffects.{vector_act, after_early, with_early, non_fault_of, load_mask, lane_places}
use Rattle.machine_model.specs.OneStep.{step, does, do_word, reads_word}
use Rattle.machine_model.specs.Run.{after_steps}
use Rattle.machine_model.proofs.Frames.{went_leaves}
use Rattle.machine_model.proofs.ScalarFrames.{scalar_leaves}

later_still : (stops : StopList) (n : ℕ) → stops ≡ never → later stops n ≡ never
later_still stops n q = ap (λ l. later l n) q ∙ later-never n

after_quiet : (s t : State) (d : ℕ) (load : EarlyLoad) → load.stops ≡ never → Went (next (with_early s d load)) ≡ Went t → t.stops ≡ never
after_quiet s t d load q e = let same : next (with_early s d load) ≡ t = cc in subst (λ (u : State). u.stops ≡ never) same q

first_quiet : (s t : State) (d : ℕ) (o : Option AccessFault) (load : EarlyLoad) → load.stops ≡ never → after_early (unless_fault o load) d s ≡ Went t → t.stops ≡ never
first_quiet s t d None load q e = after_quiet s t d load q e
first_quiet s t d (Some fault) load q e = absurd cc

vector_quiet : (n : Name) (f : Field → ℕ) (s t : State) → s.stops ≡ never → vector_act n f s ≡ Went t → t.stops ≡ never
vector_quiet ldff1 f s t q e =
    let form = load_form (f dtype) in
    let on = load_mask form f s in
    let g = lane_places form f (x_at s (f rm)) s in
    let n = lanes s.vl form.element in
    first_quiet s t (f zt) (fault_at form s.memory g (first_true on n 0)) (early_load form s.memory s.stops on (later_than (first_true on n 0) on) g n s.ffr)
    (later_still s.stops _ q) e
vector_quiet ldnf1 f s t q e = after_quiet s t (f zt) (non_fault_of f s) (later_still s.stops _ q) e
vector_quiet sve.ptrue f s t q e = (went_leaves sve.ptrue f s t e).stops ∙ q
vector_quiet sve.pfalse f s t q e = (went_leaves sve.pfalse f s t e).stops ∙ q
vector_quiet sve.whilelo f s t q e = (went_leaves sve.whilelo f s t e).stops ∙ q
vector_quiet sve.ptest f s t q e = (went_leaves sve.ptest f s t e).stops ∙ q
vector_quiet sve.p_and f s t q e = (went_leaves sve.p_and f s t e).stops ∙ q
vector_quiet sve.p_bic f s t q e = (went_leaves sve.p_bic f s t e).stops ∙ q
vector_quiet sve.p_eor f s t q e = (went_leaves sve.p_eor f s t e).stops ∙ q
vector_quiet sve.p_orr f s t q e = (went_leaves sve.p_orr f s t e).stops ∙ q
vector_quiet sve.p_ands f s t q e = (went_leaves sve.p_ands f s t e).stops ∙ q
vector_quiet sve.brka f s t q e = (went_leaves sve.brka f s t e).stops ∙ q
vector_quiet sve.brkb f s t q e = (went_leaves sve.brkb f s t e).stops ∙ q
vector_quiet sve.rdffr f s t q e = (went_leaves sve.rdffr f s t e).stops ∙ q
vector_quiet sve.rdffr_z f s t q e = (went_leaves sve.rdffr_z f s t e).stops ∙ q
vector_quiet sve.setffr f s t q e = (went_leaves sve.setffr f s t e).stops ∙ q
vector_quiet sve.wrffr f s t q e = (went_leaves sve.wrffr f s t e).stops ∙ q
vector_quiet sve.cntb f s t q e = (went_leaves sve.cntb f s t e).stops ∙ q
vector_quiet sve.cnth f s t q e = (went_leaves sve.cnth f s t e).stops ∙ q
vector_quiet sve.cntw f s t q e = (went_leaves sve.cntw f s t e).stops ∙ q
vector_quiet sve.cntd f s t q e = (went_leaves sve.cntd f s t e).stops ∙ q
vector_quiet sve.incp f s t q e = (went_leaves sve.incp f s t e).stops ∙ q
vector_quiet sve.cntp f s t q e = (went_leaves sve.cntp f s t e).stops ∙ q
vector_quiet sve.dup f s t q e = (went_leaves sve.dup f s t e).stops ∙ q
vector_quiet sve.index_row f s t q e = (went_leaves sve.index_row f s t e).stops ∙ q
vector_quiet sve.sel f s t q e = (went_leaves sve.sel f s t e).stops ∙ q
vector_quiet sve.z_add f s t q e = (went_leaves sve.z_add f s t e).stops ∙ q
vector_quiet sve.z_sub f s t q e = (went_leaves sve.z_sub f s t e).stops ∙ q
vector_quiet sve.z_and f s t q e = (went_leaves sve.z_and f s t e).stops ∙ q
vector_quiet sve.z_orr f s t q e = (went_leaves sve.z_orr f s t e).stops ∙ q
vector_quiet sve.z_eor f s t q e = (went_leaves sve.z_eor f s t e).stops ∙ q
vector_quiet sve.z_bic f s t q e = (went_leaves sve.z_bic f s t e).stops ∙ q
vector_quiet sve.lsl_imm f s t q e = (went_leaves sve.lsl_imm f s t e).stops ∙ q
vector_quiet sve.lsr_imm f s t q e = (went_leaves sve.lsr_imm f s t e).stops ∙ q
vector_quiet sve.asr_imm f s t q e = (went_leaves sve.asr_imm f s t e).stops ∙ q
vector_quiet sve.m_add f s t q e = (went_leaves sve.m_add f s t e).stops ∙ q
vector_quiet sve.m_sub f s t q e = (went_leaves sve.m_sub f s t e).stops ∙ q
vector_quiet sve.m_smax f s t q e = (went_leaves sve.m_smax f s t e).stops ∙ q
vector_quiet sve.m_umax f s t q e = (went_leaves sve.m_umax f s t e).stops ∙ q
vector_quiet sve.m_smin f s t q e = (went_leaves sve.m_smin f s t e).stops ∙ q
vector_quiet sve.m_umin f s t q e = (went_leaves sve.m_umin f s t e).stops ∙ q
vector_quiet sve.m_mul f s t q e = (went_leaves sve.m_mul f s t e).stops ∙ q
vector_quiet sve.m_orr f s t q e = (went_leaves sve.m_orr f s t e).stops ∙ q
vector_quiet sve.m_eor f s t q e = (went_leaves sve.m_eor f s t e).stops ∙ q
vector_quiet sve.m_and f s t q e = (went_leaves sve.m_and f s t e).stops ∙ q
vector_quiet sve.m_abs f s t q e = (went_leaves sve.m_abs f s t e).stops ∙ q
vector_quiet sve.m_neg f s t q e = (went_leaves sve.m_neg f s t e).stops ∙ q
vector_quiet sve.m_not f s t q e = (went_leaves sve.m_not f s t e).stops ∙ q
vector_quiet sve.sxtb f s t q e = (went_leaves sve.sxtb f s t e).stops ∙ q
vector_quiet sve.uxtb f s t q e = (went_leaves sve.uxtb f s t e).stops ∙ q
vector_quiet sve.sxth f s t q e = (went_leaves sve.sxth f s t e).stops ∙ q
vector_quiet sve.uxth f s t q e = (went_leaves sve.uxth f s t e).stops ∙ q
vector_quiet sve.sxtw f s t q e = (went_leaves sve.sxtw f s t e).stops ∙ q
vector_quiet sve.uxtw f s t q e = (went_leaves sve.uxtw f s t e).stops ∙ q
vector_quiet sve.uaddv f s t q e = (went_leaves sve.uaddv f s t e).stops ∙ q
vector_quiet sve.smaxv f s t q e = (went_leaves sve.smaxv f s t e).stops ∙ q
vector_quiet sve.umaxv f s t q e = (went_leaves sve.umaxv f s t e).stops ∙ q
vector_quiet sve.sminv f s t q e = (went_leaves sve.sminv f s t e).stops ∙ q
vector_quiet sve.uminv f s t q e = (went_leaves sve.uminv f s t e).stops ∙ q
vector_quiet sve.orv f s t q e = (went_leaves sve.orv f s t e).stops ∙ q
vector_quiet sve.eorv f s t q e = (went_leaves sve.eorv f s t e).stops ∙ q
vector_quiet sve.andv f s t q e = (went_leaves sve.andv f s t e).stops ∙ q
vector_quiet sve.cmphs f s t q e = (went_leaves sve.cmphs f s t e).stops ∙ q
vector_quiet sve.cmphi f s t q e = (went_leaves sve.cmphi f s t e).stops ∙ q
vector_quiet sve.cmpge f s t q e = (went_leaves sve.cmpge f s t e).stops ∙ q
vector_quiet sve.cmpgt f s t q e = (went_leaves sve.cmpgt f s t e).stops ∙ q
vector_quiet sve.cmpeq f s t q e = (went_leaves sve.cmpeq f s t e).stops ∙ q
vector_quiet sve.cmpne f s t q e = (went_leaves sve.cmpne f s t e).stops ∙ q
vector_quiet sve.ld1 f s t q e = (went_leaves sve.ld1 f s t e).stops ∙ q
vector_quiet sve.gld1b f s t q e = (went_leaves sve.gld1b f s t e).stops ∙ q
vector_quiet sve.gld1h f s t q e = (went_leaves sve.gld1h f s t e).stops ∙ q
vector_quiet sve.gld1w f s t q e = (went_leaves sve.gld1w f s t e).stops ∙ q
vector_quiet sve.gld1d f s t q e = (went_leaves sve.gld1d f s t e).stops ∙ q
vector_quiet sve.gld1sb f s t q e = (went_leaves sve.gld1sb f s t e).stops ∙ q
vector_quiet sve.gld1sh f s t q e = (went_leaves sve.gld1sh f s t e).stops ∙ q
vector_quiet sve.gld1sw f s t q e = (went_leaves sve.gld1sw f s t e).stops ∙ q
vector_quiet sve.st1 f s t q e = (went_leaves sve.st1 f s t e).stops ∙ q

does_quiet : (i : Listed) (s t : State) → s.stops ≡ never → does i s ≡ Went t → t.stops ≡ never
does_quiet (Scalar i) s t q e = (scalar_leaves i.name i.numbers s t e).stops ∙ q
does_quiet (Vector i) s t q e = vector_quiet i.name _ s t q e

read_quiet : (o : Option Listed) (word : ℕ) (s t : State) → s.stops ≡ never → elim o as (λ o. Step) [ None ↦ Stopped Undefined s.pc word s.memory | Some i ↦ does i s ] ≡ Went t → t.stops ≡ never
read_quiet None word s t q e = absurd cc
read_quiet (Some i) word s t q e = does_quiet i s t q e

word_quiet : (o : Option ℕ) (s t : State) → s.stops ≡ never → do_word o s ≡ Went t → t.stops ≡ never
word_quiet None s t q e = absurd cc
word_quiet (Some word) s t q e = read_quiet (reads_word word) word s t q e

pub step_quiet : (s t : State) → s.stops ≡ never → step s ≡ Went t → t.stops ≡ never
step_quiet s t q e = word_quiet (fetched s.memory s.pc) s t q e

never_after_step : (o : Step) (n : ℕ) (t : State) → ((u : State) → o ≡ Went u → u.stops ≡ never) → ((u : State) → u.stops ≡ never → after_steps n u ≡ Some t → t.stops ≡ never) → elim o as (λ o. Option State) [ Went u ↦ after_steps n u | Ended result ↦ None | Stopped kind pc at memory ↦ None ] ≡ Some t → t.stops ≡ never
never_after_step (Went u) n t is rest e = rest u (is u refl) e
never_after_step (Ended r) n t is rest e = absurd cc
never_after_step (Stopped k p a m) n t is rest e = absurd cc

pub steps_quiet : (n : ℕ) (s t : State) → s.stops ≡ never → after_steps n s ≡ Some t → t.stops ≡ never
steps_quiet zero s t q e = let same : s ≡ t = cc in subst (λ (u : State). u.stops ≡ never) same q
steps_quiet (suc n) s t q e = never_after_step (step s) n t (λ u is. step_quiet s u q is) (λ u is rest. steps_quiet n u t is rest) e
