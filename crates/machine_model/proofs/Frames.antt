-- Each SVE instruction leaves alone what `Frames` says.
use Rattle.std.proofs.Common.{◌≡◌, ℕ, List, [], Option, Some, None, refl, subst}
use Rattle.std.proofs.lemmas.List.{get_or-set_other}
use Rattle.guest_types.specs.declared.memory.AccessFault.{AccessFault}
use Rattle.guest_types.specs.AfterStores.{AfterStores}
use Rattle.guest_types.specs.LaneMemory.{width_of_size, lane_address, store_of, Loaded, StoredLanes, AllStored, StoreFault, or_fault}
use Rattle.guest_types.specs.EarlyLoads.{EarlyLoad, unless_fault}
use Rattle.guest_types.proofs.AfterStores.{can_read-after, can_write-after, fetched-after, left_by, lanes-after}
use Rattle.guest_types.specs.Length.{width_bytes, lanes}
use Rattle.guest_types.specs.Elements.{at, active}
use Rattle.word_rows.specs.Field.{Field, rd, rn, rm}
use Rattle.sve_code.specs.Table as sve
use Rattle.sve_code.specs.Table.{Name, pd, pg, zd, zdn, zt, ptrue, pfalse, whilelo, ptest, p_and, p_bic, p_eor, p_orr, p_ands, brka, brkb, rdffr, rdffr_z, setffr, wrffr, cntb, cnth, cntw, cntd, incp, cntp, dup, index_row, sel, z_add, z_sub, z_and, z_orr, z_eor, z_bic, lsl_imm, lsr_imm, asr_imm, m_add, m_sub, m_smax, m_umax, m_smin, m_umin, m_mul, m_orr, m_eor, m_and, m_abs, m_neg, m_not, sxtb, uxtb, sxth, uxth, sxtw, uxtw, uaddv, smaxv, umaxv, sminv, uminv, orv, eorv, andv, cmphs, cmphi, cmpge, cmpgt, cmpeq, cmpne, ld1, ldff1, ldnf1, gld1b, gld1h, gld1w, gld1d, gld1sb, gld1sh, gld1sw, st1}
use Rattle.machine_model.specs.Machine.{x_or_sp, State, Went, x_at, z_at, p_at}
use Rattle.machine_model.specs.VectorEffects.{vector_act, after_load, after_early, after_store}
use Rattle.machine_model.specs.Frames.{Leaves}

leaves_of_went : (n : Name) (f : Field → ℕ) (s : State) {u t : State} → Went u ≡ Went t → Leaves n f s u → Leaves n f s t
leaves_of_went n f s {u = u} {t = t} e k = let same : u ≡ t = cc in subst (λ x. Leaves n f s x) same k

plain_leaves : (f : Field → ℕ) (s t : State) (o : Option AccessFault) (l : Loaded) → after_load (or_fault o l) (f zt) s ≡ Went t → Leaves ld1 f s t
plain_leaves f s t None l e = leaves_of_went ld1 f s e (record { pc = refl; sp = refl; vl = refl; code = λ a lt. refl; access = λ a. (refl, refl); memory = refl; flags = refl; ffr = refl; stops = refl; x = refl; z = λ n ne. get_or-set_other s.z (f zt) n l.z [] ne; p = refl })
plain_leaves f s t (Some fault) l e = absurd cc

first_leaves : (f : Field → ℕ) (s t : State) (o : Option AccessFault) (l : EarlyLoad) → after_early (unless_fault o l) (f zt) s ≡ Went t → Leaves ldff1 f s t
first_leaves f s t None l e = leaves_of_went ldff1 f s e (record { pc = refl; sp = refl; vl = refl; code = λ a lt. refl; access = λ a. (refl, refl); memory = refl; flags = refl; ffr = tt; stops = tt; x = refl; z = λ n ne. get_or-set_other s.z (f zt) n l.loaded.z [] ne; p = refl })
first_leaves f s t (Some fault) l e = absurd cc

store_leaves : (f : Field → ℕ) (s t : State) (l : StoredLanes) → AfterStores s.memory (left_by l) → after_store l s ≡ Went t → Leaves st1 f s t
store_leaves f s t (AllStored m) left e = leaves_of_went st1 f s e (record { pc = refl; sp = refl; vl = refl; code = fetched-after left; access = λ a. (can_read-after left a, can_write-after left a); memory = tt; flags = refl; ffr = refl; stops = refl; x = refl; z = refl; p = refl })
store_leaves f s t (StoreFault fault m) left e = absurd cc

vector_store : (msz size base index : ℕ) (pg z : List ℕ) (f : Field → ℕ) (s t : State) → after_store (store_of msz size base index s.vl pg z s.memory) s ≡ Went t → Leaves st1 f s t
vector_store msz size base index pg z f s t e =
    let w = width_of_size size in
    let k = width_bytes (width_of_size msz) in
    store_leaves f s t (store_of msz size base index s.vl pg z s.memory)
    (lanes-after (active w pg) (lane_address base index k) (at w z) k (lanes s.vl w) 0 s.memory) e

pub went_leaves : (n : Name) (f : Field → ℕ) (s t : State) → vector_act n f s ≡ Went t → Leaves n f s t
went_leaves ptrue f s t e = leaves_of_went ptrue f s e (record { pc = refl; sp = refl; vl = refl; code = λ a lt. refl; access = λ a. (refl, refl); memory = refl; flags = refl; ffr = refl; stops = refl; x = refl; z = refl; p = λ n ne. get_or-set_other s.p (f pd) n _ [] ne })
went_leaves pfalse f s t e = leaves_of_went pfalse f s e (record { pc = refl; sp = refl; vl = refl; code = λ a lt. refl; access = λ a. (refl, refl); memory = refl; flags = refl; ffr = refl; stops = refl; x = refl; z = refl; p = λ n ne. get_or-set_other s.p (f pd) n _ [] ne })
went_leaves whilelo f s t e = leaves_of_went whilelo f s e (record { pc = refl; sp = refl; vl = refl; code = λ a lt. refl; access = λ a. (refl, refl); memory = refl; flags = tt; ffr = refl; stops = refl; x = refl; z = refl; p = λ n ne. get_or-set_other s.p (f pd) n _ [] ne })
went_leaves ptest f s t e = leaves_of_went ptest f s e (record { pc = refl; sp = refl; vl = refl; code = λ a lt. refl; access = λ a. (refl, refl); memory = refl; flags = tt; ffr = refl; stops = refl; x = refl; z = refl; p = refl })
went_leaves p_and f s t e = leaves_of_went p_and f s e (record { pc = refl; sp = refl; vl = refl; code = λ a lt. refl; access = λ a. (refl, refl); memory = refl; flags = refl; ffr = refl; stops = refl; x = refl; z = refl; p = λ n ne. get_or-set_other s.p (f pd) n _ [] ne })
went_leaves p_bic f s t e = leaves_of_went p_bic f s e (record { pc = refl; sp = refl; vl = refl; code = λ a lt. refl; access = λ a. (refl, refl); memory = refl; flags = refl; ffr = refl; stops = refl; x = refl; z = refl; p = λ n ne. get_or-set_other s.p (f pd) n _ [] ne })
went_leaves p_eor f s t e = leaves_of_went p_eor f s e (record { pc = refl; sp = refl; vl = refl; code = λ a lt. refl; access = λ a. (refl, refl); memory = refl; flags = refl; ffr = refl; stops = refl; x = refl; z = refl; p = λ n ne. get_or-set_other s.p (f pd) n _ [] ne })
went_leaves p_orr f s t e = leaves_of_went p_orr f s e (record { pc = refl; sp = refl; vl = refl; code = λ a lt. refl; access = λ a. (refl, refl); memory = refl; flags = refl; ffr = refl; stops = refl; x = refl; z = refl; p = λ n ne. get_or-set_other s.p (f pd) n _ [] ne })
went_leaves p_ands f s t e = leaves_of_went p_ands f s e (record { pc = refl; sp = refl; vl = refl; code = λ a lt. refl; access = λ a. (refl, refl); memory = refl; flags = tt; ffr = refl; stops = refl; x = refl; z = refl; p = λ n ne. get_or-set_other s.p (f pd) n _ [] ne })
went_leaves brka f s t e = leaves_of_went brka f s e (record { pc = refl; sp = refl; vl = refl; code = λ a lt. refl; access = λ a. (refl, refl); memory = refl; flags = refl; ffr = refl; stops = refl; x = refl; z = refl; p = λ n ne. get_or-set_other s.p (f pd) n _ [] ne })
went_leaves brkb f s t e = leaves_of_went brkb f s e (record { pc = refl; sp = refl; vl = refl; code = λ a lt. refl; access = λ a. (refl, refl); memory = refl; flags = refl; ffr = refl; stops = refl; x = refl; z = refl; p = λ n ne. get_or-set_other s.p (f pd) n _ [] ne })
went_leaves rdffr f s t e = leaves_of_went rdffr f s e (record { pc = refl; sp = refl; vl = refl; code = λ a lt. refl; access = λ a. (refl, refl); memory = refl; flags = refl; ffr = refl; stops = refl; x = refl; z = refl; p = λ n ne. get_or-set_other s.p (f pd) n _ [] ne })
went_leaves rdffr_z f s t e = leaves_of_went rdffr_z f s e (record { pc = refl; sp = refl; vl = refl; code = λ a lt. refl; access = λ a. (refl, refl); memory = refl; flags = refl; ffr = refl; stops = refl; x = refl; z = refl; p = λ n ne. get_or-set_other s.p (f pd) n _ [] ne })
went_leaves setffr f s t e = leaves_of_went setffr f s e (record { pc = refl; sp = refl; vl = refl; code = λ a lt. refl; access = λ a. (refl, refl); memory = refl; flags = refl; ffr = tt; stops = refl; x = refl; z = refl; p = refl })
went_leaves wrffr f s t e = leaves_of_went wrffr f s e (record { pc = refl; sp = refl; vl = refl; code = λ a lt. refl; access = λ a. (refl, refl); memory = refl; flags = refl; ffr = tt; stops = refl; x = refl; z = refl; p = refl })
went_leaves cntb f s t e = leaves_of_went cntb f s e (record { pc = refl; sp = refl; vl = refl; code = λ a lt. refl; access = λ a. (refl, refl); memory = refl; flags = refl; ffr = refl; stops = refl; x = λ n ne. get_or-set_other s.x (f rd) n _ 0 ne; z = refl; p = refl })
went_leaves cnth f s t e = leaves_of_went cnth f s e (record { pc = refl; sp = refl; vl = refl; code = λ a lt. refl; access = λ a. (refl, refl); memory = refl; flags = refl; ffr = refl; stops = refl; x = λ n ne. get_or-set_other s.x (f rd) n _ 0 ne; z = refl; p = refl })
went_leaves cntw f s t e = leaves_of_went cntw f s e (record { pc = refl; sp = refl; vl = refl; code = λ a lt. refl; access = λ a. (refl, refl); memory = refl; flags = refl; ffr = refl; stops = refl; x = λ n ne. get_or-set_other s.x (f rd) n _ 0 ne; z = refl; p = refl })
went_leaves cntd f s t e = leaves_of_went cntd f s e (record { pc = refl; sp = refl; vl = refl; code = λ a lt. refl; access = λ a. (refl, refl); memory = refl; flags = refl; ffr = refl; stops = refl; x = λ n ne. get_or-set_other s.x (f rd) n _ 0 ne; z = refl; p = refl })
went_leaves incp f s t e = leaves_of_went incp f s e (record { pc = refl; sp = refl; vl = refl; code = λ a lt. refl; access = λ a. (refl, refl); memory = refl; flags = refl; ffr = refl; stops = refl; x = λ n ne. get_or-set_other s.x (f rd) n _ 0 ne; z = refl; p = refl })
went_leaves cntp f s t e = leaves_of_went cntp f s e (record { pc = refl; sp = refl; vl = refl; code = λ a lt. refl; access = λ a. (refl, refl); memory = refl; flags = refl; ffr = refl; stops = refl; x = λ n ne. get_or-set_other s.x (f rd) n _ 0 ne; z = refl; p = refl })
went_leaves dup f s t e = leaves_of_went dup f s e (record { pc = refl; sp = refl; vl = refl; code = λ a lt. refl; access = λ a. (refl, refl); memory = refl; flags = refl; ffr = refl; stops = refl; x = refl; z = λ n ne. get_or-set_other s.z (f zd) n _ [] ne; p = refl })
went_leaves index_row f s t e = leaves_of_went index_row f s e (record { pc = refl; sp = refl; vl = refl; code = λ a lt. refl; access = λ a. (refl, refl); memory = refl; flags = refl; ffr = refl; stops = refl; x = refl; z = λ n ne. get_or-set_other s.z (f zd) n _ [] ne; p = refl })
went_leaves sel f s t e = leaves_of_went sel f s e (record { pc = refl; sp = refl; vl = refl; code = λ a lt. refl; access = λ a. (refl, refl); memory = refl; flags = refl; ffr = refl; stops = refl; x = refl; z = λ n ne. get_or-set_other s.z (f zd) n _ [] ne; p = refl })
went_leaves z_add f s t e = leaves_of_went z_add f s e (record { pc = refl; sp = refl; vl = refl; code = λ a lt. refl; access = λ a. (refl, refl); memory = refl; flags = refl; ffr = refl; stops = refl; x = refl; z = λ n ne. get_or-set_other s.z (f zd) n _ [] ne; p = refl })
went_leaves z_sub f s t e = leaves_of_went z_sub f s e (record { pc = refl; sp = refl; vl = refl; code = λ a lt. refl; access = λ a. (refl, refl); memory = refl; flags = refl; ffr = refl; stops = refl; x = refl; z = λ n ne. get_or-set_other s.z (f zd) n _ [] ne; p = refl })
went_leaves z_and f s t e = leaves_of_went z_and f s e (record { pc = refl; sp = refl; vl = refl; code = λ a lt. refl; access = λ a. (refl, refl); memory = refl; flags = refl; ffr = refl; stops = refl; x = refl; z = λ n ne. get_or-set_other s.z (f zd) n _ [] ne; p = refl })
went_leaves z_orr f s t e = leaves_of_went z_orr f s e (record { pc = refl; sp = refl; vl = refl; code = λ a lt. refl; access = λ a. (refl, refl); memory = refl; flags = refl; ffr = refl; stops = refl; x = refl; z = λ n ne. get_or-set_other s.z (f zd) n _ [] ne; p = refl })
went_leaves z_eor f s t e = leaves_of_went z_eor f s e (record { pc = refl; sp = refl; vl = refl; code = λ a lt. refl; access = λ a. (refl, refl); memory = refl; flags = refl; ffr = refl; stops = refl; x = refl; z = λ n ne. get_or-set_other s.z (f zd) n _ [] ne; p = refl })
went_leaves z_bic f s t e = leaves_of_went z_bic f s e (record { pc = refl; sp = refl; vl = refl; code = λ a lt. refl; access = λ a. (refl, refl); memory = refl; flags = refl; ffr = refl; stops = refl; x = refl; z = λ n ne. get_or-set_other s.z (f zd) n _ [] ne; p = refl })
went_leaves lsl_imm f s t e = leaves_of_went lsl_imm f s e (record { pc = refl; sp = refl; vl = refl; code = λ a lt. refl; access = λ a. (refl, refl); memory = refl; flags = refl; ffr = refl; stops = refl; x = refl; z = λ n ne. get_or-set_other s.z (f zd) n _ [] ne; p = refl })
went_leaves lsr_imm f s t e = leaves_of_went lsr_imm f s e (record { pc = refl; sp = refl; vl = refl; code = λ a lt. refl; access = λ a. (refl, refl); memory = refl; flags = refl; ffr = refl; stops = refl; x = refl; z = λ n ne. get_or-set_other s.z (f zd) n _ [] ne; p = refl })
went_leaves asr_imm f s t e = leaves_of_went asr_imm f s e (record { pc = refl; sp = refl; vl = refl; code = λ a lt. refl; access = λ a. (refl, refl); memory = refl; flags = refl; ffr = refl; stops = refl; x = refl; z = λ n ne. get_or-set_other s.z (f zd) n _ [] ne; p = refl })
went_leaves m_add f s t e = leaves_of_went m_add f s e (record { pc = refl; sp = refl; vl = refl; code = λ a lt. refl; access = λ a. (refl, refl); memory = refl; flags = refl; ffr = refl; stops = refl; x = refl; z = λ n ne. get_or-set_other s.z (f zdn) n _ [] ne; p = refl })
went_leaves m_sub f s t e = leaves_of_went m_sub f s e (record { pc = refl; sp = refl; vl = refl; code = λ a lt. refl; access = λ a. (refl, refl); memory = refl; flags = refl; ffr = refl; stops = refl; x = refl; z = λ n ne. get_or-set_other s.z (f zdn) n _ [] ne; p = refl })
went_leaves m_smax f s t e = leaves_of_went m_smax f s e (record { pc = refl; sp = refl; vl = refl; code = λ a lt. refl; access = λ a. (refl, refl); memory = refl; flags = refl; ffr = refl; stops = refl; x = refl; z = λ n ne. get_or-set_other s.z (f zdn) n _ [] ne; p = refl })
went_leaves m_umax f s t e = leaves_of_went m_umax f s e (record { pc = refl; sp = refl; vl = refl; code = λ a lt. refl; access = λ a. (refl, refl); memory = refl; flags = refl; ffr = refl; stops = refl; x = refl; z = λ n ne. get_or-set_other s.z (f zdn) n _ [] ne; p = refl })
went_leaves m_smin f s t e = leaves_of_went m_smin f s e (record { pc = refl; sp = refl; vl = refl; code = λ a lt. refl; access = λ a. (refl, refl); memory = refl; flags = refl; ffr = refl; stops = refl; x = refl; z = λ n ne. get_or-set_other s.z (f zdn) n _ [] ne; p = refl })
went_leaves m_umin f s t e = leaves_of_went m_umin f s e (record { pc = refl; sp = refl; vl = refl; code = λ a lt. refl; access = λ a. (refl, refl); memory = refl; flags = refl; ffr = refl; stops = refl; x = refl; z = λ n ne. get_or-set_other s.z (f zdn) n _ [] ne; p = refl })
went_leaves m_mul f s t e = leaves_of_went m_mul f s e (record { pc = refl; sp = refl; vl = refl; code = λ a lt. refl; access = λ a. (refl, refl); memory = refl; flags = refl; ffr = refl; stops = refl; x = refl; z = λ n ne. get_or-set_other s.z (f zdn) n _ [] ne; p = refl })
went_leaves m_orr f s t e = leaves_of_went m_orr f s e (record { pc = refl; sp = refl; vl = refl; code = λ a lt. refl; access = λ a. (refl, refl); memory = refl; flags = refl; ffr = refl; stops = refl; x = refl; z = λ n ne. get_or-set_other s.z (f zdn) n _ [] ne; p = refl })
went_leaves m_eor f s t e = leaves_of_went m_eor f s e (record { pc = refl; sp = refl; vl = refl; code = λ a lt. refl; access = λ a. (refl, refl); memory = refl; flags = refl; ffr = refl; stops = refl; x = refl; z = λ n ne. get_or-set_other s.z (f zdn) n _ [] ne; p = refl })
went_leaves m_and f s t e = leaves_of_went m_and f s e (record { pc = refl; sp = refl; vl = refl; code = λ a lt. refl; access = λ a. (refl, refl); memory = refl; flags = refl; ffr = refl; stops = refl; x = refl; z = λ n ne. get_or-set_other s.z (f zdn) n _ [] ne; p = refl })
went_leaves m_abs f s t e = leaves_of_went m_abs f s e (record { pc = refl; sp = refl; vl = refl; code = λ a lt. refl; access = λ a. (refl, refl); memory = refl; flags = refl; ffr = refl; stops = refl; x = refl; z = λ n ne. get_or-set_other s.z (f zd) n _ [] ne; p = refl })
went_leaves m_neg f s t e = leaves_of_went m_neg f s e (record { pc = refl; sp = refl; vl = refl; code = λ a lt. refl; access = λ a. (refl, refl); memory = refl; flags = refl; ffr = refl; stops = refl; x = refl; z = λ n ne. get_or-set_other s.z (f zd) n _ [] ne; p = refl })
went_leaves m_not f s t e = leaves_of_went m_not f s e (record { pc = refl; sp = refl; vl = refl; code = λ a lt. refl; access = λ a. (refl, refl); memory = refl; flags = refl; ffr = refl; stops = refl; x = refl; z = λ n ne. get_or-set_other s.z (f zd) n _ [] ne; p = refl })
went_leaves sxtb f s t e = leaves_of_went sxtb f s e (record { pc = refl; sp = refl; vl = refl; code = λ a lt. refl; access = λ a. (refl, refl); memory = refl; flags = refl; ffr = refl; stops = refl; x = refl; z = λ n ne. get_or-set_other s.z (f zd) n _ [] ne; p = refl })
went_leaves uxtb f s t e = leaves_of_went uxtb f s e (record { pc = refl; sp = refl; vl = refl; code = λ a lt. refl; access = λ a. (refl, refl); memory = refl; flags = refl; ffr = refl; stops = refl; x = refl; z = λ n ne. get_or-set_other s.z (f zd) n _ [] ne; p = refl })
went_leaves sxth f s t e = leaves_of_went sxth f s e (record { pc = refl; sp = refl; vl = refl; code = λ a lt. refl; access = λ a. (refl, refl); memory = refl; flags = refl; ffr = refl; stops = refl; x = refl; z = λ n ne. get_or-set_other s.z (f zd) n _ [] ne; p = refl })
went_leaves uxth f s t e = leaves_of_went uxth f s e (record { pc = refl; sp = refl; vl = refl; code = λ a lt. refl; access = λ a. (refl, refl); memory = refl; flags = refl; ffr = refl; stops = refl; x = refl; z = λ n ne. get_or-set_other s.z (f zd) n _ [] ne; p = refl })
went_leaves sxtw f s t e = leaves_of_went sxtw f s e (record { pc = refl; sp = refl; vl = refl; code = λ a lt. refl; access = λ a. (refl, refl); memory = refl; flags = refl; ffr = refl; stops = refl; x = refl; z = λ n ne. get_or-set_other s.z (f zd) n _ [] ne; p = refl })
went_leaves uxtw f s t e = leaves_of_went uxtw f s e (record { pc = refl; sp = refl; vl = refl; code = λ a lt. refl; access = λ a. (refl, refl); memory = refl; flags = refl; ffr = refl; stops = refl; x = refl; z = λ n ne. get_or-set_other s.z (f zd) n _ [] ne; p = refl })
went_leaves uaddv f s t e = leaves_of_went uaddv f s e (record { pc = refl; sp = refl; vl = refl; code = λ a lt. refl; access = λ a. (refl, refl); memory = refl; flags = refl; ffr = refl; stops = refl; x = refl; z = λ n ne. get_or-set_other s.z (f zd) n _ [] ne; p = refl })
went_leaves smaxv f s t e = leaves_of_went smaxv f s e (record { pc = refl; sp = refl; vl = refl; code = λ a lt. refl; access = λ a. (refl, refl); memory = refl; flags = refl; ffr = refl; stops = refl; x = refl; z = λ n ne. get_or-set_other s.z (f zd) n _ [] ne; p = refl })
went_leaves umaxv f s t e = leaves_of_went umaxv f s e (record { pc = refl; sp = refl; vl = refl; code = λ a lt. refl; access = λ a. (refl, refl); memory = refl; flags = refl; ffr = refl; stops = refl; x = refl; z = λ n ne. get_or-set_other s.z (f zd) n _ [] ne; p = refl })
went_leaves sminv f s t e = leaves_of_went sminv f s e (record { pc = refl; sp = refl; vl = refl; code = λ a lt. refl; access = λ a. (refl, refl); memory = refl; flags = refl; ffr = refl; stops = refl; x = refl; z = λ n ne. get_or-set_other s.z (f zd) n _ [] ne; p = refl })
went_leaves uminv f s t e = leaves_of_went uminv f s e (record { pc = refl; sp = refl; vl = refl; code = λ a lt. refl; access = λ a. (refl, refl); memory = refl; flags = refl; ffr = refl; stops = refl; x = refl; z = λ n ne. get_or-set_other s.z (f zd) n _ [] ne; p = refl })
went_leaves orv f s t e = leaves_of_went orv f s e (record { pc = refl; sp = refl; vl = refl; code = λ a lt. refl; access = λ a. (refl, refl); memory = refl; flags = refl; ffr = refl; stops = refl; x = refl; z = λ n ne. get_or-set_other s.z (f zd) n _ [] ne; p = refl })
went_leaves eorv f s t e = leaves_of_went eorv f s e (record { pc = refl; sp = refl; vl = refl; code = λ a lt. refl; access = λ a. (refl, refl); memory = refl; flags = refl; ffr = refl; stops = refl; x = refl; z = λ n ne. get_or-set_other s.z (f zd) n _ [] ne; p = refl })
went_leaves andv f s t e = leaves_of_went andv f s e (record { pc = refl; sp = refl; vl = refl; code = λ a lt. refl; access = λ a. (refl, refl); memory = refl; flags = refl; ffr = refl; stops = refl; x = refl; z = λ n ne. get_or-set_other s.z (f zd) n _ [] ne; p = refl })
went_leaves cmphs f s t e = leaves_of_went cmphs f s e (record { pc = refl; sp = refl; vl = refl; code = λ a lt. refl; access = λ a. (refl, refl); memory = refl; flags = tt; ffr = refl; stops = refl; x = refl; z = refl; p = λ n ne. get_or-set_other s.p (f pd) n _ [] ne })
went_leaves cmphi f s t e = leaves_of_went cmphi f s e (record { pc = refl; sp = refl; vl = refl; code = λ a lt. refl; access = λ a. (refl, refl); memory = refl; flags = tt; ffr = refl; stops = refl; x = refl; z = refl; p = λ n ne. get_or-set_other s.p (f pd) n _ [] ne })
went_leaves cmpge f s t e = leaves_of_went cmpge f s e (record { pc = refl; sp = refl; vl = refl; code = λ a lt. refl; access = λ a. (refl, refl); memory = refl; flags = tt; ffr = refl; stops = refl; x = refl; z = refl; p = λ n ne. get_or-set_other s.p (f pd) n _ [] ne })
went_leaves cmpgt f s t e = leaves_of_went cmpgt f s e (record { pc = refl; sp = refl; vl = refl; code = λ a lt. refl; access = λ a. (refl, refl); memory = refl; flags = tt; ffr = refl; stops = refl; x = refl; z = refl; p = λ n ne. get_or-set_other s.p (f pd) n _ [] ne })
went_leaves cmpeq f s t e = leaves_of_went cmpeq f s e (record { pc = refl; sp = refl; vl = refl; code = λ a lt. refl; access = λ a. (refl, refl); memory = refl; flags = tt; ffr = refl; stops = refl; x = refl; z = refl; p = λ n ne. get_or-set_other s.p (f pd) n _ [] ne })
went_leaves cmpne f s t e = leaves_of_went cmpne f s e (record { pc = refl; sp = refl; vl = refl; code = λ a lt. refl; access = λ a. (refl, refl); memory = refl; flags = tt; ffr = refl; stops = refl; x = refl; z = refl; p = λ n ne. get_or-set_other s.p (f pd) n _ [] ne })
went_leaves ld1 f s t e = plain_leaves f s t _ _ e
went_leaves ldff1 f s t e = first_leaves f s t _ _ e
went_leaves ldnf1 f s t e = leaves_of_went ldnf1 f s e (record { pc = refl; sp = refl; vl = refl; code = λ a lt. refl; access = λ a. (refl, refl); memory = refl; flags = refl; ffr = tt; stops = tt; x = refl; z = λ n ne. get_or-set_other s.z (f zt) n _ [] ne; p = refl })
went_leaves gld1b f s t e = plain_leaves f s t _ _ e
went_leaves gld1h f s t e = plain_leaves f s t _ _ e
went_leaves gld1w f s t e = plain_leaves f s t _ _ e
went_leaves gld1d f s t e = plain_leaves f s t _ _ e
went_leaves gld1sb f s t e = plain_leaves f s t _ _ e
went_leaves gld1sh f s t e = plain_leaves f s t _ _ e
went_leaves gld1sw f s t e = plain_leaves f s t _ _ e
went_leaves st1 f s t e = vector_store (f sve.memory) (f sve.element) (x_or_sp s (f rn)) (x_at s (f rm)) (p_at s (f pg)) (z_at s (f zt)) f s t e
