-- The words between passes: a test of the lanes or of the bound, and a branch. They leave the state before a pass as it is.
use Rattle.std.proofs.Common.{◌≡◌, ℕ, ◌+◌, ◌*◌, ◌^◌, ◌<◌, ◌≤◌, true, false, not, List, [], ◌∷◌, refl, sym, ap, ap₂, ◌∙◌, subst, arith}
use Rattle.std.specs.Prelude.{ℤ, pos, nat_le, slice_index_or}
use Rattle.std.proofs.lemmas.Bool.{le-leb, lt-leb}
use Rattle.std.proofs.lemmas.Nat.{pow_pos}
use Rattle.std.proofs.Math.Nat.{mod-lt, mod-eq_of_lt}
use Rattle.guest_types.specs.declared.length.Width.TheVariants.{B}
use Rattle.guest_types.specs.Length.{lanes}
use Rattle.guest_types.specs.Elements.{at, bit, pred_test}
use Rattle.guest_types.specs.Lanes.{all_at}
use Rattle.guest_types.specs.Memory.{Memory}
use Rattle.machine_model.specs.Arithmetic.{holds}
use Rattle.machine_model.specs.Machine.{State, x_at, z_at, p_at, with_flags, jump, next}
use Rattle.machine_model.specs.States.{IsState}
use Rattle.machine_model.proofs.StateSteps.{next_is_state, jumped, flags_kept, x_kept, wrapped}
use Rattle.a64_code.specs.Table.{subs}
use Rattle.kernel_meaning.specs.Operators.{word}
use Rattle.kernel_meaning.specs.Eval.{Names, value_at}
use Rattle.kernel_meaning.proofs.Residues.{word-below}
use Rattle.label_fix.specs.DraftRun.{Kind, If, DraftEntry, Put, Branch, Laid, is_taken, following, place_of, address_of, ins}
use Rattle.label_fix.proofs.StretchSteps.{Goes, chain, put_goes, taken_goes, passed_goes}
use Rattle.loop_form.specs.declared.loop_item.Operand.{Operand}
use Rattle.loop_form.specs.declared.loop_item.Operand.TheVariants.{LoopIndex}
use Rattle.dependence.specs.Apart.{bound_place}
use Rattle.scalar_words.proofs.Truths.{tested, tested_goes, tested_flags, tested_other}
use Rattle.lane_emit.specs.Right.{PRight}
use Rattle.lane_emit.specs.AccumulatorLanes.{LanesHold}
use Rattle.chunk_emit.specs.Chunk.{IsTop}
use Rattle.chunk_emit.specs.Head.{Ground, IsGround, AtHead, HeldAll, IndexHeld, layout, width, most_lanes, limit}
use Rattle.chunk_pass.proofs.LaneHeads.{bound_at}
use Rattle.vector_emit.specs.VectorCode.{any_lane}
use Rattle.vector_emit.proofs.Flags.{top_none, top_some}

-- ---- the state before a pass

-- what the words between passes leave as it is
pub record Kept (s t : State) : Type 0 where
  pub is : IsState t
  pub vl : t.vl ≡ s.vl
  pub memory : t.memory ≡ s.memory
  pub x : (r : ℕ) → r ≤ 25 → x_at t r ≡ x_at s r
  pub all : p_at t 1 ≡ p_at s 1
  pub z : t.z ≡ s.z

pub z_same : (s t : State) → t.z ≡ s.z → (n : ℕ) → z_at s n ≡ z_at t n
z_same s t e n = ap (λ zs. slice_index_or zs n []) (sym e)

pub head_kept : {g : Ground} {i : ℕ} {cur : Names} {m : Memory} {sum : List ℕ → ℕ → ℤ} {s t : State} → AtHead g i cur m sum s → Kept s t → AtHead g i cur m sum t
head_kept {g = g} {sum = sum} {s = s} {t = t} h k = record {
  between = h.between;
  is = k.is;
  vl = k.vl ∙ h.vl;
  memory = k.memory ∙ h.memory;
  index = k.x 9 (omega arith) ∙ h.index;
  x = λ r le ne. k.x r le ∙ h.x r le ne;
  all = subst (λ p. PRight (width g) (most_lanes g) p all_at) (sym k.all) h.all;
  held = λ x is ne. held_on x (h.held x is ne);
  lanes = λ x is. subst (λ z. LanesHold ((layout g).update x) ((layout g).sum_type x) (width g) (most_lanes g) z (sum x)) (z_same s t k.z ((layout g).sum x)) (h.lanes x is);
}
  where
    held_on : (x : Operand) → HeldAll g s x → HeldAll g t x
    held_on x old = record {
      right = λ a e lt. ap (λ z. at (width g) z e) (sym (z_same s t k.z ((layout g).registers.source x))) ∙ old.right a e lt;
      typed = old.typed;
    }

pub held_index_kept : (g : Ground) (i : ℕ) (s t : State) → t.z ≡ s.z → IndexHeld g i s → IndexHeld g i t
held_index_kept g i s t e h held n lt = ap (λ z. at (width g) z n) (sym (z_same s t e ((layout g).registers.source LoopIndex))) ∙ h held n lt

-- ---- words

-- the words lead to these entries, and to a state before the same pass
pub record Tests (g : Ground) (i : ℕ) (cur : Names) (m : Memory) (sum : List ℕ → ℕ → ℤ) (d : Laid) (c : List DraftEntry) (s : State) (e : List DraftEntry) (most : ℕ) : Type 0 where
  pub end : State
  pub goes : Goes d c s e end most
  pub head : AtHead g i cur m sum end
  pub z : end.z ≡ s.z
  pub p : p_at end 0 ≡ p_at s 0

-- a branch, after a word that leads to the state t
pub record Branched (g : Ground) (i : ℕ) (cur : Names) (m : Memory) (sum : List ℕ → ℕ → ℤ) (d : Laid) (c : List DraftEntry) (t : State) (e : List DraftEntry) : Type 0 where
  pub end : State
  pub goes : Goes d c t e end 1
  pub head : AtHead g i cur m sum end
  pub z : end.z ≡ t.z
  pub p : end.p ≡ t.p

pub branch_taken : {g : Ground} {i : ℕ} {cur : Names} {m : Memory} {sum : List ℕ → ℕ → ℤ} (d : Laid) {t : State} (k : Kind) (l : ℕ) (rest : List DraftEntry) → AtHead g i cur m sum t → is_taken k t ≡ true → Branched g i cur m sum d (Branch k l ∷ rest) t (following d l)
branch_taken d {t = t} k l rest h yes' = record {
  end = jump t (address_of d l);
  goes = taken_goes yes';
  head = head_kept h (record { is = jumped t (address_of d l) h.is (mod-lt (d.base + 4 * place_of d.entries l) (pow_pos 64)); vl = refl; memory = refl; x = λ r le. refl; all = refl; z = refl });
  z = refl;
  p = refl;
}

pub branch_passed : {g : Ground} {i : ℕ} {cur : Names} {m : Memory} {sum : List ℕ → ℕ → ℤ} (d : Laid) {t : State} (k : Kind) (l : ℕ) (rest : List DraftEntry) → AtHead g i cur m sum t → is_taken k t ≡ false → Branched g i cur m sum d (Branch k l ∷ rest) t rest
branch_passed d {t = t} k l rest h no' = record {
  end = next t;
  goes = passed_goes no';
  head = head_kept h (record { is = next_is_state t h.is; vl = refl; memory = refl; x = λ r le. refl; all = refl; z = refl });
  z = refl;
  p = refl;
}

pub following_word : {g : Ground} {i : ℕ} {cur : Names} {m : Memory} {sum : List ℕ → ℕ → ℤ} {d : Laid} {c b e : List DraftEntry} {s t : State} → Goes d c s b t 1 → t.z ≡ s.z → t.p ≡ s.p → Branched g i cur m sum d b t e → Tests g i cur m sum d c s e 2
following_word goes z p b = record { end = b.end; goes = chain 2 (omega arith) goes b.goes; head = b.head; z = b.z ∙ z; p = ap (λ ps. slice_index_or ps 0 []) (b.p ∙ p) }

-- ---- PTEST, and B.NE

lane_state : State → State
lane_state s = next (with_flags s (pred_test (bit (p_at s 0)) (bit (p_at s 0)) (lanes s.vl B)))

lane_head : {g : Ground} {i : ℕ} {cur : Names} {m : Memory} {sum : List ℕ → ℕ → ℤ} {s : State} → AtHead g i cur m sum s → AtHead g i cur m sum (lane_state s)
unfolding lane_state
lane_head {s = s} h = head_kept h (record { is = next_is_state _ (flags_kept s (pred_test (bit (p_at s 0)) (bit (p_at s 0)) (lanes s.vl B)) h.is); vl = refl; memory = refl; x = λ r le. refl; all = refl; z = refl })

lane_goes : (d : Laid) (rest : List DraftEntry) (s : State) → Goes d (Put any_lane ∷ rest) s rest (lane_state s) 1
unfolding lane_state
lane_goes d rest s = put_goes refl

-- some lane came through
pub lanes_back : {g : Ground} {i : ℕ} {cur : Names} {m : Memory} {sum : List ℕ → ℕ → ℤ} (d : Laid) (s : State) (k l : ℕ) (rest : List DraftEntry) → AtHead g i cur m sum s → IsTop (width g) k (p_at s 0) → 0 < k → Tests g i cur m sum d (Put any_lane ∷ Branch (If 1) l ∷ rest) s (following d l) 2
unfolding lane_state
lanes_back {g = g} d s k l rest h top some =
    following_word (lane_goes d (Branch (If 1) l ∷ rest) s) refl refl (branch_taken d (If 1) l rest (lane_head h) (ap not (top_some s.vl (width g) h.is.sized (p_at s 0) k top some)))

-- none did
pub lanes_none : {g : Ground} {i : ℕ} {cur : Names} {m : Memory} {sum : List ℕ → ℕ → ℤ} (d : Laid) (s : State) (k l : ℕ) (rest : List DraftEntry) → AtHead g i cur m sum s → IsTop (width g) k (p_at s 0) → k ≡ 0 → Tests g i cur m sum d (Put any_lane ∷ Branch (If 1) l ∷ rest) s rest 2
unfolding lane_state
lanes_none {g = g} d s k l rest h top none =
    following_word (lane_goes d (Branch (If 1) l ∷ rest) s) refl refl (branch_passed d (If 1) l rest (lane_head h) (ap not (top_none s.vl (width g) h.is.sized (p_at s 0) k top none)))

-- ---- SUBS, and B.HS

pub limit_small : (g : Ground) → limit g < 2 ^ 64
limit_small g = word-below (value_at g.names g.for_loop.bound)

pub index_small : {g : Ground} {i : ℕ} {cur : Names} {m : Memory} {sum : List ℕ → ℕ → ℤ} {s : State} → AtHead g i cur m sum s → i < 2 ^ 64
index_small {g = g} h = let w = h.between.within in let l = limit_small g in omega (arith, w, l)

tested_head : {g : Ground} {i : ℕ} {cur : Names} {m : Memory} {sum : List ℕ → ℕ → ℤ} {s : State} → AtHead g i cur m sum s → AtHead g i cur m sum (tested s 9 (bound_place g.kernel))
tested_head {g = g} {s = s} h = head_kept h (record {
  is = next_is_state _ (flags_kept _ _ (x_kept s 31 _ h.is (wrapped _)));
  vl = refl;
  memory = refl;
  x = λ r le. tested_other s 9 (bound_place g.kernel) r (λ e. absurd (omega (arith, le, e)));
  all = refl;
  z = refl;
})

tested_holds : {g : Ground} {i : ℕ} {cur : Names} {m : Memory} {sum : List ℕ → ℕ → ℤ} {s : State} → IsGround g → AtHead g i cur m sum s → holds 2 (tested s 9 (bound_place g.kernel)).flags ≡ nat_le (limit g) i
tested_holds {g = g} {i = i} {s = s} ground h =
    let e9 : x_at s 9 ≡ word (pos i) = h.index ∙ sym (mod-eq_of_lt (index_small h)) in
    let en : x_at s (bound_place g.kernel) ≡ word (pos (limit g)) = bound_at ground h ∙ sym (mod-eq_of_lt (limit_small g)) in
    ap (holds 2) (tested_flags s 9 (bound_place g.kernel) (pos i) (pos (limit g)) e9 en) ∙ ap₂ nat_le (mod-eq_of_lt (limit_small g)) (mod-eq_of_lt (index_small h))

pub bound_reached : {g : Ground} {i : ℕ} {cur : Names} {m : Memory} {sum : List ℕ → ℕ → ℤ} (d : Laid) (s : State) (l : ℕ) (rest : List DraftEntry) → IsGround g → AtHead g i cur m sum s → limit g ≤ i
    → Tests g i cur m sum d (ins subs (31 ∷ 9 ∷ 0 ∷ bound_place g.kernel ∷ 0 ∷ []) ∷ Branch (If 2) l ∷ rest) s (following d l) 2
bound_reached {g = g} {i = i} d s l rest ground h le =
    following_word (tested_goes d (Branch (If 2) l ∷ rest) s 9 (bound_place g.kernel)) refl refl (branch_taken d (If 2) l rest (tested_head h) (tested_holds ground h ∙ le-leb (limit g) i le))

pub bound_ahead : {g : Ground} {i : ℕ} {cur : Names} {m : Memory} {sum : List ℕ → ℕ → ℤ} (d : Laid) (s : State) (l : ℕ) (rest : List DraftEntry) → IsGround g → AtHead g i cur m sum s → i < limit g
    → Tests g i cur m sum d (ins subs (31 ∷ 9 ∷ 0 ∷ bound_place g.kernel ∷ 0 ∷ []) ∷ Branch (If 2) l ∷ rest) s rest 2
bound_ahead {g = g} {i = i} d s l rest ground h lt =
    following_word (tested_goes d (Branch (If 2) l ∷ rest) s 9 (bound_place g.kernel)) refl refl (branch_passed d (If 2) l rest (tested_head h) (tested_holds ground h ∙ lt-leb (limit g) i lt))
