-- The address of an element: the word that adds an offset, and the places of the lanes.
use Rattle.std.proofs.Common.{◌≡◌, ℕ, zero, suc, ◌+◌, ◌-◌, ◌*◌, ◌%◌, ◌^◌, ◌<◌, ℤ, pos, negsuc, ◌+ℤ◌, ◌*ℤ◌, List, length, refl, sym, ap, ◌∙◌, subst, arith, get_or-set_same, get_or-set_other}
use Rattle.std.proofs.lemmas.List.Elements.{All-get_or}
use Rattle.guest_types.specs.LaneMemory.{lane_address}
use Rattle.kernel_tree.specs.declared.ops.Ty.{Ty}
use Rattle.kernel_tree.specs.declared.ops.Ty.TheVariants as ty
use Rattle.kernel_tree.specs.Wrap.{byte_count}
use Rattle.kernel_meaning.specs.Operators.{word}
use Rattle.kernel_meaning.specs.Eval.{address}
use Rattle.kernel_meaning.proofs.Residues.{word-add, word-mul}
use Rattle.machine_model.specs.InstructionTable.{Listed}
use Rattle.machine_model.specs.Machine.{State, x_at, with_x, next}
use Rattle.machine_model.proofs.StateSteps.{x_put}
use Rattle.label_fix.specs.DraftRun.{DraftEntry, Laid}
use Rattle.label_fix.specs.Stretches.{Goes}
use Rattle.label_fix.proofs.StretchSteps.{stay, put_goes}
use Rattle.vector_order.specs.Orders.{Lanes}
use Rattle.chunk_emit.specs.Registers.{Layout}
use Rattle.chunk_emit.specs.ChunkCode.{with_index, index_of, puts}
use Rattle.chunk_emit.specs.Chunk.{Setting, Holds}
use Rattle.chunk_emit.specs.Fits.{IsNear}

-- ---- the index register

abbrev pub scratched : State → ℕ → State
scratched s v = next (with_x s 26 v)

module _ {l : Layout} {f : Setting} {p : ℕ} {t : Lanes} {s : State} (h : Holds l f p t s) where
  pub holds_scratch : (v : ℕ) → v < 2 ^ 64 → Holds l f p t (scratched s v)
  holds_scratch v lt = record {
    is = x_put s (scratched s v) 26 v h.is lt refl;
    few = h.few;
    vl = h.vl;
    stops = h.stops;
    memory = h.memory;
    x = λ r ne. get_or-set_other s.x 26 r v 0 ne ∙ h.x r ne;
    index = h.index;
    active = h.active;
    top = h.top;
    all = h.all;
    held = λ x is. let old = h.held x is in record { right = old.right; typed = old.typed };
    values = λ q lt le. let old = h.values q lt le in record { right = old.right; typed = old.typed };
    truths = h.truths;
    sums = h.sums;
  }

  pub iteration_at : x_at s 9 ≡ f.i
  iteration_at = h.x 9 (λ e. absurd (omega (arith, e))) ∙ h.index

  pub x_below : (r : ℕ) → r < 31 → x_at s r < 2 ^ 64
  x_below r lt = All-get_or (λ v. v < 2 ^ 64) s.x r 0 (omega (arith, lt, h.is.x_count)) h.is.x_small

  -- a state in which the index register holds the iteration of the first lane and the offset
  pub record Indexed (d : Laid) (rest : List DraftEntry) (c : ℤ) (inner : List Listed) : Type 0 where
    pub state : State
    pub words : ℕ
    pub counted : length (with_index c inner) ≡ words + length inner
    pub goes : Goes d (puts (with_index c inner) rest) s (puts inner rest) state words
    pub holds : Holds l f p t state
    pub z : state.z ≡ s.z
    pub place : x_at state (index_of c) ≡ word (pos f.i +ℤ c)

  pub indexed : (d : Laid) (rest : List DraftEntry) (c : ℤ) (inner : List Listed) → IsNear c → Indexed d rest c inner
  indexed d rest (pos zero) inner near = record {
    state = s;
    words = 0;
    counted = omega arith;
    goes = stay 0;
    holds = h;
    z = refl;
    place = iteration_at ∙ (let low : f.i < 2 ^ 64 = subst (λ i. i < 2 ^ 64) iteration_at (x_below 9 (omega arith)) in sym (word-add (pos f.i) (pos 0) ∙ omega (arith, low)));
  }
  indexed d rest (pos (suc k)) inner near =
      let v = (x_at s 9 + suc k * 2 ^ (12 * 0)) % 2 ^ 64 in
      record {
        state = scratched s v;
        words = 1;
        counted = omega arith;
        goes = put_goes refl;
        holds = holds_scratch v (omega arith);
        z = refl;
        place = get_or-set_same s.x 26 v 0 (omega (arith, h.is.x_count)) ∙ ap (λ i. (i + suc k * 2 ^ (12 * 0)) % 2 ^ 64) iteration_at ∙ sym (word-add (pos f.i) (pos (suc k)) ∙ omega arith);
      }
  indexed d rest (negsuc k) inner near =
      let v = (x_at s 9 + (2 ^ 64 - suc k * 2 ^ (12 * 0))) % 2 ^ 64 in
      record {
        state = scratched s v;
        words = 1;
        counted = omega arith;
        goes = put_goes refl;
        holds = holds_scratch v (omega arith);
        z = refl;
        place = get_or-set_same s.x 26 v 0 (omega (arith, h.is.x_count)) ∙ ap (λ i. (i + (2 ^ 64 - suc k * 2 ^ (12 * 0))) % 2 ^ 64) iteration_at ∙ sym (word-add (pos f.i) (negsuc k) ∙ omega (arith, near));
      }

-- ---- the places of the lanes

-- from the first lane's place to that of another
later_lane : (i e : ℕ) (c : ℤ) → word (pos (i + e) +ℤ c) ≡ (word (pos i +ℤ c) + e) % 2 ^ 64
later_lane i e c = word-add (pos (i + e)) c ∙ (let at = word-add (pos i) c in omega (arith, at))

place_1 : (base z : ℤ) (b v : ℕ) → b ≡ word base → word z ≡ v % 2 ^ 64 → (b + v * 1) % 2 ^ 64 ≡ word (base +ℤ pos 1 *ℤ z)
place_1 base z b v is at = let m : word (pos 1 *ℤ z) ≡ (1 * word z) % 2 ^ 64 = word-mul (pos 1) z in sym (word-add base (pos 1 *ℤ z) ∙ omega (arith, is, at, m))

place_2 : (base z : ℤ) (b v : ℕ) → b ≡ word base → word z ≡ v % 2 ^ 64 → (b + v * 2) % 2 ^ 64 ≡ word (base +ℤ pos 2 *ℤ z)
place_2 base z b v is at = let m : word (pos 2 *ℤ z) ≡ (2 * word z) % 2 ^ 64 = word-mul (pos 2) z in sym (word-add base (pos 2 *ℤ z) ∙ omega (arith, is, at, m))

place_4 : (base z : ℤ) (b v : ℕ) → b ≡ word base → word z ≡ v % 2 ^ 64 → (b + v * 4) % 2 ^ 64 ≡ word (base +ℤ pos 4 *ℤ z)
place_4 base z b v is at = let m : word (pos 4 *ℤ z) ≡ (4 * word z) % 2 ^ 64 = word-mul (pos 4) z in sym (word-add base (pos 4 *ℤ z) ∙ omega (arith, is, at, m))

place_8 : (base z : ℤ) (b v : ℕ) → b ≡ word base → word z ≡ v % 2 ^ 64 → (b + v * 8) % 2 ^ 64 ≡ word (base +ℤ pos 8 *ℤ z)
place_8 base z b v is at = let m : word (pos 8 *ℤ z) ≡ (8 * word z) % 2 ^ 64 = word-mul (pos 8) z in sym (word-add base (pos 8 *ℤ z) ∙ omega (arith, is, at, m))

scaled_place : (t : Ty) (base z : ℤ) (b v : ℕ) → b ≡ word base → word z ≡ v % 2 ^ 64 → (b + v * byte_count t) % 2 ^ 64 ≡ address t base z
scaled_place ty.I8 base z b v is at = place_1 base z b v is at
scaled_place ty.U8 base z b v is at = place_1 base z b v is at
scaled_place ty.I16 base z b v is at = place_2 base z b v is at
scaled_place ty.U16 base z b v is at = place_2 base z b v is at
scaled_place ty.I32 base z b v is at = place_4 base z b v is at
scaled_place ty.U32 base z b v is at = place_4 base z b v is at
scaled_place ty.I64 base z b v is at = place_8 base z b v is at
scaled_place ty.U64 base z b v is at = place_8 base z b v is at

pub lane_place : (t : Ty) (base c : ℤ) (i e b r : ℕ) → b ≡ word base → r ≡ word (pos i +ℤ c) → lane_address b r (byte_count t) e ≡ address t base (pos (i + e) +ℤ c)
lane_place t base c i e b r is at = scaled_place t base (pos (i + e) +ℤ c) b (r + e) is (later_lane i e c ∙ ap (λ v. (v + e) % 2 ^ 64) (sym at))
