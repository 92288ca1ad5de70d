-- A value from before the loop, laid into all elements of its register.
use Rattle.std.proofs.Common.{◌≡◌, ◌≢◌, ℕ, ◌^◌, ◌<◌, ◌≤◌, ℤ, List, [], Option, refl, sym, ap, ◌∙◌, subst, arith}
use Rattle.std.specs.Prelude.{slice_index, slice_index_or, unwrap_or}
use Rattle.std.proofs.lemmas.Option.{slice_get_within}
use Rattle.guest_types.specs.Length.{width_bits, lanes}
use Rattle.guest_types.specs.Elements.{active}
use Rattle.guest_types.specs.Lanes.{all_at}
use Rattle.guest_types.specs.Memory.{Memory}
use Rattle.machine_model.specs.Machine.{State, x_at, z_at, p_at}
use Rattle.machine_model.specs.States.{IsState}
use Rattle.kernel_tree.specs.declared.ops.Ty.{Ty}
use Rattle.kernel_tree.specs.declared.ops.Ty.TheVariants.{U64}
use Rattle.kernel_tree.specs.declared.ast.Shape.TheVariants as shape
use Rattle.kernel_tree.specs.Wrap.{bits_of}
use Rattle.kernel_meaning.specs.Operators.{word, wrapped}
use Rattle.kernel_meaning.proofs.Residues.{word-below}
use Rattle.label_fix.specs.DraftRun.{DraftEntry, Laid}
use Rattle.label_fix.proofs.StretchSteps.{Goes, stay, chain}
use Rattle.loop_form.specs.Needs as needs
use Rattle.loop_form.specs.Needs.{Throughout}
use Rattle.loop_form.specs.Streams.{place_of}
use Rattle.vector_order.specs.Operands.{nth_value}
use Rattle.close_bound.specs.CloseBound.{laid_steps}
use Rattle.scalar_words.specs.Words.{const_code}
use Rattle.scalar_words.specs.Iterations.{Frame}
use Rattle.scalar_words.proofs.Constants.{const_fills}
use Rattle.lane_emit.specs.Right.{ZRight, PRight}
use Rattle.lane_emit.specs.Stretch.{OnlyZ}
use Rattle.lane_emit.specs.LaneCode.{dup_code}
use Rattle.lane_emit.proofs.Throughout.{dup_z}
use Rattle.lane_emit.specs.Joins.{identity}
use Rattle.lane_emit.specs.AccumulatorLanes.{LanesHold}
use Rattle.lane_emit.proofs.AccumulatorUpdates.{start_identity}
use Rattle.chunk_emit.specs.ChunkCode.{vectors, puts}
use Rattle.chunk_emit.specs.Head.{Ground, IsGround, width, most_lanes}
use Rattle.chunk_emit.specs.KernelLayout.{update_of}
use Rattle.chunk_emit.proofs.DraftVectors.{do_goes}
use Rattle.reductions.specs.EdgeCode.{type_of_var, hold_code}
use Rattle.reductions.proofs.StartHeld.{Comes, param_place, sum_wide}

-- ---- a constant in X26

-- a number in X26, and no other register changed but the program counter
pub record IsNumber (d : Laid) (v : ℕ) (c : List DraftEntry) (s : State) (rest : List DraftEntry) : Type 0 where
  pub end : State
  pub goes : Goes d c s rest end 4
  pub is : IsState end
  pub value : x_at end 26 ≡ v
  pub x : (r : ℕ) → r ≢ 26 → x_at end r ≡ x_at s r
  pub z : end.z ≡ s.z
  pub p : end.p ≡ s.p
  pub vl : end.vl ≡ s.vl
  pub memory : end.memory ≡ s.memory

pub number_set : (d : Laid) (v : ℕ) (s : State) (rest : List DraftEntry) → IsState s → v < 2 ^ 64 → IsNumber d v (const_code 26 v rest) s rest
number_set d v s rest is small =
    let k = const_fills d 26 (omega arith) v s rest is.x_count small in
    record {
      end = k.end;
      goes = k.goes;
      is = k.shaped is;
      value = k.value;
      x = k.others;
      z = ap (λ (f : Frame). f.z) k.frame;
      p = ap (λ (f : Frame). f.p) k.frame;
      vl = ap (λ (f : Frame). f.vl) k.frame;
      memory = k.memory;
    }

-- ---- what stays, and what a register then holds

-- The state while the values are laid into their registers: the general registers but those from X26 on are as they were.
pub record Stays (g : Ground) (m : Memory) (s : State) : Type 0 where
  pub is : IsState s
  pub vl : s.vl ≡ g.vl
  pub memory : s.memory ≡ m
  pub index : x_at s 9 ≡ 0
  pub x : (r : ℕ) → r ≤ 25 → x_at s r ≡ slice_index g.x r
  pub all : PRight (width g) (most_lanes g) (p_at s 1) all_at

-- a vector register with a value from before the loop in all elements
abbrev pub RightIn : Ground → Throughout → List ℕ → Type 0
RightIn g (needs.Scalar x) z = ZRight (width g) (most_lanes g) z (λ e. nth_value g.names (unwrap_or (place_of x g.kernel.params) 0))
RightIn g (needs.Constant t n) z = ZRight (width g) (most_lanes g) z (λ e. wrapped t n)
RightIn g needs.Index z = Unit {0}
RightIn g (needs.Accumulating x) z =
    LanesHold (update_of g.kernel x) (type_of_var g.kernel x) (width g) (most_lanes g) z (λ e. identity (update_of g.kernel x) (type_of_var g.kernel x))

-- code that lays a value into a vector register, and changes no other one
pub record Lays (g : Ground) (m : Memory) (d : Laid) (t : Throughout) (z : ℕ) (c : List DraftEntry) (s : State) (rest : List DraftEntry) : Type 0 where
  pub end : State
  pub goes : Goes d c s rest end (laid_steps t)
  pub stays : Stays g m end
  pub others : (r : ℕ) → r ≢ z → z_at end r ≡ z_at s r
  pub right : RightIn g t (z_at end z)

stays_number : {g : Ground} {m : Memory} {d : Laid} {v : ℕ} {c rest : List DraftEntry} {s : State} → Stays g m s → (n : IsNumber d v c s rest) → Stays g m n.end
stays_number {g = g} h n = record {
  is = n.is;
  vl = n.vl ∙ h.vl;
  memory = n.memory ∙ h.memory;
  index = n.x 9 (λ e. absurd (omega (arith, e))) ∙ h.index;
  x = λ r le. n.x r (λ e. absurd (omega (arith, e, le))) ∙ h.x r le;
  all = λ e lt. ap (λ p. active (width g) (slice_index_or p 1 []) e) n.p ∙ h.all e lt;
}

stays_only : {g : Ground} {m : Memory} {s t : State} {z : ℕ} → Stays g m s → IsState t → OnlyZ z s t → Stays g m t
stays_only {g = g} h is o = record {
  is = is;
  vl = o.vl ∙ h.vl;
  memory = o.memory ∙ h.memory;
  index = ap (λ x. slice_index x 9) o.x ∙ h.index;
  x = λ r le. ap (λ x. slice_index x r) o.x ∙ h.x r le;
  all = λ e lt. ap (λ p. active (width g) (slice_index_or p 1 []) e) o.p ∙ h.all e lt;
}

module _ (g : Ground) (m : Memory) (h : IsGround g) (d : Laid) (rest : List DraftEntry) (z : ℕ) (small : z < 32) where
  -- from a general register
  hold_scalar : (x : List ℕ) (s : State) → Comes g.kernel (needs.Scalar x) → Stays g m s → Lays g m d (needs.Scalar x) z (hold_code g.kernel z (needs.Scalar x) rest) s rest
  hold_scalar x s c k =
      let p = c.0 in
      let r = unwrap_or (place_of x g.kernel.params) 0 in
      let same : r ≡ p = ap (λ o. unwrap_or o 0) (param_place g.kernel p (record { name = x; shape = shape.Scalar c.1 }) h.sound c.2) in
      let within = slice_get_within g.kernel.params p _ c.2 in
      let few = h.few in
      let held : x_at s r ≡ word (nth_value g.names r) = subst (λ q. x_at s q ≡ word (nth_value g.names q)) (sym same) (k.x p (omega (arith, within, few)) ∙ h.given p within) in
      let v = dup_z (width g) z r (nth_value g.names r) k.is small (omega (arith, same, within, few)) held in
      record {
        end = v.end;
        goes = do_goes (dup_code (width g) z r) s v.end v.runs;
        stays = stays_only k v.is v.only;
        others = v.only.z;
        right = subst (λ l. ZRight (width g) (lanes l (width g)) (z_at v.end z) (λ e. nth_value g.names r)) k.vl v.right;
      }

  -- a literal
  hold_constant : (t : Option Ty) (n : ℤ) (s : State) → Stays g m s → Lays g m d (needs.Constant t n) z (hold_code g.kernel z (needs.Constant t n) rest) s rest
  hold_constant t n s k =
      let c = number_set d (word (wrapped t n)) s (puts (vectors (dup_code (width g) z 26)) rest) k.is (word-below (wrapped t n)) in
      let l = stays_number k c in
      let v = dup_z (width g) z 26 (wrapped t n) c.is small (omega arith) c.value in
      record {
        end = v.end;
        goes = chain 5 (omega arith) c.goes (do_goes (dup_code (width g) z 26) c.end v.end v.runs);
        stays = stays_only l v.is v.only;
        others = λ r ne. v.only.z r ne ∙ ap (λ y. slice_index_or y r []) c.z;
        right = subst (λ l. ZRight (width g) (lanes l (width g)) (z_at v.end z) (λ e. wrapped t n)) l.vl v.right;
      }

  -- the identity of an accumulator's operator
  hold_sum : (x : List ℕ) (s : State) → Comes g.kernel (needs.Accumulating x) → Stays g m s → Lays g m d (needs.Accumulating x) z (hold_code g.kernel z (needs.Accumulating x) rest) s rest
  hold_sum x s a k =
      let op = update_of g.kernel x in
      let t = type_of_var g.kernel x in
      let is : t ≡ a.1 = ap (λ o. unwrap_or o U64) a.2 in
      let wide : bits_of t ≤ width_bits (width g) = subst (λ u. bits_of u ≤ width_bits (width g)) (sym is) (sum_wide g.kernel x a.1 a.0 a.2) in
      let c = number_set d (word (identity op t)) s (puts (vectors (dup_code (width g) z 26)) rest) k.is (word-below (identity op t)) in
      let l = stays_number k c in
      let v = start_identity op t (width g) c.end z 26 c.is small (omega arith) wide c.value in
      record {
        end = v.end;
        goes = chain 5 (omega arith) c.goes (do_goes (dup_code (width g) z 26) c.end v.end v.runs);
        stays = stays_only l v.is v.only;
        others = λ r ne. v.only.z r ne ∙ ap (λ y. slice_index_or y r []) c.z;
        right = subst (λ l. LanesHold op t (width g) (lanes l (width g)) (z_at v.end z) (λ e. identity op t)) l.vl v.holds;
      }

  pub hold : (t : Throughout) (s : State) → Comes g.kernel t → Stays g m s → Lays g m d t z (hold_code g.kernel z t rest) s rest
  hold (needs.Scalar x) s c k = hold_scalar x s c k
  hold (needs.Constant t n) s c k = hold_constant t n s k
  hold needs.Index s c k = record { end = s; goes = stay 0; stays = k; others = λ r ne. refl; right = tt }
  hold (needs.Accumulating x) s c k = hold_sum x s c k
