-- The words of the turns: X8 = n - t * L for a bound n, turns of t passes and chunks of L lanes, and X9 compared with it.
use Rattle.std.proofs.Common.{◌≡◌, ◌≢◌, ℕ, ◌*◌, ◌^◌, ◌<◌, ◌≤◌, Bool, true, false, not, ◌&&◌, List, [], ◌∷◌, refl, ap, ap₂, ◌∙◌, arith, get_or-set_same, get_or-set_other, ⊎_elim}
use Rattle.std.specs.Prelude.{ℤ, nat_eq, nat_le, slice_index, slice_index_or}
use Rattle.std.proofs.lemmas.Bool.{cases_lt, eq-eqb, ne_eqb, le-leb, lt-leb}
use Rattle.guest_types.specs.declared.length.Width.{Width}
use Rattle.guest_types.specs.declared.length.Width.TheVariants.{B}
use Rattle.guest_types.specs.Length.{lanes}
use Rattle.guest_types.specs.Memory.{Memory}
use Rattle.machine_model.specs.Arithmetic.{difference, shifted_word, flags_of, holds}
use Rattle.machine_model.specs.Machine.{State, Went, x_at, p_at, with_x, next}
use Rattle.machine_model.specs.States.{IsState}
use Rattle.machine_model.proofs.StateSteps.{next_is_state, x_kept, flags_kept, wrapped, lanes_small}
use Rattle.kernel_meaning.specs.Eval.{Names}
use Rattle.a64_code.specs.Table.{subs}
use Rattle.label_fix.specs.DraftRun.{If, DraftEntry, Put, Branch, Laid, effect, following, ins}
use Rattle.label_fix.proofs.StretchSteps.{Goes, chain, put_goes}
use Rattle.dependence.specs.Apart.{bound_place}
use Rattle.chunk_emit.specs.Head.{Ground, IsGround, AtHead, width, most_lanes, limit}
use Rattle.chunk_pass.proofs.LaneHeads.{bound_at}
use Rattle.vector_emit.specs.VectorCode.{count_word, turn_passes, turn_shift}
use Rattle.vector_emit.proofs.Tests.{Branched, Tests, branch_taken, branch_passed, index_small, head_kept, following_word}
use Rattle.vector_emit.proofs.Grounds.{from_x, Aside, aside_then, ground_at, same_at, head_from}

-- ---- the words

counted : Width → State → State
counted w s = next (with_x s 8 (lanes s.vl w))

count_does : (w : Width) (s : State) → effect (count_word w) s ≡ Went (counted w s)
unfolding counted
count_does B s = refl
count_does other s = refl

count_goes : (d : Laid) (w : Width) (rest : List DraftEntry) (s : State) → Goes d (Put (count_word w) ∷ rest) s rest (counted w s) 1
count_goes d w rest s = put_goes (count_does w s)

-- SUBS Xd, Xa, Xc, LSL #k
less : (d a c k : ℕ) → State → State
less d a c k s = next (record (with_x s d (difference (x_at s a) (shifted_word 0 (x_at s c) k))) { flags = flags_of (x_at s a) (shifted_word 0 (x_at s c) k) })

less_goes : (D : Laid) (d a c k : ℕ) (rest : List DraftEntry) (s : State) → Goes D (ins subs (d ∷ a ∷ k ∷ c ∷ 0 ∷ []) ∷ rest) s rest (less d a c k s) 1
unfolding less
less_goes D d a c k rest s = put_goes refl

less_is : (d a c k : ℕ) (s : State) → IsState s → IsState (less d a c k s)
unfolding less
less_is d a c k s is = next_is_state _ (flags_kept _ _ (x_kept s d _ is (wrapped _)))

-- ---- X8 = n - t * L

reached : Width → (long : Bool) → (bound : ℕ) → State → State
reached w long b s = less 8 b 8 (turn_shift long) (counted w s)

counted_aside : (w : Width) (s : State) → IsState s → Aside s (counted w s)
unfolding counted
counted_aside w s is = record {
  is = next_is_state _ (x_kept s 8 (lanes s.vl w) is (let l = lanes_small s.vl w is.sized in omega (arith, l)));
  vl = refl;
  memory = refl;
  x = λ r le ne. get_or-set_other s.x 8 r _ 0 ne;
  p = refl;
  z = refl;
}

less_aside : (b c k : ℕ) (s : State) → IsState s → Aside s (less 8 b c k s)
unfolding less
less_aside b c k s is = record {
  is = next_is_state _ (flags_kept _ _ (x_kept s 8 _ is (wrapped _)));
  vl = refl;
  memory = refl;
  x = λ r le ne. get_or-set_other s.x 8 r _ 0 ne;
  p = refl;
  z = refl;
}

reached_aside : (w : Width) (long : Bool) (b : ℕ) (s : State) → IsState s → Aside s (reached w long b s)
unfolding reached
reached_aside w long b s is = let c = counted_aside w s is in aside_then c (less_aside b 8 (turn_shift long) (counted w s) c.is)

reached_goes : (d : Laid) (w : Width) (long : Bool) (b : ℕ) (rest : List DraftEntry) (s : State) → Goes d (Put (count_word w) ∷ ins subs (8 ∷ b ∷ turn_shift long ∷ 8 ∷ 0 ∷ []) ∷ rest) s rest (reached w long b s) 2
unfolding reached
reached_goes d w long b rest s = chain 2 (omega arith) (count_goes d w (ins subs (8 ∷ b ∷ turn_shift long ∷ 8 ∷ 0 ∷ []) ∷ rest) s) (less_goes d 8 b 8 (turn_shift long) rest (counted w s))

turned : (long : Bool) (L : ℕ) → L < 257 → shifted_word 0 L (turn_shift long) ≡ turn_passes long * L
turned true L h = omega (arith, h)
turned false L h = omega (arith, h)

counted_eight : (w : Width) (s : State) → IsState s → x_at (counted w s) 8 ≡ lanes s.vl w
unfolding counted
counted_eight w s is = get_or-set_same s.x 8 _ 0 (let c = is.x_count in omega (arith, c))

-- what X8 and the carry are
reached_eight : (w : Width) (long : Bool) (b : ℕ) (s : State) → IsState s → b ≤ 7 → x_at (reached w long b s) 8 ≡ difference (x_at s b) (turn_passes long * lanes s.vl w)
unfolding reached less
reached_eight w long b s is near =
    let c = counted_aside w s is in
    let same : x_at (counted w s) b ≡ x_at s b = c.x b (omega (arith, near)) (λ e. absurd (omega (arith, near, e))) in
    get_or-set_same (counted w s).x 8 _ 0 (let n = c.is.x_count in omega (arith, n))
    ∙ ap₂ (λ m l. difference m (shifted_word 0 l (turn_shift long))) same (counted_eight w s is) ∙ ap (difference (x_at s b)) (turned long (lanes s.vl w) (lanes_small s.vl w is.sized))

reached_carry : (w : Width) (long : Bool) (b : ℕ) (s : State) → IsState s → b ≤ 7 → holds 3 (reached w long b s).flags ≡ not (nat_le (turn_passes long * lanes s.vl w) (x_at s b))
unfolding reached less
reached_carry w long b s is near =
    let c = counted_aside w s is in
    let same : x_at (counted w s) b ≡ x_at s b = c.x b (omega (arith, near)) (λ e. absurd (omega (arith, near, e))) in
    ap₂ (λ m l. not (nat_le (shifted_word 0 l (turn_shift long)) m)) same (counted_eight w s is) ∙ ap (λ l. not (nat_le l (x_at s b))) (turned long (lanes s.vl w) (lanes_small s.vl w is.sized))

-- The words lead to these entries, with the limit in X8 of a ground, and what P0 was.
pub record Limited (g : Ground) (long : Bool) (i : ℕ) (cur : Names) (m : Memory) (sum : List ℕ → ℕ → ℤ) (d : Laid) (c : List DraftEntry) (s : State) (e : List DraftEntry) : Type 0 where
  pub x : List ℕ
  pub end : State
  pub goes : Goes d c s e end 3
  pub ground : IsGround (from_x g x)
  pub same : (r : ℕ) → r ≤ 25 → r ≢ 9 → r ≢ 8 → slice_index x r ≡ slice_index g.x r
  pub head : AtHead (from_x g x) i cur m sum end
  pub eight : slice_index x 8 ≡ difference (limit g) (turn_passes long * most_lanes g)
  pub p : p_at end 0 ≡ p_at s 0

reached_p : (w : Width) (long : Bool) (b : ℕ) (s : State) → (reached w long b s).p ≡ s.p
unfolding reached less counted
reached_p w long b s = refl

module _ {g : Ground} {i : ℕ} {cur : Names} {m : Memory} {sum : List ℕ → ℕ → ℤ} (d : Laid) (s : State) (long : Bool) (l : ℕ) (rest : List DraftEntry) (ground : IsGround g) (h : AtHead g i cur m sum s) where
  abbrev b : ℕ
  b = bound_place g.kernel

  abbrev t : State
  t = reached (width g) long b s

  aside : Aside s t
  aside = reached_aside (width g) long b s h.is

  lanes_are : turn_passes long * lanes s.vl (width g) ≡ turn_passes long * most_lanes g
  lanes_are = ap (λ vl. turn_passes long * lanes vl (width g)) h.vl

  carry : holds 3 t.flags ≡ not (nat_le (turn_passes long * most_lanes g) (limit g))
  carry = reached_carry (width g) long b s h.is ground.near ∙ ap₂ (λ l n. not (nat_le l n)) lanes_are (bound_at ground h)

  eight_is : slice_index t.x 8 ≡ difference (limit g) (turn_passes long * most_lanes g)
  eight_is = reached_eight (width g) long b s h.is ground.near ∙ ap₂ difference (bound_at ground h) lanes_are

  by_branch : (e : List DraftEntry) → Branched (from_x g t.x) i cur m sum d (Branch (If 3) l ∷ rest) t e → Limited g long i cur m sum d (Put (count_word (width g)) ∷ ins subs (8 ∷ b ∷ turn_shift long ∷ 8 ∷ 0 ∷ []) ∷ Branch (If 3) l ∷ rest) s e
  by_branch e x = record {
    x = t.x;
    end = x.end;
    goes = chain 3 (omega arith) (reached_goes d (width g) long b (Branch (If 3) l ∷ rest) s) x.goes;
    ground = ground_at ground h aside;
    same = same_at h aside;
    head = x.head;
    eight = eight_is;
    p = ap (λ ps. slice_index_or ps 0 []) (x.p ∙ reached_p (width g) long b s);
  }

  -- fewer chunks than those of a turn are left
  pub few_left : limit g < turn_passes long * most_lanes g → Limited g long i cur m sum d (Put (count_word (width g)) ∷ ins subs (8 ∷ bound_place g.kernel ∷ turn_shift long ∷ 8 ∷ 0 ∷ []) ∷ Branch (If 3) l ∷ rest) s (following d l)
  few_left lt = by_branch (following d l) (branch_taken d (If 3) l rest (head_from h aside) (carry ∙ ap not (lt-leb (turn_passes long * most_lanes g) (limit g) lt)))

  pub turn_left : turn_passes long * most_lanes g ≤ limit g → Limited g long i cur m sum d (Put (count_word (width g)) ∷ ins subs (8 ∷ bound_place g.kernel ∷ turn_shift long ∷ 8 ∷ 0 ∷ []) ∷ Branch (If 3) l ∷ rest) s rest
  turn_left le = by_branch rest (branch_passed d (If 3) l rest (head_from h aside) (carry ∙ ap not (le-leb (turn_passes long * most_lanes g) (limit g) le)))

-- ---- SUBS XZR, X9, X8, and B.LS

lower_same : (i limit : ℕ) → i < 2 ^ 64 → limit < 2 ^ 64 → i ≤ limit → not (nat_le limit i && not (nat_eq (difference i limit) 0)) ≡ true
lower_same i limit small below le =
    ⊎_elim
    (λ lt. ap (λ b. not (b && not (nat_eq (difference i limit) 0))) (lt-leb limit i lt))
    (λ ge. ap₂ (λ a b. not (a && not b)) (le-leb limit i ge) (eq-eqb (difference i limit) 0 (omega (arith, ge, le, below))))
    (cases_lt i limit)

higher : (i limit : ℕ) → i < 2 ^ 64 → limit < i → not (nat_le limit i && not (nat_eq (difference i limit) 0)) ≡ false
higher i limit small lt = ap₂ (λ a b. not (a && not b)) (le-leb limit i (omega (arith, lt))) (ne_eqb (difference i limit) 0 (λ e. absurd (omega (arith, e, lt, small))))

module _ {g : Ground} {i : ℕ} {cur : Names} {m : Memory} {sum : List ℕ → ℕ → ℤ} (d : Laid) (s : State) (l : ℕ) (rest : List DraftEntry) (h : AtHead g i cur m sum s) (small : slice_index g.x 8 < 2 ^ 64) where
  compared_head : AtHead g i cur m sum (less 31 9 8 0 s)
  unfolding less
  compared_head = head_kept h (record {
    is = next_is_state _ (flags_kept _ _ (x_kept s 31 _ h.is (wrapped _)));
    vl = refl;
    memory = refl;
    x = λ r le. get_or-set_other s.x 31 r _ 0 (λ e. absurd (omega (arith, le, e)));
    all = refl;
    z = refl;
  })

  compared_holds : holds 9 (less 31 9 8 0 s).flags ≡ not (nat_le (slice_index g.x 8) i && not (nat_eq (difference i (slice_index g.x 8)) 0))
  unfolding less
  compared_holds =
      let eight : x_at s 8 ≡ slice_index g.x 8 = h.x 8 (omega arith) (λ e. absurd (omega (arith, e))) in
      ap₂ (λ a b. not (nat_le (shifted_word 0 b 0) a && not (nat_eq (difference a (shifted_word 0 b 0)) 0))) h.index eight
      ∙ ap (λ b. not (nat_le b i && not (nat_eq (difference i b) 0))) (plain (slice_index g.x 8) small)
    where
      plain : (v : ℕ) → v < 2 ^ 64 → shifted_word 0 v 0 ≡ v
      plain v h = omega (arith, h)

  compared_z : (less 31 9 8 0 s).z ≡ s.z
  unfolding less
  compared_z = refl

  compared_p : (less 31 9 8 0 s).p ≡ s.p
  unfolding less
  compared_p = refl

  -- the chunks of another turn are left
  pub turn_back : i ≤ slice_index g.x 8 → Tests g i cur m sum d (ins subs (31 ∷ 9 ∷ 0 ∷ 8 ∷ 0 ∷ []) ∷ Branch (If 9) l ∷ rest) s (following d l) 2
  turn_back le = following_word (less_goes d 31 9 8 0 (Branch (If 9) l ∷ rest) s) compared_z compared_p (branch_taken d (If 9) l rest compared_head (compared_holds ∙ lower_same i (slice_index g.x 8) (index_small h) small le))

  pub turn_over : slice_index g.x 8 < i → Tests g i cur m sum d (ins subs (31 ∷ 9 ∷ 0 ∷ 8 ∷ 0 ∷ []) ∷ Branch (If 9) l ∷ rest) s rest 2
  turn_over lt = following_word (less_goes d 31 9 8 0 (Branch (If 9) l ∷ rest) s) compared_z compared_p (branch_passed d (If 9) l rest compared_head (compared_holds ∙ higher i (slice_index g.x 8) (index_small h) lt))
