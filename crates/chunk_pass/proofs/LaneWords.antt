-- The words that take the lanes of a chunk, and the one that adds their number to X9.
use Rattle.std.proofs.Common.{◌≡◌, ℕ, zero, suc, ◌+◌, ◌-◌, ◌<◌, ◌≤◌, min, Bool, false, ◌&&◌, cond, ltb, List, [], ◌∷◌, refl, sym, ap, ap₂, ◌∙◌, subst, arith, ⊎_elim, get_or-set_same, get_or-set_other}
use Rattle.std.proofs.lemmas.Bool.{cases_lt, lt-ltb, le-ltb}
use Rattle.guest_types.specs.declared.length.Width.{Width}
use Rattle.guest_types.specs.Length.{width_bytes, lanes}
use Rattle.guest_types.specs.Elements.{active, predicate, pred_test}
use Rattle.guest_types.specs.Lanes.{plus, count_at, count_of, all_at, while_at}
use Rattle.guest_types.proofs.Folds.{folded-none, folded-more}
use Rattle.machine_model.specs.Arithmetic.{sum}
use Rattle.machine_model.specs.Machine.{State, x_at, p_at, with_x, with_p, with_flags, next}
use Rattle.machine_model.specs.States.{IsState}
use Rattle.machine_model.specs.VectorEffects.{put_tested, put_x}
use Rattle.machine_model.proofs.StateSteps.{tested_put}
use Rattle.label_fix.specs.DraftRun.{DraftEntry, Put, Laid}
use Rattle.label_fix.specs.Stretches.{Leads}
use Rattle.lane_emit.proofs.Stretches.{width-size}
use Rattle.chunk_emit.specs.Chunk.{IsTop}
use Rattle.chunk_emit.specs.ChunkCode.{puts}
use Rattle.chunk_emit.specs.Head.{Ground, width}
use Rattle.first_fault.proofs.PrefixBits.{top_made}
use Rattle.first_fault.proofs.Stretches.{follow, word_leads}
use Rattle.chunk_pass.specs.PassCode.{lanes_word, first_lane_words, advance_word}
use Rattle.chunk_pass.proofs.LaneHeads.{Kept}

-- ---- P0

-- a predicate made in P0, with flags
abbrev pub taken : Width → State → (ℕ → Bool) → State
taken w s truth = next (with_flags (with_p s 0 (predicate (width_bytes w) truth (lanes s.vl w))) (pred_test all_at truth (lanes s.vl w)))

pub taken_kept : (g : Ground) (s : State) (truth : ℕ → Bool) → IsState s → Kept g s (taken (width g) s truth)
taken_kept g s truth h = record {
  is = tested_put s (taken (width g) s truth) 0 (width g) all_at truth h refl;
  vl = refl;
  memory = refl;
  x = λ r le. refl;
  all = get_or-set_other s.p 0 1 (predicate (width_bytes (width g)) truth (lanes s.vl (width g))) [] (λ e. absurd (omega (arith, e)));
  held = λ x is ne. refl;
  sums = λ x is. refl;
}

pub taken_top : (w : Width) (s : State) (truth : ℕ → Bool) (n : ℕ) → IsState s → n ≤ lanes s.vl w → ((e : ℕ) → e < lanes s.vl w → truth e ≡ ltb e n) → IsTop w n (p_at (taken w s truth) 0)
taken_top w s truth n h le same =
    let made : p_at (taken w s truth) 0 ≡ predicate (width_bytes w) truth (lanes s.vl w) = get_or-set_same s.p 0 (predicate (width_bytes w) truth (lanes s.vl w)) [] (omega (arith, h.p_count)) in
    subst (IsTop w n) (sym made) (top_made w truth (lanes s.vl w) n le same)

-- the lanes whose iterations are below a bound
pub below_bound : (i bound most e : ℕ) → e < most → while_at i bound e ≡ ltb e (min most (bound - i))
below_bound i bound most e lt =
    ⊎_elim
    (λ before. lt-ltb (i + e) bound before ∙ sym (lt-ltb e (min most (bound - i)) (omega (arith, lt, before))))
    (λ past. le-ltb (i + e) bound past ∙ sym (le-ltb e (min most (bound - i)) (omega (arith, past))))
    (cases_lt (i + e) bound)

pub lanes_lead : {d : Laid} {rest : List DraftEntry} (w : Width) (n : ℕ) (s : State) → Leads d (Put (lanes_word w n) ∷ rest) s rest (taken w s (while_at (x_at s 9) (x_at s n))) 1
lanes_lead w n s = word_leads false (ap (λ k. put_tested s 0 k all_at (while_at (x_at s 9) (x_at s n))) (width-size w)) refl

-- ---- lane 0 alone

abbrev pub one_taken : Width → State → State
one_taken w s = let t = next (with_x s 26 1) in taken w t (while_at (x_at t 31) (x_at t 26))

pub one_leads : {d : Laid} {rest : List DraftEntry} (w : Width) (s : State) → Leads d (puts (first_lane_words w) rest) s rest (one_taken w s) 2
one_leads w s =
    let t = next (with_x s 26 1) in
    follow 2 (omega arith) (word_leads false refl refl) (word_leads false (ap (λ k. put_tested t 0 k all_at (while_at (x_at t 31) (x_at t 26))) (width-size w)) refl)

-- ---- the number of lanes

count_top : (w : Width) (p : List ℕ) (k n : ℕ) → ((e : ℕ) → e < n → active w p e ≡ ltb e k) → count_of w n p p ≡ min n k
count_top w p k zero h = folded-none plus 0 (count_at w p p) ∙ omega arith
count_top w p k (suc n) h =
    let next : suc n ≡ n + 1 = omega arith in
    let more : count_of w (n + 1) p p ≡ count_of w n p p + count_at w p p n = folded-more plus 0 (count_at w p p) n in
    let here : count_at w p p n ≡ cond (ltb n k && ltb n k) 1 0 = ap (λ b. cond (b && b) 1 0) (h n (omega arith)) in
    let ih = count_top w p k n (λ e lt. h e (omega (arith, lt))) in
    ap (λ m. count_of w m p p) next ∙ more ∙ ap₂ (λ a b. a + b) ih here
    ∙ ⊎_elim
    (λ lt. ap (λ b. min n k + cond (b && b) 1 0) (lt-ltb n k lt) ∙ omega (arith, lt))
    (λ ge. ap (λ b. min n k + cond (b && b) 1 0) (le-ltb n k ge) ∙ omega (arith, ge))
    (cases_lt n k)

-- X9 moved on
abbrev pub advanced : State → ℕ → State
advanced s v = next (with_x s 9 v)

pub advance_leads : {d : Laid} {rest : List DraftEntry} (w : Width) (k : ℕ) (s : State) → k ≤ lanes s.vl w → ((e : ℕ) → e < lanes s.vl w → active w (p_at s 0) e ≡ ltb e k) → Leads d (Put (advance_word w) ∷ rest) s rest (advanced s (sum (x_at s 9) k)) 1
advance_leads w k s le top =
    let counted : count_of w (lanes s.vl w) (p_at s 0) (p_at s 0) ≡ k = count_top w (p_at s 0) k (lanes s.vl w) top ∙ omega (arith, le) in
    word_leads false (ap (λ v. put_x s 9 (sum (x_at s 9) (count_of v (lanes s.vl v) (p_at s 0) (p_at s 0)))) (width-size w) ∙ ap (λ c. put_x s 9 (sum (x_at s 9) c)) counted) refl
