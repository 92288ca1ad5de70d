-- The step of a break: P0 becomes the lanes before the first in which the condition holds.
use Rattle.std.proofs.Common.{◌≡◌, ℕ, ◌+◌, ◌*◌, ◌/◌, ◌%◌, ◌<◌, ◌≤◌, Bool, true, false, not, ◌&&◌, eqb, ltb, List, [], ◌∷◌, Option, None, refl, sym, ap, ap₂, ◌∙◌, arith, ⊎_elim, get_or-set_same, get_or-set_other}
use Rattle.std.specs.Prelude.{if◌then◌else◌}
use Rattle.std.proofs.lemmas.Bool.{cases_lt, cases_eq, ne_eqb, lt-ltb, le-ltb, and_left, and_right}
use Rattle.std.proofs.Math.Nat.{mul-le-mul_left, div-add-mod}
use mathlib.Core.Bool.{and-false}
use Rattle.guest_types.specs.declared.length.Width.TheVariants.{B}
use Rattle.guest_types.specs.Length.{width_bytes, lanes}
use Rattle.guest_types.specs.Elements.{active, bit, predicate}
use Rattle.guest_types.specs.Lanes.{broken, brk_at}
use Rattle.guest_types.proofs.AtWidths.{width_bytes-lanes, bit-predicate}
use Rattle.guest_types.proofs.Widths.{some-bytes}
use Rattle.guest_types.proofs.Folds.{not_broken}
use Rattle.machine_model.specs.declared.outcome.StopKind.TheVariants.{Read}
use Rattle.machine_model.specs.Machine.{State, p_at, with_p, next}
use Rattle.machine_model.proofs.StateSteps.{truths_put}
use Rattle.label_fix.specs.DraftRun.{DraftEntry, Laid}
use Rattle.vector_order.specs.Orders.{Lane, Lanes, Halts, Keeps}
use Rattle.loop_form.specs.LoopItems.{item}
use Rattle.loop_form.specs.LoopItems as ops
use Rattle.chunk_emit.specs.Registers.{Layout, p_of}
use Rattle.chunk_emit.specs.ChunkCode.{puts}
use Rattle.chunk_emit.specs.Chunk.{Setting, count_of, Holds}
use Rattle.chunk_emit.specs.Fits.{Assigned, FitsTruth, MakesNothing}
use Rattle.chunk_emit.specs.StopPlaces.{ComesTo}
use Rattle.first_fault.specs.Region.{Way, Broke, way_of, item_way}
use Rattle.first_fault.specs.RegionCode.{Mode, break_word}
use Rattle.first_fault.specs.Prefix.{IsTop, Inside}
use Rattle.first_fault.specs.RegionRuns.{by_break, RegionOutcome, comes}
use Rattle.first_fault.proofs.PrefixBits.{lane_bits_within, narrow, is_broken, First, missing, found, first_is}
use Rattle.first_fault.proofs.Stretches.{word_leads}
use Rattle.first_fault.proofs.PrefixSteps.{long, lane_byte_below_256, byte_made, length_is, few_all, top_is, inside_on}
use Rattle.first_fault.proofs.PureSteps.{same_p, only_put}

module _ {l : Layout} (fit : Assigned l) {f : Setting} {a : State} {p0 : ℕ} {t0 : Lanes} (h0 : Holds l f p0 t0 a) where
  -- the bits of a predicate of which some are taken away, byte by byte
  pub byte_and : (old : List ℕ) (x : ℕ → Bool) (n : ℕ) → IsTop f.w n old → n ≤ count_of f → (j : ℕ) → j < 256 → bit (predicate 1 (λ j. bit old j && x j) (lanes f.vl B)) j ≡ (bit old j && x j)
  byte_and old x n top le j lt =
      ⊎_elim
      (λ inner. byte_made fit h0 (λ j. bit old j && x j) j inner)
      (λ past.
      let up = mul-le-mul_left (width_bytes f.w) le in
      let none : bit old j ≡ false = top j lt ∙ and_right (eqb (j % width_bytes f.w) 0) (ltb j (width_bytes f.w * n)) (le-ltb j (width_bytes f.w * n) (omega (arith, past, up, width_bytes-lanes f.vl f.w (long fit h0), width_bytes-lanes f.vl B (long fit h0)))) in
      bit-predicate 1 (λ j. bit old j && x j) (lanes f.vl B) j lt
      ∙ and_left _ _ (and_right (eqb (j % 1) 0) (ltb j (1 * lanes f.vl B)) (le-ltb j (1 * lanes f.vl B) (omega (arith, past))))
      ∙ sym (and_left (bit old j) (x j) none))
      (cases_lt j (lanes f.vl B))

  module _ (d : Laid) (rest : List DraftEntry) {mode : Mode} {n p : ℕ} {ls : ℕ → Lane} {s : State} (h : Inside mode l f a n p ls s) (c : ℕ) (k : FitsTruth l p c) (none : MakesNothing l p) where
    abbrev r : ℕ
    r = p_of l c

    abbrev way : ℕ → Lane → Way
    way j b = item_way f.names (item p None (ops.Break c)) j a.memory b

    -- a bit that ends the prefix stands at no lane before lane m
    bit_false : (m : ℕ) → m ≤ n → ((e : ℕ) → e < m → (ls (f.i + e)).truth c ≡ false) → (b : ℕ) → b < 256 → b < width_bytes f.w * m → (bit (p_at s 0) b && bit (p_at s r) b) ≡ false
    bit_false m le pass b lt inner =
        let w = width_bytes f.w in
        ap (λ x. x && bit (p_at s r) b) (h.top b lt)
        ∙ ⊎_elim
        (λ z.
        let e = b / w in
        let place : b ≡ w * e = omega (arith, div-add-mod b w, z) in
        let small : e < m = ⊎_elim (λ l. l) (λ ge. (let up : w * m ≤ w * e = mul-le-mul_left w ge in absurd (omega (arith, up, place, inner)))) (cases_lt e m) in
        ap (λ x. (eqb (b % w) 0 && ltb b (w * n)) && x) (ap (bit (p_at s r)) place ∙ h.truths c k.0 k.1 e (omega (arith, small, le)) ∙ pass e small) ∙ and-false (eqb (b % w) 0 && ltb b (w * n)))
        (λ nz. ap (λ x. (x && ltb b (w * n)) && bit (p_at s r) b) (ne_eqb (b % w) 0 nz))
        (cases_eq (b % w) 0)

    broken_is : (m : ℕ) → m ≤ n → ((e : ℕ) → e < m → (ls (f.i + e)).truth c ≡ false) → (m < n → (ls (f.i + m)).truth c ≡ true) → (e : ℕ) → e < n → not (broken (p_at s 0) (p_at s r) (width_bytes f.w * e + 1)) ≡ ltb e m
    broken_is m le pass out e en =
        let w = width_bytes f.w in
        let count = few_all fit h0 h in
        ⊎_elim
        (λ em.
        let up : w * e + w ≤ w * m = lane_bits_within w m e em in
        let below = lane_byte_below_256 fit h0 e (omega (arith, en, count)) in
        ap not (not_broken (p_at s 0) (p_at s r) (w * e + 1) (λ b lt. bit_false m le pass b (omega (arith, lt, below)) (omega (arith, lt, up, some-bytes f.w)))) ∙ sym (lt-ltb e m em))
        (λ ge.
        let mn : m < n = omega (arith, ge, en) in
        let up : w * m ≤ w * e = mul-le-mul_left w ge in
        let here : (bit (p_at s 0) (w * m) && bit (p_at s r) (w * m)) ≡ true = ap₂ (λ a b. a && b) (top_is fit h0 h m (omega (arith, mn, count)) ∙ lt-ltb m n mn) (h.truths c k.0 k.1 m mn ∙ out mn) in
        ap not (is_broken (p_at s 0) (p_at s r) (w * e + 1) (w * m) (omega (arith, up)) here) ∙ sym (le-ltb e m ge))
        (cases_lt e m)

    break_cuts_mask : (m : ℕ) → m ≤ n → ((e : ℕ) → e < m → (ls (f.i + e)).truth c ≡ false) → (m < n → (ls (f.i + m)).truth c ≡ true) → RegionOutcome mode l f d a n (p + 1) 1 ls (puts (break_word l c ∷ []) rest) s rest way (ComesTo f.names (ops.Break c) Read f.i)
    break_cuts_mask m le pass out =
        let bits = brk_at false (p_at s 0) (p_at s r) in
        let new = predicate 1 bits (lanes s.vl B) in
        let end = next (with_p s 0 new) in
        let x : ℕ → Bool = λ j. not (broken (p_at s 0) (p_at s r) (j + 1)) in
        let is_new : p_at end 0 ≡ new = get_or-set_same s.p 0 new [] (omega (arith, h.is.p_count)) in
        let top : IsTop f.w m (p_at end 0) = narrow (width_bytes f.w) (bit (p_at s 0)) (bit (p_at end 0)) n m x (some-bytes f.w) h.top le (broken_is m le pass out)
        (λ j lt. ap (λ b. bit b j) is_new ∙ ap (λ v. bit (predicate 1 bits (lanes v B)) j) (length_is fit h0 h) ∙ byte_and (p_at s 0) x n h.top (few_all fit h0 h) j lt) in
        comes m ls end le (λ e em. ap (λ b. way_of Broke (if b then Halts else Keeps (ls (f.i + e)))) (pass e em)) (word_leads false refl refl)
        (λ lt. by_break (ap (λ b. way_of Broke (if b then Halts else Keeps (ls (f.i + m)))) (out lt)))
        (inside_on fit h0 h le (record {
          is = truths_put s end 0 B bits h.is refl;
          same = same_p (λ eq. absurd (omega (arith, eq))) (only_put 0 s new);
          top = top;
          ffr = λ early e em. h.ffr early e (omega (arith, em, le));
          kept_z = λ q lt last_use. refl;
          kept_p = λ q lt last_use e em. ap (λ b. active f.w b e) (get_or-set_other s.p 0 (p_of l q) new [] (λ eq. absurd (omega (arith, eq, fit.p_low q (omega (arith, lt, last_use))))));
          values = λ q e lt em. refl;
          truths = λ q e lt em. refl;
          value = λ lt. absurd (omega (arith, lt, none.0));
          truth = λ lt. absurd (omega (arith, lt, none.1));
        }))

    pub break_steps : RegionOutcome mode l f d a n (p + 1) 1 ls (puts (break_word l c ∷ []) rest) s rest way (ComesTo f.names (ops.Break c) Read f.i)
    break_steps = by_first (first_is (λ e. (ls (f.i + e)).truth c) n 0)
      where
        by_first : {o : Option ℕ} → First (λ e. (ls (f.i + e)).truth c) n 0 o → RegionOutcome mode l f d a n (p + 1) 1 ls (puts (break_word l c ∷ []) rest) s rest way (ComesTo f.names (ops.Break c) Read f.i)
        by_first (missing none) = break_cuts_mask n (omega arith) (λ e em. none e (omega arith) (omega (arith, em))) (λ lt. absurd (omega (arith, lt)))
        by_first (found v lo hi yes' none) = break_cuts_mask v (omega (arith, hi)) (λ e ev. none e (omega arith) ev) (λ lt. yes')
