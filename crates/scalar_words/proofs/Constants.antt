-- The code of a constant.
use Rattle.std.proofs.Common.{◌≡◌, ◌≢◌, ℕ, ◌+◌, ◌-◌, ◌*◌, ◌/◌, ◌%◌, ◌^◌, ◌<◌, ◌≤◌, Bool, true, false, List, length, Option, Some, None, refl, sym, ap, ap₂, ◌∙◌, arith}
use Rattle.std.specs.Prelude.{ℤ, nat_eq, if◌then◌else◌}
use Rattle.std.proofs.lemmas.Bool.{eqb-true}
use Rattle.machine_model.specs.InstructionTable.{Listed}
use Rattle.machine_model.specs.Machine.{State, x_at}
use Rattle.machine_model.specs.Arithmetic.{replaced, inverted}
use Rattle.machine_model.specs.States.{IsState}
use Rattle.kernel_meaning.specs.Operators.{word}
use Rattle.kernel_meaning.proofs.Residues.{word-below}
use Rattle.label_fix.specs.DraftRun.{DraftEntry, Laid}
use Rattle.label_fix.proofs.StretchSteps.{Goes, Resolves, put_goes, chain, go_more, stay}
use Rattle.scalar_words.specs.Layout.{Layout, reg_of, IsMade}
use Rattle.scalar_words.specs.Words.{filler, has_ones, start_code, half_word, word_code, filled_code, halves_code, const_code}
use Rattle.scalar_words.proofs.LayoutStates.{wrote, wrote_same, wrote_other, wrote_sized, wrote_shaped, frame_of, Assigned}
use Rattle.scalar_words.proofs.WordsRuns.{Gets}

-- labels after a constant
module _ (D : Laid) where
  pub word_back : (o : Option Listed) (rest : List DraftEntry) → Resolves D (word_code o rest) → Resolves D rest
  word_back None rest h = h
  word_back (Some i) rest h = h

  start_back : (o : Bool) (d h p : ℕ) (rest : List DraftEntry) → Resolves D (start_code o d h p rest) → Resolves D rest
  start_back true d h p rest r = r
  start_back false d h p rest r = r

  filled_back : (e0 e1 e2 e3 o : Bool) (d h0 h1 h2 h3 : ℕ) (rest : List DraftEntry) → Resolves D (filled_code e0 e1 e2 e3 o d h0 h1 h2 h3 rest) → Resolves D rest
  filled_back false e1 e2 e3 o d h0 h1 h2 h3 rest h = word_back (half_word d (filler o) h3 3) rest (word_back (half_word d (filler o) h2 2) _ (word_back (half_word d (filler o) h1 1) _ (start_back o d h0 0 _ h)))
  filled_back true false e2 e3 o d h0 h1 h2 h3 rest h = word_back (half_word d (filler o) h3 3) rest (word_back (half_word d (filler o) h2 2) _ (start_back o d h1 1 _ h))
  filled_back true true false e3 o d h0 h1 h2 h3 rest h = word_back (half_word d (filler o) h3 3) rest (start_back o d h2 2 _ h)
  filled_back true true true false o d h0 h1 h2 h3 rest h = start_back o d h3 3 rest h
  filled_back true true true true o d h0 h1 h2 h3 rest h = start_back o d h0 0 rest h

  halves_back : (o : Bool) (d h0 h1 h2 h3 : ℕ) (rest : List DraftEntry) → Resolves D (halves_code o d h0 h1 h2 h3 rest) → Resolves D rest
  halves_back o d h0 h1 h2 h3 rest h = filled_back (nat_eq h0 (filler o)) (nat_eq h1 (filler o)) (nat_eq h2 (filler o)) (nat_eq h3 (filler o)) o d h0 h1 h2 h3 rest h

  pub const_back : (d n : ℕ) (rest : List DraftEntry) → Resolves D (const_code d n rest) → Resolves D rest
  const_back d n rest h =
      halves_back (has_ones (n % 65536) (n / 65536 % 65536) (n / 4294967296 % 65536) (n / 281474976710656 % 65536)) d (n % 65536) (n / 65536 % 65536) (n / 4294967296 % 65536) (n / 281474976710656 % 65536) rest h

-- a number in a register, and every other register as it was
pub record Fills (D : Laid) (c : List DraftEntry) (s : State) (rest : List DraftEntry) (d n most : ℕ) : Type 0 where
  pub end : State
  pub goes : Goes D c s rest end most
  pub value : x_at end d ≡ n
  pub others : (r : ℕ) → r ≢ d → x_at end r ≡ x_at s r
  pub sized : length end.x ≡ length s.x
  pub memory : end.memory ≡ s.memory
  pub frame : frame_of end ≡ frame_of s
  pub shaped : IsState s → IsState end

-- a word of four halves
abbrev four : ℕ → ℕ → ℕ → ℕ → ℕ
four a b c e = a + b * 65536 + c * 4294967296 + e * 281474976710656

four_below : (a b c e : ℕ) → a < 65536 → b < 65536 → c < 65536 → e < 65536 → four a b c e < 2 ^ 64
four_below a b c e ha hb hc he = omega (arith, ha, hb, hc, he)

put_1 : (a b c e x : ℕ) → a < 65536 → b < 65536 → replaced (four a b c e) (16 * 1) x ≡ four a x c e
put_1 a b c e x ha hb = omega (arith, ha, hb)

put_2 : (a b c e x : ℕ) → a < 65536 → b < 65536 → c < 65536 → replaced (four a b c e) (16 * 2) x ≡ four a b x e
put_2 a b c e x ha hb hc = omega (arith, ha, hb, hc)

put_3 : (a b c e x : ℕ) → a < 65536 → b < 65536 → c < 65536 → e < 65536 → replaced (four a b c e) (16 * 3) x ≡ four a b c x
put_3 a b c e x ha hb hc he = omega (arith, ha, hb, hc, he)

filler_below : (o : Bool) → filler o < 65536
filler_below true = omega arith
filler_below false = omega arith

module _ (D : Laid) (d : ℕ) (low : d < 31) where
  after : {c c2 rest : List DraftEntry} {s : State} {n n2 m m2 : ℕ} (most : ℕ) → m + m2 ≤ most → (f : Fills D c s c2 d n m) → Fills D c2 f.end rest d n2 m2 → Fills D c s rest d n2 most
  after most le f g = record {
    end = g.end;
    goes = chain most le f.goes g.goes;
    value = g.value;
    others = λ r ne. g.others r ne ∙ f.others r ne;
    sized = g.sized ∙ f.sized;
    memory = g.memory ∙ f.memory;
    frame = g.frame ∙ f.frame;
    shaped = λ h. g.shaped (f.shaped h);
  }

  -- the first word
  start_code_fills : (o : Bool) (h p n : ℕ) (s : State) (rest : List DraftEntry) → length s.x ≡ 31 → (if o then inverted ((65535 - h) * 2 ^ (16 * p)) else h * 2 ^ (16 * p)) ≡ n → n < 2 ^ 64 → Fills D (start_code o d h p rest) s rest d n 1
  start_code_fills true h p n s rest size e small =
      let v = inverted ((65535 - h) * 2 ^ (16 * p)) in
      record { end = wrote s d v; goes = put_goes refl; value = wrote_same s d v (omega (arith, low, size)) ∙ e; others = λ r ne. wrote_other s d v r ne; sized = wrote_sized s d v; memory = refl; frame = refl; shaped = λ h. wrote_shaped s d v (omega (arith, e, small)) h }
  start_code_fills false h p n s rest size e small =
      let v = h * 2 ^ (16 * p) in
      record { end = wrote s d v; goes = put_goes refl; value = wrote_same s d v (omega (arith, low, size)) ∙ e; others = λ r ne. wrote_other s d v r ne; sized = wrote_sized s d v; memory = refl; frame = refl; shaped = λ h. wrote_shaped s d v (omega (arith, e, small)) h }

  -- a further half, where it is not there
  module _ (f h p n n2 : ℕ) (s : State) (rest : List DraftEntry) (size : length s.x ≡ 31) (is : x_at s d ≡ n) (e : replaced n (16 * p) h ≡ n2) (same : h ≡ f → n ≡ n2) (small : n2 < 2 ^ 64) where
    further : Fills D (word_code (half_word d f h p) rest) s rest d n2 1
    further = by (nat_eq h f) refl
      where
        by : (b : Bool) → nat_eq h f ≡ b → Fills D (word_code (half_word d f h p) rest) s rest d n2 1
        by true q = rw q (record { end = s; goes = stay 1; value = is ∙ same (eqb-true h f q); others = λ r ne. refl; sized = refl; memory = refl; frame = refl; shaped = λ h. h })
        by false q =
            let v = replaced (x_at s d) (16 * p) h in
            let w : v ≡ n2 = ap (λ n. replaced n (16 * p) h) is ∙ e in
            rw q (record { end = wrote s d v; goes = put_goes refl; value = wrote_same s d v (omega (arith, low, size)) ∙ w; others = λ r ne. wrote_other s d v r ne; sized = wrote_sized s d v; memory = refl; frame = refl; shaped = λ h. wrote_shaped s d v (omega (arith, w, small)) h })

  module _ (o : Bool) (h0 h1 h2 h3 : ℕ) (b0 : h0 < 65536) (b1 : h1 < 65536) (b2 : h2 < 65536) (b3 : h3 < 65536) (rest : List DraftEntry) where
    abbrev f : ℕ
    f = filler o

    bf : f < 65536
    bf = filler_below o

    last : (s : State) (a b c e : ℕ) → length s.x ≡ 31 → x_at s d ≡ four a b c e → a < 65536 → b < 65536 → c < 65536 → e ≡ f → Fills D (word_code (half_word d f h3 3) rest) s rest d (four a b c h3) 1
    last s a b c e size is ha hb hc q =
        further f h3 3 (four a b c e) (four a b c h3) s rest size is (put_3 a b c e h3 ha hb hc (omega (arith, q, bf))) (λ r. ap (λ x. four a b c x) (q ∙ sym r)) (four_below a b c h3 ha hb hc b3)

    last_two : (s : State) (a b c e : ℕ) → length s.x ≡ 31 → x_at s d ≡ four a b c e → a < 65536 → b < 65536 → c ≡ f → e ≡ f → Fills D (word_code (half_word d f h2 2) (word_code (half_word d f h3 3) rest)) s rest d (four a b h2 h3) 2
    last_two s a b c e size is ha hb p q =
        let k = further f h2 2 (four a b c e) (four a b h2 e) s (word_code (half_word d f h3 3) rest) size is (put_2 a b c e h2 ha hb (omega (arith, p, bf))) (λ r. ap (λ x. four a b x e) (p ∙ sym r)) (four_below a b h2 e ha hb b2 (omega (arith, q, bf))) in
        after 2 (omega arith) k (last k.end a b h2 e (k.sized ∙ size) k.value ha hb b2 q)

    last_three : (s : State) (a b c e : ℕ) → length s.x ≡ 31 → x_at s d ≡ four a b c e → a < 65536 → b ≡ f → c ≡ f → e ≡ f → Fills D (word_code (half_word d f h1 1) (word_code (half_word d f h2 2) (word_code (half_word d f h3 3) rest))) s rest d (four a h1 h2 h3) 3
    last_three s a b c e size is ha n p q =
        let k = further f h1 1 (four a b c e) (four a h1 c e) s (word_code (half_word d f h2 2) (word_code (half_word d f h3 3) rest)) size is (put_1 a b c e h1 ha (omega (arith, n, bf))) (λ r. ap (λ x. four a x c e) (n ∙ sym r)) (four_below a h1 c e ha b1 (omega (arith, p, bf)) (omega (arith, q, bf))) in
        after 3 (omega arith) k (last_two k.end a h1 c e (k.sized ∙ size) k.value ha b1 p q)

  -- the first word by the place of its half
  start_0 : (o : Bool) (h : ℕ) → h < 65536 → (if o then inverted ((65535 - h) * 2 ^ (16 * 0)) else h * 2 ^ (16 * 0)) ≡ four h (filler o) (filler o) (filler o)
  start_0 true h b = omega (arith, b)
  start_0 false h b = omega arith

  start_1 : (o : Bool) (h : ℕ) → h < 65536 → (if o then inverted ((65535 - h) * 2 ^ (16 * 1)) else h * 2 ^ (16 * 1)) ≡ four (filler o) h (filler o) (filler o)
  start_1 true h b = omega (arith, b)
  start_1 false h b = omega arith

  start_2 : (o : Bool) (h : ℕ) → h < 65536 → (if o then inverted ((65535 - h) * 2 ^ (16 * 2)) else h * 2 ^ (16 * 2)) ≡ four (filler o) (filler o) h (filler o)
  start_2 true h b = omega (arith, b)
  start_2 false h b = omega arith

  start_3 : (o : Bool) (h : ℕ) → h < 65536 → (if o then inverted ((65535 - h) * 2 ^ (16 * 3)) else h * 2 ^ (16 * 3)) ≡ four (filler o) (filler o) (filler o) h
  start_3 true h b = omega (arith, b)
  start_3 false h b = omega arith

  module _ (o : Bool) (h0 h1 h2 h3 : ℕ) (b0 : h0 < 65536) (b1 : h1 < 65536) (b2 : h2 < 65536) (b3 : h3 < 65536) (s : State) (rest : List DraftEntry) (size : length s.x ≡ 31) where
    abbrev g : ℕ
    g = filler o

    bg : g < 65536
    bg = filler_below o

    constant_filled_by_halves : (e0 e1 e2 e3 : Bool) → nat_eq h0 g ≡ e0 → nat_eq h1 g ≡ e1 → nat_eq h2 g ≡ e2 → nat_eq h3 g ≡ e3 → Fills D (filled_code e0 e1 e2 e3 o d h0 h1 h2 h3 rest) s rest d (four h0 h1 h2 h3) 4
    constant_filled_by_halves false e1 e2 e3 q0 q1 q2 q3 =
        let k = start_code_fills o h0 0 (four h0 g g g) s _ size (start_0 o h0 b0) (four_below h0 g g g b0 bg bg bg) in
        after 4 (omega arith) k (last_three o h0 h1 h2 h3 b0 b1 b2 b3 rest k.end h0 g g g (k.sized ∙ size) k.value b0 refl refl refl)
    constant_filled_by_halves true false e2 e3 q0 q1 q2 q3 =
        let k = start_code_fills o h1 1 (four h0 h1 g g) s _ size (start_1 o h1 b1 ∙ ap (λ x. four x h1 g g) (sym (eqb-true h0 g q0))) (four_below h0 h1 g g b0 b1 bg bg) in
        after 4 (omega arith) k (last_two o h0 h1 h2 h3 b0 b1 b2 b3 rest k.end h0 h1 g g (k.sized ∙ size) k.value b0 b1 refl refl)
    constant_filled_by_halves true true false e3 q0 q1 q2 q3 =
        let z0 = eqb-true h0 g q0 in
        let z1 = eqb-true h1 g q1 in
        let k = start_code_fills o h2 2 (four h0 h1 h2 g) s _ size (start_2 o h2 b2 ∙ ap₂ (λ x y. four x y h2 g) (sym z0) (sym z1)) (four_below h0 h1 h2 g b0 b1 b2 bg) in
        after 4 (omega arith) k (last o h0 h1 h2 h3 b0 b1 b2 b3 rest k.end h0 h1 h2 g (k.sized ∙ size) k.value b0 b1 b2 refl)
    constant_filled_by_halves true true true false q0 q1 q2 q3 =
        let z0 = eqb-true h0 g q0 in
        let z1 = eqb-true h1 g q1 in
        let z2 = eqb-true h2 g q2 in
        let k = start_code_fills o h3 3 (four h0 h1 h2 h3) s rest size (start_3 o h3 b3 ∙ ap₂ (λ x y. four x y g h3) (sym z0) (sym z1) ∙ ap (λ x. four h0 h1 x h3) (sym z2)) (four_below h0 h1 h2 h3 b0 b1 b2 b3) in
        record { end = k.end; goes = go_more 4 (omega arith) k.goes; value = k.value; others = k.others; sized = k.sized; memory = k.memory; frame = k.frame; shaped = k.shaped }
    constant_filled_by_halves true true true true q0 q1 q2 q3 =
        let z1 = eqb-true h1 g q1 in
        let z2 = eqb-true h2 g q2 in
        let z3 = eqb-true h3 g q3 in
        let k = start_code_fills o h0 0 (four h0 h1 h2 h3) s rest size (start_0 o h0 b0 ∙ ap₂ (λ x y. four h0 x y g) (sym z1) (sym z2) ∙ ap (λ x. four h0 h1 h2 x) (sym z3)) (four_below h0 h1 h2 h3 b0 b1 b2 b3) in
        record { end = k.end; goes = go_more 4 (omega arith) k.goes; value = k.value; others = k.others; sized = k.sized; memory = k.memory; frame = k.frame; shaped = k.shaped }

  halves_whole : (n : ℕ) → n < 2 ^ 64 → four (n % 65536) (n / 65536 % 65536) (n / 4294967296 % 65536) (n / 281474976710656 % 65536) ≡ n
  halves_whole n h = omega (arith, h)

  -- a constant
  pub const_fills : (n : ℕ) (s : State) (rest : List DraftEntry) → length s.x ≡ 31 → n < 2 ^ 64 → Fills D (const_code d n rest) s rest d n 4
  const_fills n s rest size small =
      let h0 = n % 65536 in
      let h1 = n / 65536 % 65536 in
      let h2 = n / 4294967296 % 65536 in
      let h3 = n / 281474976710656 % 65536 in
      let o = has_ones h0 h1 h2 h3 in
      let k = constant_filled_by_halves o h0 h1 h2 h3 (omega arith) (omega arith) (omega arith) (omega arith) s rest size (nat_eq h0 (filler o)) (nat_eq h1 (filler o)) (nat_eq h2 (filler o)) (nat_eq h3 (filler o)) refl refl refl refl in
      record { end = k.end; goes = k.goes; value = k.value ∙ halves_whole n small; others = k.others; sized = k.sized; memory = k.memory; frame = k.frame; shaped = k.shaped }

pub const_runs : (D : Laid) (L : Layout) (fit : Assigned L) {rest : List DraftEntry} {s : State} (p n : ℕ) (z : ℤ) (b e : ℕ) → length s.x ≡ 31 → b ≤ p → p < e → IsMade L p → n ≡ word z → Gets D L (const_code (reg_of L p) n rest) s rest b e (reg_of L p) z 4
const_runs D L fit {rest = rest} {s = s} p n z b e sized le lt made is =
    let hi = fit.high p made in
    let k = const_fills D (reg_of L p) (omega (arith, hi)) n s rest sized (let h = word-below z in omega (arith, h, is)) in
    record {
      end = k.end;
      goes = k.goes;
      kept = record { memory = k.memory; sized = k.sized; frame = k.frame; others = λ r hi h. k.others r (λ q. h p le lt made (sym q)) };
      value = k.value ∙ is;
    }
