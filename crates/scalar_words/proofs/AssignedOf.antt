-- Registers of intervals are registers of items: what register assignment says.
use Rattle.std.proofs.Common.{◌≡◌, ◌≢◌, ℕ, zero, suc, ◌+◌, ◌<◌, ◌≤◌, Bool, true, false, List, [], ◌∷◌, map, Option, Some, None, refl, sym, ap, ◌∙◌, arith, ⊎_elim}
use Rattle.std.specs.Prelude.{slice_get, slice_index, unwrap_or, nat_lt, if◌then◌else◌}
use Rattle.std.proofs.lemmas.Bool.{cases_lt, lt-ltb, le-ltb, cond-true, cond-false}
use Rattle.reg_assign.specs.declared.interval.RegClass.TheVariants.{X}
use Rattle.reg_assign.specs.declared.interval.Interval.{Interval}
use Rattle.loop_form.specs.Entries.{Entry}
use Rattle.loop_form.specs.Listing.{last_use_in}
use Rattle.loop_form.specs.Needs.{span, spans_of}
use Rattle.loop_form.specs.Numbers.{Numbered}
use Rattle.scalar_words.proofs.LayoutStates.{Assigned}
use Rattle.scalar_words.specs.KernelRegisters.{counted_x, x_last_use, one_reg, regs_from, layout_from}

pub counted-low : (j : ℕ) → 10 ≤ counted_x j
counted-low j = by (nat_lt j 8)
  where
    by : (b : Bool) → 10 ≤ (if b then 10 + j else 11 + j)
    by true = omega arith
    by false = omega arith

pub counted-high : (j : ℕ) → j < 15 → counted_x j ≤ 25
counted-high j h = by (nat_lt j 8)
  where
    by : (b : Bool) → (if b then 10 + j else 11 + j) ≤ 25
    by true = omega arith
    by false = omega arith

pub counted-apart : (i j : ℕ) → i ≢ j → counted_x i ≢ counted_x j
counted-apart i j ne e =
    ⊎_elim
    (λ (a : i < 8). ⊎_elim
    (λ (c : j < 8). ne (let p = cond-true _ (10 + i) (11 + i) (lt-ltb i 8 a) in let q = cond-true _ (10 + j) (11 + j) (lt-ltb j 8 c) in omega (arith, p, q, e)))
    (λ (c : 8 ≤ j). absurd (let p = cond-true _ (10 + i) (11 + i) (lt-ltb i 8 a) in let q = cond-false _ (10 + j) (11 + j) (le-ltb j 8 c) in omega (arith, p, q, e)))
    (cases_lt j 8))
    (λ (a : 8 ≤ i). ⊎_elim
    (λ (c : j < 8). absurd (let p = cond-false _ (10 + i) (11 + i) (le-ltb i 8 a) in let q = cond-true _ (10 + j) (11 + j) (lt-ltb j 8 c) in omega (arith, p, q, e)))
    (λ (c : 8 ≤ j). ne (let p = cond-false _ (10 + i) (11 + i) (le-ltb i 8 a) in let q = cond-false _ (10 + j) (11 + j) (le-ltb j 8 c) in omega (arith, p, q, e)))
    (cases_lt j 8))
    (cases_lt i 8)

-- where an item's value stands among the intervals
pub record Located (R : ℕ → ℕ) (spans : List Interval) (j p last_use reg : ℕ) : Type 0 where
  pub m : ℕ
  pub span : Interval
  pub is : slice_get spans m ≡ Some span
  pub from : span.from ≡ p
  pub last_use' : span.last_use ≡ last_use
  pub register : reg ≡ counted_x (R (j + m))

abbrev span_cons : Option Interval → List Interval → List Interval
span_cons None l = l
span_cons (Some x) l = x ∷ l

located_in : (R : ℕ → ℕ) (all es : List Entry) (e : Entry) (o : Option ℕ) (j b p n : ℕ) → last_use_in X all e ≡ o → e.item ≡ b → p ≡ b + n → p < slice_index (unwrap_or o 0 ∷ map (x_last_use all) es) n
    → ((i n : ℕ) → p ≡ suc b + n → p < slice_index (map (x_last_use all) es) n → Located R (spans_of X all es) i p (slice_index (map (x_last_use all) es) n) (slice_index (regs_from R all i es) n))
    → Located R (spans_of X all (e ∷ es)) j p (slice_index (unwrap_or o 0 ∷ map (x_last_use all) es) n) (slice_index (one_reg R j o (λ n. regs_from R all n es)) n)
located_in R all es e None j b p zero q item at lt more = absurd (omega arith)
located_in R all es e None j b p (suc n) q item at lt more =
    let k = more j n (omega (arith, at)) lt in
    let s : spans_of X all (e ∷ es) ≡ spans_of X all es = ap (λ o. span_cons (span e.item o) (spans_of X all es)) q in
    record { m = k.m; span = k.span; is = ap (λ l. slice_get l k.m) s ∙ k.is; from = k.from; last_use' = k.last_use'; register = k.register }
located_in R all es e (Some u) j b p zero q item at lt more =
    let s : spans_of X all (e ∷ es) ≡ record { from = e.item; last_use = u } ∷ spans_of X all es = ap (λ o. span_cons (span e.item o) (spans_of X all es)) q in
    let z : j ≡ j + 0 = omega arith in
    record { m = 0; span = record { from = e.item; last_use = u }; is = ap (λ l. slice_get l 0) s; from = item ∙ (let f : b ≡ p = omega (arith, at) in f); last_use' = refl; register = ap (λ k. counted_x (R k)) z }
located_in R all es e (Some u) j b p (suc n) q item at lt more =
    let k = more (suc j) n (omega (arith, at)) lt in
    let s : spans_of X all (e ∷ es) ≡ record { from = e.item; last_use = u } ∷ spans_of X all es = ap (λ o. span_cons (span e.item o) (spans_of X all es)) q in
    let z : suc j + k.m ≡ j + suc k.m = omega arith in
    record { m = suc k.m; span = k.span; is = ap (λ l. slice_get l (suc k.m)) s ∙ k.is; from = k.from; last_use' = k.last_use'; register = k.register ∙ ap (λ i. counted_x (R i)) z }

pub located : (R : ℕ → ℕ) (all es : List Entry) (j b p n : ℕ) → Numbered b es → p ≡ b + n → p < slice_index (map (x_last_use all) es) n → Located R (spans_of X all es) j p (slice_index (map (x_last_use all) es) n) (slice_index (regs_from R all j es) n)
located R all [] j b p n h at lt = absurd (omega arith)
located R all (e ∷ es) j b p n h at lt = located_in R all es e (last_use_in X all e) j b p n refl h.0 at lt (λ i k q l. located R all es i (suc b) p k h.1 q l)

-- What register assignment gives of intervals whose first `accs` ones are held throughout: numbers below 15, and different
-- ones for intervals that share an item.
pub record Chosen (R : ℕ → ℕ) (accs : ℕ) (spans : List Interval) : Type 0 where
  pub below : (m : ℕ) (s : Interval) → slice_get spans m ≡ Some s → R (accs + m) < 15
  pub apart : (m n p : ℕ) (s t : Interval) → m ≢ n → slice_get spans m ≡ Some s → slice_get spans n ≡ Some t → s.from ≤ p → p < s.last_use → t.from ≤ p → p < t.last_use → R (accs + m) ≢ R (accs + n)

pub assigned_of : (R : ℕ → ℕ) (accs : ℕ) (all : List Entry) → Numbered 0 all → Chosen R accs (spans_of X all all) → Assigned (layout_from R accs all)
assigned_of R accs all num c = record {
  low = λ p made. let k = located R all all accs 0 p p num (omega arith) made in let r = k.register in let l = counted-low (R (accs + k.m)) in omega (arith, r, l);
  high = λ p made. let k = located R all all accs 0 p p num (omega arith) made in let r = k.register in let l = counted-high (R (accs + k.m)) (c.below k.m k.span k.is) in omega (arith, r, l);
  apart = λ p q lt live made e.
      let k = located R all all accs 0 p p num (omega arith) made in
      let j = located R all all accs 0 q q num (omega arith) (omega arith) in
      let ne : k.m ≢ j.m = (λ f. let same : k.span ≡ j.span = some_same (sym k.is ∙ ap (slice_get (spans_of X all all)) f ∙ j.is) in absurd (let g = ap (λ (s : Interval). s.from) same in let a = k.from in let b = j.from in omega (arith, g, a, b, lt))) in
      counted-apart (R (accs + k.m)) (R (accs + j.m))
      (c.apart k.m j.m p k.span j.span ne k.is j.is (let a = k.from in omega (arith, a)) (let a = k.last_use' in omega (arith, a, made)) (let a = j.from in omega (arith, a, lt)) (let a = j.last_use' in omega (arith, a, live)))
      (sym k.register ∙ e ∙ j.register);
  constants = λ z r e. absurd cc;
}
  where
    some_same : {s t : Interval} → Some s ≡ Some t → s ≡ t
    some_same e = cc
