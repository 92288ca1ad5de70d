-- Folds of operations that can be regrouped.
use Rattle.std.proofs.Common.{◌≡◌, ℕ, zero, suc, ◌+◌, ◌-◌, ◌*◌, ◌/◌, ◌^◌, ◌<◌, ◌≤◌, List, [], ◌∷◌, max, min, length, get_or, bit_and, bit_or, refl, sym, ap, ap₂, ◌∙◌, subst, arith}
use Rattle.std.proofs.lemmas.Bool.{cond_both, cond-false, le-ltb, ltb-true, ltb-false}
use Rattle.std.proofs.lemmas.Nat.{and_le_l, and_comm, and_assoc, and_mask, or_comm, xor_comm}
use Rattle.std.specs.Int.{bit_at}
use Rattle.std.proofs.lemmas.Nat.Bits.{bit_at_or, same_from_bits}
use Rattle.std.specs.Int.Bits.{xor_assoc, or_zero_r, xor_zero_r}
use Rattle.std.proofs.Math.Nat.{mod-lt, mod-eq_of_lt, mul-suc, mul-zero, add-suc, add-zero}
use lib.Lanes.{fold_l}
use Rattle.guest_types.specs.declared.length.Width.{Width}
use Rattle.guest_types.specs.declared.length.Width.TheVariants.{B, H, S, D}
use Rattle.guest_types.specs.declared.operation.ReduceOp.{ReduceOp}
use Rattle.guest_types.specs.declared.operation.ReduceOp.TheVariants.{UAdd, SMax, UMax, SMin, UMin, Or, Xor, And}
use Rattle.guest_types.specs.Length.{modulus}
use Rattle.guest_types.specs.Lanes.{biased, signed_lt, folded, joined, identity, fold_limit}
use Rattle.guest_types.proofs.Folds.{folded-none}
use Rattle.guest_types.proofs.Shifts.{or-below, xor-below}

-- an operation of the numbers below m, with a number that changes nothing
pub record Joins (op : ℕ → ℕ → ℕ) (start m : ℕ) : Type 0 where
  pub inside : start < m
  pub closed : (a b : ℕ) → a < m → b < m → op a b < m
  pub comm : (a b : ℕ) → a < m → b < m → op a b ≡ op b a
  pub assoc : (a b c : ℕ) → a < m → b < m → c < m → op (op a b) c ≡ op a (op b c)
  pub unit : (a : ℕ) → a < m → op a start ≡ a

pub folded-suc : (op : ℕ → ℕ → ℕ) (start : ℕ) (f : ℕ → ℕ) (n : ℕ) → folded op start f (suc n) ≡ op (folded op start f n) (f n)
unfolding folded
folded-suc op start f n = refl

pub folded-ext : (op : ℕ → ℕ → ℕ) (start : ℕ) (f g : ℕ → ℕ) (n : ℕ) → ((e : ℕ) → e < n → f e ≡ g e) → folded op start f n ≡ folded op start g n
folded-ext op start f g zero same = folded-none op start f ∙ sym (folded-none op start g)
folded-ext op start f g (suc n) same =
    folded-suc op start f n ∙ ap₂ op (folded-ext op start f g n (λ e l. same e (omega arith))) (same n (omega arith)) ∙ sym (folded-suc op start g n)

module _ (op : ℕ → ℕ → ℕ) (start m : ℕ) (joins : Joins op start m) where
  pub folded-below : (f : ℕ → ℕ) (n : ℕ) → ((e : ℕ) → f e < m) → folded op start f n < m
  folded-below f zero small = subst (λ x. x < m) (sym (folded-none op start f)) joins.inside
  folded-below f (suc n) small =
      subst (λ x. x < m) (sym (folded-suc op start f n)) (joins.closed (folded op start f n) (f n) (folded-below f n small) (small n))

  swap : (a b c d : ℕ) → a < m → b < m → c < m → d < m → op (op a b) (op c d) ≡ op (op a c) (op b d)
  swap a b c d pa pb pc pd =
      joins.assoc a b (op c d) pa pb (joins.closed c d pc pd)
      ∙ ap (op a) (sym (joins.assoc b c d pb pc pd) ∙ ap (λ x. op x d) (joins.comm b c pb pc) ∙ joins.assoc c b d pc pb pd)
      ∙ sym (joins.assoc a c (op b d) pa pc (joins.closed b d pb pd))

  pub folded-zip : (f g : ℕ → ℕ) (n : ℕ) → ((e : ℕ) → f e < m) → ((e : ℕ) → g e < m) → folded op start (λ e. op (f e) (g e)) n ≡ op (folded op start f n) (folded op start g n)
  folded-zip f g zero sf sg =
      folded-none op start (λ e. op (f e) (g e)) ∙ sym (joins.unit start joins.inside) ∙ sym (ap₂ op (folded-none op start f) (folded-none op start g))
  folded-zip f g (suc n) sf sg =
      folded-suc op start (λ e. op (f e) (g e)) n ∙ ap (λ x. op x (op (f n) (g n))) (folded-zip f g n sf sg)
      ∙ swap (folded op start f n) (folded op start g n) (f n) (g n) (folded-below f n sf) (folded-below g n sg) (sf n) (sg n)
      ∙ sym (ap₂ op (folded-suc op start f n) (folded-suc op start g n))

  pub folded-split : (f : ℕ → ℕ) (a b : ℕ) → ((e : ℕ) → f e < m) → folded op start f (a + b) ≡ op (folded op start f a) (folded op start (λ e. f (a + e)) b)
  folded-split f a zero small =
      ap (folded op start f) (add-zero a) ∙ sym (joins.unit (folded op start f a) (folded-below f a small)) ∙ ap (op (folded op start f a)) (sym (folded-none op start (λ e. f (a + e))))
  folded-split f a (suc b) small =
      ap (folded op start f) (add-suc a b) ∙ folded-suc op start f (a + b) ∙ ap (λ x. op x (f (a + b))) (folded-split f a b small)
      ∙ joins.assoc (folded op start f a) (folded op start (λ e. f (a + e)) b) (f (a + b)) (folded-below f a small) (folded-below (λ e. f (a + e)) b (λ e. small (a + e))) (small (a + b))
      ∙ ap (op (folded op start f a)) (sym (folded-suc op start (λ e. f (a + e)) b))

  -- numbers that change nothing need not be folded
  pub folded-tail : (f : ℕ → ℕ) (n d : ℕ) → ((e : ℕ) → f e < m) → ((e : ℕ) → n ≤ e → e < n + d → f e ≡ start) → folded op start f (n + d) ≡ folded op start f n
  folded-tail f n zero small none = ap (folded op start f) (add-zero n)
  folded-tail f n (suc d) small none =
      ap (folded op start f) (add-suc n d) ∙ folded-suc op start f (n + d) ∙ ap (op (folded op start f (n + d))) (none (n + d) (omega arith) (omega arith))
      ∙ joins.unit (folded op start f (n + d)) (folded-below f (n + d) small) ∙ folded-tail f n d small (λ e a b. none e a (omega arith))

  -- the partial result at place e of blocks of q, after b blocks
  pub folded-partials : (f : ℕ → ℕ) (q b : ℕ) → ((e : ℕ) → f e < m) → folded op start (λ e. folded op start (λ j. f (q * j + e)) b) q ≡ folded op start f (q * b)
  folded-partials f q zero small =
      folded-ext op start (λ e. folded op start (λ j. f (q * j + e)) 0) (λ e. start) q (λ e l. folded-none op start (λ j. f (q * j + e)))
      ∙ (ap (λ n. folded op start (λ e. start) n) (let same : q ≡ 0 + q = omega arith in same) ∙ folded-tail (λ e. start) 0 q (λ e. joins.inside) (λ e a l. refl) ∙ folded-none op start (λ e. start))
      ∙ sym (ap (folded op start f) (let none : q * 0 ≡ 0 = mul-zero q in none) ∙ folded-none op start f)
  folded-partials f q (suc b) small =
      let before : ℕ → ℕ = λ e. folded op start (λ j. f (q * j + e)) b in
      folded-ext op start (λ e. folded op start (λ j. f (q * j + e)) (suc b)) (λ e. op (before e) (f (q * b + e))) q (λ e l. folded-suc op start (λ j. f (q * j + e)) b)
      ∙ folded-zip before (λ e. f (q * b + e)) q (λ e. folded-below (λ j. f (q * j + e)) b (λ j. small (q * j + e))) (λ e. small (q * b + e))
      ∙ ap (λ x. op x (folded op start (λ e. f (q * b + e)) q)) (folded-partials f q b small)
      ∙ sym (ap (folded op start f) (mul-suc q b) ∙ folded-split f (q * b) q small)

-- ---- a fold from the front

pub folded-front : (op : ℕ → ℕ → ℕ) (start : ℕ) (f : ℕ → ℕ) (n : ℕ) → folded op start f (suc n) ≡ folded op (op start (f 0)) (λ e. f (suc e)) n
folded-front op start f zero = folded-suc op start f 0 ∙ ap (λ x. op x (f 0)) (folded-none op start f) ∙ sym (folded-none op (op start (f 0)) (λ e. f (suc e)))
folded-front op start f (suc n) =
    folded-suc op start f (suc n) ∙ ap (λ x. op x (f (suc n))) (folded-front op start f n) ∙ sym (folded-suc op (op start (f 0)) (λ e. f (suc e)) n)

pub folded-list : (op : ℕ → ℕ → ℕ) (start : ℕ) (xs : List ℕ) → fold_l op start xs ≡ folded op start (λ e. get_or xs e 0) (length xs)
folded-list op start [] = sym (folded-none op start (λ e. get_or {A = ℕ} [] e 0))
folded-list op start (x ∷ xs) =
    folded-list op (op start x) xs ∙ sym (folded-front op start (λ e. get_or (x ∷ xs) e 0) (length xs))

-- ---- the reductions

sums : Joins (joined UAdd (2 ^ 64)) 0 (2 ^ 64)
sums = record {
  inside = omega arith;
  closed = λ a b p q. mod-lt (a + b) (omega arith);
  comm = λ a b p q. omega arith;
  assoc = λ a b c p q r. omega arith;
  unit = λ a p. omega arith;
}

-- operations that pick by a key
keyed : (op f : ℕ → ℕ → ℕ) (key : ℕ → ℕ) (start m : ℕ) → start < m → ((a b : ℕ) → a < m → b < m → op a b < m) → ((a b : ℕ) → a < m → b < m → key a ≡ key b → a ≡ b)
    → ((a b : ℕ) → key (op a b) ≡ f (key a) (key b)) → ((a b : ℕ) → f a b ≡ f b a) → ((a b c : ℕ) → f (f a b) c ≡ f a (f b c)) → ((a : ℕ) → a < m → op a start ≡ a) → Joins op start m
keyed op f key start m inside closed same pick comm assoc unit = record {
  inside = inside;
  closed = closed;
  comm = λ a b p q. same (op a b) (op b a) (closed a b p q) (closed b a q p) (pick a b ∙ comm (key a) (key b) ∙ sym (pick b a));
  assoc = λ a b c p q r.
      same (op (op a b) c) (op a (op b c)) (closed (op a b) c (closed a b p q) r) (closed a (op b c) p (closed b c q r))
      (pick (op a b) c ∙ ap (λ x. f x (key c)) (pick a b) ∙ assoc (key a) (key b) (key c) ∙ sym (pick a (op b c) ∙ ap (f (key a)) (pick b c)));
  unit = unit;
}

bias-same : (w : Width) (a b : ℕ) → a < modulus w → b < modulus w → biased (modulus w) a ≡ biased (modulus w) b → a ≡ b
bias-same B a b p q e = omega arith
bias-same other a b p q e = omega arith

least-bias : (w : Width) (a : ℕ) → biased (modulus w) (modulus w / 2) ≤ biased (modulus w) a
least-bias B a = omega arith
least-bias other a = omega arith

most-bias : (w : Width) (a : ℕ) → biased (modulus w) a ≤ biased (modulus w) (modulus w / 2 - 1)
most-bias B a = omega arith
most-bias other a = omega arith

start-inside : (w : Width) → (modulus w / 2 < modulus w) × (modulus w / 2 - 1 < modulus w) × (modulus w - 1 < modulus w) × (0 < modulus w)
start-inside B = (omega arith, omega arith, omega arith, omega arith)
start-inside other = (omega arith, omega arith, omega arith, omega arith)

pick-max : (m a b : ℕ) → biased m (joined SMax m a b) ≡ max (biased m a) (biased m b)
pick-max m a b =
    cond_both (signed_lt m a b) b a (λ x. biased m x ≡ max (biased m a) (biased m b)) (λ e. omega (arith, ltb-true (biased m a) (biased m b) e)) (λ e. omega (arith, ltb-false (biased m a) (biased m b) e))

pick-min : (m a b : ℕ) → biased m (joined SMin m a b) ≡ min (biased m a) (biased m b)
pick-min m a b =
    cond_both (signed_lt m a b) a b (λ x. biased m x ≡ min (biased m a) (biased m b)) (λ e. omega (arith, ltb-true (biased m a) (biased m b) e)) (λ e. omega (arith, ltb-false (biased m a) (biased m b) e))

last-ones : (w : Width) (a : ℕ) → a < modulus w → bit_and a (modulus w - 1) ≡ a
last-ones B a p = and_mask a 8 ∙ mod-eq_of_lt p
last-ones H a p = and_mask a 16 ∙ mod-eq_of_lt p
last-ones S a p = and_mask a 32 ∙ mod-eq_of_lt p
last-ones D a p = and_mask a 64 ∙ mod-eq_of_lt p

or-assoc : (a b c : ℕ) → bit_or (bit_or a b) c ≡ bit_or a (bit_or b c)
or-assoc a b c =
    same_from_bits (bit_or (bit_or a b) c) (bit_or a (bit_or b c)) (λ i.
    bit_at_or (bit_or a b) c i ∙ ap (λ x. max x (bit_at c i)) (bit_at_or a b i)
    ∙ (let regrouped : max (max (bit_at a i) (bit_at b i)) (bit_at c i) ≡ max (bit_at a i) (max (bit_at b i) (bit_at c i)) = omega arith in regrouped)
    ∙ sym (bit_at_or a (bit_or b c) i ∙ ap (max (bit_at a i)) (bit_at_or b c i)))

-- each reduction can be regrouped
pub joins-of : (op : ReduceOp) (w : Width) → Joins (joined op (modulus w)) (identity op (modulus w)) (fold_limit op (modulus w))
joins-of UAdd w = sums
joins-of SMax w =
    keyed (joined SMax (modulus w)) max (biased (modulus w)) (modulus w / 2) (modulus w) (start-inside w).0
    (λ a b p q. cond_both (signed_lt (modulus w) a b) b a (λ x. x < modulus w) (λ _. q) (λ _. p)) (bias-same w) (pick-max (modulus w)) (λ a b. omega arith) (λ a b c. omega arith)
    (λ a p. cond-false _ _ _ (le-ltb (biased (modulus w) a) (biased (modulus w) (modulus w / 2)) (least-bias w a)))
joins-of UMax w = record {
  inside = (start-inside w).3;
  closed = λ a b p q. omega arith;
  comm = λ a b p q. omega arith;
  assoc = λ a b c p q r. omega arith;
  unit = λ a p. omega arith;
}
joins-of SMin w =
    let small = (start-inside w).1 in
    let closed : (a b : ℕ) → a < modulus w → b < modulus w → joined SMin (modulus w) a b < modulus w = λ a b p q. cond_both (signed_lt (modulus w) a b) a b (λ x. x < modulus w) (λ _. p) (λ _. q) in
    keyed (joined SMin (modulus w)) min (biased (modulus w)) (modulus w / 2 - 1) (modulus w) small
    closed (bias-same w) (pick-min (modulus w)) (λ a b. omega arith) (λ a b c. omega arith)
    (λ a p. bias-same w (joined SMin (modulus w) a (modulus w / 2 - 1)) a (closed a (modulus w / 2 - 1) p small) p (pick-min (modulus w) a (modulus w / 2 - 1) ∙ omega (arith, most-bias w a)))
joins-of UMin w = record {
  inside = (start-inside w).2;
  closed = λ a b p q. omega arith;
  comm = λ a b p q. omega arith;
  assoc = λ a b c p q r. omega arith;
  unit = λ a p. omega arith;
}
joins-of Or w = record {
  inside = (start-inside w).3;
  closed = or-below w;
  comm = λ a b p q. or_comm a b;
  assoc = λ a b c p q r. or-assoc a b c;
  unit = λ a p. or_zero_r a;
}
joins-of Xor w = record {
  inside = (start-inside w).3;
  closed = xor-below w;
  comm = λ a b p q. xor_comm a b;
  assoc = λ a b c p q r. xor_assoc a b c;
  unit = λ a p. xor_zero_r a;
}
joins-of And w = record {
  inside = (start-inside w).2;
  closed = λ a b p q. omega (arith, and_le_l a b);
  comm = λ a b p q. and_comm a b;
  assoc = λ a b c p q r. and_assoc c a b;
  unit = λ a p. last-ones w a p;
}

-- an element may be joined
pub element-joins : (op : ReduceOp) (w : Width) (a : ℕ) → a < modulus w → a < fold_limit op (modulus w)
element-joins UAdd w a p = wide w a p
  where
    wide : (w : Width) (a : ℕ) → a < modulus w → a < 2 ^ 64
    wide B a p = omega arith
    wide other a p = omega arith
element-joins SMax w a p = p
element-joins other w a p = p

pub identity-element : (op : ReduceOp) (w : Width) → identity op (modulus w) < modulus w
identity-element SMax w = (start-inside w).0
identity-element SMin w = (start-inside w).1
identity-element UMin w = (start-inside w).2
identity-element And w = (start-inside w).2
identity-element other w = (start-inside w).3
