-- An accumulator after the iterations of a chunk, by what its lanes have taken in.
use Rattle.std.proofs.Common.{◌≡◌, ℕ, zero, suc, ◌+◌, ◌-◌, ◌<◌, ◌≤◌, ℤ, Bool, true, false, List, refl, sym, ap, ap₂, ◌∙◌, subst, arith, ⊎_elim}
use Rattle.std.specs.Prelude.{nat_lt, if◌then◌else◌}
use Rattle.std.specs.List.{list_any}
use Rattle.std.proofs.lemmas.Bool.{cases_lt, lt-ltb, le-ltb}
use Rattle.kernel_tree.specs.declared.ops.Ty.{Ty}
use Rattle.kernel_tree.specs.declared.ops.UpdateOp.{UpdateOp}
use Rattle.kernel_meaning.specs.Eval.{Names, is_named, value_at}
use Rattle.vector_order.specs.Orders.{Lane}
use Rattle.vector_order.specs.Shares.{apply_lanes}
use Rattle.lane_emit.specs.Right.{IsOf}
use Rattle.lane_emit.specs.Joins.{joined, identity, Joins}
use Rattle.lane_emit.specs.Folds.{after_all, taken, together, AreOf, given_to, ShareAlike}
use Rattle.lane_emit.proofs.JoinLaws.{joins}
use Rattle.lane_emit.proofs.FoldOrders.{after_of, taken_of, together_of, after_split, chunk_taken}
use Rattle.lane_emit.proofs.FoldShares.{accumulator_law}

module _ (op : UpdateOp) (t : Ty) where
  law : Joins op t
  law = joins op t

  nothing_more : (v : ℤ) → IsOf t v → joined op t v (identity op t) ≡ v
  nothing_more v h = law.commutes v (identity op t) ∙ law.keeps v h

  pub together_same : (n : ℕ) (f g : ℕ → ℤ) → ((e : ℕ) → e < n → f e ≡ g e) → together op t n f ≡ together op t n g
  together_same zero f g h = refl
  together_same (suc n) f g h = ap₂ (joined op t) (together_same n f g (λ e lt. h e (omega (arith, lt)))) (h n (omega arith))

  -- of n elements the first k take in some values more
  abbrev pub taking : (k : ℕ) → (ℕ → List ℤ) → (ℕ → ℤ) → ℕ → ℤ
  taking k given sum e = if nat_lt e k then after_all op t (sum e) (given e) else sum e

  pub taking_of : (k : ℕ) (given : ℕ → List ℤ) (sum : ℕ → ℤ) (e : ℕ) → IsOf t (sum e) → IsOf t (taking k given sum e)
  taking_of k given sum e h = by (nat_lt e k)
    where
      by : (b : Bool) → IsOf t (if b then after_all op t (sum e) (given e) else sum e)
      by true = after_of op t (sum e) (given e) h
      by false = h

  -- what element e takes in more
  abbrev gift : (k : ℕ) → (ℕ → List ℤ) → ℕ → ℤ
  gift k given e = if nat_lt e k then taken op t (given e) else identity op t

  gift_of : (k : ℕ) (given : ℕ → List ℤ) (e : ℕ) → IsOf t (gift k given e)
  gift_of k given e = by (nat_lt e k)
    where
      by : (b : Bool) → IsOf t (if b then taken op t (given e) else identity op t)
      by true = taken_of op t (given e)
      by false = law.neutral

  taking_is : (k : ℕ) (given : ℕ → List ℤ) (sum : ℕ → ℤ) (e : ℕ) → IsOf t (sum e) → (e < k → AreOf t (given e)) → taking k given sum e ≡ joined op t (sum e) (gift k given e)
  taking_is k given sum e h a =
      ⊎_elim
      (λ lt.
      let low = lt-ltb e k lt in
      ap (λ b. if b then after_all op t (sum e) (given e) else sum e) low ∙ after_split op t (sum e) (given e) h (a lt) ∙ sym (ap (λ b. joined op t (sum e) (if b then taken op t (given e) else identity op t)) low))
      (λ ge.
      let high = le-ltb e k ge in
      ap (λ b. if b then after_all op t (sum e) (given e) else sum e) high ∙ sym (nothing_more (sum e) h) ∙ sym (ap (λ b. joined op t (sum e) (if b then taken op t (given e) else identity op t)) high))
      (cases_lt e k)

  -- elements past the first k take in nothing
  gifts_past : (more k : ℕ) (given : ℕ → List ℤ) → together op t (k + more) (gift k given) ≡ together op t k (gift k given)
  gifts_past zero k given = ap (λ n. together op t n (gift k given)) (let e : k + 0 ≡ k = omega arith in e)
  gifts_past (suc more) k given =
      let next : k + suc more ≡ suc (k + more) = omega arith in
      ap (λ n. together op t n (gift k given)) next
      ∙ ap (λ b. joined op t (together op t (k + more) (gift k given)) (if b then taken op t (given (k + more)) else identity op t)) (le-ltb (k + more) k (omega arith))
      ∙ nothing_more (together op t (k + more) (gift k given)) (together_of op t (k + more) (gift k given))
      ∙ gifts_past more k given

  gifts : (n k : ℕ) (given : ℕ → List ℤ) → k ≤ n → together op t n (gift k given) ≡ together op t k (λ e. taken op t (given e))
  gifts n k given le =
      let whole : n ≡ k + (n - k) = omega arith in
      ap (λ m. together op t m (gift k given)) whole ∙ gifts_past (n - k) k given
      ∙ together_same k (gift k given) (λ e. taken op t (given e)) (λ e lt. ap (λ b. if b then taken op t (given e) else identity op t) (lt-ltb e k lt))

  -- n elements together, of which the first k took in more
  pub together_taking : (n k : ℕ) (given : ℕ → List ℤ) (sum : ℕ → ℤ) → k ≤ n → ((e : ℕ) → e < n → IsOf t (sum e)) → ((e : ℕ) → e < k → AreOf t (given e))
      → together op t n (taking k given sum) ≡ joined op t (together op t n sum) (together op t k (λ e. taken op t (given e)))
  together_taking n k given sum le h a =
      together_same n (taking k given sum) (λ e. joined op t (sum e) (gift k given e)) (λ e lt. taking_is k given sum e (h e lt) (a e))
      ∙ chunk_taken op t n sum (gift k given) (λ e lt. (h e lt, gift_of k given e))
      ∙ ap (joined op t (together op t n sum)) (gifts n k given le)

  -- The value of an accumulator, which began at `first`, after k lanes from iteration i on.
  pub sum_after : (x : List ℕ) (n k i : ℕ) (lane : ℕ → Lane) (cur : Names) (first : ℤ) (sum : ℕ → ℤ) → k ≤ n → list_any (is_named x) cur ≡ true → IsOf t first → ((e : ℕ) → e < n → IsOf t (sum e)) → value_at cur x ≡ joined op t first (together op t n sum)
      → ((e : ℕ) → e < k → ShareAlike x op t (lane (i + e)).shares × AreOf t (given_to x (lane (i + e)).shares))
      → value_at (apply_lanes k i lane cur) x ≡ joined op t first (together op t n (taking k (λ e. given_to x (lane (i + e)).shares) sum))
  sum_after x n k i lane cur first sum le named of h now a =
      let given = λ (e : ℕ). given_to x (lane (i + e)).shares in
      let rest = together op t k (λ e. taken op t (given e)) in
      let here : (j : ℕ) → i ≤ j → j < i + k → ShareAlike x op t (lane j).shares × AreOf t (given_to x (lane j).shares) = λ j lo hi.
      let place : i + (j - i) ≡ j = omega (arith, lo) in
      subst (λ j. ShareAlike x op t (lane j).shares × AreOf t (given_to x (lane j).shares)) place (a (j - i) (omega (arith, lo, hi))) in
      accumulator_law x op t k i lane cur named (subst (IsOf t) (sym now) (law.closed first (together op t n sum))) here
      ∙ ap (λ v. joined op t v rest) now
      ∙ law.associates first (together op t n sum) rest of (together_of op t n sum) (together_of op t k (λ e. taken op t (given e)))
      ∙ ap (joined op t first) (sym (together_taking n k given sum le h (λ e lt. (a e lt).1)))
