-- The updates of lanes, applied in iteration order, are what the lanes took in, joined together.
use Rattle.std.proofs.Common.{◌≡◌, ℕ, zero, suc, ◌+◌, ◌<◌, ◌≤◌, ℤ, List, [], ◌∷◌, refl, sym, ap, ap₂, ◌∙◌, arith}
use Rattle.kernel_tree.specs.declared.ops.Ty.{Ty}
use Rattle.kernel_tree.specs.declared.ops.UpdateOp.{UpdateOp}
use Rattle.lane_emit.specs.Right.{IsOf}
use Rattle.lane_emit.specs.Joins.{joined, identity, Joins}
use Rattle.lane_emit.specs.Folds.{after_all, after_lanes, taken, together, AreOf, FoldIsOrdered, ChunkIsTaken}
use Rattle.lane_emit.proofs.JoinLaws.{joins}

module _ (op : UpdateOp) (t : Ty) where
  law : Joins op t
  law = joins op t

  pub after_of : (acc : ℤ) (vs : List ℤ) → IsOf t acc → IsOf t (after_all op t acc vs)
  after_of acc [] h = h
  after_of acc (v ∷ vs) h = after_of (joined op t acc v) vs (law.closed acc v)

  pub taken_of : (vs : List ℤ) → IsOf t (taken op t vs)
  taken_of vs = after_of (identity op t) vs law.neutral

  pub together_of : (n : ℕ) (lane : ℕ → ℤ) → IsOf t (together op t n lane)
  together_of zero lane = law.neutral
  together_of (suc n) lane = law.closed (together op t n lane) (lane n)

  keeps_right : (x : ℤ) → IsOf t x → joined op t x (identity op t) ≡ x
  keeps_right x h = law.commutes x (identity op t) ∙ law.keeps x h

  -- values in order from any start
  pub after_split : (acc : ℤ) (vs : List ℤ) → IsOf t acc → AreOf t vs → after_all op t acc vs ≡ joined op t acc (taken op t vs)
  after_split acc [] h a = sym (keeps_right acc h)
  after_split acc (v ∷ vs) h a =
      let first = law.closed acc v in
      let start : joined op t (identity op t) v ≡ v = law.keeps v a.0 in
      after_split (joined op t acc v) vs first a.1
      ∙ law.associates acc v (taken op t vs) h a.0 (taken_of vs)
      ∙ ap (joined op t acc) (sym (after_split v vs a.0 a.1) ∙ ap (λ s. after_all op t s vs) (sym start))

  -- the first lane apart from the others
  together_first : (n : ℕ) (lane : ℕ → ℤ) → ((e : ℕ) → e < suc n → IsOf t (lane e)) → together op t (suc n) lane ≡ joined op t (lane 0) (together op t n (λ e. lane (1 + e)))
  together_first zero lane h = law.commutes (identity op t) (lane 0)
  together_first (suc n) lane h =
      let rest = λ (e : ℕ). lane (1 + e) in
      let last : lane (suc n) ≡ lane (1 + n) = ap lane (let e : suc n ≡ 1 + n = omega arith in e) in
      ap₂ (joined op t) (together_first n lane (λ e lt. h e (omega (arith, lt)))) last
      ∙ law.associates (lane 0) (together op t n rest) (rest n) (h 0 (omega arith)) (together_of n rest) (h (1 + n) (omega arith))

  together_same : (n : ℕ) (f g : ℕ → ℤ) → ((e : ℕ) → e < n → f e ≡ g e) → together op t n f ≡ together op t n g
  together_same zero f g h = refl
  together_same (suc n) f g h = ap₂ (joined op t) (together_same n f g (λ e lt. h e (omega (arith, lt)))) (h n (omega arith))

  pub fold_ordered : (n i : ℕ) (given : ℕ → List ℤ) (acc : ℤ) → IsOf t acc → ((j : ℕ) → i ≤ j → j < i + n → AreOf t (given j)) → after_lanes op t n i given acc ≡ joined op t acc (together op t n (λ e. taken op t (given (i + e))))
  fold_ordered zero i given acc h a = sym (keeps_right acc h)
  fold_ordered (suc n) i given acc h a =
      let here = a i (omega arith) (omega arith) in
      let lane = λ (e : ℕ). taken op t (given (i + e)) in
      let next = λ (e : ℕ). taken op t (given (i + 1 + e)) in
      let rest : together op t n next ≡ together op t n (λ e. lane (1 + e)) = together_same n next (λ e. lane (1 + e)) (λ e lt. ap (λ j. taken op t (given j)) (let q : i + 1 + e ≡ i + (1 + e) = omega arith in q)) in
      let first : lane 0 ≡ taken op t (given i) = ap (λ j. taken op t (given j)) (let q : i + 0 ≡ i = omega arith in q) in
      fold_ordered n (i + 1) given (after_all op t acc (given i)) (after_of acc (given i) h) (λ j le lt. a j (omega (arith, le)) (omega (arith, lt)))
      ∙ ap₂ (joined op t) (after_split acc (given i) h here) rest
      ∙ law.associates acc (taken op t (given i)) (together op t n (λ e. lane (1 + e))) h (taken_of (given i)) (together_of n (λ e. lane (1 + e)))
      ∙ ap (joined op t acc) (ap (λ v. joined op t v (together op t n (λ e. lane (1 + e)))) (sym first) ∙ sym (together_first n lane (λ e lt. taken_of (given (i + e)))))

  -- two joined pairs
  exchanged : (a b c d : ℤ) → IsOf t a → IsOf t b → IsOf t c → IsOf t d → joined op t (joined op t a b) (joined op t c d) ≡ joined op t (joined op t a c) (joined op t b d)
  exchanged a b c d ha hb hc hd =
      law.associates a b (joined op t c d) ha hb (law.closed c d)
      ∙ ap (joined op t a) (sym (law.associates b c d hb hc hd) ∙ ap (λ v. joined op t v d) (law.commutes b c) ∙ law.associates c b d hc hb hd)
      ∙ sym (law.associates a c (joined op t b d) ha hc (law.closed b d))

  pub chunk_taken : (n : ℕ) (lane given : ℕ → ℤ) → ((e : ℕ) → e < n → IsOf t (lane e) × IsOf t (given e)) → together op t n (λ e. joined op t (lane e) (given e)) ≡ joined op t (together op t n lane) (together op t n given)
  chunk_taken zero lane given h = sym (law.keeps (identity op t) law.neutral)
  chunk_taken (suc n) lane given h =
      let last = h n (omega arith) in
      ap (λ v. joined op t v (joined op t (lane n) (given n))) (chunk_taken n lane given (λ e lt. h e (omega (arith, lt))))
      ∙ exchanged (together op t n lane) (together op t n given) (lane n) (given n) (together_of n lane) (together_of n given) last.0 last.1

pub fold_ordered_law : FoldIsOrdered
fold_ordered_law op t n i given acc h a = fold_ordered op t n i given acc h a

pub chunk_taken_law : ChunkIsTaken
chunk_taken_law op t n lane given h = chunk_taken op t n lane given h
