-- What shares leave of one accumulator.
use Rattle.std.proofs.Common.{◌≡◌, ℕ, zero, suc, ◌+◌, ◌<◌, ◌≤◌, ℤ, pos, Bool, true, false, List, [], ◌∷◌, Option, Some, refl, sym, ap, ap₂, ◌∙◌, arith}
use Rattle.std.specs.Prelude.{bytes_eq, find, option_map, unwrap_or, ◌||◌, if◌then◌else◌}
use Rattle.std.specs.List.{list_any}
use Rattle.std.proofs.lemmas.Slice.Eq.{bytes_eq-Decides}
use Rattle.kernel_tree.specs.declared.ops.Ty.{Ty}
use Rattle.kernel_tree.specs.declared.ops.UpdateOp.{UpdateOp}
use Rattle.kernel_meaning.specs.Operators.{binary_value}
use Rattle.kernel_meaning.specs.Eval.{Named, Names, is_named, value_of, value_at}
use Rattle.kernel_meaning.specs.Iterate.{named, assigned}
use Rattle.vector_order.specs.Orders.{Share, Lane}
use Rattle.vector_order.specs.Shares.{apply_shares, apply_lanes}
use Rattle.lane_emit.specs.Joins.{joined}
use Rattle.lane_emit.specs.Folds.{after_all, after_lanes, given_to, ShareAlike, AccumulatorIsFold}
use Rattle.lane_emit.proofs.FoldOrders.{fold_ordered}

-- ---- one name of many

abbrev found : Bool → Named → Option Named → ℤ
found b n rest = unwrap_or (option_map value_of (if b then Some n else rest)) (pos 0)

-- a name with another value, by whether it is the first one
abbrev put : Bool → (y : List ℕ) → ℤ → Named → Names → Names
put b y v n ns = if b then named n.name v ∷ ns else n ∷ assigned y v ns

value_same : (x : List ℕ) (v : ℤ) (ns : Names) → list_any (is_named x) ns ≡ true → value_at (assigned x v ns) x ≡ v
value_same x v [] h = absurd cc
value_same x v (n ∷ ns) h = by (bytes_eq n.name x) refl h (value_same x v ns)
  where
    by : (b : Bool) → bytes_eq n.name x ≡ b → (b || list_any (is_named x) ns) ≡ true → (list_any (is_named x) ns ≡ true → value_at (assigned x v ns) x ≡ v) → value_at (assigned x v (n ∷ ns)) x ≡ v
    by true e h ih = ap (λ b. value_at (put b x v n ns) x) e ∙ ap (λ b. found b (named n.name v) (find (is_named x) ns)) e
    by false e h ih = ap (λ b. value_at (put b x v n ns) x) e ∙ ap (λ b. found b n (find (is_named x) (assigned x v ns))) e ∙ ih h

value_other : (y x : List ℕ) (v : ℤ) (ns : Names) → bytes_eq y x ≡ false → value_at (assigned y v ns) x ≡ value_at ns x
value_other y x v [] h = refl
value_other y x v (n ∷ ns) h = by (bytes_eq n.name y) refl (value_other y x v ns h)
  where
    at_name : (b : Bool) → bytes_eq n.name x ≡ b → value_at (assigned y v ns) x ≡ value_at ns x → value_at (n ∷ assigned y v ns) x ≡ value_at (n ∷ ns) x
    at_name true e ih = ap (λ b. found b n (find (is_named x) (assigned y v ns))) e ∙ sym (ap (λ b. found b n (find (is_named x) ns)) e)
    at_name false e ih = ap (λ b. found b n (find (is_named x) (assigned y v ns))) e ∙ ih ∙ sym (ap (λ b. found b n (find (is_named x) ns)) e)

    by : (b : Bool) → bytes_eq n.name y ≡ b → value_at (assigned y v ns) x ≡ value_at ns x → value_at (assigned y v (n ∷ ns)) x ≡ value_at (n ∷ ns) x
    by true e ih =
        let same : n.name ≡ y = (bytes_eq-Decides n.name y).0 e in
        let not_it : bytes_eq n.name x ≡ false = ap (λ m. bytes_eq m x) same ∙ h in
        ap (λ b. value_at (put b y v n ns) x) e ∙ ap (λ b. found b (named n.name v) (find (is_named x) ns)) not_it ∙ sym (ap (λ b. found b n (find (is_named x) ns)) not_it)
    by false e ih = ap (λ b. value_at (put b y v n ns) x) e ∙ at_name (bytes_eq n.name x) refl ih

names_kept : (y x : List ℕ) (v : ℤ) (ns : Names) → list_any (is_named x) (assigned y v ns) ≡ list_any (is_named x) ns
names_kept y x v [] = refl
names_kept y x v (n ∷ ns) = by (bytes_eq n.name y) (names_kept y x v ns)
  where
    by : (b : Bool) → list_any (is_named x) (assigned y v ns) ≡ list_any (is_named x) ns → list_any (is_named x) (if b then named n.name v ∷ ns else n ∷ assigned y v ns) ≡ list_any (is_named x) (n ∷ ns)
    by true ih = refl
    by false ih = ap (λ b. bytes_eq n.name x || b) ih

-- ---- shares

module _ (x : List ℕ) (op : UpdateOp) (t : Ty) where
  abbrev shared : (s : Share) → Names → Names
  shared s names = assigned s.name (binary_value s.op s.type (value_at names s.name) s.value) names

  names_shared : (shares : List Share) (names : Names) → list_any (is_named x) (apply_shares shares names) ≡ list_any (is_named x) names
  names_shared [] names = refl
  names_shared (s ∷ shares) names = names_shared shares _ ∙ names_kept s.name x _ names

  shares_applied : (shares : List Share) (names : Names) → list_any (is_named x) names ≡ true → ShareAlike x op t shares → value_at (apply_shares shares names) x ≡ after_all op t (value_at names x) (given_to x shares)
  shares_applied [] names h a = refl
  shares_applied (s ∷ shares) names h a = by (bytes_eq s.name x) refl (shares_applied shares (shared s names) (names_kept s.name x _ names ∙ h) a.1)
    where
      by : (b : Bool) → bytes_eq s.name x ≡ b → value_at (apply_shares shares (shared s names)) x ≡ after_all op t (value_at (shared s names) x) (given_to x shares) → value_at (apply_shares shares (shared s names)) x ≡ after_all op t (value_at names x) (if b then s.value ∷ given_to x shares else given_to x shares)
      by true e ih =
          let same : s.name ≡ x = (bytes_eq-Decides s.name x).0 e in
          let like = a.0 e in
          let new : value_at (shared s names) x ≡ joined op t (value_at names x) s.value =
          ap (λ y. value_at (assigned y (binary_value s.op s.type (value_at names y) s.value) names) x) same
          ∙ value_same x (binary_value s.op s.type (value_at names x) s.value) names h
          ∙ ap₂ (λ o k. binary_value o k (value_at names x) s.value) like.0 like.1 in
          ih ∙ ap (λ v. after_all op t v (given_to x shares)) new
      by false e ih =
          ih ∙ ap (λ v. after_all op t v (given_to x shares)) (value_other s.name x _ names e)

  lanes_applied : (n i : ℕ) (lane : ℕ → Lane) (names : Names) → list_any (is_named x) names ≡ true → ((j : ℕ) → i ≤ j → j < i + n → ShareAlike x op t (lane j).shares) → value_at (apply_lanes n i lane names) x ≡ after_lanes op t n i (λ j. given_to x (lane j).shares) (value_at names x)
  lanes_applied zero i lane names h a = refl
  lanes_applied (suc n) i lane names h a =
      lanes_applied n (i + 1) lane (apply_shares (lane i).shares names) (names_shared (lane i).shares names ∙ h) (λ j le lt. a j (omega (arith, le)) (omega (arith, lt)))
      ∙ ap (after_lanes op t n (i + 1) (λ j. given_to x (lane j).shares)) (shares_applied (lane i).shares names h (a i (omega arith) (omega arith)))

pub accumulator_law : AccumulatorIsFold
accumulator_law x op t n i lane names h of a =
    lanes_applied x op t n i lane names h (λ j le lt. (a j le lt).0)
    ∙ fold_ordered op t n i (λ j. given_to x (lane j).shares) (value_at names x) of (λ j le lt. (a j le lt).1)
