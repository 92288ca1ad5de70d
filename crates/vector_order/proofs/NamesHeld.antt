-- The names of an iteration, against where their values are held.
use Rattle.std.proofs.Common.{◌≡◌, ℕ, Bool, true, false, cond, List, [], ◌∷◌, ◌++◌, Option, Some, None, refl, sym, ap, ◌∙◌, subst}
use Rattle.std.proofs.Math.Seq.{take-append_seam}
use Rattle.std.specs.Prelude.{ℤ, pos, bytes_eq, find, option_map, unwrap_or, take, length, ◌||◌}
use Rattle.std.specs.List.{list_any}
use Rattle.kernel_meaning.specs.Operators.{binary_value}
use Rattle.kernel_meaning.specs.Eval.{Named, Names, is_named, value_of, value_at, iteration}
use Rattle.kernel_meaning.specs.Iterate.{named, assigned}
use Rattle.kernel_meaning.proofs.NameLists.{assigned-names, assigned-length, assigned-front, value_at-front}
use Rattle.vector_order.specs.Orders.{Share, Lane}
use Rattle.loop_form.specs.LoopItems.{Bound, operand_at}
use Rattle.vector_order.specs.Operands.{operand_value}
use Rattle.vector_order.proofs.HeldNames.{operand_at-append}
use Rattle.kernel_tree.proofs.Names.{bytes_eq-told}
use Rattle.vector_order.proofs.LaneValues.{EnvBelow, operand_agree}
use Rattle.vector_order.specs.Shares.{apply_shares}
use Rattle.kernel_tree.specs.Typing.{Local}
use Rattle.vector_order.proofs.NamesTyped.{Typed, typed_assigned}
use Rattle.vector_order.proofs.Terms.{Kept, AreSourceValues}
use Rattle.loop_form.specs.declared.loop_item.Operand.TheVariants as operands

pub append_nothing : {A : Type 0} (xs : List A) → xs ++ [] ≡ xs
append_nothing [] = refl
append_nothing (x ∷ xs) = ap (λ r. x ∷ r) (append_nothing xs)

-- ---- accumulators that change

module _ (is_acc : List ℕ → Bool) where
  -- each accumulator is among these names
  abbrev pub AccsIn : Names → Type 0
  AccsIn ns = (x : List ℕ) → is_acc x ≡ true → list_any (is_named x) ns ≡ true

  abbrev pub AllAcc : List Share → Type 0
  AllAcc [] = Unit {0}
  AllAcc (s ∷ shares) = (is_acc s.name ≡ true) × AllAcc shares

  pub all_acc-append : (xs ys : List Share) → AllAcc xs → AllAcc ys → AllAcc (xs ++ ys)
  all_acc-append [] ys h k = k
  all_acc-append (x ∷ xs) ys h k = (h.0, all_acc-append xs ys h.1 k)

  pub accs_in-append : (ns more : Names) → AccsIn ns → AccsIn (ns ++ more)
  accs_in-append ns more h x a = front ns (h x a)
    where
      front : (ns : Names) → list_any (is_named x) ns ≡ true → list_any (is_named x) (ns ++ more) ≡ true
      front [] e = absurd cc
      front (n ∷ ns) e = by_test (bytes_eq n.name x) e (front ns)
        where
          by_test : (b : Bool) → b || list_any (is_named x) ns ≡ true → (list_any (is_named x) ns ≡ true → list_any (is_named x) (ns ++ more) ≡ true) → b || list_any (is_named x) (ns ++ more) ≡ true
          by_test true e ih = refl
          by_test false e ih = ih e

  pub accs_in-apply : (shares : List Share) (ns : Names) → AccsIn ns → AccsIn (apply_shares shares ns)
  accs_in-apply [] ns h = h
  accs_in-apply (s ∷ shares) ns h = accs_in-apply shares _ (λ x a. assigned-names s.name (binary_value s.op s.type (value_at ns s.name) s.value) ns (λ y. bytes_eq y x) ∙ h x a)

  pub apply-length : (shares : List Share) (ns : Names) → length (apply_shares shares ns) ≡ length ns
  apply-length [] ns = refl
  apply-length (s ∷ shares) ns = apply-length shares _ ∙ assigned-length s.name (binary_value s.op s.type (value_at ns s.name) s.value) ns

  pub apply-append : (xs ys : List Share) (ns : Names) → apply_shares (xs ++ ys) ns ≡ apply_shares ys (apply_shares xs ns)
  apply-append [] ys ns = refl
  apply-append (x ∷ xs) ys ns = apply-append xs ys _

  pub apply-front : (shares : List Share) (ns more : Names) → AccsIn ns → AllAcc shares → apply_shares shares (ns ++ more) ≡ apply_shares shares ns ++ more
  apply-front [] ns more h a = refl
  apply-front (s ∷ shares) ns more h a =
      let there = h s.name a.0 in
      let one : assigned s.name (binary_value s.op s.type (value_at (ns ++ more) s.name) s.value) (ns ++ more) ≡ assigned s.name (binary_value s.op s.type (value_at ns s.name) s.value) ns ++ more =
      assigned-front s.name (binary_value s.op s.type (value_at (ns ++ more) s.name) s.value) ns more there ∙ ap (λ v. assigned s.name (binary_value s.op s.type v s.value) ns ++ more) (value_at-front s.name ns more there) in
      ap (apply_shares shares) one ∙ apply-front shares (assigned s.name (binary_value s.op s.type (value_at ns s.name) s.value) ns) more (accs_in-apply (s ∷ []) ns h) a.1

  pub cut_apply : (shares : List Share) (ns more : Names) → take (length ns) (apply_shares shares ns ++ more) ≡ apply_shares shares ns
  cut_apply shares ns more = ap (λ n. take n (apply_shares shares ns ++ more)) (sym (apply-length shares ns)) ∙ take-append_seam (apply_shares shares ns) more

  pub typed_apply : (shares : List Share) (ls : List Local) (ns : Names) → AllAcc shares → Typed is_acc ls ns → Typed is_acc ls (apply_shares shares ns)
  typed_apply [] ls ns a h = h
  typed_apply (s ∷ shares) ls ns a h = typed_apply shares ls (assigned s.name (binary_value s.op s.type (value_at ns s.name) s.value) ns) a.1 (typed_assigned is_acc ls ns s.name (binary_value s.op s.type (value_at ns s.name) s.value) a.0 h)

  module _ (names : Names) (i : ℕ) where
    -- the names, and where each value is held, but those of accumulators
    abbrev pub Zip : List Bound → Names → Lane → Type 0
    Zip [] [] l = Unit {0}
    Zip [] (n ∷ ns) l = ⊥
    Zip (b ∷ env) [] l = ⊥
    Zip (b ∷ env) (n ∷ ns) l = (b.name ≡ n.name) × (is_acc b.name ≡ false → n.value ≡ operand_value names i l b.source) × Zip env ns l

    pub zip_held : (env : List Bound) (ns : Names) (l : Lane) → Zip env ns l → AreSourceValues names i is_acc ns env l
    zip_held [] [] l z x a = refl
    zip_held [] (n ∷ ns) l z x a = elim z [ ]
    zip_held (b ∷ env) [] l z x a = elim z [ ]
    zip_held (b ∷ env) (n ∷ ns) l z x a =
        subst (λ y. unwrap_or (option_map value_of (cond (bytes_eq y x) (Some n) (find (is_named x) ns))) (pos 0) ≡ operand_value names i l (cond (bytes_eq b.name x) b.source (operand_at env x))) z.0
        (by_test (bytes_eq b.name x) refl (zip_held env ns l z.2 x a))
      where
        by_test : (t : Bool) → bytes_eq b.name x ≡ t → value_at ns x ≡ operand_value names i l (operand_at env x) → unwrap_or (option_map value_of (cond t (Some n) (find (is_named x) ns))) (pos 0) ≡ operand_value names i l (cond t b.source (operand_at env x))
        by_test true e h = z.1 (ap is_acc (bytes_eq-told b.name x e) ∙ a)
        by_test false e h = h

    pub zip_kept : (env : List Bound) (ns : Names) (n : ℕ) (k l : Lane) → EnvBelow env n → Kept n k l → Zip env ns l → Zip env ns k
    zip_kept [] [] n k l b h z = tt
    zip_kept [] (m ∷ ns) n k l b h z = elim z [ ]
    zip_kept (e ∷ env) [] n k l b h z = elim z [ ]
    zip_kept (e ∷ env) (m ∷ ns) n k l b h z = (z.0, (λ a. z.1 a ∙ sym (operand_agree names i n k l e.source h.values b.0)), zip_kept env ns n k l b.1 h z.2)

    pub zip_more : (env : List Bound) (ns : Names) (b : Bound) (n : Named) (l : Lane) → Zip env ns l → b.name ≡ n.name → n.value ≡ operand_value names i l b.source → Zip (env ++ b ∷ []) (ns ++ n ∷ []) l
    zip_more [] [] b n l z e v = (e, (λ a. v), tt)
    zip_more [] (m ∷ ns) b n l z e v = elim z [ ]
    zip_more (c ∷ env) [] b n l z e v = elim z [ ]
    zip_more (c ∷ env) (m ∷ ns) b n l z e v = (z.0, z.1, zip_more env ns b n l z.2 e v)

    pub zip_assigned : (env : List Bound) (ns : Names) (x : List ℕ) (v : ℤ) (l : Lane) → is_acc x ≡ true → Zip env ns l → Zip env (assigned x v ns) l
    zip_assigned [] [] x v l a z = tt
    zip_assigned [] (n ∷ ns) x v l a z = elim z [ ]
    zip_assigned (b ∷ env) [] x v l a z = elim z [ ]
    zip_assigned (b ∷ env) (n ∷ ns) x v l a z = by_test (bytes_eq n.name x) refl (zip_assigned env ns x v l a z.2)
      where
        by_test : (t : Bool) → bytes_eq n.name x ≡ t → Zip env (assigned x v ns) l → Zip (b ∷ env) (cond t (named n.name v ∷ ns) (n ∷ assigned x v ns)) l
        by_test true e h = (z.0, (λ f. let no : false ≡ true = sym f ∙ ap is_acc (z.0 ∙ bytes_eq-told n.name x e) ∙ a in absurd cc), z.2)
        by_test false e h = (z.0, z.1, h)

    pub zip_apply : (shares : List Share) (env : List Bound) (ns : Names) (l : Lane) → AllAcc shares → Zip env ns l → Zip env (apply_shares shares ns) l
    zip_apply [] env ns l a z = z
    zip_apply (s ∷ shares) env ns l a z = zip_apply shares env (assigned s.name (binary_value s.op s.type (value_at ns s.name) s.value) ns) l a.1 (zip_assigned env ns s.name (binary_value s.op s.type (value_at ns s.name) s.value) l a.0 z)

  -- the loop's variable is no accumulator, and is found as the number of the iteration
  abbrev pub Indexed : Option (List ℕ) → List Bound → Type 0
  Indexed None env = ⊥
  Indexed (Some x) env = (is_acc x ≡ false) × (operand_at env x ≡ operands.LoopIndex)

  pub indexed-append : (index : Option (List ℕ)) (env more : List Bound) → Indexed index env → Indexed index (env ++ more)
  indexed-append None env more h = elim h [ ]
  indexed-append (Some x) env more h = (h.0, operand_at-append env more x h.1)

  pub indexed-is : (names : Names) (i : ℕ) (index : Option (List ℕ)) (env : List Bound) (ns : Names) (l : Lane) → AreSourceValues names i is_acc ns env l → Indexed index env → iteration index ns ≡ pos i
  indexed-is names i None env ns l held h = elim h [ ]
  indexed-is names i (Some x) env ns l held h = held x h.0 ∙ ap (operand_value names i l) h.1
