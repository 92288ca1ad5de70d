-- One more item of a listing: its register, its last use, and the values that are left.
use Rattle.std.proofs.Common.{◌≡◌, ℕ, suc, ◌+◌, ◌<◌, ◌≤◌, List, [], ◌∷◌, ◌++◌, ◌∙◌, length, drop, get_or, map, Option, Some, None, sym, ap, arith, add-one, drop-cons, append-nil}
use Rattle.std.specs.Prelude.{unwrap_or}
use Rattle.std.proofs.lemmas.List.{drop_all, map-append}
use Rattle.word_rows.specs.declared.Bits.{Bits}
use Rattle.kernel_tree.proofs.Walks.{listed_one_on}
use Rattle.loop_form.specs.declared.item.Item.{Item}
use Rattle.scalar_words.specs.View.{register_number}
use Rattle.scalar_words.specs.KernelRegisters.{counted_x, one_reg, one_value, count_values, item_regs, item_last_use}

module _ (R : ℕ → ℕ) (is : List Item) (i : ℕ) (d : Item) (lt : i < length is) where
  drop_at_index : drop i is ≡ get_or is i d ∷ drop (i + 1) is
  drop_at_index = drop-cons is i d lt ∙ ap (λ n. get_or is i d ∷ drop n is) (sym (add-one i))

  pub more_last_uses : (old new whole : List ℕ) (u : ℕ) → new ≡ old ++ u ∷ [] → u ≡ unwrap_or (get_or is i d).x_last_use 0 → old ++ map item_last_use (drop i is) ≡ whole → new ++ map item_last_use (drop (i + 1) is) ≡ whole
  more_last_uses old new whole u e f w = listed_one_on old new whole u _ _ e (ap (map item_last_use) drop_at_index ∙ ap (λ v. v ∷ map item_last_use (drop (i + 1) is)) (sym f)) w

  values_here : (o : Option ℕ) → (get_or is i d).x_last_use ≡ o → count_values (drop i is) ≡ one_value o + count_values (drop (i + 1) is)
  values_here o e = ap count_values drop_at_index ∙ ap (λ v. one_value v + count_values (drop (i + 1) is)) e

  pub no_value : (j n : ℕ) → (get_or is i d).x_last_use ≡ None → j + count_values (drop i is) ≤ n → j + count_values (drop (i + 1) is) ≤ n
  no_value j n e h = let v = values_here None e in omega (arith, v, h)

  pub one_value_more : (j n u : ℕ) → (get_or is i d).x_last_use ≡ Some u → j + count_values (drop i is) ≤ n → (j + 1) + count_values (drop (i + 1) is) ≤ n
  one_value_more j n u e h = let v = values_here (Some u) e in omega (arith, v, h)

  regs_here : (j : ℕ) (o : Option ℕ) → (get_or is i d).x_last_use ≡ o → item_regs R j (drop i is) ≡ one_reg R j o (λ n. item_regs R n (drop (i + 1) is))
  regs_here j o e = ap (item_regs R j) drop_at_index ∙ ap (λ v. one_reg R j v (λ n. item_regs R n (drop (i + 1) is))) e

  pub no_register : (j : ℕ) (old new : List (Bits 5)) (whole : List ℕ) (r : Bits 5) → new ≡ old ++ r ∷ [] → r.number ≡ 0 → (get_or is i d).x_last_use ≡ None → map register_number old ++ item_regs R j (drop i is) ≡ whole → map register_number new ++ item_regs R j (drop (i + 1) is) ≡ whole
  no_register j old new whole r e f o w =
      listed_one_on (map register_number old) (map register_number new) whole r.number _ _ (ap (map register_number) e ∙ map-append register_number old (r ∷ [])) (regs_here j None o ∙ ap (λ n. n ∷ item_regs R j (drop (i + 1) is)) (sym f)) w

  pub more_registers : (j u : ℕ) (old new : List (Bits 5)) (whole : List ℕ) (r : Bits 5) → new ≡ old ++ r ∷ [] → r.number ≡ counted_x (R j) → (get_or is i d).x_last_use ≡ Some u → map register_number old ++ item_regs R j (drop i is) ≡ whole → map register_number new ++ item_regs R (j + 1) (drop (i + 1) is) ≡ whole
  more_registers j u old new whole r e f o w =
      listed_one_on (map register_number old) (map register_number new) whole r.number _ _ (ap (map register_number) e ∙ map-append register_number old (r ∷ [])) (regs_here j (Some u) o ∙ ap (λ n. n ∷ item_regs R (suc j) (drop (i + 1) is)) (sym f) ∙ ap (λ k. r.number ∷ item_regs R k (drop (i + 1) is)) (sym (add-one j))) w

-- after the last item
pub all_registers : (R : ℕ → ℕ) (is : List Item) (i j : ℕ) (l whole : List ℕ) → length is ≤ i → l ++ item_regs R j (drop i is) ≡ whole → l ≡ whole
all_registers R is i j l whole h w = sym (ap (λ xs. l ++ item_regs R j xs) (drop_all i is h) ∙ append-nil l) ∙ w

pub all_last_uses : (is : List Item) (i : ℕ) (l whole : List ℕ) → length is ≤ i → l ++ map item_last_use (drop i is) ≡ whole → l ≡ whole
all_last_uses is i l whole h w = sym (ap (λ xs. l ++ map item_last_use xs) (drop_all i is h) ∙ append-nil l) ∙ w

-- the next interval is not ahead of the first one by more than so many items
pub room_before : (j first i : ℕ) → j ≡ first → i ≡ 0 → j ≤ first + i
room_before j first i e f = omega (arith, e, f)

pub room_kept : (j j2 first i : ℕ) → j2 ≡ j → j ≤ first + i → j2 ≤ first + (i + 1)
room_kept j j2 first i e h = omega (arith, e, h)

pub room_more : (j j2 first i : ℕ) → j2 ≡ j + 1 → j ≤ first + i → j2 ≤ first + (i + 1)
room_more j j2 first i e h = omega (arith, e, h)

pub below_all : (j n m : ℕ) → (j + 1) + n ≤ m → j < m
below_all j n m h = omega (arith, h)
