-- A read at a computed index in a loop that stores: kernel f(t: [u64], x: [u8], y: [u64], n: u64) { for i in 0..n { y[i] = t[x[i]]; } }
use Rattle.std.proofs.Common.{◌≡◌, ◌≢◌, ℕ, zero, suc, pos, List, [], ◌∷◌, None, Some, refl, sym, ap₂, ◌∙◌, subst, inl, inr, true, false, arith}
use Rattle.std.proofs.lemmas.Bool.Decides.{nat_tests}
use Rattle.std.specs.Prelude.{ℤ, ◌≤ℤ◌, ◌<ℤ◌, ◌⊎◌, nat_eq, ◌||◌, ◌&&◌}
use Rattle.std.specs.List.{list_any}
use Rattle.std.proofs.lemmas.Int.{ints}
use Rattle.kernel_tree.specs.Plain.{Variable, Element, Put, Done, Then, Program}
use Rattle.kernel_tree.specs.Typing.{check_fault}
use Rattle.loop_form.specs.declared.reach.Reach.{Reach}
use Rattle.loop_form.specs.Entries.{item_type}
use Rattle.loop_form.specs.Lanes.{widest}
use Rattle.loop_form.specs.Reaches.{reaches_of}
use Rattle.loop_form.specs.Streams.{streams_of, is_of}
use Rattle.dependence.specs.Classes.{before_break, computed_index, carried, class_of}
use Rattle.dependence.specs.declared.reason.Class.TheVariants.{Vector}
use Rattle.vector_order.specs.Apart.{is_store_of, base_of, Within, Among, Reached, IsBase, StreamsApart}
use Rattle.kernel_tree.specs.declared.ops.Ty.TheVariants as ty
use Rattle.kernel_tree.specs.declared.ast.Shape.TheVariants as shape

abbrev gather : Program
gather = record {
  name = 102 ∷ [];
  params = record { name = 116 ∷ []; shape = shape.Array ty.U64 } ∷ record { name = 120 ∷ []; shape = shape.Array ty.U8 } ∷ record { name = 121 ∷ []; shape = shape.Array ty.U64 } ∷ record { name = 110 ∷ []; shape = shape.Scalar ty.U64 } ∷ [];
  vars = [];
  for_loop = Some (record { index = 105 ∷ []; bound = 110 ∷ []; body = Then (Put (121 ∷ []) (Variable (105 ∷ [])) (Element (116 ∷ []) (Element (120 ∷ []) (Variable (105 ∷ []))))) Done });
  answer = None;
}

checked : check_fault gather ≡ None
checked = refl

vector : class_of gather ≡ Vector
unfolding item_type widest before_break computed_index carried
vector = refl

abbrev args : List ℕ
args = 65536 ∷ 70000 ∷ 80000 ∷ 100 ∷ []

gather_streams : streams_of gather ≡ record { param = 1; offset = pos 0; store = false; item = 5 } ∷ record { param = 2; offset = pos 0; store = true; item = 7 } ∷ []
gather_streams = refl

unfoldable table : Reach
table = record { param = 0; reach = 256 }

gather_reaches : reaches_of gather ≡ table ∷ []
unfolding item_type table
gather_reaches = refl

one_or_two : (p : ℕ) → list_any (is_of p) (streams_of gather) ≡ true → (p ≡ 1) ⊎ (p ≡ 2)
one_or_two zero e = absurd cc
one_or_two (suc zero) e = inl refl
one_or_two (suc (suc zero)) e = inr refl
one_or_two (suc (suc (suc p))) e =
    let a : nat_eq 1 (suc (suc (suc p))) ≡ false = grind (arith, nat_tests) in
    let b : nat_eq 2 (suc (suc (suc p))) ≡ false = grind (arith, nat_tests) in
    let h : false ≡ true = sym (ap₂ (λ x y. x || (y || false)) a b) ∙ e in
    absurd cc

stored_two : (p : ℕ) → list_any (is_store_of p) (streams_of gather) ≡ true → p ≡ 2
stored_two zero e = absurd cc
stored_two (suc zero) e = absurd cc
stored_two (suc (suc zero)) e = refl
stored_two (suc (suc (suc p))) e =
    let a : nat_eq 1 (suc (suc (suc p))) ≡ false = grind (arith, nat_tests) in
    let b : nat_eq 2 (suc (suc (suc p))) ≡ false = grind (arith, nat_tests) in
    let h : false ≡ true = sym (ap₂ (λ x y. (x && false) || ((y && true) || false)) a b) ∙ e in
    absurd cc

bases : (p : ℕ) → (p ≡ 1) ⊎ (p ≡ 2) → IsBase (base_of gather args p)
bases p (inl e) = subst (λ q. IsBase (base_of gather args q)) (sym e) (70000, refl, omega arith, omega arith)
bases p (inr e) = subst (λ q. IsBase (base_of gather args q)) (sym e) (80000, refl, omega arith, omega arith)

far : (z : ℤ) → Within gather args 100 2 z → Within gather args 100 1 z → ⊥
far z v w = let a : pos 80000 ≤ℤ z = v.0 in let b : z <ℤ pos 70100 = w.1 in omega (arith, ints)

apart_at : (p q : ℕ) → p ≡ 2 → (q ≡ 1) ⊎ (q ≡ 2) → p ≢ q → (z : ℤ) → Within gather args 100 p z → Within gather args 100 q z → ⊥
apart_at p q e (inl f) ne z v w = far z (subst (λ x. Within gather args 100 x z) e v) (subst (λ x. Within gather args 100 x z) f w)
apart_at p q e (inr f) ne z v w = ne (e ∙ sym f)

is_table : (r : Reach) → Among r (reaches_of gather) → table ≡ r
is_table r i = by (subst (λ rs. Among r rs) gather_reaches i)
  where
    by : Among r (table ∷ []) → table ≡ r
    by (inl e) = e
    by (inr i) = elim i [ ]

table_base : IsBase (base_of gather args table.param)
unfolding table
table_base = (65536, refl, omega arith, omega arith)

far_table : (z : ℤ) → Within gather args 100 2 z → Reached gather args table z → ⊥
unfolding table
far_table z v w = let a : pos 80000 ≤ℤ z = v.0 in let b : z <ℤ pos 67584 = w.1 in omega (arith, ints)

-- what is stored lies apart from the 256 elements that the indexes can come to
apart : StreamsApart gather args
apart = inr (inr (record {
  few = omega arith;
  based = λ p e. bases p (one_or_two p e);
  apart = λ p q s u ne z v w. apart_at p q (stored_two p s) (one_or_two q u) ne z v w;
  read_based = λ r i. subst (λ (x : Reach). IsBase (base_of gather args x.param)) (is_table r i) table_base;
  read_apart = λ p r s i ne z v w. far_table z (subst (λ x. Within gather args 100 x z) (stored_two p s) v) (subst (λ x. Reached gather args x z) (sym (is_table r i)) w);
}))
