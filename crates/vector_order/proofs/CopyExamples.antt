-- Two arrays that lie apart: kernel f(x: [u8], y: [u8], n: u64) { for i in 0..n { y[i] = x[i]; } }
use Rattle.std.proofs.Common.{◌≡◌, ◌≢◌, ℕ, zero, suc, ◌≤◌, pos, List, [], ◌∷◌, None, Some, refl, sym, ap₂, ◌∙◌, subst, inr, true, false, arith}
use Rattle.std.proofs.lemmas.Bool.Decides.{nat_tests}
use Rattle.std.specs.Prelude.{ℤ, ◌≤ℤ◌, ◌<ℤ◌, nat_eq, ◌||◌, ◌&&◌}
use Rattle.std.specs.List.{list_any}
use Rattle.std.proofs.lemmas.Int.{ints}
use Rattle.kernel_tree.specs.Plain.{Variable, Element, Put, Done, Then, Program}
use Rattle.loop_form.specs.Streams.{streams_of, is_of}
use Rattle.vector_order.specs.Apart.{is_store_of, base_of, Within, IsBase, StreamsApart}
use Rattle.kernel_tree.specs.declared.ops.Ty.TheVariants as ty
use Rattle.kernel_tree.specs.declared.ast.Shape.TheVariants as shape

abbrev copy : Program
copy = record {
  name = 102 ∷ [];
  params = record { name = 120 ∷ []; shape = shape.Array ty.U8 } ∷ record { name = 121 ∷ []; shape = shape.Array ty.U8 } ∷ record { name = 110 ∷ []; shape = shape.Scalar ty.U64 } ∷ [];
  vars = [];
  for_loop = Some (record { index = 105 ∷ []; bound = 110 ∷ []; body = Then (Put (121 ∷ []) (Variable (105 ∷ [])) (Element (120 ∷ []) (Variable (105 ∷ [])))) Done });
  answer = None;
}

abbrev args : List ℕ
args = 65536 ∷ 70000 ∷ 100 ∷ []

copy_streams : streams_of copy ≡ record { param = 0; offset = pos 0; store = false; item = 4 } ∷ record { param = 1; offset = pos 0; store = true; item = 5 } ∷ []
copy_streams = refl

at_most_one : (p : ℕ) → list_any (is_of p) (streams_of copy) ≡ true → p ≤ 1
at_most_one zero e = omega arith
at_most_one (suc zero) e = omega arith
at_most_one (suc (suc p)) e =
    let a : nat_eq 0 (suc (suc p)) ≡ false = grind (arith, nat_tests) in
    let b : nat_eq 1 (suc (suc p)) ≡ false = grind (arith, nat_tests) in
    let h : false ≡ true = sym (ap₂ (λ x y. x || (y || false)) a b) ∙ e in
    absurd cc

stored_one : (p : ℕ) → list_any (is_store_of p) (streams_of copy) ≡ true → p ≡ 1
stored_one zero e = absurd cc
stored_one (suc zero) e = refl
stored_one (suc (suc p)) e =
    let a : nat_eq 0 (suc (suc p)) ≡ false = grind (arith, nat_tests) in
    let b : nat_eq 1 (suc (suc p)) ≡ false = grind (arith, nat_tests) in
    let h : false ≡ true = sym (ap₂ (λ x y. (x && false) || ((y && true) || false)) a b) ∙ e in
    absurd cc

bases : (p : ℕ) → p ≤ 1 → IsBase (base_of copy args p)
bases zero le = (65536, refl, omega arith, omega arith)
bases (suc zero) le = (70000, refl, omega arith, omega arith)
bases (suc (suc p)) le = absurd (omega arith)

apart_at : (p q : ℕ) → p ≡ 1 → q ≤ 1 → p ≢ q → (z : ℤ) → Within copy args 100 p z → Within copy args 100 q z → ⊥
apart_at p zero e le ne z v w = subst (λ p. Within copy args 100 p z → ⊥) (sym e) (λ v. far z v w) v
  where
    far : (z : ℤ) → Within copy args 100 1 z → Within copy args 100 0 z → ⊥
    far z v w = let a : pos 70000 ≤ℤ z = v.0 in let b : z <ℤ pos 65636 = w.1 in omega (arith, ints)
apart_at p (suc zero) e le ne z v w = ne e
apart_at p (suc (suc q)) e le ne z v w = omega arith

copy-apart : StreamsApart copy args
copy-apart = inr (inr (record { few = omega arith; based = λ p e. bases p (at_most_one p e); apart = λ p q s u ne z v w. apart_at p q (stored_one p s) (at_most_one q u) ne z v w; read_based = λ r i. elim i [ ]; read_apart = λ p r s i ne z v w. elim i [ ] }))
