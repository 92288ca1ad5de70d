-- Walks of an iteration that were worked out by hand.
use Rattle.std.proofs.Common.{◌≡◌, [], ◌∷◌, Bool, true, false, Some, None, refl}
use Rattle.std.specs.Prelude.{codes, pos}
use Rattle.kernel_tree.specs.declared.ops.Ty.TheVariants as ty
use Rattle.kernel_tree.specs.declared.ops.CompareOp.TheVariants as compare
use Rattle.kernel_tree.specs.declared.ast.Shape.TheVariants as shape
use Rattle.kernel_tree.specs.Plain.{Term, Literal, Variable, Element, Comparison, Either, Both, Put, Choose, Leave, Done, Then, Else, Program}
use Rattle.kernel_meaning.specs.Reaches.{reached, reaches}

abbrev at : Term
at = Element (codes "a") (Variable (codes "i"))

abbrev is : Term → Term
is e = Comparison compare.Eq e (Literal (pos 0))

-- kernel k(a: [u8], n: u64) { for i in 0..n { if a[i] == 0 || n == 0 { a[i] = 1; } else { break if a[i] == 0 && a[i] == 0; } } }
-- 0 a, 1 n, 2 for, 3 a[i], 4 0, 5 ==, 6 mark, 7 n, 8 0, 9 ==, 10 ||, 11 then, 12 1, 13 store, 14 else, 15 a[i], 16 0, 17 ==,
-- 18 a[i], 19 0, 20 ==, 21 &&, 22 break, 23 end
abbrev branching : Program
branching = record {
  name = codes "k";
  params = record { name = codes "a"; shape = shape.Array ty.U8 } ∷ record { name = codes "n"; shape = shape.Scalar ty.U64 } ∷ [];
  vars = [];
  for_loop = Some (record {
    index = codes "i";
    bound = codes "n";
    body = Then (Choose (Either (is at) (is (Variable (codes "n")))) (Then (Put (codes "a") (Variable (codes "i")) (Literal (pos 1))) Done) (Else (Then (Leave (Both (is at) (is at))) Done))) Done;
  });
  answer = None;
}

abbrev no : Bool
no = false

abbrev on : Bool
on = true

-- the left side is true: neither the right side nor the second block is reached
left-true : reached branching (no ∷ no ∷ no ∷ no ∷ no ∷ on ∷ no ∷ no ∷ no ∷ no ∷ on ∷ []) ≡ no ∷ no ∷ on ∷ on ∷ on ∷ on ∷ on ∷ no ∷ no ∷ no ∷ on ∷ on ∷ on ∷ on ∷ on ∷ no ∷ no ∷ no ∷ no ∷ no ∷ no ∷ no ∷ no ∷ on ∷ []
left-true = refl

-- all are false: the right side and the second block are reached, and there the left side alone
all-false : reached branching [] ≡ no ∷ no ∷ on ∷ on ∷ on ∷ on ∷ on ∷ on ∷ on ∷ on ∷ on ∷ on ∷ no ∷ no ∷ on ∷ on ∷ on ∷ on ∷ no ∷ no ∷ no ∷ on ∷ on ∷ on ∷ []
all-false = refl

-- the left side of the second condition is true
inner-true : reached branching (no ∷ no ∷ no ∷ no ∷ no ∷ no ∷ no ∷ no ∷ no ∷ no ∷ no ∷ no ∷ no ∷ no ∷ no ∷ no ∷ no ∷ on ∷ []) ≡ no ∷ no ∷ on ∷ on ∷ on ∷ on ∷ on ∷ on ∷ on ∷ on ∷ on ∷ on ∷ no ∷ no ∷ on ∷ on ∷ on ∷ on ∷ on ∷ on ∷ on ∷ on ∷ on ∷ on ∷ []
inner-true = refl

-- where all are false, the walk comes to the break, not to the store, and to no item past the last one
to-break : reaches branching [] 22 ≡ true
to-break = refl

past-store : reaches branching [] 13 ≡ false
past-store = refl

past-last : reaches branching [] 24 ≡ false
past-last = refl
