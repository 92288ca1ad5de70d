-- A kernel that meets the premises: kernel f(a: [u8], n: u64) -> u8 { var c: u8 = 0; for i in 0..n { break if a[i] == 9; if a[i + 1] != 0 { a[i] = 1; c += a[i]; } else { a[i] = 2; } } return c; }
use Rattle.std.proofs.Common.{◌≡◌, ℕ, pos, List, [], ◌∷◌, Some, None, refl, inl, inr, arith}
use Rattle.kernel_tree.specs.declared.ops.Ty.TheVariants as ty
use Rattle.kernel_tree.specs.declared.ops.BinaryOp.TheVariants as binary
use Rattle.kernel_tree.specs.declared.ops.CompareOp.TheVariants as compare
use Rattle.kernel_tree.specs.declared.ops.UpdateOp.TheVariants as update
use Rattle.kernel_tree.specs.declared.ast.Shape.TheVariants as shape
use Rattle.kernel_tree.specs.Plain.{Literal, Variable, Element, Operation, Comparison, Put, Update, Choose, Leave, Done, Then, Else, PlainLoop, Program}
use Rattle.kernel_tree.specs.Typing.{check_fault}
use Rattle.kernel_meaning.specs.Eval.{Names}
use Rattle.kernel_meaning.specs.Iterate.{named}
use Rattle.kernel_meaning.specs.ScalarRun.{started}
use Rattle.loop_form.specs.Entries.{item_type}
use Rattle.loop_form.specs.Lanes.{widest}
use Rattle.dependence.specs.declared.reason.Class.TheVariants.{Vector}
use Rattle.dependence.specs.Classes.{before_break, computed_index, carried, class_of}
use Rattle.vector_order.specs.Apart.{StreamsApart}
use Rattle.vector_order.specs.Order.{Steady, SameChunk}
use Rattle.vector_order.proofs.OrderLaw.{vector_order}

abbrev a : List ℕ
a = 97 ∷ []

abbrev c : List ℕ
c = 99 ∷ []

abbrev f : List ℕ
f = 102 ∷ []

abbrev i : List ℕ
i = 105 ∷ []

abbrev n : List ℕ
n = 110 ∷ []

abbrev loop : PlainLoop
loop = record {
  index = i;
  bound = n;
  body = Then (Leave (Comparison compare.Eq (Element a (Variable i)) (Literal (pos 9)))) (Then (Choose (Comparison compare.Ne (Element a (Operation binary.Add (Variable i) (Literal (pos 0)))) (Literal (pos 0))) (Then (Put a (Variable i) (Literal (pos 1))) (Then (Update c update.Add (Element a (Variable i))) Done)) (Else (Then (Put a (Variable i) (Literal (pos 2))) Done))) Done);
}

abbrev kernel : Program
kernel = record {
  name = f;
  params = record { name = a; shape = shape.Array ty.U8 } ∷ record { name = n; shape = shape.Scalar ty.U64 } ∷ [];
  vars = record { name = c; type = ty.U8; init = Literal (pos 0) } ∷ [];
  for_loop = Some loop;
  answer = Some (record { type = ty.U8; value = Variable c });
}

checked : check_fault kernel ≡ None
checked = refl

vector : class_of kernel ≡ Vector
unfolding item_type widest before_break computed_index carried
vector = refl

apart : StreamsApart kernel (65536 ∷ 300 ∷ [])
apart = inr (inl (record { streams = refl; reads = λ s r i j. elim j [ ] }))

abbrev names : Names
names = named a (pos 65536) ∷ named n (pos 300) ∷ named c (pos 0) ∷ []

start : started kernel (65536 ∷ 300 ∷ []) [] ≡ Some names
start = refl

steady : Steady kernel names names
steady = (refl, (λ e. refl), (refl, (λ e. refl), (refl, (λ e. refl), tt)))

chunk : SameChunk kernel loop (65536 ∷ 300 ∷ []) names names 20 200
unfolding item_type widest
chunk = vector_order kernel loop (65536 ∷ 300 ∷ []) [] names names 20 200 checked refl vector apart start steady (omega arith) (omega arith)
