-- The values in a lane, and operands that are made before a number of items.
use Rattle.std.proofs.Common.{◌≡◌, ◌≢◌, ℕ, ◌<◌, ◌≤◌, Bool, true, false, cond, List, [], ◌∷◌, refl, ap, arith}
use Rattle.std.proofs.lemmas.Bool.Decides.{nat_tests}
use Rattle.std.specs.Prelude.{nat_eq, if◌then◌else◌, ℤ, bytes_eq}
use Rattle.kernel_meaning.specs.Eval.{Names}
use Rattle.vector_order.specs.Orders.{Lane}
use Rattle.loop_form.specs.declared.loop_item.Operand.{Operand}
use Rattle.loop_form.specs.declared.loop_item.Operand.TheVariants.{Constant, Outer, LoopIndex, Made}
use Rattle.loop_form.specs.LoopItems.{Bound, operand_at}
use Rattle.vector_order.specs.Operands.{operand_value, with_value}

pub value_same : (l : Lane) (q : ℕ) (v : ℤ) → (with_value l q v).value q ≡ v
value_same l q v = let t : nat_eq q q ≡ true = grind (arith, nat_tests) in ap (λ b. if b then v else l.value q) t

pub value_other : (l : Lane) (q r : ℕ) (v : ℤ) → q ≢ r → (with_value l q v).value r ≡ l.value r
value_other l q r v ne = let t : nat_eq q r ≡ false = grind (arith, nat_tests) in ap (λ b. if b then v else l.value r) t

abbrev pub OperandBelow : Operand → ℕ → Type 0
OperandBelow (Made q) n = q < n
OperandBelow _ n = Unit {0}

abbrev pub EnvBelow : List Bound → ℕ → Type 0
EnvBelow [] n = Unit {0}
EnvBelow (b ∷ env) n = OperandBelow b.source n × EnvBelow env n

abbrev pub Agree : ℕ → Lane → Lane → Type 0
Agree n k l = (q : ℕ) → q < n → k.value q ≡ l.value q

pub operand_agree : (names : Names) (i n : ℕ) (k l : Lane) (s : Operand) → Agree n k l → OperandBelow s n → operand_value names i k s ≡ operand_value names i l s
operand_agree names i n k l (Constant t z) h b = refl
operand_agree names i n k l (Outer p) h b = refl
operand_agree names i n k l LoopIndex h b = refl
operand_agree names i n k l (Made q) h b = h q b

pub operand_below : (s : Operand) (n m : ℕ) → n ≤ m → OperandBelow s n → OperandBelow s m
operand_below (Constant t z) n m le b = tt
operand_below (Outer p) n m le b = tt
operand_below LoopIndex n m le b = tt
operand_below (Made q) n m le b = omega arith

pub env_below : (env : List Bound) (n m : ℕ) → n ≤ m → EnvBelow env n → EnvBelow env m
env_below [] n m le b = tt
env_below (x ∷ env) n m le b = (operand_below x.source n m le b.0, env_below env n m le b.1)

pub operand_at-below : (env : List Bound) (n : ℕ) (x : List ℕ) → EnvBelow env n → OperandBelow (operand_at env x) n
operand_at-below [] n x b = tt
operand_at-below (e ∷ env) n x b = by_test (bytes_eq e.name x) (operand_at-below env n x b.1)
  where
    by_test : (t : Bool) → OperandBelow (operand_at env x) n → OperandBelow (cond t e.source (operand_at env x)) n
    by_test true h = b.0
    by_test false h = h
