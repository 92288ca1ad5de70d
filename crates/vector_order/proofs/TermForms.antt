-- Values and conditions are well formed.
use Rattle.kernel_tree.specs.Plain.{Term, Literal, Variable, Element, Unary, Operation, Shift, Conversion, Choice, Comparison, Both, Either, Not}
use Rattle.kernel_tree.specs.Kinds.{IsValue, IsTruth}
use Rattle.vector_order.proofs.Terms.{IsCond, WellFormed}

record Formed (t : Term) : Type 0 where
  as_value : IsValue t → WellFormed t
  as_cond : IsTruth t → WellFormed t × IsCond t

formed : (t : Term) → Formed t
formed (Literal n) = record { as_value = λ f. tt; as_cond = λ f. elim f [ ] }
formed (Variable x) = record { as_value = λ f. tt; as_cond = λ f. elim f [ ] }
formed (Element a i) = record { as_value = λ f. tt; as_cond = λ f. elim f [ ] }
formed (Unary op e) = record { as_value = (formed e).as_value; as_cond = λ f. elim f [ ] }
formed (Operation op a b) = record { as_value = λ f. ((formed a).as_value f.0, (formed b).as_value f.1); as_cond = λ f. elim f [ ] }
formed (Shift left e n) = record { as_value = (formed e).as_value; as_cond = λ f. elim f [ ] }
formed (Conversion e t) = record { as_value = (formed e).as_value; as_cond = λ f. elim f [ ] }
formed (Choice c a b) = record { as_value = λ f. let h = (formed c).as_cond f.2 in (h.1, h.0, (formed a).as_value f.0, (formed b).as_value f.1); as_cond = λ f. elim f [ ] }
formed (Comparison op a b) = record { as_value = λ f. elim f [ ]; as_cond = λ f. (((formed a).as_value f.0, (formed b).as_value f.1), tt) }
formed (Both a b) = record { as_value = λ f. elim f [ ]; as_cond = λ f. let h = (formed a).as_cond f.0 in let k = (formed b).as_cond f.1 in ((h.0, k.0), (h.1, k.1)) }
formed (Either a b) = record { as_value = λ f. elim f [ ]; as_cond = λ f. let h = (formed a).as_cond f.0 in let k = (formed b).as_cond f.1 in ((h.0, k.0), (h.1, k.1)) }
formed (Not e) = record { as_value = λ f. elim f [ ]; as_cond = λ f. (formed e).as_cond f }

pub value_formed : (t : Term) → IsValue t → WellFormed t
value_formed t = (formed t).as_value

pub cond_formed : (t : Term) → IsTruth t → WellFormed t × IsCond t
cond_formed t = (formed t).as_cond
