-- A text has one verdict at most.
use Rattle.std.proofs.Common.{◌≡◌, sym, ◌∙◌, ap, subst, Some, None, List, ℕ}
use Rattle.kernel_tree.specs.TextToken.{TextToken}
use Rattle.kernel_tree.specs.Plain.{Program}
use Rattle.kernel_tree.specs.Typing.{Refusal, check_fault}
use Rattle.kernel_tree.specs.Grammar.{Tree}
use Rattle.kernel_tree.proofs.OneTree.{tree_once}
use Rattle.kernel_tree.proofs.Calls.{same_Ok}
use Rattle.kernel_syntax.specs.declared.fault.ReadFault.{ReadFault}
use Rattle.kernel_syntax.specs.Refusals.{IsReadFrom, HasNoTree}
use Rattle.kernel_syntax.proofs.Place.{stops_once}
use Rattle.kernel_syntax.proofs.Decided.{no_fault}
use Rattle.kernel_front.specs.Verdict.{Verdict, Limited, NoKernel, Refused, Sound, IsVerdict}

same_fault : (f g : ReadFault) → Some f ≡ Some g → f ≡ g
same_fault f g e = cc

same_refusal : (f g : Refusal) → Some f ≡ Some g → f ≡ g
same_refusal f g e = cc

no_refusal : (f : Refusal) → Some f ≡ None → ⊥
no_refusal f e = cc

-- a text is read as one kernel
same_kernel : (text : List ℕ) (j k : Program) → IsReadFrom text j → IsReadFrom text k → j ≡ k
same_kernel text j k a b = tree_once a.tree k (subst (λ (w : List TextToken). Tree w k) (same_Ok b.words a.words (sym b.tokens ∙ a.tokens)) b.tree)

-- what is read has a tree
has_tree : (text : List ℕ) (k : Program) → HasNoTree text → IsReadFrom text k → ⊥
has_tree text k n b = n.none k (subst (λ (w : List TextToken). Tree w k) (same_Ok b.words n.words (sym b.tokens ∙ n.tokens)) b.tree)

pub one_verdict : (text : List ℕ) (v w : Verdict) → IsVerdict text v → IsVerdict text w → v ≡ w
one_verdict text (Limited f) (Limited g) a b = ap Limited (same_fault f g (sym a ∙ b))
one_verdict text (Limited f) (NoKernel t) a b = absurd (no_fault f (sym a ∙ b.0))
one_verdict text (Limited f) (Refused r) a b = absurd (no_fault f (sym a ∙ b.0))
one_verdict text (Limited f) (Sound k) a b = absurd (no_fault f (sym a ∙ b.0))
one_verdict text (NoKernel s) (Limited g) a b = absurd (no_fault g (sym b ∙ a.0))
one_verdict text (NoKernel s) (NoKernel t) a b = ap NoKernel (stops_once text s t a.2 b.2)
one_verdict text (NoKernel s) (Refused r) a b = absurd (has_tree text b.1.kernel a.1 b.1.read)
one_verdict text (NoKernel s) (Sound k) a b = absurd (has_tree text k a.1 b.1)
one_verdict text (Refused r) (Limited g) a b = absurd (no_fault g (sym b ∙ a.0))
one_verdict text (Refused r) (NoKernel t) a b = absurd (has_tree text a.1.kernel b.1 a.1.read)
one_verdict text (Refused r) (Refused s) a b = ap Refused (same_refusal r s (sym a.1.fault ∙ (ap check_fault (same_kernel text a.1.kernel b.1.kernel a.1.read b.1.read) ∙ b.1.fault)))
one_verdict text (Refused r) (Sound k) a b = absurd (no_refusal r (sym a.1.fault ∙ (ap check_fault (same_kernel text a.1.kernel k a.1.read b.1) ∙ b.2)))
one_verdict text (Sound j) (Limited g) a b = absurd (no_fault g (sym b ∙ a.0))
one_verdict text (Sound j) (NoKernel t) a b = absurd (has_tree text j b.1 a.1)
one_verdict text (Sound j) (Refused s) a b = absurd (no_refusal s (sym b.1.fault ∙ (ap check_fault (same_kernel text b.1.kernel j b.1.read a.1) ∙ a.2)))
one_verdict text (Sound j) (Sound k) a b = ap Sound (same_kernel text j k a.1 b.1)
