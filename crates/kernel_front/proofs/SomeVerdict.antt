-- Each text has a verdict.
use Rattle.std.proofs.Common.{◌≡◌, ℕ, List, Option, Some, None, refl, ◌⊎◌, inl, inr}
use Rattle.kernel_tree.specs.Plain.{Program}
use Rattle.kernel_tree.specs.Typing.{Refusal, check_fault}
use Rattle.kernel_syntax.specs.declared.fault.ReadFault.{ReadFault}
use Rattle.kernel_syntax.specs.Refusals.{limit_fault, IsReadFrom, HasNoTree}
use Rattle.kernel_syntax.proofs.Decided.{read_or_no_tree}
use Rattle.kernel_syntax.proofs.Place.{stops_somewhere}
use Rattle.kernel_front.specs.Verdict.{Verdict, Limited, NoKernel, Refused, Sound, IsVerdict}

by_check : (text : List ℕ) (k : Program) (r : Option Refusal) → limit_fault text ≡ None → IsReadFrom text k → check_fault k ≡ r → (v : Verdict) × IsVerdict text v
by_check text k (Some refusal) h read e = (Refused refusal, (h, record { kernel = k; read = read; fault = e }))
by_check text k None h read e = (Sound k, (h, read, e))

by_tree : (text : List ℕ) → limit_fault text ≡ None → ((k : Program) × IsReadFrom text k) ⊎ HasNoTree text → (v : Verdict) × IsVerdict text v
by_tree text h (inl p) = by_check text p.0 (check_fault p.0) h p.1 refl
by_tree text h (inr n) = let s = stops_somewhere text n in (NoKernel s.0, (h, n, s.1))

by_limit : (text : List ℕ) (r : Option ReadFault) → limit_fault text ≡ r → (v : Verdict) × IsVerdict text v
by_limit text (Some fault) e = (Limited fault, e)
by_limit text None e = by_tree text e (read_or_no_tree text e)

pub some_verdict : (text : List ℕ) → (v : Verdict) × IsVerdict text v
some_verdict text = by_limit text (limit_fault text) refl
