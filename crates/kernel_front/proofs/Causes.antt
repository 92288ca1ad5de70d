-- What a fault says of the verdict of a text.
use Rattle.std.proofs.Common.{◌≡◌, refl, sym, subst, Option, Some, None, Result, Ok, Err, List, ℕ}
use Rattle.std.specs.Prelude.{IfOk, IfErr, IsErrAnd}
use Rattle.kernel_tree.specs.Plain.{Program, program_of}
use Rattle.kernel_tree.specs.Checked.{kernel_of}
use Rattle.kernel_tree.specs.declared.checked.Checked.{Checked}
use Rattle.kernel_tree.specs.Typing.{Refusal, check_fault}
use Rattle.kernel_tree.specs.declared.ast.Kernel.{Kernel}
use Rattle.kernel_syntax.specs.declared.fault.ReadFault.{ReadFault}
use Rattle.kernel_syntax.specs.declared.fault.ReadFault.TheVariants as reading
use Rattle.kernel_syntax.specs.Refusals.{limit_fault, IsReadFrom, HasNoTree, StopsAt}
use Rattle.kernel_types.specs.declared.fault.TypeFault.{TypeFault}
use Rattle.kernel_types.specs.declared.fault.TypeFault.TheVariants as typing
use Rattle.kernel_types.specs.Causes.{IsCause}
use Rattle.kernel_front.specs.declared.fault.KernelFault.{KernelFault}
use Rattle.kernel_front.specs.declared.fault.KernelFault.TheVariants as faults
use Rattle.kernel_front.specs.Verdict.{Verdict, Limited, NoKernel, Refused, Sound, IsVerdict, Explains, IsBroken}
use Rattle.kernel_front.proofs.OneVerdict.{one_verdict}

explained : (v : Verdict) (r : Refusal) (fault : TypeFault) → v ≡ Refused r → IsCause (Some r) fault → Explains v (faults.Broken fault)
explained v r typing.Memory p q = q
explained v r other p q = (r, p, q)

explains_no_cause : (v : Verdict) (fault : TypeFault) → IsCause None fault → Explains v (faults.Broken fault)
explains_no_cause v typing.Memory q = q
explains_no_cause v other q = absurd cc

by_fault : (text : List ℕ) (k : Program) (v : Verdict) → limit_fault text ≡ None → IsReadFrom text k → IsVerdict text v → (r : Option Refusal) → check_fault k ≡ r → (fault : TypeFault) → IsCause r fault → Explains v (faults.Broken fault)
by_fault text k v l read h (Some r) e fault q = explained v r fault (one_verdict text v (Refused r) h (l, record { kernel = k; read = read; fault = e })) q
by_fault text k v l read h None e fault q = explains_no_cause v fault q

-- a kernel that was read and breaks a rule
pub broken : (text : List ℕ) (k : Program) → limit_fault text ≡ None → IsReadFrom text k → (fault : KernelFault) → IsBroken (check_fault k) fault → (v : Verdict) → IsVerdict text v → Explains v fault
broken text k l read (faults.Unread fault) q v h = absurd q
broken text k l read (faults.Broken fault) q v h = by_fault text k v l read h (check_fault k) refl fault q

-- a kernel that was read and breaks none
pub sound : (text : List ℕ) (k : Kernel) (checked : Result Checked KernelFault) → limit_fault text ≡ None → IsReadFrom text (program_of k) → IfOk checked (λ c. check_fault (program_of k) ≡ None) → IfOk checked (λ c. kernel_of c ≡ k) → IfOk checked (λ c. IsVerdict text (Sound (program_of (kernel_of c))))
sound text k (Ok c) l read fault same = rw same (l, read, fault)
sound text k (Err f) l read fault same = tt

-- what reading a text says where it fails
pub record ReadSays (text : List ℕ) (read : Result Kernel ReadFault) : Type 0 where
  pub too_long : read ≡ Err reading.TooLong → limit_fault text ≡ Some reading.TooLong
  pub bad_byte : (at : ℕ) → read ≡ Err (reading.BadByte at) → limit_fault text ≡ Some (reading.BadByte at)
  pub too_deep : (token : ℕ) → read ≡ Err (reading.TooDeep token) → limit_fault text ≡ Some (reading.TooDeep token)
  pub no_tree : (token : ℕ) → read ≡ Err (reading.Syntax token) → HasNoTree text
  pub no_limit : (token : ℕ) → read ≡ Err (reading.Syntax token) → limit_fault text ≡ None
  pub place : (token : ℕ) → read ≡ Err (reading.Syntax token) → StopsAt text token

by_read : (text : List ℕ) (read : Result Kernel ReadFault) → ReadSays text read → (f : ReadFault) → read ≡ Err f → (v : Verdict) → IsVerdict text v → Explains v (faults.Unread f)
by_read text read says reading.TooLong e v h = one_verdict text v (Limited reading.TooLong) h (says.too_long e)
by_read text read says (reading.BadByte at) e v h = one_verdict text v (Limited (reading.BadByte at)) h (says.bad_byte at e)
by_read text read says (reading.TooDeep token) e v h = one_verdict text v (Limited (reading.TooDeep token)) h (says.too_deep token e)
by_read text read says (reading.Syntax token) e v h = one_verdict text v (NoKernel token) h (says.no_limit token e, says.no_tree token e, says.place token e)
by_read text read says reading.Memory e v h = tt

-- a text that was not read
pub unread : {T : Type 0} (text : List ℕ) (read : Result Kernel ReadFault) (f : ReadFault) (result : Result T KernelFault) → ReadSays text read → read ≡ Err f → IsErrAnd result (λ e. e ≡ faults.Unread f) → IfErr result (λ fault. (v : Verdict) → IsVerdict text v → Explains v fault)
unread text read f (Ok x) says e g = tt
unread text read f (Err fault) says e g = λ v h. subst (Explains v) (sym g) (by_read text read says f e v h)
