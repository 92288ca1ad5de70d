-- A break on `a || b` does what one on a does and then one on b.
use Rattle.std.proofs.Common.{◌≡◌, Option, Some, Bool, true, refl, ◌∙◌}
use Rattle.kernel_tree.specs.Plain.{Term, Either, Leave}
use Rattle.kernel_tree.specs.Typing.{Scope}
use Rattle.guest_types.specs.Memory.{Memory}
use Rattle.kernel_meaning.specs.Eval.{Names, or_else, holds}
use Rattle.kernel_meaning.specs.Iterate.{act, leave, then_do}

leave_or : (m : Memory) (ns : Names) (x y : Option Bool) → leave m ns (or_else x y) ≡ then_do (leave m ns x) (λ m ns. leave m ns y)
leave_or m ns (Some true) y = refl
leave_or m ns other y = refl

-- a break that goes on leaves memory and names as they are
then_leave : (m : Memory) (ns : Names) (x : Option Bool) (f : Memory → Names → Option Bool) → then_do (leave m ns x) (λ m2 ns2. leave m2 ns2 (f m ns)) ≡ then_do (leave m ns x) (λ m2 ns2. leave m2 ns2 (f m2 ns2))
then_leave m ns (Some true) f = refl
then_leave m ns other f = refl

pub or_break : (scope : Scope) (a b : Term) (m : Memory) (ns : Names) → act scope (Leave (Either a b)) m ns ≡ then_do (act scope (Leave a) m ns) (act scope (Leave b))
or_break scope a b m ns = leave_or m ns (holds scope a m ns) (holds scope b m ns) ∙ then_leave m ns (holds scope a m ns) (holds scope b)
