-- What holds whatever the files hold.
use Rattle.std.proofs.Common.{◌≢◌, Option, Some, None, Err}
use Rattle.std.specs.Prelude.{IfSome}
use Rattle.refusals.specs.declared.refusal.Refusal.TheVariants.{File}
use Rattle.command_answers.specs.Answer.{HeldFiles, Answer}

pub whatever_held : (held : Option HeldFiles) (P : HeldFiles → Type 0) → ((h : HeldFiles) → P h) → IfSome held P
whatever_held None P all = tt
whatever_held (Some h) P all = all h

pub steady_anyway : (held : Option HeldFiles) (Q : HeldFiles → Type 0) (result : Answer) → result ≢ Err File → IfSome held (λ h. Q h → result ≢ Err File)
steady_anyway None Q result h = tt
steady_anyway (Some held) Q result h = λ q. h
