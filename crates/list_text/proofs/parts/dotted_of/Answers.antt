use Rattle.std.proofs.Common.{refl, sym, ap}
use Rattle.sve_code.specs.Numbers.{size_number}
use Rattle.list_text.specs.Parts.{dotted}
use Rattle.list_text.proofs.parts.dotted_of.Goals as goal

pub returns-in-B : goal.returns-in-B
returns-in-B c = record { name = ap (λ s. dotted (size_number s)) (sym c.in-B.is); len = refl }

pub returns-in-H : goal.returns-in-H
returns-in-H c = record { name = ap (λ s. dotted (size_number s)) (sym c.in-H.is); len = refl }

pub returns-in-S : goal.returns-in-S
returns-in-S c = record { name = ap (λ s. dotted (size_number s)) (sym c.in-S.is); len = refl }

pub returns-in-D : goal.returns-in-D
returns-in-D c = record { name = ap (λ s. dotted (size_number s)) (sym c.in-D.is); len = refl }
