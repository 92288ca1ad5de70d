use Rattle.std.proofs.Common.{refl, sym, ap}
use Rattle.a64_code.specs.View.{cond_number}
use Rattle.list_text.specs.Parts.{cond_name}
use Rattle.list_text.proofs.parts.name_of_cond.Goals as goal

pub returns-in-Eq : goal.returns-in-Eq
returns-in-Eq c = record { name = ap (λ c. cond_name (cond_number c)) (sym c.in-Eq.is); len = refl }

pub returns-in-Ne : goal.returns-in-Ne
returns-in-Ne c = record { name = ap (λ c. cond_name (cond_number c)) (sym c.in-Ne.is); len = refl }

pub returns-in-Hs : goal.returns-in-Hs
returns-in-Hs c = record { name = ap (λ c. cond_name (cond_number c)) (sym c.in-Hs.is); len = refl }

pub returns-in-Lo : goal.returns-in-Lo
returns-in-Lo c = record { name = ap (λ c. cond_name (cond_number c)) (sym c.in-Lo.is); len = refl }

pub returns-in-Mi : goal.returns-in-Mi
returns-in-Mi c = record { name = ap (λ c. cond_name (cond_number c)) (sym c.in-Mi.is); len = refl }

pub returns-in-Pl : goal.returns-in-Pl
returns-in-Pl c = record { name = ap (λ c. cond_name (cond_number c)) (sym c.in-Pl.is); len = refl }

pub returns-in-Vs : goal.returns-in-Vs
returns-in-Vs c = record { name = ap (λ c. cond_name (cond_number c)) (sym c.in-Vs.is); len = refl }

pub returns-in-Vc : goal.returns-in-Vc
returns-in-Vc c = record { name = ap (λ c. cond_name (cond_number c)) (sym c.in-Vc.is); len = refl }

pub returns-in-Hi : goal.returns-in-Hi
returns-in-Hi c = record { name = ap (λ c. cond_name (cond_number c)) (sym c.in-Hi.is); len = refl }

pub returns-in-Ls : goal.returns-in-Ls
returns-in-Ls c = record { name = ap (λ c. cond_name (cond_number c)) (sym c.in-Ls.is); len = refl }

pub returns-in-Ge : goal.returns-in-Ge
returns-in-Ge c = record { name = ap (λ c. cond_name (cond_number c)) (sym c.in-Ge.is); len = refl }

pub returns-in-Lt : goal.returns-in-Lt
returns-in-Lt c = record { name = ap (λ c. cond_name (cond_number c)) (sym c.in-Lt.is); len = refl }

pub returns-in-Gt : goal.returns-in-Gt
returns-in-Gt c = record { name = ap (λ c. cond_name (cond_number c)) (sym c.in-Gt.is); len = refl }

pub returns-in-Le : goal.returns-in-Le
returns-in-Le c = record { name = ap (λ c. cond_name (cond_number c)) (sym c.in-Le.is); len = refl }

pub returns-in-Al : goal.returns-in-Al
returns-in-Al c = record { name = ap (λ c. cond_name (cond_number c)) (sym c.in-Al.is); len = refl }
