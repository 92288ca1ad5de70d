use Rattle.std.proofs.Common.{◌≡◌, ℕ, refl, sym, ap, ◌∙◌}
use Rattle.a64_code.specs.View.{cond_number}
use Rattle.a64_code.specs.declared.Cond.{Cond}
use Rattle.guest_types.specs.Elements.{Flags, nzcv}
use Rattle.machine_model.specs.Arithmetic.{holds}
use Rattle.a64_machine.specs.Cores.{is_set}
use Rattle.a64_machine.proofs.FlagCases.{both, each}
use Rattle.a64_machine.proofs.conditions.holding.Goals as goal

-- a number has the bits of the flags by which a condition holds
abbrev IsHolding : (cond mask : ℕ) → Flags → Type 0
IsHolding cond mask f = is_set mask (nzcv f) ≡ holds cond f

by_cond : (cond is : Cond) (mask : ℕ) (f : Flags) → cond ≡ is → IsHolding (cond_number is) mask f → is_set mask (nzcv f) ≡ holds (cond_number cond) f
by_cond cond is mask f e h = h ∙ ap (λ k. holds (cond_number k) f) (sym e)

pub returns-in-Eq : goal.returns-in-Eq
returns-in-Eq c f = by_cond c.args.cond _ 0xf0f0 f c.in-Eq.is (each (IsHolding 0 0xf0f0) (both (both (both (both refl refl) (both refl refl)) (both (both refl refl) (both refl refl))) (both (both (both refl refl) (both refl refl)) (both (both refl refl) (both refl refl)))) f.n f.z f.c f.v)

pub returns-in-Ne : goal.returns-in-Ne
returns-in-Ne c f = by_cond c.args.cond _ 0x0f0f f c.in-Ne.is (each (IsHolding 1 0x0f0f) (both (both (both (both refl refl) (both refl refl)) (both (both refl refl) (both refl refl))) (both (both (both refl refl) (both refl refl)) (both (both refl refl) (both refl refl)))) f.n f.z f.c f.v)

pub returns-in-Hs : goal.returns-in-Hs
returns-in-Hs c f = by_cond c.args.cond _ 0xcccc f c.in-Hs.is (each (IsHolding 2 0xcccc) (both (both (both (both refl refl) (both refl refl)) (both (both refl refl) (both refl refl))) (both (both (both refl refl) (both refl refl)) (both (both refl refl) (both refl refl)))) f.n f.z f.c f.v)

pub returns-in-Lo : goal.returns-in-Lo
returns-in-Lo c f = by_cond c.args.cond _ 0x3333 f c.in-Lo.is (each (IsHolding 3 0x3333) (both (both (both (both refl refl) (both refl refl)) (both (both refl refl) (both refl refl))) (both (both (both refl refl) (both refl refl)) (both (both refl refl) (both refl refl)))) f.n f.z f.c f.v)

pub returns-in-Mi : goal.returns-in-Mi
returns-in-Mi c f = by_cond c.args.cond _ 0xff00 f c.in-Mi.is (each (IsHolding 4 0xff00) (both (both (both (both refl refl) (both refl refl)) (both (both refl refl) (both refl refl))) (both (both (both refl refl) (both refl refl)) (both (both refl refl) (both refl refl)))) f.n f.z f.c f.v)

pub returns-in-Pl : goal.returns-in-Pl
returns-in-Pl c f = by_cond c.args.cond _ 0x00ff f c.in-Pl.is (each (IsHolding 5 0x00ff) (both (both (both (both refl refl) (both refl refl)) (both (both refl refl) (both refl refl))) (both (both (both refl refl) (both refl refl)) (both (both refl refl) (both refl refl)))) f.n f.z f.c f.v)

pub returns-in-Vs : goal.returns-in-Vs
returns-in-Vs c f = by_cond c.args.cond _ 0xaaaa f c.in-Vs.is (each (IsHolding 6 0xaaaa) (both (both (both (both refl refl) (both refl refl)) (both (both refl refl) (both refl refl))) (both (both (both refl refl) (both refl refl)) (both (both refl refl) (both refl refl)))) f.n f.z f.c f.v)

pub returns-in-Vc : goal.returns-in-Vc
returns-in-Vc c f = by_cond c.args.cond _ 0x5555 f c.in-Vc.is (each (IsHolding 7 0x5555) (both (both (both (both refl refl) (both refl refl)) (both (both refl refl) (both refl refl))) (both (both (both refl refl) (both refl refl)) (both (both refl refl) (both refl refl)))) f.n f.z f.c f.v)

pub returns-in-Hi : goal.returns-in-Hi
returns-in-Hi c f = by_cond c.args.cond _ 0x0c0c f c.in-Hi.is (each (IsHolding 8 0x0c0c) (both (both (both (both refl refl) (both refl refl)) (both (both refl refl) (both refl refl))) (both (both (both refl refl) (both refl refl)) (both (both refl refl) (both refl refl)))) f.n f.z f.c f.v)

pub returns-in-Ls : goal.returns-in-Ls
returns-in-Ls c f = by_cond c.args.cond _ 0xf3f3 f c.in-Ls.is (each (IsHolding 9 0xf3f3) (both (both (both (both refl refl) (both refl refl)) (both (both refl refl) (both refl refl))) (both (both (both refl refl) (both refl refl)) (both (both refl refl) (both refl refl)))) f.n f.z f.c f.v)

pub returns-in-Ge : goal.returns-in-Ge
returns-in-Ge c f = by_cond c.args.cond _ 0xaa55 f c.in-Ge.is (each (IsHolding 10 0xaa55) (both (both (both (both refl refl) (both refl refl)) (both (both refl refl) (both refl refl))) (both (both (both refl refl) (both refl refl)) (both (both refl refl) (both refl refl)))) f.n f.z f.c f.v)

pub returns-in-Lt : goal.returns-in-Lt
returns-in-Lt c f = by_cond c.args.cond _ 0x55aa f c.in-Lt.is (each (IsHolding 11 0x55aa) (both (both (both (both refl refl) (both refl refl)) (both (both refl refl) (both refl refl))) (both (both (both refl refl) (both refl refl)) (both (both refl refl) (both refl refl)))) f.n f.z f.c f.v)

pub returns-in-Gt : goal.returns-in-Gt
returns-in-Gt c f = by_cond c.args.cond _ 0x0a05 f c.in-Gt.is (each (IsHolding 12 0x0a05) (both (both (both (both refl refl) (both refl refl)) (both (both refl refl) (both refl refl))) (both (both (both refl refl) (both refl refl)) (both (both refl refl) (both refl refl)))) f.n f.z f.c f.v)

pub returns-in-Le : goal.returns-in-Le
returns-in-Le c f = by_cond c.args.cond _ 0xf5fa f c.in-Le.is (each (IsHolding 13 0xf5fa) (both (both (both (both refl refl) (both refl refl)) (both (both refl refl) (both refl refl))) (both (both (both refl refl) (both refl refl)) (both (both refl refl) (both refl refl)))) f.n f.z f.c f.v)

pub returns-in-Al : goal.returns-in-Al
returns-in-Al c f = by_cond c.args.cond _ 0xffff f c.in-Al.is (each (IsHolding 14 0xffff) (both (both (both (both refl refl) (both refl refl)) (both (both refl refl) (both refl refl))) (both (both (both refl refl) (both refl refl)) (both (both refl refl) (both refl refl)))) f.n f.z f.c f.v)
