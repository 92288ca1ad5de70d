use Rattle.std.proofs.Common.{sym, ap, ◌∙◌, lit≤}
use Rattle.sve_code.specs.View.{instruction_view}
use Rattle.sve_code.specs.declared.Sve.{Sve}
use Rattle.list_text.specs.SveText.{sve_text}
use Rattle.list_text.proofs.sve.gather_load.Goals as goal

pub gather-requires : goal.gather-requires
gather-requires c = lit≤ tt

pub gather-requires-in-Ld1h : goal.gather-requires-in-Ld1h
gather-requires-in-Ld1h c = lit≤ tt

pub gather-requires-in-Ld1w : goal.gather-requires-in-Ld1w
gather-requires-in-Ld1w c = lit≤ tt

pub gather-requires-in-Ld1d : goal.gather-requires-in-Ld1d
gather-requires-in-Ld1d c = lit≤ tt

pub gather-requires-in-Ld1sb : goal.gather-requires-in-Ld1sb
gather-requires-in-Ld1sb c = lit≤ tt

pub gather-requires-in-Ld1sh : goal.gather-requires-in-Ld1sh
gather-requires-in-Ld1sh c = lit≤ tt

pub gather-requires-in-Ld1sw : goal.gather-requires-in-Ld1sw
gather-requires-in-Ld1sw c = lit≤ tt

pub returns-in-Ld1b : goal.returns-in-Ld1b
returns-in-Ld1b c = c.gather.ensures ∙ ap (λ o. sve_text (instruction_view (Sve.GatherLoad o c.args.zt c.args.rn c.args.pg c.args.zm))) (sym c.in-Ld1b.is)

pub returns-in-Ld1h : goal.returns-in-Ld1h
returns-in-Ld1h c = c.gather-in-Ld1h.ensures ∙ ap (λ o. sve_text (instruction_view (Sve.GatherLoad o c.args.zt c.args.rn c.args.pg c.args.zm))) (sym c.in-Ld1h.is)

pub returns-in-Ld1w : goal.returns-in-Ld1w
returns-in-Ld1w c = c.gather-in-Ld1w.ensures ∙ ap (λ o. sve_text (instruction_view (Sve.GatherLoad o c.args.zt c.args.rn c.args.pg c.args.zm))) (sym c.in-Ld1w.is)

pub returns-in-Ld1d : goal.returns-in-Ld1d
returns-in-Ld1d c = c.gather-in-Ld1d.ensures ∙ ap (λ o. sve_text (instruction_view (Sve.GatherLoad o c.args.zt c.args.rn c.args.pg c.args.zm))) (sym c.in-Ld1d.is)

pub returns-in-Ld1sb : goal.returns-in-Ld1sb
returns-in-Ld1sb c = c.gather-in-Ld1sb.ensures ∙ ap (λ o. sve_text (instruction_view (Sve.GatherLoad o c.args.zt c.args.rn c.args.pg c.args.zm))) (sym c.in-Ld1sb.is)

pub returns-in-Ld1sh : goal.returns-in-Ld1sh
returns-in-Ld1sh c = c.gather-in-Ld1sh.ensures ∙ ap (λ o. sve_text (instruction_view (Sve.GatherLoad o c.args.zt c.args.rn c.args.pg c.args.zm))) (sym c.in-Ld1sh.is)

pub returns-in-Ld1sw : goal.returns-in-Ld1sw
returns-in-Ld1sw c = c.gather-in-Ld1sw.ensures ∙ ap (λ o. sve_text (instruction_view (Sve.GatherLoad o c.args.zt c.args.rn c.args.pg c.args.zm))) (sym c.in-Ld1sw.is)
