use Rattle.std.proofs.Common.{ℕ, Option, sym, ap, ap₂, ◌∙◌}
use Rattle.kernel_tree.specs.Plain.{term_of}
use Rattle.loop_form.specs.Reaches.{read_reach, reached, reach_in}
use Rattle.loop_form.specs.Streams.{place_of}
use Rattle.loop_form.specs.View.{program, content_of}
use Rattle.loop_lists.proofs.Trees.{params_listed}
use Rattle.loop_lists.proofs.reached.reach_in.Goals as goal

pub returns-in_err-param-in-Read : goal.returns-in_err-param-in-Read
returns-in_err-param-in-Read c =
    let k = program c.args.kernel.now in
    let item = c.args.entry.now.item in
    let params = params_listed c.args.kernel.now c.kernel.result.now c.kernel.ensures c.deref.result.now c.deref.ensures.value in
    let place = sym (c.param_place.ensures.place ∙ ap (place_of c.in-Read.array.now) params) ∙ c.in_err-param-in-Read.was in
    c.from_residual.ensures ∙ sym (ap (λ x. reach_in k (content_of x) item) c.in-Read.is ∙ ap (λ (o : Option ℕ). reached o (read_reach k (term_of c.in-Read.index.now) item)) place)

pub returns-in_err-reach-in-Read : goal.returns-in_err-reach-in-Read
returns-in_err-reach-in-Read c =
    let k = program c.args.kernel.now in
    let item = c.args.entry.now.item in
    let params = params_listed c.args.kernel.now c.kernel.result.now c.kernel.ensures c.deref.result.now c.deref.ensures.value in
    let place = sym (c.param_place.ensures.place ∙ ap (place_of c.in-Read.array.now) params) ∙ c.in_ok-param-in-Read.was in
    let reach = sym c.reach_of_index.ensures ∙ c.in_err-reach-in-Read.was in
    c.from_residual-in_err-reach-in-Read.ensures ∙ sym (ap (λ x. reach_in k (content_of x) item) c.in-Read.is ∙ ap₂ reached place reach)

pub returns-in_ok-reach-in-Read : goal.returns-in_ok-reach-in-Read
returns-in_ok-reach-in-Read c =
    let k = program c.args.kernel.now in
    let item = c.args.entry.now.item in
    let params = params_listed c.args.kernel.now c.kernel.result.now c.kernel.ensures c.deref.result.now c.deref.ensures.value in
    let place = sym (c.param_place.ensures.place ∙ ap (place_of c.in-Read.array.now) params) ∙ c.in_ok-param-in-Read.was in
    let reach = sym c.reach_of_index.ensures ∙ c.in_ok-reach-in-Read.was in
    sym (ap (λ x. reach_in k (content_of x) item) c.in-Read.is ∙ ap₂ reached place reach)
