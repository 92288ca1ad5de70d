use Rattle.std.proofs.Common.{◌≡◌, ℕ, suc, ◌+◌, List, ◌++◌, ap, ◌∙◌, arith}
use Rattle.std.proofs.lemmas.Result.{on_ok_weaker}
use Rattle.guest_types.specs.declared.length.Width.{Width}
use Rattle.loop_form.specs.LoopItems.{Item}
use Rattle.loop_form.specs.LoopView.{view}
use Rattle.chunk_emit.specs.Registers.{Layout}
use Rattle.chunk_emit.specs.View.{layout_in, width_in}
use Rattle.vector_emit.specs.Parts.{chunk_part, iteration_part}
use Rattle.vector_emit.proofs.passes.emit_breaking.Goals as goal

pub returns : goal.returns
returns c =
    let w : Width = width_in c.args.layout.now in
    let l : Layout = layout_in c.args.layout.now in
    let items : List Item = view c.args.items.now in
    let n : ℕ = c.args.draft.now.labels in
    let next : n + 1 ≡ suc n = omega arith in
    let end : c.in_ok-end.end ≡ suc n = c.in_ok-end.ensures.next ∙ c.in_ok-head.ensures.count ∙ next in
    on_ok_weaker c.emit_iteration_part.result (λ p. record {
      labels = omega (arith, p.labels, c.in_ok-emit_chunk_part.ensures.labels, c.in_ok-end.ensures.count, c.in_ok-head.ensures.count);
      code = λ rest.
          p.code rest
          ∙ c.in_ok-emit_chunk_part.ensures.code (iteration_part w l items c.in_ok-head.head c.in_ok-end.end rest)
          ∙ ap (λ es. es ++ chunk_part w l c.args.bound.number items c.in_ok-head.head c.in_ok-end.end (iteration_part w l items c.in_ok-head.head c.in_ok-end.end rest)) (c.in_ok-end.ensures.entries ∙ c.in_ok-head.ensures.entries)
          ∙ ap (λ h. c.args.draft.now.entries ++ chunk_part w l c.args.bound.number items h c.in_ok-end.end (iteration_part w l items h c.in_ok-end.end rest)) c.in_ok-head.ensures.next
          ∙ ap (λ e. c.args.draft.now.entries ++ chunk_part w l c.args.bound.number items n e (iteration_part w l items n e rest)) end
          ∙ ap (λ b. c.args.draft.now.entries ++ chunk_part w l b items n (suc n) (iteration_part w l items n (suc n) rest)) c.requires.bound;
    })
    c.emit_iteration_part.ensures
