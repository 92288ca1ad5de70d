use Rattle.std.proofs.Common.{◌≡◌, ◌+◌, ◌-◌, ◌%◌, sym, ap, ◌∙◌, subst, arith}
use Rattle.paged_memory.specs.Epochs.{IsKept}
use Rattle.paged_memory.specs.Layout.{memory_of}
use Rattle.paged_memory.proofs.HeadPlaces.{stands-place, start-read, part-span}
use Rattle.paged_memory.proofs.Places.{page_numbers-memory_of}
use Rattle.paged_memory.proofs.UndoLaws.{kept-numbers}
use Rattle.paged_memory.proofs.pages.Pages.lend.Goals as goal

pub invariant_of-self-lent : goal.invariant_of-self-lent
invariant_of-self-lent c w =
    kept-numbers _ _ _ _ (page_numbers-memory_of _ _ ∙ sym (page_numbers-memory_of _ _))
    (subst (λ p. IsKept p.store p.log p.opened) (sym c.self-inside.view_is) c.self.invariant)

pub returns : goal.returns
returns c =
    let heads = c.self-inside.inside.0.0.heads.items in
    let bs = c.self-inside.inside.0.0.bytes.items in
    let m = c.args.self.now.memory in
    let a = c.args.address in
    let len = c.args.len in
    let i = c.args.place in
    let at = c.index.result.now.start + a % 4096 in
    let is : memory_of heads bs ≡ m = ap (λ p. p.store) c.self-inside.view_is ∙ ap (λ p. p.memory) c.self.view_is in
    let here = stands-place heads bs m a len i is c.requires in
    let start = ap (λ n. n + a % 4096) (start-read heads i c.index.result.now here.below c.index.ensures) in
    let size : at + len - at ≡ len = omega arith in record {
      value = c.slice_mut.ensures.value ∙ part-span heads bs m a len i at (at + len - at) is c.self-inside.invariant here c.requires.inside start size;
      len = c.slice_mut.ensures.len ∙ size;
    }
