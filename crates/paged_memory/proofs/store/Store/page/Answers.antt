use Rattle.std.proofs.Common.{◌≡◌, ◌+◌, ◌-◌, ◌<◌, length, take, drop, sym, ap, ap₂, ◌∙◌, arith}
use Rattle.paged_memory.specs.Epochs.{bytes_at}
use Rattle.paged_memory.proofs.HeadPlaces.{length-pages, start-read}
use Rattle.paged_memory.proofs.PageLaws.{bytes_at-memory_of}
use Rattle.paged_memory.proofs.store.Store.page.Goals as goal

pub returns-clause-value : goal.returns-clause-value
returns-clause-value c =
    let heads = c.self.inside.heads.items in
    let bs = c.self.inside.bytes.items in
    let p = c.args.place in
    let at = c.index.result.now.start in
    let below : p < length heads = omega (arith, length-pages heads bs c.args.self.now c.self.view_is, c.requires) in
    let size : at + 4096 - at ≡ 4096 = omega arith in
    ap₂ (λ n l. take n (drop at l)) size c.deref.ensures.value
    ∙ ap (λ n. take 4096 (drop n bs)) (start-read heads p c.index.result.now below c.index.ensures)
    ∙ sym (bytes_at-memory_of heads bs p below)
    ∙ ap (λ m. bytes_at m p) c.self.view_is
