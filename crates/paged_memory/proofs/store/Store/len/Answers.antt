use Rattle.std.proofs.Common.{◌≡◌, length, rules, sym, ◌∙◌, vec_len}
use Rattle.paged_memory.proofs.HeadPlaces.{length-pages}
use Rattle.paged_memory.proofs.store.Store.len.Goals as goal

pub returns-clause-value : goal.returns-clause-value
returns-clause-value c =
    let count : vec_len c.self.inside.heads ≡ length c.self.inside.heads.items = search rules in
    c.len.ensures ∙ count ∙ sym (length-pages c.self.inside.heads.items c.self.inside.bytes.items c.args.self.now c.self.view_is)
