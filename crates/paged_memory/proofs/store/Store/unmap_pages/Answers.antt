use Rattle.std.proofs.Common.{◌≡◌, ◌+◌, ◌≤◌, length, sym, ap, ◌∙◌, subst, rules}
use Rattle.std.specs.Prelude.{All, filter}
use Rattle.std.proofs.lemmas.Fn.{filter_same}
use Rattle.paged_memory.specs.declared.head.Head.{Head}
use Rattle.paged_memory.specs.Layout.{memory_of, IsLaidOut}
use Rattle.paged_memory.proofs.Mapped.{kept_by, unmapped, laid-unmapped, kept-within}
use Rattle.paged_memory.proofs.store.Store.unmap_pages.Goals as goal

pub end_of-end-requires : goal.end_of-end-requires
end_of-end-requires c =
    let heads = c.self.inside.heads.items in
    let bs = c.self.inside.bytes.items in
    let kept : c.retain.new.self.items ≡ filter (λ (head : Head). kept_by c.args.pages.now head.number) heads = filter_same _ _ _ (λ x b f' k. search rules) _ _ c.retain.ensures.filtered in
    let most : length bs ≤ 9223372036854775808 = search rules in
    kept-within heads c.deref.result.now bs c.args.pages.now 9223372036854775808 c.self.invariant (c.deref.ensures.value ∙ kept) most

pub invariant_of-self : goal.invariant_of-self
invariant_of-self c =
    let heads = c.self.inside.heads.items in
    let bs = c.self.inside.bytes.items in
    let pages = c.args.pages.now in
    let kept : c.retain.new.self.items ≡ filter (λ (head : Head). kept_by pages head.number) heads = filter_same _ _ _ (λ x b f' k. search rules) _ _ c.retain.ensures.filtered in
    let end = c.end_of-end.result in
    let below = subst (All (λ (head : Head). head.start + 4096 ≤ end)) c.deref.ensures.value c.end_of-end.ensures in
    subst (IsLaidOut c.retain.new.self.items) (sym c.truncate.ensures.items) (laid-unmapped heads c.retain.new.self.items bs pages end c.self.invariant kept below)

pub returns : goal.returns
returns c =
    let heads = c.self.inside.heads.items in
    let bs = c.self.inside.bytes.items in
    let pages = c.args.pages.now in
    let kept : c.retain.new.self.items ≡ filter (λ (head : Head). kept_by pages head.number) heads = filter_same _ _ _ (λ x b f' k. search rules) _ _ c.retain.ensures.filtered in
    let end = c.end_of-end.result in
    let below = subst (All (λ (head : Head). head.start + 4096 ≤ end)) c.deref.ensures.value c.end_of-end.ensures in
    ap (memory_of c.retain.new.self.items) c.truncate.ensures.items
    ∙ unmapped heads c.retain.new.self.items bs pages c.args.self.now end c.self.view_is c.self.invariant kept below
