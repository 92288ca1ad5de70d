use Rattle.std.proofs.Common.{◌≡◌, length, sym, ap, ap₂, ◌∙◌, subst, arith, rules, refl}
use Rattle.guest_types.specs.Memory.{IsMemory, DoNotMeet, merged}
use Rattle.paged_memory.specs.Layout.{memory_of, IsLaidOut, heads_from, joined}
use Rattle.paged_memory.proofs.HeadPlaces.{length-pages}
use Rattle.paged_memory.proofs.Mapped.{memory-mapped, laid-mapped, length-heads_from}
use Rattle.guest_types.proofs.Errors.{on_error, in_error}
use Rattle.paged_memory.proofs.store.Store.map_pages.Goals as goal

pub join-requires : goal.join-requires
join-requires c =
    let heads = c.self.inside.heads.items in
    let pages = c.args.pages.now in
    let more = ap length (c.deref.ensures.value ∙ c.in_ok-more.ensures) ∙ length-heads_from c.len.result pages in
    omega (arith, more, ap length c.deref-2.ensures.value, c.requires.few, length-pages heads c.self.inside.bytes.items c.args.self.now c.self.view_is)

pub invariant_of-self-2 : goal.invariant_of-self-2
invariant_of-self-2 c =
    let heads = c.self.inside.heads.items in
    let bs = c.self.inside.bytes.items in
    let pages = c.args.pages.now in
    let m = c.args.self.now in
    let size : c.len.result ≡ length bs = search rules in
    let now = c.in_ok-heads.ensures ∙ ap₂ joined (c.deref.ensures.value ∙ c.in_ok-more.ensures ∙ ap (λ n. heads_from n pages) size) c.deref-2.ensures.value in
    let laid = laid-mapped heads bs pages c.self.invariant c.requires.pages (subst IsMemory (sym c.self.view_is) c.is_memory.ensures) (subst (DoNotMeet pages) (sym c.self.view_is) c.requires.apart)
    (omega (arith, c.requires.few, length-pages heads bs m c.self.view_is)) in
    subst (λ l. IsLaidOut l c.append.new.bytes.items) (sym now) (subst (IsLaidOut (joined (heads_from (length bs) pages) heads)) (sym c.in_ok-append.ensures.done) laid)

pub returns-clause-memory : goal.returns-clause-memory
returns-clause-memory c =
    let heads = c.self.inside.heads.items in
    let bs = c.self.inside.bytes.items in
    let pages = c.args.pages.now in
    let size : c.len.result ≡ length bs = search rules in
    let now = c.in_ok-heads.ensures ∙ ap₂ joined (c.deref.ensures.value ∙ c.in_ok-more.ensures ∙ ap (λ n. heads_from n pages) size) c.deref-2.ensures.value in
    ap₂ memory_of now c.in_ok-append.ensures.done
    ∙ memory-mapped heads bs pages c.self.invariant c.requires.pages
    ∙ ap (merged pages) c.self.view_is

pub heads_of-requires-clause-few : goal.heads_of-requires-clause-few
heads_of-requires-clause-few c = omega (arith, c.requires.few)

pub append-requires : goal.append-requires
append-requires c = omega (arith, c.requires.few)

pub returns-in_err-more : goal.returns-in_err-more
returns-in_err-more c = record { memory = on_error _ _ c.from_residual.ensures.0; unchanged = in_error _ refl }

pub returns-in_err-heads : goal.returns-in_err-heads
returns-in_err-heads c = record { memory = on_error _ _ c.from_residual-in_err-heads.ensures.0; unchanged = in_error _ refl }

pub returns-in_err-append : goal.returns-in_err-append
returns-in_err-append c = record {
  memory = on_error _ _ c.from_residual-in_err-append.ensures.0;
  unchanged = in_error _ (ap (memory_of c.self.inside.heads.items) c.in_err-append.ensures.unchanged ∙ c.self.view_is);
}
