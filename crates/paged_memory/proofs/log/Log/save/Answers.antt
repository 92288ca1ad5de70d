use Rattle.std.proofs.Common.{◌≡◌, ◌≤◌, length, sym, ap, ◌∙◌, arith, length-set, subst}
use Rattle.std.proofs.lemmas.List.Elements.{All-set}
use Rattle.paged_memory.specs.Epochs.{IsSavedAt, past_of}
use Rattle.paged_memory.proofs.FirstEpochs.{first-saved, first-kept, first-past}
use Rattle.paged_memory.proofs.log.Log.save.Goals as goal

pub index_mut-requires : goal.index_mut-requires
index_mut-requires c =
    let some : 1 ≤ c.self.inside.count = omega (arith, c.if-self-gt0.true) in
    omega (arith, c.self.invariant.eight some, c.self.inside.epochs.ok.0)

pub save-requires : goal.save-requires
save-requires c =
    let some : 1 ≤ c.self.inside.count = omega (arith, c.if-self-gt0.true) in
    let first = c.index_mut.result.now in
    let same : first.pages ≡ c.self.inside.pages = ap (λ s. s.pages) c.index_mut.ensures.value ∙ c.self.invariant.alike 0 first (omega (arith, c.self.invariant.eight some)) in
    record { inside = omega (arith, c.requires.inside, ap (λ s. s.pages) c.self.view_is, same); whole = c.requires.whole }

pub invariant_of-self : goal.invariant_of-self
invariant_of-self c =
    let xs = c.self.inside.epochs.items in
    let some : 1 ≤ c.self.inside.count = omega (arith, c.if-self-gt0.true) in
    let first = c.index_mut.result.now in
    let same : first.pages ≡ c.self.inside.pages = ap (λ s. s.pages) c.index_mut.ensures.value ∙ c.self.invariant.alike 0 first (omega (arith, c.self.invariant.eight some)) in
    record {
      few = c.self.invariant.few;
      most = c.self.invariant.most;
      eight = λ h. length-set xs 0 c.save.new.self ∙ c.self.invariant.eight h;
      alike = All-set (λ saved. saved.pages ≡ c.self.inside.pages) xs 0 c.save.new.self (c.save.ensures.pages ∙ same) c.self.invariant.alike;
    }

pub returns-then-self-gt0 : goal.returns-then-self-gt0
returns-then-self-gt0 c =
    let xs = c.self.inside.epochs.items in
    let n = c.self.inside.count in
    let some : 1 ≤ n = omega (arith, c.if-self-gt0.true) in
    let first = c.index_mut.result.now in
    let filled : 1 ≤ length xs = omega (arith, c.self.invariant.eight some) in
    record {
      pages = ap (λ l. l.pages) c.self.view_is;
      saved = first-saved n xs c.save.new.self c.args.place some filled c.save.ensures.saved;
      kept = λ other was. first-kept n xs c.save.new.self first other some filled c.index_mut.ensures.value (c.save.ensures.kept other) (subst (λ l. IsSavedAt other l.epochs) (sym c.self.view_is) was);
      same = λ memory e. first-past n xs c.save.new.self first memory some filled c.index_mut.ensures.value (c.save.ensures.same memory e) ∙ ap (λ l. past_of l.epochs memory) c.self.view_is;
    }
