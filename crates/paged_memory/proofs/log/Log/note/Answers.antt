use Rattle.std.proofs.Common.{◌≡◌, ◌-◌, ◌≤◌, [], ◌∷◌, ◌++◌, length, take, drop, set, get_or, rules, sym, ap, ap₂, ◌∙◌, subst, arith, vec_len}
use Rattle.std.proofs.lemmas.List.Elements.{All-append, All-drop, All-take}
use Rattle.paged_memory.proofs.EpochRows.{row_of_new_epoch, some_taken, count_more}
use Rattle.paged_memory.proofs.log.Log.note.Goals as goal

pub returns-clause-begun : goal.returns-clause-begun
returns-clause-begun c =
    let xs = c.self.inside.epochs.items in
    let pages = c.self.inside.pages in
    let count = c.self.inside.count in
    let n : vec_len c.self.inside.epochs ≡ length xs = search rules in
    let some : 1 ≤ count = some_taken count xs (omega (arith, c.requires, ap (λ l. length l.epochs) c.self.view_is)) in
    let eight = c.self.invariant.eight some in
    let last : vec_len c.self.inside.epochs - 1 ≡ 7 = omega (arith, n, eight) in
    let row = c.rotate_right.ensures.items ∙ ap (λ k. drop k xs ++ take k xs) last in
    let alike = All-append (λ saved. saved.pages ≡ pages) (drop 7 xs) (take 7 xs) (All-drop (λ saved. saved.pages ≡ pages) 7 xs c.self.invariant.alike) (All-take (λ saved. saved.pages ≡ pages) 7 xs c.self.invariant.alike) in
    let first = c.index_mut.result.now in
    let long : length (drop 7 xs ++ take 7 xs) ≡ length c.rotate_right.new.self.items = ap length (sym row) in
    let rotated : length c.rotate_right.new.self.items ≡ length xs = search rules in
    let same : first.pages ≡ pages = subst (λ saved. saved.pages ≡ pages) (sym (c.index_mut.ensures.value ∙ ap (λ l. get_or l 0 first) row)) (alike 0 first (omega (arith, long, rotated, eight))) in
    let whole = ap (λ l. l.pages) c.self.view_is in
    let fresh = c.clear.ensures ∙ ap (λ p. record { pages = p; places = []; images = [] }) (same ∙ whole) in
    let k = c.min-self-inside.result in
    ap₂ (λ p e. record { pages = p; epochs = e }) whole (
    ap (λ l. take k (set l 0 c.clear.new.self)) row
    ∙ row_of_new_epoch xs count k c.clear.new.self eight c.self.invariant.most (count_more count k c.min-self-inside.ensures)
    ∙ ap₂ (λ x l. x ∷ take 7 l) fresh (ap (λ l. l.epochs) c.self.view_is)
    )
