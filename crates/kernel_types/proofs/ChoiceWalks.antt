-- The walks over the condition and the blocks of an `if`, put together.
use Rattle.std.proofs.Common.{◌≡◌, ℕ, ◌+◌, List, [], ◌∷◌, ◌++◌, Option, None, sym, ap, ap₂, ◌∙◌, arith}
use Rattle.std.proofs.lemmas.List.{append-nil}
use Rattle.kernel_tree.specs.declared.fault.Found.{Found}
use Rattle.kernel_tree.specs.Plain.{Term, Block, Choose, Nothing, Else}
use Rattle.kernel_tree.specs.Items.{term_size, action_size, block_size}
use Rattle.kernel_tree.specs.Typing.{Scope, Condition, left, after_block, faults, action_faults, block_faults, term_types, action_types, block_types, sooner, least}
use Rattle.kernel_types.specs.declared.notes.Notes.{Notes}
use Rattle.kernel_types.specs.Parts.{Adds}
use Rattle.kernel_types.proofs.ListWalks.{two_parts}
use Rattle.kernel_types.proofs.TypeLists.{after_mark}

-- ---- with one block

pub one_found : (s : Scope) (n m : ℕ) (o p q : Option Found) (c : Term) (b : Block) → m ≡ n + (term_size s.index c + 1) → p ≡ sooner o (least (faults s n Condition c)) → q ≡ sooner p (least (block_faults s m b)) → q ≡ sooner o (least (action_faults s n (Choose c b Nothing)))
one_found s n m o p q c b d e f =
    let at : m ≡ n + term_size s.index c + 1 = omega arith in
    let fs = faults s n Condition c in
    let gs = block_faults s (n + term_size s.index c + 1) b in
    f
    ∙ ap (λ (k : ℕ). sooner p (least (block_faults s k b))) at
    ∙ two_parts o p fs gs e
    ∙ ap (λ (hs : List Found). sooner o (least (fs ++ hs))) (sym (append-nil gs))

pub one_types : {m n o : Notes} (s : Scope) (c : Term) (b : Block) → Adds m n (term_types s Condition c ++ None ∷ []) → Adds n o (block_types s b ++ None ∷ []) → Adds m o (action_types s (Choose c b Nothing))
one_types s c b e f = after_mark (term_types s Condition c) e f

-- ---- with two blocks

pub two_next : (s t : Scope) (n m l k : ℕ) (c : Term) (b d : Block) → t ≡ left s (after_block s b) → m ≡ n + (term_size s.index c + 1) → l ≡ m + (block_size s.index b + 1) → k ≡ l + (block_size t.index d + 1) → k ≡ n + action_size s.index (Choose c b (Else d))
two_next s t n m l k c b d g e f h =
    let i : block_size t.index d ≡ block_size s.index d = ap (λ (x : Scope). block_size x.index d) g in
    omega arith

pub two_found : (s t : Scope) (n m l : ℕ) (o p q r : Option Found) (c : Term) (b d : Block) → t ≡ left s (after_block s b) → m ≡ n + (term_size s.index c + 1) → l ≡ m + (block_size s.index b + 1) → p ≡ sooner o (least (faults s n Condition c)) → q ≡ sooner p (least (block_faults s m b)) → r ≡ sooner q (least (block_faults t l d)) → r ≡ sooner o (least (action_faults s n (Choose c b (Else d))))
two_found s t n m l o p q r c b d g i j e f h =
    let at : m ≡ n + term_size s.index c + 1 = omega arith in
    let past : l ≡ n + term_size s.index c + 1 + block_size s.index b + 1 = omega arith in
    let fs = faults s n Condition c in
    let gs = block_faults s (n + term_size s.index c + 1) b in
    let hs = block_faults (left s (after_block s b)) (n + term_size s.index c + 1 + block_size s.index b + 1) d in
    let first = f ∙ ap (λ (k : ℕ). sooner p (least (block_faults s k b))) at in
    h
    ∙ ap₂ (λ (x : Scope) (k : ℕ). sooner q (least (block_faults x k d))) g past
    ∙ two_parts p q gs hs first
    ∙ two_parts o p fs (gs ++ hs) e

pub two_types : {m n o p : Notes} (s t : Scope) (c : Term) (b d : Block) → t ≡ left s (after_block s b) → Adds m n (term_types s Condition c ++ None ∷ []) → Adds n o (block_types s b ++ None ∷ []) → Adds o p (block_types t d ++ None ∷ []) → Adds m p (action_types s (Choose c b (Else d)))
two_types s t c b d g e f h = after_mark (term_types s Condition c) e (after_mark (block_types s b) f (rw g at h))
