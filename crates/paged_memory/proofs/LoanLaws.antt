-- What a loan of a part of one page leaves, by what std says of a vector of which a part was lent.
use Rattle.std.proofs.Common.{◌≡◌, ℕ, ◌+◌, ◌/◌, ◌%◌, ◌≤◌, List, length, sym, ap, ◌∙◌, arith}
use Rattle.std.proofs.lemmas.List.{with_items_is}
use Rattle.std.specs.declared.vec.Vec.{Vec}
use Rattle.std.specs.Vec.{with_items_from}
use Rattle.guest_types.specs.Memory.{Memory}
use Rattle.guest_types.specs.Spans.{with_span}
use Rattle.paged_memory.specs.declared.head.Head.{Head}
use Rattle.paged_memory.specs.Epochs.{Saved, past_of, IsSaved}
use Rattle.paged_memory.specs.Layout.{memory_of, IsLaidOut, StandsAt}
use Rattle.paged_memory.proofs.HeadPlaces.{span-written}
use Rattle.paged_memory.proofs.Parts.{put_at, length-put_at}
use Rattle.paged_memory.proofs.Places.{start_at, within}
use Rattle.paged_memory.proofs.UndoLaws.{past_of-with_span}

-- where as many bytes are left as were lent, they stand in the range, and all other bytes are what they were
pub memory-left : {Z : Type 0} (heads : List Head) (bytes : Vec ℕ Z) (m : Memory) (a len i : ℕ) (w : List ℕ) → memory_of heads bytes.items ≡ m → IsLaidOut heads bytes.items → StandsAt heads (a / 4096) i → a % 4096 + len ≤ 4096 → length w ≡ len → memory_of heads (with_items_from bytes (start_at heads i + a % 4096) w).items ≡ with_span m a w
memory-left heads bytes m a len i w is laid here fits long =
    let at = start_at heads i + a % 4096 in
    let whole = length-put_at at w bytes.items (omega (arith, fits, long, within heads bytes.items i laid here.below)) in
    span-written heads bytes.items _ m a len i w is laid here fits long (with_items_is bytes (put_at at w bytes.items) (whole ∙ sym bytes.ok.0))

-- and the past is what it was, where the page was opened before
pub past-left : {Z : Type 0} (heads : List Head) (bytes : Vec ℕ Z) (m : Memory) (epochs : List Saved) (a len i : ℕ) (w : List ℕ) → memory_of heads bytes.items ≡ m → IsLaidOut heads bytes.items → StandsAt heads (a / 4096) i → a % 4096 + len ≤ 4096 → length w ≡ len → IsSaved epochs m (a / 4096) → past_of epochs (memory_of heads (with_items_from bytes (start_at heads i + a % 4096) w).items) ≡ past_of epochs m
past-left heads bytes m epochs a len i w is laid here fits long saved =
    ap (past_of epochs) (memory-left heads bytes m a len i w is laid here fits long) ∙ past_of-with_span epochs m a w saved
