-- The first numbers of some seeds, from another program.
use Rattle.std.proofs.Common.{◌≡◌, [], ◌∷◌, refl}
use Rattle.sweep_kernel.specs.Numbers.{next, state_at, offset_of, level_of, initial_of, arguments_of}
use Rattle.sweep_kernel.specs.Pages.{low_bytes}

zero-next : next 0 ≡ 1442695040888963407
unfolding next
zero-next = refl

one-offset : offset_of 1 ≡ 6
unfolding next state_at
one-offset = refl

one-level : level_of 1 ≡ 384
unfolding next state_at
one-level = refl

one-initial : initial_of 1 ≡ 90
unfolding next state_at
one-initial = refl

one-arguments : arguments_of 1 ≡ 0x1000000 ∷ 0x2000000 ∷ 0x3000000 ∷ 25091 ∷ 100130 ∷ []
unfolding next state_at
one-arguments = refl

-- the greatest seed
last-arguments : arguments_of 0xffffffffffffffff ≡ 0x1000000 ∷ 0x2000000 ∷ 0x3000000 ∷ 27496 ∷ 100688 ∷ []
unfolding next state_at
last-arguments = refl

one-bytes : low_bytes 1 6 4 ≡ 33 ∷ 206 ∷ 191 ∷ 248 ∷ []
unfolding next state_at low_bytes
one-bytes = refl
