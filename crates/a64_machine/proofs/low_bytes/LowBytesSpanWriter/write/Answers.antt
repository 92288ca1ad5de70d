use Rattle.std.proofs.Common.{◌≡◌, ℕ, ◌+◌, List, ◌++◌, length, ap, ◌∙◌, arith}
use Rattle.std.proofs.lemmas.List.{append-nil, drop_all}
use Rattle.guest_types.specs.Elements.{bytes_of}
use Rattle.paged_memory.specs.Numbers.{with_number}
use Rattle.a64_machine.proofs.low_bytes.LowBytesSpanWriter.write.Goals as goal

-- a number that is as long as what it replaces
whole_number : (bs : List ℕ) (s v : ℕ) → s ≡ length bs → with_number bs 0 s v ≡ bytes_of s v
unfolding with_number
whole_number bs s v long = ap (λ r. bytes_of s v ++ r) (drop_all (0 + s) bs (omega (arith, long))) ∙ append-nil (bytes_of s v)

pub returns : goal.returns
returns c = c.put_number.ensures ∙ whole_number c.args.part.now c.args.self.now.size c.args.self.now.value c.requires.0
