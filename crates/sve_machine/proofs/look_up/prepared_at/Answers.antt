use Rattle.std.proofs.Common.{sym, ap, ◌∙◌}
use Rattle.std.specs.Option.{option_map}
use Rattle.sve_machine.specs.declared.decoded.Decoded.TheVariants.{Ready}
use Rattle.sve_machine.specs.DecodedWords.{decoded_does}
use Rattle.sve_machine.specs.Listing.{view_of}
use Rattle.sve_machine.proofs.DecodedWords.{decoded_slot_does}
use Rattle.sve_machine.proofs.look_up.prepared_at.Goals as goal

pub returns-in-Ready : goal.returns-in-Ready
returns-in-Ready c =
    let word = sym c.fetch.ensures ∙ c.in-Some.is in
    let reads = sym c.decode.ensures ∙ ap (option_map view_of) c.in-Some-decode.is in
    decoded_slot_does c.args.pages.now.memory c.args.pc c.in-Some.word (view_of c.in-Some-decode.instruction) (Ready c.in-Ready.prepared) word reads
    (λ s at. c.ready.ensures.same s at ∙ ap (λ k. decoded_does k s) c.in-Ready.is)
