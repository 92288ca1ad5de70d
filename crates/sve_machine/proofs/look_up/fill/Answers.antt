use Rattle.std.proofs.Common.{◌/◌, ◌%◌, true, refl, sym, ap, ◌∙◌}
use Rattle.std.specs.Option.{option_map}
use Rattle.std.proofs.lemmas.List.Elements.{All-set}
use Rattle.sve_machine.specs.DecodedWords.{IsDecodedFrom}
use Rattle.sve_machine.specs.Listing.{view_of}
use Rattle.sve_machine.proofs.DecodedWords.{decoded_slot_does, not_found, in_entries, found_there, no_word, undefined}
use Rattle.sve_machine.proofs.look_up.fill.Goals as goal

pub returns-in-Some-decode-clause-decoded : goal.returns-in-Some-decode-clause-decoded
returns-in-Some-decode-clause-decoded c =
    let word = sym c.fetch.ensures ∙ c.in-Some.is in
    let reads = sym c.decode.ensures ∙ ap (option_map view_of) c.in-Some-decode.is in
    All-set (IsDecodedFrom c.args.pages.now.memory) c.args.decoded.now (c.args.pc / 4 % 1024) (record { place = c.args.pc; decoded = c.with_next.result })
    (c.ranges.pc.fits, (λ s at. decoded_slot_does c.args.pages.now.memory c.args.pc c.in-Some.word (view_of c.in-Some-decode.instruction) c.ready.result word reads c.ready.ensures.same s at ∙ sym (c.with_next.ensures.same s), c.with_next.ensures.after))
    c.requires.decoded

pub returns-in_default : goal.returns-in_default
returns-in_default c = record {
  decoded = c.requires.decoded;
  found = λ d t. not_found c.stop.result c.stop.ensures.found t;
  stopped = λ s e m p. no_word c.args.pages.now.memory c.args.pc c.stop.new.answer s c.stop.ensures.answer (sym c.fetch.ensures ∙ c.in_default.is) m p;
}

pub listed : goal.listed
listed c = in_entries c.args.pc _ c.told-decoded

pub bounds-decoded-pc : goal.bounds-decoded-pc
bounds-decoded-pc c = in_entries c.args.pc 1024 refl

pub returns-in-Some-decode-clause-found : goal.returns-in-Some-decode-clause-found
returns-in-Some-decode-clause-found c d t =
    let word = sym c.fetch.ensures ∙ c.in-Some.is in
    let reads = sym c.decode.ensures ∙ ap (option_map view_of) c.in-Some-decode.is in
    found_there c.args.pages.now.memory c.args.pc c.args.decoded.now (c.args.pc / 4 % 1024) (record { place = c.args.pc; decoded = c.with_next.result }) d
    (in_entries c.args.pc _ c.told-decoded)
    (λ s at. decoded_slot_does c.args.pages.now.memory c.args.pc c.in-Some.word (view_of c.in-Some-decode.instruction) c.ready.result word reads c.ready.ensures.same s at ∙ sym (c.with_next.ensures.same s), c.with_next.ensures.after)

pub returns-in-Some-decode-clause-stopped : goal.returns-in-Some-decode-clause-stopped
returns-in-Some-decode-clause-stopped c s e m p = not_found true e refl

pub returns-in-None : goal.returns-in-None
returns-in-None c = record {
  decoded = c.requires.decoded;
  found = λ d t. not_found c.stop-in-None.result c.stop-in-None.ensures.found t;
  stopped = λ s e m p. undefined c.args.pages.now.memory c.args.pc c.in-Some.word c.from.result c.stop-in-None.new.answer s c.stop-in-None.ensures.answer c.from.ensures (sym c.fetch.ensures ∙ c.in-Some.is) (sym c.decode.ensures ∙ ap (option_map view_of) c.in-None.is) m p;
}

pub with_next-requires : goal.with_next-requires
with_next-requires c = c.ready.ensures.alone
