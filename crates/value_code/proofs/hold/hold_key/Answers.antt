use Rattle.std.proofs.Common.{true, false, ap, ◌∙◌}
use Rattle.std.specs.Prelude.{option_map}
use Rattle.scalar_words.specs.View.{key_of, register_number}
use Rattle.value_code.proofs.TermCode.{on_ok}
use Rattle.value_code.proofs.HeldKeys.{held_there, held_by, room_left}
use Rattle.value_code.proofs.hold.hold_key.Goals as goal

pub has_room-requires : goal.has_room-requires
has_room-requires c = c.requires

pub add_key-requires : goal.add_key-requires
add_key-requires c = room_left c.args.params c.deref-in-None.result.now c.args.constants.now.items c.has_room.result c.deref-in-None.ensures.value c.has_room.ensures c.if-has_room.true

pub returns-in-Some : goal.returns-in-Some
returns-in-Some c = held_there c.args.params (key_of c.args.key) c.deref.result.now c.args.constants.now.items c.deref.ensures.value (option_map register_number c.constant_in.result) c.constant_in.ensures (register_number c.in-Some.field-0) (ap (option_map register_number) c.in-Some.is)

pub returns-then-has_room : goal.returns-then-has_room
returns-then-has_room c = on_ok c.add_key.result c.add_key.ensures (λ p. p ∙ held_by c.args.params (key_of c.args.key) c.deref.result.now c.args.constants.now.items c.deref.ensures.value (option_map register_number c.constant_in.result) c.constant_in.ensures c.has_room.result c.deref-in-None.result.now c.deref-in-None.ensures.value c.has_room.ensures (ap (option_map register_number) c.in-None.is) true c.if-has_room.true)

pub returns-else-has_room : goal.returns-else-has_room
returns-else-has_room c = held_by c.args.params (key_of c.args.key) c.deref.result.now c.args.constants.now.items c.deref.ensures.value (option_map register_number c.constant_in.result) c.constant_in.ensures c.has_room.result c.deref-in-None.result.now c.deref-in-None.ensures.value c.has_room.ensures (ap (option_map register_number) c.in-None.is) false c.if-has_room.false
