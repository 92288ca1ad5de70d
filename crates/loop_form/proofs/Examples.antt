-- The definitions at worked kernels: what each kernel needs, its lane width and intervals, what the items of its loop do and, of
-- one, the whole listing.
use Rattle.std.proofs.Common.{◌≡◌, ℕ, ◌+◌, pos, true, false, List, [], ◌∷◌, map, Some, None, refl, zero, suc}
use Rattle.guest_types.specs.declared.length.Width.TheVariants.{B, H, S, D}
use Rattle.kernel_tree.specs.Plain.{Term, Literal, Variable, Element, Operation, Define, Put, Block, Done, Then, Program}
use Rattle.loop_form.specs.Entries.{item_type}
use Rattle.loop_form.specs.Listing.{last_use_from, listing_of}
use Rattle.loop_form.specs.declared.loop_item.Operand.TheVariants.{Constant, Outer, Made}
use Rattle.loop_form.specs.LoopItems.{item, loop_items_of}
use Rattle.loop_form.specs.LoopItems as ops
use Rattle.loop_form.specs.Streams.{streams_of}
use Rattle.loop_form.specs.Reaches.{index_reach, reaches_of}
use Rattle.reg_assign.specs.declared.interval.Interval.{Interval}
use Rattle.reg_assign.specs.declared.interval.RegClass.TheVariants.{Z, P, X}
use Rattle.loop_form.specs.Needs.{constants, most_live, needs_of, throughout, intervals}
use Rattle.loop_form.specs.Places.{value_places}
use Rattle.loop_form.specs.Lanes.{widest, lane_width_of}
use Rattle.loop_form.proofs.Kernels.{a, b, c, i, n, p, s, y, axpy, spread, running, bright, ways, choice, lasts, pairs, values, look, far, pick, casts, either, three}
use Rattle.kernel_tree.specs.declared.ops.Ty.TheVariants as ty
use Rattle.kernel_tree.specs.declared.ops.BinaryOp.TheVariants as binary
use Rattle.kernel_tree.specs.declared.ops.CompareOp.TheVariants as compare
use Rattle.kernel_tree.specs.declared.ops.UpdateOp.TheVariants as update
use Rattle.kernel_tree.specs.declared.ast.Shape.TheVariants as shape
use Rattle.loop_form.specs.declared.item.ItemKind.TheVariants as kind
use Rattle.loop_form.specs.Needs as held

-- ---- needs and lane widths

abbrev worked : List Program
worked = axpy ∷ spread ∷ running ∷ bright ∷ ways ∷ choice ∷ lasts ∷ pairs ∷ values ∷ []

worked-needs : map needs_of worked ≡
    record { size = 11; z = 3; p = 0; x = 2 }
    ∷ record { size = 5; z = 1; p = 0; x = 1 }
    ∷ record { size = 9; z = 2; p = 0; x = 2 }
    ∷ record { size = 13; z = 3; p = 0; x = 2 }
    ∷ record { size = 27; z = 5; p = 5; x = 2 }
    ∷ record { size = 21; z = 3; p = 2; x = 2 }
    ∷ record { size = 17; z = 3; p = 0; x = 3 }
    ∷ record { size = 11; z = 3; p = 0; x = 2 }
    ∷ record { size = 22; z = 0; p = 0; x = 4 }
    ∷ []
unfolding item_type last_use_from constants most_live
worked-needs = refl

worked-widths : map lane_width_of worked ≡ S ∷ B ∷ D ∷ H ∷ B ∷ S ∷ B ∷ H ∷ B ∷ []
unfolding item_type widest
worked-widths = refl

-- ---- intervals

abbrev span : ℕ → ℕ → Interval
span from last_use = record { from = from; last_use = last_use }

-- the accumulator throughout, its initial value, and what is read
running-x : intervals running X ≡ span 0 9 ∷ span 2 3 ∷ span 5 6 ∷ []
unfolding item_type last_use_from
running-x = refl

running-z : intervals running Z ≡ span 0 9 ∷ span 5 6 ∷ []
unfolding item_type last_use_from constants
running-z = refl

running-p : intervals running P ≡ []
unfolding item_type last_use_from
running-p = refl

-- two literals throughout
choice-z : intervals choice Z ≡ span 0 21 ∷ span 0 21 ∷ span 4 6 ∷ span 9 10 ∷ span 10 11 ∷ span 13 15 ∷ []
unfolding item_type last_use_from constants
choice-z = refl

-- the outer condition until `else`, `else` until the outer `end`, and the inner condition until the inner `end`
choice-p : intervals choice P ≡ span 6 12 ∷ span 12 20 ∷ span 15 19 ∷ []
unfolding item_type last_use_from
choice-p = refl

choice-x : intervals choice X ≡ span 4 6 ∷ span 5 6 ∷ span 8 10 ∷ span 9 10 ∷ span 10 11 ∷ span 13 15 ∷ span 14 15 ∷ span 17 18 ∷ []
unfolding item_type last_use_from
choice-x = refl

choice-held : throughout choice Z ≡ held.Constant (Some ty.I32) (pos 0) ∷ held.Constant (Some ty.I32) (pos 9) ∷ []
unfolding item_type constants
choice-held = refl

-- from `for`, item 3, to the outer `end`, item 20: the values come after the two literals
choice-places : value_places choice Z ≡ None ∷ Some 2 ∷ None ∷ None ∷ None ∷ None ∷ Some 3 ∷ Some 4 ∷ None ∷ None ∷ Some 5 ∷ None ∷ None ∷ None ∷ None ∷ None ∷ None ∷ None ∷ []
unfolding item_type last_use_from constants
choice-places = refl

choice-conditions : value_places choice P ≡ None ∷ None ∷ None ∷ Some 0 ∷ None ∷ None ∷ None ∷ None ∷ None ∷ Some 1 ∷ None ∷ None ∷ Some 2 ∷ None ∷ None ∷ None ∷ None ∷ None ∷ []
unfolding item_type last_use_from
choice-conditions = refl

-- v is read twice, u never
lasts-z : intervals lasts Z ≡ span 5 6 ∷ span 6 15 ∷ span 7 8 ∷ span 8 8 ∷ span 10 14 ∷ span 11 13 ∷ span 13 14 ∷ span 14 15 ∷ span 15 16 ∷ []
unfolding item_type last_use_from constants
lasts-z = refl

bright-listing : listing_of bright ≡
    record { kind = kind.Param; ty = None; x_last_use = None; z_last_use = None; p_last_use = None }
    ∷ record { kind = kind.Param; ty = None; x_last_use = None; z_last_use = None; p_last_use = None }
    ∷ record { kind = kind.For; ty = None; x_last_use = None; z_last_use = None; p_last_use = None }
    ∷ record { kind = kind.Read; ty = Some ty.U8; x_last_use = Some 4; z_last_use = Some 4; p_last_use = None }
    ∷ record { kind = kind.Cast; ty = Some ty.U16; x_last_use = Some 6; z_last_use = Some 6; p_last_use = None }
    ∷ record { kind = kind.Literal; ty = Some ty.U16; x_last_use = Some 6; z_last_use = None; p_last_use = None }
    ∷ record { kind = kind.Binary; ty = Some ty.U16; x_last_use = Some 7; z_last_use = Some 7; p_last_use = None }
    ∷ record { kind = kind.Let; ty = Some ty.U16; x_last_use = Some 10; z_last_use = Some 10; p_last_use = None }
    ∷ record { kind = kind.Name; ty = Some ty.U16; x_last_use = None; z_last_use = None; p_last_use = None }
    ∷ record { kind = kind.Literal; ty = Some ty.U16; x_last_use = Some 10; z_last_use = None; p_last_use = None }
    ∷ record { kind = kind.Binary; ty = Some ty.U16; x_last_use = Some 11; z_last_use = Some 11; p_last_use = None }
    ∷ record { kind = kind.Cast; ty = Some ty.U8; x_last_use = Some 12; z_last_use = Some 12; p_last_use = None }
    ∷ record { kind = kind.Store; ty = None; x_last_use = None; z_last_use = None; p_last_use = None }
    ∷ []
unfolding item_type last_use_from
bright-listing = refl

-- ---- what the items of loops do

-- a cast from one type to another, a literal's type, and a `let`
bright-items : loop_items_of bright ≡
    item 3 None (ops.Load p (Outer 0) (Some ty.U8) (pos 0))
    ∷ item 4 None (ops.Cast (Some ty.U8) ty.U16 (Made 3))
    ∷ item 6 None (ops.Binary binary.Add (Some ty.U16) (Made 4) (Constant (Some ty.U16) (pos 40)))
    ∷ item 7 None (ops.Let (Some ty.U16) (Made 6))
    ∷ item 10 None (ops.Binary binary.Min (Some ty.U16) (Made 7) (Constant (Some ty.U16) (pos 255)))
    ∷ item 11 None (ops.Cast (Some ty.U16) ty.U8 (Made 10))
    ∷ item 12 None (ops.Store p (Outer 0) (Some ty.U8) (pos 0) (Made 11))
    ∷ []
bright-items = refl

-- the first block under its condition, the second under `else`, and in it a block under a condition of its own
choice-items : loop_items_of choice ≡
    item 4 None (ops.Load a (Outer 0) (Some ty.I32) (pos 0))
    ∷ item 6 None (ops.Compare compare.Lt (Some ty.I32) (Made 4) (Constant (Some ty.I32) (pos 0)))
    ∷ item 9 (Some 6) (ops.Load a (Outer 0) (Some ty.I32) (pos 0))
    ∷ item 10 (Some 6) (ops.Binary binary.Sub (Some ty.I32) (Constant (Some ty.I32) (pos 0)) (Made 9))
    ∷ item 11 (Some 6) (ops.Store y (Outer 1) (Some ty.I32) (pos 0) (Made 10))
    ∷ item 12 None (ops.Not 6)
    ∷ item 13 (Some 12) (ops.Load a (Outer 0) (Some ty.I32) (pos 0))
    ∷ item 15 (Some 12) (ops.Compare compare.Gt (Some ty.I32) (Made 13) (Constant (Some ty.I32) (pos 9)))
    ∷ item 18 (Some 15) (ops.Store y (Outer 1) (Some ty.I32) (pos 0) (Constant (Some ty.I32) (pos 9)))
    ∷ []
choice-items = refl

-- `(a[i] == 1 || a[i] == 2) || (a[i] == 3 || !(a[i] == 4))`: the right side of each `||` under its mark
ways-items : loop_items_of ways ≡
    item 4 None (ops.Load a (Outer 0) (Some ty.U8) (pos 0))
    ∷ item 6 None (ops.Compare compare.Eq (Some ty.U8) (Made 4) (Constant (Some ty.U8) (pos 1)))
    ∷ item 7 None (ops.Not 6)
    ∷ item 8 (Some 7) (ops.Load a (Outer 0) (Some ty.U8) (pos 0))
    ∷ item 10 (Some 7) (ops.Compare compare.Eq (Some ty.U8) (Made 8) (Constant (Some ty.U8) (pos 2)))
    ∷ item 11 None (ops.Or 6 10)
    ∷ item 12 None (ops.Not 11)
    ∷ item 13 (Some 12) (ops.Load a (Outer 0) (Some ty.U8) (pos 0))
    ∷ item 15 (Some 12) (ops.Compare compare.Eq (Some ty.U8) (Made 13) (Constant (Some ty.U8) (pos 3)))
    ∷ item 16 (Some 12) (ops.Not 15)
    ∷ item 17 (Some 16) (ops.Load a (Outer 0) (Some ty.U8) (pos 0))
    ∷ item 19 (Some 16) (ops.Compare compare.Eq (Some ty.U8) (Made 17) (Constant (Some ty.U8) (pos 4)))
    ∷ item 20 (Some 16) (ops.Not 19)
    ∷ item 21 (Some 12) (ops.Or 15 20)
    ∷ item 22 None (ops.Or 11 21)
    ∷ item 25 (Some 22) (ops.Store y (Outer 1) (Some ty.U8) (pos 0) (Constant (Some ty.U8) (pos 1)))
    ∷ []
ways-items = refl

-- `break if a[i] == 0 || b[i] == 0`: two breaks, in the places of the mark and of the `||`
either-items : loop_items_of either ≡
    item 4 None (ops.Load a (Outer 0) (Some ty.U8) (pos 0))
    ∷ item 6 None (ops.Compare compare.Eq (Some ty.U8) (Made 4) (Constant (Some ty.U8) (pos 0)))
    ∷ item 7 None (ops.Break 6)
    ∷ item 8 None (ops.Load b (Outer 1) (Some ty.U8) (pos 0))
    ∷ item 10 None (ops.Compare compare.Eq (Some ty.U8) (Made 8) (Constant (Some ty.U8) (pos 0)))
    ∷ item 11 None (ops.Break 10)
    ∷ []
either-items = refl

-- with a third array, three: the second mark, of number 13, has no item
three-items : loop_items_of three ≡
    item 5 None (ops.Load a (Outer 0) (Some ty.U8) (pos 0))
    ∷ item 7 None (ops.Compare compare.Eq (Some ty.U8) (Made 5) (Constant (Some ty.U8) (pos 0)))
    ∷ item 8 None (ops.Break 7)
    ∷ item 9 None (ops.Load b (Outer 1) (Some ty.U8) (pos 0))
    ∷ item 11 None (ops.Compare compare.Eq (Some ty.U8) (Made 9) (Constant (Some ty.U8) (pos 0)))
    ∷ item 12 None (ops.Break 11)
    ∷ item 14 None (ops.Load c (Outer 2) (Some ty.U8) (pos 0))
    ∷ item 16 None (ops.Compare compare.Eq (Some ty.U8) (Made 14) (Constant (Some ty.U8) (pos 0)))
    ∷ item 17 None (ops.Break 16)
    ∷ []
three-items = refl

-- what they need is counted by the listing, which keeps the mark and the `||`
break-needs : map needs_of (either ∷ three ∷ []) ≡ record { size = 13; z = 2; p = 3; x = 2 } ∷ record { size = 19; z = 2; p = 3; x = 2 } ∷ []
unfolding item_type last_use_from constants most_live
break-needs = refl

-- an update, by the accumulator's name and the element's type
running-items : loop_items_of running ≡
    item 5 None (ops.Load a (Outer 0) (Some ty.U64) (pos 0))
    ∷ item 6 None (ops.Update s update.Add (Some ty.U64) (Made 5))
    ∷ item 8 None (ops.Store a (Outer 0) (Some ty.U64) (pos 0) (Outer 2))
    ∷ []
running-items = refl

axpy-streams : streams_of axpy ≡
    record { param = 0; offset = pos 0; store = false; item = 5 }
    ∷ record { param = 1; offset = pos 0; store = false; item = 7 }
    ∷ record { param = 0; offset = pos 0; store = true; item = 10 }
    ∷ []
axpy-streams = refl

lasts-streams : streams_of lasts ≡
    record { param = 0; offset = pos 0; store = false; item = 5 }
    ∷ record { param = 1; offset = pos 0; store = false; item = 7 }
    ∷ record { param = 1; offset = pos 0; store = false; item = 10 }
    ∷ record { param = 1; offset = pos 1; store = false; item = 11 }
    ∷ record { param = 2; offset = pos 0; store = true; item = 16 }
    ∷ []
lasts-streams = refl

-- the name v and a number
abbrev numbered : ℕ → List ℕ
numbered m = 118 ∷ (48 + m) ∷ []

abbrev place : ℕ → Term
place zero = Variable i
place (suc m) = Operation binary.Add (Variable i) (Literal (pos (suc m)))

abbrev total : ℕ → Term
total zero = Variable (numbered 0)
total (suc m) = Operation binary.Add (total m) (Variable (numbered (suc m)))

-- so many lets from a number on, and the store after them
abbrev lets : ℕ → ℕ → Block
lets zero m = Then (Put y (Variable i) (total 39)) Done
lets (suc rest) m = Then (Define (numbered m) None (Element a (place m))) (lets rest (suc m))

-- forty elements are read before the first is used: let v0 = a[i]; .. let v39 = a[i + 39]; y[i] = v0 + .. + v39;
abbrev many : Program
many = record {
  name = [];
  params = record { name = a; shape = shape.Array ty.U8 } ∷ record { name = y; shape = shape.Array ty.U8 } ∷ record { name = n; shape = shape.Scalar ty.U64 } ∷ [];
  vars = [];
  for_loop = Some (record { index = i; bound = n; body = lets 40 0 });
  answer = None;
}

many-needs : needs_of many ≡ record { size = 164; z = 40; p = 0; x = 40 }
unfolding item_type last_use_from constants most_live
many-needs = refl

-- ---- how far computed indexes reach

-- by items from 0 on: only the read of t has a reach
look-reaches : map (index_reach look) (4 ∷ 5 ∷ 6 ∷ 7 ∷ 8 ∷ 9 ∷ []) ≡ None ∷ None ∷ Some 256 ∷ None ∷ None ∷ None ∷ []
unfolding item_type
look-reaches = refl

far-reaches : reaches_of far ≡ []
unfolding item_type
far-reaches = refl

pick-reaches : reaches_of pick ≡ []
unfolding item_type
pick-reaches = refl

-- what was cut to a byte comes from it, and a word reaches no end; a stream index is no computed one
casts-reaches : reaches_of casts ≡ record { param = 0; reach = 65536 } ∷ record { param = 0; reach = 256 } ∷ []
unfolding item_type
casts-reaches = refl
