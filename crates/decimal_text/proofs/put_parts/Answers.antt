use Prim.Native.Nat.{◌+◌, ◌≤◌}
use native.Mathlib.Omega.{arith}
use lib.ListN.{length}
use lib.Dec.{lit<}
use Rattle.numerals.proofs.Sizes.{size-most}
use Rattle.decimal_text.proofs.Texts.{measured, room, no_room, tail-most, parts_none, parts_whole, parts-text, parts-both}
use Rattle.decimal_text.proofs.put_parts.Goals as goal

pub overflow_add-total : goal.overflow_add-total
overflow_add-total c =
    let m = measured c.args.whole _ _ c.args.d (omega arith) c.digit_count-size.ensures c.tail_length.ensures in
    omega (
      arith,
      size-most 20 c.args.whole c.digit_count-size.result (lit< tt) m.sized (omega arith),
      tail-most c.tail_length.result c.args.d.count c.tail_length.ensures c.requires,
    )

pub returns-then-not-has_room : goal.returns-then-not-has_room
returns-then-not-has_room c =
    let m = measured c.args.whole _ _ c.args.d (omega arith) c.digit_count-size.ensures c.tail_length.ensures in
    let given = c.args in
    parts_none m given.out.now given.at
    (no_room given.at (c.digit_count-size.result + c.tail_length.result)
    (length given.out.now) c.has_room.result c.has_room.ensures c.if-not-has_room.true)

pub returns-then-count-eq0 : goal.returns-then-count-eq0
returns-then-count-eq0 c =
    let m = measured c.args.whole _ _ c.args.d (omega arith) c.digit_count-size.ensures c.tail_length.ensures in
    let fits : c.args.at + (c.digit_count-size.result + c.tail_length.result) ≤ length c.args.out.now =
    room c.args.at (c.digit_count-size.result + c.tail_length.result) (length c.args.out.now) c.has_room.result c.has_room.ensures c.if-not-has_room.false
    in
    let given = c.args in
    parts_whole m given.out.now given.at _ c.if-count-eq0.true fits
    c.put_digits.ensures

pub returns : goal.returns
returns c =
    let m = measured c.args.whole _ _ c.args.d (omega arith) c.digit_count-size.ensures c.tail_length.ensures in
    let fits : c.args.at + (c.digit_count-size.result + c.tail_length.result) ≤ length c.args.out.now =
    room c.args.at (c.digit_count-size.result + c.tail_length.result) (length c.args.out.now) c.has_room.result c.has_room.ensures c.if-not-has_room.false
    in
    let given = c.args in
    parts-both m given.out.now given.at _ fits
    (parts-text m given.out.now given.at _ _ c.if-count-eq0.false fits
    c.put_digits.ensures c.put_digits-2.ensures)
