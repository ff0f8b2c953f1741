-- `put_hexadecimal` writes two bytes and sixteen digits.
use Prim.Native.Nat.{◌+◌, ◌≤◌}
use lib.ListN.{length}
use Rattle.decimal_text.specs.Text.{hexadecimal}
use Rattle.decimal_text.proofs.Texts.{room, done, hexadecimal-done, hexadecimal-length}
use Rattle.decimal_text.proofs.put_hexadecimal.Goals as goal

pub returns : goal.returns
returns c =
    let fits : c.args.at + 18 ≤ length c.args.out.now = room c.args.at 18 (length c.args.out.now) c.has_room.result c.has_room.ensures c.if-not-has_room.false in
    done (hexadecimal c.args.bits) c.args.out.now _ c.args.at 18 (hexadecimal-length c.args.bits) fits
    (hexadecimal-done c.args.out.now _ c.args.at c.args.bits fits c.put_digits.ensures)
