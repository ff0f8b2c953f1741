-- `put_nan` writes three bytes.
use mathlib.Core.Path.{refl}
use lib.ListN.{length}
use Rattle.decimal_text.specs.Text.{not_number}
use Rattle.decimal_text.proofs.Texts.{room, done, nan-done}
use Rattle.decimal_text.proofs.put_nan.Goals as goal

pub returns : goal.returns
returns c =
    let fits = room c.args.at 3 (length c.args.out.now) c.has_room.result c.has_room.ensures c.if-not-has_room.false in
    done not_number c.args.out.now _ c.args.at 3 refl fits (nan-done c.args.out.now c.args.at fits)
