-- `put_one` puts a word, a number and the line's end.
use mathlib.Core.List.{List, [], ◌∷◌}
use Prim.Native.Nat.{ℕ}
use Rattle.motion_text.specs.Lines.{millimetres}
use Rattle.phrases.proofs.Puts.{room-1, three-texts}
use Rattle.motion_text.proofs.put_one.Goals as goal

pub put_bytes-a-requires : goal.put_bytes-a-requires
put_bytes-a-requires c =
    let given = c.args in
    let l = given.page.now in
    let at = given.at in
    let x = given.word.now in
    let y = millimetres given.x in
    let z : List ℕ = 10 ∷ [] in
    room-1 l at x y z c.requires

pub returns : goal.returns
returns c =
    let given = c.args in
    let l = given.page.now in
    let at = given.at in
    let x = given.word.now in
    let y = millimetres given.x in
    let z : List ℕ = 10 ∷ [] in let p1 = c.put_bytes-a in let p2 = c.put_millimetres-b in
    let p3 = c.put_bytes in three-texts l at x y z c.requires p1.new.page p1.result
    p1.ensures p2.new.page p2.result p2.ensures p3.new.page p3.result p3.ensures
