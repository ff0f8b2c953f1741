-- `put_travel` puts a word, two numbers and the line's end.
use mathlib.Core.List.{List, [], ◌∷◌, ◌++◌}
use Prim.Native.Nat.{ℕ}
use Rattle.motion_text.specs.Lines.{millimetres, travel_word}
use Rattle.phrases.proofs.Puts.{first-room, two-texts, room-1, three-texts}
use Rattle.motion_text.proofs.put_travel.Goals as goal

pub put_bytes-a-requires : goal.put_bytes-a-requires
put_bytes-a-requires c =
    let given = c.args in
    let l = given.page.now in
    let at = given.at in
    let x = travel_word in
    let y = millimetres given.column in
    let z = millimetres given.row in
    let u : List ℕ = 10 ∷ [] in
    let h = first-room l at (x ++ y ++ z) u c.requires in
    room-1 l at x y z h

pub returns : goal.returns
returns c =
    let given = c.args in
    let l = given.page.now in
    let at = given.at in
    let x = travel_word in
    let y = millimetres given.column in
    let z = millimetres given.row in
    let u : List ℕ = 10 ∷ [] in let h = first-room l at (x ++ y ++ z) u c.requires in let p1 =
    c.put_bytes-a in let p2 = c.put_millimetres-b in let p3 =
    c.put_millimetres-c in let p4 = c.put_bytes in two-texts l at (x ++ y ++ z)
    u c.requires p3.new.page p4.new.page p3.result p4.result
    (three-texts l at x y z h p1.new.page p1.result p1.ensures p2.new.page p2.result p2.ensures
    p3.new.page p3.result p3.ensures) p4.ensures
