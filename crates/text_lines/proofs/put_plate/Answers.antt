-- `put_plate` puts a word and three numbers, one after another.
use mathlib.Core.Path.{sym, subst}
use mathlib.Core.List.{◌++◌}
use Prim.Native.Nat.{ℕ, ◌+◌, ◌≤◌}
use lib.ListN.{length}
use Rattle.numerals.specs.Numerals.{Puts}
use Rattle.geometry.specs.Forms.{kind_byte}
use Rattle.text_lines.specs.Text.{word, plate_word}
use Rattle.phrases.proofs.Puts.{first-room, two-texts, room-1, three-texts}
use Rattle.text_lines.proofs.put_plate.Goals as goal

pub put_bytes-a-requires : goal.put_bytes-a-requires
put_bytes-a-requires c =
    let given = c.args in
    let l = given.page.now in
    let at = given.at in
    let k = kind_byte given.head.kind in
    let w2 = word k 32 in
    let w3 = word given.head.width 32 in
    let w4 = word given.head.height 10 in
    let pre = c.requires in
    let h = first-room l at (plate_word ++ w2 ++ w3) w4 pre in
    room-1 l at plate_word w2 w3 h

pub returns : goal.returns
returns c =
    let given = c.args in
    let l = given.page.now in
    let at = given.at in
    let k = c.byte.result in
    let w2 = word k 32 in
    let w3 = word given.head.width 32 in
    let w4 = word given.head.height 10 in
    let pre : at + length (plate_word ++ w2 ++ w3 ++ w4) ≤ length l = subst
    (λ (n : ℕ). at + length (plate_word ++ word n 32 ++ w3 ++ w4) ≤ length l) (sym c.byte.ensures)
    c.requires in let h = first-room l at (plate_word ++ w2 ++ w3) w4 pre in let p1 = c.put_bytes-a in
    let p2 = c.put_word-b in let p3 = c.put_word-c in let p4 = c.put_word in
    subst (λ (n : ℕ). Puts l at (plate_word ++ word n 32 ++ w3 ++ w4) p4.new.page p4.result)
    c.byte.ensures
    (two-texts l at (plate_word ++ w2 ++ w3) w4 pre p3.new.page p4.new.page p3.result p4.result
    (three-texts l at plate_word w2 w3 h p1.new.page p1.result p1.ensures p2.new.page p2.result
    p2.ensures p3.new.page p3.result p3.ensures) p4.ensures)
