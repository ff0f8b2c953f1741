-- `put_three` puts three lines, one after another.
use Rattle.motion_text.specs.Lines.{motion_line}
use Rattle.phrases.proofs.Puts.{room-1, three-texts}
use Rattle.motion_text.proofs.put_three.Goals as goal

pub put_motion-a-requires : goal.put_motion-a-requires
put_motion-a-requires c =
    let given = c.args in
    let l = given.page.now in
    let at = given.at in
    let x = motion_line given.motions.first in
    let y = motion_line given.motions.second in
    let z = motion_line given.motions.third in
    room-1 l at x y z c.requires

pub returns : goal.returns
returns c =
    let given = c.args in
    let l = given.page.now in
    let at = given.at in
    let x = motion_line given.motions.first in
    let y = motion_line given.motions.second in
    let z = motion_line given.motions.third in
    let p1 = c.put_motion-a in
    let p2 = c.put_motion-b in
    let p3 = c.put_motion in
    three-texts l at x y z c.requires p1.new.page p1.result p1.ensures p2.new.page p2.result
    p2.ensures p3.new.page p3.result p3.ensures
