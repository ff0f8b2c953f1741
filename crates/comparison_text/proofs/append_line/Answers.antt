-- `append_line` goes by what was found.
use Rattle.phrases.proofs.Appends.{appended, appends-none}
use Rattle.comparison_text.specs.Line.{comparison_line}
use Rattle.comparison_text.proofs.append_line.Goals as goal

pub returns-in-Same : goal.returns-in-Same
unfolding comparison_line
returns-in-Same c =
    rw c.in-Same.is c.append.ensures

pub returns-in-OtherKind : goal.returns-in-OtherKind
unfolding comparison_line
returns-in-OtherKind c =
    rw c.in-OtherKind.is c.append_kinds.ensures

pub returns-in-OtherSize : goal.returns-in-OtherSize
unfolding comparison_line
returns-in-OtherSize c =
    rw c.in-OtherSize.is c.append_sizes.ensures

pub returns-in-OtherCell : goal.returns-in-OtherCell
unfolding comparison_line
returns-in-OtherCell c =
    rw c.in-OtherCell.is c.append_cell.ensures

pub returns-in-FirstRefused : goal.returns-in-FirstRefused
unfolding comparison_line
returns-in-FirstRefused c =
    rw c.in-FirstRefused.is
    (appended c.requires (appends-none c.args.page.now c.args.at c.requires))

pub returns-in-SecondRefused : goal.returns-in-SecondRefused
unfolding comparison_line
returns-in-SecondRefused c =
    rw c.in-SecondRefused.is
    (appended c.requires (appends-none c.args.page.now c.args.at c.requires))
