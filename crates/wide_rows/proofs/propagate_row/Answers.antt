-- `propagate_row` widens what is known from each column alone to `wide_reach` columns: by four, five times.
use Rattle.wide_rows.proofs.propagate_row.Goals as goal

pub returns : goal.returns
returns c =
    record {
      line = λ q l. c.propagate_twice-5.ensures.line q
          (c.propagate_twice-4.ensures.line q
          (c.propagate_twice-3.ensures.line q
          (c.propagate_twice-2.ensures.line q (c.propagate_twice.ensures.line q l))));
      row-margins = c.propagate_twice-5.ensures.row-margins;
      spare-margins = c.propagate_twice-5.ensures.spare-margins;
    }
