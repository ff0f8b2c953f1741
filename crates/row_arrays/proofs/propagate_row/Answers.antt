-- `propagate_row` widens what is known from each column alone to `row_reach` columns: by four, four times.
use Rattle.row_arrays.proofs.propagate_row.Goals as goal

pub returns : goal.returns
returns c =
    record {
      line = λ q l. c.propagate_twice-4.ensures.line q
          (c.propagate_twice-3.ensures.line q
          (c.propagate_twice-2.ensures.line q (c.propagate_twice.ensures.line q l)));
      row-margins =
          c.propagate_twice-4.ensures.row-margins;
      spare-margins = c.propagate_twice-4.ensures.spare-margins;
    }
