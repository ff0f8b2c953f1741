-- `residue_pair` takes the buffers in the order that the number's parity gives.
use native.Mathlib.Omega.{arith}
use Rattle.erosion_series.proofs.residue_pair.Goals as goal

pub residue_step-requires : goal.residue_step-requires
residue_step-requires c =
    let g = c.requires in
    record {
      some = g.some;
      number = g.number;
      buffers = record { before = g.second; after = g.first; room = g.room };
      margin = g.even c.if-k-eq0.true;
    }

pub residue_step-requires-2 : goal.residue_step-requires-2
residue_step-requires-2 c =
    let g = c.requires in
    record {
      some = g.some;
      number = g.number;
      buffers = record { before = g.first; after = g.second; room = g.room };
      margin = g.odd (omega arith);
    }
