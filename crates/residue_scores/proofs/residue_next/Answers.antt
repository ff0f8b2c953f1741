-- `residue_next` joins the rows that are left in one run; outside them, and where nothing is left, no residue is above 0.
use native.Mathlib.Omega.{arith}
use Rattle.residue_scores.proofs.Residues.{scored-run}
use borrow.Author.Rules.{rules}
use Rattle.residue_scores.proofs.residue_next.Goals as goal

pub returns : goal.returns
returns c =
    scored-run c.args.head c.args.score c.args.prev.now c.args.cur.now
    c.args.out.now c.args.k c.requires.margin
    (λ n. search rules) _ (omega arith) (omega arith) (omega arith)
    c.residue_run.ensures
