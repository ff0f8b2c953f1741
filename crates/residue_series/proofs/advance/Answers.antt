-- `advance` by cases: at the same residue, at the end, at the next residue.
use Rattle.residue_series.proofs.Stands.{ends, goes_on}
use Rattle.residue_series.proofs.advance.Goals as goal

pub returns-then-is_last : goal.returns-then-is_last
returns-then-is_last c =
    λ m a b due q. ends _ _ _ _ _ _ c.requires.0 c.requires.1 _ c.if-place-first.false m a b
    (c.is_last.ensures.ends c.if-is_last.true m _ _ a b q)

pub returns : goal.returns
returns c =
    let on = c.is_last.ensures.goes_on c.if-is_last.false in
    λ m a b due q. goes_on _ _ _ _ _ _ c.requires.0 c.requires.1 _ c.if-place-first.false on.0 on.1 on.2 m a b q
