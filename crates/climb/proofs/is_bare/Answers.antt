-- `is_bare` by the first place with a number above 0.
use borrow.Author.Tests.{eqb-true, eqb-false}
use Rattle.climb.proofs.Beginnings.{bare-all, bare-not}
use Rattle.climb.proofs.is_bare.Goals as goal

pub returns : goal.returns
returns c = (
  λ e. bare-all _ _ _ c.first_set.ensures (eqb-true _ _ e),
  λ e. bare-not _ _ _ c.first_set.ensures c.requires.0.wide (eqb-false _ _ e),
)
