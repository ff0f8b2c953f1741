-- `breaks_rule` tries the largest entry, then entry 0, then the entry before.
use borrow.Author.Tests.{lt-ltb, le-ltb, eq-eqb, ne_eqb}
use Rattle.sink.proofs.breaks_rule.Goals as goal

pub returns-then-entry-gt-LARGEST_ENTRY : goal.returns-then-entry-gt-LARGEST_ENTRY
returns-then-entry-gt-LARGEST_ENTRY c = rw (lt-ltb _ _ c.if-entry-gt-LARGEST_ENTRY.true)

pub returns-then-i-eq0 : goal.returns-then-i-eq0
returns-then-i-eq0 c = rw (le-ltb _ _ c.if-entry-gt-LARGEST_ENTRY.false, eq-eqb _ _ c.if-i-eq0.true)

pub returns : goal.returns
returns c = rw (le-ltb _ _ c.if-entry-gt-LARGEST_ENTRY.false, ne_eqb _ _ c.if-i-eq0.false)
