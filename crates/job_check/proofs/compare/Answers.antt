-- `compare` goes over the list beside the file: like to the end of both, or 12 at the first byte unlike.
use mathlib.Core.Path.{sym, ◌∙◌}
use Rattle.job_check.proofs.Checking.{compare-asks, compared-like, compared-unlike, not-both}
use mathlib.Core.List.{[], ◌∷◌}
use Rattle.job_check.proofs.compare.Goals as goal

pub send_listing-sent-requires : goal.send_listing-sent-requires
send_listing-sent-requires c =
    compare-asks _ _ _ _ _ _ c.requires (0 ∷ [])

pub returns-then-progress-place : goal.returns-then-progress-place
returns-then-progress-place c = (
  compared-like _ _ _ _ _ _ c.requires _ _ _ c.send_listing-sent.ensures.sent c.if-progress.true
      (c.if-progress-place.true ∙ c.place.ensures),
  c.send_listing-sent.ensures.first,
  c.send_listing-sent.ensures.second,
)

pub returns-else-progress-place : goal.returns-else-progress-place
returns-else-progress-place c = (
  compared-unlike _ _ _ _ _ _ c.requires _ _ _ c.send_listing-sent.ensures.sent
      (λ l e. c.if-progress-place.false (e ∙ sym c.place.ensures)),
  c.send_listing-sent.ensures.first,
  c.send_listing-sent.ensures.second,
)

pub returns-else-progress : goal.returns-else-progress
returns-else-progress c = (
  compared-unlike _ _ _ _ _ _ c.requires _ _ _ c.send_listing-sent.ensures.sent
      (λ l e. not-both (sym l ∙ c.if-progress.false)),
  c.send_listing-sent.ensures.first,
  c.send_listing-sent.ensures.second,
)
