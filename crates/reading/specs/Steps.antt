-- Serves proofs: what one field after the head tells the reader.
use Rattle.std.specs.Prelude.{◌≡◌, cond, List, ℕ, ◌+◌, ◌≤◌, leb, length, Option, Some, None, Ok, Err}
use Rattle.geometry.specs.Forms.{largest_reach}
use Rattle.geometry.specs.declared.Head.{Head}
use Rattle.geometry.specs.declared.Size.{Size}
use Rattle.geometry.specs.Sizes.{size_of}
use Rattle.refusal.specs.Refusals.{first_met}
use Rattle.fields.specs.Fields.{opening, place}
use Rattle.reading_fields.specs.Either.{plunge_opening, end_opening, size_either}
use Rattle.reading.specs.declared.Job.{Job}
use Rattle.reading.specs.declared.Step.{Step}
use Rattle.reading.specs.declared.Step.TheVariants.{Onward, Ended, Fault}
use Rattle.reading_fields.specs.Openings.{end_trials}
use Rattle.reading.specs.Reading.{is_end, plunge_trials, field_trials, plunge_at, IsReadable, head_in, total}
use Rattle.geometry.specs.declared.Plunge.{Plunge}
use Rattle.refusal.specs.Refusals.{Verdict}

-- a step that stands if nothing is refused
abbrev pub step_of : Step → Verdict → Step
step_of right (Ok _) = right
step_of right (Err r) = Fault r

-- past an end field reading ends, past a plunge it goes on
abbrev pub right_step : List ℕ → ℕ → Step
right_step f at = cond (is_end f at) Ended Onward

-- the content of a field, and the whole field with n plunges before it
abbrev pub content_step : Head → List ℕ → ℕ → ℕ → Step
content_step p f at n = step_of (right_step f at) (first_met (cond (is_end f at) (end_trials f at n) (plunge_trials p f at)))

abbrev pub step_at : Head → List ℕ → ℕ → Step
step_at p f n = step_of (right_step f (place p n)) (first_met (field_trials p f n))

-- the plunge of these numbers, and of a field, whose reach is one
abbrev pub plunge_of : ℕ → ℕ → ℕ → ℕ → Option Plunge
plunge_of x y k d = cond (leb k largest_reach) (Some (record { column = x; row = y; reach = record { 0 = k }; depth = d })) None

abbrev pub plunge_if : Size → List ℕ → ℕ → Option Plunge
plunge_if s f at = cond (leb (plunge_at s f at).reach.0 largest_reach) (Some (plunge_at s f at)) None

-- an end field or a plunge's, with its whole content, stands at a place
abbrev pub Contained : Head → List ℕ → ℕ → Type 0
Contained p f at = at + (opening + size_either end_opening (plunge_opening (size_of p)) f at) ≤ length f

-- what reading a readable file gave
pub record JobOf (f : List ℕ) (j : Job) : Type 0 where
  pub readable : IsReadable f
  pub head : j.head ≡ head_in f
  pub plunges : j.plunges ≡ total f
