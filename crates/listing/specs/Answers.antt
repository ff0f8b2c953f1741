-- To be believed: what a listing answers (document 01, "Refusals in their order"; document 02, N5).
use Rattle.std.specs.Prelude.{List, [], ◌∷◌, ℕ, ltb, length, Ok, Err, Result}
use Rattle.geometry.specs.declared.Head.{Head}
use Rattle.geometry.specs.declared.Plunge.{Plunge}
use Rattle.refusal.specs.Refusals.{Trial, trial}
use Rattle.fields.specs.Fields.{file_length}
use Rattle.refusal.specs.Refusals.{Verdict}
use Rattle.listing.specs.declared.Extent.{Extent}
use Rattle.refusal.specs.declared.Refusal.{Refusal}

-- "5: output buffer shorter than the answer"; its place is "the length needed"
abbrev pub room_trials : ℕ → List ℕ → List Trial
room_trials n out = trial (ltb (length out) n) 5 n ∷ []

-- the answer to a verdict on a list: how long its file is, how many plunges it has and "how many rungs were climbed", or the refusal
abbrev pub list_answer : Verdict → Head → List Plunge → ℕ → Result Extent Refusal
list_answer (Ok _) p qs rungs = Ok (record { bytes = file_length p (length qs); plunges = length qs; erosions = rungs })
list_answer (Err r) p qs rungs = Err r
