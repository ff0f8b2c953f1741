-- To be believed: calls on plunge files: what each answers, and what its buffers hold at exit (document 01, "Plunge file, drawing, tidying" and "Refusals in their order"; document 02, N5).
use Rattle.std.specs.Prelude.{◌≡◌, false, List, [], ◌∷◌, ◌++◌, ℕ, length, Result}
use Rattle.geometry.specs.declared.Head.{Head}
use Rattle.geometry.specs.declared.Plunge.{Plunge}
use Rattle.geometry.specs.Plate.{area}
use Rattle.theory.specs.Climbed.{erosion_count}
use Rattle.theory.specs.Listing.{listing, drawing, canonical}
use Rattle.refusal.specs.Refusals.{Trial, trial, first_met, map_trials, short, head_of, largest_erosion, written, Answered, Worked}
use Rattle.fields.specs.Fields.{encoded, file_length}
use Rattle.reading.specs.Reading.{file_trials, head_in, plunges_in}
use Rattle.listing.specs.Answers.{room_trials, list_answer}
use Rattle.refusal.specs.Refusals.{Verdict}
use Rattle.listing.specs.declared.Extent.{Extent}
use Rattle.refusal.specs.declared.Refusal.{Refusal}

-- ---- drawing

-- the relief that a file draws
abbrev pub relief : List ℕ → List ℕ
relief f = drawing (head_in f) (plunges_in f)

-- "4: relief, map or work buffer shorter than width × height", of the plate in a file's head
abbrev pub plate_trial : List ℕ → List ℕ → Trial
plate_trial f lengths = trial (short (head_in f).width (head_in f).height lengths) 4 0

-- "file faults in reading order; then 4"
abbrev pub draw_verdict : List ℕ → List ℕ → Verdict
draw_verdict f out = first_met (file_trials f ++ (plate_trial f (length out ∷ []) ∷ []))

abbrev pub Drawn : List ℕ → List ℕ → List ℕ → Verdict → Type 0
Drawn f out = Answered (draw_verdict f out) (relief f) out

-- ---- listing

abbrev pub listed : List ℕ → ℕ → ℕ → ℕ → List Plunge
listed m k w h = listing (head_of k w h) largest_erosion m

-- "Arguments are tried in the order 1, 2, 3; … then 4"
abbrev pub list_trials : List ℕ → ℕ → ℕ → ℕ → List ℕ → List ℕ → List Trial
list_trials m k w h a b = map_trials k w h false (length m ∷ length a ∷ length b ∷ [])

-- "5: output buffer shorter than the answer", of a list under a head
abbrev pub room_for : Head → List Plunge → List ℕ → List Trial
room_for p qs = room_trials (file_length p (length qs))

abbrev pub list_verdict : List ℕ → ℕ → ℕ → ℕ → List ℕ → List ℕ → List ℕ → Verdict
list_verdict m k w h out a b = first_met (list_trials m k w h a b ++ room_for (head_of k w h) (listed m k w h) out)

-- a call that answers with a list, for which some rungs were climbed: the answer, the file's bytes, two work buffers
pub record ListAnswered (verdict : Verdict) (p : Head) (qs : List Plunge) (rungs : ℕ) (out out' a a' b b' : List ℕ) (r : Result Extent Refusal) : Type 0 where
  pub answer : r ≡ list_answer verdict p qs rungs
  pub bytes : out' ≡ written verdict (encoded p qs) out
  pub first : Worked verdict (area p) a a'
  pub second : Worked verdict (area p) b b'

abbrev pub ListCall : List ℕ → ℕ → ℕ → ℕ → List ℕ → List ℕ → List ℕ → List ℕ → List ℕ → List ℕ → Result Extent Refusal → Type 0
ListCall m k w h out out' a a' b b' =
    ListAnswered (list_verdict m k w h out a b) (head_of k w h) (listed m k w h) (erosion_count (head_of k w h) m) out out' a a' b b'

-- ---- tidying

-- "Tidying draws, then lists": the plunges of the tidied file, and its bytes under the original's head
abbrev pub tidied_plunges : List ℕ → List Plunge
tidied_plunges f = canonical (head_in f) largest_erosion (plunges_in f)

abbrev pub tidied : List ℕ → List ℕ
tidied f = encoded (head_in f) (tidied_plunges f)

abbrev pub work_trial : List ℕ → List ℕ → List ℕ → List ℕ → Trial
work_trial f a b c = plate_trial f (length a ∷ length b ∷ length c ∷ [])

abbrev pub tidy_verdict : List ℕ → List ℕ → List ℕ → List ℕ → List ℕ → Verdict
tidy_verdict f out a b c = first_met (file_trials f ++ (work_trial f a b c ∷ room_for (head_in f) (tidied_plunges f) out))

pub record TidyCall (f out out' a a' b b' c c' : List ℕ) (r : Result Extent Refusal) : Type 0 where
  pub list : ListAnswered (tidy_verdict f out a b c) (head_in f) (tidied_plunges f) (erosion_count (head_in f) (relief f)) out out' a a' b b' r
  pub third : Worked (tidy_verdict f out a b c) (area (head_in f)) c c'
