-- To be believed: reading a plunge file (document 01, "Plunge file, drawing, tidying" and "Refusals in their order"): what is tried, field by field, and what the file says.
use Rattle.std.specs.Prelude.{◌≡◌, Bool, true, cond, not, List, [], ◌∷◌, ◌++◌, ℕ, zero, suc, ◌+◌, ◌-◌, ◌/◌, eqb, length, get_or, Ok, Err, Result}
use Rattle.geometry.specs.declared.Head.{Head}
use Rattle.geometry.specs.declared.Plunge.{Plunge}
use Rattle.geometry.specs.declared.Size.{Size}
use Rattle.geometry.specs.declared.Size.TheVariants.{Small, Large}
use Rattle.geometry.specs.Sizes.{size_of}
use Rattle.geometry.specs.Lists.{gather}
use Rattle.geometry.specs.Plunges.{fits_plate}
use Rattle.refusal.specs.Refusals.{Trial, trial, first_met, bad_kind, bad_sides, head_of}
use Rattle.fields.specs.Fields.{head_tag, head_size, plunge_tag, plunge_size, plunge_bytes, end_tag, end_size, place, file_length}
use Rattle.reading_fields.specs.Openings.{pair_at, opens, open_trials, end_trials}
use Rattle.refusal.specs.Refusals.{Verdict}
use Rattle.reading.specs.declared.Job.{Job}
use Rattle.refusal.specs.declared.Refusal.{Refusal}

-- ---- the bytes of a field that begins at a place

-- the size that the head's tag tells
abbrev pub size_in : List ℕ → Size
size_in f = cond (eqb (get_or f 0 0) (head_tag Large)) Large Small

-- the head that the first field holds
abbrev pub head_as : Size → List ℕ → Head
head_as Small f = head_of (get_or f 3 0) (get_or f 4 0) (get_or f 5 0)
head_as Large f = head_of (get_or f 3 0) (pair_at f 4 5) (pair_at f 6 7)

abbrev pub head_in : List ℕ → Head
head_in f = head_as (size_in f) f

-- a plunge's field, and the plunge in it
abbrev pub is_plunge : Size → List ℕ → ℕ → Bool
is_plunge s = opens (plunge_tag s) (plunge_size s)

abbrev pub plunge_at : Size → List ℕ → ℕ → Plunge
plunge_at Small f at =
    record { column = get_or f (at + 3) 0; row = get_or f (at + 4) 0; reach = record { 0 = get_or f (at + 5) 0 }; depth = get_or f (at + 6) 0 }
plunge_at Large f at =
    record {
      column = pair_at f (at + 3) (at + 4);
      row = pair_at f (at + 5) (at + 6);
      reach = record { 0 = pair_at f (at + 7) (at + 8) };
      depth = get_or f (at + 9) 0;
    }

-- an end field
abbrev pub is_end : List ℕ → ℕ → Bool
is_end = opens end_tag end_size

-- ---- what is tried

-- "1: kind not 4 or 8", "2: width or height not 1 to 240"
abbrev pub plate_trials : ℕ → ℕ → ℕ → List Trial
plate_trials k w h = trial (bad_kind k) 1 0 ∷ trial (bad_sides w h) 2 0 ∷ []

-- "1 head, first, once": its opening, that of a small plate, then its content
abbrev pub head_trials : List ℕ → List Trial
head_trials f = open_trials f 0 (opens (head_tag Small) (head_size Small) f 0) (head_size Small) ++ plate_trials (get_or f 3 0) (get_or f 4 0) (get_or f 5 0)

-- "8: ball leaves the plate", "9: depth 0"
abbrev pub plunge_trials : Head → List ℕ → ℕ → List Trial
plunge_trials p f at = trial (not (fits_plate p (plunge_at (size_of p) f at))) 8 at ∷ trial (eqb (plunge_at (size_of p) f at).depth 0) 9 at ∷ []

-- a field after the head, with n plunges before it: a plunge's or the end
abbrev pub field_trials : Head → List ℕ → ℕ → List Trial
field_trials p f n =
    open_trials f (place p n) (cond (is_end f (place p n)) true (is_plunge (size_of p) f (place p n))) (cond (is_end f (place p n)) end_size (plunge_size (size_of p)))
    ++ cond (is_end f (place p n)) (end_trials f (place p n) n) (plunge_trials p f (place p n))

-- the fields from one on, up to the end field; no file has more fields than bytes
unfoldable pub fields_from : ℕ → Head → List ℕ → ℕ → List Trial
fields_from zero p f n = []
fields_from (suc more) p f n = field_trials p f n ++ cond (is_end f (place p n)) [] (fields_from more p f (suc n))

-- "file faults in reading order"
unfoldable pub file_trials : List ℕ → List Trial
file_trials f = head_trials f ++ fields_from (suc (length f)) (head_in f) f 0

-- ---- what a readable file says

-- "accepted, or readable, when reading refuses nothing in it"
abbrev pub IsReadable : List ℕ → Type 0
IsReadable f = first_met (file_trials f) ≡ Ok tt

-- "Total plunges n make 13 + 7·n bytes."; of a large plate "15 + 10·n"
abbrev pub total : List ℕ → ℕ
total f = (length f - file_length (head_in f) 0) / plunge_bytes (size_of (head_in f))

-- plunge number i of a file, from 0; the first n plunges, in their order; all plunges
abbrev pub nth_plunge : List ℕ → ℕ → Plunge
nth_plunge f i = plunge_at (size_of (head_in f)) f (place (head_in f) i)

abbrev pub plunges_up_to : ℕ → List ℕ → List Plunge
plunges_up_to n f = gather n 0 (λ i. nth_plunge f i ∷ [])

abbrev pub plunges_in : List ℕ → List Plunge
plunges_in f = plunges_up_to (total f) f

-- "it gives back kind, width, height and the number of plunges"
abbrev pub read_answer : Verdict → List ℕ → Result Job Refusal
read_answer (Ok _) f = Ok (record { head = head_in f; plunges = total f })
read_answer (Err r) f = Err r

abbrev pub read : List ℕ → Result Job Refusal
read f = read_answer (first_met (file_trials f)) f
