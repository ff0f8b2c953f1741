-- From the list back to the relief: what a listing wrote, drawn, is the relief again, byte for byte.
use Rattle.std.specs.Prelude.{Ok}
use mathlib.Core.Path.{◌≡◌, sym, ap, ap₂, ◌∙◌, subst}
use mathlib.Core.Bool.{false}
use mathlib.Core.List.{List, [], ◌∷◌, ◌++◌}
use Prim.Native.Nat.{ℕ, ◌*◌, ◌≤◌, min}
use native.Mathlib.Omega.{arith}
use lib.ListN.{length, take, drop}
use lib.Seq.{take_at, drop_at, length-take-le}
use Rattle.geometry.specs.Plate.{area}
use Rattle.theory.specs.Listing.{drawing}
use Rattle.theory.proofs.Drawing.{drawing-listing}
use Rattle.refusal.specs.Refusals.{head_of, largest_erosion, written}
use Rattle.refusal.specs.Sides.{Sides}
use Rattle.refusal.proofs.Refusals.{Sound, map-sound, same-verdict, shortest-two}
use Rattle.fields.specs.Fields.{encoded}
use Rattle.reading.specs.Reading.{IsReadable, file_trials}
use Rattle.reading.proofs.Readable.{encoded-readable, encoded-head, encoded-plunges}
use Rattle.jobs.specs.Calls.{relief, plate_trial, draw_verdict, listed, list_trials, room_for, list_verdict}
use Rattle.job_theorems.specs.Canonical.{Lists}
use Rattle.job_theorems.specs.Restored.{Listing, listed_file, Drawing, Restored}
use Rattle.job_theorems.proofs.Answers.{after, given-file, given-lists, listing-writable}
use Rattle.refusal.specs.Refusals.{Verdict}

module _ (m : List ℕ) (k w h : ℕ) (s : Listing m k w h) where
  pub accepts : list_verdict m k w h s.out s.a s.b ≡ Ok tt
  accepts = after (list_trials m k w h s.a s.b) (room_for (head_of k w h) (listed m k w h) s.out) s.right ∙ s.room

  pub file-is : listed_file s ≡ encoded (head_of k w h) (listed m k w h)
  file-is = given-file (head_of k w h) (listed m k w h) s.out s.out' s.answer _ accepts _ s.call.answer s.call.bytes

  lists : Lists s.answer (listed_file s)
  lists = given-lists (head_of k w h) (listed m k w h) s.out s.out' s.answer _ accepts _ s.call.answer s.call.bytes

  -- what accepted arguments say
  abbrev shortest : ℕ
  shortest = min (min (length m) (length s.a)) (length s.b)

  sound : Sound w h false shortest
  sound = map-sound k w h false shortest (sym (same-verdict k w h false (length m ∷ length s.a ∷ length s.b ∷ []) (shortest ∷ [])
      (shortest-two (h * w) (length m) (length s.a) (length s.b ∷ []) ∙ shortest-two (h * w) (min (length m) (length s.a)) (length s.b) []))
      ∙ s.right)

  pub sides : Sides (head_of k w h)
  sides = record { wide = sound.wide; narrow = sound.narrow; tall = sound.tall; low = sound.low }

  long : area (head_of k w h) ≤ length m
  long = omega (arith, sound.long)

  reads : IsReadable (listed_file s)
  reads = subst IsReadable (sym file-is) (encoded-readable (head_of k w h) (listed m k w h) (listing-writable (head_of k w h) m sides))

  -- the relief that the file draws is the one that was listed
  drawn-back : relief (listed_file s) ≡ take (area (head_of k w h)) m
  drawn-back =
      ap relief file-is
      ∙ ap₂ drawing (encoded-head (head_of k w h) (listed m k w h)) (encoded-plunges (head_of k w h) (listed m k w h))
      ∙ drawing-listing (head_of k w h) largest_erosion m (omega (arith, sound.narrow)) long

  pub restored : (d : Drawing (listed_file s)) → Restored s d
  restored d = record {
    lists = lists;
    readable = reads;
    accepted = d.call.answer ∙ draws;
    bytes = ap (take (area (head_of k w h))) left ∙ take_at (take (area (head_of k w h)) m) _ (area (head_of k w h)) whole;
    rest =
        ap (drop (area (head_of k w h))) left ∙ drop_at (take (area (head_of k w h)) m) _ (area (head_of k w h)) whole
        ∙ ap (λ (n : ℕ). drop n d.map) whole;
  }
    where
      draws : draw_verdict (listed_file s) d.map ≡ Ok tt
      draws = after (file_trials (listed_file s)) (plate_trial (listed_file s) (length d.map ∷ []) ∷ []) reads ∙ d.long

      whole : length (take (area (head_of k w h)) m) ≡ area (head_of k w h)
      whole = length-take-le (area (head_of k w h)) m long

      left : d.map' ≡ take (area (head_of k w h)) m ++ drop (length (take (area (head_of k w h)) m)) d.map
      left = d.call.bytes ∙ ap₂ (λ (v : Verdict) (l : List ℕ). written v l d.map) draws drawn-back
