-- From the listing call's promise to the text: the verdict by the buffers' lengths, the file that was listed, and that surplus input changes nothing.
use Rattle.std.specs.Prelude.{Ok, Err}
use mathlib.Core.Path.{◌≡◌, refl, sym, ap, ap₂, ◌∙◌, subst}
use mathlib.Core.Bool.{Bool, true, false, cond}
use mathlib.Core.List.{List, [], ◌∷◌, ◌++◌}
use Prim.Native.Nat.{ℕ, ◌+◌, ◌*◌, ◌≤◌, ◌<◌}
use native.Mathlib.Nat.{mul-le-mul}
use native.Mathlib.Omega.{arith}
use borrow.Author.Tests.{le-ltb, ltb-false}
use lib.Dec.{ltb}
use lib.ListN.{length, take, drop, get_or, length-append}
use lib.Seq.{take_at, length-take-le}
use Rattle.io.specs.Counts.{IsPrefixLen}
use Rattle.geometry.specs.declared.Head.{Head}
use Rattle.geometry.specs.declared.Size.{Size}
use Rattle.geometry.specs.declared.Size.TheVariants.{Small, Large}
use Rattle.geometry.specs.Sizes.{size_of}
use Rattle.theory.proofs.Plunges.{fits_plate-iff}
use Rattle.theory.proofs.Listing.{listed-fits}
use Rattle.refusal.specs.declared.Refusal.{Refusal}
use Rattle.refusal.specs.Refusals.{trial, first_met, map_trials, short, bad_kind, bad_sides, head_of, largest_erosion, written}
use Rattle.refusal.specs.Sides.{Sides}
use Rattle.refusal.proofs.Refusals.{Sound, sound, map-sound, gives_none}
use Rattle.fields.specs.Fields.{encoded, head_bytes, plunge_bytes, place}
use Rattle.fields.proofs.Encoding.{encoded-length}
use Rattle.numerals.specs.Numerals.{Puts}
use Rattle.reading.specs.Reading.{head_in, plunges_in}
use Rattle.reading.specs.Steps.{JobOf}
use Rattle.refusal.proofs.Trials.{first-append, both-accepted}
use Rattle.reading.proofs.Readable.{Writable, encoded-readable, encoded-head, encoded-plunges, encoded-total}
use Rattle.listing.specs.declared.Extent.{Extent}
use Rattle.listing.specs.Answers.{list_answer}
use Rattle.listing_plunges.proofs.Plunges.{listing-few}
use Rattle.jobs.specs.Calls.{list_verdict, ListCall}
use Rattle.scan.specs.Scan.{byte_in, depths}
use Rattle.text.specs.declared.Page.{Page}
use Rattle.text_lines.specs.Text.{refusal_line, list_text, answer_text, line_room}
use Rattle.text.specs.Pages.{line_at, line_count, PageOf}
use Rattle.text.proofs.Pages.{page-whole}
use Rattle.scan_text.specs.Program.{file_buffer, most_cells, text_room, plate_in, plunges_of, list_length, scan_verdict, plunges_text}
use Rattle.scan_text.specs.Listed.{ListedFile}
use Rattle.refusal.specs.Refusals.{Verdict}

abbrev pub refused : ℕ → Verdict
refused n = Err (record { number = n; place = 0 })

-- ---- the verdict, with work buffers of the largest plate

pub cells-most : (w h : ℕ) → bad_sides w h ≡ false → h * w ≤ most_cells
cells-most w h e =
    let s = sound w h false (h * w) (sym (gives_none w h false (h * w) e refl (omega arith))) in
    omega (arith, mul-le-mul s.low s.narrow)

short-same : (w h n a b : ℕ) → bad_sides w h ≡ false → most_cells ≤ a → most_cells ≤ b → short w h (n ∷ a ∷ b ∷ []) ≡ short w h (n ∷ [])
short-same w h n a b e i j =
    let m = cells-most w h e in
    let k : h * w ≤ a = omega (arith, m, i) in
    let l : h * w ≤ b = omega (arith, m, j) in
    rw (le-ltb a (h * w) k, le-ltb b (h * w) l)

module _ (s out a b : List ℕ) (o : file_buffer ≡ length out) (i : most_cells ≡ length a) (j : most_cells ≡ length b) where
  abbrev k : ℕ
  k = byte_in s 0

  abbrev w : ℕ
  w = byte_in s 1

  abbrev h : ℕ
  h = byte_in s 2

  abbrev last : ℕ → Verdict
  last n = first_met (trial (ltb n (list_length s)) 5 (list_length s) ∷ [])

  pub verdict-same : list_verdict (depths s) k w h out a b ≡ scan_verdict s
  verdict-same =
      go (bad_kind k) (bad_sides w h) refl
      ∙ ap (λ (n : ℕ). first_met (map_trials k w h false (length (depths s) ∷ []) ++ (trial (ltb n (list_length s)) 5 (list_length s) ∷ []))) (sym o)
    where
      go : (x y : Bool) → bad_sides w h ≡ y
          → cond x (refused 1) (cond y (refused 2) (cond (short w h (length (depths s) ∷ length a ∷ length b ∷ [])) (refused 4) (last (length out))))
          ≡ cond x (refused 1) (cond y (refused 2) (cond (short w h (length (depths s) ∷ [])) (refused 4) (last (length out))))
      go true y e = refl
      go false true e = refl
      go false false e =
          ap (λ (t : Bool). cond t (refused 4) (last (length out)))
          (short-same w h (length (depths s)) (length a) (length b) e (omega (arith, i)) (omega (arith, j)))

  -- ---- what the call answered

  module _ (out' a' b' : List ℕ) where
    pub unlisted-text : (q : Refusal) → ListCall (depths s) k w h out out' a a' b b' (Err q) → refusal_line q ≡ plunges_text s
    unlisted-text q c = ap (λ (v : Verdict). answer_text v (plate_in s) (plunges_of s)) (sym (sym verdict-same ∙ was _ _ c.answer))
      where
        was : (v : Verdict) (n : ℕ) → Err q ≡ list_answer v (plate_in s) (plunges_of s) n → v ≡ Err q
        was (Ok _) n e = let z : ◌≡◌ {A = ℕ} 0 1 = cc in absurd (omega arith)
        was (Err r) n e = ap Err cc

    module _ (e : Extent) (c : ListCall (depths s) k w h out out' a a' b b' (Ok e)) where
      abbrev file : List ℕ
      file = encoded (plate_in s) (plunges_of s)

      known : (v : Verdict) (n : ℕ) → Ok e ≡ list_answer v (plate_in s) (plunges_of s) n
          → (v ≡ Ok tt) × (e.bytes ≡ list_length s) × (e.plunges ≡ length (plunges_of s))
      known (Ok _) n g = (refl, cc, cc)
      known (Err r) n g = let z : ◌≡◌ {A = ℕ} 0 1 = cc in absurd (omega arith)

      was : (list_verdict (depths s) k w h out a b ≡ Ok tt) × (e.bytes ≡ list_length s) × (e.plunges ≡ length (plunges_of s))
      was = known _ _ c.answer

      long : length file ≡ e.bytes
      long = encoded-length (plate_in s) (plunges_of s) ∙ sym was.1

      wrote : out' ≡ file ++ drop (length file) out
      wrote = c.bytes ∙ ap (λ (v : Verdict). written v file out) was.0

      pub listed-file : ListedFile s (take e.bytes out') e.plunges
      listed-file =
          record {
            accepted = sym verdict-same ∙ was.0;
            bytes = ap (take e.bytes) wrote ∙ take_at file (drop (length file) out) e.bytes long;
            count = was.2;
          }

      -- the answer lies in the buffer
      pub listed-counts : IsPrefixLen e.bytes out'
      listed-counts = counts (omega (arith, ap length wrote, length-append file (drop (length file) out), long))
        where
          counts : e.bytes ≤ length out' → IsPrefixLen e.bytes out'
          counts l = (l, sym (length-take-le e.bytes out' l))

-- ---- the text of a file that was listed

-- a head has six bytes at least, and a plunge seven
place-least : (p : Head) (n : ℕ) → 6 + 7 * n ≤ place p n
place-least p n = go (size_of p)
  where
    go : (s : Size) → 6 + 7 * n ≤ head_bytes s + plunge_bytes s * n
    go Small = omega arith
    go Large = omega arith

module _ (s file : List ℕ) (n : ℕ) (f : ListedFile s file n) where
  scan-sound : Sound (byte_in s 1) (byte_in s 2) false (length (depths s)) × (list_length s ≤ file_buffer)
  scan-sound =
      let both = both-accepted _ _ (sym (first-append (map_trials (byte_in s 0) (byte_in s 1) (byte_in s 2) false (length (depths s) ∷ []))
      (trial (ltb file_buffer (list_length s)) 5 (list_length s) ∷ [])) ∙ f.accepted) in
      (map-sound (byte_in s 0) (byte_in s 1) (byte_in s 2) false (length (depths s)) both.0, room (ltb file_buffer (list_length s)) refl both.1)
    where
      room : (t : Bool) → ltb file_buffer (list_length s) ≡ t → cond {A = Verdict} t (Err (record { number = 5; place = list_length s })) (Ok tt) ≡ Ok tt → list_length s ≤ file_buffer
      room true e v = let z : ◌≡◌ {A = ℕ} 0 1 = cc in absurd (omega arith)
      room false e v = ltb-false _ _ e

  writable : Writable (plate_in s) (plunges_of s)
  writable =
      let d = scan-sound.0 in
      let sides : Sides (plate_in s) = record { wide = d.wide; narrow = d.narrow; tall = d.tall; low = d.low } in
      record {
        sides = sides;
        few = listing-few (plate_in s) (depths s) sides;
        right = λ q i. let t = listed-fits (plate_in s) largest_erosion (depths s) q i in ((fits_plate-iff (plate_in s) q).1 t.wholly, t.some);
      }

  pub job_of : (p : Head) → p ≡ plate_in s → JobOf file (record { head = p; plunges = n })
  job_of p e =
      subst (λ (l : List ℕ). JobOf l (record { head = p; plunges = n })) (sym f.bytes)
      (record {
        readable = encoded-readable (plate_in s) (plunges_of s) writable;
        head = e ∙ sym (encoded-head (plate_in s) (plunges_of s));
        plunges = f.count ∙ sym (encoded-total (plate_in s) (plunges_of s));
      })

  pub text-put : (bytes : (i : ℕ) → get_or file i 0 < 256) (old new : List ℕ) (r : Page) → text_room ≤ length old
      → PageOf (line_at file) (line_count file) line_room 0 old new r → Puts old 0 (list_text (plate_in s) (plunges_of s)) new r.used
  text-put bytes old new r h p =
      subst (λ (xs : List ℕ). Puts old 0 xs new r.used)
      (ap₂ list_text (ap head_in f.bytes ∙ encoded-head (plate_in s) (plunges_of s)) (ap plunges_in f.bytes ∙ encoded-plunges (plate_in s) (plunges_of s)))
      (page-whole file old new r (job_of (plate_in s) refl).readable bytes (omega (arith, many, scan-sound.1, h, place-least (plate_in s) (length (plunges_of s)))) p)
    where
      many : line_count file ≡ length (plunges_of s) + 2
      many = ap line_count f.bytes ∙ ap (λ (i : ℕ). i + 2) (encoded-total (plate_in s) (plunges_of s))

  pub listed-text : list_text (plate_in s) (plunges_of s) ≡ plunges_text s
  listed-text = ap (λ (v : Verdict). answer_text v (plate_in s) (plunges_of s)) (sym f.accepted)

pub same_head : {k w h k' w' h' : ℕ} → k ≡ k' → w ≡ w' → h ≡ h' → head_of k w h ≡ head_of k' w' h'
same_head e f g = λ i. head_of (e i) (f i) (g i)
