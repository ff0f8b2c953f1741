-- Laws of bytes put at the start of a buffer: a scan of a picture, a picture of depths.
use Rattle.std.specs.Prelude.{Result, Ok, Err}
use mathlib.Core.Path.{◌≡◌, ap, ◌∙◌}
use mathlib.Core.List.{List, [], ◌∷◌, ◌++◌}
use Prim.Native.Nat.{ℕ, ◌+◌, ◌-◌, ◌*◌, ◌≤◌, ◌<◌}
use native.Mathlib.Omega.{arith}
use borrow.Author.Tests.{lt-ltb, le-ltb}
use lib.ListN.{length, take, drop, length-append, length-drop}
use lib.Seq.{length-take-le}
use Rattle.fields.proofs.Splice.{splice-start}
use Rattle.numerals.specs.Numerals.{numeral}
use Rattle.phrases.specs.Phrases.{Appends}
use Rattle.phrases.proofs.Appends.{appends-appends, appends-puts}
use Rattle.pgm.specs.declared.Picture.{Picture}
use Rattle.pgm_copies.specs.declared.CopyFault.{CopyFault}
use Rattle.pgm_copies.specs.declared.CopyFault.TheVariants.{NoRoom, TooFew}
use Rattle.pgm_copies.specs.Copies.{copy_answer, copied, scan_of, header_text, picture_file, file_answer, file_written, Copies}
use Rattle.pgm.specs.Steps.{Lies}

-- ---- bytes that have no room, and bytes that have

module _ (bytes old : List ℕ) (n : ℕ) (e : n ≡ length bytes) where
  pub copies-none : length old < n → Copies (copy_answer bytes old) (copied bytes old) old (Err (NoRoom n))
  copies-none h =
      let l : length old < length bytes = omega (arith, e) in
      record { answers = rw (lt-ltb (length old) (length bytes) l) (ap (λ m. Err (NoRoom m)) e); writes = rw (lt-ltb (length old) (length bytes) l) }

  pub copies-all : (new : List ℕ) (r : ℕ) → n ≤ length old → Appends old 0 bytes new r → Copies (copy_answer bytes old) (copied bytes old) new (Ok n)
  copies-all new r h p =
      let l : length bytes ≤ length old = omega (arith, e) in
      let put : new ≡ bytes ++ drop (length bytes) old = (appends-puts old 0 bytes new r (omega arith) p).0 ∙ splice-start old bytes in
      record { answers = rw (le-ltb (length old) (length bytes) l) (ap Ok e); writes = rw (le-ltb (length old) (length bytes) l) put }

-- ---- a picture as a scan

module _ (f : List ℕ) (kind : ℕ) (p : Picture) (i : Lies f p) where
  scan-length : 3 + p.height * p.width ≡ length (scan_of f kind p)
  scan-length =
      omega (arith, length-take-le (p.height * p.width) (drop p.at f) (omega (arith, length-drop p.at f, i.inside)))

  pub scan-none : (old : List ℕ) → length old < 3 + p.height * p.width
      → Copies (copy_answer (scan_of f kind p) old) (copied (scan_of f kind p) old) old (Err (NoRoom (3 + p.height * p.width)))
  scan-none old h = copies-none (scan_of f kind p) old (3 + p.height * p.width) scan-length h

  pub scan-all : (old mid new : List ℕ) (r s : ℕ) → 3 + p.height * p.width ≤ length old
      → Appends old 0 (kind ∷ p.width ∷ p.height ∷ []) mid r
      → Appends mid r (take (p.at + p.height * p.width - p.at) (drop p.at f)) new s
      → Copies (copy_answer (scan_of f kind p) old) (copied (scan_of f kind p) old) new (Ok (3 + p.height * p.width))
  scan-all old mid new r s h x y =
      let z : p.at + p.height * p.width - p.at ≡ p.height * p.width = omega arith in
      let y' : Appends mid r (take (p.height * p.width) (drop p.at f)) new s = rw z at y in
      copies-all (scan_of f kind p) old (3 + p.height * p.width) scan-length new s h
      (appends-appends old 0 (kind ∷ p.width ∷ p.height ∷ []) mid r (take (p.height * p.width) (drop p.at f)) new s (omega arith) x y')

-- ---- depths as a picture

pub header-size : (w h : ℕ) → length (header_text w h) ≡ 9 + length (numeral w) + length (numeral h)
unfolding header_text
header-size w h = simp length-append (omega arith)

module _ (w h : ℕ) (d old : List ℕ) where
  pub file-few : length d < h * w → Copies (file_answer w h d old) (file_written w h d old) old (Err TooFew)
  file-few l = record { answers = rw (lt-ltb (length d) (h * w) l); writes = rw (lt-ltb (length d) (h * w) l) }

  module _ (enough : h * w ≤ length d) (n : ℕ) (e : n ≡ length (header_text w h)) where
    file-length : n + h * w ≡ length (picture_file w h d)
    file-length = omega (arith, e, length-append (header_text w h) (take (h * w) d), length-take-le (h * w) d enough)

    enough-so : (new : List ℕ) (r : Result ℕ CopyFault) → Copies (copy_answer (picture_file w h d) old) (copied (picture_file w h d) old) new r
        → Copies (file_answer w h d old) (file_written w h d old) new r
    enough-so new r c = record { answers = rw (le-ltb (length d) (h * w) enough) c.answers; writes = rw (le-ltb (length d) (h * w) enough) c.writes }

    pub file-none : length old < n + h * w → Copies (file_answer w h d old) (file_written w h d old) old (Err (NoRoom (n + h * w)))
    file-none l = enough-so old (Err (NoRoom (n + h * w))) (copies-none (picture_file w h d) old (n + h * w) file-length l)

    pub file-all : (mid new : List ℕ) (r s : ℕ) → n + h * w ≤ length old → Appends old 0 (header_text w h) mid r → Appends mid r (take (h * w) d) new s
        → Copies (file_answer w h d old) (file_written w h d old) new (Ok (n + h * w))
    file-all mid new r s l x y =
        enough-so new (Ok (n + h * w))
        (copies-all (picture_file w h d) old (n + h * w) file-length new s l
        (appends-appends old 0 (header_text w h) mid r (take (h * w) d) new s (omega arith) x y))
