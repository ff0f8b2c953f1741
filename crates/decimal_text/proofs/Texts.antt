-- Text written at a place of a buffer.
use mathlib.Core.Path.{◌≡◌, refl, sym, ap, ap₂, ◌∙◌}
use mathlib.Core.Bool.{Bool, true, false, cond}
use mathlib.Core.List.{List, [], ◌∷◌, ◌++◌, append_assoc, append-nil}
use Prim.Native.Nat.{ℕ, suc, ◌+◌, ◌≤◌, ◌<◌}
use native.Mathlib.Numerals.{add-one, add-two}
use native.Mathlib.Omega.{arith}
use borrow.Author.Tests.{leb-true, leb-false, eq-eqb, ne_eqb}
use lib.Dec.{eqb, leb}
use lib.ListN.{length, set, length-append}
use lib.Seq.{sets-eq}
use Rattle.fields.specs.Writing.{spliced}
use Rattle.fields.proofs.Splice.{splice-length, splice-splice}
use Rattle.numerals.specs.Numerals.{digit_text, numeral}
use Rattle.numerals.specs.Sizes.{IsSize}
use Rattle.numerals.proofs.Digits.{digits-length}
use Rattle.numerals.proofs.Sizes.{numeral-digits, numeral-length, numeral-size}
use Rattle.decimal_text.specs.declared.Digits.{Digits}
use Rattle.decimal_text.specs.Digits.{most_digits}
use Rattle.decimal_text.specs.Text.{text_of, hexadecimal, not_number, Put}

-- ---- whether text fits

pub room : (at k l : ℕ) (b : Bool) → b ≡ leb (at + k) l → b ≡ true → at + k ≤ l
room at k l b e h = leb-true (at + k) l (sym e ∙ h)

pub no_room : (at k l : ℕ) (b : Bool) → b ≡ leb (at + k) l → b ≡ false → l < at + k
no_room at k l b e h = leb-false (at + k) l (sym e ∙ h)

pub not-fitting : (bs old : List ℕ) (at k : ℕ) → length bs ≡ k → length old < at + k → Put bs old old at at
not-fitting bs old at k e h = record { fitting = λ l. absurd (omega arith); other = λ l. (refl, refl); inside = omega arith }

pub done : (bs old new : List ℕ) (at k : ℕ) → length bs ≡ k → at + k ≤ length old → new ≡ spliced old at bs → Put bs old new at (at + k)
done bs old new at k e h s = record { fitting = λ l. (s, omega (arith, e)); other = λ l. absurd (omega arith); inside = omega arith }

-- the text by another name
pub put_same : (bs cs old new : List ℕ) (at next : ℕ) → cs ≡ bs → Put bs old new at next → Put cs old new at next
put_same bs cs old new at next e p = rw e p

-- ---- bytes in a row

splice-byte : (old : List ℕ) (i b : ℕ) → i < length old → set old i b ≡ spliced old i (b ∷ [])
splice-byte old i b h = sets-eq (b ∷ []) old i (omega arith)

-- bytes, one byte, and bytes
row : (old ds es : List ℕ) (at b : ℕ) → at + length ds + 1 + length es ≤ length old
    → spliced (set (spliced old at ds) (at + length ds) b) (at + length ds + 1) es ≡ spliced old at (ds ++ b ∷ es)
row old ds es at b h =
    rw (
      splice-byte (spliced old at ds) (at + length ds) b (omega (arith, splice-length old at ds (omega arith))),
      splice-splice old at ds (b ∷ []) (omega arith),
    )
    (let p : at + length ds + 1 ≡ at + length (ds ++ b ∷ []) = omega (arith, length-append ds (b ∷ [])) in
    rw p (splice-splice old at (ds ++ b ∷ []) es (omega (arith, length-append ds (b ∷ []))) ∙ ap (spliced old at) (append_assoc ds (b ∷ []) es)))

pub nan-done : (old : List ℕ) (at : ℕ) → at + 3 ≤ length old → set (set (set old at 110) (at + 1) 97) (at + 2) 110 ≡ spliced old at not_number
nan-done old at h = rw (add-one at, add-two at) (sets-eq not_number old at h)

pub hexadecimal-done : (old new : List ℕ) (at bits : ℕ) → at + 18 ≤ length old
    → new ≡ spliced (set (set old at 48) (at + 1) 120) (at + 2) (digit_text 16 16 bits)
    → new ≡ spliced old at (hexadecimal bits)
hexadecimal-done old new at bits h e =
    let p : set (set old at 48) (at + 1) 120 ≡ spliced old at (48 ∷ 120 ∷ []) = rw (add-one at) (sets-eq (48 ∷ 120 ∷ []) old at (omega arith)) in
    e ∙ ap (λ (l : List ℕ). spliced l (at + 2) (digit_text 16 16 bits)) p ∙ splice-splice old at (48 ∷ 120 ∷ []) (digit_text 16 16 bits) (omega arith)

pub hexadecimal-length : (bits : ℕ) → length (hexadecimal bits) ≡ 18
hexadecimal-length bits = ap (λ (k : ℕ). suc (suc k)) (digits-length 16 16 bits)

-- ---- a number's text

pub text-length : (whole : ℕ) (d : Digits) → length (text_of whole d) ≡ length (numeral whole) + cond (eqb d.count 0) 0 (1 + d.count)
text-length whole d = length-append (numeral whole) _ ∙ go (eqb d.count 0)
  where
    go : (b : Bool) → length (numeral whole) + length (cond b [] (46 ∷ digit_text 10 d.count d.number)) ≡ length (numeral whole) + cond b 0 (1 + d.count)
    go true = refl
    go false = omega (arith, digits-length 10 d.count d.number)

whole-text : (whole : ℕ) (d : Digits) → d.count ≡ 0 → text_of whole d ≡ numeral whole
whole-text whole d z = rw (eq-eqb d.count 0 z) (append-nil (numeral whole))

pointed-text : (old : List ℕ) (at whole : ℕ) (d : Digits) → (d.count ≡ 0 → ⊥) → at + length (numeral whole) + 1 + d.count ≤ length old
    → spliced (set (spliced old at (numeral whole)) (at + length (numeral whole)) 46) (at + length (numeral whole) + 1) (digit_text 10 d.count d.number)
    ≡ spliced old at (text_of whole d)
pointed-text old at whole d z h =
    rw (ne_eqb d.count 0 z) (row old (numeral whole) (digit_text 10 d.count d.number) at 46 (omega (arith, digits-length 10 d.count d.number)))

pub tail-most : (tail count : ℕ) → tail ≡ cond (eqb count 0) 0 (1 + count) → count ≤ most_digits → tail ≤ 1 + most_digits
tail-most tail count e h = rw e (go (eqb count 0))
  where
    go : (b : Bool) → cond b 0 (1 + count) ≤ 1 + most_digits
    go true = omega arith
    go false = omega arith

pub tail-some : (tail count : ℕ) → tail ≡ cond (eqb count 0) 0 (1 + count) → (count ≡ 0 → ⊥) → tail ≡ 1 + count
tail-some tail count e z = rw (ne_eqb count 0 z) at e

-- a text of size digits and a tail
pub record Measured (whole : ℕ) (d : Digits) (size tail : ℕ) : Type 0 where
  pub bound : whole < 18446744073709551616
  pub sized : IsSize whole size
  pub tailed : tail ≡ cond (eqb d.count 0) 0 (1 + d.count)

pub measured : (whole size tail : ℕ) (d : Digits) → whole < 18446744073709551616 → size ≡ length (numeral whole)
    → tail ≡ cond (eqb d.count 0) 0 (1 + d.count) → Measured whole d size tail
measured whole size tail d bound e tailed = record { bound = bound; sized = numeral-size whole size bound e; tailed = tailed }

module _ {whole : ℕ} {d : Digits} {size tail : ℕ} (g : Measured whole d size tail) (old : List ℕ) (at : ℕ) where
  whole-digits : numeral whole ≡ digit_text 10 size whole
  whole-digits = numeral-digits whole size g.bound g.sized

  whole_length : length (numeral whole) ≡ size
  whole_length = numeral-length whole size g.bound g.sized

  total : length (text_of whole d) ≡ size + tail
  total = text-length whole d ∙ ap₂ (λ (j k : ℕ). j + k) whole_length (sym g.tailed)

  pub parts_none : length old < at + (size + tail) → Put (text_of whole d) old old at at
  parts_none h = not-fitting (text_of whole d) old at (size + tail) total h

  pub parts_whole : (new : List ℕ) → d.count ≡ 0 → at + (size + tail) ≤ length old → new ≡ spliced old at (digit_text 10 size whole)
      → Put (text_of whole d) old new at (at + size)
  parts_whole new z h e =
      let w : text_of whole d ≡ numeral whole = whole-text whole d z in
      done (text_of whole d) old new at size (ap length w ∙ whole_length) (omega arith) (e ∙ ap (spliced old at) (sym (w ∙ whole-digits)))

  pub parts-text : (mid new : List ℕ) → (d.count ≡ 0 → ⊥) → at + (size + tail) ≤ length old → mid ≡ spliced old at (digit_text 10 size whole)
      → new ≡ spliced (set mid (at + size) 46) (at + size + 1) (digit_text 10 d.count d.number) → new ≡ spliced old at (text_of whole d)
  parts-text mid new z h m e =
      e
      ∙ ap (λ (l : List ℕ). spliced (set l (at + size) 46) (at + size + 1) (digit_text 10 d.count d.number)) (m ∙ ap (spliced old at) (sym whole-digits))
      ∙ ap (λ (k : ℕ). spliced (set (spliced old at (numeral whole)) (at + k) 46) (at + k + 1) (digit_text 10 d.count d.number)) (sym whole_length)
      ∙ pointed-text old at whole d z (omega (arith, tail-some tail d.count g.tailed z, whole_length))

  pub parts-both : (new : List ℕ) → at + (size + tail) ≤ length old → new ≡ spliced old at (text_of whole d)
      → Put (text_of whole d) old new at (at + (size + tail))
  parts-both new h e = done (text_of whole d) old new at (size + tail) total h e
