-- Laws of the checks: the first fault by the tests that were made, one check after another, and what a picture without fault has.
use Rattle.std.specs.Prelude.{Result, Ok, Err, ⊤}
use mathlib.Core.Path.{◌≡◌, refl, sym, ap, ap₂, subst, ◌∙◌}
use mathlib.Core.Bool.{Bool, true, false, cond, not}
use mathlib.Core.List.{List, [], ◌∷◌, ◌++◌}
use Prim.Native.Nat.{ℕ, zero, suc, ◌+◌, ◌-◌, ◌*◌, ◌≤◌, ◌<◌}
use native.Mathlib.Omega.{arith}
use native.Mathlib.Nat.{mul-le-mul}
use borrow.Author.Tests.{le-leb, leb-true, lt-ltb, le-ltb, ltb-false, ne_eqb, not-false}
use lib.Dec.{eqb, ltb, leb}
use lib.ListN.{length, get_or, take, drop}
use Rattle.pgm.specs.declared.Number.{Number}
use Rattle.pgm.specs.declared.Header.{Header}
use Rattle.pgm.specs.declared.Quantity.{Quantity}
use Rattle.pgm.specs.declared.PictureFault.{PictureFault}
use Rattle.pgm.specs.declared.PictureFault.TheVariants.{NotPgm, NoSpace, NoNumber, OutOfRange, Short, BadSample}
use Rattle.pgm.specs.declared.Picture.{Picture}
use Rattle.pgm.specs.declared.Quantity.TheVariants.{Width, Height, Maxval}
use Rattle.refusal.specs.Refusals.{largest_side}
use Rattle.pgm.specs.Pgm.{Trial, trial, is_white, number_after, header_in, picture_of, answer_of, picture_answer, opens, first_sample, area, count_within, first_fault, in_range, largest_sample, number_trials, numbers_trials, header_trials, raster_trials, sample_trials, picture_trials}
use Rattle.pgm.specs.Steps.{first_of, Lies}

-- two numbers of 32 bits have a product of 64
pub product-fits : (a b : ℕ) → a < 4294967296 → b < 4294967296 → a * b < 18446744073709551616
product-fits a b x y =
    let c : a ≤ 4294967295 = omega arith in
    let d : b ≤ 4294967295 = omega arith in
    omega (arith, mul-le-mul c d)

-- one check after another
pub first-append : (xs ys : List Trial) → first_fault (xs ++ ys) ≡ first_of (first_fault xs) (first_fault ys)
first-append [] ys = refl
first-append (t ∷ xs) ys = go t.met (first-append xs ys)
  where
    go : (b : Bool) → first_fault (xs ++ ys) ≡ first_of (first_fault xs) (first_fault ys)
        → cond b (Err t.fault) (first_fault (xs ++ ys)) ≡ first_of (cond b (Err t.fault) (first_fault xs)) (first_fault ys)
    go true e = refl
    go false e = e

-- the numbers of a header, checked one by one
pub numbers-checked : (h : Header) (w y m a r : Result ⊤ PictureFault) → w ≡ first_fault (number_trials Width largest_side h.width)
    → y ≡ first_fault (number_trials Height largest_side h.height) → a ≡ first_of w y → m ≡ first_fault (number_trials Maxval largest_sample h.maxval)
    → r ≡ first_of a m → r ≡ first_fault (numbers_trials h)
numbers-checked h w y m a r ew ey ea em er =
    let ws = number_trials Width largest_side h.width in
    let ys = number_trials Height largest_side h.height in
    let ms = number_trials Maxval largest_sample h.maxval in
    er ∙ ap₂ first_of (ea ∙ ap₂ first_of ew ey ∙ sym (first-append ws ys)) em ∙ sym (first-append (ws ++ ys) ms)

-- ---- samples

module _ (f : List ℕ) (first needed most : ℕ) where
  pub raster-short : length f - first < needed → Err (Short (length f - first) needed) ≡ first_fault (raster_trials f first needed most)
  raster-short h = rw (lt-ltb (length f - first) needed h)

  -- the part of the file that was looked at
  part_same : (n : ℕ) → n ≡ count_within most (take (first + needed - first) (drop first f)) → n ≡ count_within most (take needed (drop first f))
  part_same n e = let z : first + needed - first ≡ needed = omega arith in rw z at e

  pub raster-bad : (n : ℕ) → needed ≤ length f - first → n ≡ count_within most (take (first + needed - first) (drop first f)) → n < needed
      → Err (BadSample (first + n) (get_or f (first + n) 0) most) ≡ first_fault (raster_trials f first needed most)
  raster-bad n h e g =
      let l : first + n < first + needed = omega arith in
      rw (le-ltb (length f - first) needed h, ← part_same n e, lt-ltb (first + n) (first + needed) l)

  pub raster-passed : (n : ℕ) → needed ≤ length f - first → n ≡ count_within most (take (first + needed - first) (drop first f)) → needed ≤ n
      → (Ok tt) ≡ first_fault (raster_trials f first needed most)
  raster-passed n h e g =
      let l : first + needed ≤ first + n = omega arith in
      rw (le-ltb (length f - first) needed h, ← part_same n e, le-ltb (first + n) (first + needed) l)

-- ---- a picture without fault

passed-both : (b : Bool) (x : PictureFault) (c : Result ⊤ PictureFault) → cond b (Err x) c ≡ Ok tt → (b ≡ false) × (c ≡ Ok tt)
passed-both true x c e = let z : ◌≡◌ {A = ℕ} 0 1 = cc in absurd (omega arith)
passed-both false x c e = (refl, e)

first-of-passed : (a b : Result ⊤ PictureFault) → first_of a b ≡ Ok tt → (a ≡ Ok tt) × (b ≡ Ok tt)
first-of-passed (Ok _) b e = (refl, e)
first-of-passed (Err x) b e = let z : ◌≡◌ {A = ℕ} 0 1 = cc in absurd (omega arith)

append-passed : (xs ys : List Trial) → first_fault (xs ++ ys) ≡ Ok tt → (first_fault xs ≡ Ok tt) × (first_fault ys ≡ Ok tt)
append-passed xs ys e = first-of-passed (first_fault xs) (first_fault ys) (sym (first-append xs ys) ∙ e)

range-most : (most n : ℕ) → in_range most n ≡ true → n ≤ most
range-most most n e = go (leb 1 n) e
  where
    go : (t : Bool) → cond t (leb n most) false ≡ true → n ≤ most
    go true e = leb-true n most e
    go false e = let z : ◌≡◌ {A = ℕ} 0 1 = cc in absurd (omega arith)

number-most : (q : Quantity) (most : ℕ) (n : Number) → first_fault (number_trials q most n) ≡ Ok tt → n.value ≤ most
number-most q most n e =
    let x = (passed-both (eqb n.end n.at) (NoNumber q n.at) (first_fault (trial (not (in_range most n.value)) (OutOfRange q n.at n.value) ∷ [])) e).1 in
    range-most most n.value (not-false _ (passed-both (not (in_range most n.value)) (OutOfRange q n.at n.value) (Ok tt) x).0)

white-inside : (f : List ℕ) (i : ℕ) → is_white (get_or f i 0) ≡ true → i < length f
white-inside [] i e = let z : ◌≡◌ {A = ℕ} 0 1 = cc in absurd (omega arith)
white-inside (b ∷ f) zero e = omega arith
white-inside (b ∷ f) (suc i) e = omega (arith, white-inside f i e)

pub passed-lies : (f : List ℕ) (h : Header) → first_fault (picture_trials f h) ≡ Ok tt → Lies f (picture_of h)
passed-lies f h e =
    let both = append-passed (header_trials f h) (sample_trials f h) e in
    let rest = trial (eqb h.width.at 2) (NoSpace 2) ∷ numbers_trials h in
    let opened = (passed-both (not (opens f)) NotPgm (first_fault rest) both.0).1 in
    let numbers = (passed-both (eqb h.width.at 2) (NoSpace 2) (first_fault (numbers_trials h)) opened).1 in
    let ws = number_trials Width largest_side h.width in
    let ys = number_trials Height largest_side h.height in
    let sides = append-passed ws ys (append-passed (ws ++ ys) (number_trials Maxval largest_sample h.maxval) numbers).0 in
    let end = h.maxval.end in
    let raster = first_fault (raster_trials f (first_sample h) (area h) h.maxval.value) in
    let white = passed-both (not (is_white (get_or f end 0))) (NoSpace end) raster both.1 in
    let enough = (passed-both (ltb (length f - first_sample h) (area h)) (Short (length f - first_sample h) (area h)) _ white.1).0 in
    let here = white-inside f end (not-false _ white.0) in
    let room = ltb-false (length f - first_sample h) (area h) enough in
    record {
      width_small = number-most Width largest_side h.width sides.0;
      height-small = number-most Height largest_side h.height sides.1;
      inside = omega (arith, here, room);
    }

answer-passed : (c : Result ⊤ PictureFault) (q p : Picture) → answer_of c q ≡ Ok p → (c ≡ Ok tt) × (q ≡ p)
answer-passed (Ok _) q p e = (refl, cc)
answer-passed (Err x) q p e = let z : ◌≡◌ {A = ℕ} 0 1 = cc in absurd (omega arith)

-- a picture that was found lies in its file
pub found-lies : (f : List ℕ) (p : Picture) → picture_answer f ≡ Ok p → Lies f p
found-lies f p e =
    let both = answer-passed (first_fault (picture_trials f (header_in f))) (picture_of (header_in f)) p e in
    subst (λ q. Lies f q) both.1 (passed-lies f (header_in f) both.0)

-- ---- the whole file

module _ (f : List ℕ) (h : Header) where
  no-space : is_white (get_or f h.maxval.end 0) ≡ false → Err (NoSpace h.maxval.end) ≡ first_fault (sample_trials f h)
  no-space e = rw e

  pub samples-raster : (b : Bool) (n : ℕ) (r : Result ⊤ PictureFault) → b ≡ is_white (get_or f h.maxval.end 0) → b ≡ true → n ≡ area h
      → r ≡ first_fault (raster_trials f (h.maxval.end + 1) n h.maxval.value) → r ≡ first_fault (sample_trials f h)
  samples-raster b n r e g a x =
      let w : is_white (get_or f h.maxval.end 0) ≡ true = sym e ∙ g in
      x ∙ ap (λ (k : ℕ). first_fault (raster_trials f (h.maxval.end + 1) k h.maxval.value)) a ∙ rw w

  pub all-checked : (a b r : Result ⊤ PictureFault) → a ≡ first_fault (header_trials f h) → b ≡ first_fault (sample_trials f h) → r ≡ first_of a b
      → r ≡ first_fault (picture_trials f h)
  all-checked a b r ea eb er = er ∙ ap₂ first_of ea eb ∙ sym (first-append (header_trials f h) (sample_trials f h))

pub header_read : (f : List ℕ) (a b c : Number) → a ≡ number_after f 2 → b ≡ number_after f a.end → c ≡ number_after f b.end
    → record { width = a; height = b; maxval = c } ≡ header_in f
header_read f a b c ea eb ec = rw (ec, eb, ea)

-- ---- a file with nothing wrong

-- a number of the header that is right
pub record Proper (most : ℕ) (n : Number) : Type 0 where
  pub some : n.end ≡ n.at → ⊥
  pub least : 1 ≤ n.value
  pub within : n.value ≤ most

number_passed : (q : Quantity) (most : ℕ) (n : Number) → Proper most n → first_fault (number_trials q most n) ≡ Ok tt
number_passed q most n p = rw (ne_eqb n.end n.at p.some, le-leb 1 n.value p.least, le-leb n.value most p.within)

numbers-passed : (h : Header) → Proper largest_side h.width → Proper largest_side h.height → Proper largest_sample h.maxval
    → first_fault (numbers_trials h) ≡ Ok tt
numbers-passed h w y m =
    sym (numbers-checked h (Ok tt) (Ok tt) (Ok tt) (Ok tt) (Ok tt) (sym (number_passed Width largest_side h.width w))
    (sym (number_passed Height largest_side h.height y)) refl (sym (number_passed Maxval largest_sample h.maxval m)) refl)

-- a file whose header and samples are right
pub record Right (f : List ℕ) (h : Header) : Type 0 where
  pub opened : opens f ≡ true
  pub spaced : h.width.at ≡ 2 → ⊥
  pub width-right : Proper largest_side h.width
  pub height-right : Proper largest_side h.height
  pub maxval-right : Proper largest_sample h.maxval
  pub white : is_white (get_or f h.maxval.end 0) ≡ true
  pub enough : area h ≤ length f - first_sample h
  pub small : count_within h.maxval.value (take (area h) (drop (first_sample h) f)) ≡ area h

header-passed : (f : List ℕ) (h : Header) → Right f h → first_fault (header_trials f h) ≡ Ok tt
header-passed f h r =
    let spaced = ne_eqb h.width.at 2 r.spaced in
    let numbers = numbers-passed h r.width-right r.height-right r.maxval-right in
    rw (r.opened, spaced) numbers

samples-passed : (f : List ℕ) (h : Header) → Right f h → first_fault (sample_trials f h) ≡ Ok tt
samples-passed f h r =
    let z : first_sample h + area h - first_sample h ≡ area h = omega arith in
    let n : area h ≡ count_within h.maxval.value (take (first_sample h + area h - first_sample h) (drop (first_sample h) f)) =
    sym (ap (λ (k : ℕ). count_within h.maxval.value (take k (drop (first_sample h) f))) z ∙ r.small) in
    sym (samples-raster f h true (area h) (Ok tt) (sym r.white) refl refl
    (raster-passed f (first_sample h) (area h) h.maxval.value (area h) r.enough n (omega arith)))

pub right-passed : (f : List ℕ) (h : Header) → Right f h → first_fault (picture_trials f h) ≡ Ok tt
right-passed f h r = sym (all-checked f h (Ok tt) (Ok tt) (Ok tt) (sym (header-passed f h r)) (sym (samples-passed f h r)) refl)
