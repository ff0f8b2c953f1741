-- Digits put at a place, the last one first; how long they are.
use mathlib.Core.Path.{◌≡◌, refl, sym, ◌∙◌, subst}
use mathlib.Core.List.{List, [], ◌∷◌, ◌++◌, append_assoc, map}
use Prim.Native.Nat.{ℕ, zero, suc, ◌+◌, ◌-◌, ◌/◌, ◌%◌, ◌≤◌, ◌<◌}
use native.Mathlib.Omega.{arith}
use lib.ListN.{length, take, drop, set, length-append, length-set}
use lib.Seq.{take-set-le, drop-set-lt, drop-cons, get_or-set_same}
use Rattle.fields.specs.Writing.{spliced}
use Rattle.fields.proofs.Splice.{splice-nil}
use Rattle.numerals.specs.Numerals.{digit_byte, digit_text, numeral_within, numeral}

pub digits-length : (base k n : ℕ) → length (digit_text base k n) ≡ k
digits-length base zero n = refl
digits-length base (suc k) n = length-append (digit_text base k (n / base)) (digit_byte (n % base) ∷ []) ∙ omega (arith, digits-length base k (n / base))

-- a byte stored, and others before it
store-after : (old ds : List ℕ) (at b : ℕ) → at + length ds < length old → spliced (set old (at + length ds) b) at ds ≡ spliced old at (ds ++ b ∷ [])
store-after old ds at b h =
    rw (
      take-set-le at old (at + length ds) b (omega arith),
      drop-cons (set old (at + length ds) b) (at + length ds) 0 (rw (length-set old (at + length ds) b) h),
      get_or-set_same old (at + length ds) b 0 h,
      drop-set-lt (suc (at + length ds)) old (at + length ds) b (omega arith),
      length-append ds (b ∷ []),
      ← append_assoc (take at old) ds (b ∷ []),
    )
    (let p : at + (length ds + 1) ≡ suc (at + length ds) = omega arith in rw (p, append_assoc (take at old ++ ds) (b ∷ []) (drop (suc (at + length ds)) old)))

pub digits_more : (old : List ℕ) (base at i left b : ℕ) → 0 < i → at + i ≤ length old → b ≡ digit_byte (left % base)
    → spliced (set old (at + (i - 1)) b) at (digit_text base (i - 1) (left / base)) ≡ spliced old at (digit_text base i left)
digits_more old base at zero left b z h e = absurd (omega arith)
digits_more old base at (suc i) left b z h e =
    let p : suc i - 1 ≡ i = omega arith in
    let q : length (digit_text base i (left / base)) ≡ i = digits-length base i (left / base) in
    rw (p, e)
    (subst (λ (k : ℕ). spliced (set old (at + k) (digit_byte (left % base))) at (digit_text base i (left / base)) ≡ spliced
    old at (digit_text base i (left / base) ++ digit_byte (left % base) ∷ [])) q
    (store-after old (digit_text base i (left / base)) at (digit_byte (left % base)) (omega (arith, q))))

pub digits-end : (old new : List ℕ) (base at i left : ℕ) → i ≤ 0 → spliced old at (digit_text base i left) ≡ new → old ≡ new
digits-end old new base at zero left h e = sym (splice-nil old at) ∙ e
digits-end old new base at (suc i) left h e = absurd (omega arith)

-- ---- numerals at some numbers, computed: "0", "9", "10", "100", "65540", and the largest of 64 bits

pub numerals-computed : map numeral (0 ∷ 9 ∷ 10 ∷ 100 ∷ 65540 ∷ 18446744073709551615 ∷ [])
    ≡ (48 ∷ []) ∷ (57 ∷ []) ∷ (49 ∷ 48 ∷ []) ∷ (49 ∷ 48 ∷ 48 ∷ []) ∷ (54 ∷ 53 ∷ 53 ∷ 52 ∷ 48 ∷ [])
    ∷ (49 ∷ 56 ∷ 52 ∷ 52 ∷ 54 ∷ 55 ∷ 52 ∷ 52 ∷ 48 ∷ 55 ∷ 51 ∷ 55 ∷ 48 ∷ 57 ∷ 53 ∷ 53 ∷ 49 ∷ 54 ∷ 49 ∷ 53 ∷ []) ∷ []
unfolding numeral numeral_within
numerals-computed = refl
