-- Laws of what a function writes to a buffer at a place: nothing, a field, and one thing after another.
use mathlib.Core.Path.{◌≡◌, ap, ◌∙◌}
use mathlib.Core.List.{List, [], ◌++◌, append_assoc, append-nil}
use Prim.Native.Nat.{ℕ, ◌+◌, ◌≤◌}
use native.Mathlib.Omega.{arith}
use native.Mathlib.Nat.{add-zero, add_assoc, zero-add}
use lib.ListN.{length, take, drop, length-append, length-drop, take-append-drop}
use lib.Seq.{take_at, drop_at, drop-drop, length-take-le}
use Rattle.fields.specs.Writing.{spliced}

pub splice-nil : (old : List ℕ) (at : ℕ) → spliced old at [] ≡ old
splice-nil old at = rw (add-zero at, append-nil) (take-append-drop at old)

-- bytes at the start, then the rest of what stood there
pub splice-start : (old bs : List ℕ) → spliced old 0 bs ≡ bs ++ drop (length bs) old
splice-start old bs = rw (zero-add (length bs))

pub splice-length : (old : List ℕ) (at : ℕ) (bs : List ℕ) → at + length bs ≤ length old → length (spliced old at bs) ≡ length old
splice-length old at bs h =
    length-append (take at old ++ bs) (drop (at + length bs) old)
    ∙ omega (arith, length-append (take at old) bs, length-take-le at old (omega arith), length-drop (at + length bs) old)

-- two writes, the second where the first ended, are one
pub splice-splice : (old : List ℕ) (at : ℕ) (bs cs : List ℕ) → at + length bs ≤ length old
    → spliced (spliced old at bs) (at + length bs) cs ≡ spliced old at (bs ++ cs)
splice-splice old at bs cs h =
    rw (
      take_at front rest (at + length bs) sized,
      ← drop-drop (length cs) (at + length bs) (front ++ rest),
      drop_at front rest (at + length bs) sized,
      drop-drop (length cs) (at + length bs) old,
    )
    (rw (length-append bs cs, ← add_assoc at (length bs) (length cs)) (ap (λ l. l ++ drop (at + length bs + length cs) old) (append_assoc (take at old) bs cs)))
  where
    front : List ℕ
    front = take at old ++ bs

    rest : List ℕ
    rest = drop (at + length bs) old

    sized : length front ≡ at + length bs
    sized = length-append (take at old) bs ∙ omega (arith, length-take-le at old (omega arith))
