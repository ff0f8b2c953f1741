-- Laws of sentences: an appended text by what it is equal to, and the number that was found.
use mathlib.Core.Path.{◌≡◌, subst}
use mathlib.Core.List.{List, []}
use Prim.Native.Nat.{ℕ, ◌-◌, ◌≤◌, ◌<◌}
use borrow.Author.Tests.{lt-ltb, le-ltb}
use Rattle.numerals.specs.Numerals.{numeral}
use Rattle.phrases.specs.Phrases.{ascii, phrase}
use Rattle.phrases.proofs.Appends.{Appended}
use Rattle.pgm.specs.Pgm.{largest_number}
use Rattle.pgm_sentences.specs.Texts.{found_text}

pub appended-same : {old : List ℕ} {at : ℕ} {x y new : List ℕ} {r : ℕ} → x ≡ y → Appended old at x new r → Appended old at y new r
appended-same {old} {at} {x} {y} {new} {r} e p = subst (λ t. Appended old at t new r) e p

pub found-small : (n : ℕ) → n < largest_number → numeral n ≡ found_text n
found-small n h = rw (lt-ltb n largest_number h)

pub found-large : (n : ℕ) → largest_number ≤ n → phrase (ascii "above ") (largest_number - 1) [] ≡ found_text n
found-large n h = rw (le-ltb n largest_number h)
