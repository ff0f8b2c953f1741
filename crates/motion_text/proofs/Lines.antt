-- How long the lines of motions are; a number that was put where it has room.
use Rattle.std.specs.Prelude.{Result, Ok}
use mathlib.Core.Path.{◌≡◌, refl, sym, ap, ◌∙◌, subst}
use mathlib.Core.List.{List, [], ◌∷◌, ◌++◌}
use Prim.Native.Nat.{ℕ, ◌+◌, ◌≤◌}
use native.Mathlib.Omega.{arith}
use lib.ListN.{length, set, length-append, length-set}
use lib.Seq.{sets-eq}
use lib.Ieee.{Float}
use Rattle.fields.specs.Writing.{spliced}
use Rattle.fields.proofs.Splice.{splice-nil}
use Rattle.numerals.specs.Numerals.{Puts}
use Rattle.motion_floats.specs.declared.Scale.{Scale}
use Rattle.motion_floats.specs.declared.Motion.{Motion}
use Rattle.motion_floats.specs.declared.Motion.TheVariants.{Change, Stay, Travel, Sink}
use Rattle.motion_floats.specs.declared.Motions.{Motions}
use Rattle.motion.specs.Motions.{motions_in}
use Rattle.decimal_text.specs.Text.{number_text, Put}
use Rattle.decimal_text.proofs.Floats.{number_text-short}
use Rattle.phrases.proofs.Puts.{puts-puts}
use Rattle.motion_text.specs.Lines.{change_word, travel_word, sink_word, millimetres, motion_line, motion_lines, answer_lines, lines_at, lines_room}
use Rattle.refusal.specs.declared.Refusal.{Refusal}

-- a blank, then a number that has room behind it
pub millimetres-put : (old new : List ℕ) (at r : ℕ) (x : Float) → at + length (millimetres x) ≤ length old
    → Put (number_text x) (set old at 32) new (at + 1) r → Puts old at (millimetres x) new r
millimetres-put old new at r x h p =
    let q : (new ≡ spliced (set old at 32) (at + 1) (number_text x)) × (r ≡ at + 1 + length (number_text x)) =
    p.fitting (omega (arith, length-set old at 32, h)) in
    puts-puts old at (32 ∷ []) (set old at 32) (at + 1) (number_text x) new r (sets-eq (32 ∷ []) old at (omega arith), refl) q (omega arith)

-- ---- lengths

one-length : (word : List ℕ) (x : Float) → length (word ++ millimetres x ++ (10 ∷ [])) ≤ length word + 42
one-length word x =
    omega (arith, length-append (word ++ millimetres x) (10 ∷ []), length-append word (millimetres x), number_text-short x)

line-length : (m : Motion) → length (motion_line m) ≤ 89
line-length (Change width) = omega (arith, one-length change_word width)
line-length Stay = omega arith
line-length (Travel column row) =
    omega (
      arith,
      length-append (travel_word ++ millimetres column ++ millimetres row) (10 ∷ []),
      length-append (travel_word ++ millimetres column) (millimetres row),
      length-append travel_word (millimetres column),
      number_text-short column,
      number_text-short row,
    )
line-length (Sink depth) = omega (arith, one-length sink_word depth)

lines-length : (m : Motions) → length (motion_lines m) ≤ lines_room
lines-length m =
    omega (
      arith,
      length-append (motion_line m.first ++ motion_line m.second) (motion_line m.third),
      length-append (motion_line m.first) (motion_line m.second),
      line-length m.first,
      line-length m.second,
      line-length m.third,
    )

-- ---- the lines of a plunge, by the answer that came

module _ (table f : List ℕ) (s : Scale) (i : ℕ) where
  pub lines-asks : (m : Motions) (old : List ℕ) (at : ℕ) → at + lines_room ≤ length old → at + length (motion_lines m) ≤ length old
  lines-asks m old at h = omega (arith, lines-length m)

  pub lines-put : (a : Result Motions Refusal) (m : Motions) (old new : List ℕ) (at r : ℕ) → a ≡ motions_in table f i s → a ≡ Ok m
      → Puts old at (motion_lines m) new r → Puts old at (lines_at table f s i) new r × (r ≤ at + lines_room)
  unfolding lines_at
  lines-put a m old new at r e g p =
      (subst (λ (xs : List ℕ). Puts old at xs new r) (ap answer_lines (sym g ∙ e)) p, omega (arith, p.1, lines-length m))

  pub lines_none : (old : List ℕ) (at : ℕ) (a : Result Motions Refusal) → a ≡ motions_in table f i s → answer_lines a ≡ []
      → Puts old at (lines_at table f s i) old at × (at ≤ at + lines_room)
  unfolding lines_at
  lines_none old at a e n =
      (subst (λ (xs : List ℕ). Puts old at xs old at) (sym n ∙ ap answer_lines e) (sym (splice-nil old at), omega arith), omega arith)
