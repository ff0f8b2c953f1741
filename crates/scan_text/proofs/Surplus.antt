-- What follows the depths of the largest plate changes nothing: the program need not read it.
use mathlib.Core.Path.{◌≡◌, refl, sym, ap, ◌∙◌}
use mathlib.Core.Bool.{Bool, true, false, cond}
use mathlib.Core.List.{List, [], ◌∷◌}
use Prim.Native.Nat.{ℕ, zero, suc, ◌+◌, ◌*◌, ◌≤◌, ◌<◌}
use native.Mathlib.Nat.{zero-add}
use native.Mathlib.Omega.{arith}
use borrow.Author.Tests.{lt-ltb, le-ltb, ltb-true, ltb-false}
use lib.Dec.{ltb, lit<}
use lib.ListN.{length, take, drop, length-take}
use lib.Seq.{get_or-take, take-take, take-nil}
use Rattle.theory.proofs.Canonical.{listing-prefix}
use Rattle.refusal.specs.Refusals.{trial, first_met, short, bad_kind, bad_sides, head_of, largest_erosion}
use Rattle.fields.specs.Fields.{file_length}
use Rattle.jobs.specs.Calls.{listed}
use Rattle.scan.specs.Scan.{byte_in, depths}
use Rattle.text_lines.specs.Text.{answer_text}
use Rattle.scan_text.specs.Program.{file_buffer, most_cells, most_scan, plunges_text}
use Rattle.scan_text.proofs.Scans.{refused, cells-most}
use Rattle.refusal.specs.Refusals.{Verdict}

-- ---- with the three bytes apart

abbrev last : ℕ → Verdict
last n = first_met (trial (ltb file_buffer n) 5 n ∷ [])

abbrev verdict_of : ℕ → ℕ → ℕ → List ℕ → Verdict
verdict_of k w h m =
    cond (bad_kind k) (refused 1)
    (cond (bad_sides w h) (refused 2) (cond (short w h (length m ∷ [])) (refused 4) (last (file_length (head_of k w h) (length (listed m k w h))))))

abbrev text_of : ℕ → ℕ → ℕ → List ℕ → List ℕ
text_of k w h m = answer_text (verdict_of k w h m) (head_of k w h) (listed m k w h)

short-prefix : (w h n : ℕ) (m : List ℕ) → h * w ≤ n → short w h (length (take n m) ∷ []) ≡ short w h (length m ∷ [])
short-prefix w h n m l = ap (λ (b : Bool). cond b true false) (go (ltb (length m) (h * w)) refl)
  where
    go : (b : Bool) → ltb (length m) (h * w) ≡ b → ltb (length (take n m)) (h * w) ≡ b
    go true e = lt-ltb (length (take n m)) (h * w) (omega (arith, ltb-true (length m) (h * w) e, length-take n m))
    go false e = le-ltb (length (take n m)) (h * w) (omega (arith, ltb-false (length m) (h * w) e, length-take n m, l))

text-prefix : (k w h : ℕ) (m : List ℕ) → text_of k w h (take most_cells m) ≡ text_of k w h m
text-prefix k w h m = go (bad_kind k) (bad_sides w h) refl
  where
    go : (x y : Bool) → bad_sides w h ≡ y
        → answer_text (cond x (refused 1) (cond y (refused 2) (cond (short w h (length (take most_cells m) ∷ [])) (refused 4)
        (last (file_length (head_of k w h) (length (listed (take most_cells m) k w h))))))) (head_of k w h) (listed (take most_cells m) k w h)
        ≡ answer_text (cond x (refused 1) (cond y (refused 2) (cond (short w h (length m ∷ [])) (refused 4)
        (last (file_length (head_of k w h) (length (listed m k w h))))))) (head_of k w h) (listed m k w h)
    go true y e = refl
    go false true e = refl
    go false false e = λ i. answer_text (cond (s i) (refused 4) (last (file_length (head_of k w h) (length (l i))))) (head_of k w h) (l i)
      where
        room : h * w ≤ most_cells
        room = cells-most w h e

        s : short w h (length (take most_cells m) ∷ []) ≡ short w h (length m ∷ [])
        s = short-prefix w h most_cells m room

        l : listed (take most_cells m) k w h ≡ listed m k w h
        l = listing-prefix (head_of k w h) largest_erosion (take most_cells m) m (take-take (h * w) most_cells m room)

-- ---- a scan

drop-take : (i n : ℕ) (l : List ℕ) → drop i (take (i + n) l) ≡ take n (drop i l)
drop-take zero n l = ap (λ (k : ℕ). take k l) (zero-add n)
drop-take (suc i) n [] = ap (drop (suc i)) (take-nil (suc i + n)) ∙ sym (take-nil n)
drop-take (suc i) n (x ∷ l) = let e : suc i + n ≡ suc (i + n) = omega arith in ap (λ (k : ℕ). drop (suc i) (take k (x ∷ l))) e ∙ drop-take i n l

pub surplus-unread : (s : List ℕ) → plunges_text (take most_scan s) ≡ plunges_text s
surplus-unread s = (λ i. text_of (byte 0 (lit< tt) i) (byte 1 (lit< tt) i) (byte 2 (lit< tt) i) (drop-take 3 most_cells s i))
    ∙ text-prefix (byte_in s 0) (byte_in s 1) (byte_in s 2) (depths s)
  where
    byte : (j : ℕ) → j < most_scan → byte_in (take most_scan s) j ≡ byte_in s j
    byte j h = get_or-take most_scan s j 0 h
