-- Every text of a job's figures has room in a page of `summary_room` bytes.
use mathlib.Core.Bool.{Bool, true, false, cond}
use mathlib.Core.List.{List, [], ◌++◌}
use Prim.Native.Nat.{ℕ, suc, ◌+◌, ◌*◌, ◌≤◌}
use native.Mathlib.Omega.{arith}
use lib.Dec.{eqb}
use lib.ListN.{length, length-append}
use Rattle.geometry.specs.declared.Head.{Head}
use Rattle.geometry.specs.declared.Plunge.{Plunge}
use Rattle.geometry.specs.Forms.{kind_byte, largest_reach}
use Rattle.theory.proofs.Lists.{gather-few}
use Rattle.numerals.specs.Numerals.{numeral}
use Rattle.numerals.proofs.Sizes.{numeral-most}
use Rattle.phrases.specs.Phrases.{ascii, phrase}
use Rattle.reading.specs.Reading.{head_in, plunges_in, total}
use Rattle.motion.specs.Changes.{changes_in}
use Rattle.job_figures.specs.Figures.{count_of, least_depth, greatest_depth, travel_in}
use Rattle.job_relief.specs.Relief.{volume_in, is_tidy}
use Rattle.job_summary.specs.Summary.{plate_line, plunges_line, reach_line, reach_at, reach_lines, changes_line, travel_line, list_text, volume_line, tidy_line, relief_text, summary_text, summary_room}

-- a number has 20 digits at most
phrase-most : (b : List ℕ) (n : ℕ) (a : List ℕ) → length (phrase b n a) ≤ length b + (20 + length a)
phrase-most b n a = omega (arith, length-append (b ++ numeral n) a, length-append b (numeral n), numeral-most n)

two : (x y : List ℕ) (m n : ℕ) → length x ≤ m → length y ≤ n → length (x ++ y) ≤ m + n
two x y m n h l = omega (arith, length-append x y)

plate-most : (p : Head) → length (plate_line p) ≤ 78
unfolding plate_line
plate-most p =
    let a = phrase (ascii "plate ") p.width (ascii " by ") in
    let b = phrase [] p.height (ascii ", kind ") in
    let c = phrase [] (kind_byte p.kind) (ascii "\n") in
    two (a ++ b) c 57 21 (two a b 30 27 (phrase-most (ascii "plate ") p.width (ascii " by ")) (phrase-most [] p.height (ascii ", kind ")))
    (phrase-most [] (kind_byte p.kind) (ascii "\n"))

reach-most : (r n low high : ℕ) → length (reach_line r n low high) ≤ 110
unfolding reach_line
reach-most r n low high =
    let a = phrase (ascii "reach ") r (ascii ": plunges ") in
    let b = phrase [] n (ascii ", depths ") in
    let c = phrase [] low (ascii " to ") in
    two (a ++ b ++ c) (phrase [] high (ascii "\n")) 89 21
    (two (a ++ b) c 65 24 (two a b 36 29 (phrase-most (ascii "reach ") r (ascii ": plunges ")) (phrase-most [] n (ascii ", depths ")))
    (phrase-most [] low (ascii " to ")))
    (phrase-most [] high (ascii "\n"))

found-most : (qs : List Plunge) (r : ℕ) → length (reach_at qs r) ≤ 110
found-most qs r = go (eqb (count_of r qs) 0)
  where
    go : (b : Bool) → length (cond b [] (reach_line r (count_of r qs) (least_depth r qs) (greatest_depth r qs))) ≤ 110
    go true = omega arith
    go false = reach-most r (count_of r qs) (least_depth r qs) (greatest_depth r qs)

reaches-most : (qs : List Plunge) → length (reach_lines qs) ≤ suc largest_reach * 110
unfolding reach_lines
reaches-most qs = gather-few (reach_at qs) 110 (found-most qs) (suc largest_reach) 0

tidy_most : (t : Bool) → length (tidy_line t) ≤ 9
tidy_most true = omega arith
tidy_most false = omega arith

list-most : (f : List ℕ) → length (list_text f) ≤ 13370
list-most f =
    let qs = plunges_in f in
    let a = plate_line (head_in f) in
    let b = plunges_line (total f) in
    let c = reach_lines qs in
    let d = changes_line (changes_in qs) in
    two (a ++ b ++ c ++ d) (travel_line (travel_in qs)) 13336 34
    (two (a ++ b ++ c) d 13307 29
    (two (a ++ b) c 107 13200 (two a b 78 29 (plate-most (head_in f)) (phrase-most (ascii "plunges ") (total f) (ascii "\n"))) (reaches-most qs))
    (phrase-most (ascii "changes ") (changes_in qs) (ascii "\n")))
    (phrase-most (ascii "travel ") (travel_in qs) (ascii " cells\n"))

relief-most : (f : List ℕ) → length (relief_text f) ≤ 37
relief-most f =
    two (volume_line (volume_in f)) (tidy_line (is_tidy f)) 28 9 (phrase-most (ascii "volume ") (volume_in f) (ascii "\n")) (tidy_most (is_tidy f))

pub summary-fits : (f : List ℕ) → length (summary_text f) ≤ summary_room
unfolding summary_text
summary-fits f = omega (arith, two (list_text f) (relief_text f) 13370 37 (list-most f) (relief-most f))
