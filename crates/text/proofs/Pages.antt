-- The lines of a file's text by their numbers, and pages that are filled part by part.
use mathlib.Core.Path.{◌≡◌, refl, sym, ap, ap₂, ◌∙◌, subst}
use mathlib.Core.Bool.{Bool, true, false, cond}
use mathlib.Core.List.{List, [], ◌∷◌, ◌++◌}
use Prim.Native.Nat.{ℕ, zero, suc, ◌+◌, ◌-◌, ◌*◌, ◌≤◌, ◌<◌}
use native.Mathlib.Nat.{zero-add}
use native.Mathlib.Omega.{arith}
use native.Mathlib.Decide.{dec_le}
use borrow.Author.Tests.{eq-eqb, ne_eqb, le-leb, lt-leb}
use lib.Dec.{eqb, leb}
use lib.ListN.{length, get_or}
use Rattle.geometry.specs.Lists.{gather}
use Rattle.theory.proofs.Lists.{gather-more, gather-same, gather-few}
use Rattle.fields.specs.Fields.{place}
use Rattle.numerals.specs.Numerals.{Puts}
use Rattle.geometry.specs.Sizes.{size_of}
use Rattle.reading.proofs.Bytes.{head-numbers, plunge-numbers}
use Rattle.reading.specs.Reading.{IsReadable, head_in, total, nth_plunge, plunges_in}
use Rattle.reading.proofs.Readable.{length-plunges_in}
use Rattle.text.specs.declared.Page.{Page}
use Rattle.text_lines.specs.Text.{plate_line, plunge_line, plunge_lines, total_line, list_text, line_room}
use Rattle.text.specs.Pages.{line_at, line_count, PageOf}
use Rattle.phrases.proofs.Puts.{puts-puts, puts-length}
use Rattle.text_lines.proofs.Lines.{plate-room, plunge-room, total-room}

-- ---- lines by their numbers

module _ (f : List ℕ) (i : ℕ) where
  pub line-plate : i ≡ 0 → line_at f i ≡ plate_line (head_in f)
  unfolding line_at
  line-plate e = rw (eq-eqb i 0 e)

  pub line-plunge : (i ≡ 0 → ⊥) → i ≤ total f → line_at f i ≡ plunge_line (nth_plunge f (i - 1))
  unfolding line_at
  line-plunge e l = rw (ne_eqb i 0 e, le-leb i (total f) l)

  pub line-total : total f < i → line_at f i ≡ total_line (total f)
  unfolding line_at
  line-total l = let e : i ≡ 0 → ⊥ = λ z. omega arith in rw (ne_eqb i 0 e, lt-leb i (total f) l)

  -- every line has room
  pub line-room : IsReadable f → ((k : ℕ) → get_or f k 0 < 256) → length (line_at f i) ≤ line_room
  unfolding line_at
  line-room ok bytes = go (eqb i 0) (leb i (total f))
    where
      go : (a b : Bool) → length (cond a (plate_line (head_in f)) (cond b (plunge_line (nth_plunge f (i - 1))) (total_line (total f)))) ≤ line_room
      go true b = let h = head-numbers f bytes in plate-room (head_in f) h.0 h.1
      go false true =
          let n = plunge-numbers (size_of (head_in f)) f (place (head_in f) (i - 1)) bytes in
          plunge-room (nth_plunge f (i - 1)) n.0 n.1 n.2 (omega (arith, n.3))
      go false false = total-room (total f)

-- a line that was put, by what it is
pub line-put : (f : List ℕ) (i : ℕ) (xs old new : List ℕ) (at r : ℕ) → IsReadable f → ((k : ℕ) → get_or f k 0 < 256) → xs ≡ line_at f i → Puts old at xs new r
    → Puts old at (line_at f i) new r × (r ≤ at + line_room)
line-put f i xs old new at r ok bytes e p =
    let q : Puts old at (line_at f i) new r = subst (λ (l : List ℕ). Puts old at l new r) e p in
    (q, omega (arith, q.1, line-room f i ok bytes))

pub line-asks : (f : List ℕ) (i : ℕ) (xs old : List ℕ) (at : ℕ) → IsReadable f → ((k : ℕ) → get_or f k 0 < 256) → xs ≡ line_at f i → at + line_room ≤ length old
    → at + length xs ≤ length old
line-asks f i xs old at ok bytes e h = omega (arith, ap length e, line-room f i ok bytes)

-- ---- pages

-- what a page holds while it is filled
pub record Filled (part : ℕ → List ℕ) (parts from : ℕ) (old page : List ℕ) (used next : ℕ) : Type 0 where
  pub onward : from ≤ next
  pub within : next ≤ parts
  pub put : Puts old 0 (gather (next - from) from part) page used
  pub fits : used ≤ length old
  pub same : length page ≡ length old

module _ (part : ℕ → List ℕ) (parts from : ℕ) (old : List ℕ) where
  -- one part more
  pub filled_more : (page new : List ℕ) (used next r : ℕ) → Filled part parts from old page used next → next < parts
      → Puts page used (part next) new r → used + length (part next) ≤ length old → Filled part parts from old new r (next + 1)
  filled_more page new used next r f h p l =
      record {
        onward = omega (arith, f.onward);
        within = omega arith;
        put = subst (λ (xs : List ℕ). Puts old 0 xs new r) (sym more)
            (puts-puts old 0 (gather (next - from) from part) page used (part next) new r f.put p (omega (arith, f.put.1, f.fits)));
        fits = omega (arith, p.1, l);
        same = puts-length page used (part next) new r p (omega (arith, f.same)) ∙ f.same;
      }
    where
      count : next + 1 - from ≡ next - from + 1
      count = omega (arith, f.onward)

      there : from + (next - from) ≡ next
      there = omega (arith, f.onward)

      more : gather (next + 1 - from) from part ≡ gather (next - from) from part ++ part next
      more = ap (λ (n : ℕ). gather n from part) count ∙ gather-more (next - from) from part
          ∙ ap (λ (n : ℕ). gather (next - from) from part ++ part n) there

-- ---- all lines together are the text

module _ {A : Type 0} where
  gather-next : (n i : ℕ) (g : ℕ → List A) → gather n (suc i) g ≡ gather n i (λ j. g (suc j))
  gather-next zero i g = refl
  gather-next (suc n) i g = ap (λ (l : List A). g (suc i) ++ l) (gather-next n (suc i) g)

lines-gather : (f : List ℕ) (n i : ℕ) → gather n i (λ j. plunge_line (nth_plunge f j)) ≡ plunge_lines (gather n i (λ j. nth_plunge f j ∷ []))
lines-gather f zero i = refl
lines-gather f (suc n) i = ap (λ (l : List ℕ). plunge_line (nth_plunge f i) ++ l) (lines-gather f n (suc i))

pub lines-text : (f : List ℕ) → gather (line_count f) 0 (line_at f) ≡ list_text (head_in f) (plunges_in f)
lines-text f =
    ap (λ (n : ℕ). gather n 0 (line_at f)) count
    ∙ gather-more (suc (total f)) 0 (line_at f)
    ∙ ap₂ (λ (x y : List ℕ). x ++ y) (ap₂ (λ (x y : List ℕ). x ++ y) (line-plate f 0 refl) between) (line-total f (0 + suc (total f)) (omega arith))
    ∙ ap (λ (n : ℕ). plate_line (head_in f) ++ plunge_lines (plunges_in f) ++ total_line n) (sym (length-plunges_in f))
  where
    count : line_count f ≡ suc (total f) + 1
    count = omega arith

    between : gather (total f) 1 (line_at f) ≡ plunge_lines (plunges_in f)
    between =
        gather-next (total f) 0 (line_at f)
        ∙ gather-same (total f) 0 (λ j. line_at f (suc j)) (λ j. plunge_line (nth_plunge f j))
        (λ j a b. line-plunge f (suc j) (λ e. omega (arith, e)) (omega arith) ∙ ap (λ (k : ℕ). plunge_line (nth_plunge f k)) (pred j))
        ∙ lines-gather f (total f) 0
      where
        pred : (j : ℕ) → suc j - 1 ≡ j
        pred j = omega arith

-- a page with room for every line holds them all
pub page-whole : (f old new : List ℕ) (r : Page) → IsReadable f → ((k : ℕ) → get_or f k 0 < 256) → line_room * line_count f ≤ length old
    → PageOf (line_at f) (line_count f) line_room 0 old new r → Puts old 0 (list_text (head_in f) (plunges_in f)) new r.used
page-whole f old new r ok bytes h p =
    subst (λ (xs : List ℕ). Puts old 0 xs new r.used) (ap (λ (n : ℕ). gather n 0 (line_at f)) all ∙ lines-text f)
    (p.bytes, p.used ∙ sym (zero-add _))
  where
    few : r.used ≤ (r.next - 0) * line_room
    few = subst (λ (n : ℕ). n ≤ (r.next - 0) * line_room) (sym p.used) (gather-few (line_at f) line_room (λ j. line-room f j ok bytes) (r.next - 0) 0)

    all : r.next - 0 ≡ line_count f
    all = go (dec_le (line_count f) r.next)
      where
        go : Dec (line_count f ≤ r.next) → r.next - 0 ≡ line_count f
        go (yes l) = omega (arith, l, p.within)
        go (no l) = absurd (omega (arith, p.full (omega (arith, l)), few, l))

-- a page with room for a line goes on
pub page-goes-on : (part : ℕ → List ℕ) (parts room from : ℕ) (old new : List ℕ) (r : Page) → PageOf part parts room from old new r → from < parts
    → room ≤ length old → from < r.next
page-goes-on part parts room from old new r p h l = go (dec_le r.next from)
  where
    go : Dec (r.next ≤ from) → from < r.next
    go (no k) = omega (arith, k)
    go (yes k) = absurd (omega (arith, none, p.full (omega arith), l))
      where
        at : r.next - from ≡ 0
        at = omega (arith, k)

        none : r.used ≡ 0
        none = p.used ∙ ap (λ (n : ℕ). length (gather n from part)) at
