-- Laws of residues joined to a score: cells of a row, a row's parts, rows one after the other, and one run where a margin is 0.
use mathlib.Core.Path.{◌≡◌, refl, sym, ap, ap₂, ◌∙◌, subst}
use mathlib.Core.List.{List}
use Prim.Native.Nat.{ℕ, suc, ◌+◌, ◌*◌, ◌-◌, ◌≤◌, ◌<◌}
use native.Mathlib.Omega.{arith}
use native.Mathlib.Decide.{dec_le}
use native.Mathlib.Nat.{suc-mul, zero-mul, mul-le-mul_right}
use native.Mathlib.Numerals.{add-one}
use lib.ListN.{length, get_or, set}
use Rattle.geometry.specs.declared.Head.{Head}
use Rattle.geometry.specs.Plane.{cell}
use Rattle.geometry.specs.Plate.{at}
use Rattle.window.specs.Windows.{window_max}
use Rattle.window.specs.Places.{window_in, Inner}
use Rattle.window.proofs.Windows.{interior-max-near}
use Rattle.theory.specs.Erosion.{highest_near}
use Rattle.buffers.specs.Fill.{Filled}
use Rattle.buffers.proofs.Fill.{filled_more, filled-as, filled_on, row_under}
use Rattle.buffers.specs.Margin.{Margin}
use Rattle.residue_scores.specs.declared.Score.{Score}
use Rattle.residue_scores.specs.declared.Score.TheVariants.{Largest, Sum}
use Rattle.residue_scores.specs.Residues.{joined_score, scored_at, Scored}

-- what was joined, named by what the maps hold
pub join-as : (s : Score) (v a a' r b x x' : ℕ) → v ≡ joined_score s a r → a ≡ a' → r ≡ b - x → x ≡ x' → v ≡ joined_score s a' (b - x')
join-as s v a a' r b x x' e f g h = e ∙ ap₂ (joined_score s) f (g ∙ ap (λ (n : ℕ). b - n) h)

-- one cell more of a row
module _ (p : Head) (s : Score) (prev cur old : List ℕ) (row from : ℕ) where
  pub cells-more : (x v : ℕ) (mid : List ℕ) → from ≤ x → row * p.width + x < length old
      → Filled (scored_at p s prev cur old row) (row * p.width + from) (row * p.width + x) old mid
      → v ≡ joined_score s (get_or mid (row * p.width + x) 0) (get_or prev (row * p.width + x) 0 - highest_near p.kind (at p cur) (cell x row))
      → Filled (scored_at p s prev cur old row) (row * p.width + from) (row * p.width + (x + 1)) old (set mid (row * p.width + x) v)
  cells-more x v mid a b f e =
      let n = row * p.width + x in
      let k : n + 1 ≡ row * p.width + (x + 1) = omega arith in
      let z : n - row * p.width ≡ x = omega arith in
      subst (λ (j : ℕ). Filled (scored_at p s prev cur old row) (row * p.width + from) j old (set mid n v)) k
      (filled_more (scored_at p s prev cur old row) (row * p.width + from) n v old mid f (omega arith) b
      (e ∙ ap₂ (joined_score s) (f.over n (omega arith)) (ap (λ (i : ℕ). get_or prev n 0 - highest_near p.kind (at p cur) (cell i row)) (sym z))))

-- a row's three parts: its first cell, the run inside, its last cell
module _ (p : Head) (s : Score) (prev cur old : List ℕ) (row : ℕ) where
  abbrev here : ℕ
  here = row * p.width

  pub row-whole : (new : List ℕ) → Filled (scored_at p s prev cur old row) (here + 0) (here + p.width) old new
      → Filled (scored_at p s prev cur old row) here (here + p.width) old new
  row-whole new f = let k : here + 0 ≡ here = omega arith in subst (λ (j : ℕ). Filled (scored_at p s prev cur old row) j (here + p.width) old new) k f

  pub row-parts : (first second new : List ℕ) → Inner p row
      → Filled (scored_at p s prev cur old row) (here + 0) (here + 1) old first
      → Filled (λ n. joined_score s (get_or first n 0) (get_or prev n 0 - window_max p.kind (window_in cur p.width n))) (here + 1)
      (here + p.width - 1) first second
      → Filled (scored_at p s prev cur second row) (here + (p.width - 1)) (here + p.width) second new
      → Filled (scored_at p s prev cur old row) here (here + p.width) old new
  row-parts first second new i f g h =
      row-whole new
      (filled_on _ (here + 0) (here + 1) (here + p.width) old first new (omega arith) (omega arith) f
      (filled_on _ (here + 1) (here + p.width - 1) (here + p.width) first second new (omega arith) (omega arith) middle last))
    where
      inner : (n : ℕ) → here + 1 ≤ n → n < here + p.width - 1
          → window_max p.kind (window_in cur p.width n) ≡ highest_near p.kind (at p cur) (cell (n - here) row)
      inner n c d =
          let k : here + (n - here) ≡ n = omega arith in
          ap (λ (j : ℕ). window_max p.kind (window_in cur p.width j)) (sym k)
          ∙ interior-max-near p cur (n - here) row (omega arith) (omega arith) i.first i.last

      middle : Filled (scored_at p s prev cur old row) (here + 1) (here + p.width - 1) first second
      middle = filled-as _ _ (here + 1) (here + p.width - 1) first second g
          (λ n c d. ap₂ (joined_score s) (f.over n c) (ap (λ (v : ℕ). get_or prev n 0 - v) (inner n c d)))

      last : Filled (scored_at p s prev cur old row) (here + p.width - 1) (here + p.width) second new
      last =
          let k : here + (p.width - 1) ≡ here + p.width - 1 = omega arith in
          subst (λ (j : ℕ). Filled (scored_at p s prev cur old row) j (here + p.width) second new) k
          (filled-as _ _ (here + (p.width - 1)) (here + p.width) second new h
          (λ n c d. ap (λ (v : ℕ). joined_score s v (get_or prev n 0 - highest_near p.kind (at p cur) (cell (n - here) row)))
          (g.over n (omega arith) ∙ f.over n (omega arith))))

-- rows, one after the other
module _ (p : Head) (s : Score) (prev cur old : List ℕ) where
  pub scored-none : Scored p s prev cur 0 0 old old
  scored-none = record { same = refl; inside = λ x y a b c. absurd (omega arith); under = λ n a. refl; over = λ n a. refl }

  pub scored-more : (y : ℕ) (mid new : List ℕ) → Scored p s prev cur 0 y old mid
      → Filled (scored_at p s prev cur mid y) (y * p.width) (y * p.width + p.width) mid new → Scored p s prev cur 0 (y + 1) old new
  scored-more y mid new e f =
      record {
        same = f.same ∙ e.same;
        inside = λ i j a b c. go i j a b c (dec_le y j);
        under = λ n a. absurd (omega (arith, zero-mul p.width));
        over = λ n a. f.over n (omega (arith, next)) ∙ e.over n (omega (arith, next));
      }
    where
      next : (y + 1) * p.width ≡ y * p.width + p.width
      next = ap (λ (n : ℕ). n * p.width) (add-one y) ∙ suc-mul y p.width

      go : (i j : ℕ) → i < p.width → 0 ≤ j → j < y + 1 → Dec (y ≤ j)
          → get_or new (j * p.width + i) 0 ≡ joined_score s (get_or old (j * p.width + i) 0)
          (get_or prev (j * p.width + i) 0 - highest_near p.kind (at p cur) (cell i j))
      go i j a b c (no d) = f.under (j * p.width + i) (row_under p.width y i j a (omega arith)) ∙ e.inside i j a b (omega arith)
      go i j a b c (yes d) =
          let k : j ≡ y = omega arith in
          let z : y * p.width + i - y * p.width ≡ i = omega arith in
          rw k
          (f.inside (y * p.width + i) (omega arith) (omega arith)
          ∙ ap₂ (joined_score s) (e.over (y * p.width + i) (omega arith))
          (ap (λ (n : ℕ). get_or prev (y * p.width + i) 0 - highest_near p.kind (at p cur) (cell n y)) z))

  -- with no residue a score stays
  joined-zero : (t : Score) (a b c : ℕ) → a < 256 → b ≡ 0 → joined_score t a (b - c) ≡ a
  joined-zero Largest a b c h e = omega arith
  joined-zero Sum a b c h e = omega arith

  module _ (k : ℕ) (m : Margin p k prev) (bytes : (n : ℕ) → get_or old n 0 < 256) where
    abbrev residue_at : ℕ → ℕ → ℕ
    residue_at i j = highest_near p.kind (at p cur) (cell i j)

    -- where the margin is all there is, nothing changes
    pub scored-same : ((i j : ℕ) → i < p.width → j < p.height → get_or prev (j * p.width + i) 0 ≡ 0) → Scored p s prev cur 0 p.height old old
    scored-same z =
        record {
          same = refl;
          inside = λ i j a b c. sym (joined-zero s (get_or old (j * p.width + i) 0) (get_or prev (j * p.width + i) 0) (residue_at i j)
              (bytes (j * p.width + i)) (z i j a c));
          under = λ n a. refl;
          over = λ n a. refl;
        }

    pub scored-narrow : 1 ≤ k → p.width < 3 → Scored p s prev cur 0 p.height old old
    scored-narrow a w = scored-same (λ i j c d. go i j c d (dec_le 1 i))
      where
        go : (i j : ℕ) → i < p.width → j < p.height → Dec (1 ≤ i) → get_or prev (j * p.width + i) 0 ≡ 0
        go i j c d (no e) = m.west i j c d (omega arith)
        go i j c d (yes e) = m.east i j c d (omega arith)

    pub scored-low : p.height < 2 * k + 1 → Scored p s prev cur 0 p.height old old
    scored-low h = scored-same (λ i j c d. go i j c d (dec_le k j))
      where
        go : (i j : ℕ) → i < p.width → j < p.height → Dec (k ≤ j) → get_or prev (j * p.width + i) 0 ≡ 0
        go i j c d (no e) = m.north i j c d (omega arith)
        go i j c d (yes e) = m.south i j c d (omega arith)

    -- one run over the rows that are left
    pub scored-run : (new : List ℕ) → 1 ≤ k → 3 ≤ p.width → 2 * k + 1 ≤ p.height
        → Filled (λ n. joined_score s (get_or old n 0) (get_or prev n 0 - window_max p.kind (window_in cur p.width n))) (k * p.width + 1)
        ((p.height - k) * p.width - 1) old new → Scored p s prev cur 0 p.height old new
    scored-run new a w h f =
        record {
          same = f.same;
          inside = λ i j c d e. go i j c e (dec_le k j) (dec_le (j + k + 1) p.height) (dec_le 1 i) (dec_le (i + 2) p.width);
          under = λ n c. absurd (omega (arith, zero-mul p.width));
          over = λ n c. f.over n (omega (arith, mul-le-mul_right p.width last));
        }
      where
        last : p.height - k ≤ p.height
        last = omega arith

        in-run : (n : ℕ) → Dec (k * p.width + 1 ≤ n) → Dec (suc n ≤ (p.height - k) * p.width - 1) → (v : ℕ) → get_or prev n 0 ≡ 0
            → get_or new n 0 ≡ joined_score s (get_or old n 0) (get_or prev n 0 - v)
        in-run n (no c) d v z = f.under n (omega arith) ∙ sym (joined-zero s (get_or old n 0) (get_or prev n 0) v (bytes n) z)
        in-run n (yes c) (no d) v z = f.over n (omega arith) ∙ sym (joined-zero s (get_or old n 0) (get_or prev n 0) v (bytes n) z)
        in-run n (yes c) (yes d) v z =
            f.inside n c d ∙ joined-zero s (get_or old n 0) (get_or prev n 0) (window_max p.kind (window_in cur p.width n)) (bytes n) z
            ∙ sym (joined-zero s (get_or old n 0) (get_or prev n 0) v (bytes n) z)

        none : (i j : ℕ) → get_or prev (j * p.width + i) 0 ≡ 0
            → get_or new (j * p.width + i) 0 ≡ joined_score s (get_or old (j * p.width + i) 0) (get_or prev (j * p.width + i) 0 - residue_at i j)
        none i j z = in-run (j * p.width + i) (dec_le (k * p.width + 1) (j * p.width + i))
            (dec_le (suc (j * p.width + i)) ((p.height - k) * p.width - 1)) (residue_at i j) z

        go : (i j : ℕ) → i < p.width → j < p.height → Dec (k ≤ j) → Dec (j + k + 1 ≤ p.height) → Dec (1 ≤ i) → Dec (i + 2 ≤ p.width)
            → get_or new (j * p.width + i) 0 ≡ joined_score s (get_or old (j * p.width + i) 0) (get_or prev (j * p.width + i) 0 - residue_at i j)
        go i j c d (no e) g l q = none i j (m.north i j c d (omega arith))
        go i j c d (yes e) (no g) l q = none i j (m.south i j c d (omega arith))
        go i j c d (yes e) (yes g) (no l) q = none i j (m.west i j c d (omega arith))
        go i j c d (yes e) (yes g) (yes l) (no q) = none i j (m.east i j c d (omega arith))
        go i j c d (yes e) (yes g) (yes l) (yes q) =
            let r : suc j ≤ p.height - k = omega arith in
            f.inside (j * p.width + i) (omega (arith, mul-le-mul_right p.width e)) (omega (arith, mul-le-mul_right p.width r, suc-mul j p.width))
            ∙ ap (λ (v : ℕ). joined_score s (get_or old (j * p.width + i) 0) (get_or prev (j * p.width + i) 0 - v))
            (interior-max-near p cur i j l (omega arith) (omega arith) (omega arith))
