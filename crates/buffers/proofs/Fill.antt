-- Laws of filling: nothing yet, one number more, the bytes that a whole map leaves.
use mathlib.Core.Path.{◌≡◌, refl, sym, ap, ◌∙◌, subst}
use mathlib.Core.Logic.{◌⊎◌, inl, inr}
use mathlib.Core.List.{List, ◌++◌}
use Prim.Native.Nat.{ℕ, ◌+◌, ◌*◌, ◌-◌, ◌/◌, ◌%◌, ◌≤◌, ◌<◌}
use native.Mathlib.Omega.{arith}
use native.Mathlib.Decide.{dec_le}
use native.Mathlib.Nat.{suc-mul, mul-le-mul_right, div-add-mod', div-lt_iff_lt-mul, mod-lt, mul-zero, eq-zero-or-pos}
use lib.ListN.{length, get_or, take, drop, set, length-set, length-append, length-drop, get_or-append}
use lib.Seq.{ext_get_or, get_or-set_same, get_or-set_other, get_or-append-add, get_or-drop, get_or-take, length-take-le}
use borrow.Rule.Slice.PartMut.{put_mid, post_of}
use Rattle.geometry.specs.declared.Head.{Head}
use Rattle.geometry.specs.Plane.{Cell}
use Rattle.geometry.specs.Plate.{area, tabulated}
use Rattle.theory.proofs.Plate.{length-tabulated, get_or-tabulated}
use Rattle.buffers.specs.Fill.{Filled, Mapped}

-- ---- places and rows

-- the places of the rows from a up to b
pub rows_in : (w a b x y : ℕ) → x < w → a ≤ y → y < b → (a * w ≤ y * w + x) × (y * w + x < b * w)
rows_in w a b x y h l g = (omega (arith, mul-le-mul_right w l), omega (arith, mul-le-mul_right w g, suc-mul y w))

pub row_under : (w a x y : ℕ) → x < w → y < a → y * w + x < a * w
row_under w a x y h l = omega (arith, mul-le-mul_right w l, suc-mul y w)

pub row-over : (w b x y : ℕ) → b ≤ y → b * w ≤ y * w + x
row-over w b x y l = omega (arith, mul-le-mul_right w l)

-- ---- filling

pub filled_none : (f : ℕ → ℕ) (from : ℕ) (old : List ℕ) → Filled f from from old old
filled_none f from old = record { same = refl; inside = λ n h l. absurd (omega arith); under = λ n h. refl; over = λ n h. refl }

-- one number more
pub filled_more : (f : ℕ → ℕ) (from to v : ℕ) (old mid : List ℕ) → Filled f from to old mid → from ≤ to → to < length old → v ≡ f to
    → Filled f from (to + 1) old (set mid to v)
filled_more f from to v old mid h g l e =
    record {
      same = length-set mid to v ∙ h.same;
      inside = λ n a b. in-turn n a b (dec_le to n);
      under = λ n a. get_or-set_other mid to n v 0 (omega arith) ∙ h.under n a;
      over = λ n a. get_or-set_other mid to n v 0 (omega arith) ∙ h.over n (omega arith);
    }
  where
    in-turn : (n : ℕ) → from ≤ n → n < to + 1 → Dec (to ≤ n) → get_or (set mid to v) n 0 ≡ f n
    in-turn n a b (yes d) = let k : n ≡ to = omega arith in rw k (get_or-set_same mid to v 0 (omega (arith, h.same)) ∙ e)
    in-turn n a b (no d) = get_or-set_other mid to n v 0 (omega arith) ∙ h.inside n a (omega arith)

-- at a loop's end the place reached is the place meant
pub filled-end : (f : ℕ → ℕ) (from n to : ℕ) (old new : List ℕ) → n ≤ to → to ≤ n → Filled f from n old new → Filled f from to old new
filled-end f from n to old new h l e = let k : n ≡ to = omega arith in subst (λ (j : ℕ). Filled f from j old new) k e

-- the same with other numbers that agree
pub filled-as : (f g : ℕ → ℕ) (from to : ℕ) (old new : List ℕ) → Filled f from to old new → ((n : ℕ) → from ≤ n → n < to → f n ≡ g n) → Filled g from to old new
filled-as f g from to old new h e = record { same = h.same; inside = λ n a b. h.inside n a b ∙ e n a b; under = h.under; over = h.over }

-- a stretch filled, and then the next one
pub filled_on : (f : ℕ → ℕ) (from mid to : ℕ) (old half new : List ℕ) → from ≤ mid → mid ≤ to → Filled f from mid old half → Filled f mid to half new
    → Filled f from to old new
filled_on f from mid to old half new a b h l =
    record {
      same = l.same ∙ h.same;
      inside = λ n c d. go n c d (dec_le mid n);
      under = λ n c. l.under n (omega arith) ∙ h.under n c;
      over = λ n c. l.over n c ∙ h.over n (omega arith);
    }
  where
    go : (n : ℕ) → from ≤ n → n < to → Dec (mid ≤ n) → get_or new n 0 ≡ f n
    go n c d (yes e) = l.inside n e d
    go n c d (no e) = l.under n (omega arith) ∙ h.inside n c (omega arith)

-- a part of a buffer written as one: `buffer[from..to]` had k places and now holds part
module _ (f : ℕ → ℕ) (from k to : ℕ) (old part : List ℕ) (at-end : to ≡ from + k) (room : to ≤ length old) where
  pub filled-part : length part ≡ k → ((n : ℕ) → n < k → get_or part n 0 ≡ f (from + n)) → Filled f from to old (put_mid from k old part)
  filled-part long h =
      record {
        same = sizes;
        inside = λ n a b.
            let e : n ≡ from + (n - from) = omega arith in
            subst (λ (j : ℕ). get_or (put_mid from k old part) j 0 ≡ f j) (sym e) (in-part (n - from) (omega arith));
        under = λ n a. get_or-append (take from old) (part ++ post_of from k old) 0 n (omega (arith, before)) ∙ get_or-take from old n 0 a;
        over = λ n a.
            let e : n ≡ from + (k + (n - to)) = omega arith in
            subst (λ (j : ℕ). get_or (put_mid from k old part) j 0 ≡ get_or old j 0) (sym e) (past (n - to));
      }
    where
      before : length (take from old) ≡ from
      before = length-take-le from old (omega arith)

      -- a place from the part on
      on : (n : ℕ) → get_or (put_mid from k old part) (from + n) 0 ≡ get_or (part ++ post_of from k old) n 0
      on n =
          ap (λ (j : ℕ). get_or (put_mid from k old part) (j + n) 0) (sym before)
          ∙ get_or-append-add (take from old) (part ++ post_of from k old) n 0

      in-part : (n : ℕ) → n < k → get_or (put_mid from k old part) (from + n) 0 ≡ f (from + n)
      in-part n l = on n ∙ get_or-append part (post_of from k old) 0 n (omega arith) ∙ h n l

      past : (n : ℕ) → get_or (put_mid from k old part) (from + (k + n)) 0 ≡ get_or old (from + (k + n)) 0
      past n =
          on (k + n)
          ∙ ap (λ (j : ℕ). get_or (part ++ post_of from k old) (j + n) 0) (sym long)
          ∙ get_or-append-add part (post_of from k old) n 0
          ∙ get_or-drop k (drop from old) n 0
          ∙ get_or-drop from old (k + n) 0

      sizes : length (put_mid from k old part) ≡ length old
      sizes = omega (
        arith,
        before,
        length-append (take from old) (part ++ post_of from k old),
        length-append part (post_of from k old),
        length-drop k (drop from old),
        length-drop from old,
      )

  -- the same, copied from a part of another list
  pub filled-copied : (source : List ℕ) (start m : ℕ) → part ≡ take m (drop start source) → m ≡ k → start + k ≤ length source
      → ((n : ℕ) → n < k → f (from + n) ≡ get_or source (start + n) 0) → Filled f from to old (put_mid from k old part)
  filled-copied source start m is few h e =
      filled-part (ap (λ (l : List ℕ). length l) is ∙ length-take-le m (drop start source) (omega (arith, length-drop start source)) ∙ few)
      (λ n l. ap (λ (l : List ℕ). get_or l n 0) is ∙ get_or-take m (drop start source) n 0 (omega arith) ∙ get_or-drop start source n 0 ∙ sym (e n l))

-- ---- maps in buffers

module _ (p : Head) (f : Cell → ℕ) (old new : List ℕ) where
  -- what a buffer that starts with a map holds, byte for byte
  pub mapped-bytes : area p ≤ length old → Mapped p f old new → new ≡ tabulated p f ++ drop (length (tabulated p f)) old
  mapped-bytes h m = ext_get_or 0 new (tabulated p f ++ drop (length (tabulated p f)) old) sizes (λ n l. entry n (dec_le (area p) n) (eq-zero-or-pos p.width))
    where
      sizes : length new ≡ length (tabulated p f ++ drop (length (tabulated p f)) old)
      sizes = omega (
        arith,
        m.same,
        length-append (tabulated p f) (drop (length (tabulated p f)) old),
        length-drop (length (tabulated p f)) old,
        length-tabulated p f,
      )

      entry : (n : ℕ) → Dec (area p ≤ n) → (p.width ≡ 0) ⊎ (0 < p.width) → get_or new n 0 ≡ get_or (tabulated p f ++ drop (length (tabulated p f)) old) n 0
      entry n (yes a) w =
          let k : n ≡ length (tabulated p f) + (n - length (tabulated p f)) = omega (arith, length-tabulated p f) in
          m.surplus n a
          ∙ ap (λ (i : ℕ). get_or old i 0) k
          ∙ sym (get_or-drop (length (tabulated p f)) old (n - length (tabulated p f)) 0)
          ∙ sym (get_or-append-add (tabulated p f) (drop (length (tabulated p f)) old) (n - length (tabulated p f)) 0)
          ∙ ap (λ (i : ℕ). get_or (tabulated p f ++ drop (length (tabulated p f)) old) i 0) (sym k)
      entry n (no a) (inl z) = absurd (omega (arith, ap (λ (w : ℕ). p.height * w) z ∙ mul-zero p.height))
      entry n (no a) (inr w) =
          let hx : n % p.width < p.width = mod-lt n w in
          let hy : n / p.width < p.height = (div-lt_iff_lt-mul w).1 (omega arith) in
          let k : n / p.width * p.width + n % p.width ≡ n = div-add-mod' n p.width in
          ap (λ (j : ℕ). get_or new j 0) (sym k)
          ∙ m.holds (n % p.width) (n / p.width) hx hy
          ∙ sym (get_or-tabulated p f (n % p.width) (n / p.width) hx hy)
          ∙ ap (λ (j : ℕ). get_or (tabulated p f) j 0) k
          ∙ sym (get_or-append (tabulated p f) (drop (length (tabulated p f)) old) 0 n (omega (arith, length-tabulated p f)))

  -- the bytes past the map, as the rest of a list
  pub surplus-drop : (same : length new ≡ length old) → ((n : ℕ) → area p ≤ n → get_or new n 0 ≡ get_or old n 0) → drop (area p) new ≡ drop (area p) old
  surplus-drop same h =
      ext_get_or 0 (drop (area p) new) (drop (area p) old) (omega (arith, length-drop (area p) new, length-drop (area p) old))
      (λ n l. get_or-drop (area p) new n 0 ∙ h (area p + n) (omega arith) ∙ sym (get_or-drop (area p) old n 0))
