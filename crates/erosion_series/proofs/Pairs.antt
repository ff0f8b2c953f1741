-- Laws of a series of erosions: a buffer with an erosion has a margin of zeros; one step leads from one erosion to the next; an empty one ends it.
use mathlib.Core.Path.{◌≡◌, refl, sym, ap, ◌∙◌, subst, fun_ext}
use mathlib.Core.Logic.{◌⊎◌, inl, inr}
use mathlib.Core.List.{List}
use Prim.Native.Nat.{ℕ, suc, ◌+◌, ◌*◌, ◌-◌, ◌%◌, ◌≤◌, ◌<◌}
use native.Mathlib.Omega.{arith}
use native.Mathlib.Decide.{dec_le}
use native.Mathlib.Numerals.{add-one}
use borrow.Author.Tests.{lt-ltb, le-ltb}
use lib.IntN.{ℤ, pos, negsuc}
use lib.ListN.{length, get_or}
use Rattle.geometry.specs.declared.Kind.{Kind}
use Rattle.geometry.specs.declared.Kind.TheVariants.{Diamond, Square}
use Rattle.geometry.specs.declared.Head.{Head}
use Rattle.geometry.specs.Plane.{Cell, cell, gap, dist}
use Rattle.geometry.specs.Plate.{On, area, at}
use Rattle.theory.specs.Erosion.{erosion}
use Rattle.theory.specs.Near.{lowest_near}
use Rattle.theory.proofs.Distance.{gap-self}
use Rattle.theory.proofs.Plate.{on-or-off, at-cell}
use Rattle.theory.proofs.Erosion.{erosion-is, erosion-zero, erosion-step, erosion-off}
use Rattle.buffers.specs.Fill.{Filled, PlateOnly}
use Rattle.erosion_step.specs.Steps.{step_numbers, Stepped}
use Rattle.buffers.specs.Margin.{Margin}
use Rattle.erosion_series.specs.Pairs.{HoldsErosion, Turn, Pair, PairToStep, PairStep, ErodedTo, Last}

-- ---- margins

pub margin-none : (p : Head) (m : List ℕ) → Margin p 0 m
margin-none p m = record {
  west = λ x y a b c. absurd (omega arith);
  east = λ x y a b c. absurd (omega arith);
  north =
      λ x y a b c. absurd (omega arith);
  south = λ x y a b c. absurd (omega arith);
}

across : (kd : Kind) (x y : ℕ) (z : ℤ) (k : ℕ) → gap (pos x) z ≤ k → dist kd (cell x y) (record { col = z; row = pos y }) ≤ k
across Diamond x y z k h = omega (arith, gap-self (pos y))
across Square x y z k h = omega (arith, gap-self (pos y))

down : (kd : Kind) (x y : ℕ) (z : ℤ) (k : ℕ) → gap (pos y) z ≤ k → dist kd (cell x y) (record { col = pos x; row = z }) ≤ k
down Diamond x y z k h = omega (arith, gap-self (pos x))
down Square x y z k h = omega (arith, gap-self (pos x))

module _ (p : Head) (m : List ℕ) (k : ℕ) (s : List ℕ) (r : HoldsErosion p m k s) where
  -- within k of the border some cell off the plate is in the ball
  pub held-margin : Margin p k s
  held-margin =
      record {
        west = λ x y a b c. low x y a b (record { col = negsuc 0; row = pos y }) refl (across p.kind x y (negsuc 0) k (omega arith));
        east = λ x y a b c. low x y a b (cell p.width y) (east-off y) (across p.kind x y (pos p.width) k (omega arith));
        north = λ x y a b c. low x y a b (record { col = pos x; row = negsuc 0 }) refl (down p.kind x y (negsuc 0) k (omega arith));
        south = λ x y a b c. low x y a b (cell x p.height) (south-off x a) (down p.kind x y (pos p.height) k (omega arith));
      }
    where
      low : (x y : ℕ) → x < p.width → y < p.height → (o : Cell) → at p m o ≡ 0 → dist p.kind (cell x y) o ≤ k → get_or s (y * p.width + x) 0 ≡ 0
      low x y a b o z d = omega (arith, at-cell p s x y a b, r.holds (cell x y), (erosion-is p m k (cell x y)).bound o d)

      east-off : (y : ℕ) → at p m (cell p.width y) ≡ 0
      east-off y = let g : p.width ≤ p.width = omega arith in rw (le-ltb _ _ g)

      south-off : (x : ℕ) → x < p.width → at p m (cell x p.height) ≡ 0
      south-off x h = let g : p.height ≤ p.height = omega arith in rw (lt-ltb _ _ h, le-ltb _ _ g)

  -- one step leads to the next erosion
  module _ (old new : List ℕ) (v : ℕ) (e : Stepped p s old new v) where
    next : (c : Cell) → at p new c ≡ erosion p m (suc k) c
    next c = go (on-or-off p c)
      where
        same : lowest_near p.kind (at p s) c ≡ erosion p m (suc k) c
        same = ap (λ (f : Cell → ℕ). lowest_near p.kind f c) (fun_ext r.holds) ∙ sym (erosion-step p m k c)

        go : On p c ⊎ ((n : List ℕ) → at p n c ≡ 0) → at p new c ≡ erosion p m (suc k) c
        go (inl o) = subst (λ d. at p new d ≡ lowest_near p.kind (at p s) d) (sym o.is)
            (at-cell p new o.column o.row o.left o.upper ∙ e.map.holds o.column o.row o.left o.upper) ∙ same
        go (inr z) = z new ∙ sym (erosion-off p m (suc k) c z)

    pub held_next : area p ≤ length old → HoldsErosion p m (k + 1) new
    held_next h = record { long = omega (arith, e.map.same); holds = λ c. next c ∙ ap (λ (j : ℕ). erosion p m j c) (sym (add-one k)) }

    -- where nothing above 0 was written, the next erosion is 0 everywhere
    pub held-empty : v ≡ 0 → (c : Cell) → erosion p m (k + 1) c ≡ 0
    held-empty z c = ap (λ (j : ℕ). erosion p m j c) (add-one k) ∙ sym (next c) ∙ go (on-or-off p c)
      where
        go : On p c ⊎ ((n : List ℕ) → at p n c ≡ 0) → at p new c ≡ 0
        go (inl o) = subst (λ d. at p new d ≡ 0) (sym o.is)
            (omega (arith, at-cell p new o.column o.row o.left o.upper, e.top o.column o.row o.left o.upper))
        go (inr w) = w new

-- ---- the pair of buffers

pub kept-none : (p : Head) (s : List ℕ) → PlateOnly p s s
kept-none p s = record { same = refl; surplus = λ n a. refl }

pub kept_more : (p : Head) (a b c : List ℕ) → PlateOnly p a b → PlateOnly p b c → PlateOnly p a c
kept_more p a b c e f = record { same = f.same ∙ e.same; surplus = λ n h. f.surplus n h ∙ e.surplus n h }

pub mod_cases : (k : ℕ) → (k % 2 ≡ 0) ⊎ (k % 2 ≡ 1)
mod_cases k = go (dec_le 1 (k % 2))
  where
    go : Dec (1 ≤ k % 2) → (k % 2 ≡ 0) ⊎ (k % 2 ≡ 1)
    go (yes h) = inr (omega arith)
    go (no h) = inl (omega arith)

-- what one step asks of the two buffers, and what it leaves
module _ (p : Head) (m : List ℕ) (k : ℕ) (cur other : List ℕ) (t : Turn p m k cur other) where
  pub turn-margins : Margin p k cur × Margin p (k - 1) other
  turn-margins = (held-margin p m k cur t.held, behind (dec_le 1 k))
    where
      behind : Dec (1 ≤ k) → Margin p (k - 1) other
      behind (yes h) = held-margin p m (k - 1) other (t.behind h)
      behind (no h) = let z : 0 ≡ k - 1 = omega arith in subst (λ (j : ℕ). Margin p j other) z (margin-none p other)

  pub turn-next : (new : List ℕ) (v : ℕ) → Stepped p cur other new v → Turn p m (k + 1) new cur
  turn-next new v e =
      let z : k ≡ k + 1 - 1 = omega arith in
      record {
        held = held_next p m k cur t.held other new v e t.long;
        long = t.held.long;
        behind = λ h. subst (λ (j : ℕ). HoldsErosion p m j cur) z t.held;
      }

module _ (p : Head) (m : List ℕ) (k : ℕ) (a b : List ℕ) (q : Pair p m k a b) where
  pub pair-long : (area p ≤ length a) × (area p ≤ length b)
  pair-long = go (mod_cases k)
    where
      go : (k % 2 ≡ 0) ⊎ (k % 2 ≡ 1) → (area p ≤ length a) × (area p ≤ length b)
      go (inl e) = ((q.even e).held.long, (q.even e).long)
      go (inr o) = ((q.odd o).long, (q.odd o).held.long)

  module _ (a' b' : List ℕ) (v : ℕ) (s : PairStep p k a b a' b' v) where
    pub pair-next : Pair p m (k + 1) a' b'
    pair-next = go (mod_cases k)
      where
        go : (k % 2 ≡ 0) ⊎ (k % 2 ≡ 1) → Pair p m (k + 1) a' b'
        go (inl e) =
            record {
              even = λ f. absurd (omega arith);
              odd = λ f. subst (λ (l : List ℕ). Turn p m (k + 1) b' l) (sym (s.even e).0) (turn-next p m k a b (q.even e) b' v (s.even e).1);
            }
        go (inr o) =
            record {
              even = λ f. subst (λ (l : List ℕ). Turn p m (k + 1) a' l) (sym (s.odd o).0) (turn-next p m k b a (q.odd o) a' v (s.odd o).1);
              odd = λ f. absurd (omega arith);
            }

    pub pair-kept : PlateOnly p a a' × PlateOnly p b b'
    pair-kept = go (mod_cases k)
      where
        go : (k % 2 ≡ 0) ⊎ (k % 2 ≡ 1) → PlateOnly p a a' × PlateOnly p b b'
        go (inl e) = (
          subst (PlateOnly p a) (sym (s.even e).0) (kept-none p a),
          record { same = (s.even e).1.map.same; surplus = (s.even e).1.map.surplus },
        )
        go (inr o) = (record { same = (s.odd o).1.map.same; surplus = (s.odd o).1.map.surplus }, subst (PlateOnly p b) (sym (s.odd o).0) (kept-none p b))

    pub pair-empty : v ≡ 0 → (c : Cell) → erosion p m (k + 1) c ≡ 0
    pair-empty z = go (mod_cases k)
      where
        go : (k % 2 ≡ 0) ⊎ (k % 2 ≡ 1) → (c : Cell) → erosion p m (k + 1) c ≡ 0
        go (inl e) = held-empty p m k a (q.even e).held b b' v (s.even e).1 z
        go (inr o) = held-empty p m k b (q.odd o).held a a' v (s.odd o).1 z

-- a copy of the relief is erosion 0
pub held_start : (p : Head) (m old new : List ℕ) → area p ≤ length m → area p ≤ length old → Filled (λ n. get_or m n 0) 0 (area p) old new
    → HoldsErosion p m 0 new
held_start p m old new h l f = record { long = omega (arith, f.same); holds = λ c. go c (on-or-off p c) ∙ sym (erosion-zero p m c) }
  where
    go : (c : Cell) → On p c ⊎ ((n : List ℕ) → at p n c ≡ 0) → at p new c ≡ at p m c
    go c (inr z) = z new ∙ sym (z m)
    go c (inl o) =
        subst (λ d. at p new d ≡ at p m d) (sym o.is)
        (at-cell p new o.column o.row o.left o.upper
        ∙ f.inside (o.row * p.width + o.column) (omega arith) (lib.Arith.digits_lt o.upper o.left)
        ∙ sym (at-cell p m o.column o.row o.left o.upper))

pub pair-start : (p : Head) (m a b : List ℕ) → HoldsErosion p m 0 a → area p ≤ length b → Pair p m 0 a b
pair-start p m a b r h = record { even = λ e. record { held = r; long = h; behind = λ l. absurd (omega arith) }; odd = λ o. absurd (omega arith) }

-- ---- the series, turn by turn

-- where the series is after k steps
pub record Eroding (p : Head) (m : List ℕ) (k : ℕ) (a b a' b' : List ℕ) : Type 0 where
  pub pair : Pair p m k a' b'
  pub first : PlateOnly p a a'
  pub second : PlateOnly p b b'

pub eroding-start : (p : Head) (m a b : List ℕ) → HoldsErosion p m 0 a → area p ≤ length b → Eroding p m 0 a b a b
eroding-start p m a b r h = record { pair = pair-start p m a b r h; first = kept-none p a; second = kept-none p b }

module _ (p : Head) (m : List ℕ) (k : ℕ) (a b a' b' : List ℕ) (e : Eroding p m k a b a' b') where
  -- what the next step asks
  pub eroding-asks : k < step_numbers → 1 ≤ p.width → PairToStep p k a' b'
  eroding-asks h w =
      let l = pair-long p m k a' b' e.pair in
      record {
        number = h;
        wide = w;
        first = l.0;
        second = l.1;
        even = λ f. turn-margins p m k a' b' (e.pair.even f);
        odd = λ f. turn-margins p m k b' a' (e.pair.odd f);
      }

  module _ (a'' b'' : List ℕ) (v : ℕ) (s : PairStep p k a' b' a'' b'' v) where
    pub eroding-more : Eroding p m (k + 1) a b a'' b''
    eroding-more =
        let t = pair-kept p m k a' b' e.pair a'' b'' v s in
        record {
          pair = pair-next p m k a' b' e.pair a'' b'' v s;
          first = kept_more p a a' a'' e.first t.0;
          second =
              kept_more p b b' b'' e.second t.1;
        }

    pub eroding-empty : v ≡ 0 → (c : Cell) → erosion p m (k + 1) c ≡ 0
    eroding-empty = pair-empty p m k a' b' e.pair a'' b'' v s

-- from the copy on, the whole series
pub eroded-to : (p : Head) (m : List ℕ) (number k : ℕ) (old a b a' b' : List ℕ) → Filled (λ n. get_or m n 0) 0 (area p) old a → Eroding p m k a b a' b'
    → k ≤ number → (1 ≤ number → 1 ≤ k) → Last p m number k → ErodedTo p m number old b a' b' k
eroded-to p m number k old a b a' b' f e h l g =
    record {
      pair = e.pair;
      first = kept_more p old a a' (record { same = f.same; surplus = f.over }) e.first;
      second = e.second;
      upto = h;
      some = l;
      ended = g;
    }

-- a copy leaves what lies past it
pub kept-copy : (p : Head) (f : ℕ → ℕ) (old new : List ℕ) → Filled f 0 (area p) old new → PlateOnly p old new
kept-copy p f old new e = record { same = e.same; surplus = e.over }
