-- Laws of the passes with 16-bit numbers: which bytes they leave, and the clearances that the numbers say at the end.
use mathlib.Core.Path.{◌≡◌, refl, sym, ap, ◌∙◌, subst}
use mathlib.Core.List.{List, ◌++◌}
use Prim.Native.Nat.{ℕ, ◌+◌, ◌*◌, ◌-◌, ◌/◌, ◌%◌, ◌≤◌, ◌<◌}
use native.Mathlib.Omega.{arith}
use native.Mathlib.Nat.{div-add-mod', div-lt_iff_lt-mul, mod-lt}
use lib.ListN.{length, get_or, drop}
use Rattle.geometry.specs.declared.Kind.{Kind}
use Rattle.geometry.specs.declared.Head.{Head}
use Rattle.geometry.specs.Plane.{Cell, cell}
use Rattle.geometry.specs.Plate.{area, tabulated}
use Rattle.theory.specs.Levels.{clearance}
use Rattle.theory.proofs.Plate.{length-tabulated, get_or-tabulated}
use Rattle.buffers.proofs.Rooms.{row_room}
use Rattle.row_arrays.specs.Start.{wall_number, start}
use Rattle.wide_rows.specs.Wide.{wide_map, wide_numbers, wide_wall, WideFilled, WideMerged}
use Rattle.wide_rows.proofs.Wide.{wide_fits, wide-as, wide-bytes}
use Rattle.distance_transform.specs.Transform.{Whole, Down, Up}
use Rattle.distance_transform.proofs.Finish.{walls-clearance}
use Rattle.wide_transform.specs.Passes.{WidePlates, WideOnly}

-- ---- the bytes past the plate's

module _ (p : Head) where
  pub only_none : (out : List ℕ) → WideOnly p out out
  only_none out = record { same = refl; surplus = λ n h. refl }

  pub only-more : (old mid new : List ℕ) → WideOnly p old mid → WideOnly p mid new → WideOnly p old new
  only-more old mid new h l = record { same = l.same ∙ h.same; surplus = λ n g. l.surplus n g ∙ h.surplus n g }

  pub only_row : (kd : Kind) (y : ℕ) (beside beside' row row' out out' : List ℕ) → y < p.height
      → WideMerged kd p.width (y * p.width) beside beside' row row' out out' → WideOnly p out out'
  only_row kd y beside beside' row row' out out' here h =
      record {
        same = h.same;
        surplus = λ n g. h.over n (omega (arith, row_room p.width y p.height (area p) here (omega arith)));
      }

-- ---- the end

-- a number of a plate's map, by its cell
tabulated-at : (p : Head) (f : Cell → ℕ) (n : ℕ) → 1 ≤ p.width → n < area p → (x : ℕ) × (y : ℕ) × (x < p.width) × (y < p.height) × (n ≡ y * p.width + x)
    × (get_or (tabulated p f) n 0 ≡ f (cell x y))
tabulated-at p f n wide h =
    let hx : n % p.width < p.width = mod-lt n wide in
    let hy : n / p.width < p.height = (div-lt_iff_lt-mul wide).1 (omega arith) in
    let k : n ≡ n / p.width * p.width + n % p.width = sym (div-add-mod' n p.width) in (
      n % p.width,
      n / p.width,
      hx,
      hy,
      k,
      ap (λ (i : ℕ). get_or (tabulated p f) i 0) k ∙ get_or-tabulated p f (n % p.width) (n / p.width) hx hy,
    )

-- the way down, the way up and the end
pub wide-clearances : (p : Head) (t : ℕ) (m old down up new : List ℕ) → WidePlates p m old → 1 ≤ t
    → Down p (start p (wall_number wide_wall t) m) (wide_numbers old) (wide_numbers down) → WideOnly p old down
    → Up p (wide_numbers down) (wide_numbers up) → WideOnly p down up
    → WideFilled (λ n. wide_wall - get_or (wide_numbers up) n 0) 0 (area p) up new
    → new ≡ wide_map (tabulated p (clearance p m t)) ++ drop (length (wide_map (tabulated p (clearance p m t)))) old
wide-clearances p t m old down up new f level d k u l h =
    wide-bytes (tabulated p (clearance p m t)) old new (omega (arith, f.room, length-tabulated p (clearance p m t)))
    (subst (λ (n : ℕ). WideFilled (λ n. get_or (tabulated p (clearance p m t)) n 0) 0 n old new) (sym (length-tabulated p (clearance p m t)))
    (wide-as (λ n. wide_wall - get_or (wide_numbers up) n 0) 0 (λ n. get_or (tabulated p (clearance p m t)) n 0) (area p) old new filled (λ n a b. number n b)))
  where
    kept : WideOnly p old up
    kept = only-more p old down up k l

    filled : WideFilled (λ n. wide_wall - get_or (wide_numbers up) n 0) 0 (area p) old new
    filled =
        record {
          same = h.same ∙ kept.same;
          high = h.high;
          low = h.low;
          under = λ n a. absurd (omega arith);
          over = λ n a. h.over n a ∙ kept.surplus n a;
        }

    whole : Whole p (start p (wall_number wide_wall t) m) (wide_numbers up)
    whole = u.rows (start p (wall_number wide_wall t) m) d.rows

    number : (n : ℕ) → n < area p → wide_wall - get_or (wide_numbers up) n 0 ≡ get_or (tabulated p (clearance p m t)) n 0
    number n b = go (tabulated-at p (clearance p m t) n f.held.wide b)
      where
        go : (x : ℕ) × (y : ℕ) × (x < p.width) × (y < p.height) × (n ≡ y * p.width + x)
            × (get_or (tabulated p (clearance p m t)) n 0 ≡ clearance p m t (cell x y))
            → wide_wall - get_or (wide_numbers up) n 0 ≡ get_or (tabulated p (clearance p m t)) n 0
        go (x, y, hx, hy, k, e) =
            ap (λ (i : ℕ). wide_wall - get_or (wide_numbers up) i 0) k
            ∙ walls-clearance wide_wall p m t level x y hx hy (omega (arith, f.held.narrow, wide_fits.above))
            (get_or (wide_numbers up) (y * p.width + x) 0) (whole y hy x hx)
            ∙ sym e
