-- Texts appended one after another are one text appended.
use mathlib.Core.Path.{◌≡◌, refl, sym, ap, ap₂, ◌∙◌, subst}
use mathlib.Core.Bool.{true, false, cond}
use mathlib.Core.List.{List, [], ◌∷◌, ◌++◌, append_assoc, append-nil}
use Prim.Native.Nat.{ℕ, ◌+◌, ◌-◌, ◌/◌, ◌%◌, ◌≤◌, ◌<◌, min}
use native.Mathlib.Omega.{arith}
use native.Mathlib.Numerals.{add-one}
use native.Mathlib.Nat.{le_antisymm}
use native.Mathlib.Decide.{dec_le}
use lib.ListN.{length, take, drop, get_or, length-append, length-take}
use lib.Seq.{take_all, take-append-le, take-append-add, take-append_seam, take-suc, take-length}
use Rattle.io.specs.Counts.{IsPrefixLen}
use Rattle.fields.specs.Writing.{spliced}
use Rattle.fields.proofs.Splice.{splice-nil, splice-start, splice-splice, splice-length}
use Rattle.numerals.specs.Numerals.{Puts}
use Rattle.phrases.specs.Phrases.{Appends, is_plain, shown_byte, shown_name}
use Rattle.phrases.proofs.Puts.{counts}

pub appends-length : (old : List ℕ) (at : ℕ) (x new : List ℕ) (r : ℕ) → at ≤ length old → Appends old at x new r → length new ≡ length old
appends-length old at x new r h p =
    ap length p.bytes ∙ splice-length old at (take (length old - at) x) (omega (arith, length-take (length old - at) x))

-- the place behind a text counts bytes of the page
pub appends-counts : (old : List ℕ) (at : ℕ) (x new : List ℕ) (r : ℕ) → at ≤ length old → Appends old at x new r → IsPrefixLen r new
appends-counts old at x new r h p = counts r new (omega (arith, p.end, appends-length old at x new r h p))

-- no text
pub appends-none : (old : List ℕ) (at : ℕ) → at ≤ length old → Appends old at [] old at
appends-none old at h =
    record {
      bytes = sym (ap (spliced old at) (take_all (length old - at) [] (omega arith)) ∙ splice-nil old at);
      end = omega arith;
    }

-- a text that is put as far as there is room
pub appends-put : (old : List ℕ) (at : ℕ) (x new : List ℕ) (n r : ℕ) → at ≤ length old → n ≡ min (length x) (length old - at)
    → Puts old at (take n x) new r → Appends old at x new r
appends-put old at x new n r h e p =
    record {
      bytes = p.0 ∙ ap (spliced old at) cut;
      end = omega (arith, p.1, length-take n x);
    }
  where
    few : (length x ≤ length old - at → ⊥) → n ≡ length old - at
    few l = omega arith

    cut : take n x ≡ take (length old - at) x
    cut = elim (dec_le (length x) (length old - at)) [
      | yes l ↦ take_all n x (omega arith) ∙ sym (take_all (length old - at) x l)
      | no l ↦ ap (λ (k : ℕ). take k x) (few l)
    ]

-- where there is room, a text is put whole
pub appends-puts : (old : List ℕ) (at : ℕ) (x new : List ℕ) (r : ℕ) → at + length x ≤ length old → Appends old at x new r → Puts old at x new r
appends-puts old at x new r h p =
    (p.bytes ∙ ap (spliced old at) (take_all (length old - at) x (omega arith)), omega (arith, p.end))

-- a text that was put whole
pub puts-appends : (old : List ℕ) (at : ℕ) (x new : List ℕ) (r : ℕ) → at + length x ≤ length old → Puts old at x new r → Appends old at x new r
puts-appends old at x new r h p =
    record {
      bytes = p.0 ∙ ap (spliced old at) (sym (take_all (length old - at) x (omega arith)));
      end = omega (arith, p.1);
    }

-- two texts, the second behind the first, are one
pub appends-appends : (old : List ℕ) (at : ℕ) (x mid : List ℕ) (r : ℕ) (y new : List ℕ) (s : ℕ) → at ≤ length old
    → Appends old at x mid r → Appends mid r y new s → Appends old at (x ++ y) new s
appends-appends old at x mid r y new s h p q =
    record {
      bytes = elim (dec_le (at + length x) (length old)) [ yes l ↦ whole l | no l ↦ full l ];
      end = omega (arith, p.end, q.end, same, length-append x y);
    }
  where
    same : length mid ≡ length old
    same = appends-length old at x mid r h p

    whole : at + length x ≤ length old → new ≡ spliced old at (take (length old - at) (x ++ y))
    whole l =
        let rest = length old - (at + length x) in
        let e : length mid - r ≡ rest = omega (arith, p.end, same) in
        let first : mid ≡ spliced old at x = (appends-puts old at x mid r l p).0 in
        let place : r ≡ at + length x = (appends-puts old at x mid r l p).1 in
        let split : length old - at ≡ length x + rest = omega arith in
        q.bytes ∙ ap (λ (k : ℕ). spliced mid r (take k y)) e ∙ ap₂ (λ (m : List ℕ) (k : ℕ). spliced m k (take rest y)) first place
        ∙ splice-splice old at x (take rest y) l ∙ ap (spliced old at) (sym (ap (λ (k : ℕ). take k (x ++ y)) split ∙ take-append-add x y rest))

    full : (at + length x ≤ length old → ⊥) → new ≡ spliced old at (take (length old - at) (x ++ y))
    full l =
        let e : length mid - r ≡ 0 = omega (arith, p.end, same) in
        q.bytes ∙ ap (λ (k : ℕ). spliced mid r (take k y)) e ∙ splice-nil mid r ∙ p.bytes
        ∙ ap (spliced old at) (sym (take-append-le (length old - at) x y (omega arith)))

-- what a function that appends promises: the text, and a place in the page
abbrev pub Appended : List ℕ → ℕ → List ℕ → List ℕ → ℕ → Type 0
Appended old at x new r = Appends old at x new r × IsPrefixLen r new

pub appended : {old : List ℕ} {at : ℕ} {x new : List ℕ} {r : ℕ} → at ≤ length old → Appends old at x new r → Appended old at x new r
appended {old} {at} {x} {new} {r} h p = (p, appends-counts old at x new r h p)

-- one function that appends behind another
pub appended_then : {old : List ℕ} {at : ℕ} {x mid : List ℕ} {r : ℕ} {y new : List ℕ} {s : ℕ} → at ≤ length old
    → Appended old at x mid r → Appended mid r y new s → Appended old at (x ++ y) new s
appended_then {old} {at} {x} {mid} {r} {y} {new} {s} h p q = (appends-appends old at x mid r y new s h p.0 q.0, q.1)

-- the bytes of a text that was put at the start of a page
pub put-taken : (old x new : List ℕ) (r : ℕ) → length x ≤ length old → Puts old 0 x new r → take r new ≡ x
put-taken old x new r h p =
    let e : r ≡ length x = omega (arith, p.1) in
    ap₂ (λ (k : ℕ) (l : List ℕ). take k l) e (p.0 ∙ splice-start old x) ∙ take-append_seam x (drop (length x) old)

-- ---- names

shown-append : (xs ys : List ℕ) → shown_name (xs ++ ys) ≡ shown_name xs ++ shown_name ys
shown-append [] ys = refl
shown-append (b ∷ xs) ys = ap (λ l. shown_byte b ++ l) (shown-append xs ys) ∙ sym (append_assoc (shown_byte b) (shown_name xs) (shown_name ys))

abbrev pub octal : ℕ → List ℕ
octal b = 92 ∷ (48 + b / 64) ∷ (48 + b / 8 % 8) ∷ (48 + b % 8) ∷ []

pub shown-plain : (b : ℕ) → is_plain b ≡ true → shown_byte b ≡ b ∷ []
shown-plain b e = ap (λ t. cond t (b ∷ []) (octal b)) e

pub shown-octal : (b : ℕ) → is_plain b ≡ false → shown_byte b ≡ octal b
shown-octal b e = ap (λ t. cond t (b ∷ []) (octal b)) e

-- the first i bytes of a name are shown
pub record Shown (old : List ℕ) (at : ℕ) (name page : List ℕ) (end i : ℕ) : Type 0 where
  pub within : i ≤ length name
  pub text : Appends old at (shown_name (take i name)) page end
  pub counted : IsPrefixLen end page
  pub same : length page ≡ length old

module _ (old : List ℕ) (at : ℕ) (name : List ℕ) (h : at ≤ length old) where
  pub shown-none : Shown old at name old at 0
  shown-none = record { within = omega arith; text = appends-none old at h; counted = counts at old h; same = refl }

  pub shown-more : (page : List ℕ) (end i : ℕ) (new : List ℕ) (r : ℕ) → Shown old at name page end i → i < length name
      → Appended page end (shown_byte (get_or name i 0)) new r → Shown old at name new r (i + 1)
  shown-more page end i new r s l q =
      let one : take (i + 1) name ≡ take i name ++ (get_or name i 0 ∷ []) = rw (add-one i) (take-suc name i 0 l) in
      let more : shown_name (take (i + 1) name) ≡ shown_name (take i name) ++ shown_byte (get_or name i 0) =
      ap shown_name one ∙ shown-append (take i name) (get_or name i 0 ∷ [])
      ∙ ap (λ t. shown_name (take i name) ++ t) (append-nil (shown_byte (get_or name i 0))) in
      record {
        within = omega arith;
        text = subst (λ t. Appends old at t new r) (sym more) (appends-appends old at (shown_name (take i name)) page end (shown_byte (get_or name i 0)) new r h s.text q.0);
        counted = q.1;
        same = appends-length page end (shown_byte (get_or name i 0)) new r s.counted.0 q.0 ∙ s.same;
      }

  pub shown-all : (page : List ℕ) (end i : ℕ) → Shown old at name page end i → length name ≤ i → Appended old at (shown_name name) page end
  shown-all page end i s l =
      let e : i ≡ length name = le_antisymm s.within l in
      (subst (λ t. Appends old at t page end) (ap shown_name (ap (λ (n : ℕ). take n name) e ∙ take-length name)) s.text, s.counted)
