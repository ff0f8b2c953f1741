-- To be believed: refusals: "a number with a place" (document 01, "Refusals in their order"). What is tried, in which order, and what is left in a buffer.
use Rattle.std.specs.Prelude.{◌≡◌, Bool, true, false, cond, not, List, [], ◌∷◌, ◌++◌, ℕ, ◌*◌, leb, ltb, eqb, length, drop, ⊤, Option, Some, None, Result, Ok, Err, is_none, unwrap_or}
use Rattle.geometry.specs.declared.Kind.{Kind}
use Rattle.geometry.specs.declared.Kind.TheVariants.{Square}
use Rattle.geometry.specs.declared.Head.{Head}
use Rattle.geometry.specs.Lists.{any}
use Rattle.geometry.specs.Forms.{kind_of}
use Rattle.geometry.specs.Sizes.{small_side}
use Rattle.refusal.specs.declared.Refusal.{Refusal}

-- what a call says of its arguments and buffers: nothing against them, or a refusal
abbrev pub Verdict : Type 0
Verdict = Result ⊤ Refusal

-- one thing that is tried: whether it is met, and the number and the place of its refusal
pub record Trial : Type 0 where
  pub met : Bool
  pub number : ℕ
  pub place : ℕ

abbrev pub trial : Bool → ℕ → ℕ → Trial
trial b n p = record { met = b; number = n; place = p }

-- "The first met is given."
abbrev pub first_met : List Trial → Verdict
first_met [] = Ok tt
first_met (t ∷ more) = cond t.met (Err (record { number = t.number; place = t.place })) (first_met more)

-- "each 1 to 240 cells"
abbrev pub largest_side : ℕ
largest_side = small_side

abbrev pub is_side : ℕ → Bool
is_side n = cond (leb 1 n) (leb n largest_side) false

-- "rung or residue number not 1 to 120": the largest number of an erosion and of a residue
abbrev pub largest_erosion : ℕ
largest_erosion = 120

-- a number from 1 to the largest
abbrev pub is_erosion_number : ℕ → Bool
is_erosion_number n = cond (leb 1 n) (leb n largest_erosion) false

-- "The shape at level t (1 to 255)"
abbrev pub largest_level : ℕ
largest_level = 255

abbrev pub is_level : ℕ → Bool
is_level t = cond (leb 1 t) (leb t largest_level) false

-- "1: kind not 4 or 8": the byte names no kind
abbrev pub bad_kind : ℕ → Bool
bad_kind k = is_none (kind_of k)

-- "2: width or height not 1 to 240"
abbrev pub bad_sides : ℕ → ℕ → Bool
bad_sides w h = cond (is_side w) (not (is_side h)) true

-- "4: relief, map or work buffer shorter than width × height"
abbrev pub short : ℕ → ℕ → List ℕ → Bool
short w h lengths = any (λ n. ltb n (h * w)) lengths

-- "Arguments are tried in the order 1, 2, 3; … then 4": the sides, what 3 is about, the buffers
abbrev pub side_trials : ℕ → ℕ → Bool → List ℕ → List Trial
side_trials w h wrong lengths =
    trial (bad_sides w h) 2 0 ∷ trial wrong 3 0 ∷ trial (short w h lengths) 4 0 ∷ []

abbrev pub map_trials : ℕ → ℕ → ℕ → Bool → List ℕ → List Trial
map_trials k w h wrong lengths = trial (bad_kind k) 1 0 ∷ side_trials w h wrong lengths

-- the kind that was named; where none was, a call is refused and nothing is said by it
abbrev pub kind_named : Option Kind → Kind
kind_named (Some kd) = kd
kind_named None = Square

-- the plate that a kind's byte and two sides describe
abbrev pub head_of : ℕ → ℕ → ℕ → Head
head_of k w h = record { kind = kind_named (kind_of k); width = w; height = h }

-- what an output holds at exit: the answer's bytes, then what stood there before; unchanged on a refusal
abbrev pub written : Verdict → List ℕ → List ℕ → List ℕ
written (Ok _) new old = new ++ drop (length new) old
written (Err r) new old = old

-- a call that gives a verdict and one output
pub record Answered (verdict : Verdict) (new old now : List ℕ) (r : Verdict) : Type 0 where
  pub answer : r ≡ verdict
  pub bytes : now ≡ written verdict new old

-- work bytes "are free after acceptance, and after refusals 5 and 12; other refusals leave them untouched"
abbrev pub free : Verdict → Bool
free (Ok _) = true
free (Err r) = cond (eqb r.number 5) true (eqb r.number 12)

-- a work buffer: its length and what lies past the plate's bytes stay, and all of it where its bytes are not free
pub record Worked (verdict : Verdict) (area : ℕ) (old now : List ℕ) : Type 0 where
  pub same : length now ≡ length old
  pub surplus : drop area now ≡ drop area old
  pub kept : free verdict ≡ false → now ≡ old
