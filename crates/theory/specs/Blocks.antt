-- To be believed: the blocks that document 01 marks M ("Blocks to try"), as records, with what the definitions give for them and what is asked.
use Rattle.std.specs.Prelude.{List, [], ◌∷◌, ℕ, replicate}
use Rattle.geometry.specs.declared.Kind.{Kind}
use Rattle.geometry.specs.declared.Kind.TheVariants.{Diamond, Square}
use Rattle.geometry.specs.declared.Head.{Head}
use Rattle.geometry.specs.declared.Plunge.{Plunge}
use Rattle.geometry.specs.Plate.{tabulated}
use Rattle.theory.specs.Erosion.{largest_residue, residue_sum}
use Rattle.theory.specs.Levels.{clearance, axis, reconstructed}
use Rattle.theory.specs.Listing.{listing, drawing, canonical}

-- the listing; of level 1 the clearance map, the axis map, and that drawn back; both score maps; what a source list draws, and that list tidied
pub record Answers : Type 0 where
  pub listed : List Plunge
  pub cleared : List ℕ
  pub medial : List ℕ
  pub restored : List ℕ
  pub largest : List ℕ
  pub summed : List ℕ
  pub drawn : List ℕ
  pub tidied : List Plunge

pub record Block : Type 0 where
  pub plate : Head
  pub relief : List ℕ
  pub source : List Plunge
  pub asked : Answers

-- what the definitions give, with residues 1 to the limit
abbrev pub answers : ℕ → Block → Answers
answers limit b =
    record {
      listed = listing b.plate limit b.relief;
      cleared = tabulated b.plate (clearance b.plate b.relief 1);
      medial = tabulated b.plate (axis b.plate b.relief 1);
      restored = tabulated b.plate (reconstructed b.plate (tabulated b.plate (axis b.plate b.relief 1)));
      largest = tabulated b.plate (largest_residue b.plate limit b.relief);
      summed = tabulated b.plate (residue_sum b.plate limit b.relief);
      drawn = drawing b.plate b.source;
      tidied = canonical b.plate limit b.source;
    }

-- "plunges as (column, row, reach, depth)"
abbrev q : ℕ → ℕ → ℕ → ℕ → Plunge
q x y r v = record { column = x; row = y; reach = record { 0 = r }; depth = v }

-- a source that draws the relief; the relief, its listing, its clearances, its axis, its shape, its largest residues and their sums
abbrev block : Kind → ℕ → ℕ → List Plunge → List ℕ → List Plunge → List ℕ → List ℕ → List ℕ → List ℕ → List ℕ → Block
block kd w h from m qs clear axial shape large sums =
    record {
      plate = record { kind = kd; width = w; height = h };
      relief = m;
      source = from;
      asked = record { listed = qs; cleared = clear; medial = axial; restored = shape; largest = large; summed = sums; drawn = m; tidied = qs };
    }

-- a 3 by 3 map: a all round, b in the middle
abbrev about : ℕ → ℕ → List ℕ
about a b = a ∷ a ∷ a ∷ a ∷ b ∷ a ∷ a ∷ a ∷ a ∷ []

-- a 3 by 3 map: a at the corners, b in the middle, 0 between
abbrev cornered : ℕ → ℕ → List ℕ
cornered a b = a ∷ 0 ∷ a ∷ 0 ∷ b ∷ 0 ∷ a ∷ 0 ∷ a ∷ []

-- a 4 by 4 map: a all round, b in the middle four
abbrev ringed : ℕ → ℕ → List ℕ
ringed a b = a ∷ a ∷ a ∷ a ∷ a ∷ b ∷ b ∷ a ∷ a ∷ b ∷ b ∷ a ∷ a ∷ a ∷ a ∷ a ∷ []

-- "1 by 1, depth 7, either kind: (0,0,0,7)."
abbrev single : Kind → Block
single kd = block kd 1 1 (q 0 0 0 2 ∷ q 0 0 0 7 ∷ []) (7 ∷ []) (q 0 0 0 7 ∷ []) (1 ∷ []) (1 ∷ []) (1 ∷ []) (7 ∷ []) (7 ∷ [])

-- "3 by 3 all 5, kind 8: only (1,1,1,5). Level 1 clearance 1 all round, 2 in the middle."
abbrev flat8 : Block
flat8 = block Square 3 3 (q 1 1 1 5 ∷ q 0 2 0 1 ∷ []) (about 5 5) (q 1 1 1 5 ∷ []) (about 1 2) (about 0 2) (about 1 1) (about 0 5) (about 0 5)

-- "The same, kind 4: the four corners at reach 0, then (1,1,1,5)."
abbrev pub flat4 : Block
flat4 =
    block Diamond 3 3 (q 1 1 1 5 ∷ q 2 2 0 5 ∷ q 0 2 0 5 ∷ q 1 0 0 5 ∷ q 2 0 0 5 ∷ q 0 0 0 5 ∷ []) (about 5 5)
    (q 0 0 0 5 ∷ q 2 0 0 5 ∷ q 0 2 0 5 ∷ q 2 2 0 5 ∷ q 1 1 1 5 ∷ []) (about 1 2) (cornered 1 2) (about 1 1) (cornered 5 5) (cornered 5 5)

-- "3 by 3 all 4, middle 9, kind 8: (1,1,0,9), (1,1,1,4). Middle scores: largest 5, sum 9; elsewhere 0."
abbrev pin : Block
pin = block Square 3 3 (q 1 1 1 4 ∷ q 1 1 0 9 ∷ []) (about 4 9) (q 1 1 0 9 ∷ q 1 1 1 4 ∷ []) (about 1 2) (about 0 2) (about 1 1) (about 0 5) (about 0 9)

-- "2 by 2 all 3, kind 8: four of reach 0."
abbrev two : Block
two =
    block Square 2 2 (q 1 1 0 3 ∷ q 0 1 0 3 ∷ q 0 1 0 3 ∷ q 1 0 0 3 ∷ q 0 0 0 3 ∷ []) (replicate 4 3)
    (q 0 0 0 3 ∷ q 1 0 0 3 ∷ q 0 1 0 3 ∷ q 1 1 0 3 ∷ []) (replicate 4 1) (replicate 4 1) (replicate 4 1) (replicate 4 3) (replicate 4 3)

-- "4 by 4 all 1, kind 8: four of reach 1, at columns and rows 1 and 2."
abbrev four : Block
four =
    block Square 4 4 (q 2 2 1 1 ∷ q 1 2 1 1 ∷ q 2 1 1 1 ∷ q 1 1 1 1 ∷ []) (ringed 1 1)
    (q 1 1 1 1 ∷ q 2 1 1 1 ∷ q 1 2 1 1 ∷ q 2 2 1 1 ∷ []) (ringed 1 2) (ringed 0 2) (ringed 1 1) (ringed 0 1) (ringed 0 1)

-- "3 wide, 1 high, depths 2 0 2: (0,0,0,2), (2,0,0,2)."
abbrev gapped : Kind → Block
gapped kd =
    block kd 3 1 (q 2 0 0 2 ∷ q 0 0 0 2 ∷ []) (2 ∷ 0 ∷ 2 ∷ []) (q 0 0 0 2 ∷ q 2 0 0 2 ∷ [])
    (1 ∷ 0 ∷ 1 ∷ []) (1 ∷ 0 ∷ 1 ∷ []) (1 ∷ 0 ∷ 1 ∷ []) (2 ∷ 0 ∷ 2 ∷ []) (2 ∷ 0 ∷ 2 ∷ [])

-- "all 0: none"
abbrev bare : Kind → Block
bare kd = block kd 3 3 [] (about 0 0) [] (about 0 0) (about 0 0) (about 0 0) (about 0 0) (about 0 0)

-- "3 by 3, kind 8, (1,1,0,4) then (1,1,1,4): tidies to (1,1,1,4)."
abbrev nested : Block
nested = block Square 3 3 (q 1 1 0 4 ∷ q 1 1 1 4 ∷ []) (about 4 4) (q 1 1 1 4 ∷ []) (about 1 2) (about 0 2) (about 1 1) (about 0 4) (about 0 4)

abbrev pub blocks : List Block
blocks =
    single Diamond ∷ single Square ∷ flat8 ∷ flat4 ∷ pin ∷ two ∷ four
    ∷ gapped Diamond ∷ gapped Square ∷ bare Diamond ∷ bare Square ∷ nested ∷ []
