-- The M blocks of document 01, in one statement: for every limit from 2 on, and so for 120, the definitions give what is asked.
-- The answers at limit 2 are computed (Answers); that nothing is listed after an empty erosion carries them on. And 'all 0: none' as a law.
use mathlib.Core.Path.{◌≡◌, refl, sym, ap, ◌∙◌}
use mathlib.Core.Logic.{◌⊎◌, inl, inr}
use mathlib.Core.List.{List, [], ◌∷◌, map}
use Prim.Native.Nat.{ℕ, ◌*◌, ◌≤◌, min}
use native.Mathlib.Omega.{arith}
use Rattle.geometry.specs.declared.Head.{Head}
use Rattle.geometry.specs.declared.Plunge.{Plunge}
use Rattle.geometry.specs.Plane.{Cell}
use Rattle.geometry.specs.Plate.{On, at, tabulated}
use Rattle.theory.specs.Erosion.{largest_residue, residue_sum}
use Rattle.theory.specs.Levels.{clearance, axis, reconstructed}
use Rattle.theory.specs.Listing.{listing, drawn, drawing}
use Rattle.theory.specs.Blocks.{Block, answers, blocks}
use Rattle.theory.proofs.Lists.{All}
use Rattle.blocks.proofs.Answers.{computed}
use Rattle.theory.proofs.Plate.{on-or-off, tabulated-same}
use Rattle.theory.proofs.Residues.{largest_residue-limit, residue_sum-limit}
use Rattle.theory.proofs.Listing.{listing-stops, listing-limit}
use Rattle.theory.proofs.Erosion.{erosion-zero}
use Rattle.theory.proofs.Drawing.{drawn-listing}

-- a block that two erosions empty
abbrev Small : Block → Type 0
Small b = min b.plate.width b.plate.height ≤ 2 * 2

module _ (limit : ℕ) (h : 2 ≤ limit) where
  answers-limit : (b : Block) → Small b → answers limit b ≡ answers 2 b
  answers-limit b s =
      λ i. record {
        listed = listing-limit b.plate limit b.relief 2 s h i;
        cleared = tabulated b.plate (clearance b.plate b.relief 1);
        medial = tabulated b.plate (axis b.plate b.relief 1);
        restored = tabulated b.plate (reconstructed b.plate (tabulated b.plate (axis b.plate b.relief 1)));
        largest = tabulated-same b.plate (largest_residue b.plate limit b.relief) (largest_residue b.plate 2 b.relief)
            (λ c o. largest_residue-limit b.plate b.relief 2 limit s h c) i;
        summed = tabulated-same b.plate (residue_sum b.plate limit b.relief) (residue_sum b.plate 2 b.relief)
            (λ c o. residue_sum-limit b.plate b.relief 2 limit s h c) i;
        drawn = drawing b.plate b.source;
        tidied = listing-limit b.plate limit (drawing b.plate b.source) 2 s h i;
      }

  all-limit : (bs : List Block) → All Small bs → map (answers limit) bs ≡ map (answers 2) bs
  all-limit [] s = refl
  all-limit (b ∷ bs) s = λ i. answers-limit b s.0 i ∷ all-limit bs s.1 i

small : All Small blocks
small = omega arith

pub blocks-hold : (limit : ℕ) → 2 ≤ limit → map (answers limit) blocks ≡ map (λ b. b.asked) blocks
blocks-hold limit h = all-limit limit h blocks small ∙ computed

-- ---- "all 0: none", on every plate

module _ (p : Head) (limit : ℕ) (m : List ℕ) where
  -- of a relief that is 0 everywhere nothing is listed
  pub bare-none : ((c : Cell) → On p c → at p m c ≡ 0) → listing p limit m ≡ []
  unfolding listing
  bare-none z = listing-stops p limit m 0 (omega arith) (λ c. erosion-zero p m c ∙ everywhere c (on-or-off p c))
    where
      everywhere : (c : Cell) → On p c ⊎ ((l : List ℕ) → at p l c ≡ 0) → at p m c ≡ 0
      everywhere c (inl o) = z c o
      everywhere c (inr off) = off m

  -- and of no other
  pub none_bare : min p.width p.height ≤ 2 * limit → listing p limit m ≡ [] → (c : Cell) → at p m c ≡ 0
  unfolding drawn
  none_bare sides e c = sym (drawn-listing p limit m sides c) ∙ ap (λ (qs : List Plunge). drawn p.kind qs c) e
