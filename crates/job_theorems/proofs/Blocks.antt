-- The M blocks of document 01 in one statement, files included: for every limit from 2 on, and so for 120, the definitions give what is asked.
use mathlib.Core.Path.{◌≡◌, refl, ap, ap₂, ◌∙◌}
use mathlib.Core.Logic.{◌↔◌}
use mathlib.Core.List.{List, [], ◌∷◌, map}
use Prim.Native.Nat.{ℕ, ◌+◌, ◌*◌, ◌≤◌}
use native.Mathlib.Omega.{arith}
use lib.ListN.{length}
use Rattle.geometry.specs.declared.Head.{Head}
use Rattle.geometry.specs.declared.Plunge.{Plunge}
use Rattle.geometry.specs.Plane.{Cell}
use Rattle.geometry.specs.Plate.{On, at}
use Rattle.theory.specs.Listing.{listing, canonical}
use Rattle.theory.specs.Blocks.{Answers, Block, answers, blocks}
use Rattle.blocks.proofs.Blocks.{blocks-hold, bare-none, none_bare}
use Rattle.refusal.specs.Refusals.{largest_erosion}
use Rattle.refusal.specs.Sides.{Sides}
use Rattle.geometry.specs.declared.Size.{Size}
use Rattle.geometry.specs.Sizes.{size_of}
use Rattle.geometry.proofs.Sizes.{small_size}
use Rattle.fields.specs.Fields.{head_bytes, plunge_bytes, end_bytes, file_length, encoded}
use Rattle.fields.proofs.Encoding.{encoded-length}
use Rattle.reading.proofs.Readable.{encoded-head, encoded-plunges}
use Rattle.jobs.specs.Calls.{tidied}
use Rattle.job_theorems.specs.Blocks.{Filed, filed, files, asked}

-- a list's file is tidied to the file of its canonical form
pub tidied-encoded : (p : Head) (qs : List Plunge) → tidied (encoded p qs) ≡ encoded p (canonical p largest_erosion qs)
tidied-encoded p qs = ap₂ (λ (h : Head) (os : List Plunge). encoded h (canonical h largest_erosion os)) (encoded-head p qs) (encoded-plunges p qs)

-- answers and plates, joined to files: those at a limit, and those at the calls' own
abbrev join : List Answers → List Answers → List Head → List Filed
join [] os ps = []
join (a ∷ as') [] ps = []
join (a ∷ as') (o ∷ os) [] = []
join (a ∷ as') (o ∷ os) (p ∷ ps) = record { answered = a; listed = encoded p a.listed; tidied = encoded p o.tidied } ∷ join as' os ps

joined-files : (limit : ℕ) (bs : List Block)
    → map (filed limit) bs ≡ join (map (answers limit) bs) (map (answers largest_erosion) bs) (map (λ b. b.plate) bs)
joined-files limit [] = refl
joined-files limit (b ∷ bs) = λ i.
    record { answered = answers limit b; listed = encoded b.plate (answers limit b).listed; tidied = tidied-encoded b.plate b.source i }
    ∷ joined-files limit bs i

computed : join (map (λ b. b.asked) blocks) (map (λ b. b.asked) blocks) (map (λ b. b.plate) blocks) ≡ asked blocks files
unfolding encoded size_of
computed = refl

pub files-hold : (limit : ℕ) → 2 ≤ limit → map (filed limit) blocks ≡ asked blocks files
files-hold limit h =
    joined-files limit blocks
    ∙ ap₂ (λ (l o : List Answers). join l o (map (λ b. b.plate) blocks)) (blocks-hold limit h) (blocks-hold largest_erosion (omega arith))
    ∙ computed

-- ---- "all 0: none; 13 bytes", on every plate

-- the file of a listing has 13 bytes exactly when every cell of the plate has depth 0
pub bare-file : (p : Head) (m : List ℕ) → Sides p → (length (encoded p (listing p largest_erosion m)) ≡ 13) ↔ ((c : Cell) → On p c → at p m c ≡ 0)
bare-file p m sides = (
  (λ e c o. none_bare p largest_erosion m (omega (arith, sides.narrow)) (empty (listing p largest_erosion m)
      (omega (arith, e, encoded-length p (listing p largest_erosion m), small-length (length (listing p largest_erosion m))))) c),
  λ z. ap (λ (qs : List Plunge). length (encoded p qs)) (bare-none p largest_erosion m z) ∙ encoded-length p [] ∙ small-length 0,
)
  where
    small-length : (n : ℕ) → file_length p n ≡ 13 + 7 * n
    small-length n = ap (λ (s : Size). head_bytes s + plunge_bytes s * n + end_bytes) (small_size p sides.narrow sides.low) ∙ omega arith

    empty : (qs : List Plunge) → length qs ≡ 0 → qs ≡ []
    empty [] e = refl
    empty (q ∷ qs) e = absurd (omega arith)
