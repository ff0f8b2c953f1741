-- To be believed: the M blocks of document 01 with their files: the same blocks as in the theory, and the whole file of each.
use Rattle.std.specs.Prelude.{List, [], ◌∷◌, ℕ}
use Rattle.theory.specs.Blocks.{Answers, Block, answers}
use Rattle.fields.specs.Fields.{encoded}
use Rattle.jobs.specs.Calls.{tidied}

-- a block's answers, the file of its listing, and the file of its source tidied
pub record Filed : Type 0 where
  pub answered : Answers
  pub listed : List ℕ
  pub tidied : List ℕ

-- what the definitions give, with residues 1 to the limit; the source's file is tidied as the call does
abbrev pub filed : ℕ → Block → Filed
filed limit b =
    record { answered = answers limit b; listed = encoded b.plate (answers limit b).listed; tidied = tidied (encoded b.plate b.source) }

-- the files that document 01 asks for, in the order of the blocks, field by field
abbrev pub files : List (List ℕ)
files =
    -- 1 by 1, depth 7, either kind
    (1 ∷ 0 ∷ 3 ∷ 4 ∷ 1 ∷ 1 ∷ 2 ∷ 0 ∷ 4 ∷ 0 ∷ 0 ∷ 0 ∷ 7 ∷ 3 ∷ 0 ∷ 4 ∷ 0 ∷ 0 ∷ 0 ∷ 1 ∷ []) ∷
    (1 ∷ 0 ∷ 3 ∷ 8 ∷ 1 ∷ 1 ∷ 2 ∷ 0 ∷ 4 ∷ 0 ∷ 0 ∷ 0 ∷ 7 ∷ 3 ∷ 0 ∷ 4 ∷ 0 ∷ 0 ∷ 0 ∷ 1 ∷ []) ∷
    -- 3 by 3 all 5, kind 8
    (1 ∷ 0 ∷ 3 ∷ 8 ∷ 3 ∷ 3 ∷ 2 ∷ 0 ∷ 4 ∷ 1 ∷ 1 ∷ 1 ∷ 5 ∷ 3 ∷ 0 ∷ 4 ∷ 0 ∷ 0 ∷ 0 ∷ 1 ∷ []) ∷
    -- the same, kind 4
    (1 ∷ 0 ∷ 3 ∷ 4 ∷ 3 ∷ 3 ∷ 2 ∷ 0 ∷ 4 ∷ 0 ∷ 0 ∷ 0 ∷ 5 ∷ 2 ∷ 0 ∷ 4 ∷ 2 ∷ 0 ∷ 0 ∷ 5 ∷ 2 ∷ 0 ∷ 4 ∷ 0 ∷ 2 ∷ 0 ∷ 5 ∷
    2 ∷ 0 ∷ 4 ∷ 2 ∷ 2 ∷ 0 ∷ 5 ∷ 2 ∷ 0 ∷ 4 ∷ 1 ∷ 1 ∷ 1 ∷ 5 ∷ 3 ∷ 0 ∷ 4 ∷ 0 ∷ 0 ∷ 0 ∷ 5 ∷ []) ∷
    -- 3 by 3 all 4, middle 9, kind 8: document 01 writes its file out
    (1 ∷ 0 ∷ 3 ∷ 8 ∷ 3 ∷ 3 ∷ 2 ∷ 0 ∷ 4 ∷ 1 ∷ 1 ∷ 0 ∷ 9 ∷ 2 ∷ 0 ∷ 4 ∷ 1 ∷ 1 ∷ 1 ∷ 4 ∷ 3 ∷ 0 ∷ 4 ∷ 0 ∷ 0 ∷ 0 ∷ 2 ∷ []) ∷
    -- 2 by 2 all 3, kind 8
    (1 ∷ 0 ∷ 3 ∷ 8 ∷ 2 ∷ 2 ∷ 2 ∷ 0 ∷ 4 ∷ 0 ∷ 0 ∷ 0 ∷ 3 ∷ 2 ∷ 0 ∷ 4 ∷ 1 ∷ 0 ∷ 0 ∷ 3 ∷ 2 ∷ 0 ∷ 4 ∷ 0 ∷ 1 ∷ 0 ∷ 3 ∷
    2 ∷ 0 ∷ 4 ∷ 1 ∷ 1 ∷ 0 ∷ 3 ∷ 3 ∷ 0 ∷ 4 ∷ 0 ∷ 0 ∷ 0 ∷ 4 ∷ []) ∷
    -- 4 by 4 all 1, kind 8
    (1 ∷ 0 ∷ 3 ∷ 8 ∷ 4 ∷ 4 ∷ 2 ∷ 0 ∷ 4 ∷ 1 ∷ 1 ∷ 1 ∷ 1 ∷ 2 ∷ 0 ∷ 4 ∷ 2 ∷ 1 ∷ 1 ∷ 1 ∷ 2 ∷ 0 ∷ 4 ∷ 1 ∷ 2 ∷ 1 ∷ 1 ∷
    2 ∷ 0 ∷ 4 ∷ 2 ∷ 2 ∷ 1 ∷ 1 ∷ 3 ∷ 0 ∷ 4 ∷ 0 ∷ 0 ∷ 0 ∷ 4 ∷ []) ∷
    -- 3 wide, 1 high, depths 2 0 2, either kind
    (1 ∷ 0 ∷ 3 ∷ 4 ∷ 3 ∷ 1 ∷ 2 ∷ 0 ∷ 4 ∷ 0 ∷ 0 ∷ 0 ∷ 2 ∷ 2 ∷ 0 ∷ 4 ∷ 2 ∷ 0 ∷ 0 ∷ 2 ∷ 3 ∷ 0 ∷ 4 ∷ 0 ∷ 0 ∷ 0 ∷ 2 ∷ []) ∷
    (1 ∷ 0 ∷ 3 ∷ 8 ∷ 3 ∷ 1 ∷ 2 ∷ 0 ∷ 4 ∷ 0 ∷ 0 ∷ 0 ∷ 2 ∷ 2 ∷ 0 ∷ 4 ∷ 2 ∷ 0 ∷ 0 ∷ 2 ∷ 3 ∷ 0 ∷ 4 ∷ 0 ∷ 0 ∷ 0 ∷ 2 ∷ []) ∷
    -- "all 0: none; 13 bytes", either kind
    (1 ∷ 0 ∷ 3 ∷ 4 ∷ 3 ∷ 3 ∷ 3 ∷ 0 ∷ 4 ∷ 0 ∷ 0 ∷ 0 ∷ 0 ∷ []) ∷
    (1 ∷ 0 ∷ 3 ∷ 8 ∷ 3 ∷ 3 ∷ 3 ∷ 0 ∷ 4 ∷ 0 ∷ 0 ∷ 0 ∷ 0 ∷ []) ∷
    -- 3 by 3, kind 8, (1,1,0,4) then (1,1,1,4)
    (1 ∷ 0 ∷ 3 ∷ 8 ∷ 3 ∷ 3 ∷ 2 ∷ 0 ∷ 4 ∷ 1 ∷ 1 ∷ 1 ∷ 4 ∷ 3 ∷ 0 ∷ 4 ∷ 0 ∷ 0 ∷ 0 ∷ 1 ∷ []) ∷ []

-- what is asked of some blocks, each with its file
abbrev pub asked : List Block → List (List ℕ) → List Filed
asked [] fs = []
asked (b ∷ bs) [] = []
asked (b ∷ bs) (f ∷ fs) = record { answered = b.asked; listed = f; tidied = f } ∷ asked bs fs
