-- The tidy check: where two files of one head first differ, found among their plunges alone.
use Rattle.std.specs.Prelude.{Ok, Err}
use mathlib.Core.Path.{◌≡◌, refl, sym, ap, ap₂, ◌∙◌, subst}
use mathlib.Core.Logic.{◌⊎◌, inl, inr}
use mathlib.Core.Bool.{Bool, true, false}
use mathlib.Core.List.{List, [], ◌∷◌, ◌++◌, append_assoc}
use Prim.Native.Nat.{ℕ, suc, ◌+◌, ◌<◌}
use native.Mathlib.Omega.{arith}
use borrow.Author.Tests.{eq-eqb, eqb-true}
use lib.Dec.{eqb}
use lib.ListN.{length, drop, get_or, length-append}
use Rattle.geometry.specs.declared.Head.{Head}
use Rattle.geometry.specs.declared.Plunge.{Plunge}
use Rattle.geometry.specs.declared.Size.{Size}
use Rattle.geometry.specs.declared.Size.TheVariants.{Small, Large}
use Rattle.geometry.specs.Sizes.{size_of}
use Rattle.theory.specs.Listing.{listing}
use Rattle.refusal.specs.Refusals.{largest_erosion}
use Rattle.fields.specs.Fields.{four, head_field, plunge_field, plunge_fields, end_tag, encoded, place}
use Rattle.fields.proofs.Encoding.{field-length, head-length, bytes-none, fields-place, place_same, plunge-injective, encoded-parts, encoded-injective}
use Rattle.reading.proofs.Readable.{readable-encoded, readable-sound, length-plunges_in, encoded-fields}
use Rattle.reading.specs.Reading.{IsReadable, head_in, plunges_in, total}
use Rattle.listing_pass.specs.declared.Progress.{Progress}
use Rattle.listing_pass.specs.declared.Pass.TheVariants.{Compare}
use Rattle.listing_pass.specs.Sent.{Sent, Room}
use Rattle.geometry.specs.Lists.{common}
use Rattle.jobs.specs.Calls.{tidied_plunges, tidied}
use Rattle.job_check.specs.Checking.{alike}
use Rattle.job_check.specs.Comparing.{Comparable, Compared}
use Rattle.job_check.proofs.Alike.{alike_same, alike-equal}
use Rattle.listing_plunges.specs.Listable.{Listable}
use Rattle.refusal.specs.Sides.{Sides}

-- ---- the common beginning of two lists that begin with as many numbers

pub record Alike (x y u v : List ℕ) : Type 0 where
  pub equal : x ≡ y
  pub more : common (x ++ u) (y ++ v) ≡ length x + common u v

pub record Apart (x y u v : List ℕ) : Type 0 where
  pub unlike : x ≡ y → ⊥
  pub stops : common (x ++ u) (y ++ v) ≡ common x y
  pub short : common x y < length x

abbrev tail_of : List ℕ → List ℕ
tail_of [] = []
tail_of (a ∷ l) = l

abbrev head_of : List ℕ → ℕ
head_of [] = 0
head_of (a ∷ l) = a

pub common-split : (x y u v : List ℕ) → length x ≡ length y → Alike x y u v ⊎ Apart x y u v
common-split [] [] u v e = inl (record { equal = refl; more = omega arith })
common-split [] (b ∷ y) u v e = absurd (omega arith)
common-split (a ∷ x) [] u v e = absurd (omega arith)
common-split (a ∷ x) (b ∷ y) u v e = go (common-split x y u v (omega arith)) (eqb a b) refl
  where
    go : Alike x y u v ⊎ Apart x y u v → (t : Bool) → eqb a b ≡ t → Alike (a ∷ x) (b ∷ y) u v ⊎ Apart (a ∷ x) (b ∷ y) u v
    go r false s = inr (record { unlike = λ h. ne (ap head_of h); stops = rw s; short = rw s (omega arith) })
      where
        ne : a ≡ b → ⊥
        ne h = let z : ◌≡◌ {A = Bool} true false = sym (eq-eqb a b h) ∙ s in let w : ◌≡◌ {A = ℕ} 0 1 = cc in omega arith
    go (inl r) true s = inl (record { equal = ap₂ (λ (n : ℕ) (l : List ℕ). n ∷ l) (eqb-true a b s) r.equal; more = rw s (omega (arith, r.more)) })
    go (inr r) true s = inr (record {
      unlike = λ h. r.unlike (ap tail_of h);
      stops = rw s (ap suc r.stops);
      short =
          rw s (let z = r.short in omega arith);
    })

-- ---- two lists of plunges

-- a list of plunges with an end field behind it
abbrev body : Size → List Plunge → List ℕ → List ℕ
body s [] e = end_tag ∷ e
body s (q ∷ qs) e = plunge_field s q ++ body s qs e

body_is : (s : Size) (qs : List Plunge) (e : List ℕ) → plunge_fields s qs ++ (end_tag ∷ e) ≡ body s qs e
body_is s [] e = refl
body_is s (q ∷ qs) e = append_assoc (plunge_field s q) (plunge_fields s qs) (end_tag ∷ e) ∙ ap (λ (l : List ℕ). plunge_field s q ++ l) (body_is s qs e)

-- unlike lists: the other's end field changes nothing, and it is not that one was met to its end and both have one length
pub record Unlike (s : Size) (qs os : List Plunge) (e e' : List ℕ) : Type 0 where
  pub same : common (body s qs e) (body s os e') ≡ common (body s qs e) (plunge_fields s os)
  pub short : common (body s qs e) (plunge_fields s os) ≡ length (plunge_fields s os) → length qs ≡ length os → ⊥

pub first-unlike : (s : Size) (qs os : List Plunge) (e e' : List ℕ) → (qs ≡ os) ⊎ Unlike s qs os e e'
first-unlike s [] [] e e' = inl refl
first-unlike Small [] (o ∷ os) e e' = inr (record { same = refl; short = λ a b. absurd (omega arith) })
first-unlike Large [] (o ∷ os) e e' = inr (record { same = refl; short = λ a b. absurd (omega arith) })
first-unlike Small (q ∷ qs) [] e e' = inr (record { same = refl; short = λ a b. absurd (omega arith) })
first-unlike Large (q ∷ qs) [] e e' = inr (record { same = refl; short = λ a b. absurd (omega arith) })
first-unlike s (q ∷ qs) (o ∷ os) e e' =
    go (common-split x y (body s qs e) (body s os e') long) (common-split x y (body s qs e) (plunge_fields s os) long) (first-unlike s qs os e e')
  where
    x : List ℕ
    x = plunge_field s q

    y : List ℕ
    y = plunge_field s o

    long : length x ≡ length y
    long = field-length s q ∙ sym (field-length s o)

    same-plunge : x ≡ y → q ≡ o
    same-plunge h = (plunge-injective s q o [] [] (ap (λ (l : List ℕ). l ++ []) h)).0

    go : Alike x y (body s qs e) (body s os e') ⊎ Apart x y (body s qs e) (body s os e')
        → Alike x y (body s qs e) (plunge_fields s os) ⊎ Apart x y (body s qs e) (plunge_fields s os)
        → (qs ≡ os) ⊎ Unlike s qs os e e' → (q ∷ qs ≡ o ∷ os) ⊎ Unlike s (q ∷ qs) (o ∷ os) e e'
    go (inl a) (inr b) m = absurd (b.unlike a.equal)
    go (inr a) (inl b) m = absurd (a.unlike b.equal)
    go (inr a) (inr b) m =
        inr (record {
          same = a.stops ∙ sym b.stops;
          short = λ h l. absurd (omega (arith, b.short, b.stops, h, length-append y (plunge_fields s os), long));
        })
    go (inl a) (inl b) (inl t) = inl (ap₂ (λ (n : Plunge) (l : List Plunge). n ∷ l) (same-plunge a.equal) t)
    go (inl a) (inl b) (inr u) =
        inr (record {
          same = a.more ∙ ap (λ (n : ℕ). length x + n) u.same ∙ sym b.more;
          short = λ h l. u.short (omega (arith, b.more, h, length-append y (plunge_fields s os), long)) (omega (arith, l));
        })

-- ---- two files of one head

module _ (p : Head) (qs os : List Plunge) where
  abbrev s : Size
  s = size_of p

  -- past its head a file is its plunges and its end
  past_head : (l : List Plunge) → drop (place p 0) (encoded p l) ≡ body s l (0 ∷ 4 ∷ four (length l))
  past_head l = encoded-fields p l ∙ body_is s l (0 ∷ 4 ∷ four (length l))

  whole : (l : List Plunge) → encoded p l ≡ head_field p ++ body s l (0 ∷ 4 ∷ four (length l))
  whole l = encoded-parts p l ∙ ap (λ (o : List ℕ). head_field p ++ o) (body_is s l (0 ∷ 4 ∷ four (length l)))

  -- equal lists: the plunges are met to their end
  pub met_all : qs ≡ os → common (drop (place p 0) (encoded p qs)) (plunge_fields s os) ≡ length (plunge_fields s os)
  met_all e =
      ap (λ (l : List Plunge). common (drop (place p 0) (encoded p l)) (plunge_fields s os)) e
      ∙ ap (λ (l : List ℕ). common l (plunge_fields s os)) (encoded-fields p os) ∙ go (plunge_fields s os) _
    where
      go : (l e : List ℕ) → common (l ++ e) l ≡ length l
      go [] [] = refl
      go [] (a ∷ e) = refl
      go (a ∷ l) e = rw (eq-eqb a a refl) (ap suc (go l e))

  -- unlike lists: the first unlike byte stands among the plunges, or where the other's end
  pub met_some : Unlike s qs os (0 ∷ 4 ∷ four (length qs)) (0 ∷ 4 ∷ four (length os))
      → common (encoded p qs) (encoded p os) ≡ place p 0 + common (drop (place p 0) (encoded p qs)) (plunge_fields s os)
  met_some u =
      ap₂ common (whole qs) (whole os)
      ∙ go (common-split (head_field p) (head_field p) _ _ refl)
      ∙ ap (λ (n : ℕ). place p 0 + n) (u.same ∙ sym (ap (λ (l : List ℕ). common l (plunge_fields s os)) (past_head qs)))
    where
      x : List ℕ
      x = body s qs (0 ∷ 4 ∷ four (length qs))

      y : List ℕ
      y = body s os (0 ∷ 4 ∷ four (length os))

      go : Alike (head_field p) (head_field p) x y ⊎ Apart (head_field p) (head_field p) x y → common (head_field p ++ x) (head_field p ++ y) ≡ place p 0 + common x y
      go (inl a) = a.more ∙ ap (λ (n : ℕ). n + common x y) (head-length s p ∙ omega (arith, bytes-none s))
      go (inr a) = absurd (a.unlike refl)

-- ---- what the check finds

-- like to the end of both, or the place (head_in f) of the first unlike byte
pub record Tidy (f : List ℕ) : Type 0 where
  pub is : alike f (tidied f) ≡ true

pub record Untidy (f : List ℕ) (at : ℕ) (like : Bool) : Type 0 where
  pub unlike : alike f (tidied f) ≡ false
  pub first : common f (tidied f) ≡ at
  pub told : like ≡ true → at ≡ place (head_in f) (total f) → ⊥

-- where the plunges of a file begin, its bytes from there on, and the fields of its tidied list
abbrev start : List ℕ → ℕ
start f = place (head_in f) 0

abbrev behind : List ℕ → List ℕ
behind f = drop (start f) f

abbrev tidy_fields : List ℕ → List ℕ
tidy_fields f = plunge_fields (size_of (head_in f)) (tidied_plunges f)

module _ (f : List ℕ) (ok : IsReadable f) (bytes : (i : ℕ) → get_or f i 0 < 256) (at : ℕ) (like : Bool)
    (a : at ≡ start f + common (behind f) (tidy_fields f)) (b : like ≡ eqb (common (behind f) (tidy_fields f)) (length (tidy_fields f))) where
  is : f ≡ encoded (head_in f) (plunges_in f)
  is = readable-encoded f ok bytes

  count : length (plunges_in f) ≡ total f
  count = length-plunges_in f

  pub found : (like ≡ true × (at ≡ place (head_in f) (total f)) × Tidy f) ⊎ Untidy f at like
  found = go (first-unlike (size_of (head_in f)) (plunges_in f) (tidied_plunges f) _ _)
    where
      same_place : common (behind f) (tidy_fields f) ≡ common (drop (start f) (encoded (head_in f) (plunges_in f))) (tidy_fields f)
      same_place = ap (λ (l : List ℕ). common (drop (start f) l) (tidy_fields f)) is

      apart : (plunges_in f ≡ tidied_plunges f → ⊥) → (t : Bool) → alike f (tidied f) ≡ t → t ≡ false
      apart h false e = refl
      apart h true e = absurd (h (encoded-injective (head_in f) (head_in f) (plunges_in f) (tidied_plunges f) (sym is ∙ alike-equal f (tidied f) e)).1)

      -- met to the end of the tidied list
      ends : common (behind f) (tidy_fields f) ≡ length (tidy_fields f) → at ≡ place (head_in f) (length (tidied_plunges f))
      ends e = a ∙ ap (λ (n : ℕ). start f + n) e ∙ fields-place (head_in f) (tidied_plunges f)

      go : (plunges_in f ≡ tidied_plunges f) ⊎ Unlike (size_of (head_in f)) (plunges_in f) (tidied_plunges f) (0 ∷ 4 ∷ four (length (plunges_in f)))
          (0 ∷ 4 ∷ four (length (tidied_plunges f)))
          → (like ≡ true × (at ≡ place (head_in f) (total f)) × Tidy f) ⊎ Untidy f at like
      go (inl e) =
          inl (
            b ∙ eq-eqb _ _ all,
            ends all ∙ ap (place (head_in f)) (sym (ap length e) ∙ count),
            record { is = alike_same f (tidied f) (is ∙ ap (encoded (head_in f)) e) },
          )
        where
          all : common (behind f) (tidy_fields f) ≡ length (tidy_fields f)
          all = same_place ∙ met_all (head_in f) (plunges_in f) (tidied_plunges f) e
      go (inr u) =
          inr (record {
            unlike = apart ne (alike f (tidied f)) refl;
            first =
                ap (λ (l : List ℕ). common l (tidied f)) is ∙ met_some (head_in f) (plunges_in f) (tidied_plunges f) u
                ∙ sym (a ∙ ap (λ (n : ℕ). start f + n) same_place);
            told = λ h l. u.short (sym there ∙ met h) (count ∙ sym (place_same (head_in f) (sym (ends (met h)) ∙ l)));
          })
        where
          there : common (behind f) (tidy_fields f) ≡ common (body (size_of (head_in f)) (plunges_in f) (0 ∷ 4 ∷ four (length (plunges_in f)))) (tidy_fields f)
          there = same_place ∙ ap (λ (l : List ℕ). common l (tidy_fields f)) (past_head (head_in f) (plunges_in f) (tidied_plunges f) (plunges_in f))

          met : like ≡ true → common (behind f) (tidy_fields f) ≡ length (tidy_fields f)
          met h = eqb-true _ _ (sym b ∙ h)

          ne : plunges_in f ≡ tidied_plunges f → ⊥
          ne e = u.short (sym there ∙ same_place ∙ met_all (head_in f) (plunges_in f) (tidied_plunges f) e) (ap length e)

-- ---- the comparing pass

module _ (p : Head) (n : ℕ) (f m a b : List ℕ) (q : Comparable p n f m a b) where
  -- what the pass asks
  pub compare-asks : (out : List ℕ)
      → Listable p m a b × Room Compare (place p (length (listing p largest_erosion m))) out
  compare-asks out =
      let s = readable-sound f q.readable in (
        record { sides = subst Sides (sym q.head) s.sides; relief = q.relief; first = q.first; second = q.second },
        (λ e. let z : ◌≡◌ {A = ℕ} 0 1 = cc in absurd (omega arith)),
      )

  module _ (old new : List ℕ) (r : Progress)
      (t : Sent Compare f (place p 0) (plunge_fields (size_of p) (listing p largest_erosion m)) old new r) where
    finds : (r.like ≡ true × (r.at ≡ place (head_in f) (total f)) × Tidy f) ⊎ Untidy f r.at r.like
    finds =
        found f q.readable q.bytes r.at r.like
        (t.place ∙ ap₂ (λ (h : Head) (qs : List Plunge). place h 0 + common (drop (place h 0) f) (plunge_fields (size_of h) qs)) q.head q.lists)
        (t.like ∙ ap₂ (λ (h : Head) (qs : List Plunge). eqb (common (drop (place h 0) f) (plunge_fields (size_of h) qs)) (length (plunge_fields (size_of h) qs)))
        q.head q.lists)

    pub compared-like : r.like ≡ true → r.at ≡ place p n → Compared f (Ok tt)
    compared-like l e = go finds
      where
        go : (r.like ≡ true × (r.at ≡ place (head_in f) (total f)) × Tidy f) ⊎ Untidy f r.at r.like → Compared f (Ok tt)
        go (inl x) = rw x.2.is
        go (inr x) = absurd (x.told l (e ∙ ap₂ place q.head q.count))

    pub compared-unlike : (r.like ≡ true → r.at ≡ place p n → ⊥) → Compared f (Err (record { number = 12; place = r.at }))
    compared-unlike h = go finds
      where
        go : (r.like ≡ true × (r.at ≡ place (head_in f) (total f)) × Tidy f) ⊎ Untidy f r.at r.like
            → Compared f (Err (record { number = 12; place = r.at }))
        go (inl x) = absurd (h x.0 (x.1 ∙ sym (ap₂ place q.head q.count)))
        go (inr x) = rw x.unlike (ap (λ (n : ℕ). Err (record { number = 12; place = n })) (sym x.first))

pub not-both : true ≡ false → ⊥
not-both e = let z : ◌≡◌ {A = ℕ} 0 1 = cc in omega arith
