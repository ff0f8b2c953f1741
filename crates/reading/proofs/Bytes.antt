-- Fields as bytes: what a field that opens begins with, and what is read where a field was written.
use Rattle.std.specs.Prelude.{Some, None, is_none}
use mathlib.Core.Path.{◌≡◌, refl, sym, ap, ◌∙◌}
use mathlib.Core.Bool.{Bool, true, false, cond}
use mathlib.Core.List.{List, [], ◌∷◌, ◌++◌}
use Prim.Native.Nat.{ℕ, suc, ◌+◌, ◌*◌, ◌/◌, ◌%◌, ◌≤◌, ◌<◌}
use native.Mathlib.Omega.{arith}
use native.Mathlib.Nat.{add-zero}
use borrow.Author.Tests.{eqb-true}
use lib.Dec.{eqb}
use lib.ListN.{length, get_or, drop}
use lib.Seq.{drop-cons, get_or-drop}
use Rattle.geometry.specs.declared.Kind.{Kind}
use Rattle.geometry.specs.declared.Kind.TheVariants.{Diamond, Square}
use Rattle.geometry.specs.declared.Head.{Head}
use Rattle.geometry.specs.declared.Plunge.{Plunge}
use Rattle.geometry.specs.declared.Size.{Size}
use Rattle.geometry.specs.declared.Size.TheVariants.{Small, Large}
use Rattle.geometry.specs.Sizes.{size_of}
use Rattle.geometry.specs.Forms.{kind_byte, kind_of}
use Rattle.refusal.specs.Refusals.{bad_kind, kind_named}
use Rattle.fields.specs.Fields.{two, four, head_field, head_field_of, plunge_field, end_field, head_tag, head_size, head_bytes, plunge_bytes, end_bytes, place}
use Rattle.reading_fields.specs.Openings.{pair_at, opens, number_at}
use Rattle.reading.specs.Reading.{size_in, head_as, head_in, is_plunge, plunge_at, is_end}
use Rattle.reading_fields.proofs.Openings.{opens-bytes}
use Rattle.reading.proofs.Steps.{Plated}

-- ---- a field that opens

module _ (f : List ℕ) where
  abbrev b : ℕ → ℕ
  b i = get_or f i 0

  -- the byte at a place, and those from the next on
  next-byte : (i j : ℕ) → suc i ≡ j → j ≤ length f → drop i f ≡ b i ∷ drop j f
  next-byte i j e h = drop-cons f i 0 (omega arith) ∙ ap (λ (k : ℕ). b i ∷ drop k f) e

  six-bytes : head_bytes Small ≤ length f → f ≡ b 0 ∷ b 1 ∷ b 2 ∷ b 3 ∷ b 4 ∷ b 5 ∷ drop (head_bytes Small) f
  six-bytes h =
      next-byte 0 1 refl (omega arith)
      ∙ ap (λ l. b 0 ∷ l) (next-byte 1 2 refl (omega arith)
      ∙ ap (λ l. b 1 ∷ l) (next-byte 2 3 refl (omega arith)
      ∙ ap (λ l. b 2 ∷ l) (next-byte 3 4 refl (omega arith)
      ∙ ap (λ l. b 3 ∷ l) (next-byte 4 5 refl (omega arith)
      ∙ ap (λ l. b 4 ∷ l) (next-byte 5 6 refl (omega arith))))))

  three-bytes : (i j k n : ℕ) → suc i ≡ j → suc j ≡ k → suc k ≡ n → n ≤ length f → drop i f ≡ b i ∷ b j ∷ b k ∷ drop n f
  three-bytes i j k n x y z h =
      next-byte i j x (omega arith) ∙ ap (λ l. b i ∷ l) (next-byte j k y (omega arith) ∙ ap (λ l. b j ∷ l) (next-byte k n z h))

  seven-bytes : (at : ℕ) → at + 7 ≤ length f
      → drop at f ≡ b at ∷ b (at + 1) ∷ b (at + 2) ∷ b (at + 3) ∷ b (at + 4) ∷ b (at + 5) ∷ b (at + 6) ∷ drop (at + 7) f
  seven-bytes at h =
      three-bytes at (at + 1) (at + 2) (at + 3) (omega arith) (omega arith) (omega arith) (omega arith)
      ∙ ap (λ l. b at ∷ b (at + 1) ∷ b (at + 2) ∷ l)
      (three-bytes (at + 3) (at + 4) (at + 5) (at + 6) (omega arith) (omega arith) (omega arith) (omega arith)
      ∙ ap (λ l. b (at + 3) ∷ b (at + 4) ∷ b (at + 5) ∷ l) (next-byte (at + 6) (at + 7) (omega arith) h))

  ten-bytes : (at : ℕ) → at + 10 ≤ length f
      → drop at f ≡ b at ∷ b (at + 1) ∷ b (at + 2) ∷ b (at + 3) ∷ b (at + 4) ∷ b (at + 5) ∷ b (at + 6) ∷ b (at + 7) ∷ b (at + 8) ∷ b (at + 9) ∷ drop (at + 10) f
  ten-bytes at h =
      seven-bytes at (omega arith)
      ∙ ap (λ l. b at ∷ b (at + 1) ∷ b (at + 2) ∷ b (at + 3) ∷ b (at + 4) ∷ b (at + 5) ∷ b (at + 6) ∷ l)
      (three-bytes (at + 7) (at + 8) (at + 9) (at + 10) (omega arith) (omega arith) (omega arith) h)

-- ---- fields read off: the head, a plunge, the end

cond-kind : (k : ℕ) → bad_kind k ≡ false → kind_byte (kind_named (kind_of k)) ≡ k
cond-kind k = go (eqb k 4) (eqb k 8) refl refl
  where
    go : (x y : Bool) → eqb k 4 ≡ x → eqb k 8 ≡ y → is_none (cond x (Some Diamond) (cond y (Some Square) None)) ≡ false
        → kind_byte (kind_named (cond x (Some Diamond) (cond y (Some Square) None))) ≡ k
    go true y e g n = sym (eqb-true k 4 e)
    go false true e g n = sym (eqb-true k 8 g)
    go false false e g n = let z : ◌≡◌ {A = ℕ} 0 1 = cc in absurd (omega arith)

-- the byte of the head's kind
pub head-kind : (f : List ℕ) → head_in f ≡ head_as Small f → bad_kind (get_or f 3 0) ≡ false → kind_byte (head_in f).kind ≡ get_or f 3 0
head-kind f is e = ap (λ (h : Head). kind_byte h.kind) is ∙ cond-kind (get_or f 3 0) e

pub head-bytes : (f : List ℕ) → Plated f → size_of (head_in f) ≡ Small → f ≡ head_field (head_in f) ++ drop (place (head_in f) 0) f
head-bytes f h small =
    let t = opens-bytes (head_tag Small) (head_size Small) f 0 h.tagged in
    let tag : get_or f 0 0 ≡ 1 = t.0 in
    let high : get_or f 1 0 ≡ 0 = omega (arith, t.1) in
    let low : get_or f 2 0 ≡ 3 = omega (arith, t.1) in
    let kind : get_or f 3 0 ≡ kind_byte (head_as Small f).kind = sym (cond-kind (get_or f 3 0) h.named) in
    six-bytes f h.room
    ∙ (λ i. tag i ∷ high i ∷ low i ∷ kind i ∷ get_or f 4 0 ∷ get_or f 5 0 ∷ drop (head_bytes Small) f)
    ∙ ap (λ (p : Head). head_field_of Small p ++ drop (head_bytes Small) f) (sym h.head)
    ∙ ap (λ (s : Size). head_field_of s (head_in f) ++ drop (head_bytes s + plunge_bytes s * 0) f) (sym small)

-- a number of two bytes
two-of : (x y : ℕ) → y < 256 → two (256 * x + y) ≡ x ∷ y ∷ []
two-of x y h =
    let high : (256 * x + y) / 256 ≡ x = omega arith in
    let low : (256 * x + y) % 256 ≡ y = omega arith in
    λ i. high i ∷ low i ∷ []

pub plunge-bytes : (s : Size) (f : List ℕ) (at : ℕ) → at + plunge_bytes s ≤ length f → is_plunge s f at ≡ true → ((i : ℕ) → get_or f i 0 < 256)
    → drop at f ≡ plunge_field s (plunge_at s f at) ++ drop (at + plunge_bytes s) f
plunge-bytes Small f at h e bytes =
    let t = opens-bytes 2 4 f at e in
    let tag : get_or f at 0 ≡ 2 = t.0 in
    let high : get_or f (at + 1) 0 ≡ 0 = omega (arith, t.1, bytes (at + 2)) in
    let low : get_or f (at + 2) 0 ≡ 4 = omega (arith, t.1) in
    seven-bytes f at h
    ∙ (λ i. tag i ∷ high i ∷ low i ∷ get_or f (at + 3) 0 ∷ get_or f (at + 4) 0 ∷ get_or f (at + 5) 0 ∷ get_or f (at + 6) 0 ∷ drop (at + 7) f)
plunge-bytes Large f at h e bytes =
    let t = opens-bytes 18 7 f at e in
    let tag : get_or f at 0 ≡ 18 = t.0 in
    let high : get_or f (at + 1) 0 ≡ 0 = omega (arith, t.1, bytes (at + 2)) in
    let low : get_or f (at + 2) 0 ≡ 7 = omega (arith, t.1) in
    let column = two-of (get_or f (at + 3) 0) (get_or f (at + 4) 0) (bytes (at + 4)) in
    let row = two-of (get_or f (at + 5) 0) (get_or f (at + 6) 0) (bytes (at + 6)) in
    let reach = two-of (get_or f (at + 7) 0) (get_or f (at + 8) 0) (bytes (at + 8)) in
    ten-bytes f at h
    ∙ (λ i. tag i ∷ high i ∷ low i ∷ (sym column i ++ (sym row i ++ (sym reach i ++ get_or f (at + 9) 0 ∷ drop (at + 10) f))))

-- a number of four bytes
four-of : (x y z w : ℕ) → x < 256 → y < 256 → z < 256 → w < 256 → four (65536 * (256 * x + y) + (256 * z + w)) ≡ x ∷ y ∷ z ∷ w ∷ []
four-of x y z w a b c d =
    let high : (65536 * (256 * x + y) + (256 * z + w)) / 65536 % 65536 ≡ 256 * x + y = omega arith in
    let low : (65536 * (256 * x + y) + (256 * z + w)) % 65536 ≡ 256 * z + w = omega arith in
    (λ i. two (high i) ++ two (low i)) ∙ (λ i. two-of x y b i ++ two-of z w d i)

pub end-bytes : (f : List ℕ) (at : ℕ) → at + end_bytes ≤ length f → is_end f at ≡ true → ((i : ℕ) → get_or f i 0 < 256) → drop at f ≡ end_field (number_at f at)
    ++ drop (at + end_bytes) f
end-bytes f at h e bytes =
    let t = opens-bytes 3 4 f at e in
    let tag : get_or f at 0 ≡ 3 = t.0 in
    let high : get_or f (at + 1) 0 ≡ 0 = omega (arith, t.1) in
    let low : get_or f (at + 2) 0 ≡ 4 = omega (arith, t.1) in
    let number = four-of (get_or f (at + 3) 0) (get_or f (at + 4) 0) (get_or f (at + 5) 0) (get_or f (at + 6) 0) (bytes (at + 3)) (bytes (at + 4))
    (bytes (at + 5)) (bytes (at + 6)) in
    seven-bytes f at h ∙ (λ i. tag i ∷ high i ∷ low i ∷ (sym number i ++ drop (at + end_bytes) f))

pub number-below : (f : List ℕ) (at : ℕ) → ((i : ℕ) → get_or f i 0 < 256) → number_at f at < 4294967296
number-below f at bytes = omega (arith, bytes (at + 3), bytes (at + 4), bytes (at + 5), bytes (at + 6))

-- the numbers of a head, and of a plunge, have two bytes at most
pub head-numbers : (f : List ℕ) → ((i : ℕ) → get_or f i 0 < 256) → ((head_in f).width < 65536) × ((head_in f).height < 65536)
head-numbers f bytes = go (size_in f)
  where
    go : (s : Size) → ((head_as s f).width < 65536) × ((head_as s f).height < 65536)
    go Small = (omega (arith, bytes 4), omega (arith, bytes 5))
    go Large = (omega (arith, bytes 4, bytes 5), omega (arith, bytes 6, bytes 7))

pub plunge-numbers : (s : Size) (f : List ℕ) (at : ℕ) → ((i : ℕ) → get_or f i 0 < 256)
    → ((plunge_at s f at).column < 65536) × ((plunge_at s f at).row < 65536) × ((plunge_at s f at).reach.0 < 65536) × ((plunge_at s f at).depth < 256)
plunge-numbers Small f at bytes = (
  omega (arith, bytes (at + 3)),
  omega (arith, bytes (at + 4)),
  omega (arith, bytes (at + 5)),
  omega (arith, bytes (at + 6)),
)
plunge-numbers Large f at bytes = (
  omega (arith, bytes (at + 3), bytes (at + 4)),
  omega (arith, bytes (at + 5), bytes (at + 6)),
  omega (arith, bytes (at + 7), bytes (at + 8)),
  omega (arith, bytes (at + 9)),
)

-- ---- what is read where a field was written

module _ (f : List ℕ) (at : ℕ) (bs : List ℕ) (e : drop at f ≡ bs) where
  byte-there : (j : ℕ) → get_or f (at + j) 0 ≡ get_or bs j 0
  byte-there j = sym (get_or-drop at f j 0) ∙ ap (λ l. get_or l j 0) e

  first-there : get_or f at 0 ≡ get_or bs 0 0
  first-there = ap (λ (k : ℕ). get_or f k 0) (sym (add-zero at)) ∙ byte-there 0

  opens-there : (tag size : ℕ) → opens tag size f at ≡ opens tag size bs 0
  opens-there tag size i = cond (eqb (first-there i) tag) (eqb (256 * byte-there 1 i + byte-there 2 i) size) false

-- a number of two bytes, read back
back : (n : ℕ) → 256 * (n / 256) + n % 256 ≡ n
back n = omega arith

pub written-plunge : (s : Size) (f : List ℕ) (at : ℕ) (q : Plunge) (rest : List ℕ) → drop at f ≡ plunge_field s q ++ rest → (plunge_at s f at ≡ q)
    × (is_plunge s f at ≡ true) × (is_end f at ≡ false)
written-plunge Small f at q rest e =
    let b = byte-there f at (plunge_field Small q ++ rest) e in (
      (λ i. record { column = b 3 i; row = b 4 i; reach = record { 0 = b 5 i }; depth = b 6 i }),
      opens-there f at (plunge_field Small q ++ rest) e 2 4,
      opens-there f at (plunge_field Small q ++ rest) e 3 4,
    )
written-plunge Large f at q rest e =
    let b = byte-there f at (plunge_field Large q ++ rest) e in
    let column : pair_at f (at + 3) (at + 4) ≡ q.column = (λ i. 256 * b 3 i + b 4 i) ∙ back q.column in
    let row : pair_at f (at + 5) (at + 6) ≡ q.row = (λ i. 256 * b 5 i + b 6 i) ∙ back q.row in
    let reach : pair_at f (at + 7) (at + 8) ≡ q.reach.0 = (λ i. 256 * b 7 i + b 8 i) ∙ back q.reach.0 in (
      (λ i. record { column = column i; row = row i; reach = record { 0 = reach i }; depth = b 9 i }),
      opens-there f at (plunge_field Large q ++ rest) e 18 7,
      opens-there f at (plunge_field Large q ++ rest) e 3 4,
    )

four-number : (n : ℕ) → n < 4294967296
    → 65536 * (256 * (n / 65536 % 65536 / 256) + n / 65536 % 65536 % 256) + (256 * (n % 65536 / 256) + n % 65536 % 256) ≡ n
four-number n h =
    let high : 256 * (n / 65536 % 65536 / 256) + n / 65536 % 65536 % 256 ≡ n / 65536 = omega arith in
    let low : 256 * (n % 65536 / 256) + n % 65536 % 256 ≡ n % 65536 = omega arith in
    (λ i. 65536 * high i + low i) ∙ omega arith

pub written-end : (f : List ℕ) (at n : ℕ) (rest : List ℕ) → drop at f ≡ end_field n ++ rest → n < 4294967296 → (is_end f at ≡ true) × (number_at f at ≡ n)
written-end f at n rest e h =
    let b = byte-there f at (end_field n ++ rest) e in
    (opens-there f at (end_field n ++ rest) e 3 4, (λ i. 65536 * (256 * b 3 i + b 4 i) + (256 * b 5 i + b 6 i)) ∙ four-number n h)

kind-back : (k : Kind) → kind_named (kind_of (kind_byte k)) ≡ k
kind-back Diamond = refl
kind-back Square = refl

pub kind-named : (k : Kind) → bad_kind (kind_byte k) ≡ false
kind-named Diamond = refl
kind-named Square = refl

pub written-head : (p : Head) (rest : List ℕ) → head_in (head_field p ++ rest) ≡ p
written-head p rest = go (size_of p)
  where
    go : (s : Size) → head_in (head_field_of s p ++ rest) ≡ p
    go Small = λ i. record { kind = kind-back p.kind i; width = p.width; height = p.height }
    go Large = λ i. record { kind = kind-back p.kind i; width = back p.width i; height = back p.height i }
