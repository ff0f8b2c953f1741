-- Laws of a file's bytes, of either size: how long they are, how they grow with the list, and that two heads or two lists never have the same.
use mathlib.Core.Path.{◌≡◌, refl, sym, ap, ◌∙◌}
use mathlib.Core.List.{List, [], ◌∷◌, ◌++◌, append_assoc}
use Prim.Native.Nat.{ℕ, suc, ◌+◌, ◌-◌, ◌*◌, ◌/◌, ◌%◌, ◌≤◌}
use native.Mathlib.Omega.{arith}
use lib.ListN.{length, length-append}
use Rattle.geometry.specs.declared.Kind.{Kind}
use Rattle.geometry.specs.declared.Kind.TheVariants.{Diamond, Square}
use Rattle.geometry.specs.declared.Head.{Head}
use Rattle.geometry.specs.declared.Plunge.{Plunge}
use Rattle.geometry.specs.declared.Size.{Size}
use Rattle.geometry.specs.declared.Size.TheVariants.{Small, Large}
use Rattle.geometry.specs.Forms.{kind_byte}
use Rattle.geometry.specs.Sizes.{size_of}
use Rattle.fields.specs.Fields.{number, head_tag, head_bytes, plunge_bytes, end_bytes, place, file_length}
use Rattle.fields.specs.Fields.{head_content, head_field_of, head_field, plunge_content, plunge_field, plunge_fields, end_field, encoded}

-- ---- lengths and places

pub field-length : (s : Size) (q : Plunge) → length (plunge_field s q) ≡ plunge_bytes s
field-length Small q = refl
field-length Large q = refl

pub head-length : (s : Size) (p : Head) → length (head_field_of s p) ≡ head_bytes s
head-length Small p = refl
head-length Large p = refl

pub plunge_fields-append : (s : Size) (qs os : List Plunge) → plunge_fields s (qs ++ os) ≡ plunge_fields s qs ++ plunge_fields s os
plunge_fields-append s [] os = refl
plunge_fields-append s (q ∷ qs) os =
    ap (λ (l : List ℕ). plunge_field s q ++ l) (plunge_fields-append s qs os)
    ∙ sym (append_assoc (plunge_field s q) (plunge_fields s qs) (plunge_fields s os))

pub plunge_fields-length : (s : Size) (qs : List Plunge) → length (plunge_fields s qs) ≡ plunge_bytes s * length qs
plunge_fields-length Small [] = refl
plunge_fields-length Large [] = refl
plunge_fields-length Small (q ∷ qs) = omega (arith, plunge_fields-length Small qs)
plunge_fields-length Large (q ∷ qs) = omega (arith, plunge_fields-length Large qs)

-- a field is some bytes long, and not many
pub field-few : (s : Size) → (7 ≤ plunge_bytes s) × (plunge_bytes s ≤ 10) × (6 ≤ head_bytes s) × (head_bytes s ≤ 8)
field-few Small = (omega arith, omega arith, omega arith, omega arith)
field-few Large = (omega arith, omega arith, omega arith, omega arith)

-- the bytes of n fields: one more, more of them, and back to how many
pub bytes-suc : (s : Size) (n : ℕ) → plunge_bytes s * suc n ≡ plunge_bytes s * n + plunge_bytes s
bytes-suc Small n = omega arith
bytes-suc Large n = omega arith

pub bytes_le : (s : Size) {m n : ℕ} → m ≤ n → plunge_bytes s * m ≤ plunge_bytes s * n
bytes_le Small h = omega arith
bytes_le Large h = omega arith

pub bytes_count : (s : Size) (n : ℕ) → (plunge_bytes s * n) / plunge_bytes s ≡ n
bytes_count Small n = omega arith
bytes_count Large n = omega arith

pub bytes_same : (s : Size) {m n : ℕ} → plunge_bytes s * m ≡ plunge_bytes s * n → m ≡ n
bytes_same Small e = omega arith
bytes_same Large e = omega arith

pub bytes-none : (s : Size) → plunge_bytes s * 0 ≡ 0
bytes-none Small = refl
bytes-none Large = refl

pub fields-few : (s : Size) (qs : List Plunge) (n : ℕ) → length qs ≤ n → length (plunge_fields s qs) ≤ plunge_bytes s * n
fields-few s qs n h = omega (arith, plunge_fields-length s qs, bytes_le s h)

pub encoded-length : (p : Head) (qs : List Plunge) → length (encoded p qs) ≡ file_length p (length qs)
unfolding encoded
encoded-length p qs =
    omega (
      arith,
      length-append (head_field p ++ plunge_fields (size_of p) qs) (end_field (length qs)),
      length-append (head_field p) (plunge_fields (size_of p) qs),
      plunge_fields-length (size_of p) qs,
      head-length (size_of p) p,
    )

-- places of fields
pub place-next : (p : Head) (n : ℕ) → place p (suc n) ≡ place p n + plunge_bytes (size_of p)
place-next p n = omega (arith, bytes-suc (size_of p) n)

pub place-le : (p : Head) {m n : ℕ} → m ≤ n → place p m ≤ place p n
place-le p h = omega (arith, bytes_le (size_of p) h)

pub place-few : (p : Head) (n : ℕ) → n ≤ place p n
place-few p n = go (size_of p)
  where
    go : (s : Size) → n ≤ head_bytes s + plunge_bytes s * n
    go Small = omega arith
    go Large = omega arith

-- the fields of no more plunges than n end no later
pub place-fields : (p : Head) (qs : List Plunge) (n : ℕ) → length qs ≤ n → place p 0 + length (plunge_fields (size_of p) qs) ≤ place p n
place-fields p qs n h = omega (arith, fields-few (size_of p) qs n h, bytes-none (size_of p))

-- the fields of a list end at the place of the next one
pub fields-place : (p : Head) (qs : List Plunge) → place p 0 + length (plunge_fields (size_of p) qs) ≡ place p (length qs)
fields-place p qs = omega (arith, plunge_fields-length (size_of p) qs, bytes-none (size_of p))

-- one place, one number of plunges
pub place_same : (p : Head) {m n : ℕ} → place p m ≡ place p n → m ≡ n
place_same p e = bytes_same (size_of p) (omega (arith, e))

-- a place is no large number where there are not many plunges
pub place-small : (p : Head) (n : ℕ) {k : ℕ} → n ≤ k → place p n ≤ 8 + 10 * k
place-small p n {k} h = go (size_of p)
  where
    go : (s : Size) → head_bytes s + plunge_bytes s * n ≤ 8 + 10 * k
    go Small = omega arith
    go Large = omega arith

-- how many plunges a file of a length has
pub length-total : (p : Head) (l n : ℕ) → l ≡ file_length p n → (l - file_length p 0) / plunge_bytes (size_of p) ≡ n
length-total p l n = go (size_of p)
  where
    go : (s : Size) → l ≡ head_bytes s + plunge_bytes s * n + end_bytes → (l - (head_bytes s + plunge_bytes s * 0 + end_bytes)) / plunge_bytes s ≡ n
    go Small e = omega arith
    go Large e = omega arith

-- the file in its parts, grouped from the end
pub encoded-parts : (p : Head) (qs : List Plunge) → encoded p qs ≡ head_field p ++ (plunge_fields (size_of p) qs ++ end_field (length qs))
unfolding encoded
encoded-parts p qs = append_assoc (head_field p) (plunge_fields (size_of p) qs) (end_field (length qs))

-- ---- two files with the same bytes

first-same : (a b : ℕ) (l m : List ℕ) → a ∷ l ≡ b ∷ m → a ≡ b
first-same a b l m e = cc

rest-same : (a b : ℕ) (l m : List ℕ) → a ∷ l ≡ b ∷ m → l ≡ m
rest-same a b l m e = cc

kind_byte-injective : (k o : Kind) → kind_byte k ≡ kind_byte o → k ≡ o
kind_byte-injective Diamond Diamond e = refl
kind_byte-injective Diamond Square e = absurd (omega arith)
kind_byte-injective Square Diamond e = absurd (omega arith)
kind_byte-injective Square Square e = refl

number-injective : (s : Size) (a b : ℕ) (l m : List ℕ) → number s a ++ l ≡ number s b ++ m → (a ≡ b) × (l ≡ m)
number-injective Small a b l m e = (first-same a b l m e, rest-same a b l m e)
number-injective Large a b l m e =
    let r = rest-same (a / 256) (b / 256) _ _ e in
    let x = first-same (a / 256) (b / 256) _ _ e in
    let y = first-same (a % 256) (b % 256) l m r in
    (omega arith, rest-same (a % 256) (b % 256) l m r)

head-content-injective : (s : Size) (p o : Head) (l m : List ℕ) → head_content s p ++ l ≡ head_content s o ++ m → (p ≡ o) × (l ≡ m)
head-content-injective s p o l m e =
    let behind = rest-same (kind_byte p.kind) (kind_byte o.kind) _ _ e in
    let k = kind_byte-injective p.kind o.kind (first-same _ _ _ _ e) in
    let w = number-injective s p.width o.width (number s p.height ++ l) (number s o.height ++ m)
    (sym (append_assoc (number s p.width) (number s p.height) l) ∙ behind ∙ append_assoc (number s o.width) (number s o.height) m) in
    let h = number-injective s p.height o.height l m w.1 in
    ((λ i. record { kind = k i; width = w.0 i; height = h.0 i }), h.1)

-- the head's tag tells the size
tag-size : (s t : Size) (l m : List ℕ) → head_tag s ∷ l ≡ head_tag t ∷ m → s ≡ t
tag-size Small Small l m e = refl
tag-size Small Large l m e = let z = first-same 1 17 l m e in absurd (omega arith)
tag-size Large Small l m e = let z = first-same 17 1 l m e in absurd (omega arith)
tag-size Large Large l m e = refl

-- behind the opening of a head's field, and of a plunge's
past_head : (s : Size) (p o : Head) (l m : List ℕ) → head_field_of s p ++ l ≡ head_field_of s o ++ m → head_content s p ++ l ≡ head_content s o ++ m
past_head Small p o l m e = rest-same _ _ _ _ (rest-same _ _ _ _ (rest-same _ _ _ _ e))
past_head Large p o l m e = rest-same _ _ _ _ (rest-same _ _ _ _ (rest-same _ _ _ _ e))

past-opening : (s : Size) (q r : Plunge) (l m : List ℕ) → plunge_field s q ++ l ≡ plunge_field s r ++ m → plunge_content s q ++ l ≡ plunge_content s r ++ m
past-opening Small q r l m e = rest-same _ _ _ _ (rest-same _ _ _ _ (rest-same _ _ _ _ e))
past-opening Large q r l m e = rest-same _ _ _ _ (rest-same _ _ _ _ (rest-same _ _ _ _ e))

head-injective : (p o : Head) (l m : List ℕ) → head_field p ++ l ≡ head_field o ++ m → (p ≡ o) × (l ≡ m)
head-injective p o l m e = go (size_of p) (size_of o) (tag-size (size_of p) (size_of o) _ _ e) e
  where
    go : (s t : Size) → s ≡ t → head_field_of s p ++ l ≡ head_field_of t o ++ m → (p ≡ o) × (l ≡ m)
    go s t h g = head-content-injective s p o l m (past_head s p o l m (g ∙ ap (λ (u : Size). head_field_of u o ++ m) (sym h)))

-- a plunge's content, grouped from the end
content-parts : (s : Size) (q : Plunge) (l : List ℕ) → plunge_content s q ++ l
    ≡ number s q.column ++ (number s q.row ++ (number s q.reach.0 ++ (q.depth ∷ l)))
content-parts Small q l = refl
content-parts Large q l = refl

pub plunge-injective : (s : Size) (q r : Plunge) (l m : List ℕ) → plunge_field s q ++ l ≡ plunge_field s r ++ m → (q ≡ r) × (l ≡ m)
plunge-injective s q r l m e =
    let x = number-injective s q.column r.column _ _ (sym (content-parts s q l) ∙ past-opening s q r l m e ∙ content-parts s r m) in
    let y = number-injective s q.row r.row _ _ x.1 in
    let k = number-injective s q.reach.0 r.reach.0 _ _ y.1 in
    let d = first-same q.depth r.depth l m k.1 in
    ((λ i. record { column = x.0 i; row = y.0 i; reach = record { 0 = k.0 i }; depth = d i }), rest-same q.depth r.depth l m k.1)

end-not-plunge : (s : Size) (q : Plunge) (n : ℕ) (l m : List ℕ) → plunge_field s q ++ l ≡ end_field n ++ m → ⊥
end-not-plunge Small q n l m e = let z = first-same _ _ _ _ e in omega arith
end-not-plunge Large q n l m e = let z = first-same _ _ _ _ e in omega arith

fields-injective : (s : Size) (qs rs : List Plunge) (m n : ℕ) → plunge_fields s qs ++ end_field m ≡ plunge_fields s rs ++ end_field n → qs ≡ rs
fields-injective s [] [] m n e = refl
fields-injective s [] (r ∷ rs) m n e =
    absurd (end-not-plunge s r m (plunge_fields s rs ++ end_field n) [] (sym (e ∙ append_assoc (plunge_field s r) (plunge_fields s rs) (end_field n))))
fields-injective s (q ∷ qs) [] m n e =
    absurd (end-not-plunge s q n (plunge_fields s qs ++ end_field m) [] (sym (append_assoc (plunge_field s q) (plunge_fields s qs) (end_field m)) ∙ e))
fields-injective s (q ∷ qs) (r ∷ rs) m n e =
    let t = plunge-injective s q r (plunge_fields s qs ++ end_field m) (plunge_fields s rs ++ end_field n)
    (sym (append_assoc (plunge_field s q) (plunge_fields s qs) (end_field m)) ∙ e ∙ append_assoc (plunge_field s r) (plunge_fields s rs) (end_field n)) in
    let more = fields-injective s qs rs m n t.1 in
    λ i. t.0 i ∷ more i

-- two heads or two lists never have the same bytes
pub encoded-injective : (p o : Head) (qs rs : List Plunge) → encoded p qs ≡ encoded o rs → (p ≡ o) × (qs ≡ rs)
encoded-injective p o qs rs e =
    let t = head-injective p o (plunge_fields (size_of p) qs ++ end_field (length qs)) (plunge_fields (size_of o) rs ++ end_field (length rs))
    (sym (encoded-parts p qs) ∙ e ∙ encoded-parts o rs) in (
      t.0,
      fields-injective (size_of p) qs rs (length qs) (length rs)
          (t.1 ∙ ap (λ (h : Head). plunge_fields (size_of h) rs ++ end_field (length rs)) (sym t.0)),
    )
