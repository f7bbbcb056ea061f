-- The text of bytes of which some may have no character.
use Rattle.std.proofs.Common.{◌≡◌, ℕ, suc, ◌+◌, ◌-◌, ◌≤◌, Bool, true, false, not, cond, nat_lt, ◌&&◌, List, [], ◌∷◌, map, length, get_or, position, Option, Some, None, is_none, unwrap_or, Fits, w8, refl, sym, ap, ◌∙◌, arith}
use Rattle.std.proofs.lemmas.List.FromFn.{get_or-map-range_with_len}
use Rattle.std.specs.List.{range_with_len, position_or_len, prefix_len}
use Rattle.up_base.specs.Windows1252.{unit_of, is_undefined, AreUnits}
use Rattle.project_loader.specs.Texts.{is_byte, are_bytes, unit_or_delete, decoded, filled}
use Rattle.project_loader.specs.declared.texts.TheConstants.{FILLED}

-- the table has each byte from 80 to 9F hex
filled_are : FILLED ≡ map filled (range_with_len 128 32)
filled_are = refl

pub filled_at : (byte d : ℕ) → 128 ≤ byte → byte ≤ 159 → get_or FILLED (byte - 128) d ≡ filled byte
filled_at byte d low high =
    ap (λ bytes. get_or bytes (byte - 128) d) filled_are
    ∙ get_or-map-range_with_len filled 128 32 (byte - 128) byte d (omega arith) (omega arith)

-- a byte with its character, or 7F hex
unit_filled : (byte : ℕ) → is_byte byte ≡ true → unit_of (filled byte) ≡ Some (unit_or_delete byte)
unit_filled byte h = by (unit_of byte) refl ∙ ap (λ t. Some (cond t (unwrap_or (unit_of byte) 127) 127)) (sym h)
  where
    by : (o : Option ℕ) → unit_of byte ≡ o → unit_of (cond (is_none (unit_of byte)) 127 byte) ≡ Some (unwrap_or (unit_of byte) 127)
    by None e = rw e refl
    by (Some u) e = rw e e

first_byte : (b : ℕ) (bs : List ℕ) → are_bytes (b ∷ bs) ≡ true → is_byte b ≡ true
first_byte b bs h = by (is_byte b) h
  where
    by : (t : Bool) → t && are_bytes bs ≡ true → t ≡ true
    by true e = refl
    by false e = absurd (cc e)

later_bytes : (b : ℕ) (bs : List ℕ) → are_bytes (b ∷ bs) ≡ true → are_bytes bs ≡ true
later_bytes b bs h = by (is_byte b) h
  where
    by : (t : Bool) → t && are_bytes bs ≡ true → are_bytes bs ≡ true
    by true e = e
    by false e = absurd (cc e)

filled_units : (bytes : List ℕ) → are_bytes bytes ≡ true → map unit_of (map filled bytes) ≡ map Some (decoded bytes)
filled_units [] h = refl
filled_units (b ∷ bs) h =
    ap (λ x. x ∷ map unit_of (map filled bs)) (unit_filled b (first_byte b bs h))
    ∙ ap (λ xs. Some (unit_or_delete b) ∷ xs) (filled_units bs (later_bytes b bs h))

same_units : (xs ys : List ℕ) → map Some xs ≡ map Some ys → xs ≡ ys
same_units [] [] h = refl
same_units [] (y ∷ ys) h = cc
same_units (x ∷ xs) [] h = cc
same_units (x ∷ xs) (y ∷ ys) h =
    let first : x ≡ y = cc in
    let rest : map Some xs ≡ map Some ys = cc in
    ap (λ z. z ∷ xs) first ∙ ap (λ zs. y ∷ zs) (same_units xs ys rest)

pub filled_decoded : (bytes units : List ℕ) → are_bytes bytes ≡ true → AreUnits (map filled bytes) units → units ≡ decoded bytes
filled_decoded bytes units bytes_are h = same_units units (decoded bytes) (h ∙ filled_units bytes bytes_are)

-- what type bytes have says that they are bytes
fits_byte : (byte : ℕ) → Fits w8 byte → is_byte byte ≡ true
fits_byte byte h =
    let small = h.fits in
    grind arith

pub bytes_fit : (bytes : List ℕ) → ((k : ℕ) → Fits w8 (get_or bytes k 0)) → are_bytes bytes ≡ true
bytes_fit [] h = refl
bytes_fit (b ∷ bs) h = ap (λ t. t && are_bytes bs) (fits_byte b (h 0)) ∙ bytes_fit bs (λ k. h (suc k))

-- where each byte has its character, nothing is filled
none_filled : (f : ℕ → Option ℕ) (bytes units : List ℕ) → map Some units ≡ map f bytes → map (λ b. cond (is_none (f b)) 127 b) bytes ≡ bytes
none_filled f [] units h = refl
none_filled f (b ∷ bs) [] h = cc
none_filled f (b ∷ bs) (u ∷ us) h =
    let first : f b ≡ Some u = cc in
    let rest : map Some us ≡ map f bs = cc in
    ap (λ o. cond (is_none o) 127 b ∷ map (λ x. cond (is_none (f x)) 127 x) bs) first
    ∙ ap (λ xs. b ∷ xs) (none_filled f bs us rest)

pub bytes_decoded : (bytes units : List ℕ) → are_bytes bytes ≡ true → AreUnits bytes units → units ≡ decoded bytes
bytes_decoded bytes units bytes_are h =
    filled_decoded bytes units bytes_are (h ∙ ap (λ xs. map unit_of xs) (sym (none_filled unit_of bytes units h)))

filled_defined : (byte : ℕ) → is_undefined (filled byte) ≡ false
filled_defined byte = by (unit_of byte) refl
  where
    by : (o : Option ℕ) → unit_of byte ≡ o → is_none (unit_of (cond (is_none (unit_of byte)) 127 byte)) ≡ false
    by None e = rw e refl
    by (Some u) e = rw e (ap is_none e)

none_undefined : (bytes : List ℕ) → position_or_len is_undefined (map filled bytes) ≡ length (map filled bytes)
none_undefined [] = refl
none_undefined (b ∷ bs) =
    ap (λ x. cond (not x) (1 + prefix_len (λ y. not (is_undefined y)) (map filled bs)) 0) (filled_defined b)
    ∙ ap (λ n. 1 + n) (none_undefined bs) ∙ one_more (length (map filled bs))
  where
    one_more : (n : ℕ) → 1 + n ≡ suc n
    one_more n = omega arith

pub filled_none : (bytes : List ℕ) (place : ℕ) → position is_undefined (map filled bytes) ≡ Some place → ⊥
filled_none bytes place h = by (position_or_len is_undefined (map filled bytes)) (length (map filled bytes)) (none_undefined bytes) h
  where
    by : (n m : ℕ) → n ≡ m → cond (nat_lt n m) (Some n) None ≡ Some place → ⊥
    by n m e h = never (nat_lt n m) n (below n m e) h
      where
        below : (n m : ℕ) → n ≡ m → nat_lt n m ≡ false
        below n m e = grind arith

        never : (b : Bool) (n : ℕ) → b ≡ false → cond b (Some n) None ≡ Some place → ⊥
        never true n e h = cc
        never false n e h = cc
