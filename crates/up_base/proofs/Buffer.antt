-- Files that lie in one buffer.
use Rattle.std.proofs.Common.{◌≡◌, ℕ, ◌+◌, ◌≤◌, Bool, true, false, cond, not, List, [], ◌∷◌, ◌++◌, length, drop, map, refl, ap, arith, append_assoc}
use Rattle.std.proofs.lemmas.List.{drop-append-le, take-append-le, length-drop, map-append}
use Rattle.std.proofs.lemmas.List.Elements.{All-head, All-tail}
use Rattle.std.proofs.Math.Seq.{drop-append_seam, take-append_seam, take-length, drop-append-add}
use Rattle.std.specs.List.{All, filter}
use Rattle.up_base.specs.MemoryTwins.{is_spelt, without}
use Rattle.up_base.specs.FileStore.{part, file_of, files_of, EndsBy}
use Rattle.up_base.specs.declared.file_store.Entry.{Entry}

map-kept : {X Y : Type 0} (f : X → Y) (b : Bool) (x : X) (xs : List X) (ys : List Y) → map f xs ≡ ys → map f (cond b (x ∷ xs) xs) ≡ cond b (f x ∷ ys) ys
map-kept f true x xs ys e = ap (λ zs. f x ∷ zs) e
map-kept f false x xs ys e = e

-- a filter before or after a map
map-filter : {X Y : Type 0} (f : X → Y) (p : Y → Bool) (xs : List X) → map f (filter (λ x. p (f x)) xs) ≡ filter p (map f xs)
map-filter f p [] = refl
map-filter f p (x ∷ xs) = map-kept f (p (f x)) x _ _ (map-filter f p xs)

pub files_of-filter : (buffer name : List ℕ) (entries : List Entry) → files_of buffer (filter (λ e. not (is_spelt name (part buffer e.start e.name_len))) entries) ≡ without name (files_of buffer entries)
files_of-filter buffer name entries = map-filter (file_of buffer) (λ f. not (is_spelt name f.0)) entries

-- what lies within a buffer stays when more is appended
part-append : (buffer more : List ℕ) (start len : ℕ) → start + len ≤ length buffer → part (buffer ++ more) start len ≡ part buffer start len
part-append buffer more start len h =
    let a : start ≤ length buffer = omega arith in
    let b : len ≤ length (drop start buffer) = simp length-drop (omega arith) in
    rw (drop-append-le, take-append-le) refl

files_of-append : (buffer more : List ℕ) (entries : List Entry) → All (EndsBy (length buffer)) entries → files_of (buffer ++ more) entries ≡ files_of buffer entries
files_of-append buffer more [] h = refl
files_of-append buffer more (e ∷ es) h =
    let here : EndsBy (length buffer) e = All-head (EndsBy (length buffer)) e es h in
    let name = part-append buffer more e.start e.name_len (omega arith) in
    let bytes = part-append buffer more (e.start + e.name_len) e.len here in
    let rest = files_of-append buffer more es (All-tail (EndsBy (length buffer)) e es h) in
    rw (name, bytes, rest) refl

-- the file whose name and bytes were appended
file_of-append : (buffer name bytes : List ℕ) → file_of ((buffer ++ name) ++ bytes) (record { start = length buffer; name_len = length name; len = length bytes }) ≡ (name, bytes)
file_of-append buffer name bytes =
    let front : part (buffer ++ (name ++ bytes)) (length buffer) (length name) ≡ name = rw drop-append_seam (take-append_seam name bytes) in
    let back : part (buffer ++ (name ++ bytes)) (length buffer + length name) (length bytes) ≡ bytes = rw (drop-append-add, drop-append_seam) (take-length bytes) in
    rw (append_assoc, front, back) refl

pub files_of-push : (buffer name bytes : List ℕ) (entries : List Entry) (start : ℕ) → start ≡ length buffer → All (EndsBy (length buffer)) entries → files_of ((buffer ++ name) ++ bytes) (entries ++ record { start = start; name_len = length name; len = length bytes } ∷ []) ≡ files_of buffer entries ++ (name, bytes) ∷ []
files_of-push buffer name bytes entries start at h =
    let files = map-append (file_of ((buffer ++ name) ++ bytes)) entries (record { start = start; name_len = length name; len = length bytes } ∷ []) in
    let before : files_of ((buffer ++ name) ++ bytes) entries ≡ files_of buffer entries = rw append_assoc (files_of-append buffer (name ++ bytes) entries h) in
    rw (files, before, at, file_of-append) refl
