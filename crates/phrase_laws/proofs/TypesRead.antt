-- Ranks and types are read back.
use Rattle.std.proofs.Common.{◌≡◌, ℕ, zero, suc, ◌+◌, ◌-◌, ◌≤◌, Bool, true, false, not, ◌==◌, List, [], ◌∷◌, ◌++◌, length, replicate, codes, refl, sym, ap, ◌∙◌, arith, append_assoc, length-append, append-nil, zero-add, Some, None}
use Rattle.std.specs.List.{list_all}
use Rattle.std.proofs.lemmas.Bool.{not-true}
use Rattle.net_tree.specs.Types as ty
use Rattle.net_tree.specs.Types.{TypeName}
use Rattle.net_tree.specs.Depth.{depth_type}
use Rattle.net_tree.specs.Spelling.{is_bracketed, is_identifier, is_same_path, is_word_part, path_text}
use Rattle.net_tree.specs.Expressions.{is_writable_type, rank_text, type_text}
use Rattle.net_tree.proofs.TypeDepths.{element_can}
use Rattle.net_exprs.specs.Readers.{behind, word_at}
use Rattle.net_exprs.specs.Ends.{begins_with, ends_name, ends_path, ends_type}
use Rattle.net_exprs.specs.Types.{arrays_behind, arrays_from, base_at, base_by, basic_type_of, basic_types, commas_from, path_type, rank_at, type_at}
use Rattle.net_exprs.specs.Laws.{RanksAreRead, TypesAreRead}
use Rattle.net_exprs.proofs.Words.{both_true, never, names_read, not_in_table, path_word, word_reads}

-- ---- ranks

pub commas_read : (n rank : ℕ) (rest : List ℕ) → commas_from rank (replicate n 44 ++ 41 ∷ rest) ≡ Some (rank + n, rest)
commas_read zero rank rest = ap (λ r. Some (r, rest)) (omega arith)
commas_read (suc n) rank rest = commas_read n (suc rank) rest ∙ ap (λ r. Some (r, rest)) (omega arith)

-- a rank is read behind its opening parenthesis
pub rank_inside : (rank : ℕ) (rest : List ℕ) → (rank == 0) ≡ false → commas_from 1 ((replicate (rank - 1) 44 ++ codes ")") ++ rest) ≡ Some (rank, rest)
rank_inside zero rest h = never (sym h)
rank_inside (suc n) rest h =
    ap (commas_from 1) (append_assoc (replicate (suc n - 1) 44) (codes ")") rest) ∙ commas_read (suc n - 1) 1 rest ∙ ap (λ r. Some (r, rest)) (omega arith)

pub rank_reads : RanksAreRead
rank_reads rank rest h = rank_inside rank rest h

-- ---- types that are no arrays

abbrev pub is_array : TypeName → Bool
is_array (ty.array_of element rank) = true
is_array _ = false

all_bracketed : list_all (λ row. is_bracketed row.0) basic_types ≡ true
unfolding is_bracketed
all_bracketed = refl

no_basic_type : (w : List ℕ) → is_bracketed w ≡ false → basic_type_of w ≡ None
unfolding basic_type_of
no_basic_type w h = not_in_table w basic_types h all_bracketed

word_type : (w rest : List ℕ) (t : TypeName) → list_all is_word_part w ≡ true → ends_path rest ≡ true → basic_type_of w ≡ Some t → base_at (w ++ rest) ≡ Some (t, rest)
word_type w rest t all e row =
    ap (λ (parts : List ℕ × List ℕ). base_by (basic_type_of parts.0) parts.1 (w ++ rest)) (word_reads w rest all (both_true (ends_name rest) (not (begins_with 46 rest)) e).0)
    ∙ ap (λ o. base_by o rest (w ++ rest)) row

path_base : (n : List ℕ) (names : List (List ℕ)) (rest : List ℕ) → list_all is_identifier (n ∷ names) ≡ true → ends_path rest ≡ true
    → base_at (path_text (n ∷ names) ++ rest) ≡ Some (path_type (n ∷ names), rest)
path_base n names rest h e =
    ap (λ o. base_by o (word_at (path_text (n ∷ names) ++ rest)).1 (path_text (n ∷ names) ++ rest)) (no_basic_type _ (path_word n names rest h e))
    ∙ ap (λ o. behind o (λ names rest. Some (path_type names, rest))) (names_read n names rest h e)

pub base_reads : (t : TypeName) (rest : List ℕ) → is_array t ≡ false → is_writable_type t ≡ true → ends_path rest ≡ true → base_at (type_text t ++ rest) ≡ Some (t, rest)
unfolding basic_type_of
base_reads ty.boolean rest a h e = word_type (codes "Boolean") rest ty.boolean refl e refl
base_reads ty.byte rest a h e = word_type (codes "Byte") rest ty.byte refl e refl
base_reads ty.short rest a h e = word_type (codes "Short") rest ty.short refl e refl
base_reads ty.integer rest a h e = word_type (codes "Integer") rest ty.integer refl e refl
base_reads ty.long rest a h e = word_type (codes "Long") rest ty.long refl e refl
base_reads ty.decimal rest a h e = word_type (codes "Decimal") rest ty.decimal refl e refl
base_reads ty.str rest a h e = word_type (codes "String") rest ty.str refl e refl
base_reads ty.object rest a h e = word_type (codes "Object") rest ty.object refl e refl
base_reads ty.system_array rest a h e = path_base (codes "System") (codes "Array" ∷ []) rest refl e
base_reads (ty.named []) rest a h e = never h
base_reads (ty.named (n ∷ names)) rest a h e =
    let parts = both_true (list_all is_identifier (n ∷ names)) (not (is_same_path (n ∷ names) (codes "System" ∷ codes "Array" ∷ []))) h in
    let named : path_type (n ∷ names) ≡ ty.named (n ∷ names) = rw (not-true (is_same_path (n ∷ names) (codes "System" ∷ codes "Array" ∷ [])) parts.1) refl in
    path_base n names rest parts.0 e ∙ ap (λ t. Some (t, rest)) named
base_reads (ty.array_of element rank) rest a h e = never (sym a)

-- ---- types

abbrev pub base_of : TypeName → TypeName
base_of (ty.array_of element rank) = base_of element
base_of t = t

no_rank : (rest : List ℕ) → ends_type rest ≡ true → rank_at rest ≡ None
no_rank [] e = refl
no_rank (c ∷ s) e = rw (not-true (c == 40) (both_true (ends_path (c ∷ s)) (not (c == 40)) e).1) refl

arrays_end : (n : ℕ) (t : TypeName) (rest : List ℕ) → ends_type rest ≡ true → arrays_from n t rest ≡ (t, rest)
arrays_end zero t rest e = refl
arrays_end (suc n) t rest e = ap (arrays_behind (arrays_from n) t rest) (no_rank rest e)

-- what is written behind a base, and read again as ranks
abbrev pub ranks_text : TypeName → List ℕ
ranks_text (ty.array_of element rank) = ranks_text element ++ rank_text rank
ranks_text _ = []

pub ranks_last : (element : TypeName) (rank : ℕ) (rest : List ℕ) → ranks_text (ty.array_of element rank) ++ rest ≡ ranks_text element ++ (rank_text rank ++ rest)
ranks_last element rank rest = append_assoc (ranks_text element) (rank_text rank) rest

pub type_parts : (t : TypeName) → type_text t ≡ type_text (base_of t) ++ ranks_text t
type_parts (ty.array_of element rank) =
    ap (λ s. s ++ rank_text rank) (type_parts element) ∙ append_assoc (type_text (base_of element)) (ranks_text element) (rank_text rank)
type_parts ty.boolean = refl
type_parts ty.byte = refl
type_parts ty.short = refl
type_parts ty.integer = refl
type_parts ty.long = refl
type_parts ty.decimal = refl
type_parts ty.str = refl
type_parts ty.object = refl
type_parts ty.system_array = refl
type_parts (ty.named names) = sym (append-nil (path_text names))

pub base_is_none : (t : TypeName) → is_array (base_of t) ≡ false
base_is_none (ty.array_of element rank) = base_is_none element
base_is_none _ = refl

pub base_is_writable : (t : TypeName) → is_writable_type t ≡ true → is_writable_type (base_of t) ≡ true
base_is_writable (ty.array_of element rank) h = base_is_writable element (element_can element rank h).0
base_is_writable ty.boolean h = h
base_is_writable ty.byte h = h
base_is_writable ty.short h = h
base_is_writable ty.integer h = h
base_is_writable ty.long h = h
base_is_writable ty.decimal h = h
base_is_writable ty.str h = h
base_is_writable ty.object h = h
base_is_writable ty.system_array h = h
base_is_writable (ty.named names) h = h

pub ends_ranks : (t : TypeName) (rest : List ℕ) → ends_path rest ≡ true → ends_path (ranks_text t ++ rest) ≡ true
ends_ranks (ty.array_of element rank) rest e = ap ends_path (ranks_last element rank rest) ∙ ends_ranks element (rank_text rank ++ rest) refl
ends_ranks ty.boolean rest e = e
ends_ranks ty.byte rest e = e
ends_ranks ty.short rest e = e
ends_ranks ty.integer rest e = e
ends_ranks ty.long rest e = e
ends_ranks ty.decimal rest e = e
ends_ranks ty.str rest e = e
ends_ranks ty.object rest e = e
ends_ranks ty.system_array rest e = e
ends_ranks (ty.named names) rest e = e

pub depth_bound : (t : TypeName) → depth_type t ≤ length (ranks_text t)
depth_bound (ty.array_of element rank) = omega (arith, depth_bound element, length-append (ranks_text element) (rank_text rank))
depth_bound _ = omega arith

arrays_read : (t : TypeName) (n : ℕ) (rest : List ℕ) → is_writable_type t ≡ true
    → arrays_from (depth_type t + n) (base_of t) (ranks_text t ++ rest) ≡ arrays_from n t rest
arrays_read (ty.array_of element rank) n rest h =
    let parts = element_can element rank h in
    let depth : suc (depth_type element) + n ≡ depth_type element + suc n = omega arith in
    ap (λ k. arrays_from k (base_of element) (ranks_text (ty.array_of element rank) ++ rest)) depth
    ∙ ap (arrays_from (depth_type element + suc n) (base_of element)) (ranks_last element rank rest)
    ∙ arrays_read element (suc n) (rank_text rank ++ rest) parts.0
    ∙ ap (arrays_behind (arrays_from n) element (rank_text rank ++ rest)) (rank_reads rank rest (not-true (rank == 0) parts.1))
arrays_read ty.boolean n rest h = ap (λ k. arrays_from k ty.boolean rest) (zero-add n)
arrays_read ty.byte n rest h = ap (λ k. arrays_from k ty.byte rest) (zero-add n)
arrays_read ty.short n rest h = ap (λ k. arrays_from k ty.short rest) (zero-add n)
arrays_read ty.integer n rest h = ap (λ k. arrays_from k ty.integer rest) (zero-add n)
arrays_read ty.long n rest h = ap (λ k. arrays_from k ty.long rest) (zero-add n)
arrays_read ty.decimal n rest h = ap (λ k. arrays_from k ty.decimal rest) (zero-add n)
arrays_read ty.str n rest h = ap (λ k. arrays_from k ty.str rest) (zero-add n)
arrays_read ty.object n rest h = ap (λ k. arrays_from k ty.object rest) (zero-add n)
arrays_read ty.system_array n rest h = ap (λ k. arrays_from k ty.system_array rest) (zero-add n)
arrays_read (ty.named names) n rest h = ap (λ k. arrays_from k (ty.named names) rest) (zero-add n)

pub type_reads : TypesAreRead
type_reads t rest h e =
    let path = (both_true (ends_path rest) (not (begins_with 40 rest)) e).0 in
    let again : type_text t ++ rest ≡ type_text (base_of t) ++ (ranks_text t ++ rest) = ap (λ s. s ++ rest) (type_parts t) ∙ append_assoc (type_text (base_of t)) (ranks_text t) rest in
    let n = length (ranks_text t ++ rest) - depth_type t in
    let fuel : length (ranks_text t ++ rest) ≡ depth_type t + n = omega (arith, depth_bound t, length-append (ranks_text t) rest) in
    ap type_at again
    ∙ ap (λ o. behind o (λ t rest. Some (arrays_from (length rest) t rest))) (base_reads (base_of t) (ranks_text t ++ rest) (base_is_none t) (base_is_writable t h) (ends_ranks t rest path))
    ∙ ap (λ k. Some (arrays_from k (base_of t) (ranks_text t ++ rest))) fuel
    ∙ ap (λ parts. Some parts) (arrays_read t n rest h ∙ arrays_end n t rest e)
