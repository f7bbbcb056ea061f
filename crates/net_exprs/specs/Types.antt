-- How types are read.
use Rattle.std.specs.Prelude.{ℕ, zero, suc, ◌==◌, if◌then◌else◌, List, [], ◌∷◌, length, codes, Option, Some, None}
use Rattle.net_tree.specs.Types as ty
use Rattle.net_tree.specs.Types.{TypeName}
use Rattle.net_tree.specs.Spelling.{is_same_path}
use Rattle.net_exprs.specs.Readers.{behind, look_up, word_at}
use Rattle.net_exprs.specs.Names.{path_at}

-- the rank that goes up with each comma, up to the closing parenthesis
abbrev pub commas_from : ℕ → List ℕ → Option (ℕ × List ℕ)
commas_from rank [] = None
commas_from rank (c ∷ s) = if c == 44 then commas_from (suc rank) s else (if c == 41 then Some (rank, s) else None)

-- the parentheses of an array
abbrev pub rank_at : List ℕ → Option (ℕ × List ℕ)
rank_at [] = None
rank_at (c ∷ s) = if c == 40 then commas_from 1 s else None

-- the types that are words of the language
abbrev pub basic_types : List (List ℕ × TypeName)
basic_types =
    (codes "Boolean", ty.boolean) ∷ (codes "Byte", ty.byte) ∷ (codes "Short", ty.short) ∷ (codes "Integer", ty.integer) ∷ (codes "Long", ty.long)
    ∷ (codes "Decimal", ty.decimal) ∷ (codes "String", ty.str) ∷ (codes "Object", ty.object) ∷ []

unfoldable pub basic_type_of : List ℕ → Option TypeName
basic_type_of word = look_up word basic_types

-- the type that a path names
abbrev pub path_type : List (List ℕ) → TypeName
path_type names = if is_same_path names (codes "System" ∷ codes "Array" ∷ []) then ty.system_array else ty.named names

abbrev pub base_by : Option TypeName → (rest s : List ℕ) → Option (TypeName × List ℕ)
base_by (Some t) rest s = Some (t, rest)
base_by None rest s = behind (path_at s) (λ names rest. Some (path_type names, rest))

-- a type that is no array
abbrev pub base_at : List ℕ → Option (TypeName × List ℕ)
base_at s = base_by (basic_type_of (word_at s).0) (word_at s).1 s

abbrev pub arrays_behind : (TypeName → List ℕ → TypeName × List ℕ) → TypeName → List ℕ → Option (ℕ × List ℕ) → TypeName × List ℕ
arrays_behind go t s None = (t, s)
arrays_behind go t s (Some rank) = go (ty.array_of t rank.0) rank.1

-- a type that stands before, and at most so many ranks
abbrev pub arrays_from : ℕ → TypeName → List ℕ → TypeName × List ℕ
arrays_from zero t s = (t, s)
arrays_from (suc n) t s = arrays_behind (arrays_from n) t s (rank_at s)

-- a type, with the ranks of the arrays that it is
abbrev pub type_at : List ℕ → Option (TypeName × List ℕ)
type_at s = behind (base_at s) (λ t rest. Some (arrays_from (length rest) t rest))
