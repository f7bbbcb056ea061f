-- Where values are kept.
use Rattle.std.specs.Prelude.{ℕ, Bool, true, false, cond, nat_eq, ◌&&◌, List, [], ◌∷◌}

-- What a declaration is known by: on the side of Visual Basic 6 the number of the variable; in a written project the number of its
-- module, of the member there, and for a Static which part of the member has it and its place in the prologue.
abbrev pub Key : Type 0
Key = List ℕ

-- A variable of a module or a Static of a procedure in one; a place that a run has made, for a local, a parameter or a temporary; or a
-- field of an object, or a Static of a procedure of its class. Places and objects are numbered in the order in which they are made.
pub data Root : Type 0 where
  shared : Key → Root
  made : ℕ → Root
  field : (object : ℕ) → Key → Root

-- A root, or a field of a user type in it, by the numbers of fields, the innermost first. The fields of a user type stand at positions
-- of their own.
pub record Position : Type 0 where
  pub root : Root
  pub path : List ℕ

abbrev pub whole : Root → Position
whole r = record { root = r; path = [] }

abbrev pub inner : Position → ℕ → Position
inner q i = record { root = q.root; path = i ∷ q.path }

abbrev pub is_same_path : List ℕ → List ℕ → Bool
is_same_path [] [] = true
is_same_path (a ∷ p) (b ∷ q) = nat_eq a b && is_same_path p q
is_same_path _ _ = false

abbrev pub is_same_root : Root → Root → Bool
is_same_root (shared k) (shared l) = is_same_path k l
is_same_root (made a) (made b) = nat_eq a b
is_same_root (field a k) (field b l) = nat_eq a b && is_same_path k l
is_same_root _ _ = false

abbrev pub is_same_position : Position → Position → Bool
is_same_position p q = is_same_root p.root q.root && is_same_path p.path q.path

-- a function with its value changed at one position
abbrev pub updated : {V : Type 0} → (Position → V) → Position → V → Position → V
updated f p v q = cond (is_same_position p q) v (f q)

-- a function with its value changed at one number
abbrev pub updated_at : {V : Type 0} → (ℕ → V) → ℕ → V → ℕ → V
updated_at f a v b = cond (nat_eq a b) v (f b)
