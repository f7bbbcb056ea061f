-- The lower bounds and the ranks that declarations and lines give to arrays, those of all dimensions in one list. At each
-- dimension they are the lower bounds of `bound_facts`; ranks stand at dimension 0.
use Rattle.std.specs.Prelude.{ℕ, suc, ℤ, pos, cond, nat_eq, Option, Some, None, List, [], ◌∷◌, ◌++◌, length, slice_get}
use Rattle.std.specs.List.{flat_map}
use Rattle.bound_tree.specs.Tree.{Expr, Line, Variable, Declarations, Program}
use Rattle.bound_facts.specs.Bounds.{array_at, tie, low_in, home_base, fixed_rank}
use Rattle.bound_facts.specs.Items.{project_items}
use Rattle.bound_facts.specs.Parts.{Extent, Resize, resized_by}
use Rattle.array_bounds.specs.declared.givens.Given.{Given}

abbrev pub given_at : Option ℕ → (dimension : ℕ) → Option ℤ → List Given
given_at (Some a) d (Some z) = record { array = a; dimension = d; number = z } ∷ []
given_at _ d _ = []

-- the arrays of an assignment: its target and its value
abbrev pub stored_tie : Declarations → List Expr → List (ℕ × ℕ)
stored_tie D (to ∷ e ∷ es) = tie (array_at D to) (array_at D e)
stored_tie D _ = []

-- ---- lower bounds

-- those of an array's extents from a dimension on
abbrev pub extent_lows : (base : ℤ) → Option ℕ → (dimension : ℕ) → List Extent → List Given
extent_lows base a d [] = []
extent_lows base a d (x ∷ xs) = given_at a d (low_in base x.0) ++ extent_lows base a (suc d) xs

abbrev pub resize_lows : Declarations → (base : ℤ) → Resize → List Given
resize_lows D base r = extent_lows base (array_at D r.array) 0 r.extents

abbrev pub line_lows : Declarations → ℕ → Line → List Given
line_lows D i l = flat_map (resize_lows D (home_base D (slice_get D.procs i))) (resized_by l.source.form l.bindings.exprs)

-- those of a fixed array's bounds from a dimension on
abbrev pub bound_lows : (array dimension : ℕ) → List (ℤ × ℤ) → List Given
bound_lows k d [] = []
bound_lows k d (b ∷ bs) = record { array = k; dimension = d; number = b.0 } ∷ bound_lows k (suc d) bs

-- those of the declarations of variables that are numbered from k
abbrev pub variable_lows : ℕ → List Variable → List Given
variable_lows k [] = []
variable_lows k (x ∷ xs) = bound_lows k 0 x.bounds ++ variable_lows (suc k) xs

abbrev pub all_lows : Program → List Given
all_lows P = variable_lows 0 P.declarations.vars ++ project_items (line_lows P.declarations) P.bodies

-- ---- ranks

abbrev pub resize_ranks : Declarations → Resize → List Given
resize_ranks D r = given_at (array_at D r.array) 0 (Some (pos (length r.extents)))

abbrev pub line_ranks : Declarations → ℕ → Line → List Given
line_ranks D i l = flat_map (resize_ranks D) (resized_by l.source.form l.bindings.exprs)

abbrev pub whole : Option ℕ → Option ℤ
whole None = None
whole (Some n) = Some (pos n)

abbrev pub variable_ranks : ℕ → List Variable → List Given
variable_ranks k [] = []
variable_ranks k (x ∷ xs) = given_at (Some k) 0 (whole (fixed_rank x.ty)) ++ variable_ranks (suc k) xs

abbrev pub all_ranks : Program → List Given
all_ranks P = variable_ranks 0 P.declarations.vars ++ project_items (line_ranks P.declarations) P.bodies

-- ---- one dimension

abbrev pub in_dimension : ℕ → Given → List (ℕ × ℤ)
in_dimension d g = cond (nat_eq g.dimension d) ((g.array, g.number) ∷ []) []

-- the numbers that are given in a dimension
abbrev pub at_dimension : ℕ → List Given → List (ℕ × ℤ)
at_dimension d givens = flat_map (in_dimension d) givens
