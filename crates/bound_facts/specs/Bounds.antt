-- The lower bounds and the ranks of arrays: those that lines and declarations give to any array that a chain of ties leads to.
-- An array is named by its declaration: a variable, a parameter or a field.
use Rattle.std.specs.Prelude.{◌≡◌, ℕ, zero, suc, ◌+◌, ◌≤◌, ℤ, pos, ◌≤ℤ◌, Bool, true, false, cond, ◌&&◌, nat_eq, Option, Some, None, List, [], ◌∷◌, ◌++◌, length, slice_get, option_to_list}
use Rattle.std.specs.List.{flat_map, Contains}
use Rattle.vb_tree.specs.BoundTree.{Ty, array}
use Rattle.vb_tree.specs.declared.declared.VarId.{VarId}
use Rattle.vb_tree.specs.declared.value.Value6.{Value6}
use Rattle.vb_tree.specs.declared.value.Value6.TheVariants as v
use Rattle.vb_tree.specs.Tree.{Form, assign, option_base, Member, alone, group, proc, Module, Project}
use Rattle.vb_tree.specs.Tree as vb
use Rattle.bound_tree.specs.Tree.{Expr, typed, Argument, by_value, by_reference, Passed, no_passed, next_passed, Line, Variable, Procedure, Declarations, Program}
use Rattle.bound_facts.specs.Calls.{count_variables}
use Rattle.bound_facts.specs.Effects.{params_of}
use Rattle.bound_facts.specs.Folded.{folded}
use Rattle.bound_facts.specs.Items.{project_items}
use Rattle.bound_facts.specs.Leading.{Tied}
use Rattle.bound_facts.specs.Node.{type_at, called, args_at, declared_at, is_array_type}
use Rattle.bound_facts.specs.Parts.{Extent, Resize, resized_by, line_uses}

-- ---- ties

abbrev pub array_at : Declarations → Expr → Option ℕ
array_at D e = cond (is_array_type (type_at e)) (declared_at D e) None

abbrev pub tie : Option ℕ → Option ℕ → List (ℕ × ℕ)
tie (Some a) (Some b) = (a, b) ∷ []
tie _ _ = []

-- an array that is given to a parameter
abbrev pub argument_tie : Declarations → Option VarId → Argument → List (ℕ × ℕ)
argument_tie D None a = []
argument_tie D (Some w) (by_value e) = tie (array_at D e) (Some w.0)
argument_tie D (Some w) (by_reference e) = tie (array_at D e) (Some w.0)

abbrev pub argument_ties : Declarations → List VarId → ℕ → Passed → List (ℕ × ℕ)
argument_ties D params i no_passed = []
argument_ties D params i (next_passed a rest) = argument_tie D (slice_get params i) a ++ argument_ties D params (i + 1) rest

abbrev pub node_ties : Declarations → Expr → List (ℕ × ℕ)
node_ties D e = argument_ties D (params_of D.procs (called e)) 0 (args_at e)

-- an array that is assigned whole to another
abbrev pub store_ties : Declarations → Form → List Expr → List (ℕ × ℕ)
store_ties D (assign target value) (to ∷ e ∷ es) = tie (array_at D to) (array_at D e)
store_ties D _ es = []

abbrev pub tie_items : Declarations → ℕ → Line → List (ℕ × ℕ)
tie_items D i l = store_ties D l.source.form l.bindings.exprs ++ flat_map (node_ties D) (line_uses l)

abbrev pub ties : Program → List (ℕ × ℕ)
ties P = project_items (tie_items P.declarations) P.bodies

-- a chain of ties, in either direction, leads from one array to another
abbrev pub AreTied : Program → ℕ → ℕ → Type 0
AreTied P a b = Tied (count_variables P) (ties P) a b

-- ---- Option Base

abbrev pub base_in : Form → Option ℤ
base_in (option_base lower) = Some lower
base_in _ = None

abbrev pub member_base : Member → Option ℤ
member_base (alone l) = base_in l.form
member_base _ = None

abbrev pub or_first : Option ℤ → ℤ → ℤ
or_first None more = more
or_first (Some z) more = z

abbrev pub first_base : List Member → ℤ
first_base [] = pos 0
first_base (m ∷ ms) = or_first (member_base m) (first_base ms)

abbrev pub base_of : ℕ → List Module → ℤ
base_of file [] = pos 0
base_of file (m ∷ ms) = cond (nat_eq m.file file) (first_base m.members) (base_of file ms)

-- the lower bound of a dimension of which none is written, in the module of a file: that of its first Option Base
abbrev pub option_base_of : Declarations → ℕ → ℤ
option_base_of D file = base_of file D.project.modules

abbrev pub home_base : Declarations → Option Procedure → ℤ
home_base D None = pos 0
home_base D (Some p) = option_base_of D p.module_number

-- ---- lower bounds and ranks that are given

abbrev pub whole_in : Value6 → Option ℤ
whole_in (v.Byte n) = Some (pos n)
whole_in (v.Int z) = Some z
whole_in (v.Long z) = Some z
whole_in _ = None

abbrev pub whole_of : Option Value6 → Option ℤ
whole_of None = None
whole_of (Some x) = whole_in x

-- the lower bound of an extent, if it is constant; base where none is written
abbrev pub low_in : (base : ℤ) → Option Expr → Option ℤ
low_in base None = Some base
low_in base (Some e) = whole_of (folded e)

abbrev pub low_at : (base : ℤ) → Option Extent → Option ℤ
low_at base None = None
low_at base (Some x) = low_in base x.0

abbrev pub given : {X : Type 0} → Option ℕ → Option X → List (ℕ × X)
given (Some a) (Some x) = (a, x) ∷ []
given _ _ = []

abbrev pub resize_low : Declarations → (base : ℤ) → (dimension : ℕ) → Resize → List (ℕ × ℤ)
resize_low D base d r = given (array_at D r.array) (low_at base (slice_get r.extents d))

abbrev pub low_items : Declarations → (dimension : ℕ) → ℕ → Line → List (ℕ × ℤ)
low_items D d i l = flat_map (resize_low D (home_base D (slice_get D.procs i)) d) (resized_by l.source.form l.bindings.exprs)

abbrev pub bound_low : Option (ℤ × ℤ) → Option ℤ
bound_low None = None
bound_low (Some b) = Some b.0

-- those of the declarations of variables that are numbered from k
abbrev pub declared_lows : (dimension : ℕ) → ℕ → List Variable → List (ℕ × ℤ)
declared_lows d k [] = []
declared_lows d k (x ∷ xs) = given (Some k) (bound_low (slice_get x.bounds d)) ++ declared_lows d (suc k) xs

-- the lower bounds that are given in a dimension, counted from 0
abbrev pub lows : Program → (dimension : ℕ) → List (ℕ × ℤ)
lows P d = declared_lows d 0 P.declarations.vars ++ project_items (low_items P.declarations d) P.bodies

abbrev pub resize_rank : Declarations → Resize → List (ℕ × ℕ)
resize_rank D r = given (array_at D r.array) (Some (length r.extents))

abbrev pub rank_items : Declarations → ℕ → Line → List (ℕ × ℕ)
rank_items D i l = flat_map (resize_rank D) (resized_by l.source.form l.bindings.exprs)

abbrev pub fixed_rank : Ty → Option ℕ
fixed_rank (array ty zero) = None
fixed_rank (array ty (suc r)) = Some (suc r)
fixed_rank _ = None

abbrev pub declared_ranks : ℕ → List Variable → List (ℕ × ℕ)
declared_ranks k [] = []
declared_ranks k (x ∷ xs) = given (Some k) (fixed_rank x.ty) ++ declared_ranks (suc k) xs

abbrev pub ranks : Program → List (ℕ × ℕ)
ranks P = declared_ranks 0 P.declarations.vars ++ project_items (rank_items P.declarations) P.bodies

-- ---- those of an array

-- a lower bound, or a rank, of an array: one that is given to an array that a chain of ties leads to
abbrev pub Low : Program → (dimension : ℕ) → ℕ → ℤ → Type 0
Low P d a z = (b : ℕ) × AreTied P a b × Contains (lows P d) (b, z)

abbrev pub Rank : Program → ℕ → ℕ → Type 0
Rank P a r = (b : ℕ) × AreTied P a b × Contains (ranks P) (b, r)

-- the file of the module in which a variable stands
abbrev pub file_of : Option Variable → ℕ
file_of None = 0
file_of (Some x) = x.place.file

-- the least lower bound of an array, and where it has none the Option Base of its module
pub data LowIs (P : Program) (d a : ℕ) : ℤ → Type 0 where
  least_low : (z : ℤ) → Low P d a z → ((y : ℤ) → Low P d a y → z ≤ℤ y) → LowIs P d a z
  base_low : ((y : ℤ) → Low P d a y → ⊥) → LowIs P d a (option_base_of P.declarations (file_of (slice_get P.declarations.vars a)))

-- the least rank of an array, and 1 where it has none
pub data RankIs (P : Program) (a : ℕ) : ℕ → Type 0 where
  least_rank : (r : ℕ) → Rank P a r → ((s : ℕ) → Rank P a s → r ≤ s) → RankIs P a r
  no_rank : ((s : ℕ) → Rank P a s → ⊥) → RankIs P a 1
