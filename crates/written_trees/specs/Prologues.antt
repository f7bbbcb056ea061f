-- What is written for declarations of variables and constants, and the declarations at the head of a procedure.
use Rattle.std.specs.Prelude.{ℕ, suc, ◌+◌, nat_eq, ℤ, ◌-ℤ◌, Bool, true, false, cond, ◌&&◌, List, [], ◌∷◌, ◌++◌, map, codes, Option, Some, None}
use Rattle.up_base.specs.declared.place.Place.{Place}
use Rattle.vb_tree.specs.BoundTree as vb
use Rattle.vb_tree.specs.BoundTree.{Ty}
use Rattle.vb_tree.specs.declared.declared.Owner.{Owner}
use Rattle.vb_tree.specs.declared.declared.Owner.TheVariants as owner
use Rattle.vb_tree.specs.declared.value.Value6.{Value6}
use Rattle.vb_tree.specs.Tree.{Form, variables, constants}
use Rattle.vb_tree.specs.Tree as source
use Rattle.vb_tree.specs.Blocks.{is_code}
use Rattle.bound_tree.specs.declared.rule_set.RuleSet.{RuleSet}
use Rattle.bound_tree.specs.RuleSets.{none, both}
use Rattle.bound_tree.specs.Tree.{Variable, Constant, Declarations, Line}
use Rattle.net_tree.specs.Tree as net
use Rattle.net_tree.specs.Types as types
use Rattle.written_trees.specs.Facts.{Facts, line_set, variable_set, constant_set, is_flagged_variable, is_flagged_constant}
use Rattle.written_trees.specs.Names.{Scope, new_name}
use Rattle.written_trees.specs.Types.{type_with, written_type, variable_type}
use Rattle.written_trees.specs.Literals.{number, constant_exp}
use Rattle.written_trees.specs.Conversions.{one, support_call}
use Rattle.written_trees.specs.Lines.{extent, empty_extents, counter_name, is_flagged_for}

-- ---- statements: the lines of a module, numbered from 0

abbrev pub is_statement : (file number : ℕ) → Place → ℕ → Bool
is_statement file n place statement = nat_eq place.file file && nat_eq statement n

-- the variables, numbered from k, that a statement declares; those that no line declares belong to the line of their first use
abbrev pub variables_from : (file number k : ℕ) → List Variable → List (ℕ × Variable)
variables_from file n k [] = []
variables_from file n k (v ∷ vs) = cond (is_statement file n v.place v.statement) ((k, v) ∷ variables_from file n (suc k) vs) (variables_from file n (suc k) vs)

abbrev pub constants_from : (file number k : ℕ) → List Constant → List (ℕ × Constant)
constants_from file n k [] = []
constants_from file n k (c ∷ cs) = cond (is_statement file n c.place c.statement) ((k, c) ∷ constants_from file n (suc k) cs) (constants_from file n (suc k) cs)

abbrev pub variables_of : Declarations → (file number : ℕ) → List (ℕ × Variable)
variables_of D file n = variables_from file n 0 D.vars

abbrev pub constants_of : Declarations → (file number : ℕ) → List (ℕ × Constant)
constants_of D file n = constants_from file n 0 D.consts

abbrev pub union : List RuleSet → RuleSet
union [] = none
union (s ∷ sets) = both s (union sets)

-- the rules that the declarations of a statement break, and the statement itself
abbrev pub statement_set : Declarations → Facts → (file number : ℕ) → RuleSet
statement_set D F file n =
    both (F.statement file n)
    (both (union (map (λ (v : ℕ × Variable). variable_set F v.0) (variables_of D file n))) (union (map (λ (c : ℕ × Constant). constant_set F c.0) (constants_of D file n))))

-- ---- variables

-- extents from the lower to the upper bound of each dimension
abbrev pub fixed_extents : List (ℤ × ℤ) → net.Exps
fixed_extents [] = net.no_exps
fixed_extents (b ∷ bs) = net.next_exp (extent (b.1 -ℤ b.0)) (fixed_extents bs)

-- a dynamic array has no element at first
abbrev pub extents : (rank : ℕ) → List (ℤ × ℤ) → net.Exps
extents rank [] = empty_extents rank
extents rank (b ∷ bs) = fixed_extents (b ∷ bs)

abbrev pub made_user : Bool → (user_type : ℕ) → Option net.Exp
made_user made t = cond made (Some (support_call (new_name t) net.no_exps)) None

-- what a variable with a number begins with, where that has to be written
abbrev pub initial : Scope → (variable : ℕ) → Variable → Ty → Option net.Exp
initial S v x (vb.array e rank) = Some (net.new_array (type_with S.declarations S.file x.qualified 1 e) (extents (S.facts.rank v) x.bounds))
initial S v x (vb.fixed units) = Some (support_call (codes "FixNew") (one (number units)))
initial S v x (vb.user t) = made_user (S.facts.is_made t) t
initial S v x ty = None

-- a variable that carries an issue is an Object
abbrev pub object_variable : List ℕ → net.Variable
object_variable name = record { name = name; ty = types.object; value = None }

abbrev pub typed_variable : Scope → (variable : ℕ) → Variable → net.Variable
typed_variable S v x = record { name = x.name; ty = variable_type S.declarations S.facts S.file v x; value = initial S v x x.ty }

abbrev pub written_variable : Scope → ℕ × Variable → net.Variable
written_variable S v = cond (is_flagged_variable S.facts v.0) (object_variable v.1.name) (typed_variable S v.0 v.1)

abbrev pub is_static : Owner → Bool
is_static (owner.Static p) = true
is_static _ = false

abbrev pub variable_dim : Scope → ℕ × Variable → net.Dim
variable_dim S v = cond (is_static v.1.owner) (net.static_local (written_variable S v)) (net.local (written_variable S v))

-- ---- constants

abbrev pub written_constant : Scope → Constant → Value6 → net.Constant
written_constant S c x = record { name = c.name; ty = written_type S c.ty; value = constant_exp false x }

-- the value of a constant that carries no issue
abbrev pub sound_value : Facts → ℕ × Constant → Option Value6
sound_value F c = cond (is_flagged_constant F c.0) None c.1.value

abbrev pub constant_dim_by : Scope → Constant → Option Value6 → net.Dim
constant_dim_by S c None = net.local (object_variable c.name)
constant_dim_by S c (Some x) = net.constant (written_constant S c x)

-- one that does is a variable
abbrev pub constant_dim : Scope → ℕ × Constant → net.Dim
constant_dim S c = constant_dim_by S c.1 (sound_value S.facts c)

-- ---- code lines

-- a code line with the rules that it breaks
abbrev pub Code : Type 0
Code = RuleSet × Line

abbrev pub one_if : Bool → ℕ
one_if test = cond test 1 0

abbrev pub set_if : Bool → RuleSet → List RuleSet
set_if test s = cond test (s ∷ []) []

-- The rules of the code lines among the lines of a procedure, of which the first is the statement n, i code lines being before it. A
-- variable that no line declares carries what it breaks into the line of its first use.
abbrev pub code_sets : Scope → (procedure : ℕ) → (n i : ℕ) → List source.Line → List RuleSet
code_sets S p n i [] = []
code_sets S p n i (l ∷ ls) =
    set_if (is_code l.form) (both (line_set S.facts p i) (statement_set S.declarations S.facts S.file n))
    ++ code_sets S p (suc n) (i + one_if (is_code l.form)) ls

-- ---- procedures

abbrev pub declares : Form → Bool
declares (variables w declarators) = true
declares (constants visibility items) = true
declares _ = false

abbrev pub statement_dims : Scope → (number : ℕ) → List net.Dim
statement_dims S n =
    map (variable_dim S) (variables_of S.declarations S.file n) ++ map (constant_dim S) (constants_of S.declarations S.file n)

-- of lines that are numbered from n: what those that pass declare
abbrev pub dims_from : Scope → (Form → Bool) → (number : ℕ) → List source.Line → List net.Dim
dims_from S test n [] = []
dims_from S test n (l ∷ ls) = cond (test l.form) (statement_dims S n) [] ++ dims_from S test (suc n) ls

-- the counter of the k-th For head that is replaced
abbrev pub counter_dim : ℕ → net.Dim
counter_dim k = net.local (record { name = counter_name k; ty = types.integer; value = None })

-- how many heads a code line has that are replaced
abbrev pub count_replaced : Code → ℕ
count_replaced c = one_if (is_flagged_for c.0 c.1.source.form)

-- the counters of code lines, before which k heads were replaced
abbrev pub counters_from : (k : ℕ) → List Code → List net.Dim
counters_from k [] = []
counters_from k (c ∷ code) = cond (is_flagged_for c.0 c.1.source.form) (counter_dim (suc k) ∷ []) [] ++ counters_from (k + count_replaced c) code

-- The declarations of a procedure, whose lines are numbered from n: declared ones in source order, then variables that no line declares in
-- the order of their first use, then the counters of replaced heads.
abbrev pub prologue : Scope → (number : ℕ) → List source.Line → List Code → List net.Dim
prologue S n lines code = dims_from S declares n lines ++ dims_from S is_code n lines ++ counters_from 0 code
