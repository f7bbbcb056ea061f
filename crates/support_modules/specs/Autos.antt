-- The functions that make objects, by their parts and one module at a time.
use Rattle.std.specs.Prelude.{ℕ, suc, Bool, cond, List, [], ◌∷◌, ◌++◌, codes}
use Rattle.bound_tree.specs.Tree.{Declarations}
use Rattle.net_tree.specs.declared.declaration.NetPassing.TheVariants as passing
use Rattle.net_tree.specs.declared.expression.NetBin.TheVariants as op
use Rattle.net_tree.specs.Tree as net
use Rattle.net_tree.specs.Types.{TypeName}
use Rattle.net_tree.specs.Types as types
use Rattle.vb_tree.specs.Tree.{Module}
use Rattle.written_trees.specs.Names.{class_path}
use Rattle.written_trees.specs.Supports.{auto_function, local_exp, parameter}

abbrev pub class_type : Declarations → (class : ℕ) → TypeName
class_type D c = types.named (class_path D c)

abbrev pub auto_params : Declarations → (class : ℕ) → List net.Param
auto_params D c = parameter passing.Reference (codes "x") (class_type D c)

abbrev pub is_nothing : net.Exp
is_nothing = net.binary op.Is (local_exp (codes "x")) net.nothing

abbrev pub make_line : Declarations → (class : ℕ) → net.Line
make_line D c = net.assign (local_exp (codes "x")) (net.new_object (class_type D c) net.no_exps)

abbrev pub auto_lines : Declarations → (class : ℕ) → (name : List ℕ) → List net.Line
auto_lines D c name = net.if_head is_nothing ∷ make_line D c ∷ net.end_if ∷ net.assign (local_exp name) (local_exp (codes "x")) ∷ []

-- the function for a module where it is a class, and the number of classes up to it
abbrev pub autos_of : Declarations → (class : ℕ) → Bool → List net.Procedure
autos_of D c class = cond class (auto_function D c ∷ []) []

abbrev pub class_after : (class : ℕ) → Bool → ℕ
class_after c class = cond class (suc c) c

abbrev pub autos_in : Declarations → (class : ℕ) → List Module → List net.Procedure
autos_in D c [] = []
autos_in D c (m ∷ ms) = autos_of D c m.class ++ autos_in D (class_after c m.class) ms
