-- Flat procedures: Subs and Functions of standard modules over scalars, arrays of scalars, and user types of scalars. Of what is covered they
-- have no calls that give a user type, no With, no objects, no As New variables and no properties. These are the procedures of which the typing laws speak.
use Rattle.std.specs.Prelude.{ℕ, Bool, true, false, not, cond, ◌&&◌, ◌||◌, List, Option, Some, None, slice_get}
use Rattle.std.specs.List.{list_all}
use Rattle.vb_tree.specs.declared.declared.VarId.{VarId}
use Rattle.vb_tree.specs.Tree.{Form}
use Rattle.vb_tree.specs.Tree as source
use Rattle.bound_tree.specs.declared.body.Mention.{Mention}
use Rattle.bound_tree.specs.Tree.{Declarations, Variable, Procedure, Expr, typed, field, Line, Program}
use Rattle.bound_facts.specs.Members.{field_of}
use Rattle.bound_facts.specs.Node.{type_at, variable_number}
use Rattle.bound_facts.specs.Parts.{line_uses}
use Rattle.written_trees.specs.Types.{element_type}
use Rattle.run_matches.specs.CoveredVariables.{belongs_to, covers_array_variable, covers_type, covers_user, is_class_member, is_loud, is_scalar_or_loud}
use Rattle.run_matches.specs.CoveredExprs.{Uses, uses_in}
use Rattle.run_matches.specs.CoveredLines.{covers_form}
use Rattle.run_matches.specs.Covered.{is_plain, covers_parameter}
use Rattle.run_matches.specs.Formed.{is_formed}
use Rattle.run_matches.specs.Shared.{is_outer}
use Rattle.run_matches.specs.UserTypes.{is_user, is_user_of}
use Rattle.typing_laws.specs.Typed.{has_type}

-- of a user type of scalars and such user types
abbrev pub is_flat_user : Declarations → Variable → Bool
is_flat_user D x = is_user_of (covers_user D) x.ty

-- a scalar, an array of scalars, or of a user type
abbrev pub is_flat : Declarations → Variable → Bool
is_flat D x = covers_type x.ty || (covers_array_variable (element_type x.ty) x || is_flat_user D x)

-- the same scalars, arrays and user types, and no class, As New variable or property that takes a value: Me is none, and no With is kept
abbrev pub without_objects : Uses → Uses
without_objects uses = record {
  scalar = uses.scalar;
  array = uses.array;
  group = λ v ty. is_user ty && uses.group v ty;
  auto = λ v ty. false;
  field_type = uses.field_type;
  member_type = λ c k. None;
  me = None;
  made = λ c. false;
  named = uses.named;
  given = λ ty. false;
  is_of = uses.is_of;
  gives = uses.gives;
  takes = λ q n ty. false;
  results = uses.results;
  inward = uses.inward;
  relied = uses.relied;
  exact = uses.exact;
}

-- no variable of a class, of which each object has its own
abbrev pub stands_outside : Declarations → VarId → Bool
stands_outside D v = not (is_class_member D (slice_get D.vars v.0))

abbrev pub is_flat_in : Declarations → Option Variable → Bool
is_flat_in D None = false
is_flat_in D (Some x) = is_flat D x

abbrev pub is_loud_variable : Program → VarId → Bool
is_loud_variable P v = is_loud P v.0 (slice_get P.declarations.vars v.0)

abbrev pub outside_classes : Program → Uses → Uses
outside_classes P uses = record uses {
  scalar = λ v. uses.scalar v && stands_outside P.declarations v;
  array = λ v e. (uses.array v e && is_loud_variable P v) && stands_outside P.declarations v;
  group = λ v ty.
      (uses.group v ty && is_loud_variable P v)
      && (stands_outside P.declarations v && is_flat_in P.declarations (slice_get P.declarations.vars v.0));
}

-- what a line of a procedure uses and mentions, but for variables of its class, user types that aren't flat, and quiet arrays and user types
abbrev pub outer_uses : Program → (procedure : ℕ) → List Mention → Uses
outer_uses P p mentions = outside_classes P (uses_in P p mentions)

abbrev pub flat_uses : Program → (procedure : ℕ) → List Mention → Uses
flat_uses P p mentions = without_objects (outer_uses P p mentions)

-- no With, which keeps a user type
abbrev pub is_no_with : Form → Bool
is_no_with (source.with_head e) = false
is_no_with _ = true

-- the use of a field has the field's type
abbrev pub has_field_type : Declarations → Expr → Bool
has_field_type D (typed ty (field e k)) = has_type ty (variable_number D.vars (field_of D (type_at e) k))
has_field_type D (typed ty t) = true

-- a code line of a procedure that is covered so, whose expressions are well formed, and of fields have their types
abbrev pub is_flat_line : Program → (procedure : ℕ) → Line → Bool
is_flat_line P p l =
    covers_form (flat_uses P p l.bindings.mentions) l.source.form l.bindings.exprs
    && (list_all is_formed l.bindings.exprs && (is_no_with l.source.form && list_all (has_field_type P.declarations) (line_uses l)))

abbrev pub are_flat_lines : Program → (procedure : ℕ) → Option (List Line) → Bool
are_flat_lines P p None = true
are_flat_lines P p (Some lines) = list_all (is_flat_line P p) lines

-- each variable of the procedure is flat
abbrev pub has_flat_variables : Program → (procedure : ℕ) → Bool
has_flat_variables P p = list_all (λ (x : Variable). cond (belongs_to p x.owner) (is_flat P.declarations x) true) P.declarations.vars

-- a parameter that is a scalar, or no quiet one
abbrev pub is_flat_parameter : Program → (procedure : ℕ) → VarId → Bool
is_flat_parameter P p v = covers_parameter P p v && is_scalar_or_loud P v.0 (slice_get P.declarations.vars v.0)

abbrev pub has_flat_parameters : Program → (procedure : ℕ) → Option Procedure → Bool
has_flat_parameters P p None = false
has_flat_parameters P p (Some x) = list_all (is_flat_parameter P p) x.params

-- a Sub or a Function of a standard module without objects: its lines, if there are any, its variables, and its parameters
abbrev pub is_flat_procedure : Program → (procedure : ℕ) → Bool
is_flat_procedure P p =
    is_plain (slice_get P.declarations.procs p)
    && (is_outer P.declarations (slice_get P.declarations.procs p) && ((are_flat_lines P p (slice_get P.bodies p) && has_flat_variables P p) && has_flat_parameters P p (slice_get P.declarations.procs p)))
