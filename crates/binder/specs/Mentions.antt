-- The declarations that a code line mentions.
use Rattle.std.specs.Prelude.{ℕ, false, Option, Some, None, option_to_list, List, [], ◌∷◌, ◌++◌}
use Rattle.std.specs.List.{flat_map}
use Rattle.vb_tree.specs.BoundTree.{Ty, user}
use Rattle.vb_tree.specs.Tree.{Form, redim, TypeName, fixed_string, ReDimItem}
use Rattle.vb_tree.specs.Tree as source
use Rattle.bound_tree.specs.declared.body.Mention.{Mention}
use Rattle.bound_tree.specs.declared.body.Mention.TheVariants as mention
use Rattle.bound_tree.specs.declared.expression.Origin.{Origin}
use Rattle.bound_tree.specs.declared.expression.Origin.TheVariants as origin
use Rattle.bound_tree.specs.Tree.{Declarations, Expr, typed, Term, constant, variable, field, call, new_object}
use Rattle.bound_facts.specs.Members.{field_of}
use Rattle.bound_facts.specs.Node.{type_at}
use Rattle.bound_facts.specs.Nodes.{nodes}
use Rattle.expression_words.specs.Flaws.{Typed, known, unknown}
use Rattle.expression_words.specs.Meanings.{Scope}
use Rattle.bound_exprs.specs.Resolved.{resolved}
use Rattle.declarations.specs.NamedTypes.{by_name}

abbrev pub constant_mentions : Origin → List Mention
constant_mentions (origin.Declared c) = mention.Const c ∷ []
constant_mentions _ = []

abbrev pub field_mentions : Option ℕ → List Mention
field_mentions None = []
field_mentions (Some v) = mention.Var (record { 0 = v }) ∷ []

-- what one node of an expression mentions; a field is the variable that declares it
abbrev pub term_mentions : Declarations → Term → List Mention
term_mentions D (constant x from) = constant_mentions from
term_mentions D (variable v qualified) = mention.Var v ∷ []
term_mentions D (field e k) = field_mentions (field_of D (type_at e) k)
term_mentions D (call p qualified of args) = mention.Proc p ∷ []
term_mentions D (new_object c) = mention.Class c ∷ []
term_mentions D _ = []

abbrev pub node_mentions : Declarations → Expr → List Mention
node_mentions D (typed ty t) = term_mentions D t

-- of an expression without a type one declaration that leaves it so
abbrev pub typed_mentions : Declarations → Typed → List Mention
typed_mentions D (known e) = flat_map (node_mentions D) (nodes e)
typed_mentions D (unknown f) = option_to_list f.cause

abbrev pub of_type : Ty → List Mention
of_type (user t) = mention.Type (record { 0 = t }) ∷ []
of_type _ = []

-- the type behind As of a ReDim, or the expression of its length, leaves no expression
abbrev pub type_mentions : Scope → Option TypeName → List Mention
type_mentions S None = []
type_mentions S (Some (source.named name)) = of_type (by_name S.declarations S.site.file false name).ty
type_mentions S (Some (fixed_string e)) = typed_mentions S.declarations (resolved S e)

abbrev pub redim_mentions : Scope → ReDimItem → List Mention
redim_mentions S i = type_mentions S i.ty

abbrev pub own_mentions : Scope → Form → List Mention
own_mentions S (redim preserve items) = flat_map (redim_mentions S) items
own_mentions S _ = []

abbrev pub line_mentions : Scope → Form → List Typed → List Mention
line_mentions S f ts = flat_map (typed_mentions S.declarations) ts ++ own_mentions S f
