-- Clean procedures: those from which no chain of mentions leads to a procedure or a declaration with a line that breaks a rule.
use Rattle.std.specs.Prelude.{◌≡◌, ℕ, suc, Bool, true, false, cond, ◌||◌, ◌&&◌, nat_eq, Option, Some, None, List, [], ◌∷◌, ◌++◌, map, slice_get, option_to_list, not, take}
use Rattle.std.specs.List.{flat_map, list_any, Contains}
use Rattle.up_base.specs.declared.place.Place.{Place}
use Rattle.up_base.specs.Names.{is_same_name}
use Rattle.vb_tree.specs.BoundTree.{Ty, user, array}
use Rattle.vb_tree.specs.declared.declared.Owner.{Owner}
use Rattle.vb_tree.specs.declared.declared.Owner.TheVariants as owner
use Rattle.vb_tree.specs.declared.form_parts.Compare.TheVariants as compare
use Rattle.vb_tree.specs.declared.form_parts.DefWord.{DefWord}
use Rattle.vb_tree.specs.declared.form_parts.DefWord.TheVariants as word
use Rattle.vb_tree.specs.FlatLines.{module_lines}
use Rattle.vb_tree.specs.ProjectLines.{is_reserved}
use Rattle.vb_tree.specs.Tree.{Form, option_explicit, option_base, option_compare, option_private_module, def_type, Module}
use Rattle.vb_tree.specs.Tree as vb
use Rattle.bound_tree.specs.declared.body.Mention.{Mention}
use Rattle.bound_tree.specs.declared.body.Mention.TheVariants as mention
use Rattle.bound_tree.specs.declared.declared.Named.{Named}
use Rattle.bound_tree.specs.declared.declared.Named.TheVariants as named
use Rattle.bound_tree.specs.declared.declared.NamedEntry.{NamedEntry}
use Rattle.bound_tree.specs.declared.declared.Scope.{Scope}
use Rattle.bound_tree.specs.declared.declared.Scope.TheVariants as scope
use Rattle.bound_tree.specs.declared.declared.TypeDecl.{TypeDecl}
use Rattle.bound_tree.specs.declared.marks.Marks.{Marks}
use Rattle.bound_tree.specs.declared.rule_set.RuleSet.{RuleSet}
use Rattle.bound_tree.specs.RuleSets.{none, with_rule, is_broken}
use Rattle.bound_tree.specs.Tree.{Expr, Line, Variable, Constant, Procedure, Declarations, Program}
use Rattle.bound_facts.specs.Calls.{calls}
use Rattle.bound_facts.specs.Items.{project_items}
use Rattle.bound_facts.specs.Locks.{user_in}
use Rattle.bound_facts.specs.Members.{initializer, terminator}
use Rattle.bound_facts.specs.Node.{created}
use Rattle.bound_facts.specs.Parts.{line_uses}

-- what a chain of mentions goes over
pub data Point : Type 0 where
  procedure : ℕ → Point
  variable : ℕ → Point
  constant : ℕ → Point
  user_type : ℕ → Point
  -- an Option or a Def line, by its file and the number of its statement
  option_line : (file statement : ℕ) → Point

-- ---- the statements of modules: the lines of a module in order, numbered from 0

-- a line that says something of all declarations of its module
abbrev pub is_option : Form → Bool
is_option option_explicit = true
is_option (option_base lower) = true
is_option (option_compare way) = true
is_option option_private_module = true
is_option (def_type word ranges) = true
is_option _ = false

abbrev pub is_floating_word : DefWord → Bool
is_floating_word word.Single = true
is_floating_word word.Double = true
is_floating_word word.Date = true
is_floating_word _ = false

-- the rule that such a line breaks: 17 where texts are compared without case, 1 where it gives a floating type or Date
abbrev pub option_rules : Form → RuleSet
option_rules (option_compare compare.Text) = with_rule none 17
option_rules (def_type word ranges) = cond (is_floating_word word) (with_rule none 1) none
option_rules _ = none

-- the Option and Def lines among lines that are numbered from n
abbrev pub options_from : (file n : ℕ) → List vb.Line → List Point
options_from file n [] = []
options_from file n (l ∷ ls) = cond (is_option l.form) (option_line file n ∷ options_from file (suc n) ls) (options_from file (suc n) ls)

abbrev pub options_of : ℕ → List Module → List Point
options_of file [] = []
options_of file (m ∷ ms) = cond (nat_eq m.file file) (options_from file 0 (module_lines m)) (options_of file ms)

-- ---- arrows

abbrev pub Arrow : Type 0
Arrow = Point × Point

abbrev pub to_all : Point → List Point → List Arrow
to_all p qs = map (λ q. (p, q)) qs

abbrev pub class_points : Declarations → ℕ → List Point
class_points D c = map procedure (option_to_list (initializer D c) ++ option_to_list (terminator D c))

abbrev pub mentioned : Declarations → Mention → List Point
mentioned D (mention.Var v) = variable v.0 ∷ []
mentioned D (mention.Const c) = constant c.0 ∷ []
mentioned D (mention.Type t) = user_type t.0 ∷ []
mentioned D (mention.Proc p) = procedure p.0 ∷ []
mentioned D (mention.Class c) = class_points D c.0

abbrev pub created_points : Declarations → Expr → List Point
created_points D e = flat_map (class_points D) (option_to_list (created D e))

-- what a line of procedure i mentions, and the initializers and terminators of what it makes
abbrev pub line_arrows : Declarations → ℕ → Line → List Arrow
line_arrows D i l = to_all (procedure i) (flat_map (mentioned D) l.bindings.mentions ++ flat_map (created_points D) (line_uses l))

abbrev pub owner_point : Owner → List Point
owner_point (owner.Local p) = procedure p.0 ∷ []
owner_point (owner.Static p) = procedure p.0 ∷ []
owner_point (owner.Value p) = procedure p.0 ∷ []
owner_point (owner.Reference p) = procedure p.0 ∷ []
owner_point (owner.Answer p) = procedure p.0 ∷ []
owner_point _ = []

abbrev pub lettered_point : Place → Option ℕ → List Point
lettered_point place None = []
lettered_point place (Some statement) = option_line place.file statement ∷ []

-- from a procedure to each variable of its own, and from a variable to its user type and to the Def line that gives it its type;
-- the variables are numbered from k
abbrev pub variable_arrows : ℕ → List Variable → List Arrow
variable_arrows k [] = []
variable_arrows k (v ∷ vs) =
    map (λ p. (p, variable k)) (owner_point v.owner)
    ++ to_all (variable k) (map user_type (option_to_list (user_in v.named)) ++ lettered_point v.place v.lettered)
    ++ variable_arrows (suc k) vs

-- from a procedure to its own constants
abbrev pub constant_arrows : ℕ → List Constant → List Arrow
constant_arrows k [] = []
constant_arrows k (c ∷ cs) = map (λ p. (p, constant k)) (owner_point c.owner) ++ constant_arrows (suc k) cs

-- from a user type to its fields
abbrev pub type_arrows : ℕ → List TypeDecl → List Arrow
type_arrows k [] = []
type_arrows k (t ∷ ts) = to_all (user_type k) (map (λ f. variable f.0) t.fields) ++ type_arrows (suc k) ts

-- ---- captured names

abbrev pub is_module_name : List Module → List ℕ → Bool
is_module_name ms name = list_any (λ (m : Module). not m.class && is_same_name m.name name) ms

abbrev pub is_class_name : List Module → List ℕ → Bool
is_class_name ms name = list_any (λ (m : Module). m.class && is_same_name m.name name) ms

abbrev pub is_user_type : Named → Bool
is_user_type (named.Type t) = true
is_user_type _ = false

-- A written path begins with the name of a standard module, of the support module or of the run-time library: where a declaration has one
-- of these names, the path would lead to it. So would the name of a class, where a structure has it.
abbrev pub captures : List Module → List ℕ → Named → Bool
captures ms name what = is_reserved name || (is_module_name ms name || (is_user_type what && is_class_name ms name))

-- an Enum isn't written
abbrev pub named_point : Named → List Point
named_point (named.Var v) = variable v.0 ∷ []
named_point (named.Const c) = constant c.0 ∷ []
named_point (named.Proc p) = procedure p.0 ∷ []
named_point (named.Type t) = user_type t.0 ∷ []
named_point (named.Enum e) = []

abbrev pub is_member_of : (file : ℕ) → Scope → Bool
is_member_of file (scope.Public f) = nat_eq f file
is_member_of file (scope.Private f) = nat_eq f file
is_member_of file (scope.Local p) = false

abbrev pub capturing_in : List Module → (file : ℕ) → NamedEntry → List Point
capturing_in ms file x = cond (is_member_of file x.scope && captures ms x.name x.named) (named_point x.named) []

-- the first member of a module whose name captures others; it breaks U20, as all of them do
abbrev pub capturing : Declarations → (file : ℕ) → List Point
capturing D file = take 1 (flat_map (capturing_in D.project.modules file) D.names)

-- from a procedure to that of its module: whatever else the procedure writes, it would be read otherwise
abbrev pub captured_arrows : Declarations → ℕ → List Procedure → List Arrow
captured_arrows D k [] = []
captured_arrows D k (p ∷ ps) = to_all (procedure k) (capturing D p.module_number) ++ captured_arrows D (suc k) ps

-- from a procedure to the Option and Def lines of its module
abbrev pub procedure_arrows : List Module → ℕ → List Procedure → List Arrow
procedure_arrows ms k [] = []
procedure_arrows ms k (p ∷ ps) = to_all (procedure k) (options_of p.module_number ms) ++ procedure_arrows ms (suc k) ps

abbrev pub call_arrow : ℕ × ℕ → Arrow
call_arrow p = (procedure p.0, procedure p.1)

abbrev pub arrows : Program → List Arrow
arrows P =
    map call_arrow (calls P)
    ++ project_items (line_arrows P.declarations) P.bodies
    ++ variable_arrows 0 P.declarations.vars
    ++ constant_arrows 0 P.declarations.consts
    ++ type_arrows 0 P.declarations.types
    ++ procedure_arrows P.declarations.project.modules 0 P.declarations.procs
    ++ captured_arrows P.declarations 0 P.declarations.procs

-- a chain of arrows, perhaps an empty one, leads from one point to another
pub data Path (pairs : List Arrow) : Point → Point → Type 0 where
  stays : (a : Point) → Path pairs a a
  goes : (a b c : Point) → Path pairs a b → Contains pairs (b, c) → Path pairs a c

-- ---- what breaks a rule

abbrev pub set_broken : Option RuleSet → Bool
set_broken None = false
set_broken (Some s) = is_broken s

abbrev pub sets_broken : Option (List RuleSet) → Bool
sets_broken None = false
sets_broken (Some sets) = list_any is_broken sets

abbrev pub is_statement : Place → ℕ → Place → ℕ → Bool
is_statement p m q n = nat_eq p.file q.file && nat_eq m n

-- whether a declaration of the same statement breaks a rule, among declarations that are numbered from k
abbrev pub variables_broken : List RuleSet → Place → ℕ → ℕ → List Variable → Bool
variables_broken sets place statement k [] = false
variables_broken sets place statement k (v ∷ vs) =
    (is_statement place statement v.place v.statement && set_broken (slice_get sets k)) || variables_broken sets place statement (suc k) vs

abbrev pub constants_broken : List RuleSet → Place → ℕ → ℕ → List Constant → Bool
constants_broken sets place statement k [] = false
constants_broken sets place statement k (c ∷ cs) =
    (is_statement place statement c.place c.statement && set_broken (slice_get sets k)) || constants_broken sets place statement (suc k) cs

abbrev pub statement_broken : Declarations → Marks → Place → ℕ → Bool
statement_broken D M place statement = variables_broken M.vars place statement 0 D.vars || constants_broken M.consts place statement 0 D.consts

abbrev pub variable_broken : Declarations → Marks → Option Variable → Bool
variable_broken D M None = false
variable_broken D M (Some v) = statement_broken D M v.place v.statement

abbrev pub constant_broken : Declarations → Marks → Option Constant → Bool
constant_broken D M None = false
constant_broken D M (Some c) = statement_broken D M c.place c.statement

abbrev pub form_broken : Option vb.Line → Bool
form_broken None = false
form_broken (Some l) = is_broken (option_rules l.form)

abbrev pub option_broken : (file statement : ℕ) → List Module → Bool
option_broken file statement [] = false
option_broken file statement (m ∷ ms) = cond (nat_eq m.file file) (form_broken (slice_get (module_lines m) statement)) (option_broken file statement ms)

-- whether the head or a line of a procedure breaks a rule, a declaration of the statement of a variable or a constant, the head
-- of a user type, or an Option or Def line
abbrev pub point_broken : Declarations → Marks → Point → Bool
point_broken D M (procedure p) = set_broken (slice_get M.heads p) || sets_broken (slice_get M.lines p)
point_broken D M (variable v) = variable_broken D M (slice_get D.vars v)
point_broken D M (constant c) = constant_broken D M (slice_get D.consts c)
point_broken D M (user_type t) = set_broken (slice_get M.types t)
point_broken D M (option_line file statement) = option_broken file statement D.project.modules

-- no chain leads from the procedure to what breaks a rule, where all that is broken is marked
abbrev pub IsClean : Program → Marks → ℕ → Type 0
IsClean P M p = (q : Point) → Path (arrows P) (procedure p) q → point_broken P.declarations M q ≡ false
