-- Each rule on names broken and nearly broken, worked out by hand.
use Rattle.std.proofs.Common.{◌≡◌, ℕ, true, false, List, [], ◌∷◌, map, Option, Some, None, refl, pos, codes}
use Rattle.std.specs.Prelude.{filter}
use Rattle.vb_tree.specs.declared.declared.ProcKind.TheVariants as kind
use Rattle.vb_tree.specs.declared.form_parts.Compare.TheVariants as compare
use Rattle.vb_tree.specs.declared.form_parts.DefWord.TheVariants as def
use Rattle.vb_tree.specs.declared.form_parts.Label6.TheVariants as label6
use Rattle.vb_tree.specs.declared.form_parts.Passing.TheVariants as passing
use Rattle.vb_tree.specs.declared.form_parts.VarWord.TheVariants as word
use Rattle.vb_tree.specs.declared.project.ProjectKind.TheVariants.{Exe}
use Rattle.vb_tree.specs.declared.token.Literal6.TheVariants as literal
use Rattle.vb_tree.specs.declared.token.Sign.TheVariants as sign
use Rattle.vb_tree.specs.declared.token.Suffix.TheVariants as suffix
use Rattle.vb_tree.specs.declared.token.Token.{Token}
use Rattle.vb_tree.specs.declared.declared.Owner.TheVariants as owner
use Rattle.vb_tree.specs.declared.token.TokenKind.{TokenKind}
use Rattle.vb_tree.specs.declared.token.TokenKind.TheVariants as token
use Rattle.vb_tree.specs.Tree.{Form, Member, Module, Nodes, Param, Project, alone, attribute, def_type, end_enum, end_function, end_sub, end_type, enum_head, event_variables, field, function_head, get_head, group, label, let_head, named, no_nodes, opaque, option_compare, option_explicit, proc, static_head, sub_head, type_head, variables}
use Rattle.bound_tree.specs.declared.rule_set.RuleSet.{RuleSet}
use Rattle.bound_tree.specs.RuleSets.{both, has, none, rule_numbers, with_rule}
use Rattle.declared_names.specs.Declaring.{follow, lists_of, nothing, with_declared, a_variable, a_field, a_constant, a_procedure, a_type, an_enum, procedure_declares, type_declares, members_declare}
use Rattle.declared_names.specs.Rules.{inherited_names, line_rules, name_marks, reserved_names, startup_rules}
use Rattle.declared_names.proofs.Examples.{at, body, head, param, plain}

-- the rules of a set
abbrev rules_in : RuleSet → List ℕ
rules_in s = filter (has s) rule_numbers

abbrev standard : ℕ → (name : List ℕ) → List Member → Module
standard file name members = record { file = file; name = name; class = false; members = members; comments = [] }

abbrev class_module : ℕ → (name : List ℕ) → List Member → Module
class_module file name members = record { file = file; name = name; class = true; members = members; comments = [] }

abbrev project : Option (ℕ × List ℕ) → List Module → Project
project start modules = record { file = record { kind = Exe; startup = start; entries = []; dropped = [] }; modules = modules }

abbrev dim : List ℕ → Member
dim name = alone (at (variables word.Dim (plain name None ∷ [])))

abbrev sub : List ℕ → List Param → Nodes → Member
sub name params inside = proc (at (sub_head (head name params))) inside (at end_sub)

abbrev function : List ℕ → List Param → Member
function name params = proc (at (function_head (head name params) None)) no_nodes (at end_function)

abbrev get : Member
get = proc (at (get_head (head (codes "Size") []) None)) no_nodes (at end_function)

abbrev let_part : Member
let_part = proc (at (let_head (head (codes "size") (param passing.Unsaid (codes "v") false ∷ [])))) no_nodes (at end_function)

abbrev shape : List ℕ → List (List ℕ) → Member
shape name fields = group (at (type_head None name suffix.Absent)) (map (λ f. at (field f suffix.Absent None (named (codes "Long")))) fields) (at end_type)

-- members of a module: names that classes inherit, that are reserved, that are declared already, and that a module has
abbrev variables_of_module : Project
variables_of_module = project None (standard 1 (codes "Main1") (map dim (codes "Equals" ∷ codes "Equal" ∷ codes "System" ∷ codes "SystemX" ∷ codes "Equal_" ∷ codes "EQUAL" ∷ codes "main1" ∷ codes "Thing" ∷ [])) ∷ class_module 2 (codes "Thing") (dim (codes "Equal") ∷ []) ∷ [])

variables_marked : map rules_in (name_marks variables_of_module (lists_of variables_of_module)).vars ≡
    (16 ∷ []) ∷ [] ∷ (20 ∷ []) ∷ [] ∷ [] ∷ (20 ∷ []) ∷ (20 ∷ []) ∷ [] ∷ [] ∷ []
unfolding with_declared follow nothing a_variable a_field a_constant a_procedure a_type an_enum procedure_declares type_declares members_declare has none with_rule both reserved_names inherited_names
variables_marked = refl

-- parts of a property stand beside each other, each once; a Type can't have the name of a class
abbrev heads_of_module : Project
heads_of_module = project None (standard 1 (codes "Main1") (get ∷ let_part ∷ get ∷ sub (codes "Size") [] no_nodes ∷ sub (codes "New") [] no_nodes ∷ shape (codes "Thing") [] ∷ shape (codes "Things") [] ∷ []) ∷ class_module 2 (codes "Thing") (sub (codes "Class_Initialize") [] no_nodes ∷ group (at (enum_head None (codes "Color") suffix.Absent)) [] (at end_enum) ∷ []) ∷ [])

heads_marked : map rules_in (name_marks heads_of_module (lists_of heads_of_module)).heads ≡ [] ∷ [] ∷ (20 ∷ []) ∷ (20 ∷ []) ∷ (16 ∷ []) ∷ [] ∷ []
unfolding with_declared follow nothing a_variable a_field a_constant a_procedure a_type an_enum procedure_declares type_declares members_declare has none with_rule both reserved_names inherited_names
heads_marked = refl

types_marked : map rules_in (name_marks heads_of_module (lists_of heads_of_module)).types ≡ (20 ∷ []) ∷ [] ∷ []
unfolding with_declared follow nothing a_variable a_field a_constant a_procedure a_type an_enum procedure_declares type_declares members_declare has none with_rule both reserved_names inherited_names
types_marked = refl

enums_marked : map rules_in (name_marks heads_of_module (lists_of heads_of_module)).enums ≡ (4 ∷ []) ∷ []
unfolding with_declared follow nothing a_variable a_field a_constant a_procedure a_type an_enum procedure_declares type_declares members_declare has none with_rule both reserved_names inherited_names
enums_marked = refl

-- a head has the rules of its parameters, and its result variable those of the head; fields are a scope of their own
abbrev own_names : Project
own_names = project None (
    standard 1 (codes "Main1") (
    function (codes "F") (param passing.Unsaid (codes "Main1") false ∷ param passing.Unsaid (codes "x") false ∷ [])
    ∷ function (codes "G") (param passing.Unsaid (codes "g") false ∷ [])
    ∷ function (codes "H") (param passing.Unsaid (codes "Equals") false ∷ [])
    ∷ shape (codes "Point") (codes "x" ∷ codes "X" ∷ codes "Main1" ∷ codes "ToString" ∷ [])
    ∷ [])
    ∷ class_module 2 (codes "Thing") (sub (codes "class_initialize") (param passing.Unsaid (codes "n") false ∷ []) no_nodes ∷ [])
    ∷ [])

own_heads_marked : map rules_in (name_marks own_names (lists_of own_names)).heads ≡ (20 ∷ []) ∷ (20 ∷ []) ∷ [] ∷ (18 ∷ []) ∷ []
unfolding with_declared follow nothing a_variable a_field a_constant a_procedure a_type an_enum procedure_declares type_declares members_declare has none with_rule both reserved_names inherited_names
own_heads_marked = refl

own_variables_marked : map rules_in (name_marks own_names (lists_of own_names)).vars ≡
    (20 ∷ []) ∷ [] ∷ (20 ∷ [])  -- Main1, x, F
    ∷ [] ∷ (20 ∷ [])  -- g, G
    ∷ [] ∷ []  -- Equals, H
    ∷ [] ∷ (20 ∷ []) ∷ [] ∷ (16 ∷ [])  -- the fields
    ∷ [] ∷ []
unfolding with_declared follow nothing a_variable a_field a_constant a_procedure a_type an_enum procedure_declares type_declares members_declare has none with_rule both reserved_names inherited_names
own_variables_marked = refl

-- a head with Static
abbrev static_project : Project
static_project = project None (standard 1 (codes "Main1") (proc (at (static_head kind.Sub (head (codes "S") []) None)) (body (variables word.Dim (plain (codes "n") None ∷ []) ∷ [])) (at end_sub) ∷ []) ∷ [])

static_marked : map rules_in (name_marks static_project (lists_of static_project)).heads ≡ (4 ∷ []) ∷ []
unfolding with_declared follow nothing a_variable a_field a_constant a_procedure a_type an_enum procedure_declares type_declares members_declare has none with_rule both reserved_names inherited_names
static_marked = refl

-- its locals are those of a head without the word
static_owners : map (λ v. v.owner) (lists_of static_project).vars ≡ owner.Local (record { 0 = 0 }) ∷ []
unfolding with_declared follow nothing a_variable a_field a_constant a_procedure a_type an_enum procedure_declares type_declares members_declare
static_owners = refl

-- labels: a word twice, and beside it a number
abbrev labels_project : Project
labels_project = project None (standard 1 (codes "Main1") (sub (codes "S") [] (body (label (label6.Word (codes "L")) ∷ label (label6.Number (pos 10)) ∷ label (label6.Word (codes "l")) ∷ [])) ∷ sub (codes "T") [] (body (label (label6.Word (codes "L")) ∷ [])) ∷ []) ∷ [])

labels_marked : map (map rules_in) (name_marks labels_project (lists_of labels_project)).lines ≡ ([] ∷ [] ∷ (20 ∷ []) ∷ []) ∷ ([] ∷ []) ∷ []
unfolding with_declared follow nothing a_variable a_field a_constant a_procedure a_type an_enum procedure_declares type_declares members_declare has none with_rule both reserved_names inherited_names
labels_marked = refl

-- lines that declare nothing
abbrev tok : TokenKind → Token
tok k = record { kind = k; line = 1; from = 0; to = 0 }

abbrev vb_name : List ℕ → Form
vb_name text = attribute (tok (token.Word (codes "VB_Name") suffix.Absent) ∷ tok (token.Sign sign.Equal) ∷ tok (token.Lit (literal.Str text)) ∷ [])

lines_marked : map (λ f. rules_in (line_rules (codes "Main1") f)) (
    vb_name (codes "MAIN1")
    ∷ vb_name (codes "Main2")
    ∷ attribute (tok (token.Word (codes "VB_Exposed") suffix.Absent) ∷ [])
    ∷ option_compare compare.Text
    ∷ option_compare compare.Binary
    ∷ option_explicit
    ∷ def_type def.Single []
    ∷ def_type def.Integer []
    ∷ event_variables word.Dim []
    ∷ opaque []
    ∷ []) ≡ [] ∷ (20 ∷ []) ∷ [] ∷ (17 ∷ []) ∷ [] ∷ [] ∷ (1 ∷ []) ∷ [] ∷ (4 ∷ []) ∷ (4 ∷ []) ∷ []
unfolding has none with_rule both reserved_names inherited_names
lines_marked = refl

-- the start of the program: no Sub Main, one, one of two that a class has, and two
abbrev with_mains : List Module → List ℕ
with_mains modules = rules_in (startup_rules (project (Some (2, codes "Sub Main")) modules))

abbrev main : List ℕ → Member
main name = sub name [] no_nodes

starts_marked :
    with_mains (standard 1 (codes "A") (main (codes "Start") ∷ function (codes "Main") [] ∷ []) ∷ [])
    ∷ with_mains (standard 1 (codes "A") (main (codes "main") ∷ main (codes "Main") ∷ []) ∷ class_module 2 (codes "B") (main (codes "Main") ∷ []) ∷ [])
    ∷ with_mains (standard 1 (codes "A") (main (codes "Main") ∷ []) ∷ standard 2 (codes "B") (main (codes "Main") ∷ []) ∷ [])
    ∷ rules_in (startup_rules (project None []))
    ∷ [] ≡ (3 ∷ []) ∷ [] ∷ (20 ∷ []) ∷ [] ∷ []
unfolding has none with_rule both reserved_names inherited_names
starts_marked = refl
