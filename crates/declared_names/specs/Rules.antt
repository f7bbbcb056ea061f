-- The rules that declarations break by their names alone. Each row is a test on one declaration among all of them.
use Rattle.std.specs.Prelude.{ℕ, ◌+◌, Bool, true, false, ◌||◌, ◌&&◌, not, cond, nat_eq, nat_le, Option, Some, None, List, [], ◌∷◌, map, length, filter, slice_get, codes}
use Rattle.std.specs.List.{list_any}
use Rattle.std.specs.Cmp.Lexicographic.{pointwise}
use Rattle.up_base.specs.Names.{is_same_name, lower_case}
use Rattle.vb_tree.specs.declared.declared.Owner.{Owner}
use Rattle.vb_tree.specs.declared.declared.Owner.TheVariants as owner
use Rattle.vb_tree.specs.declared.declared.ProcKind.{ProcKind}
use Rattle.vb_tree.specs.declared.declared.ProcKind.TheVariants as kind
use Rattle.vb_tree.specs.declared.declared.VarId.{VarId}
use Rattle.vb_tree.specs.declared.form_parts.Compare.TheVariants as compare
use Rattle.vb_tree.specs.declared.form_parts.DefWord.{DefWord}
use Rattle.vb_tree.specs.declared.form_parts.DefWord.TheVariants as def
use Rattle.vb_tree.specs.declared.token.Literal6.TheVariants as literal
use Rattle.vb_tree.specs.declared.token.Sign.TheVariants as sign
use Rattle.vb_tree.specs.declared.token.Token.{Token}
use Rattle.vb_tree.specs.declared.token.TokenKind.{TokenKind}
use Rattle.vb_tree.specs.declared.token.TokenKind.TheVariants as token
use Rattle.vb_tree.specs.LogicalLines.{is_word}
use Rattle.vb_tree.specs.Tree.{Form, attribute, option_compare, def_type, event_variables, opaque, Nodes, Member, alone, group, proc, Module, Project}
use Rattle.bound_tree.specs.declared.declared.EnumDecl.{EnumDecl}
use Rattle.bound_tree.specs.declared.declared.Named.{Named}
use Rattle.bound_tree.specs.declared.declared.Named.TheVariants as named
use Rattle.bound_tree.specs.declared.declared.NamedEntry.{NamedEntry}
use Rattle.bound_tree.specs.declared.declared.Scope.{Scope}
use Rattle.bound_tree.specs.declared.declared.Scope.TheVariants as scope
use Rattle.bound_tree.specs.declared.declared.TypeDecl.{TypeDecl}
use Rattle.bound_tree.specs.declared.marks.Marks.{Marks}
use Rattle.bound_tree.specs.declared.rule_set.RuleSet.{RuleSet}
use Rattle.bound_tree.specs.Labels.{Label, labels, label_at}
use Rattle.bound_tree.specs.RuleSets.{none, with_rule, with_if, both}
use Rattle.bound_tree.specs.Source.{procedures_of, code_of}
use Rattle.declared_names.specs.Declaring.{NamedVariable, NamedConstant, NamedProcedure, Lists, Head, head_of}

-- ---- a second declaration

-- whether two numbers of declarations are one
abbrev pub is_same : Named → Named → Bool
is_same (named.Var a) (named.Var b) = nat_eq a.0 b.0
is_same (named.Const a) (named.Const b) = nat_eq a.0 b.0
is_same (named.Proc a) (named.Proc b) = nat_eq a.0 b.0
is_same (named.Type a) (named.Type b) = nat_eq a.0 b.0
is_same (named.Enum a) (named.Enum b) = nat_eq a.0 b.0
is_same _ _ = false

-- whether two names are declared in one module or in one procedure
abbrev pub is_same_scope : Scope → Scope → Bool
is_same_scope (scope.Local p) (scope.Local q) = nat_eq p.0 q.0
is_same_scope (scope.Public a) (scope.Public b) = nat_eq a b
is_same_scope (scope.Public a) (scope.Private b) = nat_eq a b
is_same_scope (scope.Private a) (scope.Public b) = nat_eq a b
is_same_scope (scope.Private a) (scope.Private b) = nat_eq a b
is_same_scope _ _ = false

-- which part of a property it is
abbrev pub part_of_kind : ProcKind → Option ProcKind
part_of_kind kind.Sub = None
part_of_kind kind.Function = None
part_of_kind kind.Get = Some kind.Get
part_of_kind kind.Let = Some kind.Let
part_of_kind kind.Set = Some kind.Set

abbrev pub part_of_procedure : Option NamedProcedure → Option ProcKind
part_of_procedure None = None
part_of_procedure (Some p) = part_of_kind p.kind

abbrev pub part_of : List NamedProcedure → Named → Option ProcKind
part_of ps (named.Proc p) = part_of_procedure (slice_get ps p.0)
part_of ps _ = None

abbrev pub is_same_part : ProcKind → ProcKind → Bool
is_same_part kind.Get kind.Get = true
is_same_part kind.Let kind.Let = true
is_same_part kind.Set kind.Set = true
is_same_part _ _ = false

-- different parts of a property stand beside each other
abbrev pub are_beside : Option ProcKind → Option ProcKind → Bool
are_beside (Some a) (Some b) = not (is_same_part a b)
are_beside _ _ = false

-- whether a declared name is in the way of a declaration of this name in this scope
abbrev pub is_rival : List NamedProcedure → Scope → List ℕ → Named → NamedEntry → Bool
is_rival ps s name what e =
    is_same_scope e.scope s && is_same_name e.name name && not (are_beside (part_of ps e.named) (part_of ps what))

-- whether the first declared name that is in its way is another declaration
abbrev pub is_second : List NamedProcedure → Scope → List ℕ → Named → List NamedEntry → Bool
is_second ps s name what [] = false
is_second ps s name what (e ∷ es) = cond (is_rival ps s name what e) (not (is_same e.named what)) (is_second ps s name what es)

abbrev pub is_field_of : ℕ → Owner → Bool
is_field_of t (owner.Field u) = nat_eq u.0 t
is_field_of t _ = false

abbrev pub is_field_named : ℕ → List ℕ → NamedVariable → Bool
is_field_named t name v = is_field_of t v.owner && is_same_name v.name name

-- whether the variable k isn't the first field of its name in its Type, among variables that are numbered from i
abbrev pub is_second_field : ℕ → List ℕ → (k : ℕ) → (i : ℕ) → List NamedVariable → Bool
is_second_field t name k i [] = false
is_second_field t name k i (v ∷ vs) = cond (is_field_named t name v) (not (nat_eq i k)) (is_second_field t name k (i + 1) vs)

-- ---- names that are taken

-- whether a name is one of some words, which are given in small letters
abbrev pub is_one_of : List ℕ → List (List ℕ) → Bool
is_one_of name words = list_any (λ w. pointwise nat_eq (lower_case name) w) words

-- what each written project has beside its modules
unfoldable pub reserved_names : List (List ℕ)
reserved_names = codes "upgradesupport" ∷ codes "system" ∷ codes "microsoft" ∷ []

-- what each written class has already
unfoldable pub inherited_names : List (List ℕ)
inherited_names =
    codes "equals"
    ∷ codes "finalize"
    ∷ codes "gethashcode"
    ∷ codes "gettype"
    ∷ codes "memberwiseclone"
    ∷ codes "referenceequals"
    ∷ codes "tostring"
    ∷ codes "new"
    ∷ []

abbrev pub is_reserved : List ℕ → Bool
is_reserved name = is_one_of name reserved_names

abbrev pub is_inherited : List ℕ → Bool
is_inherited name = is_one_of name inherited_names

abbrev pub is_module_name : List Module → List ℕ → Bool
is_module_name ms name = list_any (λ (m : Module). not m.class && is_same_name m.name name) ms

abbrev pub is_class_name : List Module → List ℕ → Bool
is_class_name ms name = list_any (λ (m : Module). m.class && is_same_name m.name name) ms

-- whether the module of a file is a class module
abbrev pub is_class : List Module → ℕ → Bool
is_class ms file = list_any (λ (m : Module). m.class && nat_eq m.file file) ms

-- ---- the rules of one declaration

-- whether it breaks U20 as a declared name
abbrev pub is_taken : List Module → Lists → Scope → List ℕ → Named → Bool
is_taken ms d s name what = is_second d.procs s name what d.names || is_reserved name || is_module_name ms name

-- of a member of the module of a file
abbrev pub member_rules : List Module → Lists → ℕ → List ℕ → Named → RuleSet
member_rules ms d file name what = with_if (with_if none 20 (is_taken ms d (scope.Private file) name what)) 16 (is_inherited name)

-- of a name of a procedure's own
abbrev pub local_rules : List Module → Lists → ℕ → List ℕ → Named → RuleSet
local_rules ms d p name what = with_if none 20 (is_taken ms d (scope.Local (record { 0 = p })) name what)

abbrev pub field_rules : Lists → ℕ → List ℕ → ℕ → RuleSet
field_rules d t name k = with_if (with_if none 20 (is_second_field t name k 0 d.vars || is_reserved name)) 16 (is_inherited name)

-- of the name of the variable k by itself
abbrev pub name_rules : List Module → Lists → ℕ → List ℕ → Owner → RuleSet
name_rules ms d k name (owner.Module file) = member_rules ms d file name (named.Var (record { 0 = k }))
name_rules ms d k name (owner.Field t) = field_rules d t.0 name k
name_rules ms d k name (owner.Local p) = local_rules ms d p.0 name (named.Var (record { 0 = k }))
name_rules ms d k name (owner.Static p) = local_rules ms d p.0 name (named.Var (record { 0 = k }))
name_rules ms d k name (owner.Value p) = local_rules ms d p.0 name (named.Var (record { 0 = k }))
name_rules ms d k name (owner.Reference p) = local_rules ms d p.0 name (named.Var (record { 0 = k }))
name_rules ms d k name (owner.Answer p) = local_rules ms d p.0 name (named.Var (record { 0 = k }))

-- of the variable k by itself
abbrev pub own_rules : List Module → Lists → ℕ → NamedVariable → RuleSet
own_rules ms d k v = with_if (name_rules ms d k v.name v.owner) 18 v.param_array

abbrev pub rules_at : List Module → Lists → ℕ → Option NamedVariable → RuleSet
rules_at ms d k None = none
rules_at ms d k (Some v) = own_rules ms d k v

-- rules with those of variables
abbrev pub with_params : List Module → Lists → RuleSet → List VarId → RuleSet
with_params ms d rules [] = rules
with_params ms d rules (v ∷ vs) = with_params ms d (both rules (rules_at ms d v.0 (slice_get d.vars v.0))) vs

abbrev pub with_answer : List Module → Lists → RuleSet → Option VarId → RuleSet
with_answer ms d rules None = rules
with_answer ms d rules (Some v) = both rules (rules_at ms d v.0 (slice_get d.vars v.0))

abbrev pub is_sub : ProcKind → Bool
is_sub kind.Sub = true
is_sub _ = false

-- an initializer of a class with parameters
abbrev pub is_given_initializer : List Module → NamedProcedure → Bool
is_given_initializer ms p =
    is_class ms p.module_number && is_sub p.kind && pointwise nat_eq (lower_case p.name) (codes "class_initialize") && not (nat_eq (length p.params) 0)

-- of the name of the procedure k and of its head as a whole
abbrev pub procedure_rules : List Module → Lists → ℕ → NamedProcedure → RuleSet
procedure_rules ms d k p =
    with_if (with_if (member_rules ms d p.module_number p.name (named.Proc (record { 0 = k }))) 4 p.static) 18 (is_given_initializer ms p)

-- of the head of the procedure k, with those of its parameters and its result variable
abbrev pub head_rules : List Module → Lists → ℕ → NamedProcedure → RuleSet
head_rules ms d k p = with_answer ms d (with_params ms d (procedure_rules ms d k p) p.params) p.answer

abbrev pub rules_of_head : List Module → Lists → ℕ → Option NamedProcedure → RuleSet
rules_of_head ms d k None = none
rules_of_head ms d k (Some p) = head_rules ms d k p

-- the procedure of which it is the result variable
abbrev pub answered : Owner → Option ℕ
answered (owner.Answer p) = Some p.0
answered _ = None

abbrev pub answer_rules : List Module → Lists → ℕ → NamedVariable → Option ℕ → RuleSet
answer_rules ms d k v None = own_rules ms d k v
answer_rules ms d k v (Some p) = rules_of_head ms d p (slice_get d.procs p)

-- of the variable k; a result variable has those of its head
abbrev pub variable_rules : List Module → Lists → ℕ → NamedVariable → RuleSet
variable_rules ms d k v = answer_rules ms d k v (answered v.owner)

abbrev pub constant_name_rules : List Module → Lists → ℕ → List ℕ → Owner → RuleSet
constant_name_rules ms d k name (owner.Module file) = member_rules ms d file name (named.Const (record { 0 = k }))
constant_name_rules ms d k name (owner.Local p) = local_rules ms d p.0 name (named.Const (record { 0 = k }))
constant_name_rules ms d k name _ = none

-- of the constant k
abbrev pub constant_rules : List Module → Lists → ℕ → NamedConstant → RuleSet
constant_rules ms d k c = constant_name_rules ms d k c.name c.owner

-- of the head of the Type k, which can't have the name of a class either
abbrev pub type_rules : List Module → Lists → ℕ → TypeDecl → RuleSet
type_rules ms d k t = with_if (member_rules ms d t.module t.name (named.Type (record { 0 = k }))) 20 (is_class_name ms t.name)

-- of the head of the Enum k, which no class can have
abbrev pub enum_rules : List Module → Lists → ℕ → EnumDecl → RuleSet
enum_rules ms d k e = with_if (member_rules ms d e.module e.name (named.Enum (record { 0 = k }))) 4 (is_class ms e.module)

-- a set for each item of a list that is numbered from k
abbrev pub sets : {A : Type 0} → (ℕ → A → RuleSet) → ℕ → List A → List RuleSet
sets f k [] = []
sets f k (x ∷ xs) = f k x ∷ sets f (k + 1) xs

-- ---- labels

abbrev pub is_at : ℕ → Option ℕ → Bool
is_at i None = false
is_at i (Some j) = nat_eq i j

-- whether the label of the line i, if it has one, stands at an earlier line already; lines are numbered from 1
abbrev pub is_second_label : List (Option Label) → ℕ → Option Label → Bool
is_second_label all i None = false
is_second_label all i (Some a) = not (is_at i (label_at all a))

abbrev pub label_sets : List (Option Label) → ℕ → List (Option Label) → List RuleSet
label_sets all i [] = []
label_sets all i (l ∷ ls) = with_if none 20 (is_second_label all i l) ∷ label_sets all (i + 1) ls

-- a set for each code line of a procedure
abbrev pub line_sets : Nodes → List RuleSet
line_sets body = label_sets (labels (code_of body)) 1 (labels (code_of body))

-- ---- all of them

-- the rules that the declarations of a project break, and those that its code lines break by their labels
abbrev pub name_marks : Project → Lists → Marks
name_marks P d = record {
  lines = map line_sets (procedures_of P);
  heads = sets (head_rules P.modules d) 0 d.procs;
  vars = sets (variable_rules P.modules d) 0 d.vars;
  consts = sets (constant_rules P.modules d) 0 d.consts;
  types = sets (type_rules P.modules d) 0 d.types;
  enums = sets (enum_rules P.modules d) 0 d.enums;
}

-- ---- lines that declare nothing

abbrev pub is_equal_sign : TokenKind → Bool
is_equal_sign (token.Sign sign.Equal) = true
is_equal_sign _ = false

abbrev pub is_text : List ℕ → TokenKind → Bool
is_text name (token.Lit (literal.Str text)) = pointwise nat_eq (lower_case text) (lower_case name)
is_text name _ = false

-- whether tokens are an equality sign and a text that is the name
abbrev pub gives_name : List ℕ → List Token → Bool
gives_name name (a ∷ b ∷ []) = is_equal_sign a.kind && is_text name b.kind
gives_name name _ = false

-- whether an Attribute with these tokens gives its module another name
abbrev pub gives_other_name : List ℕ → List Token → Bool
gives_other_name name [] = false
gives_other_name name (t ∷ ts) = is_word (codes "vb_name") t.kind && not (gives_name name ts)

abbrev pub is_floating : DefWord → Bool
is_floating def.Single = true
is_floating def.Double = true
is_floating def.Date = true
is_floating _ = false

-- of a line of the module of a name: an Option, Def or Attribute line, a line with WithEvents, or one that is kept as its tokens
abbrev pub line_rules : List ℕ → Form → RuleSet
line_rules name (attribute tokens) = with_if none 20 (gives_other_name name tokens)
line_rules name (option_compare compare.Text) = with_rule none 17
line_rules name (def_type w ranges) = with_if none 1 (is_floating w)
line_rules name (event_variables w ds) = with_rule none 4
line_rules name (opaque tokens) = with_rule none 4
line_rules name _ = none

-- ---- the line of the project file that names Sub Main

abbrev pub is_main_head : Option Head → Bool
is_main_head None = false
is_main_head (Some h) = is_sub h.kind && pointwise nat_eq (lower_case h.signature.name) (codes "main")

abbrev pub is_main : Member → Bool
is_main (alone l) = false
is_main (group head lines close) = false
is_main (proc head body close) = is_main_head (head_of head.form)

-- a standard module with a Sub Main
abbrev pub has_main : Module → Bool
has_main m = not m.class && list_any is_main m.members

abbrev pub main_rules : ℕ → RuleSet
main_rules modules = with_if (with_if none 3 (nat_eq modules 0)) 20 (nat_le 2 modules)

abbrev pub start_rules : List Module → Option (ℕ × List ℕ) → RuleSet
start_rules ms None = none
start_rules ms (Some s) = main_rules (length (filter has_main ms))

abbrev pub startup_rules : Project → RuleSet
startup_rules P = start_rules P.modules P.file.startup
