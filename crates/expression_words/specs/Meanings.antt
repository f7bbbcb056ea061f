-- What names, members and argument lists mean before it is known how they are used: a value, a procedure whose value or whose part that is
-- given a value is still to be chosen, or something that only a full stop can follow.
use Rattle.std.specs.Prelude.{ℕ, zero, suc, Bool, true, false, cond, ◌&&◌, not, nat_eq, nat_lt, Option, Some, None, is_some, List, [], ◌∷◌, codes, slice_get}
use Rattle.std.specs.Cmp.Lexicographic.{pointwise}
use Rattle.std.specs.List.{list_any}
use Rattle.up_base.specs.Names.{lower_case}
use Rattle.vb_tree.specs.BoundTree.{Ty, boolean, long, str, user, class, object, variant, array, nothing}
use Rattle.vb_tree.specs.declared.bound.LibCall.{LibCall}
use Rattle.vb_tree.specs.declared.declared.ClassId.{ClassId}
use Rattle.vb_tree.specs.declared.declared.VarId.{VarId}
use Rattle.vb_tree.specs.declared.token.Suffix.{Suffix}
use Rattle.vb_tree.specs.declared.token.Suffix.TheVariants as suffix
use Rattle.vb_tree.specs.declared.value.Value6.{Value6}
use Rattle.vb_tree.specs.declared.value.Value6.TheVariants as v
use Rattle.bound_tree.specs.declared.body.Mention.{Mention}
use Rattle.bound_tree.specs.declared.body.Mention.TheVariants as mention
use Rattle.bound_tree.specs.declared.declared.ConstId.{ConstId}
use Rattle.bound_tree.specs.declared.declared.EnumDecl.{EnumDecl}
use Rattle.bound_tree.specs.declared.declared.EnumId.{EnumId}
use Rattle.bound_tree.specs.declared.declared.Named.{Named}
use Rattle.bound_tree.specs.declared.declared.Named.TheVariants as named
use Rattle.bound_tree.specs.declared.declared.TypeDecl.{TypeDecl}
use Rattle.bound_tree.specs.declared.expression.Origin.TheVariants.{Literal, Declared}
use Rattle.bound_tree.specs.declared.expression.Root.{Root}
use Rattle.bound_tree.specs.RuleSets.{none}
use Rattle.bound_tree.specs.Tree.{Variable, Constant, Procedure, Declarations, Expr, typed, Term, constant, variable, field, me, with_object, new_object, err_number, Object, no_object, of_object}
use Rattle.bound_facts.specs.Node.{type_at}
use Rattle.name_tables.specs.declared.uses.Site.{Site}
use Rattle.name_tables.specs.declared.uses.Spelling.{Spelling}
use Rattle.name_tables.specs.declared.uses.Spelling.TheVariants as spelling
use Rattle.name_tables.specs.declared.uses.Use6.{Use6}
use Rattle.name_tables.specs.declared.uses.Use6.TheVariants as use6
use Rattle.name_tables.specs.declared.uses.Wanted.{Wanted}
use Rattle.name_tables.specs.Scopes.{found, found_member, found_in_module, found_in_enum, found_field, found_type, is_plain}
use Rattle.typing_rows.specs.Conversions.{is_without_type}
use Rattle.typing_rows.specs.Library.{library_call, library_constant, constant_text, is_library_suffix}
use Rattle.typing_rows.specs.declared.library.TextConstant.{TextConstant}
use Rattle.expression_words.specs.declared.lookups.ErrMember.{ErrMember}
use Rattle.expression_words.specs.declared.lookups.ErrMember.TheVariants as err_members
use Rattle.expression_words.specs.declared.lookups.Lookup.{Lookup}
use Rattle.expression_words.specs.declared.typed.Flaw.{Flaw}
use Rattle.expression_words.specs.Flaws.{Typed, known, unknown, no_flaw, breaks, lacks, together, flaw_of}
use Rattle.expression_words.specs.Converting.{default_at}
use Rattle.expression_words.specs.Members.{value_part, type_of_variable, count_classes, class_of_file, default_of, place_of}
use Rattle.expression_words.specs.Passing.{Supplied, with_slack, called}
use Rattle.expression_words.specs.LibraryCalls.{library_called}
use Rattle.expression_words.specs.Elements.{element_of}
use Rattle.expression_words.specs.ErrStatements.{err_statement}

abbrev pub class_id : ℕ → ClassId
class_id c = record { 0 = c }

abbrev pub is_nil : List VarId → Bool
is_nil [] = true
is_nil (w ∷ ws) = false

-- ---- where an expression stands

-- what the innermost With round a line keeps
pub data Kept : Type 0 where
  no_with : Kept
  -- an object or a user type, and what it is a part of
  keeps : Ty → Root → Kept
  -- an expression without a type
  keeps_unknown : Option Mention → Kept

pub record Scope : Type 0 where
  pub declarations : Declarations
  -- what is declared without the local variables that no line declares, and the first of these that is used in later lines alone
  pub written : Declarations
  pub later : ℕ
  pub site : Site
  pub kept : Kept
  -- the rule that a word breaks that could be a variable and is declared nowhere
  pub missing : ℕ

-- ---- meanings

-- the argument list behind a procedure, if one was seen
pub data Listed : Type 0 where
  no_list : Listed
  listed : List Supplied → Listed

pub data Meaning : Type 0 where
  value : Typed → Meaning
  procedure : ℕ → (qualified : Bool) → Object → Listed → Meaning
  library_word : LibCall → Listed → Meaning
  of_module : ℕ → Meaning
  of_enum : EnumId → Meaning
  err : Meaning
  err_member : ErrMember → Listed → Meaning

abbrev pub args_in : Listed → List Supplied
args_in no_list = []
args_in (listed args) = args

abbrev pub without_value : ℕ → Meaning
without_value rule = value (unknown (breaks rule))

-- ---- declarations

abbrev pub of_variable : Ty → Mention → Term → Typed
of_variable ty m t = cond (is_without_type ty) (unknown (lacks m)) (known (typed ty t))

abbrev pub variable_value : Option Variable → VarId → (qualified : Bool) → Typed
variable_value None w qualified = unknown (breaks 3)
variable_value (Some x) w qualified = of_variable x.ty (mention.Var w) (variable w qualified)

abbrev pub constant_term : Ty → ConstId → Option Value6 → Typed
constant_term ty c None = unknown (lacks (mention.Const c))
constant_term ty c (Some x) = of_variable ty (mention.Const c) (constant x (Declared c))

abbrev pub constant_value : Option Constant → ConstId → Typed
constant_value None c = unknown (breaks 3)
constant_value (Some k) c = constant_term k.ty c k.value

abbrev pub named_meaning : Declarations → (qualified : Bool) → Named → Meaning
named_meaning D qualified (named.Var w) = value (variable_value (slice_get D.vars w.0) w qualified)
named_meaning D qualified (named.Const c) = value (constant_value (slice_get D.consts c.0) c)
named_meaning D qualified (named.Proc p) = procedure p.0 qualified no_object no_list
named_meaning D qualified (named.Type t) = without_value 3
named_meaning D qualified (named.Enum e) = of_enum e

-- ---- words

-- True, False, Nothing, Empty and Null
abbrev pub keyword_of : List ℕ → Option Typed
keyword_of key =
    cond (pointwise nat_eq key (codes "true")) (Some (known (typed boolean (constant (v.Boolean true) Literal))))
    (cond (pointwise nat_eq key (codes "false")) (Some (known (typed boolean (constant (v.Boolean false) Literal))))
    (cond (pointwise nat_eq key (codes "nothing")) (Some (known (typed nothing (constant v.Nothing Literal))))
    (cond (pointwise nat_eq key (codes "empty")) (Some (known (typed variant (constant v.Empty Literal))))
    (cond (pointwise nat_eq key (codes "null")) (Some (unknown (breaks 5))) None))))

-- the words that name types and can't be declared outside of brackets
unfoldable pub type_words : List (List ℕ)
type_words =
    codes "boolean"
    ∷ codes "byte"
    ∷ codes "currency"
    ∷ codes "date"
    ∷ codes "double"
    ∷ codes "integer"
    ∷ codes "long"
    ∷ codes "object"
    ∷ codes "single"
    ∷ codes "string"
    ∷ codes "variant"
    ∷ []

abbrev pub is_type_word : Spelling → List ℕ → Bool
is_type_word spelling.Bracketed key = false
is_type_word s key = list_any (pointwise nat_eq key) type_words

abbrev pub library_text : Option TextConstant → Meaning
library_text None = without_value 3
library_text (Some c) = value (known (typed str (constant (v.Str (constant_text c)) Literal)))

abbrev pub library_word_or_text : List ℕ → Option LibCall → Meaning
library_word_or_text name (Some f) = library_word f no_list
library_word_or_text name None = library_text (library_constant name)

-- a name of the libraries that finds no declaration
abbrev pub library_meaning : List ℕ → Suffix → Meaning
library_meaning name s =
    cond (not (is_library_suffix s)) (without_value 3) (cond (pointwise nat_eq (lower_case name) (codes "err")) err (library_word_or_text name (library_call name)))

abbrev pub use_meaning : Scope → (rule : ℕ) → List ℕ → Suffix → Use6 → Meaning
use_meaning S rule name s (use6.Local n) = named_meaning S.declarations false n
use_meaning S rule name s (use6.Own n) = named_meaning S.declarations false n
use_meaning S rule name s (use6.Foreign file n) = named_meaning S.declarations false n
use_meaning S rule name s use6.Ambiguous = without_value 20
use_meaning S rule name s (use6.Module file) = of_module file
use_meaning S rule name s (use6.Class c) = without_value 3
use_meaning S rule name s use6.Unusable = without_value 3
use_meaning S rule name s use6.Library = library_meaning name s
use_meaning S rule name s use6.Undeclared = without_value rule

abbrev pub spelling_of : Suffix → Spelling
spelling_of suffix.Absent = spelling.Plain
spelling_of s = spelling.Suffixed

abbrev pub is_undeclared : Use6 → Bool
is_undeclared use6.Undeclared = true
is_undeclared _ = false

abbrev pub or_use : Use6 → Use6 → Use6
or_use u w = cond (is_undeclared u) w u

-- a local variable that only later lines use
abbrev pub is_later : ℕ → Use6 → Bool
is_later first (use6.Local (named.Var v)) = not (nat_lt v.0 first)
is_later first _ = false

-- what a word stands for as one thing: a variable that no line declares is there from the line of its first use on
abbrev pub use_as : Scope → Wanted → Spelling → List ℕ → Use6
use_as S w s key = unless_later (found S.declarations S.site w s key)
  where
    unless_later : Use6 → Use6
    unless_later u = cond (is_later S.later u) (found S.written S.site w s key) u

abbrev pub or_found : Scope → Spelling → List ℕ → Use6 → Option Wanted → Use6
or_found S s key u None = u
or_found S s key u (Some w) = or_use u (use_as S w s key)

-- what a word stands for: what is looked for first, and where that is declared nowhere, what is looked for next
abbrev pub use_of : Scope → Lookup → Spelling → List ℕ → Use6
use_of S r s key = or_found S s key (use_as S r.first s key) r.next

-- a word that could be a variable, and isn't declared
abbrev pub missing_rule : Scope → Lookup → Spelling → List ℕ → ℕ
missing_rule S r s key = cond (is_plain r.first && not (is_type_word s key)) S.missing 3

abbrev pub is_floating_suffix : Suffix → Bool
is_floating_suffix suffix.Single = true
is_floating_suffix suffix.Double = true
is_floating_suffix _ = false

-- a word with a suffix of a floating type, whatever it stands for
abbrev pub with_suffix : Suffix → Meaning → Meaning
with_suffix s m = cond (is_floating_suffix s) (without_value 1) m

abbrev pub declared_word : Scope → Lookup → Spelling → List ℕ → Suffix → Meaning
declared_word S r how name s =
    with_suffix s (use_meaning S (missing_rule S r how (lower_case name)) name s (use_of S r how (lower_case name)))

abbrev pub keyword_or_declared : Scope → Lookup → List ℕ → Suffix → Option Typed → Meaning
keyword_or_declared S r name s (Some t) = value t
keyword_or_declared S r name s None = declared_word S r (spelling_of s) name s

abbrev pub word_meaning : Scope → Lookup → List ℕ → Suffix → Meaning
word_meaning S r name s = keyword_or_declared S r name s (keyword_of (lower_case name))

-- a word in brackets is never a keyword
abbrev pub bracketed_meaning : Scope → Lookup → List ℕ → Suffix → Meaning
bracketed_meaning S r name s = declared_word S r spelling.Bracketed name s

-- ---- values

-- an expression by itself: a procedure is called without arguments, a module or an Enum is none
abbrev pub valued : Declarations → Meaning → Typed
valued D (value t) = t
valued D (procedure p qualified of args) = called D p qualified of (args_in args)
valued D (library_word f args) = library_called D f (args_in args)
valued D (of_module file) = unknown (breaks 3)
valued D (of_enum e) = unknown (breaks 3)
valued D err = unknown (breaks 19)
valued D (err_member m args) = err_statement D m (args_in args)

-- ---- members

-- the field of a number of an expression, which this variable declares
abbrev pub field_of_type : Declarations → Expr → ℕ → VarId → Ty → Typed
field_of_type D e k w ty = of_variable ty (mention.Var w) (field e k)

abbrev pub field_at : Declarations → Expr → ℕ → Option VarId → Typed
field_at D e k None = unknown (breaks 3)
field_at D e k (Some w) = field_of_type D e k w (type_of_variable D w)

abbrev pub class_field : Declarations → Expr → VarId → Option ℕ → Typed
class_field D e w None = unknown (breaks 3)
class_field D e w (Some k) = field_of_type D e k w (type_of_variable D w)

abbrev pub field_found : Declarations → Expr → TypeDecl → Option ℕ → Typed
field_found D e t None = unknown (breaks 3)
field_found D e t (Some k) = field_at D e k (slice_get t.fields k)

abbrev pub user_field : Declarations → Expr → List ℕ → Option TypeDecl → Typed
user_field D e key None = unknown (breaks 3)
user_field D e key (Some t) = field_found D e t (found_field D t key)

abbrev pub object_named : Declarations → (class : ℕ) → Expr → Named → Meaning
object_named D c e (named.Var w) = value (class_field D e w (place_of D c w.0))
object_named D c e (named.Proc p) = procedure p.0 false (of_object e) no_list
object_named D c e (named.Const k) = without_value 3
object_named D c e (named.Type t) = without_value 3
object_named D c e (named.Enum k) = without_value 3

abbrev pub object_member : Declarations → (class : ℕ) → Expr → Option Named → Meaning
object_member D c e None = without_value 3
object_member D c e (Some n) = object_named D c e n

-- a member of a bound expression, by the type that the expression has
abbrev pub member_by_type : Scope → Expr → List ℕ → Ty → Meaning
member_by_type S e key (user t) = value (user_field S.declarations e key (slice_get S.declarations.types t))
member_by_type S e key (class c) = object_member S.declarations c e (found_member S.declarations S.site (class_id c) key)
member_by_type S e key object = without_value 6
member_by_type S e key variant = without_value 6
member_by_type S e key _ = without_value 3

abbrev pub member_of : Scope → List ℕ → Typed → Meaning
member_of S key (known e) = member_by_type S e key (type_at e)
member_of S key (unknown f) = value (unknown f)

abbrev pub in_module : Scope → ℕ → List ℕ → Use6 → Option Wanted → Use6
in_module S file key u None = u
in_module S file key u (Some w) = or_use u (found_in_module S.declarations S.site w file key)

-- a declaration behind the name of its module
abbrev pub qualified_meaning : Declarations → Use6 → Meaning
qualified_meaning D (use6.Local n) = named_meaning D true n
qualified_meaning D (use6.Own n) = named_meaning D true n
qualified_meaning D (use6.Foreign file n) = named_meaning D true n
qualified_meaning D _ = without_value 3

abbrev pub constant_found : Declarations → Option ConstId → Meaning
constant_found D None = without_value 3
constant_found D (Some c) = value (constant_value (slice_get D.consts c.0) c)

abbrev pub enum_member_of : Declarations → List ℕ → Option EnumDecl → Meaning
enum_member_of D key None = without_value 3
enum_member_of D key (Some e) = constant_found D (found_in_enum D e key)

abbrev pub err_member_of : List ℕ → Meaning
err_member_of key =
    cond (pointwise nat_eq key (codes "number")) (value (known (typed long err_number)))
    (cond (pointwise nat_eq key (codes "raise")) (err_member err_members.Raise no_list)
    (cond (pointwise nat_eq key (codes "clear")) (err_member err_members.Clear no_list) (without_value 19)))

abbrev pub member_key : Scope → Lookup → Meaning → List ℕ → Meaning
member_key S r (of_module file) key = qualified_meaning S.declarations (in_module S file key (found_in_module S.declarations S.site r.first file key) r.next)
member_key S r (of_enum e) key = enum_member_of S.declarations key (slice_get S.declarations.enums e.0)
member_key S r err key = err_member_of key
member_key S r m key = member_of S key (valued S.declarations m)

-- a name behind a full stop
abbrev pub member_meaning : Scope → Lookup → Meaning → List ℕ → Meaning
member_meaning S r m name = member_key S r m (lower_case name)

-- ---- argument lists

abbrev pub is_empty : List Supplied → Bool
is_empty [] = true
is_empty (a ∷ rest) = false

-- an argument list behind what has none
abbrev pub without_list : ℕ → List Supplied → Meaning
without_list rule args = value (unknown (with_slack (breaks rule) args))

abbrev pub behind_class : (ℕ → Object → Meaning) → Expr → List Supplied → Option ℕ → Meaning
behind_class next e args None = without_list 6 args
behind_class next e args (Some p) = next p (of_object e)

-- behind an array it stands for an element; the empty one for the array
abbrev pub array_list : Declarations → Expr → List Supplied → Typed
array_list D e args = cond (is_empty args) (known e) (element_of D e args)

-- behind an object it is that of its default member, for which `next` stands
abbrev pub list_by_type : (ℕ → Object → Meaning) → Declarations → Expr → List Supplied → Ty → Meaning
list_by_type next D e args (array ty rank) = value (array_list D e args)
list_by_type next D e args (class c) = behind_class next e args (default_of D c)
list_by_type next D e args object = without_list 6 args
list_by_type next D e args variant = without_list 6 args
list_by_type next D e args _ = without_list 3 args

abbrev pub list_behind : (ℕ → Object → Meaning) → Declarations → Typed → List Supplied → Meaning
list_behind next D (known e) args = list_by_type next D e args (type_at e)
list_behind next D (unknown f) args = value (unknown (with_slack f args))

abbrev pub has_default : Declarations → Ty → Bool
has_default D ty = is_some (default_at D ty)

abbrev pub gives_default : Declarations → Option Procedure → Bool
gives_default D None = false
gives_default D (Some q) = is_nil q.params && has_default D q.result

abbrev pub gives_list_by : Declarations → Option ℕ → Bool
gives_list_by D None = false
gives_list_by D (Some p) = gives_default D (slice_get D.procs p)

-- a procedure without parameters that gives an object with a default member
abbrev pub gives_list : Declarations → ℕ → Bool
gives_list D p = gives_list_by D (value_part D p)

-- an argument list behind a procedure; where it takes none and gives an object with a default member, it is that of the default
-- member, along at most so many of them
abbrev pub procedure_list : Declarations → ℕ → ℕ → (qualified : Bool) → Object → List Supplied → Meaning
procedure_list D zero p qualified of args = cond (not (is_empty args) && gives_list D p) (without_list 6 args) (procedure p qualified of (listed args))
procedure_list D (suc n) p qualified of args =
    cond (not (is_empty args) && gives_list D p)
    (list_behind (λ (q : ℕ) (o : Object). procedure_list D n q false o args) D (called D p qualified of []) args)
    (procedure p qualified of (listed args))

abbrev pub value_list : Declarations → Typed → List Supplied → Meaning
value_list D t args = list_behind (λ (q : ℕ) (o : Object). procedure_list D (count_classes D) q false o args) D t args

abbrev pub behind_err_member : ErrMember → Listed → List Supplied → Meaning
behind_err_member m no_list args = err_member m (listed args)
behind_err_member m (listed given) args = value (unknown (with_slack (with_slack (breaks 19) given) args))

-- an argument list behind an expression
abbrev pub list_meaning : Declarations → Meaning → List Supplied → Meaning
list_meaning D (value t) args = value_list D t args
list_meaning D (procedure p qualified of no_list) args = procedure_list D (count_classes D) p qualified of args
list_meaning D (procedure p qualified of (listed given)) args = value_list D (called D p qualified of given) args
list_meaning D (library_word f no_list) args = library_word f (listed args)
list_meaning D (library_word f (listed given)) args = value_list D (library_called D f given) args
list_meaning D (of_module file) args = without_list 3 args
list_meaning D (of_enum e) args = without_list 3 args
list_meaning D err args = without_list 19 args
list_meaning D (err_member m given) args = behind_err_member m given args

-- ---- single words

abbrev pub me_of : Option ℕ → Typed
me_of None = unknown (breaks 3)
me_of (Some c) = known (typed (class c) me)

-- Me, which a standard module has not
abbrev pub me_value : Scope → Typed
me_value S = me_of (class_of_file S.declarations S.site.file)

-- what the innermost With keeps
abbrev pub kept_value : Kept → Typed
kept_value no_with = unknown (breaks 3)
kept_value (keeps ty r) = known (typed ty (with_object r))
kept_value (keeps_unknown m) = unknown (record { rules = none; cause = m })

abbrev pub new_of : Use6 → Typed
new_of (use6.Class c) = known (typed (class c.0) (new_object c))
new_of use6.Ambiguous = unknown (breaks 20)
new_of _ = unknown (breaks 3)

abbrev pub new_value : Scope → List ℕ → Typed
new_value S name = new_of (found_type S.declarations S.site (lower_case name))

-- a type behind Is of TypeOf: a type word breaks nothing
abbrev pub type_flaw_of : Use6 → Flaw
type_flaw_of use6.Ambiguous = breaks 20
type_flaw_of use6.Undeclared = breaks 3
type_flaw_of _ = no_flaw

abbrev pub type_flaw : Scope → List ℕ → Flaw
type_flaw S key = cond (list_any (pointwise nat_eq key) type_words) no_flaw (type_flaw_of (found_type S.declarations S.site key))

abbrev pub type_test : Scope → Typed → List ℕ → Typed
type_test S t name = unknown (together (together (breaks 2) (flaw_of t)) (type_flaw S (lower_case name)))
