-- How an expression without a type is kept: as it is written, but each name in the spelling of its declaration. What other standard modules
-- declare, and what the source qualifies, stands behind the name of its module, and a member of an Enum without its Enum. Words of the
-- libraries, keywords and members of what has no type stay as they stand.
use Rattle.std.specs.Prelude.{ℕ, nat_eq, cond, is_some, Option, Some, None, option_map, List, [], ◌∷◌, find, slice_get}
use Rattle.up_base.specs.Names.{lower_case}
use Rattle.vb_tree.specs.BoundTree.{Ty, user, class}
use Rattle.vb_tree.specs.declared.declared.VarId.{VarId}
use Rattle.vb_tree.specs.declared.token.Suffix.{Suffix}
use Rattle.vb_tree.specs.declared.token.Suffix.TheVariants as suffix
use Rattle.vb_tree.specs.Tree.{Exp, lit, word, bracketed, me, member, with_member, with_bang, index, unary, binary, paren, new_object, bang, type_of, address_of, Args, no_args, next_arg, Given, omitted, given, Module, Project}
use Rattle.bound_tree.specs.declared.declared.ConstId.{ConstId}
use Rattle.bound_tree.specs.declared.declared.EnumDecl.{EnumDecl}
use Rattle.bound_tree.specs.declared.declared.Named.{Named}
use Rattle.bound_tree.specs.declared.declared.Named.TheVariants as named
use Rattle.bound_tree.specs.declared.declared.TypeDecl.{TypeDecl}
use Rattle.bound_tree.specs.Tree.{Variable, Constant, Procedure, Declarations, Expr}
use Rattle.bound_facts.specs.Node.{type_at}
use Rattle.name_tables.specs.declared.uses.Spelling.{Spelling}
use Rattle.name_tables.specs.declared.uses.Spelling.TheVariants as spelling
use Rattle.name_tables.specs.declared.uses.Use6.{Use6}
use Rattle.name_tables.specs.declared.uses.Use6.TheVariants as use6
use Rattle.name_tables.specs.Scopes.{class_file, found_field, found_in_enum, found_in_module, found_member, found_type}
use Rattle.expression_words.specs.declared.lookups.Lookup.{Lookup}
use Rattle.expression_words.specs.Flaws.{Typed, known, unknown}
use Rattle.expression_words.specs.Meanings.{Scope, Meaning, of_module, of_enum, err, class_id, in_module, keyword_of, kept_value, spelling_of, use_of, valued}
use Rattle.bound_exprs.specs.Resolved.{as_qualifier, as_value, meaning, with_list}

-- ---- names of declarations

abbrev pub variable_name : Option Variable → Option (List ℕ)
variable_name v = option_map (λ (x : Variable). x.name) v

abbrev pub constant_name : Option Constant → Option (List ℕ)
constant_name c = option_map (λ (x : Constant). x.name) c

-- the spelling of a declared name
abbrev pub name_of : Declarations → Named → Option (List ℕ)
name_of D (named.Var w) = variable_name (slice_get D.vars w.0)
name_of D (named.Const c) = constant_name (slice_get D.consts c.0)
name_of D (named.Proc p) = option_map (λ (x : Procedure). x.name) (slice_get D.procs p.0)
name_of D (named.Type t) = option_map (λ (x : TypeDecl). x.name) (slice_get D.types t.0)
name_of D (named.Enum e) = option_map (λ (x : EnumDecl). x.name) (slice_get D.enums e.0)

-- the name of the module of a file
abbrev pub module_name : Project → (file : ℕ) → Option (List ℕ)
module_name P file = option_map (λ (m : Module). m.name) (find (λ (m : Module). nat_eq m.file file) P.modules)

abbrev pub name_at : Declarations → Option Named → Option (List ℕ)
name_at D None = None
name_at D (Some n) = name_of D n

abbrev pub or_name : List ℕ → Option (List ℕ) → List ℕ
or_name name None = name
or_name name (Some n) = n

-- ---- words

-- how a word is spelled: as it stands, by its own name, or behind the name of its module
pub data Spelt : Type 0 where
  stands : Spelt
  alone : (name : List ℕ) → Spelt
  behind : (from name : List ℕ) → Spelt

abbrev pub alone_if : Option (List ℕ) → Spelt
alone_if None = stands
alone_if (Some name) = alone name

abbrev pub behind_if : Option (List ℕ) → Option (List ℕ) → Spelt
behind_if (Some m) (Some name) = behind m name
behind_if _ _ = stands

abbrev pub spelt_as : Declarations → Use6 → Spelt
spelt_as D (use6.Local n) = alone_if (name_of D n)
spelt_as D (use6.Own n) = alone_if (name_of D n)
spelt_as D (use6.Foreign file n) = behind_if (module_name D.project file) (name_of D n)
spelt_as D (use6.Module file) = alone_if (module_name D.project file)
spelt_as D _ = stands

-- in brackets no name is a keyword
abbrev pub as_name : List ℕ → Exp
as_name name = bracketed name suffix.Absent

abbrev pub put : Exp → Spelt → Exp
put e stands = e
put e (alone name) = as_name name
put e (behind m name) = member (as_name m) name

abbrev pub spelled_bracketed : Scope → Lookup → List ℕ → Suffix → Exp
spelled_bracketed S r name s = put (bracketed name s) (spelt_as S.declarations (use_of S r spelling.Bracketed (lower_case name)))

abbrev pub spelled_plain : Scope → Lookup → List ℕ → Suffix → Exp
spelled_plain S r name s = put (word name s) (spelt_as S.declarations (use_of S r (spelling_of s) (lower_case name)))

abbrev pub spelled_word : Scope → Lookup → List ℕ → Suffix → Exp
spelled_word S r name s = cond (is_some (keyword_of (lower_case name))) (word name s) (spelled_plain S r name s)

-- ---- members

-- what is declared behind the name of its module
abbrev pub use_name : Declarations → Use6 → Option (List ℕ)
use_name D (use6.Local n) = name_of D n
use_name D (use6.Own n) = name_of D n
use_name D (use6.Foreign file n) = name_of D n
use_name D _ = None

abbrev pub module_use : Scope → Lookup → (file : ℕ) → List ℕ → Use6
module_use S r file key = in_module S file key (found_in_module S.declarations S.site r.first file key) r.next

abbrev pub field_name : Declarations → Option VarId → Option (List ℕ)
field_name D None = None
field_name D (Some w) = variable_name (slice_get D.vars w.0)

abbrev pub field_at : Declarations → TypeDecl → Option ℕ → Option (List ℕ)
field_at D t None = None
field_at D t (Some k) = field_name D (slice_get t.fields k)

abbrev pub user_field_name : Declarations → List ℕ → Option TypeDecl → Option (List ℕ)
user_field_name D key None = None
user_field_name D key (Some t) = field_at D t (found_field D t key)

abbrev pub name_by_type : Scope → List ℕ → Ty → Option (List ℕ)
name_by_type S key (user t) = user_field_name S.declarations key (slice_get S.declarations.types t)
name_by_type S key (class c) = name_at S.declarations (found_member S.declarations S.site (class_id c) key)
name_by_type S key _ = None

-- the name of a member of an expression
abbrev pub member_name : Scope → List ℕ → Typed → Option (List ℕ)
member_name S key (known e) = name_by_type S key (type_at e)
member_name S key (unknown f) = None

abbrev pub constant_at : Declarations → Option ConstId → Option (List ℕ)
constant_at D None = None
constant_at D (Some c) = constant_name (slice_get D.consts c.0)

abbrev pub enum_member_name : Declarations → List ℕ → Option EnumDecl → Option (List ℕ)
enum_member_name D key None = None
enum_member_name D key (Some e) = constant_at D (found_in_enum D e key)

-- a name in the place of an Enum's, which may stand behind that of its module
abbrev pub in_place : Exp → List ℕ → Exp
in_place (member of enum) name = member of name
in_place _ name = as_name name

abbrev pub enum_member : Exp → List ℕ → Option (List ℕ) → Exp
enum_member of name None = member of name
enum_member of name (Some n) = in_place of n

-- a name behind what means `m` and is spelled `of`
abbrev pub spelled_member : Scope → Lookup → Meaning → (of : Exp) → List ℕ → Exp
spelled_member S r (of_module file) of name = member of (or_name name (use_name S.declarations (module_use S r file (lower_case name))))
spelled_member S r (of_enum e) of name = enum_member of name (enum_member_name S.declarations (lower_case name) (slice_get S.declarations.enums e.0))
spelled_member S r err of name = member of name
spelled_member S r m of name = member of (or_name name (member_name S (lower_case name) (valued S.declarations m)))

abbrev pub kept_member_name : Scope → List ℕ → List ℕ
kept_member_name S name = or_name name (member_name S (lower_case name) (kept_value S.kept))

abbrev pub file_name : Project → Option ℕ → Option (List ℕ)
file_name P None = None
file_name P (Some file) = module_name P file

abbrev pub class_name : Declarations → Use6 → Option (List ℕ)
class_name D (use6.Class c) = file_name D.project (class_file D c)
class_name D _ = None

abbrev pub new_name : Scope → List ℕ → List ℕ
new_name S name = or_name name (class_name S.declarations (found_type S.declarations S.site (lower_case name)))

-- ---- expressions

abbrev mutual
  pub spelled : Scope → Lookup → Exp → Exp
  spelled S r (lit l) = lit l
  spelled S r (word name s) = spelled_word S r name s
  spelled S r (bracketed name s) = spelled_bracketed S r name s
  spelled S r me = me
  spelled S r (member e name) = spelled_member S r (meaning S as_qualifier e) (spelled S as_qualifier e) name
  spelled S r (with_member name) = with_member (kept_member_name S name)
  spelled S r (with_bang name) = with_bang name
  spelled S r (index e args) = index (spelled S (with_list r) e) (spelled_args S args)
  spelled S r (unary op e) = unary op (spelled S as_value e)
  spelled S r (binary op e f) = binary op (spelled S as_value e) (spelled S as_value f)
  spelled S r (paren e) = paren (spelled S as_value e)
  spelled S r (new_object name) = new_object (new_name S name)
  spelled S r (bang e name) = bang (spelled S as_value e) name
  spelled S r (type_of e name) = type_of (spelled S as_value e) name
  spelled S r (address_of name) = address_of name

  pub spelled_args : Scope → Args → Args
  spelled_args S no_args = no_args
  spelled_args S (next_arg name marked arg rest) = next_arg name marked (spelled_given S arg) (spelled_args S rest)

  pub spelled_given : Scope → Given → Given
  spelled_given S omitted = omitted
  spelled_given S (given e) = given (spelled S as_value e)
