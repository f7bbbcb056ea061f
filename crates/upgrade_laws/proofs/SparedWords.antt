-- What names, members, argument lists and so all expressions break is none of the rules on properties.
use Rattle.std.proofs.Common.{◌≡◌, ℕ, zero, suc, Bool, true, false, cond, codes, List, [], Option, Some, None, refl, nat_eq}
use Rattle.std.specs.Prelude.{◌&&◌, not, slice_get}
use Rattle.std.specs.Cmp.Lexicographic.{pointwise}
use Rattle.std.specs.List.{list_any}
use Rattle.up_base.specs.Names.{lower_case}
use Rattle.vb_tree.specs.BoundTree.{Ty, user, class, object, variant, array}
use Rattle.vb_tree.specs.declared.bound.LibCall.{LibCall}
use Rattle.vb_tree.specs.declared.declared.VarId.{VarId}
use Rattle.vb_tree.specs.declared.token.Suffix.{Suffix}
use Rattle.vb_tree.specs.declared.value.Value6.{Value6}
use Rattle.vb_tree.specs.Tree.{Exp, lit, word, bracketed, me, member, with_member, with_bang, index, unary, binary, paren, new_object, bang, type_of, address_of, Args, no_args, next_arg, Given, omitted}
use Rattle.vb_tree.specs.Tree as source
use Rattle.bound_tree.specs.declared.body.Mention.{Mention}
use Rattle.bound_tree.specs.declared.body.Mention.TheVariants as mention
use Rattle.bound_tree.specs.declared.declared.ConstId.{ConstId}
use Rattle.bound_tree.specs.declared.declared.EnumDecl.{EnumDecl}
use Rattle.bound_tree.specs.declared.declared.Named.{Named}
use Rattle.bound_tree.specs.declared.declared.Named.TheVariants as named
use Rattle.bound_tree.specs.declared.declared.TypeDecl.{TypeDecl}
use Rattle.bound_tree.specs.declared.expression.Origin.TheVariants.{Declared}
use Rattle.bound_tree.specs.Tree.{Variable, Constant, Declarations, Expr, typed, Term, constant, variable, field, Object, of_object}
use Rattle.bound_facts.specs.Node.{type_at}
use Rattle.name_tables.specs.declared.uses.Spelling.{Spelling}
use Rattle.name_tables.specs.declared.uses.Spelling.TheVariants as spelling
use Rattle.name_tables.specs.declared.uses.Use6.{Use6}
use Rattle.name_tables.specs.declared.uses.Use6.TheVariants as use6
use Rattle.name_tables.specs.Scopes.{found_member, found_in_module, found_in_enum, found_field, found_type, is_plain}
use Rattle.typing_rows.specs.Conversions.{is_without_type}
use Rattle.typing_rows.specs.Library.{library_call, library_constant, is_library_suffix}
use Rattle.typing_rows.specs.declared.library.TextConstant.{TextConstant}
use Rattle.expression_words.specs.declared.lookups.Lookup.{Lookup}
use Rattle.expression_words.specs.Flaws as flaws
use Rattle.expression_words.specs.Flaws.{Typed, known, no_flaw, breaks, lacks, together, flaw_of, flawed_by}
use Rattle.expression_words.specs.Elements.{element_of}
use Rattle.expression_words.specs.LibraryCalls.{library_called}
use Rattle.expression_words.specs.Members.{type_of_variable, count_classes, class_of_file, default_of, place_of}
use Rattle.expression_words.specs.Passing.{Supplied, with_slack, called}
use Rattle.expression_words.specs.Meanings.{class_id, Kept, no_with, keeps, keeps_unknown, Scope, Listed, no_list, listed, Meaning, value, procedure, library_word, of_module, of_enum, err, err_member, args_in, without_value, of_variable, variable_value, constant_term, constant_value, named_meaning, keyword_of, library_text, library_word_or_text, library_meaning, use_meaning, use_of, is_type_word, missing_rule, is_floating_suffix, declared_word, keyword_or_declared, spelling_of, valued, field_of_type, field_at, class_field, field_found, user_field, object_member, member_by_type, member_of, in_module, qualified_meaning, constant_found, enum_member_of, err_member_of, member_key, is_empty, without_list, behind_class, list_by_type, list_behind, gives_list, procedure_list, value_list, list_meaning, me_of, kept_value, new_of, type_flaw_of, type_flaw, type_test, type_words}
use Rattle.bound_exprs.specs.Resolved.{as_value, as_qualifier, with_list, meaning, supplied, value_in, resolved}
use Rattle.upgrade_laws.proofs.SparedArguments.{HasSparedValue, AreSupplied, slack_kept, rule_with_slack, called_spared, library_spared, element_spared, err_spared}
use Rattle.upgrade_laws.proofs.SparedRules.{SparesShape, none_spares, rule_spares, both_spare, IsSpared, flaw_spared, either, literal_spared, binary_spared, unary_spared}

-- ---- what is meant

abbrev AreListed : Listed → Type 0
AreListed no_list = Unit {0}
AreListed (listed args) = AreSupplied args

abbrev HasMeaning : Meaning → Type 0
HasMeaning (value t) = IsSpared t
HasMeaning (procedure p qualified of args) = AreListed args
HasMeaning (library_word f args) = AreListed args
HasMeaning (err_member m args) = AreListed args
HasMeaning (of_module file) = Unit {0}
HasMeaning (of_enum e) = Unit {0}
HasMeaning err = Unit {0}

either_meaning : (test : Bool) (m n : Meaning) → HasMeaning m → HasMeaning n → HasMeaning (cond test m n)
either_meaning true m n h k = h
either_meaning false m n h k = k

given_args : (args : Listed) → AreListed args → AreSupplied (args_in args)
given_args no_list h = tt
given_args (listed args) h = h

-- ---- declarations

declared_spared : (ty : Ty) (m : Mention) (t : Term) → IsSpared (of_variable ty m t)
declared_spared ty m t = either (is_without_type ty) (flaws.unknown (lacks m)) (known (typed ty t)) none_spares tt

variable_spared : (o : Option Variable) (w : VarId) (qualified : Bool) → IsSpared (variable_value o w qualified)
variable_spared None w qualified = rule_spares 3 refl
variable_spared (Some x) w qualified = declared_spared x.ty (mention.Var w) (variable w qualified)

constant_by : (ty : Ty) (c : ConstId) (o : Option Value6) → IsSpared (constant_term ty c o)
constant_by ty c None = none_spares
constant_by ty c (Some x) = declared_spared ty (mention.Const c) (constant x (Declared c))

constant_spared : (o : Option Constant) (c : ConstId) → IsSpared (constant_value o c)
constant_spared None c = rule_spares 3 refl
constant_spared (Some k) c = constant_by k.ty c k.value

named_spared : (D : Declarations) (qualified : Bool) (n : Named) → HasMeaning (named_meaning D qualified n)
named_spared D qualified (named.Var w) = variable_spared (slice_get D.vars w.0) w qualified
named_spared D qualified (named.Const c) = constant_spared (slice_get D.consts c.0) c
named_spared D qualified (named.Proc p) = tt
named_spared D qualified (named.Type t) = rule_spares 3 refl
named_spared D qualified (named.Enum e) = tt

-- ---- words

abbrev OnTyped : Option Typed → Type 0
OnTyped None = Unit {0}
OnTyped (Some t) = IsSpared t

either_typed : (test : Bool) (t : Typed) (o : Option Typed) → IsSpared t → OnTyped o → OnTyped (cond test (Some t) o)
either_typed true t o h k = h
either_typed false t o h k = k

keyword_spared : (key : List ℕ) → OnTyped (keyword_of key)
keyword_spared key =
    either_typed (pointwise nat_eq key (codes "true")) _ _ tt
    (either_typed (pointwise nat_eq key (codes "false")) _ _ tt
    (either_typed (pointwise nat_eq key (codes "nothing")) _ _ tt
    (either_typed (pointwise nat_eq key (codes "empty")) _ _ tt
    (either_typed (pointwise nat_eq key (codes "null")) _ _ (rule_spares 5 refl) tt))))

text_spared : (o : Option TextConstant) → HasMeaning (library_text o)
text_spared None = rule_spares 3 refl
text_spared (Some c) = tt

library_word_spared : (name : List ℕ) (o : Option LibCall) → HasMeaning (library_word_or_text name o)
library_word_spared name (Some f) = tt
library_word_spared name None = text_spared (library_constant name)

library_meant : (name : List ℕ) (s : Suffix) → HasMeaning (library_meaning name s)
library_meant name s =
    either_meaning (not (is_library_suffix s)) (without_value 3)
    (cond (pointwise nat_eq (lower_case name) (codes "err")) err (library_word_or_text name (library_call name))) (rule_spares 3 refl)
    (either_meaning (pointwise nat_eq (lower_case name) (codes "err")) err (library_word_or_text name (library_call name)) tt
    (library_word_spared name (library_call name)))

-- a name that isn't found breaks none of them either
abbrev pub IsOtherRule : ℕ → Type 0
IsOtherRule rule = nat_eq 7 rule ≡ false

use_spared : (S : Scope) (rule : ℕ) → IsOtherRule rule → (name : List ℕ) (s : Suffix) (u : Use6) → HasMeaning (use_meaning S rule name s u)
use_spared S rule r name s (use6.Local n) = named_spared S.declarations false n
use_spared S rule r name s (use6.Own n) = named_spared S.declarations false n
use_spared S rule r name s (use6.Foreign file n) = named_spared S.declarations false n
use_spared S rule r name s use6.Ambiguous = rule_spares 20 refl
use_spared S rule r name s (use6.Module file) = tt
use_spared S rule r name s (use6.Class k) = rule_spares 3 refl
use_spared S rule r name s use6.Unusable = rule_spares 3 refl
use_spared S rule r name s use6.Library = library_meant name s
use_spared S rule r name s use6.Undeclared = rule_spares rule r

missing_spared : (S : Scope) → IsOtherRule S.missing → (r : Lookup) (how : Spelling) (key : List ℕ) → IsOtherRule (missing_rule S r how key)
missing_spared S c r how key = by (is_plain r.first && not (is_type_word how key))
  where
    by : (b : Bool) → IsOtherRule (cond b S.missing 3)
    by true = c
    by false = refl

word_spared : (S : Scope) → IsOtherRule S.missing → (r : Lookup) (how : Spelling) (name : List ℕ) (s : Suffix) → HasMeaning (declared_word S r how name s)
word_spared S c r how name s =
    let rule = missing_rule S r how (lower_case name) in
    let u = use_of S r how (lower_case name) in
    either_meaning (is_floating_suffix s) (without_value 1) (use_meaning S rule name s u) (rule_spares 1 refl)
    (use_spared S rule (missing_spared S c r how (lower_case name)) name s u)

keyed_spared : (S : Scope) → IsOtherRule S.missing → (r : Lookup) (name : List ℕ) (s : Suffix) (o : Option Typed) → OnTyped o
    → HasMeaning (keyword_or_declared S r name s o)
keyed_spared S c r name s (Some t) h = h
keyed_spared S c r name s None h = word_spared S c r (spelling_of s) name s

-- ---- values

valued_spared : (D : Declarations) (m : Meaning) → HasMeaning m → IsSpared (valued D m)
valued_spared D (value t) h = h
valued_spared D (procedure p qualified of args) h = called_spared D p qualified of (args_in args) (given_args args h)
valued_spared D (library_word f args) h = library_spared D f (args_in args) (given_args args h)
valued_spared D (of_module file) h = rule_spares 3 refl
valued_spared D (of_enum e) h = rule_spares 3 refl
valued_spared D err h = rule_spares 19 refl
valued_spared D (err_member m args) h = err_spared D m (args_in args) (given_args args h)

-- ---- members

field_spared : (D : Declarations) (e : Expr) (k : ℕ) (w : VarId) → IsSpared (field_of_type D e k w (type_of_variable D w))
field_spared D e k w = declared_spared (type_of_variable D w) (mention.Var w) (field e k)

field_at_spared : (D : Declarations) (e : Expr) (k : ℕ) (o : Option VarId) → IsSpared (field_at D e k o)
field_at_spared D e k None = rule_spares 3 refl
field_at_spared D e k (Some w) = field_spared D e k w

class_field_spared : (D : Declarations) (e : Expr) (w : VarId) (o : Option ℕ) → IsSpared (class_field D e w o)
class_field_spared D e w None = rule_spares 3 refl
class_field_spared D e w (Some k) = field_spared D e k w

found_spared : (D : Declarations) (e : Expr) (t : TypeDecl) (o : Option ℕ) → IsSpared (field_found D e t o)
found_spared D e t None = rule_spares 3 refl
found_spared D e t (Some k) = field_at_spared D e k (slice_get t.fields k)

user_spared : (D : Declarations) (e : Expr) (key : List ℕ) (o : Option TypeDecl) → IsSpared (user_field D e key o)
user_spared D e key None = rule_spares 3 refl
user_spared D e key (Some t) = found_spared D e t (found_field D t key)

object_spared : (D : Declarations) (c : ℕ) (e : Expr) (o : Option Named) → HasMeaning (object_member D c e o)
object_spared D c e None = rule_spares 3 refl
object_spared D c e (Some (named.Var w)) = class_field_spared D e w (place_of D c w.0)
object_spared D c e (Some (named.Proc p)) = tt
object_spared D c e (Some (named.Const k)) = rule_spares 3 refl
object_spared D c e (Some (named.Type t)) = rule_spares 3 refl
object_spared D c e (Some (named.Enum k)) = rule_spares 3 refl

typed_member : (S : Scope) (e : Expr) (key : List ℕ) (ty : Ty) → HasMeaning (member_by_type S e key ty)
typed_member S e key (user t) = user_spared S.declarations e key (slice_get S.declarations.types t)
typed_member S e key (class k) = object_spared S.declarations k e (found_member S.declarations S.site (class_id k) key)
typed_member S e key object = rule_spares 6 refl
typed_member S e key variant = rule_spares 6 refl
typed_member S e key _ = rule_spares 3 refl

member_spared : (S : Scope) (key : List ℕ) (t : Typed) → IsSpared t → HasMeaning (member_of S key t)
member_spared S key (known e) h = typed_member S e key (type_at e)
member_spared S key (flaws.unknown f) h = h

qualified_spared : (D : Declarations) (u : Use6) → HasMeaning (qualified_meaning D u)
qualified_spared D (use6.Local n) = named_spared D true n
qualified_spared D (use6.Own n) = named_spared D true n
qualified_spared D (use6.Foreign file n) = named_spared D true n
qualified_spared D _ = rule_spares 3 refl

enum_constant : (D : Declarations) (o : Option ConstId) → HasMeaning (constant_found D o)
enum_constant D None = rule_spares 3 refl
enum_constant D (Some c) = constant_spared (slice_get D.consts c.0) c

enum_spared : (D : Declarations) (key : List ℕ) (o : Option EnumDecl) → HasMeaning (enum_member_of D key o)
enum_spared D key None = rule_spares 3 refl
enum_spared D key (Some e) = enum_constant D (found_in_enum D e key)

err_member_spared : (key : List ℕ) → HasMeaning (err_member_of key)
err_member_spared key =
    either_meaning (pointwise nat_eq key (codes "number")) _ _ tt
    (either_meaning (pointwise nat_eq key (codes "raise")) _ _ tt
    (either_meaning (pointwise nat_eq key (codes "clear")) _ _ tt (rule_spares 19 refl)))

member_meant : (S : Scope) (r : Lookup) (m : Meaning) (key : List ℕ) → HasMeaning m → HasMeaning (member_key S r m key)
member_meant S r (of_module file) key h =
    qualified_spared S.declarations (in_module S file key (found_in_module S.declarations S.site r.first file key) r.next)
member_meant S r (of_enum e) key h = enum_spared S.declarations key (slice_get S.declarations.enums e.0)
member_meant S r err key h = err_member_spared key
member_meant S r (value t) key h = member_spared S key t h
member_meant S r (procedure p qualified of args) key h =
    member_spared S key (called S.declarations p qualified of (args_in args)) (valued_spared S.declarations (procedure p qualified of args) h)
member_meant S r (library_word f args) key h =
    member_spared S key (library_called S.declarations f (args_in args)) (valued_spared S.declarations (library_word f args) h)
member_meant S r (err_member m args) key h =
    member_spared S key (valued S.declarations (err_member m args)) (valued_spared S.declarations (err_member m args) h)

-- ---- argument lists

class_list : (next : ℕ → Object → Meaning) → ((p : ℕ) (o : Object) → HasMeaning (next p o)) → (e : Expr) (args : List Supplied) → AreSupplied args
    → (o : Option ℕ) → HasMeaning (behind_class next e args o)
class_list next n e args h None = rule_with_slack 6 args (rule_spares 6 refl) h
class_list next n e args h (Some p) = n p (of_object e)

typed_list : (next : ℕ → Object → Meaning) → ((p : ℕ) (o : Object) → HasMeaning (next p o)) → (D : Declarations) (e : Expr) (args : List Supplied)
    → AreSupplied args → (ty : Ty) → HasMeaning (list_by_type next D e args ty)
typed_list next n D e args h (array ty rank) = either (is_empty args) (known e) (element_of D e args) tt (element_spared D e args h)
typed_list next n D e args h (class c) = class_list next n e args h (default_of D c)
typed_list next n D e args h object = rule_with_slack 6 args (rule_spares 6 refl) h
typed_list next n D e args h variant = rule_with_slack 6 args (rule_spares 6 refl) h
typed_list next n D e args h _ = rule_with_slack 3 args (rule_spares 3 refl) h

list_spared : (next : ℕ → Object → Meaning) → ((p : ℕ) (o : Object) → HasMeaning (next p o)) → (D : Declarations) (t : Typed) (args : List Supplied)
    → IsSpared t → AreSupplied args → HasMeaning (list_behind next D t args)
list_spared next n D (known e) args h k = typed_list next n D e args k (type_at e)
list_spared next n D (flaws.unknown f) args h k = slack_kept f args h k

procedure_spared : (D : Declarations) (n p : ℕ) (qualified : Bool) (of : Object) (args : List Supplied) → AreSupplied args
    → HasMeaning (procedure_list D n p qualified of args)
procedure_spared D zero p qualified of args h =
    either_meaning (not (is_empty args) && gives_list D p) (without_list 6 args) (procedure p qualified of (listed args))
    (rule_with_slack 6 args (rule_spares 6 refl) h) h
procedure_spared D (suc n) p qualified of args h =
    either_meaning (not (is_empty args) && gives_list D p)
    (list_behind (λ (q : ℕ) (o : Object). procedure_list D n q false o args) D (called D p qualified of []) args) (procedure p qualified of (listed args))
    (list_spared (λ (q : ℕ) (o : Object). procedure_list D n q false o args) (λ q o. procedure_spared D n q false o args h) D (called D p qualified of []) args
    (called_spared D p qualified of [] tt) h) h

value_list_spared : (D : Declarations) (t : Typed) (args : List Supplied) → IsSpared t → AreSupplied args → HasMeaning (value_list D t args)
value_list_spared D t args h k =
    list_spared (λ (q : ℕ) (o : Object). procedure_list D (count_classes D) q false o args) (λ q o. procedure_spared D (count_classes D) q false o args k) D t
    args h k

list_meant : (D : Declarations) (m : Meaning) (args : List Supplied) → HasMeaning m → AreSupplied args → HasMeaning (list_meaning D m args)
list_meant D (value t) args h k = value_list_spared D t args h k
list_meant D (procedure p qualified of no_list) args h k = procedure_spared D (count_classes D) p qualified of args k
list_meant D (procedure p qualified of (listed before)) args h k =
    value_list_spared D (called D p qualified of before) args (called_spared D p qualified of before h) k
list_meant D (library_word f no_list) args h k = k
list_meant D (library_word f (listed before)) args h k = value_list_spared D (library_called D f before) args (library_spared D f before h) k
list_meant D (of_module file) args h k = rule_with_slack 3 args (rule_spares 3 refl) k
list_meant D (of_enum e) args h k = rule_with_slack 3 args (rule_spares 3 refl) k
list_meant D err args h k = rule_with_slack 19 args (rule_spares 19 refl) k
list_meant D (err_member m no_list) args h k = k
list_meant D (err_member m (listed before)) args h k =
    slack_kept (with_slack (breaks 19) before) args (rule_with_slack 19 before (rule_spares 19 refl) h) k

-- ---- single words

me_spared : (o : Option ℕ) → IsSpared (me_of o)
me_spared None = rule_spares 3 refl
me_spared (Some c) = tt

kept_spared : (k : Kept) → IsSpared (kept_value k)
kept_spared no_with = rule_spares 3 refl
kept_spared (keeps ty r) = tt
kept_spared (keeps_unknown m) = none_spares

new_spared : (u : Use6) → IsSpared (new_of u)
new_spared (use6.Class c) = tt
new_spared use6.Ambiguous = rule_spares 20 refl
new_spared _ = rule_spares 3 refl

flawed_spared : (rule : ℕ) (t : Typed) → IsOtherRule rule → IsSpared t → IsSpared (flawed_by rule t)
flawed_spared rule t r h = both_spare (breaks rule).rules (flaw_of t).rules (rule_spares rule r) (flaw_spared t h)

named_type_spares : (u : Use6) → SparesShape (type_flaw_of u).rules
named_type_spares use6.Ambiguous = rule_spares 20 refl
named_type_spares use6.Undeclared = rule_spares 3 refl
named_type_spares _ = none_spares

type_flaw_spares : (S : Scope) (key : List ℕ) → SparesShape (type_flaw S key).rules
type_flaw_spares S key = by (list_any (pointwise nat_eq key) type_words)
  where
    by : (b : Bool) → SparesShape (cond b no_flaw (type_flaw_of (found_type S.declarations S.site key))).rules
    by true = none_spares
    by false = named_type_spares (found_type S.declarations S.site key)

test_spared : (S : Scope) (t : Typed) (name : List ℕ) → IsSpared t → IsSpared (type_test S t name)
test_spared S t name h =
    both_spare (together (breaks 2) (flaw_of t)).rules (type_flaw S (lower_case name)).rules
    (both_spare (breaks 2).rules (flaw_of t).rules (rule_spares 2 refl) (flaw_spared t h)) (type_flaw_spares S (lower_case name))

-- ---- expressions

mutual
  meaning_spared : (S : Scope) → IsOtherRule S.missing → (r : Lookup) (e : Exp) → HasMeaning (meaning S r e)
  meaning_spared S c r (lit l) = literal_spared l
  meaning_spared S c r (word name s) = keyed_spared S c r name s (keyword_of (lower_case name)) (keyword_spared (lower_case name))
  meaning_spared S c r (bracketed name s) = word_spared S c r spelling.Bracketed name s
  meaning_spared S c r me = me_spared (class_of_file S.declarations S.site.file)
  meaning_spared S c r (member e name) = member_meant S r (meaning S as_qualifier e) (lower_case name) (meaning_spared S c as_qualifier e)
  meaning_spared S c r (with_member name) = member_meant S r (value (kept_value S.kept)) (lower_case name) (kept_spared S.kept)
  meaning_spared S c r (with_bang name) = flawed_spared 6 (kept_value S.kept) refl (kept_spared S.kept)
  meaning_spared S c r (index e args) =
      list_meant S.declarations (meaning S (with_list r) e) (supplied S args) (meaning_spared S c (with_list r) e) (supplied_spared S c args)
  meaning_spared S c r (unary op e) =
      unary_spared S.declarations op (resolved S e) (valued_spared S.declarations (meaning S as_value e) (meaning_spared S c as_value e))
  meaning_spared S c r (binary op e f) =
      binary_spared S.declarations op (resolved S e) (resolved S f) (valued_spared S.declarations (meaning S as_value e) (meaning_spared S c as_value e))
      (valued_spared S.declarations (meaning S as_value f) (meaning_spared S c as_value f))
  meaning_spared S c r (paren e) = valued_spared S.declarations (meaning S as_value e) (meaning_spared S c as_value e)
  meaning_spared S c r (new_object name) = new_spared (found_type S.declarations S.site (lower_case name))
  meaning_spared S c r (bang e name) =
      flawed_spared 6 (resolved S e) refl (valued_spared S.declarations (meaning S as_value e) (meaning_spared S c as_value e))
  meaning_spared S c r (type_of e name) =
      test_spared S (resolved S e) name (valued_spared S.declarations (meaning S as_value e) (meaning_spared S c as_value e))
  meaning_spared S c r (address_of name) = rule_spares 2 refl

  supplied_spared : (S : Scope) → IsOtherRule S.missing → (args : Args) → AreSupplied (supplied S args)
  supplied_spared S c no_args = tt
  supplied_spared S c (next_arg name marked arg rest) = (argument_spared S c arg, supplied_spared S c rest)

  argument_spared : (S : Scope) → IsOtherRule S.missing → (arg : Given) → HasSparedValue (value_in S arg)
  argument_spared S c omitted = tt
  argument_spared S c (source.given e) = valued_spared S.declarations (meaning S as_value e) (meaning_spared S c as_value e)

pub resolved_spared : (S : Scope) → IsOtherRule S.missing → (e : Exp) → IsSpared (resolved S e)
resolved_spared S c e = valued_spared S.declarations (meaning S as_value e) (meaning_spared S c as_value e)
