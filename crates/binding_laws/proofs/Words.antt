-- Names, members and argument lists, and all expressions: each has a type, or a cause why it has none.
use Rattle.std.proofs.Common.{◌≡◌, ℕ, zero, suc, Bool, true, false, cond, codes, List, [], Option, Some, None, refl, sym, ap, ◌∙◌, inl, inr, nat_eq}
use Rattle.std.specs.Prelude.{◌&&◌, not, is_some, slice_get}
use Rattle.std.specs.Cmp.Lexicographic.{pointwise}
use Rattle.up_base.specs.Names.{lower_case}
use Rattle.vb_tree.specs.BoundTree.{Ty, user, class, object, variant, array}
use Rattle.vb_tree.specs.declared.bound.LibCall.{LibCall}
use Rattle.vb_tree.specs.declared.declared.VarId.{VarId}
use Rattle.vb_tree.specs.declared.token.Suffix.{Suffix}
use Rattle.vb_tree.specs.declared.value.Value6.{Value6}
use Rattle.vb_tree.specs.Tree.{Exp, lit, word, bracketed, me, member, with_member, with_bang, index, unary, binary, paren, new_object, bang, type_of, address_of, Args, no_args, next_arg, Given, omitted}
use Rattle.vb_tree.specs.Tree as source
use Rattle.bound_tree.specs.declared.body.Mention.{Mention}
use Rattle.bound_tree.specs.declared.body.Mention.TheVariants as mention
use Rattle.bound_tree.specs.declared.declared.ConstId.{ConstId}
use Rattle.bound_tree.specs.declared.declared.EnumDecl.{EnumDecl}
use Rattle.bound_tree.specs.declared.declared.Named.{Named}
use Rattle.bound_tree.specs.declared.declared.Named.TheVariants as named
use Rattle.bound_tree.specs.declared.declared.TypeDecl.{TypeDecl}
use Rattle.bound_tree.specs.declared.expression.Origin.TheVariants.{Declared}
use Rattle.bound_tree.specs.RuleSets.{none, is_broken}
use Rattle.bound_tree.specs.Tree.{Variable, Constant, Declarations, Expr, typed, Term, constant, variable, field, Object, of_object}
use Rattle.bound_facts.specs.Node.{type_at}
use Rattle.name_tables.specs.declared.uses.Spelling.{Spelling}
use Rattle.name_tables.specs.declared.uses.Use6.{Use6}
use Rattle.name_tables.specs.declared.uses.Use6.TheVariants as use6
use Rattle.name_tables.specs.Scopes.{found_member, found_in_module, found_in_enum, found_field, found_type, is_plain}
use Rattle.typing_rows.specs.Library.{library_call, library_constant, is_library_suffix}
use Rattle.typing_rows.specs.declared.library.TextConstant.{TextConstant}
use Rattle.expression_words.specs.declared.lookups.Lookup.{Lookup}
use Rattle.expression_words.specs.Flaws as flaws
use Rattle.expression_words.specs.Flaws.{Typed, known, no_flaw, breaks, lacks, together, flaw_of, flawed_by}
use Rattle.expression_words.specs.Elements.{element_type, element_of}
use Rattle.expression_words.specs.LibraryCalls.{library_called}
use Rattle.expression_words.specs.Members.{type_in, type_of_variable, count_classes, class_of_file, default_of, place_of}
use Rattle.expression_words.specs.Passing.{Supplied, with_slack, called}
use Rattle.expression_words.specs.Meanings.{class_id, Kept, no_with, keeps, keeps_unknown, Scope, Listed, no_list, listed, Meaning, value, procedure, library_word, of_module, of_enum, err, err_member, args_in, without_value, of_variable, variable_value, constant_term, constant_value, named_meaning, keyword_of, library_text, library_word_or_text, library_meaning, use_meaning, use_of, is_type_word, missing_rule, is_floating_suffix, declared_word, keyword_or_declared, spelling_of, valued, field_of_type, field_at, class_field, field_found, user_field, object_member, member_by_type, member_of, in_module, qualified_meaning, constant_found, enum_member_of, err_member_of, member_key, is_empty, without_list, behind_class, list_by_type, list_behind, gives_list, procedure_list, value_list, list_meaning, me_of, kept_value, new_of, type_flaw, type_test}
use Rattle.bound_exprs.specs.Resolved.{as_value, as_qualifier, with_list, meaning, supplied, value_in, resolved}
use Rattle.name_tables.specs.declared.uses.Spelling.TheVariants as spelling
use Rattle.binding_laws.specs.Causes.{is_known_type, is_whole, is_rule, AreWhole, IsFounded, is_kept, IsCaused}
use Rattle.binding_laws.proofs.Arguments.{HasFoundedValue, AreSupplied, slack_kept, rule_with_slack, called_founded, library_founded, element_founded, err_founded}
use Rattle.binding_laws.proofs.Founded.{Each, each_at, either, told, literal_founded, binary_founded, unary_founded}
use Rattle.binding_laws.proofs.Rules.{or_left, rule_caused, left_caused}

-- ---- what is meant

abbrev AreListed : Listed → Type 0
AreListed no_list = Unit {0}
AreListed (listed args) = AreSupplied args

abbrev HasMeaning : Meaning → Type 0
HasMeaning (value t) = IsFounded t
HasMeaning (procedure p qualified of args) = AreListed args
HasMeaning (library_word f args) = AreListed args
HasMeaning (err_member m args) = AreListed args
HasMeaning (of_module file) = Unit {0}
HasMeaning (of_enum e) = Unit {0}
HasMeaning err = Unit {0}

either_meaning : (test : Bool) (m n : Meaning) → HasMeaning m → HasMeaning n → HasMeaning (cond test m n)
either_meaning true m n h k = h
either_meaning false m n h k = k

given_args : (args : Listed) → AreListed args → AreSupplied (args_in args)
given_args no_list h = tt
given_args (listed args) h = h

-- what all lemmas are over
record Context (S : Scope) : Type 0 where
  whole : AreWhole S.declarations
  kept : is_kept S.kept ≡ true
  missing : is_rule S.missing ≡ true

-- ---- declarations

declared_founded : (ty : Ty) (m : Mention) (t : Term) → is_whole ty ≡ true → IsFounded (of_variable ty m t)
declared_founded ty m t h = told ty (flaws.unknown (lacks m)) (known (typed ty t)) h refl (λ k. k)

variable_founded : (o : Option Variable) (w : VarId) (qualified : Bool) → Each (λ (x : Variable). is_whole x.ty) o → IsFounded (variable_value o w qualified)
variable_founded None w qualified h = rule_caused 3 refl
variable_founded (Some x) w qualified h = declared_founded x.ty (mention.Var w) (variable w qualified) h

constant_by : (ty : Ty) (c : ConstId) (o : Option Value6) → is_whole ty ≡ true → IsFounded (constant_term ty c o)
constant_by ty c None h = refl
constant_by ty c (Some x) h = declared_founded ty (mention.Const c) (constant x (Declared c)) h

constant_founded : (o : Option Constant) (c : ConstId) → Each (λ (k : Constant). is_whole k.ty) o → IsFounded (constant_value o c)
constant_founded None c h = rule_caused 3 refl
constant_founded (Some k) c h = constant_by k.ty c k.value h

named_founded : (D : Declarations) → AreWhole D → (qualified : Bool) (n : Named) → HasMeaning (named_meaning D qualified n)
named_founded D are qualified (named.Var w) = variable_founded (slice_get D.vars w.0) w qualified (each_at (λ (x : Variable). is_whole x.ty) D.vars w.0 are.variables)
named_founded D are qualified (named.Const c) = constant_founded (slice_get D.consts c.0) c (each_at (λ (k : Constant). is_whole k.ty) D.consts c.0 are.constants)
named_founded D are qualified (named.Proc p) = tt
named_founded D are qualified (named.Type t) = rule_caused 3 refl
named_founded D are qualified (named.Enum e) = tt

-- ---- words

abbrev OnTyped : Option Typed → Type 0
OnTyped None = Unit {0}
OnTyped (Some t) = IsFounded t

either_typed : (test : Bool) (t : Typed) (o : Option Typed) → IsFounded t → OnTyped o → OnTyped (cond test (Some t) o)
either_typed true t o h k = h
either_typed false t o h k = k

keyword_founded : (key : List ℕ) → OnTyped (keyword_of key)
keyword_founded key =
    either_typed (pointwise nat_eq key (codes "true")) _ _ refl
    (either_typed (pointwise nat_eq key (codes "false")) _ _ refl
    (either_typed (pointwise nat_eq key (codes "nothing")) _ _ refl
    (either_typed (pointwise nat_eq key (codes "empty")) _ _ refl
    (either_typed (pointwise nat_eq key (codes "null")) _ _ (rule_caused 5 refl) tt))))

text_founded : (o : Option TextConstant) → HasMeaning (library_text o)
text_founded None = rule_caused 3 refl
text_founded (Some c) = refl

library_word_founded : (name : List ℕ) (o : Option LibCall) → HasMeaning (library_word_or_text name o)
library_word_founded name (Some f) = tt
library_word_founded name None = text_founded (library_constant name)

library_meant : (name : List ℕ) (s : Suffix) → HasMeaning (library_meaning name s)
library_meant name s =
    either_meaning (not (is_library_suffix s)) (without_value 3) (cond (pointwise nat_eq (lower_case name) (codes "err")) err (library_word_or_text name (library_call name))) (rule_caused 3 refl)
    (either_meaning (pointwise nat_eq (lower_case name) (codes "err")) err (library_word_or_text name (library_call name)) tt (library_word_founded name (library_call name)))

use_founded : (S : Scope) → Context S → (rule : ℕ) → is_rule rule ≡ true → (name : List ℕ) (s : Suffix) (u : Use6) → HasMeaning (use_meaning S rule name s u)
use_founded S c rule r name s (use6.Local n) = named_founded S.declarations c.whole false n
use_founded S c rule r name s (use6.Own n) = named_founded S.declarations c.whole false n
use_founded S c rule r name s (use6.Foreign file n) = named_founded S.declarations c.whole false n
use_founded S c rule r name s use6.Ambiguous = rule_caused 20 refl
use_founded S c rule r name s (use6.Module file) = tt
use_founded S c rule r name s (use6.Class k) = rule_caused 3 refl
use_founded S c rule r name s use6.Unusable = rule_caused 3 refl
use_founded S c rule r name s use6.Library = library_meant name s
use_founded S c rule r name s use6.Undeclared = rule_caused rule r

missing_founded : (S : Scope) → Context S → (r : Lookup) (how : Spelling) (key : List ℕ) → is_rule (missing_rule S r how key) ≡ true
missing_founded S c r how key = by (is_plain r.first && not (is_type_word how key))
  where
    by : (b : Bool) → is_rule (cond b S.missing 3) ≡ true
    by true = c.missing
    by false = refl

word_founded : (S : Scope) → Context S → (r : Lookup) (how : Spelling) (name : List ℕ) (s : Suffix) → HasMeaning (declared_word S r how name s)
word_founded S c r how name s =
    let rule = missing_rule S r how (lower_case name) in
    let u = use_of S r how (lower_case name) in
    either_meaning (is_floating_suffix s) (without_value 1) (use_meaning S rule name s u) (rule_caused 1 refl) (use_founded S c rule (missing_founded S c r how (lower_case name)) name s u)

keyed_founded : (S : Scope) → Context S → (r : Lookup) (name : List ℕ) (s : Suffix) (o : Option Typed) → OnTyped o → HasMeaning (keyword_or_declared S r name s o)
keyed_founded S c r name s (Some t) h = h
keyed_founded S c r name s None h = word_founded S c r (spelling_of s) name s

-- ---- values

valued_founded : (D : Declarations) → AreWhole D → (m : Meaning) → HasMeaning m → IsFounded (valued D m)
valued_founded D are (value t) h = h
valued_founded D are (procedure p qualified of args) h = called_founded D are p qualified of (args_in args) (given_args args h)
valued_founded D are (library_word f args) h = library_founded D are f (args_in args) (given_args args h)
valued_founded D are (of_module file) h = rule_caused 3 refl
valued_founded D are (of_enum e) h = rule_caused 3 refl
valued_founded D are err h = rule_caused 19 refl
valued_founded D are (err_member m args) h = err_founded D are m (args_in args) (given_args args h)

-- ---- members

type_whole : (o : Option Variable) → Each (λ (x : Variable). is_whole x.ty) o → is_whole (type_in o) ≡ true
type_whole None h = refl
type_whole (Some x) h = h

field_typed : (D : Declarations) → AreWhole D → (e : Expr) (k : ℕ) (w : VarId) → IsFounded (field_of_type D e k w (type_of_variable D w))
field_typed D are e k w =
    declared_founded (type_of_variable D w) (mention.Var w) (field e k) (type_whole (slice_get D.vars w.0) (each_at (λ (x : Variable). is_whole x.ty) D.vars w.0 are.variables))

field_at_founded : (D : Declarations) → AreWhole D → (e : Expr) (k : ℕ) (o : Option VarId) → IsFounded (field_at D e k o)
field_at_founded D are e k None = rule_caused 3 refl
field_at_founded D are e k (Some w) = field_typed D are e k w

class_field_founded : (D : Declarations) → AreWhole D → (e : Expr) (w : VarId) (o : Option ℕ) → IsFounded (class_field D e w o)
class_field_founded D are e w None = rule_caused 3 refl
class_field_founded D are e w (Some k) = field_typed D are e k w

found_founded : (D : Declarations) → AreWhole D → (e : Expr) (t : TypeDecl) (o : Option ℕ) → IsFounded (field_found D e t o)
found_founded D are e t None = rule_caused 3 refl
found_founded D are e t (Some k) = field_at_founded D are e k (slice_get t.fields k)

user_founded : (D : Declarations) → AreWhole D → (e : Expr) (key : List ℕ) (o : Option TypeDecl) → IsFounded (user_field D e key o)
user_founded D are e key None = rule_caused 3 refl
user_founded D are e key (Some t) = found_founded D are e t (found_field D t key)

object_founded : (D : Declarations) → AreWhole D → (c : ℕ) (e : Expr) (o : Option Named) → HasMeaning (object_member D c e o)
object_founded D are c e None = rule_caused 3 refl
object_founded D are c e (Some (named.Var w)) = class_field_founded D are e w (place_of D c w.0)
object_founded D are c e (Some (named.Proc p)) = tt
object_founded D are c e (Some (named.Const k)) = rule_caused 3 refl
object_founded D are c e (Some (named.Type t)) = rule_caused 3 refl
object_founded D are c e (Some (named.Enum k)) = rule_caused 3 refl

typed_member : (S : Scope) → Context S → (e : Expr) (key : List ℕ) (ty : Ty) → HasMeaning (member_by_type S e key ty)
typed_member S c e key (user t) = user_founded S.declarations c.whole e key (slice_get S.declarations.types t)
typed_member S c e key (class k) = object_founded S.declarations c.whole k e (found_member S.declarations S.site (class_id k) key)
typed_member S c e key object = rule_caused 6 refl
typed_member S c e key variant = rule_caused 6 refl
typed_member S c e key _ = rule_caused 3 refl

member_founded : (S : Scope) → Context S → (key : List ℕ) (t : Typed) → IsFounded t → HasMeaning (member_of S key t)
member_founded S c key (known e) h = typed_member S c e key (type_at e)
member_founded S c key (flaws.unknown f) h = h

qualified_founded : (D : Declarations) → AreWhole D → (u : Use6) → HasMeaning (qualified_meaning D u)
qualified_founded D are (use6.Local n) = named_founded D are true n
qualified_founded D are (use6.Own n) = named_founded D are true n
qualified_founded D are (use6.Foreign file n) = named_founded D are true n
qualified_founded D are _ = rule_caused 3 refl

enum_constant : (D : Declarations) → AreWhole D → (o : Option ConstId) → HasMeaning (constant_found D o)
enum_constant D are None = rule_caused 3 refl
enum_constant D are (Some c) = constant_founded (slice_get D.consts c.0) c (each_at (λ (k : Constant). is_whole k.ty) D.consts c.0 are.constants)

enum_founded : (D : Declarations) → AreWhole D → (key : List ℕ) (o : Option EnumDecl) → HasMeaning (enum_member_of D key o)
enum_founded D are key None = rule_caused 3 refl
enum_founded D are key (Some e) = enum_constant D are (found_in_enum D e key)

err_member_founded : (key : List ℕ) → HasMeaning (err_member_of key)
err_member_founded key =
    either_meaning (pointwise nat_eq key (codes "number")) _ _ refl
    (either_meaning (pointwise nat_eq key (codes "raise")) _ _ tt (either_meaning (pointwise nat_eq key (codes "clear")) _ _ tt (rule_caused 19 refl)))

member_meant : (S : Scope) → Context S → (r : Lookup) (m : Meaning) (key : List ℕ) → HasMeaning m → HasMeaning (member_key S r m key)
member_meant S c r (of_module file) key h = qualified_founded S.declarations c.whole (in_module S file key (found_in_module S.declarations S.site r.first file key) r.next)
member_meant S c r (of_enum e) key h = enum_founded S.declarations c.whole key (slice_get S.declarations.enums e.0)
member_meant S c r err key h = err_member_founded key
member_meant S c r (value t) key h = member_founded S c key t h
member_meant S c r (procedure p qualified of args) key h =
    member_founded S c key (called S.declarations p qualified of (args_in args)) (valued_founded S.declarations c.whole (procedure p qualified of args) h)
member_meant S c r (library_word f args) key h = member_founded S c key (library_called S.declarations f (args_in args)) (valued_founded S.declarations c.whole (library_word f args) h)
member_meant S c r (err_member m args) key h = member_founded S c key (valued S.declarations (err_member m args)) (valued_founded S.declarations c.whole (err_member m args) h)

-- ---- argument lists

class_list : (next : ℕ → Object → Meaning) → ((p : ℕ) (o : Object) → HasMeaning (next p o)) → (e : Expr) (args : List Supplied) (o : Option ℕ) → HasMeaning (behind_class next e args o)
class_list next n e args None = rule_with_slack 6 args refl
class_list next n e args (Some p) = n p (of_object e)

typed_list : (next : ℕ → Object → Meaning) → ((p : ℕ) (o : Object) → HasMeaning (next p o)) → (D : Declarations) → AreWhole D → (e : Expr) (args : List Supplied) → AreSupplied args
    → is_known_type (type_at e) ≡ true → (ty : Ty) → type_at e ≡ ty → HasMeaning (list_by_type next D e args ty)
typed_list next n D are e args h k (array ty rank) s =
    either (is_empty args) (known e) (element_of D e args) k
    (element_founded D are e args (ap (λ x. is_known_type (element_type x)) s ∙ (ap is_known_type (sym s) ∙ k)) h)
typed_list next n D are e args h k (class c) s = class_list next n e args (default_of D c)
typed_list next n D are e args h k object s = rule_with_slack 6 args refl
typed_list next n D are e args h k variant s = rule_with_slack 6 args refl
typed_list next n D are e args h k _ s = rule_with_slack 3 args refl

list_founded : (next : ℕ → Object → Meaning) → ((p : ℕ) (o : Object) → HasMeaning (next p o)) → (D : Declarations) → AreWhole D → (t : Typed) (args : List Supplied) → IsFounded t → AreSupplied args
    → HasMeaning (list_behind next D t args)
list_founded next n D are (known e) args h k = typed_list next n D are e args k h (type_at e) refl
list_founded next n D are (flaws.unknown f) args h k = slack_kept f args h

procedure_founded : (D : Declarations) → AreWhole D → (n p : ℕ) (qualified : Bool) (of : Object) (args : List Supplied) → AreSupplied args → HasMeaning (procedure_list D n p qualified of args)
procedure_founded D are zero p qualified of args h =
    either_meaning (not (is_empty args) && gives_list D p) (without_list 6 args) (procedure p qualified of (listed args)) (rule_with_slack 6 args refl) h
procedure_founded D are (suc n) p qualified of args h =
    either_meaning (not (is_empty args) && gives_list D p)
    (list_behind (λ (q : ℕ) (o : Object). procedure_list D n q false o args) D (called D p qualified of []) args) (procedure p qualified of (listed args))
    (list_founded (λ (q : ℕ) (o : Object). procedure_list D n q false o args) (λ q o. procedure_founded D are n q false o args h) D are (called D p qualified of []) args
    (called_founded D are p qualified of [] tt) h) h

value_list_founded : (D : Declarations) → AreWhole D → (t : Typed) (args : List Supplied) → IsFounded t → AreSupplied args → HasMeaning (value_list D t args)
value_list_founded D are t args h k =
    list_founded (λ (q : ℕ) (o : Object). procedure_list D (count_classes D) q false o args) (λ q o. procedure_founded D are (count_classes D) q false o args k) D are t args h k

list_meant : (D : Declarations) → AreWhole D → (m : Meaning) (args : List Supplied) → HasMeaning m → AreSupplied args → HasMeaning (list_meaning D m args)
list_meant D are (value t) args h k = value_list_founded D are t args h k
list_meant D are (procedure p qualified of no_list) args h k = procedure_founded D are (count_classes D) p qualified of args k
list_meant D are (procedure p qualified of (listed before)) args h k = value_list_founded D are (called D p qualified of before) args (called_founded D are p qualified of before h) k
list_meant D are (library_word f no_list) args h k = k
list_meant D are (library_word f (listed before)) args h k = value_list_founded D are (library_called D f before) args (library_founded D are f before h) k
list_meant D are (of_module file) args h k = rule_with_slack 3 args refl
list_meant D are (of_enum e) args h k = rule_with_slack 3 args refl
list_meant D are err args h k = rule_with_slack 19 args refl
list_meant D are (err_member m no_list) args h k = k
list_meant D are (err_member m (listed before)) args h k = slack_kept (with_slack (breaks 19) before) args (rule_with_slack 19 before refl)

-- ---- single words

me_founded : (o : Option ℕ) → IsFounded (me_of o)
me_founded None = rule_caused 3 refl
me_founded (Some c) = refl

kept_founded : (k : Kept) → is_kept k ≡ true → IsFounded (kept_value k)
kept_founded no_with h = rule_caused 3 refl
kept_founded (keeps ty r) h = h
kept_founded (keeps_unknown m) h = or_left (is_some m) (is_broken none) h

new_founded : (u : Use6) → IsFounded (new_of u)
new_founded (use6.Class c) = refl
new_founded use6.Ambiguous = rule_caused 20 refl
new_founded _ = rule_caused 3 refl

flawed_founded : (rule : ℕ) (t : Typed) → is_rule rule ≡ true → IsFounded (flawed_by rule t)
flawed_founded rule t r = left_caused (breaks rule) (flaw_of t) (rule_caused rule r)

test_founded : (S : Scope) (t : Typed) (name : List ℕ) → IsFounded (type_test S t name)
test_founded S t name = left_caused (together (breaks 2) (flaw_of t)) (type_flaw S (lower_case name)) (left_caused (breaks 2) (flaw_of t) (rule_caused 2 refl))

-- ---- expressions

mutual
  meaning_founded : (S : Scope) → Context S → (r : Lookup) (e : Exp) → HasMeaning (meaning S r e)
  meaning_founded S c r (lit l) = literal_founded l
  meaning_founded S c r (word name s) = keyed_founded S c r name s (keyword_of (lower_case name)) (keyword_founded (lower_case name))
  meaning_founded S c r (bracketed name s) = word_founded S c r spelling.Bracketed name s
  meaning_founded S c r me = me_founded (class_of_file S.declarations S.site.file)
  meaning_founded S c r (member e name) = member_meant S c r (meaning S as_qualifier e) (lower_case name) (meaning_founded S c as_qualifier e)
  meaning_founded S c r (with_member name) = member_meant S c r (value (kept_value S.kept)) (lower_case name) (kept_founded S.kept c.kept)
  meaning_founded S c r (with_bang name) = flawed_founded 6 (kept_value S.kept) refl
  meaning_founded S c r (index e args) = list_meant S.declarations c.whole (meaning S (with_list r) e) (supplied S args) (meaning_founded S c (with_list r) e) (supplied_founded S c args)
  meaning_founded S c r (unary op e) = unary_founded S.declarations c.whole op (resolved S e) (valued_founded S.declarations c.whole (meaning S as_value e) (meaning_founded S c as_value e))
  meaning_founded S c r (binary op e f) = binary_founded S.declarations c.whole op (resolved S e) (resolved S f) (valued_founded S.declarations c.whole (meaning S as_value e) (meaning_founded S c as_value e)) (valued_founded S.declarations c.whole (meaning S as_value f) (meaning_founded S c as_value f))
  meaning_founded S c r (paren e) = valued_founded S.declarations c.whole (meaning S as_value e) (meaning_founded S c as_value e)
  meaning_founded S c r (new_object name) = new_founded (found_type S.declarations S.site (lower_case name))
  meaning_founded S c r (bang e name) = flawed_founded 6 (resolved S e) refl
  meaning_founded S c r (type_of e name) = test_founded S (resolved S e) name
  meaning_founded S c r (address_of name) = rule_caused 2 refl

  supplied_founded : (S : Scope) → Context S → (args : Args) → AreSupplied (supplied S args)
  supplied_founded S c no_args = tt
  supplied_founded S c (next_arg name marked arg rest) = (argument_founded S c arg, supplied_founded S c rest)

  argument_founded : (S : Scope) → Context S → (arg : Given) → HasFoundedValue (value_in S arg)
  argument_founded S c omitted = tt
  argument_founded S c (source.given e) = valued_founded S.declarations c.whole (meaning S as_value e) (meaning_founded S c as_value e)

resolved_founded : (S : Scope) → Context S → (e : Exp) → IsFounded (resolved S e)
resolved_founded S c e = valued_founded S.declarations c.whole (meaning S as_value e) (meaning_founded S c as_value e)

pub all_caused : (S : Scope) → AreWhole S.declarations → is_rule S.missing ≡ true → (e : Exp) → IsCaused S e
all_caused S are r e = by (is_kept S.kept) refl
  where
    by : (b : Bool) → is_kept S.kept ≡ b → IsCaused S e
    by true k = inl (resolved_founded S (record { whole = are; kept = k; missing = r }) e)
    by false k = inr k
