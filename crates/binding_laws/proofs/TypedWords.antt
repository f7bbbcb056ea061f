-- Names, members and argument lists, and all expressions: each use of a variable has its type.
use Rattle.std.proofs.Common.{◌≡◌, ℕ, zero, suc, Bool, true, false, cond, codes, List, [], Option, Some, None, refl, ap, ◌∙◌, nat_eq}
use Rattle.std.specs.Prelude.{◌&&◌, not, slice_get}
use Rattle.std.specs.Cmp.Lexicographic.{pointwise}
use Rattle.up_base.specs.Names.{lower_case}
use Rattle.vb_tree.specs.BoundTree.{Ty, user, class, object, variant, array}
use Rattle.vb_tree.specs.declared.bound.LibCall.{LibCall}
use Rattle.vb_tree.specs.declared.declared.VarId.{VarId}
use Rattle.vb_tree.specs.declared.token.Suffix.{Suffix}
use Rattle.vb_tree.specs.declared.value.Value6.{Value6}
use Rattle.vb_tree.specs.Tree.{Exp, lit, word, bracketed, me, member, with_member, with_bang, index, unary, binary, paren, new_object, bang, type_of, address_of, Args, no_args, next_arg, Given, omitted}
use Rattle.vb_tree.specs.Tree as source
use Rattle.bound_tree.specs.declared.body.Mention.{Mention}
use Rattle.bound_tree.specs.declared.body.Mention.TheVariants as mention
use Rattle.bound_tree.specs.declared.declared.ConstId.{ConstId}
use Rattle.bound_tree.specs.declared.declared.EnumDecl.{EnumDecl}
use Rattle.bound_tree.specs.declared.declared.Named.{Named}
use Rattle.bound_tree.specs.declared.declared.Named.TheVariants as named
use Rattle.bound_tree.specs.declared.declared.TypeDecl.{TypeDecl}
use Rattle.bound_tree.specs.declared.expression.Origin.TheVariants.{Declared}
use Rattle.bound_tree.specs.Tree.{Variable, Constant, Declarations, Expr, typed, Term, constant, variable, field, Object, of_object}
use Rattle.bound_facts.specs.Node.{type_at}
use Rattle.name_tables.specs.declared.uses.Spelling.{Spelling}
use Rattle.name_tables.specs.declared.uses.Spelling.TheVariants as spelling
use Rattle.name_tables.specs.declared.uses.Use6.{Use6}
use Rattle.name_tables.specs.declared.uses.Use6.TheVariants as use6
use Rattle.name_tables.specs.Scopes.{found_member, found_in_module, found_in_enum, found_field, found_type}
use Rattle.typing_rows.specs.Conversions.{is_without_type}
use Rattle.typing_rows.specs.Library.{library_call, library_constant, is_library_suffix}
use Rattle.typing_rows.specs.declared.library.TextConstant.{TextConstant}
use Rattle.expression_words.specs.declared.lookups.Lookup.{Lookup}
use Rattle.expression_words.specs.Flaws as flaws
use Rattle.expression_words.specs.Flaws.{Typed, known, lacks}
use Rattle.expression_words.specs.Elements.{element_of}
use Rattle.expression_words.specs.LibraryCalls.{library_called}
use Rattle.expression_words.specs.Members.{type_of_variable, count_classes, class_of_file, default_of, place_of}
use Rattle.expression_words.specs.Passing.{Supplied, called}
use Rattle.expression_words.specs.Meanings.{class_id, Kept, no_with, keeps, keeps_unknown, Scope, Listed, no_list, listed, Meaning, value, procedure, library_word, of_module, of_enum, err, err_member, args_in, without_value, of_variable, variable_value, constant_term, constant_value, named_meaning, keyword_of, library_text, library_word_or_text, library_meaning, use_meaning, use_of, missing_rule, is_floating_suffix, declared_word, keyword_or_declared, spelling_of, valued, field_at, class_field, field_found, user_field, object_member, member_by_type, member_of, in_module, qualified_meaning, constant_found, enum_member_of, err_member_of, member_key, is_empty, without_list, behind_class, list_by_type, list_behind, gives_list, procedure_list, value_list, list_meaning, me_of, kept_value, new_of}
use Rattle.bound_exprs.specs.Resolved.{as_value, as_qualifier, with_list, meaning, supplied, value_in, resolved}
use Rattle.typing_laws.specs.Typed.{is_typed, has_type, is_typed_object}
use Rattle.binding_laws.specs.Typing.{HasTypes}
use Rattle.binding_laws.proofs.TypedArguments.{HasTypedValue, AreSupplied, called_typed, library_typed, element_typed, err_typed}
use Rattle.binding_laws.proofs.TypedParts.{same_self, either, literal_typed, binary_typed, unary_typed}

module _ (D : Declarations) where
  -- ---- what is meant

  abbrev AreListed : Listed → Type 0
  AreListed no_list = Unit {0}
  AreListed (listed args) = AreSupplied D args

  abbrev pub HasMeaning : Meaning → Type 0
  HasMeaning (value t) = HasTypes D t
  HasMeaning (procedure p qualified of args) = (is_typed_object D of ≡ true) × AreListed args
  HasMeaning (library_word f args) = AreListed args
  HasMeaning (err_member m args) = AreListed args
  HasMeaning (of_module file) = Unit {0}
  HasMeaning (of_enum e) = Unit {0}
  HasMeaning err = Unit {0}

  either_meaning : (test : Bool) (m n : Meaning) → HasMeaning m → HasMeaning n → HasMeaning (cond test m n)
  either_meaning true m n h k = h
  either_meaning false m n h k = k

  pub given_args : (args : Listed) → AreListed args → AreSupplied D (args_in args)
  given_args no_list h = tt
  given_args (listed args) h = h

  -- ---- declarations

  declared_typed : (ty : Ty) (m : Mention) (t : Term) → is_typed D (typed ty t) ≡ true → HasTypes D (of_variable ty m t)
  declared_typed ty m t h = either D (is_without_type ty) (flaws.unknown (lacks m)) (known (typed ty t)) tt h

  variable_typed : (o : Option Variable) (w : VarId) (qualified : Bool) → slice_get D.vars w.0 ≡ o → HasTypes D (variable_value o w qualified)
  variable_typed None w qualified is = tt
  variable_typed (Some x) w qualified is =
      declared_typed x.ty (mention.Var w) (variable w qualified) (ap (λ o. has_type x.ty o) is ∙ same_self x.ty)

  constant_by : (ty : Ty) (c : ConstId) (o : Option Value6) → HasTypes D (constant_term ty c o)
  constant_by ty c None = tt
  constant_by ty c (Some x) = declared_typed ty (mention.Const c) (constant x (Declared c)) refl

  constant_typed : (o : Option Constant) (c : ConstId) → HasTypes D (constant_value o c)
  constant_typed None c = tt
  constant_typed (Some k) c = constant_by k.ty c k.value

  named_typed : (qualified : Bool) (n : Named) → HasMeaning (named_meaning D qualified n)
  named_typed qualified (named.Var w) = variable_typed (slice_get D.vars w.0) w qualified refl
  named_typed qualified (named.Const c) = constant_typed (slice_get D.consts c.0) c
  named_typed qualified (named.Proc p) = (refl, tt)
  named_typed qualified (named.Type t) = tt
  named_typed qualified (named.Enum e) = tt

  -- ---- words

  abbrev OnTyped : Option Typed → Type 0
  OnTyped None = Unit {0}
  OnTyped (Some t) = HasTypes D t

  either_typed : (test : Bool) (t : Typed) (o : Option Typed) → HasTypes D t → OnTyped o → OnTyped (cond test (Some t) o)
  either_typed true t o h k = h
  either_typed false t o h k = k

  keyword_typed : (key : List ℕ) → OnTyped (keyword_of key)
  keyword_typed key =
      either_typed (pointwise nat_eq key (codes "true")) _ _ refl
      (either_typed (pointwise nat_eq key (codes "false")) _ _ refl
      (either_typed (pointwise nat_eq key (codes "nothing")) _ _ refl
      (either_typed (pointwise nat_eq key (codes "empty")) _ _ refl (either_typed (pointwise nat_eq key (codes "null")) _ _ tt tt))))

  text_typed : (o : Option TextConstant) → HasMeaning (library_text o)
  text_typed None = tt
  text_typed (Some c) = refl

  library_word_typed : (name : List ℕ) (o : Option LibCall) → HasMeaning (library_word_or_text name o)
  library_word_typed name (Some f) = tt
  library_word_typed name None = text_typed (library_constant name)

  library_meant : (name : List ℕ) (s : Suffix) → HasMeaning (library_meaning name s)
  library_meant name s =
      either_meaning (not (is_library_suffix s)) (without_value 3)
      (cond (pointwise nat_eq (lower_case name) (codes "err")) err (library_word_or_text name (library_call name))) tt
      (either_meaning (pointwise nat_eq (lower_case name) (codes "err")) err (library_word_or_text name (library_call name)) tt
      (library_word_typed name (library_call name)))

  -- ---- values

  pub valued_typed : (m : Meaning) → HasMeaning m → HasTypes D (valued D m)
  valued_typed (value t) h = h
  valued_typed (procedure p qualified of args) h = called_typed D p qualified of (args_in args) h.0 (given_args args h.1)
  valued_typed (library_word f args) h = library_typed D f (args_in args) (given_args args h)
  valued_typed (of_module file) h = tt
  valued_typed (of_enum e) h = tt
  valued_typed err h = tt
  valued_typed (err_member m args) h = err_typed D m (args_in args) (given_args args h)

  -- ---- members

  field_at_typed : (e : Expr) (k : ℕ) (o : Option VarId) → is_typed D e ≡ true → HasTypes D (field_at D e k o)
  field_at_typed e k None h = tt
  field_at_typed e k (Some w) h = declared_typed (type_of_variable D w) (mention.Var w) (field e k) h

  class_field_typed : (e : Expr) (w : VarId) (o : Option ℕ) → is_typed D e ≡ true → HasTypes D (class_field D e w o)
  class_field_typed e w None h = tt
  class_field_typed e w (Some k) h = declared_typed (type_of_variable D w) (mention.Var w) (field e k) h

  field_found_typed : (e : Expr) (t : TypeDecl) (o : Option ℕ) → is_typed D e ≡ true → HasTypes D (field_found D e t o)
  field_found_typed e t None h = tt
  field_found_typed e t (Some k) h = field_at_typed e k (slice_get t.fields k) h

  user_typed : (e : Expr) (key : List ℕ) (o : Option TypeDecl) → is_typed D e ≡ true → HasTypes D (user_field D e key o)
  user_typed e key None h = tt
  user_typed e key (Some t) h = field_found_typed e t (found_field D t key) h

  object_typed : (c : ℕ) (e : Expr) (o : Option Named) → is_typed D e ≡ true → HasMeaning (object_member D c e o)
  object_typed c e None h = tt
  object_typed c e (Some (named.Var w)) h = class_field_typed e w (place_of D c w.0) h
  object_typed c e (Some (named.Proc p)) h = (h, tt)
  object_typed c e (Some (named.Const k)) h = tt
  object_typed c e (Some (named.Type t)) h = tt
  object_typed c e (Some (named.Enum k)) h = tt

  qualified_typed : (u : Use6) → HasMeaning (qualified_meaning D u)
  qualified_typed (use6.Local n) = named_typed true n
  qualified_typed (use6.Own n) = named_typed true n
  qualified_typed (use6.Foreign file n) = named_typed true n
  qualified_typed _ = tt

  enum_constant : (o : Option ConstId) → HasMeaning (constant_found D o)
  enum_constant None = tt
  enum_constant (Some c) = constant_typed (slice_get D.consts c.0) c

  enum_typed : (key : List ℕ) (o : Option EnumDecl) → HasMeaning (enum_member_of D key o)
  enum_typed key None = tt
  enum_typed key (Some e) = enum_constant (found_in_enum D e key)

  err_member_typed : (key : List ℕ) → HasMeaning (err_member_of key)
  err_member_typed key =
      either_meaning (pointwise nat_eq key (codes "number")) _ _ refl
      (either_meaning (pointwise nat_eq key (codes "raise")) _ _ tt (either_meaning (pointwise nat_eq key (codes "clear")) _ _ tt tt))

  -- ---- argument lists

  class_list : (next : ℕ → Object → Meaning) → ((p : ℕ) (o : Object) → is_typed_object D o ≡ true → HasMeaning (next p o)) → (e : Expr)
      (args : List Supplied) (o : Option ℕ) → is_typed D e ≡ true → HasMeaning (behind_class next e args o)
  class_list next n e args None h = tt
  class_list next n e args (Some p) h = n p (of_object e) h

  typed_list : (next : ℕ → Object → Meaning) → ((p : ℕ) (o : Object) → is_typed_object D o ≡ true → HasMeaning (next p o)) → (e : Expr)
      (args : List Supplied) → AreSupplied D args → is_typed D e ≡ true → (ty : Ty) → HasMeaning (list_by_type next D e args ty)
  typed_list next n e args h k (array ty rank) = either D (is_empty args) (known e) (element_of D e args) k (element_typed D e args k h)
  typed_list next n e args h k (class c) = class_list next n e args (default_of D c) k
  typed_list next n e args h k object = tt
  typed_list next n e args h k variant = tt
  typed_list next n e args h k _ = tt

  list_typed : (next : ℕ → Object → Meaning) → ((p : ℕ) (o : Object) → is_typed_object D o ≡ true → HasMeaning (next p o)) → (t : Typed)
      (args : List Supplied) → HasTypes D t → AreSupplied D args → HasMeaning (list_behind next D t args)
  list_typed next n (known e) args h k = typed_list next n e args k h (type_at e)
  list_typed next n (flaws.unknown f) args h k = tt

  procedure_typed : (n p : ℕ) (qualified : Bool) (of : Object) (args : List Supplied) → is_typed_object D of ≡ true → AreSupplied D args
      → HasMeaning (procedure_list D n p qualified of args)
  procedure_typed zero p qualified of args o h =
      either_meaning (not (is_empty args) && gives_list D p) (without_list 6 args) (procedure p qualified of (listed args)) tt (o, h)
  procedure_typed (suc n) p qualified of args o h =
      either_meaning (not (is_empty args) && gives_list D p)
      (list_behind (λ (q : ℕ) (o : Object). procedure_list D n q false o args) D (called D p qualified of []) args) (procedure p qualified of (listed args))
      (list_typed (λ (q : ℕ) (o : Object). procedure_list D n q false o args) (λ q o k. procedure_typed n q false o args k h) (called D p qualified of []) args
      (called_typed D p qualified of [] o tt) h) (o, h)

  value_list_typed : (t : Typed) (args : List Supplied) → HasTypes D t → AreSupplied D args → HasMeaning (value_list D t args)
  value_list_typed t args h k =
      list_typed (λ (q : ℕ) (o : Object). procedure_list D (count_classes D) q false o args) (λ q o l. procedure_typed (count_classes D) q false o args l k) t args h k

  list_meant : (m : Meaning) (args : List Supplied) → HasMeaning m → AreSupplied D args → HasMeaning (list_meaning D m args)
  list_meant (value t) args h k = value_list_typed t args h k
  list_meant (procedure p qualified of no_list) args h k = procedure_typed (count_classes D) p qualified of args h.0 k
  list_meant (procedure p qualified of (listed before)) args h k =
      value_list_typed (called D p qualified of before) args (called_typed D p qualified of before h.0 h.1) k
  list_meant (library_word f no_list) args h k = k
  list_meant (library_word f (listed before)) args h k = value_list_typed (library_called D f before) args (library_typed D f before h) k
  list_meant (of_module file) args h k = tt
  list_meant (of_enum e) args h k = tt
  list_meant err args h k = tt
  list_meant (err_member m no_list) args h k = k
  list_meant (err_member m (listed before)) args h k = tt

  -- ---- single words

  me_typed : (o : Option ℕ) → HasTypes D (me_of o)
  me_typed None = tt
  me_typed (Some c) = refl

  kept_typed : (k : Kept) → HasTypes D (kept_value k)
  kept_typed no_with = tt
  kept_typed (keeps ty r) = refl
  kept_typed (keeps_unknown m) = tt

  new_typed : (u : Use6) → HasTypes D (new_of u)
  new_typed (use6.Class c) = refl
  new_typed _ = tt

-- ---- in a scope

use_typed : (S : Scope) (rule : ℕ) (name : List ℕ) (s : Suffix) (u : Use6) → HasMeaning S.declarations (use_meaning S rule name s u)
use_typed S rule name s (use6.Local n) = named_typed S.declarations false n
use_typed S rule name s (use6.Own n) = named_typed S.declarations false n
use_typed S rule name s (use6.Foreign file n) = named_typed S.declarations false n
use_typed S rule name s use6.Library = library_meant S.declarations name s
use_typed S rule name s _ = tt

word_typed : (S : Scope) (r : Lookup) (how : Spelling) (name : List ℕ) (s : Suffix) → HasMeaning S.declarations (declared_word S r how name s)
word_typed S r how name s =
    let rule = missing_rule S r how (lower_case name) in
    let u = use_of S r how (lower_case name) in
    either_meaning S.declarations (is_floating_suffix s) (without_value 1) (use_meaning S rule name s u) tt (use_typed S rule name s u)

keyed_typed : (S : Scope) (r : Lookup) (name : List ℕ) (s : Suffix) (o : Option Typed) → OnTyped S.declarations o
    → HasMeaning S.declarations (keyword_or_declared S r name s o)
keyed_typed S r name s (Some t) h = h
keyed_typed S r name s None h = word_typed S r (spelling_of s) name s

typed_member : (S : Scope) (e : Expr) (key : List ℕ) (ty : Ty) → is_typed S.declarations e ≡ true → HasMeaning S.declarations (member_by_type S e key ty)
typed_member S e key (user t) h = user_typed S.declarations e key (slice_get S.declarations.types t) h
typed_member S e key (class k) h = object_typed S.declarations k e (found_member S.declarations S.site (class_id k) key) h
typed_member S e key object h = tt
typed_member S e key variant h = tt
typed_member S e key _ h = tt

member_typed : (S : Scope) (key : List ℕ) (t : Typed) → HasTypes S.declarations t → HasMeaning S.declarations (member_of S key t)
member_typed S key (known e) h = typed_member S e key (type_at e) h
member_typed S key (flaws.unknown f) h = tt

member_meant : (S : Scope) (r : Lookup) (m : Meaning) (key : List ℕ) → HasMeaning S.declarations m → HasMeaning S.declarations (member_key S r m key)
member_meant S r (of_module file) key h = qualified_typed S.declarations (in_module S file key (found_in_module S.declarations S.site r.first file key) r.next)
member_meant S r (of_enum e) key h = enum_typed S.declarations key (slice_get S.declarations.enums e.0)
member_meant S r err key h = err_member_typed S.declarations key
member_meant S r (value t) key h = member_typed S key t h
member_meant S r (procedure p qualified of args) key h =
    member_typed S key (called S.declarations p qualified of (args_in args)) (valued_typed S.declarations (procedure p qualified of args) h)
member_meant S r (library_word f args) key h =
    member_typed S key (library_called S.declarations f (args_in args)) (valued_typed S.declarations (library_word f args) h)
member_meant S r (err_member m args) key h =
    member_typed S key (valued S.declarations (err_member m args)) (valued_typed S.declarations (err_member m args) h)

-- ---- expressions

mutual
  pub meaning_typed : (S : Scope) (r : Lookup) (e : Exp) → HasMeaning S.declarations (meaning S r e)
  meaning_typed S r (lit l) = literal_typed S.declarations l
  meaning_typed S r (word name s) = keyed_typed S r name s (keyword_of (lower_case name)) (keyword_typed S.declarations (lower_case name))
  meaning_typed S r (bracketed name s) = word_typed S r spelling.Bracketed name s
  meaning_typed S r me = me_typed S.declarations (class_of_file S.declarations S.site.file)
  meaning_typed S r (member e name) = member_meant S r (meaning S as_qualifier e) (lower_case name) (meaning_typed S as_qualifier e)
  meaning_typed S r (with_member name) = member_meant S r (value (kept_value S.kept)) (lower_case name) (kept_typed S.declarations S.kept)
  meaning_typed S r (with_bang name) = tt
  meaning_typed S r (index e args) =
      list_meant S.declarations (meaning S (with_list r) e) (supplied S args) (meaning_typed S (with_list r) e) (supplied_typed S args)
  meaning_typed S r (unary op e) =
      unary_typed S.declarations op (resolved S e) (valued_typed S.declarations (meaning S as_value e) (meaning_typed S as_value e))
  meaning_typed S r (binary op e f) =
      binary_typed S.declarations op (resolved S e) (resolved S f) (valued_typed S.declarations (meaning S as_value e) (meaning_typed S as_value e))
      (valued_typed S.declarations (meaning S as_value f) (meaning_typed S as_value f))
  meaning_typed S r (paren e) = valued_typed S.declarations (meaning S as_value e) (meaning_typed S as_value e)
  meaning_typed S r (new_object name) = new_typed S.declarations (found_type S.declarations S.site (lower_case name))
  meaning_typed S r (bang e name) = tt
  meaning_typed S r (type_of e name) = tt
  meaning_typed S r (address_of name) = tt

  supplied_typed : (S : Scope) (args : Args) → AreSupplied S.declarations (supplied S args)
  supplied_typed S no_args = tt
  supplied_typed S (next_arg name marked arg rest) = (argument_typed S arg, supplied_typed S rest)

  argument_typed : (S : Scope) (arg : Given) → HasTypedValue S.declarations (value_in S arg)
  argument_typed S omitted = tt
  argument_typed S (source.given e) = valued_typed S.declarations (meaning S as_value e) (meaning_typed S as_value e)

pub resolved_typed : (S : Scope) (e : Exp) → HasTypes S.declarations (resolved S e)
resolved_typed S e = valued_typed S.declarations (meaning S as_value e) (meaning_typed S as_value e)
