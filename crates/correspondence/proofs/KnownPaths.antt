-- The paths in what is written for a covered line are names alone, of the run-time library, or of functions that all projects can use or that make
-- objects of the project's classes.
use Rattle.std.proofs.Common.{◌≡◌, ℕ, ◌+◌, zero, suc, arith, nat_eq, Bool, true, false, ◌&&◌, ◌||◌, cond, List, [], ◌∷◌, ◌++◌, Option, Some, None, unwrap_or, refl, sym, ap, ◌∙◌, inl, inr}
use Rattle.std.specs.Prelude.{find, slice_get, pos, negsuc, codes}
use Rattle.std.specs.Cmp.Lexicographic.{bytes_decides}
use Rattle.std.specs.List.{list_all}
use Rattle.up_base.proofs.Lists.{both_true}
use Rattle.vb_tree.specs.BoundTree as types
use Rattle.vb_tree.specs.BoundTree.{Ty}
use Rattle.vb_tree.specs.declared.expression.BinOp.{BinOp}
use Rattle.vb_tree.specs.declared.expression.BinOp.TheVariants as b
use Rattle.vb_tree.specs.declared.expression.UnOp.{UnOp}
use Rattle.vb_tree.specs.declared.expression.UnOp.TheVariants as u
use Rattle.vb_tree.specs.declared.value.Value6.{Value6}
use Rattle.vb_tree.specs.declared.value.Value6.TheVariants as v6
use Rattle.bound_tree.specs.declared.expression.Origin.{Origin}
use Rattle.vb_tree.specs.Tree.{Module}
use Rattle.bound_tree.specs.Tree.{Constant, Declarations, Expr, typed, Term, Variable, constant}
use Rattle.bound_tree.specs.Tree as tree
use Rattle.bound_facts.specs.Folded.{converted_value}
use Rattle.bound_facts.specs.Locks.{is_same_type}
use Rattle.bound_facts.specs.Members.{class_files}
use Rattle.bound_facts.specs.Node.{type_at}
use Rattle.net_tree.specs.declared.expression.CastWord.{CastWord}
use Rattle.net_tree.specs.declared.expression.CastWord.TheVariants as word
use Rattle.net_tree.specs.declared.expression.NetBin.TheVariants as op
use Rattle.net_tree.specs.declared.expression.NetUn.TheVariants as un
use Rattle.net_tree.specs.Spelling.{is_same_text}
use Rattle.net_tree.specs.Tree.{Exp, Procedure}
use Rattle.net_tree.specs.Tree as net
use Rattle.support_text.specs.Bounds.{the_cur}
use Rattle.support_text.specs.Errors.{the_err_clear, the_raise, the_not_upgraded}
use Rattle.support_text.specs.FixedTexts.{the_fix}
use Rattle.support_text.specs.Printing.{the_print_line, the_print_part, the_cur_text, the_print_num, the_print_var}
use Rattle.support_text.specs.VariantConversions.{the_var_str, the_var_byte, the_var_short, the_var_int, the_var_bool, the_var_cur}
use Rattle.written_trees.specs.Conversions.{Conversion, stands, by_word, by_support, text_object, cut, applied, counted, to_count, to_text, to_variant, conversion, converted, literal_or}
use Rattle.written_trees.specs.Lines.{printed}
use Rattle.written_trees.specs.Literals.{Piece, quoted, unit, piece_exp, text, joined, pieces_of, constant_exp, literal_as, literal_of, spelt, takes_literals, is_whole, is_hexadecimal}
use Rattle.written_trees.specs.Names.{Path, Scope, auto_name, first_name, is_foreign, module_name, name_in, procedure_path, procedure_path_of}
use Rattle.written_trees.specs.Operators.{signed, checked, is_text, typed_operator, typed_unary, operand}
use Rattle.written_trees.specs.Supports.{auto_function, autos_from, fixed_functions, function_name}
use Rattle.run_matches.specs.Covered.{covers_names, is_free_name}
use Rattle.correspondence.specs.Lists.{In}
use Rattle.correspondence.specs.Paths.{Each, paths_of_exp}
use Rattle.correspondence.proofs.Among.{in_left, in_right}

-- ---- names that are free

-- a module whose name is free isn't the support module
pub free_other : (name : List ℕ) → is_free_name name ≡ true → is_same_text name (codes "UpgradeSupport") ≡ true → ⊥
free_other name h e =
    let same : name ≡ codes "UpgradeSupport" = (bytes_decides name (codes "UpgradeSupport")).0 e in
    let not_free : is_free_name name ≡ false = ap is_free_name same in
    absurd (cc (h, not_free))

free_found : (test : Module → Bool) (ms : List Module) → list_all (λ (m : Module). is_free_name m.name) ms ≡ true → is_free_name (name_in (find test ms)) ≡ true
free_found test [] h = refl
free_found test (m ∷ ms) h =
    let both = both_true (is_free_name m.name) (list_all (λ (x : Module). is_free_name x.name) ms) h in
    by (test m) both.0 (free_found test ms both.1)
  where
    by : (b : Bool) → is_free_name m.name ≡ true → is_free_name (name_in (find test ms)) ≡ true → is_free_name (name_in (cond b (Some m) (find test ms))) ≡ true
    by true k rest = k
    by false k rest = rest

pub in_place : {A : Type 0} (xs : List A) (k : ℕ) (x : A) → slice_get xs k ≡ Some x → In x xs
in_place [] k x e = absurd (cc e)
in_place (y ∷ ys) zero x e = inl (sym (ap (λ o. unwrap_or o y) e))
in_place (y ∷ ys) (suc k) x e = inr (in_place ys k x e)

module _ (D : Declarations) where
  -- ---- known paths

  -- the functions that a project can use, but for those of user types
  abbrev pub functions : List Procedure
  functions = fixed_functions ++ autos_from D 0 (class_files D.project)

  pub fixed : (k : ℕ) (f : Procedure) → slice_get fixed_functions k ≡ Some f → In f functions
  fixed k f e = in_left fixed_functions (autos_from D 0 (class_files D.project)) f (in_place fixed_functions k f e)

  among_autos : (files : List ℕ) (c k n file : ℕ) → slice_get files k ≡ Some file → k + c ≡ n → In (auto_function D n) (autos_from D c files)
  among_autos [] c k n file e h = absurd (cc e)
  among_autos (f ∷ files) c zero n file e h = let is : n ≡ c = omega arith in inl (ap (auto_function D) is)
  among_autos (f ∷ files) c (suc k) n file e h = inr (among_autos files (suc c) k n file e (omega arith))

  -- one of them has the name
  pub record IsFunction (name : List ℕ) : Type 0 where
    pub function : Procedure
    pub among : In function functions
    pub named : function_name function ≡ name

  -- the one that makes an object of a class for an As New variable
  pub is_auto_function : (class file : ℕ) → slice_get (class_files D.project) class ≡ Some file → IsFunction (auto_name D class)
  is_auto_function class file e = record {
    function = auto_function D class;
    among = in_right fixed_functions (autos_from D 0 (class_files D.project)) (auto_function D class)
        (among_autos (class_files D.project) 0 class class file e (omega arith));
    named = refl;
  }

  abbrev pub IsKnown : Path → Type 0
  IsKnown [] = Unit {0}
  IsKnown (name ∷ []) = Unit {0}
  IsKnown (outer ∷ name ∷ more) = is_same_text outer (codes "UpgradeSupport") ≡ true → IsFunction name × (more ≡ [])

  abbrev pub AreKnown : List Path → Type 0
  AreKnown ps = Each IsKnown ps

  pub known_append : (ps qs : List Path) → AreKnown ps → AreKnown qs → AreKnown (ps ++ qs)
  known_append [] qs h k = k
  known_append (p ∷ ps) qs h k = (h.0, known_append ps qs h.1 k)

  -- ---- paths of procedures

  pub path_known : (S : Scope) → S.declarations ≡ D → covers_names D ≡ true → (q : Bool) (p : ℕ) → IsKnown (procedure_path S q p)
  path_known S same h q p = by (slice_get S.declarations.procs p)
    where
      modules : list_all (λ (m : Module). is_free_name m.name) S.declarations.project.modules ≡ true
      modules =
          ap (λ (E : Declarations). list_all (λ (m : Module). is_free_name m.name) E.project.modules) same
          ∙ (both_true (list_all (λ (m : Module). is_free_name m.name) D.project.modules)
          (list_all (λ (x : Variable). is_free_name x.name) D.vars
          && (list_all (λ (c : Constant). is_free_name c.name) D.consts && list_all (λ (x : tree.Procedure). is_free_name x.name) D.procs)) h).0

      either : (b : Bool) (m n : List ℕ) → is_free_name m ≡ true → IsKnown (cond b (m ∷ n ∷ []) (n ∷ []))
      either true m n k = λ e. absurd (free_other m k e)
      either false m n k = tt

      by : (o : Option tree.Procedure) → IsKnown (procedure_path_of S q o)
      by None = tt
      by (Some y) =
          either (q || is_foreign S.declarations S.file y.module_number) (module_name S.declarations y.module_number) (first_name S.declarations (Some y))
          (free_found (λ (m : Module). nat_eq m.file y.module_number) S.declarations.project.modules modules)

  pub is_print_line : IsFunction (codes "PrintLine")
  is_print_line = record { function = the_print_line; among = fixed 0 the_print_line refl; named = refl }

  pub is_print_part : IsFunction (codes "PrintPart")
  is_print_part = record { function = the_print_part; among = fixed 1 the_print_part refl; named = refl }

  is_cur_text : IsFunction (codes "CurText")
  is_cur_text = record { function = the_cur_text; among = fixed 4 the_cur_text refl; named = refl }

  is_print_num : IsFunction (codes "PrintNum")
  is_print_num = record { function = the_print_num; among = fixed 5 the_print_num refl; named = refl }

  is_print_var : IsFunction (codes "PrintVar")
  is_print_var = record { function = the_print_var; among = fixed 6 the_print_var refl; named = refl }

  is_cur : IsFunction (codes "Cur")
  is_cur = record { function = the_cur; among = fixed 7 the_cur refl; named = refl }

  is_fix : IsFunction (codes "Fix")
  is_fix = record { function = the_fix; among = fixed 12 the_fix refl; named = refl }

  pub is_raise : IsFunction (codes "Raise")
  is_raise = record { function = the_raise; among = fixed 15 the_raise refl; named = refl }

  pub is_err_clear : IsFunction (codes "ErrClear")
  is_err_clear = record { function = the_err_clear; among = fixed 16 the_err_clear refl; named = refl }

  pub is_not_upgraded : IsFunction (codes "NotUpgraded")
  is_not_upgraded = record { function = the_not_upgraded; among = fixed 17 the_not_upgraded refl; named = refl }

  is_var_str : IsFunction (codes "VarStr")
  is_var_str = record { function = the_var_str; among = fixed 32 the_var_str refl; named = refl }

  is_var_byte : IsFunction (codes "VarByte")
  is_var_byte = record { function = the_var_byte; among = fixed 34 the_var_byte refl; named = refl }

  is_var_short : IsFunction (codes "VarShort")
  is_var_short = record { function = the_var_short; among = fixed 35 the_var_short refl; named = refl }

  is_var_int : IsFunction (codes "VarInt")
  is_var_int = record { function = the_var_int; among = fixed 36 the_var_int refl; named = refl }

  is_var_bool : IsFunction (codes "VarBool")
  is_var_bool = record { function = the_var_bool; among = fixed 37 the_var_bool refl; named = refl }

  is_var_cur : IsFunction (codes "VarCur")
  is_var_cur = record { function = the_var_cur; among = fixed 38 the_var_cur refl; named = refl }

  -- ---- constants

  abbrev pub HasKnown : Exp → Type 0
  HasKnown e = AreKnown (paths_of_exp e)

  piece_known : (p : Piece) → HasKnown (piece_exp p)
  piece_known (quoted run) = tt
  piece_known (unit c) = (λ h. absurd (cc h), tt)

  joined_known : (e : Exp) (ps : List Piece) → HasKnown e → HasKnown (joined e ps)
  joined_known e [] h = h
  joined_known e (p ∷ ps) h =
      joined_known (net.binary op.Concat e (piece_exp p)) ps (known_append (paths_of_exp e) (paths_of_exp (piece_exp p)) h (piece_known p))

  pub constant_known : (h : Bool) (x : Value6) → HasKnown (constant_exp h x)
  constant_known h (v6.Boolean t) = tt
  constant_known h (v6.Byte m) = tt
  constant_known h (v6.Int z) = tt
  constant_known h (v6.Long z) = tt
  constant_known h (v6.Cur (pos m)) = tt
  constant_known h (v6.Cur (negsuc m)) = tt
  constant_known h (v6.Str units) = joined_known (text (pieces_of units).first) (pieces_of units).more tt
  constant_known h v6.Nothing = tt
  constant_known h (v6.Object k) = tt
  constant_known h v6.Empty = tt

  -- ---- conversions

  abbrev IsKnownConversion : Conversion → Type 0
  IsKnownConversion stands = Unit {0}
  IsKnownConversion (by_word w) = Unit {0}
  IsKnownConversion (by_support name) = IsFunction name
  IsKnownConversion text_object = Unit {0}
  IsKnownConversion (cut c units) = IsKnownConversion c

  applied_known : (c : Conversion) (e : Exp) → IsKnownConversion c → HasKnown e → HasKnown (applied c e)
  applied_known stands e k h = h
  applied_known (by_word w) e k h = h
  applied_known (by_support f) e k h = (λ s. (k, refl), known_append (paths_of_exp e) [] h tt)
  applied_known text_object e k h = h
  applied_known (cut c units) e k h = (λ s. (is_fix, refl), known_append (paths_of_exp (applied c e)) [] (applied_known c e k h) tt)

  counted_known : (w : CastWord) (name : List ℕ) (from : Ty) → IsFunction name → IsKnownConversion (counted w name from)
  counted_known w name types.variant k = k
  counted_known w name types.unknown k = tt
  counted_known w name _ k = tt

  count_known : (to : Ty) (w : CastWord) (name : List ℕ) (from : Ty) → IsFunction name → IsKnownConversion (to_count to w name from)
  count_known to w name from k = by (is_same_type from to)
    where
      by : (c : Bool) → IsKnownConversion (cond c stands (counted w name from))
      by true = tt
      by false = counted_known w name from k

  text_known : (from : Ty) → IsKnownConversion (to_text from)
  text_known types.currency = is_cur_text
  text_known types.variant = is_var_str
  text_known types.boolean = tt
  text_known types.byte = tt
  text_known types.integer = tt
  text_known types.long = tt
  text_known _ = tt

  variant_known : (from : Ty) → IsKnownConversion (to_variant from)
  variant_known types.boolean = tt
  variant_known types.byte = tt
  variant_known types.integer = tt
  variant_known types.long = tt
  variant_known types.currency = tt
  variant_known types.str = tt
  variant_known (types.fixed units) = tt
  variant_known _ = tt

  conversion_known : (from to : Ty) → IsKnownConversion (conversion from to)
  conversion_known from types.boolean = count_known types.boolean word.CBool (codes "VarBool") from is_var_bool
  conversion_known from types.byte = count_known types.byte word.CByte (codes "VarByte") from is_var_byte
  conversion_known from types.integer = count_known types.integer word.CShort (codes "VarShort") from is_var_short
  conversion_known from types.long = count_known types.long word.CInt (codes "VarInt") from is_var_int
  conversion_known from types.currency = count_known types.currency word.CDec (codes "VarCur") from is_var_cur
  conversion_known from types.str = text_known from
  conversion_known from (types.fixed units) = text_known from
  conversion_known from types.variant = variant_known from
  conversion_known from _ = tt

  abbrev SomeKnown : Option Exp → Type 0
  SomeKnown None = Unit {0}
  SomeKnown (Some l) = HasKnown l

  spelt_known : (origin : Origin) (o : Option Value6) → SomeKnown (spelt origin o)
  spelt_known origin None = tt
  spelt_known origin (Some x) = constant_known (is_hexadecimal origin) x

  literal_known : (to : Ty) (t : Term) → SomeKnown (literal_of to t)
  literal_known to (constant x origin) = spelt_known origin (converted_value to (Some x))
  literal_known to _ = tt

  as_known : (to : Ty) (e : Expr) → SomeKnown (literal_as to e)
  as_known to (typed from t) = by (takes_literals to && is_whole from)
    where
      by : (c : Bool) → SomeKnown (cond c (literal_of to t) None)
      by true = literal_known to t
      by false = tt

  or_known : (l : Option Exp) (e : Exp) → SomeKnown l → HasKnown e → HasKnown (literal_or l e)
  or_known None e h k = k
  or_known (Some l) e h k = h

  pub converted_known : (to : Ty) (e : Expr) (a : Exp) → HasKnown a → HasKnown (converted to e a)
  converted_known to e a h =
      or_known (literal_as to e) (applied (conversion (type_at e) to) a) (as_known to e)
      (applied_known (conversion (type_at e) to) a (conversion_known (type_at e) to) h)

  -- ---- operators

  pub operand_known : (c : Bool) (e : Expr) (a : Exp) → HasKnown a → HasKnown (operand c e a)
  operand_known true e a h = converted_known types.currency e a h
  operand_known false e a h = h

  pub checked_known : (ty : Ty) (e : Exp) → HasKnown e → HasKnown (checked ty e)
  checked_known types.currency e h = (λ s. (is_cur, refl), known_append (paths_of_exp e) [] h tt)
  checked_known _ e h = h

  pub unary_known : (o : UnOp) (ty : Ty) (e : Exp) → HasKnown e → HasKnown (typed_unary o ty e)
  unary_known u.Neg ty e h = checked_known ty (net.unary un.Neg e) h
  unary_known u.Not ty e h = h

  sum_known : (s : Bool) (ty : Ty) (a c : Exp) → HasKnown a → HasKnown c → HasKnown (cond s (net.binary op.Concat a c) (checked ty (net.binary op.Add a c)))
  sum_known true ty a c h k = known_append (paths_of_exp a) (paths_of_exp c) h k
  sum_known false ty a c h k = checked_known ty (net.binary op.Add a c) (known_append (paths_of_exp a) (paths_of_exp c) h k)

  pub operator_known : (o : BinOp) (s ty : Ty) (a c : Exp) → HasKnown a → HasKnown c → HasKnown (typed_operator o s ty a c)
  operator_known b.Pow s ty a c h k = tt
  operator_known b.Div s ty a c h k = tt
  operator_known b.Like s ty a c h k = tt
  operator_known b.Add s ty a c h k = sum_known (is_text s) ty a c h k
  operator_known b.Sub s ty a c h k = checked_known ty (signed b.Sub a c) (known_append (paths_of_exp a) (paths_of_exp c) h k)
  operator_known b.Mul s ty a c h k = checked_known ty (signed b.Mul a c) (known_append (paths_of_exp a) (paths_of_exp c) h k)
  operator_known b.IntDiv s ty a c h k = known_append (paths_of_exp a) (paths_of_exp c) h k
  operator_known b.Mod s ty a c h k = known_append (paths_of_exp a) (paths_of_exp c) h k
  operator_known b.Concat s ty a c h k = known_append (paths_of_exp a) (paths_of_exp c) h k
  operator_known b.Equal s ty a c h k = known_append (paths_of_exp a) (paths_of_exp c) h k
  operator_known b.NotEqual s ty a c h k = known_append (paths_of_exp a) (paths_of_exp c) h k
  operator_known b.Less s ty a c h k = known_append (paths_of_exp a) (paths_of_exp c) h k
  operator_known b.Greater s ty a c h k = known_append (paths_of_exp a) (paths_of_exp c) h k
  operator_known b.LessEqual s ty a c h k = known_append (paths_of_exp a) (paths_of_exp c) h k
  operator_known b.GreaterEqual s ty a c h k = known_append (paths_of_exp a) (paths_of_exp c) h k
  operator_known b.Is s ty a c h k = known_append (paths_of_exp a) (paths_of_exp c) h k
  operator_known b.And s ty a c h k = known_append (paths_of_exp a) (paths_of_exp c) h k
  operator_known b.Or s ty a c h k = known_append (paths_of_exp a) (paths_of_exp c) h k
  operator_known b.Xor s ty a c h k = known_append (paths_of_exp a) (paths_of_exp c) h k
  operator_known b.Eqv s ty a c h k = known_append (paths_of_exp a) (paths_of_exp c) h k
  operator_known b.Imp s ty a c h k = known_append (paths_of_exp a) (paths_of_exp c) h k

  pub printed_known : (ty : Ty) (e : Exp) → HasKnown e → HasKnown (printed ty e)
  printed_known types.boolean e h = h
  printed_known types.byte e h = (λ s. (is_print_num, refl), known_append (paths_of_exp e) [] h tt)
  printed_known types.integer e h = (λ s. (is_print_num, refl), known_append (paths_of_exp e) [] h tt)
  printed_known types.long e h = (λ s. (is_print_num, refl), known_append (paths_of_exp e) [] h tt)
  printed_known types.currency e h = (λ s. (is_print_num, refl), known_append (paths_of_exp e) [] h tt)
  printed_known types.variant e h = (λ s. (is_print_var, refl), known_append (paths_of_exp e) [] h tt)
  printed_known _ e h = h
