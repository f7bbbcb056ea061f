-- The lines of declarations are read back.
use Rattle.std.proofs.Common.{◌≡◌, ℕ, true, false, not, ◌&&◌, ◌==◌, List, [], ◌∷◌, ◌++◌, map, codes, refl, sym, ap, ◌∙◌, append_assoc, append-nil, Option, Some}
use Rattle.std.specs.Prelude.{drop, option_map, option_and_then}
use Rattle.std.specs.List.{list_all}
use Rattle.std.proofs.lemmas.Bool.{not-true}
use Rattle.net_tree.specs.declared.declaration.NetClose.{NetClose}
use Rattle.net_tree.specs.declared.declaration.NetClose.TheVariants as close
use Rattle.net_tree.specs.declared.declaration.NetPassing.{NetPassing}
use Rattle.net_tree.specs.declared.declaration.NetPassing.TheVariants as passing
use Rattle.net_tree.specs.declared.declaration.NetVisibility.{NetVisibility}
use Rattle.net_tree.specs.Types as ty
use Rattle.net_tree.specs.Types.{TypeName}
use Rattle.net_tree.specs.Tree.{Constant, Dim, Exp, Field, Param, Property, Variable, constant, field, field_comment, function, local, set_part, static_local, sub}
use Rattle.net_tree.specs.Spelling.{is_identifier, name_text, separated}
use Rattle.net_tree.specs.Expressions.{exp_text, is_writable_whole, is_writable_type, rank_text, type_text}
use Rattle.net_tree.proofs.TypeDepths.{element_can}
use Rattle.net_tree.specs.Lines.{is_writable_option}
use Rattle.net_tree.specs.Declarations.{close_text, declared_text, dim_text, field_text, is_writable_constant, is_writable_dim, is_writable_field, is_writable_param, is_writable_variable, param_text, params_text, passing_text, value_text, variable_text}
use Rattle.net_exprs.specs.Ends.{begins_with, ends_type}
use Rattle.net_exprs.specs.Fitting.{fits_exp, fits_name, fits_type}
use Rattle.net_exprs.specs.Types.{type_at}
use Rattle.net_exprs.proofs.Words.{both_true, name_reads}
use Rattle.phrase_laws.proofs.TypesRead.{rank_reads, type_reads}
use Rattle.net_reader.specs.DeclarationReader.{Declared, Signature, close_at, constant_in, declared_at, declared_behind, dim_at, field_at, function_in, param_at, param_of, params_at, property_in, set_in, signature_at, sub_by, sub_in, value_in, variable_in}
use Rattle.net_reader.specs.Fits.{fits_constant, fits_dim, fits_field, fits_option, fits_variable}
use Rattle.net_reader.specs.LineReader.{exp_in}
use Rattle.net_reader.specs.Words.{line_words}
use Rattle.net_reader.proofs.ItemsRead.{all_items_read}
use Rattle.net_reader.proofs.LinesRead.{exp_reads, first_item, behind_first}
use Rattle.net_reader.proofs.Openings.{name_is_no_word}
use Rattle.net_reader.proofs.Tests.{if_false}
use Rattle.net_reader.proofs.Units.{units_read}

-- ---- what a name is declared as

abbrev pub declares : List ℕ → TypeName → Declared
declares name t = record { name = name; ty = t }

array_again : (n r t rest : List ℕ) → n ++ r ++ codes " As " ++ t ++ rest ≡ n ++ (r ++ (codes " As " ++ (t ++ rest)))
array_again n r t rest = simp append_assoc

plain_again : (n t rest : List ℕ) → n ++ codes " As " ++ t ++ rest ≡ n ++ (codes " As " ++ (t ++ rest))
plain_again n t rest = simp append_assoc

plain_reads : (name : List ℕ) (t : TypeName) (rest : List ℕ) → is_identifier name ≡ true → is_writable_type t ≡ true → ends_type rest ≡ true →
    declared_at (name_text name ++ codes " As " ++ type_text t ++ rest) ≡ Some (declares name t, rest)
plain_reads name t rest h k ends =
    ap declared_at (plain_again (name_text name) (type_text t) rest)
    ∙ ap (option_and_then (λ (r : List ℕ × List ℕ). declared_behind r.0 r.1)) (name_reads name (codes " As " ++ (type_text t ++ rest)) h refl)
    ∙ ap (option_map {U = Declared × List ℕ} (λ (t : TypeName × List ℕ). (declares name t.0, t.1))) (type_reads t rest k ends)

pub declared_reads : (name : List ℕ) (t : TypeName) (rest : List ℕ) → is_identifier name ≡ true → is_writable_type t ≡ true → ends_type rest ≡ true →
    declared_at (declared_text name t ++ rest) ≡ Some (declares name t, rest)
declared_reads name (ty.array_of element rank) rest h k ends =
    let can = element_can element rank k in
    ap declared_at (array_again (name_text name) (rank_text rank) (type_text element) rest)
    ∙ ap (option_and_then (λ (r : List ℕ × List ℕ). declared_behind r.0 r.1)) (name_reads name (rank_text rank ++ (codes " As " ++ (type_text element ++ rest))) h refl)
    ∙ ap (option_and_then {U = Declared × List ℕ} (λ (rank : ℕ × List ℕ).
    option_map {U = Declared × List ℕ} (λ (t : TypeName × List ℕ). (declares name (ty.array_of t.0 rank.0), t.1)) (type_at (drop 4 rank.1))))
    (rank_reads rank (codes " As " ++ (type_text element ++ rest)) (not-true (rank == 0) can.1))
    ∙ ap (option_map {U = Declared × List ℕ} (λ (t : TypeName × List ℕ). (declares name (ty.array_of t.0 rank), t.1))) (type_reads element rest can.0 ends)
declared_reads name t rest h k ends = plain_reads name t rest h k ends

-- ---- variables and constants

value_ends : (value : Option Exp) → ends_type (value_text value) ≡ true
value_ends Option.None = refl
value_ends (Some e) = refl

value_reads : (value : Option Exp) → is_writable_option value ≡ true → fits_option value ≡ true → value_in (value_text value) ≡ Some value
value_reads Option.None h k = refl
value_reads (Some e) h k = ap (option_map (λ (e : Exp). Some e)) (exp_reads e h k)

pub variable_reads : (v : Variable) → is_writable_variable v ≡ true → fits_variable v ≡ true → variable_in (variable_text v) ≡ Some v
variable_reads v h k =
    let two = both_true (is_identifier v.name && is_writable_type v.ty) (is_writable_option v.value) h in
    let one = both_true (is_identifier v.name) (is_writable_type v.ty) two.0 in
    ap (option_and_then (λ (d : Declared × List ℕ).
    option_map {U = Variable} (λ (value : Option Exp). record { name = d.0.name; ty = d.0.ty; value = value }) (value_in d.1)))
    (declared_reads v.name v.ty (value_text v.value) one.0 one.1 (value_ends v.value))
    ∙ ap (option_map {U = Variable} (λ (value : Option Exp). record { name = v.name; ty = v.ty; value = value })) (value_reads v.value two.1 (both_true (fits_name v.name && fits_type v.ty) (fits_option v.value) k).1)

-- a constant behind its word
pub constant_reads : (c : Constant) → is_writable_constant c ≡ true → fits_constant c ≡ true →
    constant_in (declared_text c.name c.ty ++ codes " = " ++ exp_text c.value) ≡ Some c
constant_reads c h k =
    let two = both_true (is_identifier c.name && is_writable_type c.ty) (is_writable_whole c.value) h in
    let one = both_true (is_identifier c.name) (is_writable_type c.ty) two.0 in
    ap constant_in (append_assoc (declared_text c.name c.ty) (codes " = ") (exp_text c.value))
    ∙ ap (option_and_then (λ (d : Declared × List ℕ).
    option_map {U = Constant} (λ (value : Exp). record { name = d.0.name; ty = d.0.ty; value = value }) (exp_in (drop 3 d.1))))
    (declared_reads c.name c.ty (codes " = " ++ exp_text c.value) one.0 one.1 refl)
    ∙ ap (option_map {U = Constant} (λ (value : Exp). record { name = c.name; ty = c.ty; value = value })) (exp_reads c.value two.1 (both_true (fits_name c.name && fits_type c.ty) (fits_exp c.value) k).1)

pub dim_reads : (d : Dim) → is_writable_dim d ≡ true → fits_dim d ≡ true → dim_at (dim_text d) ≡ Some d
unfolding line_words
dim_reads (local v) h k = ap (option_map local) (variable_reads v h k)
dim_reads (static_local v) h k = ap (option_map static_local) (variable_reads v h k)
dim_reads (constant c) h k = ap (option_map constant) (constant_reads c h k)

pub dim_closes_none : (d : Dim) → close_at (dim_text d) ≡ Option.None
unfolding line_words
dim_closes_none (local v) = refl
dim_closes_none (static_local v) = refl
dim_closes_none (constant c) = refl

-- ---- parameters

param_of_reads : (p : NetPassing) (name : List ℕ) (t : TypeName) (rest : List ℕ) → is_identifier name ≡ true → is_writable_type t ≡ true → ends_type rest ≡ true →
    param_of p (declared_text name t ++ rest) ≡ Some (record { passing = p; name = name; ty = t }, rest)
param_of_reads p name t rest h k ends =
    ap (option_map {U = Param × List ℕ} (λ (d : Declared × List ℕ). (record { passing = p; name = d.0.name; ty = d.0.ty }, d.1))) (declared_reads name t rest h k ends)

passed_reads : (p : NetPassing) (name : List ℕ) (t : TypeName) (rest : List ℕ) → is_identifier name ≡ true → is_writable_type t ≡ true → ends_type rest ≡ true →
    param_at (passing_text p ++ declared_text name t ++ rest) ≡ Some (record { passing = p; name = name; ty = t }, rest)
unfolding line_words
passed_reads passing.Value name t rest h k ends = param_of_reads passing.Value name t rest h k ends
passed_reads passing.Reference name t rest h k ends = param_of_reads passing.Reference name t rest h k ends

param_reads : (p : Param) (rest : List ℕ) → is_writable_param p ≡ true → ends_type rest ≡ true → param_at (param_text p ++ rest) ≡ Some (p, rest)
param_reads p rest h ends =
    let can = both_true (is_identifier p.name) (is_writable_type p.ty) h in
    passed_reads p.passing p.name p.ty rest can.0 can.1 ends

passing_opens : (p : NetPassing) (more : List ℕ) → begins_with 41 (passing_text p ++ more) ≡ false
passing_opens passing.Value more = refl
passing_opens passing.Reference more = refl

param_opens : (x : Param) (xs : List Param) (rest : List ℕ) → begins_with 41 (separated (codes ", ") (map param_text (x ∷ xs)) ++ rest) ≡ false
param_opens x xs rest =
    let again : passing_text x.passing ++ declared_text x.name x.ty ++ behind_first param_text xs ++ rest
    ≡ passing_text x.passing ++ (declared_text x.name x.ty ++ (behind_first param_text xs ++ rest)) = simp append_assoc in
    ap (λ text. begins_with 41 (text ++ rest)) (first_item param_text x xs)
    ∙ ap (begins_with 41) again
    ∙ passing_opens x.passing (declared_text x.name x.ty ++ (behind_first param_text xs ++ rest))

pub params_read : (params : List Param) (rest : List ℕ) → list_all is_writable_param params ≡ true → params_at (params_text params ++ rest) ≡ Some (params, rest)
params_read [] rest h = refl
params_read (x ∷ xs) rest h =
    let text = separated (codes ", ") (map param_text (x ∷ xs)) in
    ap (λ z. params_at (40 ∷ z)) (append_assoc text (codes ")") rest)
    ∙ if_false (begins_with 41 (text ++ (41 ∷ rest))) _ _ (param_opens x xs (41 ∷ rest))
    ∙ ap (option_map {U = List Param × List ℕ} (λ (r : List Param × List ℕ). (r.0, drop 1 r.1)))
    (all_items_read param_at param_text is_writable_param ends_type param_reads (λ more. refl) x xs (41 ∷ rest) h refl refl)

-- ---- heads

abbrev signs : List ℕ → List Param → Signature
signs name params = record { name = name; params = params }

pub signature_reads : (name : List ℕ) (params : List Param) (rest : List ℕ) → is_identifier name ≡ true → list_all is_writable_param params ≡ true →
    signature_at (name_text name ++ params_text params ++ rest) ≡ Some (signs name params, rest)
signature_reads name params rest h k =
    ap signature_at (append_assoc (name_text name) (params_text params) rest)
    ∙ ap (option_and_then {U = Signature × List ℕ} (λ (n : List ℕ × List ℕ).
    option_map {U = Signature × List ℕ} (λ (r : List Param × List ℕ). (signs n.0 r.0, r.1)) (params_at n.1)))
    (name_reads name (params_text params ++ rest) h refl)
    ∙ ap (option_map {U = Signature × List ℕ} (λ (r : List Param × List ℕ). (signs name r.0, r.1))) (params_read params rest k)

pub sub_reads : (v : NetVisibility) (name : List ℕ) (params : List Param) → is_identifier name ≡ true → list_all is_writable_param params ≡ true →
    sub_in v (name_text name ++ params_text params) ≡ Some (sub v name params)
sub_reads v name params h k =
    ap (λ word. sub_by v word (name_text name ++ params_text params)) (name_is_no_word name (params_text params) h refl)
    ∙ ap (λ text. option_map (λ (s : Signature × List ℕ). sub v s.0.name s.0.params) (signature_at text)) (sym (append-nil (name_text name ++ params_text params)))
    ∙ ap (option_map (λ (s : Signature × List ℕ). sub v s.0.name s.0.params)) (signature_reads name params [] h k)

typed_again : (n p t : List ℕ) → n ++ p ++ codes " As " ++ t ≡ n ++ p ++ (codes " As " ++ t)
typed_again n p t = append_assoc (n ++ p) (codes " As ") t

type_reads_all : (t : TypeName) → is_writable_type t ≡ true → type_at (type_text t) ≡ Some (t, [])
type_reads_all t h = ap type_at (sym (append-nil (type_text t))) ∙ type_reads t [] h refl

pub function_reads : (v : NetVisibility) (name : List ℕ) (params : List Param) (t : TypeName) →
    is_identifier name ≡ true → list_all is_writable_param params ≡ true → is_writable_type t ≡ true →
    function_in v (name_text name ++ params_text params ++ codes " As " ++ type_text t) ≡ Some (function v name params t)
function_reads v name params t h k l =
    ap (function_in v) (typed_again (name_text name) (params_text params) (type_text t))
    ∙ ap (option_and_then (λ (s : Signature × List ℕ). option_map (λ (t : TypeName × List ℕ). function v s.0.name s.0.params t.0) (type_at (drop 4 s.1))))
    (signature_reads name params (codes " As " ++ type_text t) h k)
    ∙ ap (option_map (λ (t : TypeName × List ℕ). function v name params t.0)) (type_reads_all t l)

abbrev pub without_parts : NetVisibility → List ℕ → List Param → TypeName → Property
without_parts v name params t = record { visibility = v; name = name; params = params; ty = t; get_comments = []; get = Option.None; set_comments = []; set = Option.None }

pub property_reads : (v : NetVisibility) (name : List ℕ) (params : List Param) (t : TypeName) →
    is_identifier name ≡ true → list_all is_writable_param params ≡ true → is_writable_type t ≡ true →
    property_in v (name_text name ++ params_text params ++ codes " As " ++ type_text t) ≡ Some (without_parts v name params t)
property_reads v name params t h k l =
    ap (property_in v) (typed_again (name_text name) (params_text params) (type_text t))
    ∙ ap (option_and_then (λ (s : Signature × List ℕ). option_map (λ (t : TypeName × List ℕ). without_parts v s.0.name s.0.params t.0) (type_at (drop 4 s.1))))
    (signature_reads name params (codes " As " ++ type_text t) h k)
    ∙ ap (option_map (λ (t : TypeName × List ℕ). without_parts v name params t.0)) (type_reads_all t l)

-- a Set behind its word
pub set_reads : (name : List ℕ) (t : TypeName) → is_identifier name ≡ true → is_writable_type t ≡ true →
    set_in (codes "(ByVal " ++ declared_text name t ++ codes ")") ≡ Some (set_part name t)
set_reads name t h k = ap (option_map (λ (d : Declared × List ℕ). set_part d.0.name d.0.ty)) (declared_reads name t (codes ")") h k refl)

pub close_reads : (c : NetClose) → close_at (close_text c) ≡ Some c
unfolding line_words
close_reads close.EndSub = refl
close_reads close.EndFunction = refl
close_reads close.EndGet = refl
close_reads close.EndSet = refl

pub field_reads : (f : Field) → is_writable_field f ≡ true → fits_field f ≡ true → field_at (field_text f) ≡ Some f
unfolding line_words
field_reads (field_comment units) h k = ap (option_map field_comment) (units_read units h k)
field_reads (field name t) h k =
    let can = both_true (is_identifier name) (is_writable_type t) h in
    ap (λ text. option_map (λ (d : Declared × List ℕ). field d.0.name d.0.ty) (declared_at text)) (sym (append-nil (declared_text name t)))
    ∙ ap (option_map (λ (d : Declared × List ℕ). field d.0.name d.0.ty)) (declared_reads name t [] can.0 can.1 refl)
