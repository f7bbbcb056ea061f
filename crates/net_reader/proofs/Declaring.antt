-- What a declaration is read as, by its parts, and where one of them isn't read.
use Rattle.std.proofs.Common.{◌≡◌, ℕ, ◌≤◌, ◌<◌, Bool, true, false, ◌&&◌, cond, nat_le, List, [], ◌∷◌, length, drop, refl, sym, ap, arith, ◌∙◌, leb-true, lt-ltb, Option, Some, None, option_map, option_and_then, Result, Err}
use Rattle.std.proofs.lemmas.Bool.{leb-false}
use Rattle.net_tree.specs.declared.expression.NetType.{NetType}
use Rattle.net_tree.specs.Depth.{depth_type}
use Rattle.net_tree.specs.Types.{TypeName, array_of}
use Rattle.net_tree.specs.Tree.{Constant, Dim, Exp, Variable, constant, field, field_comment, local, static_local}
use Rattle.net_exprs.specs.declared.fail.PhraseFail.{PhraseFail}
use Rattle.net_exprs.specs.declared.fail.PhraseFail.TheVariants as fail
use Rattle.net_exprs.specs.Answers.{FailsFor}
use Rattle.net_exprs.specs.Ends.{begins_with}
use Rattle.net_exprs.specs.Names.{name_at}
use Rattle.net_exprs.specs.Types.{rank_at, type_at}
use Rattle.net_exprs.specs.Fitting.{fits_exp, fits_name, fits_rank, fits_type}
use Rattle.net_exprs.proofs.Answering.{fails_over, fails_up}
use Rattle.net_exprs.proofs.ArrayFits.{array_fits, too_many, unfit_element, unfit_rank}
use Rattle.net_reader.specs.Answers.{FailsWhole}
use Rattle.net_reader.specs.DeclarationReader.{Declared, constant_in, declared_at, declared_behind, value_in, variable_in}
use Rattle.net_reader.specs.FileLines.{units_in}
use Rattle.net_reader.specs.Fits.{fits_constant, fits_dim, fits_field, fits_option, fits_text, fits_variable}
use Rattle.net_reader.specs.LineReader.{exp_in}
use Rattle.net_reader.specs.Parts.{array_type, fits_declared, present_value, public_field, ranked_type, type_behind}
use Rattle.net_reader.proofs.Failures.{fails_whole, misfits_always, misfits_end, misfits_map, misfits_then, misfits_whole, whole_always, whole_fails, whole_map}

pub first_false : (a b : Bool) → a ≡ false → a && b ≡ false
first_false a b h = rw h refl

pub second_false : (a b : Bool) → b ≡ false → a && b ≡ false
second_false true b h = h
second_false false b h = refl

-- ---- the type behind a name

pub array_is_too_deep : (t : TypeName) (rank : ℕ) → nat_le (depth_type t) 999 ≡ false → fits_type (array_of t rank) ≡ false
array_is_too_deep t rank h = let more = leb-false (depth_type t) 999 h in too_many (array_of t rank) (omega (arith, more))

pub array_is_held : (t : TypeName) (rank : ℕ) → nat_le (depth_type t) 999 ≡ true → rank < 256 → fits_type t ≡ true → fits_type (array_of t rank) ≡ true
array_is_held t rank h r k = let less = leb-true (depth_type t) 999 h in array_fits t rank k (lt-ltb rank 256 r) (omega (arith, less))

pub ranked_is_too_deep : (rank : ℕ) (text : List ℕ) (t : TypeName) (rest : List ℕ) (e : PhraseFail) → type_at (drop 4 text) ≡ Some (t, rest)
    → (◌≡◌ {A = Result NetType PhraseFail} (Err e) (Err fail.NotNet) → fits_type (array_of t rank) ≡ false) → FailsFor fits_type (ranked_type rank text) e
ranked_is_too_deep rank text t rest e is h =
    fails_over NetType fits_type (ranked_type rank text) e (fits_type (array_of t rank) ≡ false) h
    (λ unfit. rw is unfit)

pub ranked_fails : (rank : ℕ) (text : List ℕ) (e : PhraseFail) → FailsFor fits_type (type_at (drop 4 text)) e → FailsFor fits_type (ranked_type rank text) e
ranked_fails rank text e h =
    fails_up fits_type fits_type (type_at (drop 4 text)) (ranked_type rank text) e
    (misfits_map fits_type fits_type (type_at (drop 4 text)) (λ t. (array_of t.0 rank, t.1)) (λ t k. unfit_element t.0 rank k)) h

pub array_fails : (text : List ℕ) (e : PhraseFail) → FailsFor fits_rank (rank_at text) e → FailsFor fits_type (array_type text) e
array_fails text e h =
    fails_up fits_rank fits_type (rank_at text) (array_type text) e
    (misfits_then fits_rank fits_type (rank_at text) (λ rank. ranked_type rank.0 rank.1)
    (λ rank k. misfits_always fits_type (type_at (drop 4 rank.1)) (λ t. (array_of t.0 rank.0, t.1)) (λ t. unfit_rank t.0 rank.0 k))) h

-- ---- a name with its type

abbrev with_name : List ℕ → TypeName × List ℕ → Declared × List ℕ
with_name name t = (record { name = name; ty = t.0 }, t.1)

declared_is : (name text : List ℕ) → declared_behind name text ≡ option_map (with_name name) (type_behind text)
declared_is name text = go (begins_with 40 text) (rank_at text)
  where
    ranked : (rank : ℕ) (o : Option (TypeName × List ℕ)) → option_map (λ t. with_name name (array_of t.0 rank, t.1)) o ≡ option_map (with_name name) (option_map (λ t. (array_of t.0 rank, t.1)) o)
    ranked rank None = refl
    ranked rank (Some t) = refl

    go : (b : Bool) (o : Option (ℕ × List ℕ))
        → cond b (option_and_then (λ rank. option_map (λ t. with_name name (array_of t.0 rank.0, t.1)) (type_at (drop 4 rank.1))) o) (option_map (with_name name) (type_at (drop 4 text)))
        ≡ option_map (with_name name) (cond b (option_and_then (λ rank. ranked_type rank.0 rank.1) o) (type_at (drop 4 text)))
    go false o = refl
    go true None = refl
    go true (Some rank) = ranked rank.0 (type_at (drop 4 rank.1))

declared_by : (text name rest : List ℕ) → name_at text ≡ Some (name, rest) → declared_at text ≡ option_map (with_name name) (type_behind rest)
declared_by text name rest h = ap (option_and_then (λ r. declared_behind r.0 r.1)) h ∙ declared_is name rest

pub declared_reads : (text name rest : List ℕ) (t : TypeName) (beyond : List ℕ) → name_at text ≡ Some (name, rest) → type_behind rest ≡ Some (t, beyond)
    → declared_at text ≡ Some (record { name = name; ty = t }, beyond)
declared_reads text name rest t beyond h k = declared_by text name rest h ∙ ap (option_map (with_name name)) k

pub declared_fails_at_name : (text : List ℕ) (e : PhraseFail) → FailsFor fits_name (name_at text) e → FailsFor fits_declared (declared_at text) e
declared_fails_at_name text e h =
    fails_up fits_name fits_declared (name_at text) (declared_at text) e
    (misfits_then fits_name fits_declared (name_at text) (λ r. declared_behind r.0 r.1)
    (λ r k. rw (declared_is r.0 r.1) (misfits_always fits_declared (type_behind r.1) (with_name r.0) (λ t. first_false (fits_name r.0) (fits_type t.0) k)))) h

pub declared_fails_at_type : (text name rest : List ℕ) (e : PhraseFail) → name_at text ≡ Some (name, rest) → FailsFor fits_type (type_behind rest) e → FailsFor fits_declared (declared_at text) e
declared_fails_at_type text name rest e is h =
    fails_up fits_type fits_declared (type_behind rest) (declared_at text) e
    (λ k. rw (declared_by text name rest is) (misfits_map fits_type fits_declared (type_behind rest) (with_name name) (λ t l. second_false (fits_name name) (fits_type t.0) l) k)) h

-- ---- a value, and what has one

pub value_fails : (o : Option Exp) (e : PhraseFail) → FailsWhole fits_exp o e → FailsWhole fits_option (present_value o) e
value_fails o e h = whole_fails fits_exp fits_option o (present_value o) e (whole_map fits_exp fits_option o (λ e. Some e) (λ e k. k)) h

pub value_is_present : (text rest : List ℕ) → 1 ≤ length text → rest ≡ drop 3 text → value_in text ≡ present_value (exp_in rest)
value_is_present [] rest some is = absurd (omega (arith, some))
value_is_present (c ∷ s) rest some is = ap (λ r. present_value (exp_in r)) (sym is)

abbrev with_value : Declared → Option Exp → Variable
with_value d value = record { name = d.name; ty = d.ty; value = value }

variable_by : (text : List ℕ) (d : Declared) (rest : List ℕ) → declared_at text ≡ Some (d, rest) → variable_in text ≡ option_map (with_value d) (value_in rest)
variable_by text d rest h = ap (option_and_then (λ d. option_map (with_value d.0) (value_in d.1))) h

pub variable_reads : (text : List ℕ) (d : Declared) (rest : List ℕ) (value : Option Exp) → declared_at text ≡ Some (d, rest) → value_in rest ≡ Some value
    → variable_in text ≡ Some (record { name = d.name; ty = d.ty; value = value })
variable_reads text d rest value h k = variable_by text d rest h ∙ ap (option_map (with_value d)) k

pub variable_fails_at_name : (text : List ℕ) (e : PhraseFail) → FailsFor fits_declared (declared_at text) e → FailsWhole fits_variable (variable_in text) e
variable_fails_at_name text e h =
    fails_whole fits_declared fits_variable (declared_at text) (variable_in text) e
    (misfits_whole fits_declared fits_variable (declared_at text) (λ d. option_map (with_value d.0) (value_in d.1))
    (λ d k. whole_always fits_variable (value_in d.1) (with_value d.0) (λ value. first_false (fits_declared d.0) (fits_option value) k))) h

pub variable_fails_at_value : (text : List ℕ) (d : Declared) (rest : List ℕ) (e : PhraseFail) → declared_at text ≡ Some (d, rest) → FailsWhole fits_option (value_in rest) e → FailsWhole fits_variable (variable_in text) e
variable_fails_at_value text d rest e is h =
    whole_fails fits_option fits_variable (value_in rest) (variable_in text) e
    (λ k. rw (variable_by text d rest is) (whole_map fits_option fits_variable (value_in rest) (with_value d) (λ value l. second_false (fits_declared d) (fits_option value) l) k)) h

abbrev as_constant : Declared → Exp → Constant
as_constant d value = record { name = d.name; ty = d.ty; value = value }

constant_by : (text : List ℕ) (d : Declared) (rest : List ℕ) → declared_at text ≡ Some (d, rest) → constant_in text ≡ option_map (as_constant d) (exp_in (drop 3 rest))
constant_by text d rest h = ap (option_and_then (λ d. option_map (as_constant d.0) (exp_in (drop 3 d.1)))) h

pub constant_reads : (text : List ℕ) (d : Declared) (rest : List ℕ) (value : Exp) → declared_at text ≡ Some (d, rest) → exp_in (drop 3 rest) ≡ Some value
    → constant_in text ≡ Some (record { name = d.name; ty = d.ty; value = value })
constant_reads text d rest value h k = constant_by text d rest h ∙ ap (option_map (as_constant d)) k

pub constant_fails_at_name : (text : List ℕ) (e : PhraseFail) → FailsFor fits_declared (declared_at text) e → FailsWhole fits_constant (constant_in text) e
constant_fails_at_name text e h =
    fails_whole fits_declared fits_constant (declared_at text) (constant_in text) e
    (misfits_whole fits_declared fits_constant (declared_at text) (λ d. option_map (as_constant d.0) (exp_in (drop 3 d.1)))
    (λ d k. whole_always fits_constant (exp_in (drop 3 d.1)) (as_constant d.0) (λ value. first_false (fits_declared d.0) (fits_exp value) k))) h

pub constant_fails_at_value : (text : List ℕ) (d : Declared) (rest : List ℕ) (e : PhraseFail) → declared_at text ≡ Some (d, rest) → FailsWhole fits_exp (exp_in (drop 3 rest)) e → FailsWhole fits_constant (constant_in text) e
constant_fails_at_value text d rest e is h =
    whole_fails fits_exp fits_constant (exp_in (drop 3 rest)) (constant_in text) e
    (λ k. rw (constant_by text d rest is) (whole_map fits_exp fits_constant (exp_in (drop 3 rest)) (as_constant d) (λ value l. second_false (fits_declared d) (fits_exp value) l) k)) h

-- ---- a declaration at the head of a procedure

dim_fails : {X : Type 0} (fits : X → Bool) (make : X → Dim) → ((x : X) → fits x ≡ false → fits_dim (make x) ≡ false) → (o : Option X) (e : PhraseFail)
    → FailsWhole fits o e → FailsWhole fits_dim (option_map make o) e
dim_fails fits make same o e h = whole_fails fits fits_dim o (option_map make o) e (whole_map fits fits_dim o make same) h

pub local_fails : (text : List ℕ) (e : PhraseFail) → FailsWhole fits_variable (variable_in text) e → FailsWhole fits_dim (option_map local (variable_in text)) e
local_fails text = dim_fails fits_variable local (λ v k. k) (variable_in text)

pub static_fails : (text : List ℕ) (e : PhraseFail) → FailsWhole fits_variable (variable_in text) e → FailsWhole fits_dim (option_map static_local (variable_in text)) e
static_fails text = dim_fails fits_variable static_local (λ v k. k) (variable_in text)

pub local_constant_fails : (text : List ℕ) (e : PhraseFail) → FailsWhole fits_constant (constant_in text) e → FailsWhole fits_dim (option_map constant (constant_in text)) e
local_constant_fails text = dim_fails fits_constant constant (λ c k. k) (constant_in text)

-- ---- what stands in a structure

pub comment_fails : (text : List ℕ) (e : PhraseFail) → FailsWhole fits_text (units_in text) e → FailsWhole fits_field (option_map field_comment (units_in text)) e
comment_fails text e h = whole_fails fits_text fits_field (units_in text) (option_map field_comment (units_in text)) e (whole_map fits_text fits_field (units_in text) field_comment (λ units k. k)) h

pub field_fails : (text : List ℕ) (e : PhraseFail) → FailsFor fits_declared (declared_at text) e → FailsWhole fits_field (public_field text) e
field_fails text e h =
    fails_whole fits_declared fits_field (declared_at text) (public_field text) e
    (misfits_end fits_declared fits_field (declared_at text) (λ d. field d.0.name d.0.ty) (λ d k. k)) h
