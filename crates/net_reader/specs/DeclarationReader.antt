-- How the lines of declarations are read.
use Rattle.std.specs.Prelude.{ℕ, suc, cond, List, [], ◌∷◌, length, drop, Option, Some, None, option_map, option_and_then}
use Rattle.net_tree.specs.declared.declaration.NetClose.{NetClose}
use Rattle.net_tree.specs.declared.declaration.NetClose.TheVariants as close
use Rattle.net_tree.specs.declared.declaration.NetPassing.{NetPassing}
use Rattle.net_tree.specs.declared.declaration.NetPassing.TheVariants as passing
use Rattle.net_tree.specs.declared.declaration.NetVisibility.{NetVisibility}
use Rattle.net_tree.specs.declared.declaration.NetVisibility.TheVariants.{Public, Private, Friend}
use Rattle.net_tree.specs.Types.{TypeName, array_of}
use Rattle.net_tree.specs.Tree.{Constant, Dim, Exp, Field, Head, Param, Property, Variable, constant, field, field_comment, function, local, set_part, static_local, sub, sub_new}
use Rattle.net_exprs.specs.Names.{name_at}
use Rattle.net_exprs.specs.Types.{rank_at, type_at}
use Rattle.net_exprs.specs.Ends.{begins_with}
use Rattle.net_reader.specs.FileLines.{units_in}
use Rattle.net_reader.specs.Items.{items_at}
use Rattle.net_reader.specs.LineReader.{exp_in}
use Rattle.net_reader.specs.Words as w
use Rattle.net_reader.specs.Words.{behind_word, name_word_at, keyword_at}

-- a name and its type
pub record Declared : Type 0 where
  pub name : List ℕ
  pub ty : TypeName

-- what a name is declared as: an array where parentheses stand behind the name
abbrev pub declared_behind : List ℕ → List ℕ → Option (Declared × List ℕ)
declared_behind name text = cond (begins_with 40 text)
    (option_and_then (λ (rank : ℕ × List ℕ).
    option_map (λ (t : TypeName × List ℕ). (record { name = name; ty = array_of t.0 rank.0 }, t.1)) (type_at (drop 4 rank.1))) (rank_at text))
    (option_map (λ (t : TypeName × List ℕ). (record { name = name; ty = t.0 }, t.1)) (type_at (drop 4 text)))

abbrev pub declared_at : List ℕ → Option (Declared × List ℕ)
declared_at text = option_and_then (λ (r : List ℕ × List ℕ). declared_behind r.0 r.1) (name_at text)

-- the value that a variable begins with
abbrev pub value_in : List ℕ → Option (Option Exp)
value_in [] = Some None
value_in (c ∷ cs) = option_map (λ (e : Exp). Some e) (exp_in (drop 3 (c ∷ cs)))

abbrev pub variable_in : List ℕ → Option Variable
variable_in text = option_and_then (λ (d : Declared × List ℕ).
    option_map (λ (value : Option Exp). record { name = d.0.name; ty = d.0.ty; value = value }) (value_in d.1)) (declared_at text)

abbrev pub constant_in : List ℕ → Option Constant
constant_in text = option_and_then (λ (d : Declared × List ℕ).
    option_map (λ (value : Exp). record { name = d.0.name; ty = d.0.ty; value = value }) (exp_in (drop 3 d.1))) (declared_at text)

-- a declaration at the head of a procedure, by the word that begins it and what follows
abbrev pub dim_by : Option w.Word → List ℕ → Option Dim
dim_by (Some w.dim_word) text = option_map local (variable_in text)
dim_by (Some w.static_word) text = option_map static_local (variable_in text)
dim_by (Some w.const_word) text = option_map constant (constant_in text)
dim_by _ text = None

abbrev pub dim_at : List ℕ → Option Dim
dim_at text = dim_by (keyword_at text) (drop 1 (behind_word text))

abbrev pub param_of : NetPassing → List ℕ → Option (Param × List ℕ)
param_of passing text =
    option_map (λ (d : Declared × List ℕ). (record { passing = passing; name = d.0.name; ty = d.0.ty }, d.1)) (declared_at text)

abbrev pub param_by : Option w.Word → List ℕ → Option (Param × List ℕ)
param_by (Some w.by_val_word) text = param_of passing.Value text
param_by (Some w.by_ref_word) text = param_of passing.Reference text
param_by _ text = None

abbrev pub param_at : List ℕ → Option (Param × List ℕ)
param_at text = param_by (keyword_at text) (drop 6 text)

-- parameters between parentheses
abbrev pub params_at : List ℕ → Option (List Param × List ℕ)
params_at text = cond (begins_with 41 (drop 1 text)) (Some ([], drop 2 text))
    (option_map (λ (r : List Param × List ℕ). (r.0, drop 1 r.1)) (items_at param_at (suc (length (drop 1 text))) (drop 1 text)))

-- a name with parameters
pub record Signature : Type 0 where
  pub name : List ℕ
  pub params : List Param

abbrev pub signature_at : List ℕ → Option (Signature × List ℕ)
signature_at text = option_and_then (λ (n : List ℕ × List ℕ).
    option_map (λ (r : List Param × List ℕ). (record { name = n.0; params = r.0 }, r.1)) (params_at n.1)) (name_at text)

-- what stands behind Sub: a name, or New
abbrev pub sub_by : NetVisibility → Option w.Word → List ℕ → Option Head
sub_by visibility (Some word) text = Some sub_new
sub_by visibility None text = option_map (λ (s : Signature × List ℕ). sub visibility s.0.name s.0.params) (signature_at text)

abbrev pub sub_in : NetVisibility → List ℕ → Option Head
sub_in visibility text = sub_by visibility (name_word_at text) text

abbrev pub function_in : NetVisibility → List ℕ → Option Head
function_in visibility text = option_and_then (λ (s : Signature × List ℕ).
    option_map (λ (t : TypeName × List ℕ). function visibility s.0.name s.0.params t.0) (type_at (drop 4 s.1))) (signature_at text)

-- the value that a part of a property is given
abbrev pub set_in : List ℕ → Option Head
set_in text = option_map (λ (d : Declared × List ℕ). set_part d.0.name d.0.ty) (declared_at (drop 7 text))

-- a property without its parts
abbrev pub property_in : NetVisibility → List ℕ → Option Property
property_in visibility text = option_and_then (λ (s : Signature × List ℕ).
    option_map (λ (t : TypeName × List ℕ). record { visibility = visibility; name = s.0.name; params = s.0.params; ty = t.0; get_comments = []; get = None; set_comments = []; set = None })
    (type_at (drop 4 s.1))) (signature_at text)

abbrev pub visibility_of : Option w.Word → Option NetVisibility
visibility_of (Some w.public_word) = Some Public
visibility_of (Some w.private_word) = Some Private
visibility_of (Some w.friend_word) = Some Friend
visibility_of _ = None

-- the closing line of a procedure, by the word behind an End
abbrev pub close_of : Option w.Word → Option NetClose
close_of (Some w.sub_word) = Some close.EndSub
close_of (Some w.function_word) = Some close.EndFunction
close_of (Some w.get_word) = Some close.EndGet
close_of (Some w.set_word) = Some close.EndSet
close_of _ = None

abbrev pub close_by : Option w.Word → List ℕ → Option NetClose
close_by (Some w.end_word) text = close_of (keyword_at text)
close_by _ text = None

abbrev pub close_at : List ℕ → Option NetClose
close_at text = close_by (keyword_at text) (drop 1 (behind_word text))

abbrev pub field_by : Option w.Word → List ℕ → Option Field
field_by (Some w.public_word) text = option_map (λ (d : Declared × List ℕ). field d.0.name d.0.ty) (declared_at text)
field_by _ text = None

abbrev pub field_at : List ℕ → Option Field
field_at text = cond (begins_with 39 text) (option_map field_comment (units_in (drop 1 text))) (field_by (keyword_at text) (drop 1 (behind_word text)))
