-- Parts of declarations: the part without memory that a part of the code stands for, and which of them the code can hold.
use Rattle.std.specs.Prelude.{ℕ, Bool, ◌&&◌, cond, List, [], drop, map, Option, Some, None, option_map, option_and_then}
use Rattle.std.specs.Global.{Box}
use Rattle.std.specs.List.{list_all}
use Rattle.net_tree.specs.declared.declaration.NetParam.{NetParam}
use Rattle.net_tree.specs.declared.expression.NetExpr.{NetExpr}
use Rattle.net_tree.specs.Tree.{Exp, Field, Param, Property, field}
use Rattle.net_tree.specs.Types.{TypeName, array_of}
use Rattle.net_tree.specs.View.{exp_of, param_of, type_name_of}
use Rattle.net_exprs.specs.Ends.{begins_with}
use Rattle.net_exprs.specs.Fitting.{fits_name, fits_type}
use Rattle.net_exprs.specs.Types.{rank_at, type_at}
use Rattle.net_reader.specs.declared.declarations.Declared as code_declared
use Rattle.net_reader.specs.declared.signatures.Signature as code_signature
use Rattle.net_reader.specs.declared.heads.PropertyHead.{PropertyHead}
use Rattle.net_reader.specs.DeclarationReader.{Declared, Signature, declared_at}
use Rattle.net_reader.specs.Fits.{fits_param}

-- a name with its type
abbrev pub declared_of : code_declared.Declared → Declared
declared_of d = record { name = d.name; ty = type_name_of d.ty }

abbrev pub fits_declared : Declared → Bool
fits_declared d = fits_name d.name && fits_type d.ty

-- the type of an array of a rank, from behind its parentheses
abbrev pub ranked_type : ℕ → List ℕ → Option (TypeName × List ℕ)
ranked_type rank text = option_map (λ (t : TypeName × List ℕ). (array_of t.0 rank, t.1)) (type_at (drop 4 text))

-- the same from its parentheses
abbrev pub array_type : List ℕ → Option (TypeName × List ℕ)
array_type text = option_and_then (λ (rank : ℕ × List ℕ). ranked_type rank.0 rank.1) (rank_at text)

-- the type of what a name is declared as, from behind the name
abbrev pub type_behind : List ℕ → Option (TypeName × List ℕ)
type_behind text = cond (begins_with 40 text) (array_type text) (type_at (drop 4 text))

-- the value that a variable begins with
abbrev pub value_of : Option (Box NetExpr) → Option Exp
value_of value = option_map (λ e. exp_of e.value) value

-- the same where one is written, by its expression
abbrev pub present_value : Option Exp → Option (Option Exp)
present_value found = option_map (λ (e : Exp). Some e) found

-- a field of a structure, from behind the word that begins it
abbrev pub public_field : List ℕ → Option Field
public_field text = option_map (λ (d : Declared × List ℕ). field d.0.name d.0.ty) (declared_at text)

-- parameters
abbrev pub params_of : List NetParam → List Param
params_of params = map param_of params

abbrev pub fits_params : List Param → Bool
fits_params params = list_all fits_param params

-- a name with parameters
abbrev pub signature_of : code_signature.Signature → Signature
signature_of s = record { name = s.name; params = params_of s.params.items }

abbrev pub fits_signature : Signature → Bool
fits_signature s = fits_name s.name && fits_params s.params

-- a property without its parts
abbrev pub property_head_of : PropertyHead → Property
property_head_of p = record { visibility = p.visibility; name = p.name; params = params_of p.params.items; ty = type_name_of p.ty; get_comments = []; get = None; set_comments = []; set = None }
