-- The head of a part of a property, with the parameters and the result that it has there.
use Rattle.std.proofs.Common.{◌≡◌, ℕ, Bool, true, false, cond, ◌&&◌, List, [], ◌∷◌, ◌++◌, Option, Some, None, refl, sym, ap, ◌∙◌, nat_eq, append_assoc}
use Rattle.std.specs.Prelude.{slice_get, option_map}
use Rattle.std.specs.Cmp.Lexicographic.{bytes_decides, pointwise}
use Rattle.up_base.proofs.Tests.{both_true}
use Rattle.vb_tree.specs.BoundTree as types
use Rattle.vb_tree.specs.BoundTree.{Ty}
use Rattle.vb_tree.specs.declared.declared.ProcKind.{ProcKind}
use Rattle.vb_tree.specs.declared.declared.ProcKind.TheVariants as kind
use Rattle.vb_tree.specs.declared.declared.VarId.{VarId}
use Rattle.bound_tree.specs.Tree.{Declarations, Variable, Procedure}
use Rattle.bound_facts.specs.Locks.{is_same_type}
use Rattle.net_tree.specs.declared.declaration.NetClose.{NetClose}
use Rattle.net_tree.specs.declared.declaration.NetClose.TheVariants.{EndGet, EndSet}
use Rattle.net_tree.specs.Tree as net
use Rattle.net_tree.specs.Types.{TypeName}
use Rattle.net_tree.specs.declared.declaration.NetPassing.TheVariants as passing
use Rattle.written_trees.specs.Arguments.{is_property_kind}
use Rattle.written_trees.specs.Heads.{is_function, param_by, params_of, set_head, value_name, value_parameter, value_type, variable_of, without_last}
use Rattle.written_trees.specs.Names.{Scope}
use Rattle.written_trees.specs.Puts.{last_of}
use Rattle.written_trees.specs.Types.{type_with, variable_type}
use Rattle.net_run.specs.Members as members
use Rattle.run_matches.specs.CoveredVariables.{covers_type}
use Rattle.run_matches.specs.JoinedProperties.{are_like_params, is_like_param, variable_at}
use Rattle.run_statements.specs.Written.{first_type, written_result}

-- the value that is taken is the last parameter
one_param : (S : Scope) (v : VarId) (o : Option Variable) (x : Variable) → o ≡ Some x
    → members.value_param (value_name (option_map (λ (y : Variable). (v.0, y)) o)) (value_type S (option_map (λ (y : Variable). (v.0, y)) o))
    ≡ param_by S true v.0 o ++ []
one_param S v None x e = absurd (cc e)
one_param S v (Some y) x e = refl

taken_param : (S : Scope) (vs : List VarId) (x : Variable) → variable_at S.declarations (last_of vs) ≡ Some x
    → params_of S true (without_last vs)
    ++ members.value_param (value_name (variable_of S.declarations (last_of vs))) (value_type S (variable_of S.declarations (last_of vs))) ≡ params_of S true vs
taken_param S [] x e = absurd (cc e)
taken_param S (v ∷ []) x e = one_param S v (slice_get S.declarations.vars v.0) x e
taken_param S (v ∷ w ∷ vs) x e =
    append_assoc (param_by S true v.0 (slice_get S.declarations.vars v.0)) (params_of S true (without_last (w ∷ vs)))
    (members.value_param (value_name (variable_of S.declarations (last_of (w ∷ vs)))) (value_type S (variable_of S.declarations (last_of (w ∷ vs)))))
    ∙ ap (λ ps. param_by S true v.0 (slice_get S.declarations.vars v.0) ++ ps) (taken_param S (w ∷ vs) x e)

pub part_params : (S : Scope) (x : Procedure) (r : net.Property) (y : Variable) (b : Bool)
    → r.params ≡ params_of S true (cond b x.params (without_last x.params)) → variable_at S.declarations (cond b x.answer (last_of x.params)) ≡ Some y
    → members.params_by (Some r) (cond b net.get_part (set_head S x)) ≡ params_of S true x.params
part_params S x r y true same e = same
part_params S x r y false same e =
    ap (λ (ps : List net.Param). ps ++ members.value_param (value_name (value_parameter S x)) (value_type S (value_parameter S x))) same
    ∙ taken_param S x.params y e

-- ---- index parameters

-- a scalar is written by its type alone
same_word : (D : Declarations) (file : ℕ) (p q : Bool) (m n : ℕ) (s t : Ty) → covers_type s ≡ true → is_same_type s t ≡ true
    → type_with D file q n t ≡ type_with D file p m s
same_word D file p q m n types.boolean types.boolean c h = refl
same_word D file p q m n types.boolean _ c h = absurd (cc h)
same_word D file p q m n types.byte types.byte c h = refl
same_word D file p q m n types.byte _ c h = absurd (cc h)
same_word D file p q m n types.integer types.integer c h = refl
same_word D file p q m n types.integer _ c h = absurd (cc h)
same_word D file p q m n types.long types.long c h = refl
same_word D file p q m n types.long _ c h = absurd (cc h)
same_word D file p q m n types.currency types.currency c h = refl
same_word D file p q m n types.currency _ c h = absurd (cc h)
same_word D file p q m n types.str types.str c h = refl
same_word D file p q m n types.str _ c h = absurd (cc h)
same_word D file p q m n _ t c h = absurd (cc c)

-- an index parameter is written as that of the first part
same_param : (S : Scope) (v w : ℕ) (x y : Option Variable) → is_like_param x y ≡ true → param_by S true w y ≡ param_by S true v x
same_param S v w None y h = absurd (cc h)
same_param S v w (Some x) None h = absurd (cc h)
same_param S v w (Some x) (Some y) h =
    let like = both_true (covers_type x.ty) (is_same_type x.ty y.ty && pointwise nat_eq x.name y.name) h in
    let names = both_true (is_same_type x.ty y.ty) (pointwise nat_eq x.name y.name) like.1 in
    let param : List ℕ → TypeName → List net.Param = λ n t. record { passing = passing.Value; name = n; ty = t } ∷ [] in
    ap (λ n. param n (variable_type S.declarations S.facts S.file w y)) (sym ((bytes_decides x.name y.name).0 names.1))
    ∙ ap (param x.name)
    (same_word S.declarations S.file x.qualified y.qualified (S.facts.rank v) (S.facts.rank w) x.ty y.ty like.0 names.0)

pub same_params : (S : Scope) (vs ws : List VarId) → are_like_params S.declarations vs ws ≡ true → params_of S true ws ≡ params_of S true vs
same_params S [] [] h = refl
same_params S [] (w ∷ ws) h = absurd (cc h)
same_params S (v ∷ vs) [] h = absurd (cc h)
same_params S (v ∷ vs) (w ∷ ws) h =
    let x = slice_get S.declarations.vars v.0 in
    let y = slice_get S.declarations.vars w.0 in
    let both = both_true (is_like_param x y) (are_like_params S.declarations vs ws) h in
    ap (λ ps. ps ++ params_of S true ws) (same_param S v.0 w.0 x y both.0) ∙ ap (λ ps. param_by S true v.0 x ++ ps) (same_params S vs ws both.1)

pub part_result : (S : Scope) (x : Procedure) (r : net.Property) (k : ProcKind) → is_property_kind k ≡ true → r.name ≡ x.name
    → r.ty ≡ first_type S (slice_get S.declarations.procs x.first.0)
    → members.result_by (Some r) (cond (is_function k) net.get_part (set_head S x)) ≡ written_result S x k
part_result S x r kind.Sub h name ty = absurd (cc h)
part_result S x r kind.Function h name ty = absurd (cc h)
part_result S x r kind.Get h name ty = ap (λ n. Some (n, r.ty)) name ∙ ap (λ t. Some (x.name, t)) ty
part_result S x r kind.Let h name ty = refl
part_result S x r kind.Set h name ty = refl

pub chosen_part : (f : net.Head → NetClose → net.Procedure) (head : net.Head) (b : Bool)
    → cond b (f net.get_part EndGet) (f head EndSet) ≡ f (cond b net.get_part head) (cond b EndGet EndSet)
chosen_part f head true = refl
chosen_part f head false = refl
