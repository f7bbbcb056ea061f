-- The head of a written procedure stands for that of its source.
use Rattle.std.proofs.Common.{◌≡◌, ℕ, Bool, true, false, not, ◌&&◌, cond, List, [], ◌∷◌, ◌++◌, Option, Some, None, refl, sym, ap, subst, ◌∙◌}
use Rattle.std.specs.Prelude.{slice_get}
use Rattle.vb_tree.specs.declared.declared.Owner.{Owner}
use Rattle.vb_tree.specs.declared.declared.Owner.TheVariants as owner
use Rattle.vb_tree.specs.declared.declared.ProcKind.{ProcKind}
use Rattle.vb_tree.specs.declared.declared.ProcKind.TheVariants as kind
use Rattle.vb_tree.specs.declared.declared.VarId.{VarId}
use Rattle.bound_tree.specs.Tree.{Variable, Procedure}
use Rattle.net_tree.specs.declared.declaration.NetPassing.TheVariants as passing
use Rattle.net_tree.specs.Tree as net
use Rattle.written_trees.specs.Arguments.{is_property_kind}
use Rattle.net_tree.specs.Types.{TypeName}
use Rattle.net_run.specs.Members.{Code, result_by, result_of}
use Rattle.written_trees.specs.Heads.{written_visibility, passing_of, param_by, params_of, is_function, head_of, result_type, set_head}
use Rattle.written_trees.specs.Names.{Scope}
use Rattle.run_matches.specs.Sites.{Site}
use Rattle.run_matches.specs.Upgrades.{Upgrade}
use Rattle.run_statements.specs.Written.{StandsInProperty, WrittenProcedure, first_type, part_head, site_scope, written_result}
use Rattle.correspondence.specs.Lists.{Pairwise}
use Rattle.correspondence.specs.Heads.{numbered, variables_at, goes_by_reference, ParamCorresponds, HeadCorresponds, IsPartHead, PartHeadCorresponds}

own_mode : (o : Owner) → passing_of o ≡ cond (goes_by_reference o) passing.Reference passing.Value
own_mode (owner.Module file) = refl
own_mode (owner.Local p) = refl
own_mode (owner.Static p) = refl
own_mode (owner.Value p) = refl
own_mode (owner.Reference p) = refl
own_mode (owner.Answer p) = refl
own_mode (owner.Field t) = refl

mode_is : (by_value : Bool) (o : Owner)
    → cond by_value passing.Value (passing_of o) ≡ cond (not by_value && goes_by_reference o) passing.Reference passing.Value
mode_is true o = refl
mode_is false o = own_mode o

pub params_correspond : (S : Scope) (by_value : Bool) (vs : List VarId)
    → Pairwise (ParamCorresponds S by_value) (variables_at S.declarations vs) (params_of S by_value vs)
params_correspond S by_value [] = tt
params_correspond S by_value (v ∷ vs) = of_first (slice_get S.declarations.vars v.0) (params_correspond S by_value vs)
  where
    of_first : (o : Option Variable) → Pairwise (ParamCorresponds S by_value) (variables_at S.declarations vs) (params_of S by_value vs)
        → Pairwise (ParamCorresponds S by_value) (numbered v.0 o ++ variables_at S.declarations vs) (param_by S by_value v.0 o ++ params_of S by_value vs)
    of_first None more = more
    of_first (Some x) more = (record { name = refl; mode = mode_is by_value x.owner; ty = refl }, more)

head_by : (S : Scope) (x : Procedure) (k : ProcKind) → is_property_kind k ≡ false
    → HeadCorresponds S x k
    (cond (is_function k) (net.function (written_visibility x.visibility) x.name (params_of S false x.params) (result_type S x))
    (net.sub (written_visibility x.visibility) x.name (params_of S false x.params)))
head_by S x kind.Sub h = (refl, refl, params_correspond S false x.params)
head_by S x kind.Function h = (refl, refl, params_correspond S false x.params, refl)
head_by S x kind.Get h = absurd (cc h)
head_by S x kind.Let h = absurd (cc h)
head_by S x kind.Set h = absurd (cc h)

pub head_corresponds : (S : Scope) (x : Procedure) → is_property_kind x.kind ≡ false → HeadCorresponds S x x.kind (head_of S x x.name)
head_corresponds S x h = head_by S x x.kind h

-- ---- parts of properties

part_is : (S : Scope) (x : Procedure) (k : ProcKind) → is_property_kind k ≡ true → IsPartHead k (cond (is_function k) net.get_part (set_head S x))
part_is S x kind.Sub h = absurd (cc h)
part_is S x kind.Function h = absurd (cc h)
part_is S x kind.Get h = tt
part_is S x kind.Let h = tt
part_is S x kind.Set h = tt

-- the type of the result variable of a Get is that of its property
result_is : (S : Scope) (x : Procedure) (w : net.Property) (code : Code) → code.property ≡ Some w → code.procedure.head ≡ part_head S x
    → result_of code ≡ written_result S x x.kind → x.kind ≡ kind.Get → w.ty ≡ first_type S (slice_get S.declarations.procs x.first.0)
result_is S x w code of head result get =
    some_type (w.name, w.ty) (x.name, first_type S (slice_get S.declarations.procs x.first.0))
    (sym (ap (λ (h : net.Head). result_by (Some w) h) (head ∙ ap (λ (k : ProcKind). cond (is_function k) net.get_part (set_head S x)) get))
    ∙ sym (ap (λ (o : Option net.Property). result_by o code.procedure.head) of)
    ∙ result ∙ ap (written_result S x) get)
  where
    some_type : (a b : List ℕ × TypeName) → Some a ≡ Some b → a.1 ≡ b.1
    some_type a b e = cc e

pub part_corresponds : (U : Upgrade) (p : ℕ) (s : Site) (x : Procedure) (W : WrittenProcedure U p s x) → is_property_kind x.kind ≡ true
    → (J : StandsInProperty U s x W.code W.head) → PartHeadCorresponds (site_scope U s) x J.property W.code
part_corresponds U p s x W part J =
    let S = site_scope U s in
    let head : W.code.procedure.head ≡ part_head S x = ap (λ (w : net.Procedure). w.head) W.is_written ∙ J.is_head in
    record {
      name = J.name;
      head = subst (IsPartHead x.kind) (sym head) (part_is S x x.kind part);
      params =
          subst (Pairwise (ParamCorresponds S true) (variables_at S.declarations x.params))
          (sym (W.params ∙ ap (λ (b : Bool). params_of S b x.params) part)) (params_correspond S true x.params);
      ty = result_is S x J.property W.code J.is_property head W.result;
    }
