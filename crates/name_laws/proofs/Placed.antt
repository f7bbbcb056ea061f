-- The variables that covered lines use are found on both sides.
use Rattle.std.proofs.Common.{◌≡◌, refl, ap, sym, subst, ◌∙◌, inl, inr, ℕ, ◌+◌, arith, Bool, true, false, cond, not, nat_eq, List, None, Some, option_map, slice_get}
use Rattle.std.specs.Prelude.{option_and_then, ◌||◌}
use Rattle.up_base.specs.Names.{is_same_name}
use Rattle.std.specs.Map.{lookup}
use Rattle.std.proofs.lemmas.Bool.{eqb-true}
use Rattle.vb_tree.specs.BoundTree as types
use Rattle.vb_tree.specs.BoundTree.{Ty}
use Rattle.vb_tree.specs.declared.declared.Owner.{Owner}
use Rattle.vb_tree.specs.declared.declared.Owner.TheVariants as owner
use Rattle.vb_tree.specs.declared.declared.VarId.{VarId}
use Rattle.net_tree.specs.Types.{TypeName}
use Rattle.bound_tree.specs.Tree.{Variable, Procedure, Declarations, Line}
use Rattle.bound_facts.specs.Effects.{is_own_owner, is_own_variable}
use Rattle.bound_facts.specs.SelfMade.{module_of}
use Rattle.vb6_run.specs.Programs.{is_static_of}
use Rattle.written_trees.specs.Bodies.{inside_procedure}
use Rattle.written_trees.specs.Heads.{is_function}
use Rattle.written_trees.specs.Names.{Scope, is_foreign, module_name, owner_path, variable_path_of}
use Rattle.vb6_run.specs.Store.{Address, SourceFrame}
use Rattle.net_run.specs.Lines.{NetFrame, NetLine, scope_of}
use Rattle.net_run.specs.Members.{code_at}
use Rattle.net_run.specs.Names as net_names
use Rattle.net_run.specs.Names.{is_result, path_start}
use Rattle.run_matches.specs.CoveredVariables.{is_foreign_name, is_named_apart, is_reached}
use Rattle.run_matches.specs.CoveredExprs.{IsUsed, uses_in}
use Rattle.run_matches.specs.Covered.{is_reference_in, is_reference_owner_of}
use Rattle.run_matches.specs.Frames.{HasNames, GivenAddress, GivenStand, is_reference_of}
use Rattle.run_matches.specs.Shared.{field_leads, names_lead, is_alone_static}
use Rattle.run_matches.specs.Sites.{Site, site_of}
use Rattle.run_matches.specs.Upgrades.{Upgrade, code_of, declared_key, home_of, is_flagged, owned_key}
use Rattle.run_statements.specs.Frames.{AreReadable, IsArray, IsAutoOf, IsGroup, IsReadable, IsPlaced, LeadsBefore}
use Rattle.run_statements.specs.Kept.{UsesArePlaced}
use Rattle.run_statements.specs.Written.{IsWritten, WrittenProcedure, site_scope}
use Rattle.name_laws.proofs.Autos.{AutoUse, auto_use}
use Rattle.name_laws.proofs.Lists.{both_true, some_same, same_number}
use Rattle.name_laws.proofs.Classes.{stands_here, stands_in_class}
use Rattle.name_laws.proofs.FrameNames.{result_are, result_word, same_by, same_start}
use Rattle.name_laws.proofs.Keys.{StaticKey, static_parts, key_of_static}
use Rattle.name_laws.proofs.Looked.{not_true}
use Rattle.name_laws.proofs.Led.{led, differing}
use Rattle.name_laws.proofs.OwnFields.{own_variable}
use Rattle.name_laws.proofs.Reached.{either}
use Rattle.name_laws.proofs.Shared.{shared_variable}
use Rattle.name_laws.proofs.Uses.{ArrayUse, CoveredUse, GroupUse, array_parts, group_use, used_parts}
use Rattle.name_laws.proofs.GroupTypes.{group_type}
use Rattle.name_laws.proofs.Owns.{covered_type}
use Rattle.name_laws.proofs.Words.{VariableType, array_type, scalar_type}

plus_none : (n : ℕ) → 0 + n ≡ n
plus_none n = omega arith

own_number : (p q : ℕ) → nat_eq p q ≡ true → nat_eq q p ≡ true
own_number p q h = same_number q p (sym (eqb-true p q h))

module _ (U : Upgrade) (I : IsWritten U) (p : ℕ) (s : Site) (x : Procedure) (is_site : site_of U.program.declarations p ≡ Some s)
    (is_procedure : slice_get U.program.declarations.procs p ≡ Some x) (W : WrittenProcedure U p s x) (f : SourceFrame) (g : NetFrame) (k : NetLine)
    (names : HasNames (Some W.code) g) where
  abbrev D : Declarations
  D = U.program.declarations

  abbrev Goal : ℕ → Type 0
  Goal v = IsPlaced U p f (scope_of U.written W.code g k) (inside_procedure (site_scope U s) p) v

  abbrev Given : ℕ → Type 0
  Given v = is_reference_of U p v ≡ true → (a : Address) → lookup (nat_eq v) f.vars ≡ Some a → GivenAddress U v a

  by_owner : (v : ℕ) (y : Variable) → slice_get D.vars v ≡ Some y → is_flagged U v ≡ false
      → ((at home : ℕ) → home_of U at ≡ Some home → VariableType U v y at home) → Given v
      → (o : Owner) → y.owner ≡ o → is_reached D p v y.name o ≡ true → Goal v
  by_owner v y is_variable sound types given (owner.Module file) e h =
      either (names_lead D p v y.name file) (field_leads D p v y.name file)
      (both_true (names_lead D p v y.name file || field_leads D p v y.name file) (is_foreign_name D p y.name) h).0
      (λ n. inr (inr (inl (shared_variable U I p v y is_variable sound types file e (led D p v y.name file n) s x is_site is_procedure W g k names))))
      (λ n. inr (inr (inr (inr (own_variable U I p v y is_variable sound types file e s x is_site is_procedure n W g k names)))))
  by_owner v y is_variable sound types given (owner.Local q) e h =
      inl (ap (is_own_variable p) is_variable ∙ ap (is_own_owner p) e ∙ own_number p q.0 h)
  by_owner v y is_variable sound types given (owner.Static q) e h =
      let b = both_true (nat_eq p q.0) (is_alone_static D p v y.name) h in
      let of : is_static_of p y.owner ≡ true = ap (is_static_of p) e ∙ b.0 in
      inr (inl (record {
        variable = y;
        is_variable = is_variable;
        is_static = of;
        file = x.module_number;
        is_file = ap module_of is_procedure;
        differs = λ key u f i.
            let parts : StaticKey U q.0 y.name key =
            static_parts U q.0 y.name key (sym (ap (declared_key U) is_variable ∙ ap (owned_key U y.name) e) ∙ f) in
            let z = key_of_static U q.0 y.name key parts u i in
            let owned : is_static_of p z.0.owner ≡ true = subst (λ n. is_static_of n z.0.owner ≡ true) (sym (eqb-true p q.0 b.0)) z.2 in
            differing (is_static_of p) v y.name 0 u D.vars z.0 b.1 z.1 owned z.3 ∙ plus_none u;
      }))
  by_owner v y is_variable sound types given (owner.Value q) e h =
      inl (ap (is_own_variable p) is_variable ∙ ap (is_own_owner p) e ∙ own_number p q.0 h)
  by_owner v y is_variable sound types given (owner.Reference q) e h =
      let reference : is_reference_of U p v ≡ true = ap (is_reference_in p) is_variable ∙ ap (is_reference_owner_of p) e ∙ h in
      inr (inr (inr (inl (record { reference = reference; stands = given reference }))))
  by_owner v y is_variable sound types given (owner.Answer q) e h =
      inl (ap (is_own_variable p) is_variable ∙ ap (is_own_owner p) e ∙ own_number p q.0 h)
  by_owner v y is_variable sound types given (owner.Field t) e h = absurd (cc h)

  -- a scalar
  placed : (v : ℕ) (r : IsReadable U v) → Given v → CoveredUse U.program p v → Goal v
  placed v r given u =
      let same : u.used ≡ r.variable = some_same u.used r.variable (sym u.is_used ∙ r.is_variable) in
      by_owner v r.variable r.is_variable r.sound (λ at home e. scalar_type U v r.variable at home (covered_type r.variable r.covers)) given
      r.variable.owner refl (subst (λ (z : Variable). is_reached D p v z.name z.owner ≡ true) same u.reached)

  -- an array
  array_placed : (v : ℕ) (element : Ty) (r : IsArray U v element) → Given v → ArrayUse U.program p v element → Goal v
  array_placed v element r given u =
      let y : Variable = r.known.variable in
      let same : u.used ≡ y = some_same u.used y (sym u.is_used ∙ r.known.is_variable) in
      by_owner v y r.known.is_variable r.known.sound (λ at home e. array_type U v y element r.rank at home r.is_array r.covers) given
      y.owner refl (subst (λ (z : Variable). is_reached D p v z.name z.owner ≡ true) same u.reached)

  -- of a user type or a class
  group_placed : (v : ℕ) (ty : Ty) (r : IsGroup U v ty) → Given v → GroupUse U.program p v ty → Goal v
  group_placed v ty r given u =
      let y : Variable = r.known.variable in
      let same : u.used ≡ y = some_same u.used y (sym u.is_used ∙ r.known.is_variable) in
      by_owner v y r.known.is_variable r.known.sound (λ at home e. group_type U I v y ty at home r.is_type r.covers e) given
      y.owner refl (subst (λ (z : Variable). is_reached D p v z.name z.owner ≡ true) same u.reached)

  -- an As New one
  auto_placed : (v class : ℕ) (r : IsAutoOf U v class) → Given v → (ty : Ty) → AutoUse U.program p v ty → Goal v
  auto_placed v class r given ty u =
      let y : Variable = r.variable in
      let same : u.used ≡ y = some_same u.used y (sym u.is_used ∙ r.is_variable) in
      by_owner v y r.is_variable r.sound (λ at home e. group_type U I v y (types.class class) at home r.is_type r.covers e) given
      y.owner refl (subst (λ (z : Variable). is_reached D p v z.name z.owner ≡ true) same u.reached)

code_is : (U : Upgrade) (p : ℕ) (s : Site) (x : Procedure) (W : WrittenProcedure U p s x) → code_of U p ≡ Some W.code
code_is U p s x W = ap (option_and_then (code_at U.written)) W.is_number ∙ W.is_code

-- ---- names before indexes

owner_start : (E : net_names.Scope) (T : Scope) (q : Bool) (name : List ℕ) (o : Owner) → is_result E.result_name name ≡ false
    → path_start E true (owner_path T q name o) ≡ path_start E false (owner_path T q name o)
owner_start E T q name (owner.Module home) h =
    same_by E (module_name T.declarations home) name (q || is_foreign T.declarations T.file home) h
owner_start E T q name (owner.Local p) h = same_start E name h
owner_start E T q name (owner.Static p) h = same_start E name h
owner_start E T q name (owner.Value p) h = same_start E name h
owner_start E T q name (owner.Reference p) h = same_start E name h
owner_start E T q name (owner.Answer p) h = same_start E name h
owner_start E T q name (owner.Field t) h = same_start E name h

no_result_by : (b : Bool) (n name : List ℕ) (t : TypeName) → not (is_same_name n name) ≡ true
    → is_result (option_map (λ (r : List ℕ × TypeName). r.0) (cond b (Some (n, t)) None)) name ≡ false
no_result_by true n name t h = not_true (is_same_name n name) h
no_result_by false n name t h = refl

leads_before : (U : Upgrade) (p : ℕ) (s : Site) (x : Procedure) → slice_get U.program.declarations.procs p ≡ Some x → (W : WrittenProcedure U p s x)
    (g : NetFrame) (k : NetLine) (v : ℕ) (y : Variable) → slice_get U.program.declarations.vars v ≡ Some y
    → is_named_apart (slice_get U.program.declarations.procs p) y.name ≡ true
    → LeadsBefore (scope_of U.written W.code g k) (inside_procedure (site_scope U s) p) v
leads_before U p s x is W g k v y is_variable apart q =
    let E : net_names.Scope = scope_of U.written W.code g k in
    let T : Scope = inside_procedure (site_scope U s) p in
    let other : not (is_same_name x.name y.name) ≡ true = sym (ap (λ o. is_named_apart o y.name) is) ∙ apart in
    let none : is_result E.result_name y.name ≡ false =
    ap (λ o. is_result (option_map (λ (r : List ℕ × TypeName). r.0) o) y.name) (result_are U p s x W)
    ∙ no_result_by (is_function x.kind) x.name y.name (result_word (site_scope U s) x x.kind) other in
    subst (λ o. path_start E true (variable_path_of T q o) ≡ path_start E false (variable_path_of T q o)) (sym is_variable)
    (owner_start E T q y.name y.owner none)

-- ---- the law

used_placed : (U : Upgrade) → IsWritten U → (p : ℕ) (s : Site) (x : Procedure) → site_of U.program.declarations p ≡ Some s
    → slice_get U.program.declarations.procs p ≡ Some x → (W : WrittenProcedure U p s x) (l : Line)
    → AreReadable U (inside_procedure (site_scope U s) p) (uses_in U.program p l.bindings.mentions) → (f : SourceFrame) (g : NetFrame) (k : NetLine)
    → HasNames (code_of U p) g → GivenStand U p f l → (v : VarId) → IsUsed (uses_in U.program p l.bindings.mentions) v
    → IsPlaced U p f (scope_of U.written W.code g k) (inside_procedure (site_scope U s) p) v.0
used_placed U I p s x e is W l readable f g k names given v (inl h) =
    placed U I p s x e is W f g k (subst (λ o. HasNames o g) (code_is U p s x W) names) v.0 (readable.scalars v h) (λ r a at. given v a (inl h) r at)
    (used_parts U.program p l.bindings.mentions v h).1
used_placed U I p s x e is W l readable f g k names given v (inr (inl h)) =
    array_placed U I p s x e is W f g k (subst (λ o. HasNames o g) (code_is U p s x W) names) v.0 h.0 (readable.arrays v h.0 h.1)
    (λ r a at. given v a (inr (inl h)) r at) (array_parts U.program p l.bindings.mentions v h.0 h.1).1
used_placed U I p s x e is W l readable f g k names given v (inr (inr (inl h))) =
    group_placed U I p s x e is W f g k (subst (λ o. HasNames o g) (code_is U p s x W) names) v.0 h.0 (readable.groups v h.0 h.1)
    (λ r a at. given v a (inr (inr (inl h))) r at) (group_use U.program p l.bindings.mentions v h.0 h.1).1
used_placed U I p s x e is W l readable f g k names given v (inr (inr (inr h))) =
    let r = readable.autos v h.0 h.1 in
    auto_placed U I p s x e is W f g k (subst (λ o. HasNames o g) (code_is U p s x W) names) v.0 r.0 r.2
    (λ r a at. given v a (inr (inr (inr h))) r at) h.0 (auto_use U.program p l.bindings.mentions v h.0 h.1).1

pub uses_are_placed : (U : Upgrade) → IsWritten U → (p : ℕ) (s : Site) (x : Procedure) → site_of U.program.declarations p ≡ Some s
    → slice_get U.program.declarations.procs p ≡ Some x → (W : WrittenProcedure U p s x) (l : Line)
    → AreReadable U (inside_procedure (site_scope U s) p) (uses_in U.program p l.bindings.mentions) → UsesArePlaced U p s W.code l
uses_are_placed U I p s x e is W l readable f g k names given = record {
  places = λ v h. used_placed U I p s x e is W l readable f g k names given v h;
  leads = λ v element h.
      let u : ArrayUse U.program p v.0 element = (array_parts U.program p l.bindings.mentions v element h).1 in
      leads_before U p s x is W g k v.0 u.used u.is_used u.apart;
  me = stands_in_class U p;
  here = stands_here U I p s x e W g k;
  named = λ v qualified h. h;
}
