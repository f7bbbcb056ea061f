-- Names lead to the variables of standard modules that covered lines use.
use Rattle.std.proofs.Common.{◌≡◌, refl, ap, sym, subst, ◌∙◌, ℕ, Bool, true, false, cond, not, ◌&&◌, nat_eq, List, [], ◌∷◌, ◌++◌, Option, Some, None, slice_get}
use Rattle.std.specs.Prelude.{◌||◌}
use Rattle.std.specs.List.{list_all}
use Rattle.std.proofs.lemmas.Bool.{eqb-true}
use Rattle.up_base.specs.Names.{is_same_name}
use Rattle.vb_tree.specs.declared.declared.Owner.TheVariants as owner
use Rattle.vb_tree.specs.Tree.{Module}
use Rattle.bound_tree.specs.Tree.{Variable, Procedure, Declarations}
use Rattle.net_tree.specs.Tree as net
use Rattle.run_base.specs.Positions.{Key, shared, whole}
use Rattle.written_trees.specs.Bodies.{inside_procedure}
use Rattle.written_trees.specs.Members.{written_members}
use Rattle.written_trees.specs.Names.{Scope, name_in, is_standard_module, variable_path, variable_path_of, owner_path}
use Rattle.written_trees.specs.Placing.{Placed}
use Rattle.written_trees.specs.Projects.{first_numbers, makers, has_initializer, module_scope, written_module, modules_from}
use Rattle.net_run.specs.Lines.{NetFrame, NetLine, scope_of}
use Rattle.net_run.specs.Members.{member_named}
use Rattle.net_run.specs.Names as net_names
use Rattle.net_run.specs.Names.{key_of, is_class_at, own_field, at_place, member_reached, some_member, starts, path_start, frame_start, member_start, module_start, module_member}
use Rattle.vb6_run.specs.Shapes.{declared_shape, user_shapes}
use Rattle.run_matches.specs.Likeness.{SameShape}
use Rattle.net_run.specs.Shapes.{shape_of, members_of, module_at, module_in, module_named, first_from}
use Rattle.net_run.specs.Store.{root}
use Rattle.run_matches.specs.Frames.{HasNames}
use Rattle.run_matches.specs.Shared.{is_other_member, declares_none, placed_module, is_free_in}
use Rattle.run_matches.specs.Sites.{Site, site_of}
use Rattle.run_matches.specs.Upgrades.{Upgrade, home_of, is_flagged}
use Rattle.run_statements.specs.Frames.{IsShared}
use Rattle.run_statements.specs.Written.{IsWritten, WrittenProcedure, site_scope}
use Rattle.name_laws.proofs.Lists.{both_true, all_append}
use Rattle.name_laws.proofs.Led.{PlacedAt, placed_at, first_written, Led, LedFrom, led_from}
use Rattle.name_laws.proofs.Framed.{frame_none}
use Rattle.name_laws.proofs.Reached.{is_allowed, members_allowed, none_named}
use Rattle.name_laws.proofs.Standing.{VariableMember, makers_allowed, variable_member}
use Rattle.name_laws.proofs.Words.{VariableType}

-- ---- the module of the variable

module _ (U : Upgrade) (I : IsWritten U) (p v : ℕ) (y : Variable) (is_variable : slice_get U.program.declarations.vars v ≡ Some y) (sound : is_flagged U v ≡ false)
    (types : (file home : ℕ) → home_of U file ≡ Some home → VariableType U v y file home) (file : ℕ) (of : y.owner ≡ owner.Module file)
    (L : Led U.program.declarations p v y.name file) where
  abbrev D : Declarations
  D = U.program.declarations

  abbrev N : net.Project
  N = U.written

  abbrev name : List ℕ
  name = y.name

  abbrev m : Module
  m = L.stands.placed.0

  abbrev home : ℕ
  home = L.stands.home

  modules_are : N.modules ≡ modules_from U.program U.facts first_numbers D.project.modules
  modules_are = ap (λ (M : net.Project). M.modules) I.is_written

  abbrev R : VariableMember U v y file L.stands
  R = variable_member U I v y is_variable sound types file of L.stands

  abbrev n : ℕ
  n = R.number

  abbrev found : ℕ × net.Member
  found = (n, net.variable R.visibility R.made)

  abbrev key : Key
  key = key_of home n

  -- ---- where names lead

  module _ (s : Site) (x : Procedure) (is_site : site_of D p ≡ Some s) (is_procedure : slice_get D.procs p ≡ Some x) (W : WrittenProcedure U p s x)
      (g : NetFrame) (k : NetLine) (names : HasNames (Some W.code) g) where
    abbrev E : net_names.Scope
    E = scope_of N W.code g k

    abbrev T : Scope
    T = inside_procedure (site_scope U s) p

    from_there : LedFrom D name m.name file home s x
    from_there = led_from D name m.name file home (site_of D p) (slice_get D.procs p) s x is_site is_procedure L.leads

    abbrev place : net_names.Reached
    place = at_place (root R.type.written (whole (shared key)))

    reached : (h : ℕ) → home ≡ h → member_reached E None h n (net.variable R.visibility R.made) ≡ place
    reached h e =
        subst (λ h. member_reached E None h n (net.variable R.visibility R.made) ≡ place) e
        (ap (λ o. cond (is_class_at o) (own_field (shape_of N home R.made.ty) key E.me) (at_place (root (shape_of N home R.made.ty) (whole (shared key)))))
        R.is_module
        ∙ ap (λ c. cond c (own_field (shape_of N home R.made.ty) key E.me) (at_place (root (shape_of N home R.made.ty) (whole (shared key))))) L.standard
        ∙ ap (λ z. at_place (root z (whole (shared key)))) (R.type.shaped R.made.ty R.is_word))

    member_there : (h : ℕ) → home ≡ h → some_member E None h (member_named name (members_of (module_at N h))) ≡ place
    member_there h e =
        ap (some_member E None h) (ap (λ h. member_named name (members_of (module_at N h))) (sym e) ∙ R.is_first) ∙ reached h e

    -- behind the name of its module
    no_member : (o : Option (Module × List Placed)) → placed_module D s.home ≡ o → declares_none D m.name o ≡ true
        → member_named m.name (members_of (module_at N s.home)) ≡ None
    no_member None e h = absurd (cc h)
    no_member (Some q) e h =
        let B : PlacedAt U.program U.facts first_numbers D.project.modules s.home q =
        placed_at U.program U.facts first_numbers D.project.modules s.home q e in
        let here : module_at N s.home ≡ Some (written_module U.program U.facts B.numbers q.0) = ap (λ ms. module_in ms s.home) modules_are ∙ B.is_written in
        let made = makers (has_initializer D q.0.file q.0) in
        let rest = written_members U.program (module_scope U.program U.facts q.0) B.numbers q.0.comments q.0.members in
        let all : list_all (is_allowed m.name None) (made ++ rest) ≡ true =
        all_append (is_allowed m.name None) made rest (makers_allowed m.name None (has_initializer D q.0.file q.0))
        (members_allowed U.program (module_scope U.program U.facts q.0) m.name None None (λ u f n. absurd (cc n)) B.numbers q.0.comments q.0.members
        (ap (list_all (is_other_member D m.name None q.0.file)) (sym B.placed) ∙ h)) in
        ap (λ o. member_named m.name (members_of o)) here ∙ none_named m.name 0 (made ++ rest) all

    qualified_leads : path_start E false (m.name ∷ name ∷ []) ≡ starts place []
    qualified_leads =
        let w0 = first_written U.program U.facts m.name 0 first_numbers D.project.modules L.first L.is_first in
        let named : module_named N m.name ≡ Some (L.first.0, w0.0) =
        ap (λ ms. first_from (λ (q : net.Module). is_same_name q.name m.name) 0 ms) modules_are ∙ w0.1 in
        let outer : w0.0.class ≡ false = w0.2 ∙ L.first_standard in
        let members_none : member_named m.name (members_of (module_at N E.home)) ≡ None =
        ap (λ h. member_named m.name (members_of (module_at N h))) W.home ∙ no_member (placed_module D s.home) refl from_there.none in
        ap (frame_start E m.name (name ∷ [])) (frame_none m.name U p s x W g names from_there.free)
        ∙ ap (member_start E m.name (name ∷ [])) members_none ∙ ap (module_start E m.name (name ∷ [])) named
        ∙ ap (λ c. module_member E L.first.0 c (name ∷ [])) outer ∙ ap (λ z. starts z []) (member_there L.first.0 (sym L.first_home))

    -- by itself in its module
    alone_leads : s.home ≡ home → is_free_in D s x name ≡ true → path_start E false (name ∷ []) ≡ starts place []
    alone_leads same free =
        let here : E.home ≡ home = W.home ∙ same in
        let first : member_named name (members_of (module_at N E.home)) ≡ Some found =
        ap (λ h. member_named name (members_of (module_at N h))) here ∙ R.is_first in
        ap (frame_start E name []) (frame_none name U p s x W g names free)
        ∙ ap (member_start E name []) first ∙ ap (λ z. starts z []) (reached E.home (sym here))

    path_by : (q b : Bool) → nat_eq s.source_module.file file ≡ b → path_start E false (cond (q || (not b && true)) (m.name ∷ name ∷ []) (name ∷ [])) ≡ starts place []
    path_by true b e = qualified_leads
    path_by false false e = qualified_leads
    path_by false true e =
        let a : (nat_eq s.home home && is_free_in D s x name) ≡ true =
        sym (ap (λ c. cond c (nat_eq s.home home && is_free_in D s x name) true) e) ∙ from_there.own in
        let c = both_true (nat_eq s.home home) (is_free_in D s x name) a in
        alone_leads (eqb-true s.home home c.0) c.1

    path_is : (q : Bool) → variable_path T q v
        ≡ cond (q || (not (nat_eq s.source_module.file file) && true)) (m.name ∷ name ∷ []) (name ∷ [])
    path_is q =
        ap (variable_path_of T q) is_variable ∙ ap (owner_path T q name) of
        ∙ ap (λ o. cond (q || (not (nat_eq s.source_module.file file) && is_standard_module o)) (name_in o ∷ name ∷ []) (name ∷ [])) R.at_file
        ∙ ap (λ b. cond (q || (not (nat_eq s.source_module.file file) && not b)) (m.name ∷ name ∷ []) (name ∷ [])) L.standard

    pub shared_variable : IsShared U E T v
    shared_variable = record {
      variable = y;
      is_variable = is_variable;
      file = file;
      is_owner = of;
      standard = L.outer;
      key = key;
      is_key = R.is_key;
      written = R.type.written;
      same = subst (λ o. SameShape U (declared_shape (user_shapes D) o) R.type.written) (sym is_variable) R.type.same;
      ranked = R.type.ranked;
      leads = λ q. ap (path_start E false) (path_is q) ∙ path_by q (nat_eq s.source_module.file file) refl;
      differs = R.differs;
    }
