-- The member that a written procedure is or is a part of, and what it leads to.
use Rattle.std.proofs.Common.{◌≡◌, refl, sym, ap, subst, ◌∙◌, ℕ, ◌+◌, ◌<◌, ◌≤◌, Bool, true, false, List, Option, Some, slice_get, arith}
use Rattle.std.proofs.lemmas.Bool.{ltb-true}
use Rattle.up_base.specs.Names.{is_same_name}
use Rattle.vb_tree.specs.declared.declared.ProcKind.{ProcKind}
use Rattle.vb_tree.specs.declared.declared.ProcKind.TheVariants as kind
use Rattle.bound_tree.specs.Tree.{Declarations, Procedure}
use Rattle.net_tree.specs.Tree as net
use Rattle.written_trees.specs.Arguments.{is_property_kind}
use Rattle.written_trees.specs.Projects.{first_numbers, modules_from, written_module}
use Rattle.net_run.specs.Members.{code_number, is_head_named, is_member_named, member_named}
use Rattle.net_run.specs.Names.{Reached, Scope, member_reached, named, named_member, procedure_reached, some_member, to_property}
use Rattle.net_run.specs.Shapes.{members_of, module_at}
use Rattle.net_run.specs.Values.{Value}
use Rattle.run_matches.specs.Callees.{count_named, is_once, names_in}
use Rattle.run_matches.specs.CoveredExprs.{takes_value}
use Rattle.run_matches.specs.Sites.{Site}
use Rattle.run_matches.specs.Upgrades.{Upgrade}
use Rattle.run_statements.specs.Kept.{IsFoundAs}
use Rattle.run_statements.specs.Ways.{as_get, as_procedure, as_set}
use Rattle.run_statements.specs.Written.{IsWritten, WrittenProcedure, site_scope}
use Rattle.name_laws.proofs.Codes.{IsMember, code_member, member_by, module_is, number_found, stands_in}
use Rattle.name_laws.proofs.Counting.{count_of, first_found}
use Rattle.name_laws.proofs.Lists.{some_same}
use Rattle.name_laws.proofs.Looked.{name_self}
use Rattle.name_laws.proofs.MemberNames.{head_named, modules_most}

below_two : (a b : ℕ) → a ≤ b → b < 2 → a < 2
below_two a b h k = omega (arith, h, k)

pub from_start : (n : ℕ) → 0 + n ≡ n
from_start n = omega arith

module _ (U : Upgrade) (I : IsWritten U) where
  abbrev D : Declarations
  D = U.program.declarations

  pub modules_are : U.written.modules ≡ modules_from U.program U.facts first_numbers U.program.declarations.project.modules
  modules_are = ap (λ (M : net.Project). M.modules) I.is_written

  pub members_most : (home : ℕ) (w : net.Module) (name : List ℕ) → slice_get U.written.modules home ≡ Some w
      → count_of (is_member_named name) w.members ≤ count_named name (names_in U.program.declarations home)
  members_most home w name e =
      modules_most name U.program U.facts first_numbers D.project.modules home w (subst (λ ms. slice_get ms home ≡ Some w) modules_are e)

  pub members_are : (home : ℕ) (w : net.Module) → slice_get U.written.modules home ≡ Some w → members_of (module_at U.written home) ≡ w.members
  members_are home w e = ap members_of (module_is U.written.modules home ∙ e)

  module _ (q : ℕ) (t : Site) (y : Procedure) (V : WrittenProcedure U q t y) where
    abbrev w : net.Module
    w = written_module U.program U.facts V.numbers t.source_module

    member : IsMember U.written.modules V.code
    member = stands_in U.written V.number V.code V.is_code

    of_is : member.of ≡ w
    of_is = some_same member.of w (sym member.is_module ∙ ap (slice_get U.written.modules) V.home ∙ V.is_module)

    is_member : slice_get w.members V.code.member ≡ Some (code_member V.code)
    is_member = subst (λ (m : net.Module). slice_get m.members V.code.member ≡ Some (code_member V.code)) of_is member.is_member

    is_named : is_member_named y.name (code_member V.code) ≡ true
    is_named = by (is_property_kind y.kind) refl
      where
        by : (b : Bool) → is_property_kind y.kind ≡ b → is_member_named y.name (code_member V.code) ≡ true
        by true e =
            let J = V.joined e in
            ap (λ o. is_member_named y.name (member_by o V.code.procedure)) J.is_property ∙ ap (λ n. is_same_name n y.name) J.name ∙ name_self y.name
        by false e =
            let A = V.alone e in
            ap (λ o. is_member_named y.name (member_by o V.code.procedure)) A.property
            ∙ ap (λ (z : net.Procedure). is_head_named y.name z.head) V.is_written ∙ ap (is_head_named y.name) A.is_head
            ∙ head_named y.name (site_scope U t) y y.name ∙ name_self y.name

    pub member_found : is_once y.name (names_in D t.home) ≡ true
        → member_named y.name (members_of (module_at U.written t.home)) ≡ Some (V.code.member, code_member V.code)
    member_found once =
        let most = members_most t.home w y.name V.is_module in
        let names = count_named y.name (names_in D t.home) in
        ap (member_named y.name) (members_are t.home w V.is_module)
        ∙ first_found (is_member_named y.name) 0 w.members V.code.member (code_member V.code) is_member is_named
        (below_two (count_of (is_member_named y.name) w.members) names most (ltb-true names 2 once))
        ∙ ap (λ n. Some (n, code_member V.code)) (from_start V.code.member)

    pub number_is : (sets : Bool) → V.code.sets ≡ sets → code_number U.written t.home V.code.member sets ≡ Some V.number
    number_is sets e =
        ap (λ h. code_number U.written h V.code.member sets) (sym V.home) ∙ ap (λ b. code_number U.written V.code.home V.code.member b) (sym e)
        ∙ number_found U.written V.number V.code V.is_code

    -- ---- what its name leads to

    module _ (S : Scope) (object : Option Value) (same : S.project ≡ U.written) where
      abbrev pub member_leads : Reached
      member_leads = member_reached S object t.home V.code.member (code_member V.code)

      pub name_leads : is_once y.name (names_in D t.home) ≡ true → named_member S object t.home y.name ≡ member_leads
      name_leads once =
          ap (λ M. some_member S object t.home (member_named y.name (members_of (module_at M t.home)))) same
          ∙ ap (some_member S object t.home) (member_found once)

      number_in : (sets : Bool) → V.code.sets ≡ sets → code_number S.project t.home V.code.member sets ≡ Some V.number
      number_in sets e = ap (λ M. code_number M t.home V.code.member sets) same ∙ number_is sets e

      as_plain : (k : ProcKind) → y.kind ≡ k → is_property_kind k ≡ false → IsFoundAs k object V.number member_leads
      as_plain k e plain =
          let A = V.alone (ap is_property_kind e ∙ plain) in
          record {
            way = as_procedure;
            suits = plain;
            is_found =
                ap (λ o. member_reached S object t.home V.code.member (member_by o V.code.procedure)) A.property
                ∙ ap (procedure_reached object) (number_in false A.sets);
          }

      as_getter : y.kind ≡ kind.Get → IsFoundAs kind.Get object V.number member_leads
      as_getter e =
          let J = V.joined (ap is_property_kind e) in
          let set = code_number S.project t.home V.code.member true in
          record {
            way = as_get set;
            suits = refl;
            is_found =
                ap (λ o. member_reached S object t.home V.code.member (member_by o V.code.procedure)) J.is_property
                ∙ ap (λ o. named (to_property object o set)) (number_in false (J.sets ∙ ap takes_value e));
          }

      as_setter : (k : ProcKind) → y.kind ≡ k → is_property_kind k ≡ true → takes_value k ≡ true → IsFoundAs k object V.number member_leads
      as_setter k e part takes =
          let J = V.joined (ap is_property_kind e ∙ part) in
          let get = code_number S.project t.home V.code.member false in
          record {
            way = as_set get;
            suits = takes;
            is_found =
                ap (λ o. member_reached S object t.home V.code.member (member_by o V.code.procedure)) J.is_property
                ∙ ap (λ o. named (to_property object get o)) (number_in true (J.sets ∙ ap takes_value e ∙ takes));
          }

      pub leads_as : IsFoundAs y.kind object V.number member_leads
      leads_as = by y.kind refl
        where
          by : (k : ProcKind) → y.kind ≡ k → IsFoundAs k object V.number member_leads
          by kind.Sub e = as_plain kind.Sub e refl
          by kind.Function e = as_plain kind.Function e refl
          by kind.Get e = as_getter e
          by kind.Let e = as_setter kind.Let e refl refl
          by kind.Set e = as_setter kind.Set e refl refl
