-- How what is written for a procedure is called from where it is found.
use Rattle.std.proofs.Common.{◌≡◌, refl, sym, ap, subst, ◌∙◌, ℕ, Bool, true, false, cond, not, ◌&&◌, nat_eq, Option, Some, None, List, ◌||◌}
use Rattle.std.specs.Prelude.{slice_get}
use Rattle.up_base.proofs.Tests.{and_true, both_true, not_true}
use Rattle.vb_tree.specs.declared.declared.ProcKind.{ProcKind}
use Rattle.vb_tree.specs.declared.declared.ProcKind.TheVariants as kind
use Rattle.bound_tree.specs.Tree.{Declarations, Procedure, Object, no_object, of_object, Passed}
use Rattle.net_tree.specs.Tree as net_tree
use Rattle.written_trees.specs.Arguments.{is_property, is_property_at, is_property_kind}
use Rattle.written_trees.specs.Bodies.{inside_procedure}
use Rattle.written_trees.specs.Exprs.{has_none, reads_itself}
use Rattle.written_trees.specs.Names.{Scope}
use Rattle.net_run.specs.Members.{code_number, member_named}
use Rattle.net_run.specs.Names as net_names
use Rattle.net_run.specs.Names.{Reached, member_reached, named, named_member, procedure_reached, some_member, to_procedure, to_property}
use Rattle.net_run.specs.Shapes.{members_of, module_at}
use Rattle.net_run.specs.Values as net_value
use Rattle.run_matches.specs.Covered.{covers_use_of, is_result_of, stands_alone}
use Rattle.run_matches.specs.CoveredExprs.{is_giving, takes_value}
use Rattle.run_matches.specs.Sites.{Site}
use Rattle.run_matches.specs.Upgrades.{Upgrade}
use Rattle.run_statements.specs.Frames.{IsFound}
use Rattle.run_statements.specs.Ways.{IsPart, IsWay, LeadsAlone, SuitsKind, Way, as_get, as_procedure, as_set, callee_by}
use Rattle.run_statements.specs.Written.{site_scope}
use Rattle.run_laws.proofs.Parts.{taking_part}

-- it is found, and by its name alone too, where that names no result of the caller
pub record FoundFrom (U : Upgrade) (S : net_names.Scope) (T : Scope) (caller callee : Procedure) (q number : ℕ) (qualified : Bool) (of : Object) : Type 0 where
  pub way : Way
  pub suits : SuitsKind way callee.kind
  pub found : IsFound U S T way q number qualified of
  pub alone : is_result_of (Some caller) (Some callee) ≡ false → LeadsAlone S T q qualified of

-- ---- ways that suit a kind

abbrev pub way_for : ProcKind → Way
way_for kind.Sub = as_procedure
way_for kind.Function = as_procedure
way_for kind.Get = as_get None
way_for kind.Let = as_set None
way_for kind.Set = as_set None

pub way_suits : (k : ProcKind) → SuitsKind (way_for k) k
way_suits kind.Sub = refl
way_suits kind.Function = refl
way_suits kind.Get = refl
way_suits kind.Let = refl
way_suits kind.Set = refl

-- ---- a member of a class is called in the same way for each object

abbrev gets : Reached → Option ℕ
gets (named (to_property object get set)) = get
gets r = None

abbrev sets : Reached → Option ℕ
sets (named (to_property object get set)) = set
sets r = None

abbrev numbers : Reached → ℕ
numbers (named (to_procedure object n)) = n
numbers r = 0

module _ (S : net_names.Scope) (a b : net_value.Value) (n : ℕ) where
  abbrev IsCalled : net_value.Value → Way → Reached → Type 0
  IsCalled object way r = r ≡ named (callee_by way (Some object) n)

  property_way : (way : Way) (get set : Option ℕ) → IsCalled a way (named (to_property (Some a) get set))
      → IsCalled b way (named (to_property (Some b) get set))
  property_way as_procedure get set e = absurd (cc e)
  property_way (as_get other) get set e =
      ap (λ g. named (to_property (Some b) g set)) (ap gets e) ∙ ap (λ s. named (to_property (Some b) (Some n) s)) (ap sets e)
  property_way (as_set other) get set e =
      ap (λ g. named (to_property (Some b) g set)) (ap gets e) ∙ ap (λ s. named (to_property (Some b) other s)) (ap sets e)

  procedure_way : (way : Way) (o : Option ℕ) → IsCalled a way (procedure_reached (Some a) o) → IsCalled b way (procedure_reached (Some b) o)
  procedure_way way None e = absurd (cc e)
  procedure_way as_procedure (Some m) e = ap (λ k. named (to_procedure (Some b) k)) (ap numbers e)
  procedure_way (as_get other) (Some m) e = absurd (cc e)
  procedure_way (as_set other) (Some m) e = absurd (cc e)

  member_way : (way : Way) (home k : ℕ) (m : net_tree.Member) → IsCalled a way (member_reached S (Some a) home k m)
      → IsCalled b way (member_reached S (Some b) home k m)
  member_way way home k (net_tree.member_comment units) e = absurd (cc e)
  member_way way home k (net_tree.variable visibility v) e = absurd (cc e)
  member_way way home k (net_tree.const_member visibility c) e = absurd (cc e)
  member_way way home k (net_tree.structure s) e = absurd (cc e)
  member_way way home k (net_tree.property p) e = property_way way (code_number S.project home k false) (code_number S.project home k true) e
  member_way way home k (net_tree.proc p) e = procedure_way way (code_number S.project home k false) e

  some_way : (way : Way) (home : ℕ) (o : Option (ℕ × net_tree.Member)) → IsCalled a way (some_member S (Some a) home o)
      → IsCalled b way (some_member S (Some b) home o)
  some_way way home None e = absurd (cc e)
  some_way way home (Some found) e = member_way way home found.0 found.1 e

  pub same_way : (way : Way) (home : ℕ) (name : List ℕ) → named_member S (Some a) home name ≡ named (callee_by way (Some a) n)
      → named_member S (Some b) home name ≡ named (callee_by way (Some b) n)
  same_way way home name e = some_way way home (member_named name (members_of (module_at S.project home))) e

-- ---- a part of a property without arguments is used by its name alone

not_further : (a b : Bool) → not (a && b) ≡ true → not (a && (b && true)) ≡ true
not_further true true h = h
not_further true false h = refl
not_further false b h = refl

never_both : (a b : Bool) → not (a && (b && false)) ≡ true
never_both true true = refl
never_both true false = refl
never_both false b = refl

module _ (U : Upgrade) (p q number : ℕ) (s : Site) (x y : Procedure) (is_procedure : slice_get U.program.declarations.procs p ≡ Some x)
    (is_other : slice_get U.program.declarations.procs q ≡ Some y) (S : net_names.Scope) (qualified : Bool) (of : Object) (args : Passed)
    (F : FoundFrom U S (inside_procedure (site_scope U s) p) x y q number qualified of)
    (covers : covers_use_of U.program.declarations p q qualified of args ≡ true) where
  abbrev D : Declarations
  D = U.program.declarations

  abbrev T : Scope
  T = inside_procedure (site_scope U s) p

  unread : (o : Object) → stands_alone D p q qualified o ≡ true → not (reads_itself T q qualified o) ≡ true
  unread no_object h =
      not_further (nat_eq p q) (not qualified)
      (both_true (not (nat_eq p q && not qualified)) (not (is_result_of (slice_get D.procs p) (slice_get D.procs q))) h).0
  unread (of_object e) h = never_both (nat_eq p q) (not qualified)

  leads : (o : Object) → stands_alone D p q qualified o ≡ true → (is_result_of (Some x) (Some y) ≡ false → LeadsAlone S T q qualified o)
      → LeadsAlone S T q qualified o
  leads no_object h alone =
      let other = is_result_of (slice_get D.procs p) (slice_get D.procs q) in
      alone
      (sym (ap (λ o. is_result_of o (slice_get D.procs q)) is_procedure ∙ ap (λ o. is_result_of (Some x) o) is_other)
      ∙ not_true other (both_true (not (nat_eq p q && not qualified)) (not other) h).1)
  leads (of_object e) h alone = tt

  -- what is covered of its use where it has no arguments
  stands : is_property D q ≡ true → has_none args ≡ true → stands_alone D p q qualified of ≡ true
  stands part none =
      subst (λ b. (not b || stands_alone D p q qualified of) ≡ true) none
      (subst (λ b. cond b (not (has_none args) || stands_alone D p q qualified of) true ≡ true) part covers)

  used : is_property_kind y.kind ≡ true → IsPart D S T q qualified of args
  used property =
      let part : is_property D q ≡ true = ap is_property_at is_other ∙ property in
      record {
        property = part;
        alone = λ none. record {
          bare =
              and_true (is_property D q) (has_none args && not (reads_itself T q qualified of)) part
              (and_true (has_none args) (not (reads_itself T q qualified of)) none (unread of (stands part none)));
          leads = leads of (stands part none) F.alone;
        };
      }

  by : (way : Way) → SuitsKind way y.kind → IsWay U S T way q qualified of args
  by as_procedure suits = ap is_property_at is_other ∙ suits
  by (as_get other) suits = (used (ap is_property_kind suits), ap is_giving is_other ∙ ap (λ k. not (takes_value k)) suits)
  by (as_set other) suits = (used (taking_part y.kind suits), ap is_giving is_other ∙ ap not suits)

  pub way_is : IsWay U S (inside_procedure (site_scope U s) p) F.way q qualified of args
  way_is = by F.way F.suits
