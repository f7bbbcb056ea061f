-- What is written for a Sub or a Function stands by itself, at its own place.
use Rattle.std.proofs.Common.{◌≡◌, ℕ, Bool, true, false, not, cond, ◌&&◌, List, [], ◌∷◌, ◌++◌, map, Option, Some, None, refl, sym, ap, ◌∙◌, eq-eqb, ne_eqb, true≢false}
use Rattle.std.specs.Prelude.{slice_get, nat_eq, option_to_list}
use Rattle.vb_tree.specs.declared.declared.ProcKind.{ProcKind}
use Rattle.vb_tree.specs.declared.declared.ProcKind.TheVariants as kind
use Rattle.vb_tree.specs.Tree.{Nodes}
use Rattle.vb_tree.specs.Tree as source
use Rattle.bound_tree.specs.Tree.{Procedure, Declarations, Program}
use Rattle.net_tree.specs.declared.declaration.NetClose.{NetClose}
use Rattle.net_tree.specs.declared.declaration.NetClose.TheVariants.{EndSub, EndFunction}
use Rattle.net_tree.specs.Tree as net
use Rattle.written_trees.specs.Arguments.{is_property_kind}
use Rattle.written_trees.specs.Bodies.{procedure_with}
use Rattle.written_trees.specs.DeclaredMembers.{member_comments}
use Rattle.written_trees.specs.Heads.{head_of, is_function, params_of, result_type, written_visibility}
use Rattle.written_trees.specs.Members.{is_later, plain_member, procedure_members, property_member}
use Rattle.written_trees.specs.Names.{Scope, procedure_name}
use Rattle.written_trees.specs.Order.{itself, joined_order, parts_of, procedure_order}
use Rattle.written_trees.specs.Placing.{Placed}
use Rattle.written_trees.specs.Properties.{head_comments, is_counted, is_separate, or_part, part_number, separate_name}
use Rattle.net_run.specs.Members as members
use Rattle.net_run.specs.Members.{Code, codes_of_members}
use Rattle.run_matches.specs.Sites.{Site}
use Rattle.run_matches.specs.Upgrades.{Upgrade, is_that}
use Rattle.run_statements.specs.Written.{StandsByItself, StandsInProperty, site_scope, written_result}
use Rattle.placing_laws.proofs.Codes.{behind_codeless, comments_codeless}
use Rattle.placing_laws.proofs.Counts.{NumbersPart, get_numbered, let_or_set}
use Rattle.placing_laws.proofs.Lists.{Lacks, same_item}
use Rattle.placing_laws.proofs.Standing.{StandsAt, StandsOnlyAt, stands_as}

-- what is known of the written procedure that stands for the procedure of a site
pub record IsWrittenFor (U : Upgrade) (s : Site) (x : Procedure) (c : Code) : Type 0 where
  pub home : c.home ≡ s.home
  pub head : net.Head
  pub close : NetClose
  pub is_written : c.procedure ≡ procedure_with U.program (site_scope U s) s.placed s.body head close
  pub alone : is_property_kind x.kind ≡ false → StandsByItself U s x c head
  pub joined : is_property_kind x.kind ≡ true → StandsInProperty U s x c head
  pub params : members.params_of c ≡ params_of (site_scope U s) (is_property_kind x.kind) x.params
  pub result : members.result_of c ≡ written_result (site_scope U s) x x.kind

-- ---- other procedures

pub other_numbers : (p : ℕ) (a b : Option ℕ) → ((n : ℕ) → a ≡ Some n → nat_eq p n ≡ false) → ((n : ℕ) → b ≡ Some n → nat_eq p n ≡ false)
    → Lacks (is_that p) (map Some (option_to_list a ++ option_to_list b))
other_numbers p None None h k = tt
other_numbers p None (Some m) h k = (k m refl, tt)
other_numbers p (Some n) None h k = (h n refl, tt)
other_numbers p (Some n) (Some m) h k = (h n refl, (k m refl, tt))

-- a part of a property is another procedure than one that is no part
other_part : (D : Declarations) (p : ℕ) (x : Procedure) (first n : ℕ) → slice_get D.procs p ≡ Some x → is_property_kind x.kind ≡ false
    → NumbersPart D first n → nat_eq p n ≡ false
other_part D p x first n e plain r =
    ne_eqb p n (λ same.
    let equal : x ≡ r.part = same_item x r.part (sym e ∙ ap (slice_get D.procs) same ∙ r.is_there) in
    let kinds = ap (λ (q : Procedure). is_property_kind q.kind) equal in
    true≢false (sym r.is_property ∙ sym kinds ∙ plain))

-- what another procedure stands for, by the tests that tell it
pub by_tests : (a b c d : Bool) (p n : ℕ) (parts : List (Option ℕ)) → nat_eq p n ≡ false → Lacks (is_that p) parts
    → Lacks (is_that p) (cond (not a) (itself n) (cond b (itself n) (cond (c && not d) [] (cond c parts (itself n)))))
by_tests false b c d p n parts e lacks = (e, tt)
by_tests true true c d p n parts e lacks = (e, tt)
by_tests true false true true p n parts e lacks = lacks
by_tests true false true false p n parts e lacks = tt
by_tests true false false d p n parts e lacks = (e, tt)

procedure_lacks : (S : Scope) (p n : ℕ) (x : Procedure) (o : Option Procedure) → slice_get S.declarations.procs p ≡ Some x → is_property_kind x.kind ≡ false
    → nat_eq p n ≡ false → Lacks (is_that p) (procedure_order S n o)
procedure_lacks S p n x None e plain other = tt
procedure_lacks S p n x (Some q) e plain other =
    let D = S.declarations in
    by_tests (is_property_kind q.kind) (is_separate S q) (is_counted D n q) (nat_eq q.first.0 n) p n (parts_of D n) other
    (other_numbers p (part_number D kind.Get n) (or_part (part_number D kind.Let n) (part_number D kind.Set n))
    (λ m f. other_part D p x n m e plain (get_numbered D n m f))
    (λ m f. other_part D p x n m e plain (let_or_set D n m f)))

pub stands_only_there : (S : Scope) (p : ℕ) (x : Procedure) → slice_get S.declarations.procs p ≡ Some x → is_property_kind x.kind ≡ false → StandsOnlyAt S p p
stands_only_there S p x e plain n other = procedure_lacks S p n x (slice_get S.declarations.procs n) e plain other

-- ---- its head

abbrev close_of : Procedure → NetClose
close_of x = cond (is_function x.kind) EndFunction EndSub

chosen_close : (f : NetClose → net.Procedure) (b : Bool) → cond b (f EndFunction) (f EndSub) ≡ f (cond b EndFunction EndSub)
chosen_close f true = refl
chosen_close f false = refl

head_params : (S : Scope) (x : Procedure) → members.params_by None (head_of S x x.name) ≡ params_of S false x.params
head_params S x = by (is_function x.kind)
  where
    by : (b : Bool)
        → members.params_by None
        (cond b (net.function (written_visibility x.visibility) x.name (params_of S false x.params) (result_type S x))
        (net.sub (written_visibility x.visibility) x.name (params_of S false x.params)))
        ≡ params_of S false x.params
    by true = refl
    by false = refl

head_result : (S : Scope) (x : Procedure) (k : ProcKind) → is_property_kind k ≡ false
    → members.result_by None
    (cond (is_function k) (net.function (written_visibility x.visibility) x.name (params_of S false x.params) (result_type S x))
    (net.sub (written_visibility x.visibility) x.name (params_of S false x.params)))
    ≡ written_result S x k
head_result S x kind.Sub h = refl
head_result S x kind.Function h = refl
head_result S x kind.Get h = absurd (cc h)
head_result S x kind.Let h = absurd (cc h)
head_result S x kind.Set h = absurd (cc h)

-- ---- its place

plain_order : (S : Scope) (n : ℕ) (x : Procedure) (o : Option Procedure) → o ≡ Some x → is_property_kind x.kind ≡ false → procedure_order S n o ≡ itself n
plain_order S n x o e plain =
    ap (procedure_order S n) e ∙ ap (λ b. cond (not b) (itself n) (cond (is_separate S x) (itself n) (joined_order S n x))) plain

plain_members : (P : Program) (S : Scope) (ps : List Placed) (l : Placed) (head : source.Line) (body : Nodes) (x : Procedure) (o : Option Procedure)
    → o ≡ Some x
    → is_property_kind x.kind ≡ false
    → procedure_members P S ps l head body o ≡ member_comments (head_comments S l head) ++ plain_member P S l body x x.name ∷ []
plain_members P S ps l head body x o e plain =
    ap (procedure_members P S ps l head body) e
    ∙ ap (λ b. cond (b && (not (is_separate S x) && is_later S l.at.procedure x)) []
    (member_comments (head_comments S l head)
    ++ cond (not b) (plain_member P S l body x x.name)
    (cond (is_separate S x) (plain_member P S l body x (separate_name x.kind (procedure_name S.declarations l.at.procedure))) (property_member P S ps l body x)) ∷ []))
    plain

pub stands_there : (U : Upgrade) (p : ℕ) (s : Site) (x : Procedure) (ps : List Placed) → slice_get U.program.declarations.procs p ≡ Some x
    → is_property_kind x.kind ≡ false → StandsAt U.program U.facts (IsWrittenFor U s x) p p s.home s.source_module ps s
stands_there U p s x ps e plain k =
    let P = U.program in
    let S = site_scope U s in
    let l = s.placed in
    let o = slice_get P.declarations.procs p in
    let notes = member_comments (head_comments S l s.head) in
    let r = behind_codeless s.home k notes (plain_member P S l s.body x x.name ∷ []) (comments_codeless (head_comments S l s.head)) in
    let close = chosen_close (procedure_with P S l s.body (head_of S x x.name)) (is_function x.kind) in
    let code : Code =
    record {
      home = s.home;
      member = r.0;
      sets = false;
      property = None;
      procedure =
          cond (is_function x.kind) (procedure_with P S l s.body (head_of S x x.name) EndFunction) (procedure_with P S l s.body (head_of S x x.name) EndSub);
    } in
    stands_as (IsWrittenFor U s x) p (procedure_order S p o) (itself p) (codes_of_members s.home k (procedure_members P S ps l s.head s.body o)) (code ∷ [])
    (plain_order S p x o e plain)
    (ap (codes_of_members s.home k) (plain_members P S ps l s.head s.body x o e plain) ∙ r.1)
    (record {
      number = 0;
      is_number = eq-eqb p p refl;
      code = code;
      is_code = refl;
      fits = record {
        home = refl;
        head = head_of S x x.name;
        close = close_of x;
        is_written = close;
        alone = λ h. record { property = refl; sets = refl; is_head = refl };
        joined = λ h. absurd (true≢false (sym h ∙ plain));
        params =
            ap (λ (q : net.Procedure). members.params_by None q.head) close
            ∙ head_params S x
            ∙ ap (λ b. params_of S b x.params) (sym plain);
        result = ap (λ (q : net.Procedure). members.result_by None q.head) close ∙ head_result S x x.kind plain;
      };
    })
