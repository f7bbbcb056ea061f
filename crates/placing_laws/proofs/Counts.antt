-- Each written member has as many procedures as the order of procedures has for it.
use Rattle.std.proofs.Common.{◌≡◌, ℕ, zero, suc, ◌+◌, Bool, true, false, not, cond, ◌&&◌, is_some, List, [], ◌∷◌, ◌++◌, map, length, Option, Some, None, refl, sym, ap, ◌∙◌, arith, length-append, eqb-true, true≢false}
use Rattle.std.specs.Prelude.{slice_get, nat_eq, option_to_list}
use Rattle.std.specs.List.{list_all}
use Rattle.up_base.proofs.Lists.{both_true, by_test}
use Rattle.vb_tree.specs.declared.declared.ProcKind.{ProcKind}
use Rattle.vb_tree.specs.declared.declared.ProcKind.TheVariants as kind
use Rattle.vb_tree.specs.Tree.{Member, Nodes, alone, group, proc}
use Rattle.vb_tree.specs.Tree as source
use Rattle.bound_tree.specs.Tree.{Procedure, Declarations, Program}
use Rattle.net_tree.specs.Tree as net
use Rattle.written_trees.specs.Arguments.{is_property_kind}
use Rattle.written_trees.specs.Comments.{texts}
use Rattle.written_trees.specs.DeclaredMembers.{member_comments}
use Rattle.written_trees.specs.Heads.{index_params, is_function, params_of, property_type, written_visibility}
use Rattle.written_trees.specs.Members.{plain_member, procedure_members, written_at}
use Rattle.written_trees.specs.Names.{Scope, procedure_name}
use Rattle.written_trees.specs.Order.{itself, member_order, parts_of, procedure_order}
use Rattle.written_trees.specs.Placing.{Placed}
use Rattle.written_trees.specs.Properties.{head_comments, is_counted, is_kind, is_part, is_procedure_member, is_separate, joined_property, no_part, only_part, or_part, own_part, part_among, part_at, part_by, part_number, property_of, separate_name}
use Rattle.net_run.specs.Members.{codes_of_member, codes_of_members, part_code}
use Rattle.placing_laws.proofs.Codes.{alone_codeless, behind_codeless, comments_codeless, is_codeless, lines_codeless, no_codes, one_behind}
use Rattle.placing_laws.proofs.Lists.{at_position}

-- ---- where a procedure stands among members

abbrev pub is_at : ℕ → Placed → Bool
is_at n p = is_procedure_member p.member && nat_eq p.at.procedure n

abbrev pub StandsIn : List Placed → ℕ → Type 0
StandsIn ps n = (i : ℕ) × (p : Placed) × (slice_get ps i ≡ Some p) × (is_at n p ≡ true)

abbrev pub is_at_some : ℕ → Option Placed → Bool
is_at_some n None = false
is_at_some n (Some p) = is_at n p

-- the parts of the property with this first part stand among members
abbrev pub HasParts : Declarations → List Placed → (first : ℕ) → Type 0
HasParts D ps first =
    (n : ℕ) (q : Procedure) → slice_get D.procs n ≡ Some q → is_property_kind q.kind ≡ true → q.first.0 ≡ first → StandsIn ps n

-- ---- parts

abbrev pub IsPart : Declarations → List Placed → ℕ → Type 0
IsPart D ps n = (q : Procedure) × (slice_get D.procs n ≡ Some q) × StandsIn ps n

part_here : (P : Program) (S : Scope) (later : Bool) (p : Placed) (m : Member) (o : Option Procedure) (q : Procedure) → is_procedure_member m ≡ true
    → o ≡ Some q → is_some (part_by P S later p m o).procedure ≡ true
part_here P S later p (alone l) o q h e = absurd (cc h)
part_here P S later p (group head lines close) o q h e = absurd (cc h)
part_here P S later p (proc head body close) None q h e = absurd (cc e)
part_here P S later p (proc head body close) (Some r) q h e = refl

either_part : (P : Program) (S : Scope) (first n : ℕ) (p : Placed) (ps : List Placed) (q : Procedure) → slice_get S.declarations.procs n ≡ Some q
    → (is_at n p ≡ false → is_some (part_among P S first n ps).procedure ≡ true) → is_some (part_among P S first n (p ∷ ps)).procedure ≡ true
either_part P S first n p ps q e more =
    let here = part_by P S (not (nat_eq n first)) p p.member (slice_get S.declarations.procs n) in
    by_test (is_procedure_member p.member && nat_eq p.at.procedure n) (λ b. is_some (cond b here (part_among P S first n ps)).procedure ≡ true)
    (λ y. part_here P S (not (nat_eq n first)) p p.member (slice_get S.declarations.procs n) q (both_true (is_procedure_member p.member) (nat_eq p.at.procedure n) y).0 e)
    more

part_found : (P : Program) (S : Scope) (first n : ℕ) (ps : List Placed) (q : Procedure) (i : ℕ) (p : Placed) → slice_get S.declarations.procs n ≡ Some q
    → slice_get ps i ≡ Some p → is_at n p ≡ true → is_some (part_among P S first n ps).procedure ≡ true
part_found P S first n [] q i p e s t = absurd (cc s)
part_found P S first n (r ∷ ps) q zero p e s t =
    either_part P S first n r ps q e (λ other. let here : is_at n r ≡ true = ap (is_at_some n) s ∙ t in absurd (true≢false (sym here ∙ other)))
part_found P S first n (r ∷ ps) q (suc i) p e s t = either_part P S first n r ps q e (λ other. part_found P S first n ps q i p e s t)

pub part_is : (P : Program) (S : Scope) (first : ℕ) (ps : List Placed) (o : Option ℕ) → ((n : ℕ) → o ≡ Some n → IsPart S.declarations ps n)
    → is_some (part_at P S first ps o).procedure ≡ is_some o
part_is P S first ps None h = refl
part_is P S first ps (Some n) h =
    let r : IsPart S.declarations ps n = h n refl in
    part_found P S first n ps r.0 r.2.0 r.2.1 r.1 r.2.2 r.2.3

pub same_kind : (a b : ProcKind) → is_kind a b ≡ true → is_property_kind a ≡ true → is_property_kind b ≡ true
same_kind kind.Sub b h i = absurd (cc i)
same_kind kind.Function b h i = absurd (cc i)
same_kind kind.Get kind.Get h i = refl
same_kind kind.Get _ h i = absurd (cc h)
same_kind kind.Let kind.Let h i = refl
same_kind kind.Let _ h i = absurd (cc h)
same_kind kind.Set kind.Set h i = refl
same_kind kind.Set _ h i = absurd (cc h)

-- the procedure that a part is
pub record NumbersPart (D : Declarations) (first n : ℕ) : Type 0 where
  pub part : Procedure
  pub is_there : slice_get D.procs n ≡ Some part
  pub is_property : is_property_kind part.kind ≡ true
  pub has_first : part.first.0 ≡ first

pub part_numbered : (D : Declarations) (k : ProcKind) (first n : ℕ) → is_property_kind k ≡ true → part_number D k first ≡ Some n → NumbersPart D first n
part_numbered D k first n h e =
    let r = at_position (is_part first k) D.procs n e in
    let both = both_true (nat_eq r.0.first.0 first) (is_kind k r.0.kind) r.2 in
    record { part = r.0; is_there = r.1; is_property = same_kind k r.0.kind both.1 h; has_first = eqb-true r.0.first.0 first both.0 }

pub put_numbered : (D : Declarations) (first n : ℕ) (a b : Option ℕ) → ((n : ℕ) → a ≡ Some n → NumbersPart D first n) → ((n : ℕ) → b ≡ Some n → NumbersPart D first n)
    → or_part a b ≡ Some n → NumbersPart D first n
put_numbered D first n None b h k e = k n e
put_numbered D first n (Some m) b h k e = h n e

pub get_numbered : (D : Declarations) (first n : ℕ) → part_number D kind.Get first ≡ Some n → NumbersPart D first n
get_numbered D first n e = part_numbered D kind.Get first n refl e

pub let_or_set : (D : Declarations) (first n : ℕ) → or_part (part_number D kind.Let first) (part_number D kind.Set first) ≡ Some n → NumbersPart D first n
let_or_set D first n e =
    put_numbered D first n (part_number D kind.Let first) (part_number D kind.Set first) (λ m. part_numbered D kind.Let first m refl)
    (λ m. part_numbered D kind.Set first m refl) e

pub part_stands : (D : Declarations) (ps : List Placed) (first n : ℕ) → HasParts D ps first → NumbersPart D first n → IsPart D ps n
part_stands D ps first n has r = (r.part, r.is_there, has n r.part r.is_there r.is_property r.has_first)

-- ---- properties

part_codes : (home k : ℕ) (sets : Bool) (r : net.Property) (o : Option net.Procedure) (a : Option ℕ) → is_some o ≡ is_some a
    → length (part_code home k sets r o) ≡ length (option_to_list a)
part_codes home k sets r None None h = refl
part_codes home k sets r None (Some n) h = absurd (cc h)
part_codes home k sets r (Some q) None h = absurd (cc h)
part_codes home k sets r (Some q) (Some n) h = refl

two_numbers : (a b : Option ℕ) → length (map Some (option_to_list a ++ option_to_list b)) ≡ length (option_to_list a) + length (option_to_list b)
two_numbers None None = omega arith
two_numbers None (Some m) = omega arith
two_numbers (Some n) None = omega arith
two_numbers (Some n) (Some m) = omega arith

two_parts : (home k : ℕ) (r : net.Property) (a b : Option ℕ) → is_some r.get ≡ is_some a → is_some r.set ≡ is_some b
    → length (codes_of_member home k (net.property r)) ≡ length (map Some (option_to_list a ++ option_to_list b))
two_parts home k r a b h i =
    let one = part_codes home k false r r.get a h in
    let other = part_codes home k true r r.set b i in
    let codes = length-append (part_code home k false r r.get) (part_code home k true r r.set) in
    let numbers = two_numbers a b in
    omega (arith, one, other, codes, numbers)

property_codes : (P : Program) (S : Scope) (ps : List Placed) (first : ℕ) (q : Procedure) (home k : ℕ) → HasParts S.declarations ps first
    → length (codes_of_member home k (property_of P S ps first q)) ≡ length (parts_of S.declarations first)
property_codes P S ps first q home k has =
    let D = S.declarations in
    let a = part_number D kind.Get first in
    let b = or_part (part_number D kind.Let first) (part_number D kind.Set first) in
    let reads = part_at P S first ps a in
    let writes = part_at P S first ps b in
    let r : net.Property =
    record {
      visibility = written_visibility q.visibility;
      name = procedure_name D first;
      params = params_of S true (index_params q);
      ty = property_type S q;
      get_comments = reads.comments;
      get = reads.procedure;
      set_comments = writes.comments;
      set = writes.procedure;
    } in
    two_parts home k r a b
    (part_is P S first ps a (λ n e. part_stands D ps first n has (get_numbered D first n e)))
    (part_is P S first ps b (λ n e. part_stands D ps first n has (let_or_set D first n e)))

only_codes : (P : Program) (S : Scope) (p : Placed) (body : Nodes) (q : Procedure) (home k : ℕ) → length (codes_of_member home k (only_part P S p body q)) ≡ 1
only_codes P S p body q home k = by (is_function q.kind)
  where
    by : (b : Bool)
        → length (codes_of_member home k
        (cond b (joined_property S q (procedure_name S.declarations p.at.procedure) (own_part P S p body q) no_part)
        (joined_property S q (procedure_name S.declarations p.at.procedure) no_part (own_part P S p body q)))) ≡ 1
    by true = refl
    by false = refl

-- ---- procedures

-- a member by the tests that tell what is written for it
by_tests : (a b c d : Bool) (n : ℕ) (parts : List (Option ℕ)) (notes : List net.Member) (plain separate joined only : net.Member) (home k : ℕ)
    → list_all is_codeless notes ≡ true
    → ((j : ℕ) → length (codes_of_member home j plain) ≡ 1)
    → ((j : ℕ) → length (codes_of_member home j separate) ≡ 1)
    → ((j : ℕ) → length (codes_of_member home j joined) ≡ length parts)
    → ((j : ℕ) → length (codes_of_member home j only) ≡ 1)
    → length (codes_of_members home k
    (cond (a && (not b && (c && not d))) [] (notes ++ cond (not a) plain (cond b separate (cond c joined only)) ∷ [])))
    ≡ length (cond (not a) (itself n) (cond b (itself n) (cond (c && not d) [] (cond c parts (itself n)))))
by_tests false b c d n parts notes plain separate joined only home k quiet h i j l = one_behind home k 1 notes plain quiet h
by_tests true true c d n parts notes plain separate joined only home k quiet h i j l = one_behind home k 1 notes separate quiet i
by_tests true false true true n parts notes plain separate joined only home k quiet h i j l = one_behind home k (length parts) notes joined quiet j
by_tests true false true false n parts notes plain separate joined only home k quiet h i j l = refl
by_tests true false false d n parts notes plain separate joined only home k quiet h i j l = one_behind home k 1 notes only quiet l

procedure_codes : (P : Program) (S : Scope) (ps : List Placed) (p : Placed) (head : source.Line) (body : Nodes) (o : Option Procedure) (home k : ℕ)
    → HasParts S.declarations ps p.at.procedure
    → length (codes_of_members home k (procedure_members P S ps p head body o)) ≡ length (procedure_order S p.at.procedure o)
procedure_codes P S ps p head body None home k has = refl
procedure_codes P S ps p head body (Some q) home k has =
    by_tests (is_property_kind q.kind) (is_separate S q) (is_counted S.declarations p.at.procedure q) (nat_eq q.first.0 p.at.procedure) p.at.procedure
    (parts_of S.declarations p.at.procedure) (member_comments (head_comments S p head))
    (plain_member P S p body q q.name)
    (plain_member P S p body q (separate_name q.kind (procedure_name S.declarations p.at.procedure)))
    (property_of P S ps p.at.procedure q) (only_part P S p body q) home k
    (comments_codeless (head_comments S p head)) (λ j. refl) (λ j. refl)
    (λ j. property_codes P S ps p.at.procedure q home j has) (λ j. only_codes P S p body q home j)

-- what is written for a member
pub member_codes : (P : Program) (S : Scope) (ps : List Placed) (p : Placed) (m : Member) (home k : ℕ)
    → (is_procedure_member m ≡ true → HasParts S.declarations ps p.at.procedure)
    → length (codes_of_members home k (member_comments (texts p.earlier) ++ written_at P S ps p m)) ≡ length (member_order S p.at.procedure m)
member_codes P S ps p (alone l) home k has =
    ap length (no_codes home k (member_comments (texts p.earlier) ++ written_at P S ps p (alone l)) (alone_codeless S (texts p.earlier) (texts p.own) p.at.statement l))
member_codes P S ps p (group head lines close) home k has =
    ap length (no_codes home k (member_comments (texts p.earlier) ++ written_at P S ps p (group head lines close)) (lines_codeless S (texts p.earlier) (texts p.own) p head lines))
member_codes P S ps p (proc head body close) home k has =
    let o = slice_get S.declarations.procs p.at.procedure in
    let r = behind_codeless home k (member_comments (texts p.earlier)) (procedure_members P S ps p head body o) (comments_codeless (texts p.earlier)) in
    ap length r.1 ∙ procedure_codes P S ps p head body o home r.0 (has refl)
