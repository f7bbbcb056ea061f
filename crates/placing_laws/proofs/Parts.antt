-- What is written for a part of a property stands in one with that of the other part, at the place of the first.
use Rattle.std.proofs.Common.{◌≡◌, ℕ, zero, suc, ◌+◌, Bool, true, false, not, cond, ◌&&◌, List, [], ◌∷◌, ◌++◌, is_some, map, Option, Some, None, refl, sym, ap, subst, ◌∙◌, arith, inl, inr, append-nil, eq-eqb, ne_eqb, eqb-true, true≢false}
use Rattle.std.specs.Prelude.{slice_get, nat_eq, option_to_list}
use Rattle.up_base.proofs.Lists.{both_true, by_test}
use Rattle.vb_tree.specs.declared.declared.ProcKind.{ProcKind}
use Rattle.vb_tree.specs.declared.declared.ProcKind.TheVariants as kind
use Rattle.vb_tree.specs.Tree.{Member, Module, Nodes, alone, group, proc}
use Rattle.vb_tree.specs.Tree as source
use Rattle.bound_tree.specs.Tree.{Variable, Procedure, Declarations, Program}
use Rattle.net_tree.specs.declared.declaration.NetClose.TheVariants.{EndGet, EndSet}
use Rattle.net_tree.specs.Tree as net
use Rattle.written_trees.specs.Arguments.{is_property_kind}
use Rattle.written_trees.specs.Bodies.{procedure_with}
use Rattle.written_trees.specs.Comments.{Comment, past}
use Rattle.written_trees.specs.DeclaredMembers.{member_comments}
use Rattle.written_trees.specs.Facts.{Facts}
use Rattle.written_trees.specs.Heads.{index_params, is_function, params_of, property_type, set_head, written_visibility}
use Rattle.written_trees.specs.Members.{plain_member, procedure_members}
use Rattle.written_trees.specs.Names.{Scope, procedure_name}
use Rattle.written_trees.specs.Order.{itself, joined_order, parts_of, procedure_order}
use Rattle.written_trees.specs.Placing.{Numbers, Placed, behind_member, count_procedures, last_line, place_member, placed_members}
use Rattle.written_trees.specs.Projects.{module_scope}
use Rattle.written_trees.specs.Properties.{Part, carries_shape, head_comments, is_counted, is_kind, is_number, is_part, is_separate, only_part, or_part, part_among, part_at, part_by, part_number, part_procedure, property_of, separate_name}
use Rattle.net_run.specs.Members as members
use Rattle.net_run.specs.Members.{Code, codes_of_member, codes_of_members, part_code}
use Rattle.run_matches.specs.CoveredExprs.{takes_value}
use Rattle.run_matches.specs.JoinedProperties.{part_value, variable_at, are_like_params}
use Rattle.run_matches.specs.Sites.{Site, member_sites}
use Rattle.run_matches.specs.Upgrades.{Upgrade, is_that}
use Rattle.run_statements.specs.Written.{first_type, part_head, site_scope}
use Rattle.placing_laws.proofs.Alone.{IsWrittenFor, by_tests, other_numbers}
use Rattle.placing_laws.proofs.Codes.{behind_codeless, comments_codeless}
use Rattle.placing_laws.proofs.Counts.{HasParts, NumbersPart, get_numbered, let_or_set, part_is, part_stands}
use Rattle.placing_laws.proofs.Lists.{Halves, Lacks, at_position, same_item, split}
use Rattle.placing_laws.proofs.Members.{member_count, sites_among}
use Rattle.placing_laws.proofs.PartHeads.{chosen_part, part_params, part_result, same_params}
use Rattle.placing_laws.proofs.Standing.{Stands, StandsAt, StandsOnlyAt, stands_as}

-- A part of a property that is written as one, and its first part, which is the procedure n.
pub record IsPartOf (U : Upgrade) (p : ℕ) (x : Procedure) (n : ℕ) (q : Procedure) : Type 0 where
  pub is_there : slice_get U.program.declarations.procs p ≡ Some x
  pub is_property : is_property_kind x.kind ≡ true
  pub has_first : x.first.0 ≡ n
  pub is_numbered : part_number U.program.declarations x.kind n ≡ Some p
  pub is_only : x.kind ≡ kind.Set → part_number U.program.declarations kind.Let n ≡ None
  pub is_named : procedure_name U.program.declarations n ≡ x.name
  pub indexes : are_like_params U.program.declarations (index_params x) (index_params q) ≡ true
  pub value : Variable
  pub is_value : variable_at U.program.declarations (part_value x) ≡ Some value
  pub first_there : slice_get U.program.declarations.procs n ≡ Some q
  pub first_property : is_property_kind q.kind ≡ true
  pub is_first : q.first.0 ≡ n
  pub first_number : part_number U.program.declarations q.kind n ≡ Some n
  pub is_whole : carries_shape U.facts n 0 U.program.declarations.procs ≡ false

-- ---- the part of a number among the members of a module

part_by_number : (P : Program) (S : Scope) (later : Bool) (l : Placed) (head : source.Line) (body : Nodes) (close : source.Line) (o : Option Procedure)
    (x : Procedure)
    → o ≡ Some x → (part_by P S later l (proc head body close) o).procedure ≡ Some (part_procedure P S l body x)
part_by_number P S later l head body close None x e = absurd (cc e)
part_by_number P S later l head body close (Some y) x e = ap (λ (z : Procedure). Some (part_procedure P S l body z)) (same_item y x e)

module _ (P : Program) (S : Scope) (first p : ℕ) (x : Procedure) (e : slice_get S.declarations.procs p ≡ Some x) (home : ℕ) (m : Module) where
  found_here : (at : Numbers) (cs : List Comment) (y : Member) (ps : List Placed) (i : ℕ) (s : Site)
      → slice_get (member_sites home m (place_member at cs y) y) i ≡ Some s
      → p ≡ at.procedure + i → (part_among P S first p (place_member at cs y ∷ ps)).procedure ≡ Some (part_procedure P S s.placed s.body x)
  found_here at cs (alone l) ps i s f number = absurd (cc f)
  found_here at cs (group head lines close) ps i s f number = absurd (cc f)
  found_here at cs (proc head body close) ps (suc i) s f number = absurd (cc f)
  found_here at cs (proc head body close) ps zero s f number =
      let l = place_member at cs (proc head body close) in
      let own : Site = record { home = home; source_module = m; placed = l; head = head; body = body; close = close } in
      let same : at.procedure ≡ p = omega (arith, number) in
      ap (λ (b : Bool). (cond b (part_by P S (not (nat_eq p first)) l (proc head body close) (slice_get S.declarations.procs p)) (part_among P S first p ps)).procedure)
      (eq-eqb at.procedure p same)
      ∙ part_by_number P S (not (nat_eq p first)) l head body close (slice_get S.declarations.procs p) x e
      ∙ ap (λ (z : Site). Some (part_procedure P S z.placed z.body x)) (same_item own s f)

  -- the members before it aren't it
  passed_by : (at : Numbers) (cs : List Comment) (y : Member) (ps : List Placed) (i : ℕ) → p ≡ at.procedure + count_procedures y + i
      → part_among P S first p (place_member at cs y ∷ ps) ≡ part_among P S first p ps
  passed_by at cs (alone l) ps i above = refl
  passed_by at cs (group head lines close) ps i above = refl
  passed_by at cs (proc head body close) ps i above =
      ap (λ (b : Bool). cond b (part_by P S (not (nat_eq p first)) (place_member at cs (proc head body close)) (proc head body close) (slice_get S.declarations.procs p))
      (part_among P S first p ps))
      (ne_eqb at.procedure p (λ same. absurd (omega (arith, same, above))))

  pub part_is_found : (at : Numbers) (cs : List Comment) (ms : List Member) (i : ℕ) (s : Site)
      → slice_get (sites_among home m (placed_members at cs ms)) i ≡ Some s → p ≡ at.procedure + i
      → (part_among P S first p (placed_members at cs ms)).procedure ≡ Some (part_procedure P S s.placed s.body x)
  part_is_found at cs [] i s f number = absurd (cc f)
  part_is_found at cs (y ∷ ms) i s f number =
      of_half (split (member_sites home m (place_member at cs y) y) (sites_among home m (placed_members (behind_member at y) (past (last_line y) cs) ms)) i s f)
      (λ j g more. part_is_found (behind_member at y) (past (last_line y) cs) ms j s g more)
    where
      of_half : Halves (member_sites home m (place_member at cs y) y)
          (sites_among home m (placed_members (behind_member at y) (past (last_line y) cs) ms)) i s
          → ((j : ℕ) → slice_get (sites_among home m (placed_members (behind_member at y) (past (last_line y) cs) ms)) j ≡ Some s
          → p ≡ (behind_member at y).procedure + j
          → (part_among P S first p (placed_members (behind_member at y) (past (last_line y) cs) ms)).procedure ≡ Some (part_procedure P S s.placed s.body x))
          → (part_among P S first p (place_member at cs y ∷ placed_members (behind_member at y) (past (last_line y) cs) ms)).procedure
          ≡ Some (part_procedure P S s.placed s.body x)
      of_half (inl g) later = found_here at cs y (placed_members (behind_member at y) (past (last_line y) cs) ms) i s g number
      of_half (inr g) later =
          let place = g.1 in
          let many = member_count home m (place_member at cs y) y in
          let behind : p ≡ at.procedure + count_procedures y + g.0 = omega (arith, number, place, many) in
          ap (λ (r : Part). r.procedure) (passed_by at cs y (placed_members (behind_member at y) (past (last_line y) cs) ms) g.0 behind)
          ∙ later g.0 g.2 behind

-- ---- the two parts of a property

-- a part that stands in a property, whose Set stands beside its Get
abbrev code_in : (home member : ℕ) → (sets : Bool) → net.Property → net.Procedure → Code
code_in home j sets r y = record { home = home; member = j; sets = sets; property = Some r; procedure = y }

module _ (Fits : Code → Type 0) (p home j : ℕ) (r : net.Property) (y : net.Procedure) where
  get_stands : (get set : Option net.Procedure) (a b : Option ℕ) → a ≡ Some p → get ≡ Some y → Fits (code_in home j false r y)
      → Stands Fits p (map Some (option_to_list a ++ option_to_list b)) (part_code home j false r get ++ part_code home j true r set)
  get_stands None set a b e f h = absurd (cc f)
  get_stands (Some z) set None b e f h = absurd (cc e)
  get_stands (Some z) set (Some n) b e f h = record {
    number = 0;
    is_number = eq-eqb p n (sym (same_item n p e));
    code = code_in home j false r z;
    is_code = refl;
    fits = subst (λ (w : net.Procedure). Fits (code_in home j false r w)) (sym (same_item z y f)) h;
  }

  set_stands : (get set : Option net.Procedure) (a b : Option ℕ) → is_some get ≡ is_some a → ((n : ℕ) → a ≡ Some n → nat_eq p n ≡ false) → b ≡ Some p
      → set ≡ Some y → Fits (code_in home j true r y)
      → Stands Fits p (map Some (option_to_list a ++ option_to_list b)) (part_code home j false r get ++ part_code home j true r set)
  set_stands get None a b same other e f h = absurd (cc f)
  set_stands get (Some z) a None same other e f h = absurd (cc e)
  set_stands None (Some z) (Some k) (Some n) same other e f h = absurd (cc same)
  set_stands (Some w) (Some z) None (Some n) same other e f h = absurd (cc same)
  set_stands None (Some z) None (Some n) same other e f h = record {
    number = 0;
    is_number = eq-eqb p n (sym (same_item n p e));
    code = code_in home j true r z;
    is_code = refl;
    fits = subst (λ (w : net.Procedure). Fits (code_in home j true r w)) (sym (same_item z y f)) h;
  }
  set_stands (Some w) (Some z) (Some k) (Some n) same other e f h = record {
    number = 1;
    is_number = (other k refl, eq-eqb p n (sym (same_item n p e)));
    code = code_in home j true r z;
    is_code = refl;
    fits = subst (λ (v : net.Procedure). Fits (code_in home j true r v)) (sym (same_item z y f)) h;
  }

-- ---- the member of a property

-- where the parts of a property fit together, its first part stands for all of them
joined_parts : (S : Scope) (n : ℕ) (q : Procedure) (o : Option Procedure) → o ≡ Some q → is_property_kind q.kind ≡ true → is_separate S q ≡ false
    → is_counted S.declarations n q ≡ true → nat_eq q.first.0 n ≡ true → procedure_order S n o ≡ parts_of S.declarations n
joined_parts S n q o e property whole counted first =
    ap (procedure_order S n) e
    ∙ ap (λ b. cond (not b) (itself n) (cond (is_separate S q) (itself n) (joined_order S n q))) property
    ∙ ap (λ b. cond b (itself n) (joined_order S n q)) whole
    ∙ ap (λ b. cond (b && not (nat_eq q.first.0 n)) [] (cond b (parts_of S.declarations n) (itself n))) counted
    ∙ ap (λ b. cond (not b) [] (parts_of S.declarations n)) first

joined_members : (P : Program) (S : Scope) (ps : List Placed) (l : Placed) (head : source.Line) (body : Nodes) (q : Procedure) (o : Option Procedure)
    → o ≡ Some q
    → is_property_kind q.kind ≡ true → is_separate S q ≡ false → is_counted S.declarations l.at.procedure q ≡ true → nat_eq q.first.0 l.at.procedure ≡ true
    → procedure_members P S ps l head body o ≡ member_comments (head_comments S l head) ++ property_of P S ps l.at.procedure q ∷ []
joined_members P S ps l head body q o e property whole counted first =
    let n = l.at.procedure in
    let notes = member_comments (head_comments S l head) in
    let own = plain_member P S l body q q.name in
    let apart = plain_member P S l body q (separate_name q.kind (procedure_name S.declarations n)) in
    let joined = property_of P S ps n q in
    let only = only_part P S l body q in
    ap (procedure_members P S ps l head body) e
    ∙ by_all (is_property_kind q.kind) (is_separate S q) (is_counted S.declarations n q)
    (nat_eq q.first.0 n) notes own apart joined only property whole counted first
  where
    by_all : (a b c d : Bool) (notes : List net.Member) (own apart joined only : net.Member) → a ≡ true → b ≡ false → c ≡ true → d ≡ true
        → cond (a && (not b && (c && not d))) [] (notes ++ cond (not a) own (cond b apart (cond c joined only)) ∷ []) ≡ notes ++ joined ∷ []
    by_all true false true true notes own apart joined only h i j k = refl
    by_all false b c d notes own apart joined only h i j k = absurd (cc h)
    by_all true true c d notes own apart joined only h i j k = absurd (cc i)
    by_all true false false d notes own apart joined only h i j k = absurd (cc j)
    by_all true false true false notes own apart joined only h i j k = absurd (cc k)

counts_itself : (p : ℕ) (o : Option ℕ) → o ≡ Some p → is_number p o ≡ true
counts_itself p o e = ap (is_number p) e ∙ eq-eqb p p refl

separate_as_first : (F : Facts) (D : Declarations) (a b : ℕ) → a ≡ b → carries_shape F b 0 D.procs ≡ false → carries_shape F a 0 D.procs ≡ false
separate_as_first F D a b e h = ap (λ n. carries_shape F n 0 D.procs) e ∙ h

is_get : (k : ProcKind) → is_kind kind.Get k ≡ true → k ≡ kind.Get
is_get kind.Get h = refl
is_get kind.Sub h = absurd (cc h)
is_get kind.Function h = absurd (cc h)
is_get kind.Let h = absurd (cc h)
is_get kind.Set h = absurd (cc h)

module _ (U : Upgrade) (p : ℕ) (x : Procedure) (n : ℕ) (q : Procedure) (h : IsPartOf U p x n q) where
  counted : is_counted U.program.declarations p x ≡ true
  counted = counts_itself p (part_number U.program.declarations x.kind x.first.0) (ap (part_number U.program.declarations x.kind) h.has_first ∙ h.is_numbered)

  first_counted : is_counted U.program.declarations n q ≡ true
  first_counted = counts_itself n (part_number U.program.declarations q.kind q.first.0)
      (ap (part_number U.program.declarations q.kind) h.is_first ∙ h.first_number)

  first_whole : (m : Module) → is_separate (module_scope U.program U.facts m) q ≡ false
  first_whole m = separate_as_first U.facts U.program.declarations q.first.0 n h.is_first h.is_whole

  whole : (m : Module) → is_separate (module_scope U.program U.facts m) x ≡ false
  whole m = separate_as_first U.facts U.program.declarations x.first.0 n h.has_first h.is_whole

  -- ---- elsewhere it isn't

  other_part : (k i : ℕ) → nat_eq n k ≡ false → NumbersPart U.program.declarations k i → nat_eq p i ≡ false
  other_part k i other r =
      ne_eqb p i (λ same.
      let equal : x ≡ r.part = same_item x r.part (sym h.is_there ∙ ap (slice_get U.program.declarations.procs) same ∙ r.is_there) in
      let first : n ≡ k = sym h.has_first ∙ ap (λ (z : Procedure). z.first.0) equal ∙ r.has_first in
      true≢false (sym (eq-eqb n k first) ∙ other))

  stays_away : (S : Scope) (o : Option Procedure) → S.declarations ≡ U.program.declarations → o ≡ Some x → is_separate S x ≡ false
      → is_counted S.declarations p x ≡ true → nat_eq n p ≡ false → procedure_order S p o ≡ []
  stays_away S o same e apart counts other =
      ap (procedure_order S p) e
      ∙ by_all (is_property_kind x.kind) (is_separate S x) (is_counted S.declarations p x) (nat_eq x.first.0 p) (itself p) (parts_of S.declarations p)
      h.is_property apart counts (ap (λ z. nat_eq z p) h.has_first ∙ other)
    where
      by_all : (a b c d : Bool) (own parts : List (Option ℕ)) → a ≡ true → b ≡ false → c ≡ true → d ≡ false
          → cond (not a) own (cond b own (cond (c && not d) [] (cond c parts own))) ≡ []
      by_all true false true false own parts h i j k = refl
      by_all false b c d own parts h i j k = absurd (cc h)
      by_all true true c d own parts h i j k = absurd (cc i)
      by_all true false false d own parts h i j k = absurd (cc j)
      by_all true false true true own parts h i j k = absurd (cc k)

  none_lacks : (os : List (Option ℕ)) → os ≡ [] → Lacks (is_that p) os
  none_lacks [] e = tt
  none_lacks (o ∷ os) e = absurd (cc e)

  others_lack : (m : Module) (k : ℕ) (o : Option Procedure) → slice_get U.program.declarations.procs k ≡ o → nat_eq n k ≡ false
      → Lacks (is_that p) (procedure_order (module_scope U.program U.facts m) k o)
  others_lack m k None e other = tt
  others_lack m k (Some z) e other =
      let D = U.program.declarations in
      let S = module_scope U.program U.facts m in
      by_test (nat_eq p k) (λ b. Lacks (is_that p) (procedure_order S k (Some z)))
      (λ same.
      let here : p ≡ k = eqb-true p k same in
      subst (λ i. Lacks (is_that p) (procedure_order S i (Some z))) here
      (none_lacks (procedure_order S p (Some z))
      (stays_away S (Some z) refl (sym e ∙ ap (slice_get D.procs) (sym here) ∙ h.is_there) (whole m) counted (ap (nat_eq n) here ∙ other))))
      (λ apart.
      by_tests (is_property_kind z.kind) (is_separate S z) (is_counted D k z) (nat_eq z.first.0 k) p k (parts_of D k) apart
      (other_numbers p (part_number D kind.Get k) (or_part (part_number D kind.Let k) (part_number D kind.Set k))
      (λ i f. other_part k i other (get_numbered D k i f))
      (λ i f. other_part k i other (let_or_set D k i f))))

  pub part_stands_only : (m : Module) → StandsOnlyAt (module_scope U.program U.facts m) p n
  part_stands_only m k other = others_lack m k (slice_get U.program.declarations.procs k) refl other

  -- ---- it is there

  -- a part of another kind is another procedure
  apart_from_get : (k : ProcKind) → x.kind ≡ k → is_kind kind.Get k ≡ false → (i : ℕ) → part_number U.program.declarations kind.Get n ≡ Some i
      → nat_eq p i ≡ false
  apart_from_get k e other i f =
      let r = at_position (is_part n kind.Get) U.program.declarations.procs i f in
      let both = both_true (nat_eq r.0.first.0 n) (is_kind kind.Get r.0.kind) r.2 in
      ne_eqb p i (λ same.
      let equal : x ≡ r.0 = same_item x r.0 (sym h.is_there ∙ ap (slice_get U.program.declarations.procs) same ∙ r.1) in
      true≢false (sym both.1 ∙ ap (λ (z : Procedure). is_kind kind.Get z.kind) (sym equal) ∙ ap (is_kind kind.Get) e ∙ other))

  number_as : (k : ProcKind) → x.kind ≡ k → part_number U.program.declarations k n ≡ Some p
  number_as k e = ap (λ z. part_number U.program.declarations z n) (sym e) ∙ h.is_numbered

module _ (U : Upgrade) (p : ℕ) (s : Site) (x : Procedure) (t : Site) (q : Procedure) (h : IsPartOf U p x t.placed.at.procedure q) where
  part_fits : (home j : ℕ) (sets : Bool) (r : net.Property) → home ≡ s.home → r.name ≡ x.name → r.params ≡ params_of (site_scope U s) true (index_params x) → r.ty ≡ property_type (site_scope U s) q
      → sets ≡ takes_value x.kind → IsWrittenFor U s x (code_in home j sets r (part_procedure U.program (site_scope U s) s.placed s.body x))
  part_fits home j sets r at name same ty takes =
      let P = U.program in
      let S = site_scope U s in
      let close = chosen_part (procedure_with P S s.placed s.body) (set_head S x) (is_function x.kind) in
      record {
        home = at;
        head = part_head S x;
        close = cond (is_function x.kind) EndGet EndSet;
        is_written = close;
        alone = λ a. absurd (true≢false (sym h.is_property ∙ a));
        joined = λ b. record { property = r; is_property = refl; name = name; sets = takes; is_head = refl };
        params =
            ap (λ (y : net.Procedure). members.params_by (Some r) y.head) close
            ∙ part_params S x r h.value (is_function x.kind) same h.is_value
            ∙ ap (λ b. params_of S b x.params) (sym h.is_property);
        result =
            ap (λ (y : net.Procedure). members.result_by (Some r) y.head) close
            ∙ part_result S x r x.kind h.is_property name
            (ty ∙ ap (first_type S) (sym (ap (slice_get P.declarations.procs) h.has_first ∙ h.first_there)));
      }

  pub part_stands_there : (home : ℕ) (ps : List Placed) → home ≡ s.home → HasParts U.program.declarations ps t.placed.at.procedure
      → (part_among U.program (site_scope U s) t.placed.at.procedure p ps).procedure ≡ Some (part_procedure U.program (site_scope U s) s.placed s.body x)
      → StandsAt U.program U.facts (IsWrittenFor U s x) p t.placed.at.procedure home s.source_module ps t
  part_stands_there home ps at has found k =
      let P = U.program in
      let D = U.program.declarations in
      let S = site_scope U s in
      let l = t.placed in
      let n = l.at.procedure in
      let o = slice_get D.procs n in
      let notes = member_comments (head_comments S l t.head) in
      let first = behind_codeless home k notes (net.property r ∷ []) (comments_codeless (head_comments S l t.head)) in
      stands_as (IsWrittenFor U s x) p (procedure_order S n o) (parts_of D n) (codes_of_members home k (procedure_members P S ps l t.head t.body o))
      (codes_of_member home first.0 (net.property r))
      (joined_parts S n q o h.first_there h.first_property (first_whole U p x n q h s.source_module) (first_counted U p x n q h) is_first)
      (ap (codes_of_members home k)
      (joined_members P S ps l t.head t.body q o h.first_there h.first_property (first_whole U p x n q h s.source_module) (first_counted U p x n q h) is_first)
      ∙ first.1
      ∙ append-nil (codes_of_member home first.0 (net.property r)))
      (by_kind first.0 x.kind refl)
    where
      is_first : nat_eq q.first.0 t.placed.at.procedure ≡ true
      is_first = eq-eqb q.first.0 t.placed.at.procedure h.is_first

      reads : Option ℕ
      reads = part_number U.program.declarations kind.Get t.placed.at.procedure

      writes : Option ℕ
      writes = or_part (part_number U.program.declarations kind.Let t.placed.at.procedure) (part_number U.program.declarations kind.Set t.placed.at.procedure)

      getter : Part
      getter = part_at U.program (site_scope U s) t.placed.at.procedure ps reads

      setter : Part
      setter = part_at U.program (site_scope U s) t.placed.at.procedure ps writes

      r : net.Property
      r = record {
        visibility = written_visibility q.visibility;
        name = procedure_name U.program.declarations t.placed.at.procedure;
        params = params_of (site_scope U s) true (index_params q);
        ty = property_type (site_scope U s) q;
        get_comments = getter.comments;
        get = getter.procedure;
        set_comments = setter.comments;
        set = setter.procedure;
      }

      part_there : (i : Option ℕ) → i ≡ Some p
          → (part_at U.program (site_scope U s) t.placed.at.procedure ps i).procedure ≡ Some (part_procedure U.program (site_scope U s) s.placed s.body x)
      part_there i e = ap (λ (z : Option ℕ). (part_at U.program (site_scope U s) t.placed.at.procedure ps z).procedure) e ∙ found

      same_get : is_some getter.procedure ≡ is_some reads
      same_get =
          part_is U.program (site_scope U s) t.placed.at.procedure ps reads
          (λ i e. part_stands U.program.declarations ps t.placed.at.procedure i has (get_numbered U.program.declarations t.placed.at.procedure i e))

      fits : (j : ℕ) (sets : Bool) → sets ≡ takes_value x.kind
          → IsWrittenFor U s x (code_in home j sets r (part_procedure U.program (site_scope U s) s.placed s.body x))
      fits j sets takes = part_fits home j sets r at h.is_named (same_params (site_scope U s) (index_params x) (index_params q) h.indexes) refl takes

      as_set : (j : ℕ) (kk : ProcKind) → x.kind ≡ kk → is_kind kind.Get kk ≡ false → true ≡ takes_value kk → writes ≡ Some p
          → Stands (IsWrittenFor U s x) p (parts_of U.program.declarations t.placed.at.procedure) (codes_of_member home j (net.property r))
      as_set j kk e other takes number =
          set_stands (IsWrittenFor U s x) p home j r
          (part_procedure U.program (site_scope U s) s.placed s.body x) getter.procedure setter.procedure reads writes
          same_get (apart_from_get U p x t.placed.at.procedure q h kk e other) number (part_there writes number)
          (fits j true (takes ∙ ap takes_value (sym e)))

      by_kind : (j : ℕ) (kk : ProcKind) → x.kind ≡ kk
          → Stands (IsWrittenFor U s x) p (parts_of U.program.declarations t.placed.at.procedure) (codes_of_member home j (net.property r))
      by_kind j kind.Sub e = absurd (true≢false (sym h.is_property ∙ ap is_property_kind e))
      by_kind j kind.Function e = absurd (true≢false (sym h.is_property ∙ ap is_property_kind e))
      by_kind j kind.Get e =
          let number = number_as U p x t.placed.at.procedure q h kind.Get e in
          get_stands (IsWrittenFor U s x) p home j r
          (part_procedure U.program (site_scope U s) s.placed s.body x) getter.procedure setter.procedure reads writes
          number (part_there reads number) (fits j false (ap takes_value (sym e)))
      by_kind j kind.Let e =
          as_set j kind.Let e refl refl
          (ap (λ (i : Option ℕ). or_part i (part_number U.program.declarations kind.Set t.placed.at.procedure)) (number_as U p x t.placed.at.procedure q h kind.Let e))
      by_kind j kind.Set e =
          as_set j kind.Set e refl refl
          (ap (λ (i : Option ℕ). or_part i (part_number U.program.declarations kind.Set t.placed.at.procedure)) (h.is_only e)
          ∙ number_as U p x t.placed.at.procedure q h kind.Set e)
