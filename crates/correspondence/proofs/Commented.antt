-- Each member stands in the written module with its own comments.
use Rattle.std.proofs.Common.{◌≡◌, ℕ, suc, Bool, true, false, not, ◌&&◌, cond, List, [], ◌∷◌, ◌++◌, map, Option, Some, None, refl, sym, ap, ◌∙◌, subst, append-nil}
use Rattle.std.specs.List.{flat_map}
use Rattle.std.specs.Prelude.{slice_get}
use Rattle.std.proofs.lemmas.Grind.{flat_map-append}
use Rattle.vb_tree.specs.FlatLines.{flat_lines}
use Rattle.vb_tree.specs.Tree.{Form, Module, Member, alone, group, proc, Nodes}
use Rattle.vb_tree.specs.Tree as source
use Rattle.vb_tree.specs.declared.declared.ProcKind.TheVariants as kind
use Rattle.vb_tree.specs.declared.value.Value6.{Value6}
use Rattle.bound_tree.specs.Tree.{Variable, Constant, Procedure, Program}
use Rattle.net_tree.specs.declared.declaration.NetClose.{NetClose}
use Rattle.net_tree.specs.declared.declaration.NetClose.TheVariants.{EndSub, EndFunction}
use Rattle.net_tree.specs.declared.declaration.NetVisibility.{NetVisibility}
use Rattle.net_tree.specs.declared.declaration.NetVisibility.TheVariants as net_seen
use Rattle.net_tree.specs.Tree as net
use Rattle.written_trees.specs.Arguments.{is_property_kind}
use Rattle.written_trees.specs.Bodies.{procedure_with}
use Rattle.written_trees.specs.Comments.{Comment, past, texts, up_to, upgrade_texts}
use Rattle.written_trees.specs.DeclaredMembers.{member_comments, constant_by, module_constant, module_variable, declared_members, line_members, word_visibility, constant_visibility, field_member, line_fields, fields_from, is_standard, enum_constants, enum_from, structure_of, group_rules, group_members}
use Rattle.written_trees.specs.Heads.{written_visibility, params_of, head_of, is_function, index_params, property_type}
use Rattle.written_trees.specs.Members.{plain_member, property_member, is_later, procedure_members, written_at, written_member}
use Rattle.written_trees.specs.Names.{Scope, procedure_name}
use Rattle.written_trees.specs.Placing.{Numbers, Placed, place_member, placed_members, behind_member, is_type_head}
use Rattle.written_trees.specs.Prologues.{variables_of, constants_of, sound_value}
use Rattle.written_trees.specs.Properties.{is_separate, separate_name, head_comments, head_rules, property_of, joined_property, no_part, part_at, part_procedure, only_part, part_number, or_part}
use Rattle.run_matches.specs.Sites.{member_sites}
use Rattle.correspondence.specs.Comments.{comments_in, comment_of_field, comments_of_lines, statement_upgrade, group_upgrades, body_upgrades, own_texts, StandsAsProcedure, StandsAsProperty, StandsByItself, ProcedureStands, SomeStands, MemberStands, MemberCorresponds}
use Rattle.correspondence.specs.Heads.{HeadCorresponds}
use Rattle.correspondence.specs.Lists.{Merges, Pairwise}
use Rattle.correspondence.proofs.Heads.{head_corresponds}
use Rattle.correspondence.proofs.Merging.{merges_first, merges_second, first_then, second_then, comments_then, none_between, members_back, behind_members, behind_fields, fields_back}
use Rattle.correspondence.proofs.PlacedBodies.{HasBodyAt, HasBodies, HavePlacedBodies}
use Rattle.correspondence.proofs.NoProcedures.{no_alone, no_group}
use Rattle.correspondence.proofs.PropertyParts.{inside_merges, part_merges, part_stands}

-- ---- declarations have no comments

no_variables : (S : Scope) (visibility : NetVisibility) (vs : List (ℕ × Variable)) → flat_map comments_in (map (module_variable S visibility) vs) ≡ []
no_variables S visibility [] = refl
no_variables S visibility (v ∷ vs) = no_variables S visibility vs

no_constant : (S : Scope) (visibility : NetVisibility) (c : Constant) (o : Option Value6) → comments_in (constant_by S visibility c o) ≡ []
no_constant S visibility c None = refl
no_constant S visibility c (Some x) = refl

no_constants : (S : Scope) (visibility : NetVisibility) (cs : List (ℕ × Constant)) → flat_map comments_in (map (module_constant S visibility) cs) ≡ []
no_constants S visibility [] = refl
no_constants S visibility (c ∷ cs) =
    ap {B = List (List ℕ)} (λ us. us ++ flat_map comments_in (map (module_constant S visibility) cs)) (no_constant S visibility c.1 (sound_value S.facts c))
    ∙ no_constants S visibility cs

no_declared : (S : Scope) (n : ℕ) (f : Form) → flat_map comments_in (declared_members S n f) ≡ []
no_declared S n (source.variables w declarators) = no_variables S (word_visibility w) (variables_of S.declarations S.file n)
no_declared S n (source.constants visibility items) = no_constants S (constant_visibility visibility) (constants_of S.declarations S.file n)
no_declared S n _ = refl

no_fields : (S : Scope) (vs : List (ℕ × Variable)) → flat_map comment_of_field (map (field_member S) vs) ≡ []
no_fields S [] = refl
no_fields S (v ∷ vs) = no_fields S vs

no_enum : (S : Scope) (n : ℕ) (b : Bool) → flat_map comments_in (cond b (map (module_constant S net_seen.Public) (constants_of S.declarations S.file n)) []) ≡ []
no_enum S n true = no_constants S net_seen.Public (constants_of S.declarations S.file n)
no_enum S n false = refl

-- ---- groups

fields_merge : (S : Scope) (cs : List Comment) (n : ℕ) (ls : List source.Line) → Merges (texts cs) (group_upgrades S n ls) (flat_map comment_of_field (fields_from S cs n ls))
fields_merge S cs n [] = subst (Merges (texts cs) []) (sym (fields_back (texts cs))) (merges_first (texts cs))
fields_merge S cs n (l ∷ ls) =
    let ds = past l.place.line cs in
    let us = statement_upgrade S n l in
    let more = fields_from S ds (suc n) ls in
    let declared = map (field_member S) (variables_of S.declarations S.file n) in
    let here : flat_map comment_of_field (line_fields S n l) ≡ us =
    behind_fields us declared ∙ ap {B = List (List ℕ)} (λ vs. us ++ vs) (no_fields S (variables_of S.declarations S.file n)) ∙ append-nil us in
    subst (Merges (texts cs) (us ++ group_upgrades S (suc n) ls))
    (sym (behind_fields (texts (up_to l.place.line cs)) (line_fields S n l ++ more)
    ∙ ap {B = List (List ℕ)} (λ vs. texts (up_to l.place.line cs) ++ vs)
    (flat_map-append comment_of_field (line_fields S n l) more ∙ ap {B = List (List ℕ)} (λ vs. vs ++ flat_map comment_of_field more) here)))
    (comments_then l.place.line cs (us ++ group_upgrades S (suc n) ls) (us ++ flat_map comment_of_field more)
    (second_then us (texts ds) (group_upgrades S (suc n) ls) (flat_map comment_of_field more) (fields_merge S ds (suc n) ls)))

enum_merge : (S : Scope) (cs : List Comment) (n : ℕ) (ls : List source.Line) → Merges (texts cs) (group_upgrades S n ls) (flat_map comments_in (enum_from S cs n ls))
enum_merge S cs n [] = subst (Merges (texts cs) []) (sym (members_back (texts cs))) (merges_first (texts cs))
enum_merge S cs n (l ∷ ls) =
    let ds = past l.place.line cs in
    let us = statement_upgrade S n l in
    let more = enum_from S ds (suc n) ls in
    subst (Merges (texts cs) (us ++ group_upgrades S (suc n) ls))
    (sym (behind_members (texts (up_to l.place.line cs)) (member_comments us ++ (enum_constants S n ++ more))
    ∙ ap {B = List (List ℕ)} (λ vs. texts (up_to l.place.line cs) ++ vs)
    (behind_members us (enum_constants S n ++ more)
    ∙ ap {B = List (List ℕ)} (λ vs. us ++ vs)
    (flat_map-append comments_in (enum_constants S n) more ∙ ap {B = List (List ℕ)} (λ vs. vs ++ flat_map comments_in more) (no_enum S n (is_standard S))))))
    (comments_then l.place.line cs (us ++ group_upgrades S (suc n) ls) (us ++ flat_map comments_in more)
    (second_then us (texts ds) (group_upgrades S (suc n) ls) (flat_map comments_in more) (enum_merge S ds (suc n) ls)))

group_by : (S : Scope) (p : Placed) (lines : List source.Line) (b : Bool)
    → Merges (texts p.inside) (group_upgrades S (suc p.at.statement) lines)
    (flat_map comments_in (cond b (structure_of S p lines ∷ []) (enum_from S p.inside (suc p.at.statement) lines)))
group_by S p lines true =
    subst (Merges (texts p.inside) (group_upgrades S (suc p.at.statement) lines))
    (sym (append-nil (flat_map comment_of_field (fields_from S p.inside (suc p.at.statement) lines))))
    (fields_merge S p.inside (suc p.at.statement) lines)
group_by S p lines false = enum_merge S p.inside (suc p.at.statement) lines

-- ---- how a procedure is written, by tests

as_plain : (a c l : Bool) (notes : List net.Member) (plain separate joined : net.Member) → a ≡ false
    → cond (a && (not c && l)) [] (notes ++ cond (not a) plain (cond c separate joined) ∷ []) ≡ notes ++ plain ∷ []
as_plain true c l notes plain separate joined e = absurd (cc e)
as_plain false c l notes plain separate joined e = refl

as_separate : (a c l : Bool) (notes : List net.Member) (plain separate joined : net.Member) → a ≡ true → c ≡ true
    → cond (a && (not c && l)) [] (notes ++ cond (not a) plain (cond c separate joined) ∷ []) ≡ notes ++ separate ∷ []
as_separate false c l notes plain separate joined e f = absurd (cc e)
as_separate true false l notes plain separate joined e f = absurd (cc f)
as_separate true true l notes plain separate joined e f = refl

as_joined : (a c l : Bool) (notes : List net.Member) (plain separate joined : net.Member) → a ≡ true → c ≡ false → (a && (not c && l)) ≡ false
    → cond (a && (not c && l)) [] (notes ++ cond (not a) plain (cond c separate joined) ∷ []) ≡ notes ++ joined ∷ []
as_joined false c l notes plain separate joined e f g = absurd (cc e)
as_joined true true l notes plain separate joined e f g = absurd (cc f)
as_joined true false true notes plain separate joined e f g = absurd (cc g)
as_joined true false false notes plain separate joined e f g = refl

as_later : (a c l : Bool) (notes : List net.Member) (plain separate joined : net.Member) → (a && (not c && l)) ≡ true
    → cond (a && (not c && l)) [] (notes ++ cond (not a) plain (cond c separate joined) ∷ []) ≡ []
as_later false c l notes plain separate joined e = absurd (cc e)
as_later true true l notes plain separate joined e = absurd (cc e)
as_later true false false notes plain separate joined e = absurd (cc e)
as_later true false true notes plain separate joined e = refl

-- ---- members

module _ (P : Program) (S : Scope) (ps : List Placed) (have : HavePlacedBodies P ps) where
  alone_stands : (p : Placed) (l : source.Line) → p.inside ≡ []
      → MemberStands S ps p (alone l) (member_comments (texts p.earlier) ++ written_at P S ps p (alone l))
  alone_stands p l h =
      let e = texts p.earlier in
      let o = texts p.own in
      let us = statement_upgrade S p.at.statement l in
      let declared = declared_members S p.at.statement l.form in (
        no_alone S p l,
        subst (λ (i : List Comment). Merges (e ++ (o ++ texts i)) us (flat_map comments_in (member_comments e ++ (member_comments o ++ line_members S p.at.statement l)))) (sym h)
            (subst (Merges (e ++ (o ++ [])) us)
            (sym (behind_members e (member_comments o ++ line_members S p.at.statement l)
            ∙ ap {B = List (List ℕ)} (λ vs. e ++ vs)
            (behind_members o (line_members S p.at.statement l)
            ∙ ap {B = List (List ℕ)} (λ vs. o ++ vs)
            (behind_members us declared ∙ ap {B = List (List ℕ)} (λ vs. us ++ vs) (no_declared S p.at.statement l.form) ∙ append-nil us))))
            (first_then e (o ++ []) us (o ++ us) (first_then o [] us us (merges_second us)))),
      )

  group_stands : (p : Placed) (head close : source.Line) (lines : List source.Line)
      → MemberStands S ps p (group head lines close) (member_comments (texts p.earlier) ++ written_at P S ps p (group head lines close))
  group_stands p head close lines =
      let e = texts p.earlier in
      let o = texts p.own in
      let us = upgrade_texts (group_rules S p head.form) head.text in
      let more = group_upgrades S (suc p.at.statement) lines in
      let inner = cond (is_type_head head.form) (structure_of S p lines ∷ []) (enum_from S p.inside (suc p.at.statement) lines) in (
        no_group S p head lines,
        subst (Merges (own_texts p) (us ++ more))
            (sym (behind_members e (member_comments o ++ group_members S p head lines)
            ∙ ap {B = List (List ℕ)} (λ vs. e ++ vs)
            (behind_members o (group_members S p head lines) ∙ ap {B = List (List ℕ)} (λ vs. o ++ vs) (behind_members us inner))))
            (first_then e (o ++ texts p.inside) (us ++ more) (o ++ (us ++ flat_map comments_in inner))
            (first_then o (texts p.inside) (us ++ more) (us ++ flat_map comments_in inner)
            (second_then us (texts p.inside) more (flat_map comments_in inner) (group_by S p lines (is_type_head head.form))))),
      )

  -- ---- procedures

  notes_append : (us vs : List (List ℕ)) (ws : List net.Member) → member_comments us ++ (member_comments vs ++ ws) ≡ member_comments (us ++ vs) ++ ws
  notes_append [] vs ws = refl
  notes_append (u ∷ us) vs ws = ap {B = List net.Member} (λ ms. net.member_comment u ∷ ms) (notes_append us vs ws)

  module _ (p : Placed) (head close : source.Line) (body : Nodes) (b : HasBodyAt P p body) where
    abbrev its_front : List (List ℕ)
    its_front = texts p.earlier ++ head_comments S p head

    before : Merges (texts p.earlier ++ texts p.own) (upgrade_texts (head_rules S p) head.text) its_front
    before =
        let us = upgrade_texts (head_rules S p) head.text in
        first_then (texts p.earlier) (texts p.own) us (texts p.own ++ us)
        (subst (λ (xs : List (List ℕ)). Merges xs us (texts p.own ++ us)) (append-nil (texts p.own))
        (first_then (texts p.own) [] us us (merges_second us)))

    abbrev as_procedure : (h : net.Head) (c : NetClose)
        → StandsAsProcedure S p head body
        (member_comments (texts p.earlier) ++ (member_comments (head_comments S p head) ++ net.proc (procedure_with P S p body h c) ∷ []))
    as_procedure h c = record {
      front = its_front;
      written = procedure_with P S p body h c;
      is_member = notes_append (texts p.earlier) (head_comments S p head) (net.proc (procedure_with P S p body h c) ∷ []);
      before = before;
      inside = inside_merges P S p body b h c;
    }

    joined_stands : (q : Procedure)
        → StandsAsProperty S ps p head
        (member_comments (texts p.earlier) ++ (member_comments (head_comments S p head) ++ property_of P S ps p.at.procedure q ∷ []))
    joined_stands q =
        let n = p.at.procedure in
        let get = part_at P S n ps (part_number S.declarations kind.Get n) in
        let set = part_at P S n ps (or_part (part_number S.declarations kind.Let n) (part_number S.declarations kind.Set n)) in
        let r : net.Property =
        record {
          visibility = written_visibility q.visibility;
          name = procedure_name S.declarations n;
          params = params_of S true (index_params q);
          ty = property_type S q;
          get_comments = get.comments;
          get = get.procedure;
          set_comments = set.comments;
          set = set.procedure;
        } in
        record {
          front = its_front;
          written = r;
          is_member = notes_append (texts p.earlier) (head_comments S p head) (net.property r ∷ []);
          before = before;
          get = part_stands P S ps have n (part_number S.declarations kind.Get n);
          set = part_stands P S ps have n (or_part (part_number S.declarations kind.Let n) (part_number S.declarations kind.Set n));
        }

    itself_stands : (q : Procedure) (f : Bool) (d : net.Procedure)
        → Merges (texts p.inside) (body_upgrades S p.at.procedure (suc p.at.statement) 0 (flat_lines body)) (comments_of_lines d.lines)
        → StandsByItself S p head body f
        (member_comments (texts p.earlier)
        ++ (member_comments (head_comments S p head)
        ++ cond f (joined_property S q (procedure_name S.declarations p.at.procedure) (record { comments = []; procedure = Some d }) no_part)
        (joined_property S q (procedure_name S.declarations p.at.procedure) no_part (record { comments = []; procedure = Some d })) ∷ []))
    itself_stands q true d h =
        let r : net.Property =
        record {
          visibility = written_visibility q.visibility;
          name = procedure_name S.declarations p.at.procedure;
          params = params_of S true (index_params q);
          ty = property_type S q;
          get_comments = [];
          get = Some d;
          set_comments = [];
          set = None;
        } in
        record {
          front = its_front;
          written = r;
          is_member = notes_append (texts p.earlier) (head_comments S p head) (net.property r ∷ []);
          before = before;
          part = d;
          is_part = (refl, refl);
          no_comments = (refl, refl);
          inside = h;
        }
    itself_stands q false d h =
        let r : net.Property =
        record {
          visibility = written_visibility q.visibility;
          name = procedure_name S.declarations p.at.procedure;
          params = params_of S true (index_params q);
          ty = property_type S q;
          get_comments = [];
          get = None;
          set_comments = [];
          set = Some d;
        } in
        record {
          front = its_front;
          written = r;
          is_member = notes_append (texts p.earlier) (head_comments S p head) (net.property r ∷ []);
          before = before;
          part = d;
          is_part = (refl, refl);
          no_comments = (refl, refl);
          inside = h;
        }

    plain_by : (q : Procedure) (name : List ℕ) (f : Bool)
        → (w : StandsAsProcedure S p head body
        (member_comments (texts p.earlier)
        ++ (member_comments (head_comments S p head)
        ++ net.proc (cond f (procedure_with P S p body (head_of S q name) EndFunction) (procedure_with P S p body (head_of S q name) EndSub)) ∷ [])))
        × (w.written.head ≡ head_of S q name) × (w.written.close ≡ cond f EndFunction EndSub)
    plain_by q name true = (as_procedure (head_of S q name) EndFunction, refl, refl)
    plain_by q name false = (as_procedure (head_of S q name) EndSub, refl, refl)

    procedure_stands : (q : Procedure)
        → ProcedureStands S ps p head body q (member_comments (texts p.earlier) ++ procedure_members P S ps p head body (Some q))
    procedure_stands q =
        let a = is_property_kind q.kind in
        let c = is_separate S q in
        let l = is_later S p.at.procedure q in
        let notes = member_comments (head_comments S p head) in
        let plain = plain_member P S p body q q.name in
        let separate = plain_member P S p body q (separate_name q.kind (procedure_name S.declarations p.at.procedure)) in
        let joined = property_member P S ps p body q in
        record {
          plain =
              λ e. let w = plain_by q q.name (is_function q.kind) in
              subst (λ (ws : List net.Member). (v : StandsAsProcedure S p head body (member_comments (texts p.earlier) ++ ws)) × HeadCorresponds S q q.kind v.written.head × (v.written.close ≡ cond (is_function q.kind) EndFunction EndSub))
              (sym (as_plain a c l notes plain separate joined e))
              (w.0, subst (HeadCorresponds S q q.kind) (sym w.1) (head_corresponds S q e), w.2);
          separate =
              λ e f. subst (λ (ws : List net.Member). StandsAsProcedure S p head body (member_comments (texts p.earlier) ++ ws))
              (sym (as_separate a c l notes plain separate joined e f))
              (plain_by q (separate_name q.kind (procedure_name S.declarations p.at.procedure)) (is_function q.kind)).0;
          property =
              λ e f g k. subst (λ (ws : List net.Member). StandsAsProperty S ps p head (member_comments (texts p.earlier) ++ ws))
              (sym (as_joined a c l notes plain separate joined e f g))
              (subst
              (λ (t : Bool). StandsAsProperty S ps p head
              (member_comments (texts p.earlier) ++ (notes ++ cond t (property_of P S ps p.at.procedure q) (only_part P S p body q) ∷ [])))
              (sym k) (joined_stands q));
          by_itself =
              λ e f g k. subst (λ (ws : List net.Member). StandsByItself S p head body (is_function q.kind) (member_comments (texts p.earlier) ++ ws))
              (sym (as_joined a c l notes plain separate joined e f g))
              (subst
              (λ (t : Bool). StandsByItself S p head body (is_function q.kind)
              (member_comments (texts p.earlier) ++ (notes ++ cond t (property_of P S ps p.at.procedure q) (only_part P S p body q) ∷ [])))
              (sym k)
              (itself_stands q (is_function q.kind) (part_procedure P S p body q) (part_merges P S p body b q)));
          later =
              λ e. ap {B = List net.Member} (λ (ws : List net.Member). member_comments (texts p.earlier) ++ ws) (as_later a c l notes plain separate joined e)
              ∙ append-nil (member_comments (texts p.earlier));
        }

    some_stands : (o : Option Procedure) → SomeStands S ps p head body o (member_comments (texts p.earlier) ++ procedure_members P S ps p head body o)
    some_stands None = append-nil (member_comments (texts p.earlier))
    some_stands (Some q) = procedure_stands q

  -- ---- the members of a module

  pub members_correspond : (home : ℕ) (m : Module) (at : Numbers) (cs : List Comment) (ms : List Member)
      → HasBodies P (flat_map (λ (p : Placed). member_sites home m p p.member) (placed_members at cs ms))
      → Pairwise (MemberCorresponds S ps) (placed_members at cs ms) (map (written_member P S ps) (placed_members at cs ms))
  members_correspond home m at cs [] h = tt
  members_correspond home m at cs (alone l ∷ ms) h = (
    alone_stands (place_member at cs (alone l)) l (none_between l.place.line cs),
    members_correspond home m (behind_member at (alone l)) (past l.place.line cs) ms h,
  )
  members_correspond home m at cs (group head lines close ∷ ms) h = (
    group_stands (place_member at cs (group head lines close)) head close lines,
    members_correspond home m (behind_member at (group head lines close)) (past close.place.line cs) ms h,
  )
  members_correspond home m at cs (proc head body close ∷ ms) h = (
    some_stands (place_member at cs (proc head body close)) head close body h.0 (slice_get S.declarations.procs at.procedure),
    members_correspond home m (behind_member at (proc head body close)) (past close.place.line cs) ms h.1,
  )
