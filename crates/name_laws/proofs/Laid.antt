-- The variables among the members of what is written for a module are those that its lines declare, in their order.
use Rattle.std.proofs.Common.{◌≡◌, refl, sym, subst, ℕ, suc, Bool, true, false, cond, not, List, [], ◌∷◌, ◌++◌, map, Option, Some, None, slice_get, append_assoc, inl, inr}
use Rattle.std.specs.List.{flat_map, list_all}
use Rattle.vb_tree.specs.declared.value.Value6.{Value6}
use Rattle.vb_tree.specs.Tree.{Form, Member, Nodes, alone, group, proc}
use Rattle.vb_tree.specs.Tree as source
use Rattle.bound_tree.specs.Tree.{Constant, Procedure, Program, Variable}
use Rattle.net_tree.specs.declared.declaration.NetVisibility.{NetVisibility}
use Rattle.net_tree.specs.declared.declaration.NetVisibility.TheVariants as net_seen
use Rattle.net_tree.specs.Tree as net
use Rattle.written_trees.specs.Comments.{Comment, past, texts, up_to, upgrade_texts}
use Rattle.written_trees.specs.DeclaredMembers.{constant_by, constant_visibility, declared_members, enum_constants, enum_from, group_members, group_rules, is_standard, line_members, member_comments, module_constant, module_variable, statement_comments, structure_of, word_visibility}
use Rattle.written_trees.specs.Members.{procedure_members, written_at, written_member, written_members}
use Rattle.written_trees.specs.Names.{Scope}
use Rattle.written_trees.specs.Placing.{Numbers, Placed, is_type_head, last_comments, placed_members}
use Rattle.written_trees.specs.Projects.{makers}
use Rattle.written_trees.specs.Prologues.{constants_of, object_variable, sound_value, variables_of}
use Rattle.run_matches.specs.Shared.{enum_owns, line_owns, member_owns, procedure_names}
use Rattle.run_matches.specs.Sites.{Own, own_constants, own_variables, variable_numbers}
use Rattle.run_statements.specs.Objects.{is_variable}
use Rattle.name_laws.proofs.Lists.{Among, both_true}
use Rattle.name_laws.proofs.Others.{all_by, procedures_pass}
use Rattle.name_laws.proofs.Owned.{variable_of_statement}

-- Members with the variables among them: each is written for the variable of its number, or for a constant that carries an issue.
pub data Laid (S : Scope) : List ℕ → List net.Member → Type 0 where
  nothing_laid : Laid S [] []
  other_laid : (vs : List ℕ) (m : net.Member) (ms : List net.Member) → is_variable m ≡ false → Laid S vs ms → Laid S vs (m ∷ ms)
  constant_laid :
      (vs : List ℕ) (seen : NetVisibility) (name : List ℕ) (ms : List net.Member) → Laid S vs ms
      → Laid S vs (net.variable seen (object_variable name) ∷ ms)
  variable_laid :
      (v : ℕ) (vs : List ℕ) (seen : NetVisibility) (x : Variable) (ms : List net.Member) → slice_get S.declarations.vars v ≡ Some x → Laid S vs ms
      → Laid S (v ∷ vs) (module_variable S seen (v, x) ∷ ms)

module _ (S : Scope) where
  append_laid : (vs us : List ℕ) (ms ns : List net.Member) → Laid S vs ms → Laid S us ns → Laid S (vs ++ us) (ms ++ ns)
  append_laid _ us _ ns nothing_laid h = h
  append_laid _ us _ ns (other_laid vs m ms e more) h = other_laid (vs ++ us) m (ms ++ ns) e (append_laid vs us ms ns more h)
  append_laid _ us _ ns (constant_laid vs seen name ms more) h = constant_laid (vs ++ us) seen name (ms ++ ns) (append_laid vs us ms ns more h)
  append_laid _ us _ ns (variable_laid v vs seen x ms e more) h = variable_laid v (vs ++ us) seen x (ms ++ ns) e (append_laid vs us ms ns more h)

  -- none of them is a variable
  others_laid : (ms : List net.Member) → list_all (λ (m : net.Member). not (is_variable m)) ms ≡ true → Laid S [] ms
  others_laid [] h = nothing_laid
  others_laid (m ∷ ms) h =
      let b = both_true (not (is_variable m)) (list_all (λ (m : net.Member). not (is_variable m)) ms) h in
      other_laid [] m ms (negated (is_variable m) b.0) (others_laid ms b.1)
    where
      negated : (b : Bool) → not b ≡ true → b ≡ false
      negated true e = absurd (cc e)
      negated false e = refl

  comments_laid : (units : List (List ℕ)) → Laid S [] (member_comments units)
  comments_laid [] = nothing_laid
  comments_laid (u ∷ us) = other_laid [] (net.member_comment u) (member_comments us) refl (comments_laid us)

  behind_comments : (units : List (List ℕ)) (vs : List ℕ) (ms : List net.Member) → Laid S vs ms → Laid S vs (member_comments units ++ ms)
  behind_comments units vs ms h = append_laid [] vs (member_comments units) ms (comments_laid units) h

  variables_laid : (seen : NetVisibility) (vs : List (ℕ × Variable)) → ((v : ℕ × Variable) → Among vs v → slice_get S.declarations.vars v.0 ≡ Some v.1)
      → Laid S (variable_numbers (own_variables vs)) (map (module_variable S seen) vs)
  variables_laid seen [] each = nothing_laid
  variables_laid seen (v ∷ vs) each =
      variable_laid v.0 (variable_numbers (own_variables vs)) seen v.1 (map (module_variable S seen) vs) (each v (inl refl))
      (variables_laid seen vs (λ u a. each u (inr a)))

  no_numbers : (cs : List (ℕ × Constant)) → variable_numbers (own_constants cs) ≡ []
  no_numbers [] = refl
  no_numbers (c ∷ cs) = no_numbers cs

  constants_laid : (seen : NetVisibility) (cs : List (ℕ × Constant)) → Laid S [] (map (module_constant S seen) cs)
  constants_laid seen [] = nothing_laid
  constants_laid seen (c ∷ cs) = by (sound_value S.facts c) (constants_laid seen cs)
    where
      by : (o : Option Value6) → Laid S [] (map (module_constant S seen) cs) → Laid S [] (constant_by S seen c.1 o ∷ map (module_constant S seen) cs)
      by None more = constant_laid [] seen c.1.name (map (module_constant S seen) cs) more
      by (Some x) more = other_laid [] (constant_by S seen c.1 (Some x)) (map (module_constant S seen) cs) refl more

  declared_laid : (n : ℕ) (f : Form) → Laid S (variable_numbers (line_owns S.declarations S.file n f)) (declared_members S n f)
  declared_laid n (source.variables w declarators) =
      variables_laid (word_visibility w) (variables_of S.declarations S.file n) (variable_of_statement S.declarations S.file n)
  declared_laid n (source.constants visibility items) =
      subst (λ vs. Laid S vs (map (module_constant S (constant_visibility visibility)) (constants_of S.declarations S.file n)))
      (sym (no_numbers (constants_of S.declarations S.file n))) (constants_laid (constant_visibility visibility) (constants_of S.declarations S.file n))
  declared_laid n _ = nothing_laid

  line_laid : (n : ℕ) (l : source.Line) → Laid S (variable_numbers (line_owns S.declarations S.file n l.form)) (line_members S n l)
  line_laid n l =
      behind_comments (statement_comments S n l) (variable_numbers (line_owns S.declarations S.file n l.form)) (declared_members S n l.form)
      (declared_laid n l.form)

  -- ---- Enums and Types declare no variables

  none_before : (cs : List (ℕ × Constant)) (os : List Own) → variable_numbers os ≡ [] → variable_numbers (own_constants cs ++ os) ≡ []
  none_before [] os h = h
  none_before (c ∷ cs) os h = none_before cs os h

  enum_numbers : (n : ℕ) (lines : List source.Line) → variable_numbers (enum_owns S.declarations S.file n lines) ≡ []
  enum_numbers n [] = refl
  enum_numbers n (l ∷ ls) =
      none_before (constants_of S.declarations S.file n) (enum_owns S.declarations S.file (suc n) ls) (enum_numbers (suc n) ls)

  enum_constants_laid : (n : ℕ) → Laid S [] (enum_constants S n)
  enum_constants_laid n = by (is_standard S)
    where
      by : (b : Bool) → Laid S [] (cond b (map (module_constant S net_seen.Public) (constants_of S.declarations S.file n)) [])
      by true = constants_laid net_seen.Public (constants_of S.declarations S.file n)
      by false = nothing_laid

  enum_laid : (cs : List Comment) (n : ℕ) (lines : List source.Line) → Laid S [] (enum_from S cs n lines)
  enum_laid cs n [] = comments_laid (texts cs)
  enum_laid cs n (l ∷ ls) =
      let rest = enum_from S (past l.place.line cs) (suc n) ls in
      behind_comments (texts (up_to l.place.line cs)) [] (member_comments (statement_comments S n l) ++ (enum_constants S n ++ rest))
      (behind_comments (statement_comments S n l) [] (enum_constants S n ++ rest)
      (append_laid [] [] (enum_constants S n) rest (enum_constants_laid n) (enum_laid (past l.place.line cs) (suc n) ls)))

  group_laid : (p : Placed) (head : source.Line) (lines : List source.Line) → Laid S [] (group_members S p head lines)
  group_laid p head lines =
      behind_comments (upgrade_texts (group_rules S p head.form) head.text) []
      (cond (is_type_head head.form) (structure_of S p lines ∷ []) (enum_from S p.inside (suc p.at.statement) lines)) (by (is_type_head head.form))
    where
      by : (b : Bool) → Laid S [] (cond b (structure_of S p lines ∷ []) (enum_from S p.inside (suc p.at.statement) lines))
      by true = other_laid [] (structure_of S p lines) [] refl nothing_laid
      by false = enum_laid p.inside (suc p.at.statement) lines

  -- ---- the members of a module

  module _ (P : Program) where
    abbrev test : net.Member → Bool
    test m = not (is_variable m)

    procedures_laid : (ps : List Placed) (p : Placed) (head : source.Line) (body : Nodes) (o : Option Procedure)
        → Laid S [] (procedure_members P S ps p head body o)
    procedures_laid ps p head body o =
        others_laid (procedure_members P S ps p head body o)
        (procedures_pass P S (λ o. false) (λ n. true) test (λ seen v e h. absurd (cc h)) (λ seen c h. absurd (cc h)) (λ u. refl) (λ s. refl)
        (λ p body q n h. refl) (λ q n get set h. refl) ps p head body o
        (all_by (λ n. true) (procedure_names S.declarations p.at.procedure o) (λ n a. refl)))

    at_laid : (ps : List Placed) (p : Placed) (m : Member)
        → Laid S (variable_numbers (member_owns S.declarations S.file p m)) (written_at P S ps p m)
    at_laid ps p (alone l) =
        behind_comments (texts p.own) (variable_numbers (line_owns S.declarations S.file p.at.statement l.form)) (line_members S p.at.statement l)
        (line_laid p.at.statement l)
    at_laid ps p (group head lines close) =
        subst (λ vs. Laid S vs (member_comments (texts p.own) ++ group_members S p head lines)) (sym (enum_numbers (suc p.at.statement) lines))
        (behind_comments (texts p.own) [] (group_members S p head lines) (group_laid p head lines))
    at_laid ps p (proc head body close) = procedures_laid ps p head body (slice_get S.declarations.procs p.at.procedure)

    placed_laid : (all ps : List Placed) (ms : List net.Member) → Laid S [] ms
        → Laid S (flat_map (λ (p : Placed). variable_numbers (member_owns S.declarations S.file p p.member)) ps) (flat_map (written_member P S all) ps ++ ms)
    placed_laid all [] ms h = h
    placed_laid all (p ∷ ps) ms h =
        let own = variable_numbers (member_owns S.declarations S.file p p.member) in
        let others = flat_map (λ (p : Placed). variable_numbers (member_owns S.declarations S.file p p.member)) ps in
        let rest = flat_map (written_member P S all) ps in
        subst (λ ns. Laid S (own ++ others) ns) (sym (append_assoc (written_member P S all p) rest ms))
        (append_laid own others (written_member P S all p) (rest ++ ms)
        (behind_comments (texts p.earlier) own (written_at P S all p p.member) (at_laid all p p.member)) (placed_laid all ps ms h))

    pub members_laid : (has : Bool) (at : Numbers) (cs : List Comment) (ms : List Member)
        → Laid S (flat_map (λ (p : Placed). variable_numbers (member_owns S.declarations S.file p p.member)) (placed_members at cs ms))
        (makers has ++ written_members P S at cs ms)
    members_laid has at cs ms = by has
      where
        ps : List Placed
        ps = placed_members at cs ms

        rest : Laid S (flat_map (λ (p : Placed). variable_numbers (member_owns S.declarations S.file p p.member)) (placed_members at cs ms)) (written_members P S at cs ms)
        rest = placed_laid (placed_members at cs ms) (placed_members at cs ms) (member_comments (texts (last_comments cs ms))) (comments_laid (texts (last_comments cs ms)))

        by : (b : Bool) → Laid S (flat_map (λ (p : Placed). variable_numbers (member_owns S.declarations S.file p p.member)) (placed_members at cs ms))
            (makers b ++ written_members P S at cs ms)
        by true =
            append_laid [] (flat_map (λ (p : Placed). variable_numbers (member_owns S.declarations S.file p p.member)) (placed_members at cs ms)) (makers true)
            (written_members P S at cs ms) (others_laid (makers true) refl) rest
        by false = rest
