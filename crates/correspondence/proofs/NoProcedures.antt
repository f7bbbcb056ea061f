-- Declarations and comments have no procedure.
use Rattle.std.proofs.Common.{◌≡◌, ℕ, suc, Bool, true, false, cond, List, [], ◌∷◌, ◌++◌, map, Option, Some, None, refl, sym, ap, ◌∙◌, append-nil}
use Rattle.std.specs.List.{flat_map}
use Rattle.std.proofs.lemmas.Grind.{flat_map-append}
use Rattle.vb_tree.specs.declared.value.Value6.{Value6}
use Rattle.vb_tree.specs.Tree.{Form}
use Rattle.vb_tree.specs.Tree as source
use Rattle.bound_tree.specs.Tree.{Variable, Constant}
use Rattle.net_tree.specs.declared.declaration.NetVisibility.{NetVisibility}
use Rattle.net_tree.specs.declared.declaration.NetVisibility.TheVariants as net_seen
use Rattle.net_tree.specs.FlatLines.{procedures_in}
use Rattle.net_tree.specs.Tree as net
use Rattle.written_trees.specs.Comments.{Comment, past, texts, up_to, upgrade_texts}
use Rattle.written_trees.specs.DeclaredMembers.{member_comments, constant_by, module_constant, module_variable, declared_members, line_members, word_visibility, constant_visibility, is_standard, enum_constants, enum_from, structure_of, group_rules, group_members, statement_comments}
use Rattle.written_trees.specs.Names.{Scope}
use Rattle.written_trees.specs.Placing.{Placed, is_type_head}
use Rattle.written_trees.specs.Prologues.{variables_of, constants_of, sound_value}

in_comments : (us : List (List ℕ)) (ws : List net.Member) → flat_map procedures_in ws ≡ [] → flat_map procedures_in (member_comments us ++ ws) ≡ []
in_comments [] ws h = h
in_comments (u ∷ us) ws h = in_comments us ws h

in_both : (vs ws : List net.Member) → flat_map procedures_in vs ≡ [] → flat_map procedures_in ws ≡ [] → flat_map procedures_in (vs ++ ws) ≡ []
in_both vs ws h k =
    flat_map-append procedures_in vs ws ∙ ap {B = List net.Procedure} (λ (ps : List net.Procedure). ps ++ flat_map procedures_in ws) h ∙ k

in_variables : (S : Scope) (visibility : NetVisibility) (vs : List (ℕ × Variable)) → flat_map procedures_in (map (module_variable S visibility) vs) ≡ []
in_variables S visibility [] = refl
in_variables S visibility (v ∷ vs) = in_variables S visibility vs

in_constant : (S : Scope) (visibility : NetVisibility) (c : Constant) (o : Option Value6) → procedures_in (constant_by S visibility c o) ≡ []
in_constant S visibility c None = refl
in_constant S visibility c (Some x) = refl

in_constants : (S : Scope) (visibility : NetVisibility) (cs : List (ℕ × Constant)) → flat_map procedures_in (map (module_constant S visibility) cs) ≡ []
in_constants S visibility [] = refl
in_constants S visibility (c ∷ cs) =
    ap {B = List net.Procedure} (λ (ps : List net.Procedure). ps ++ flat_map procedures_in (map (module_constant S visibility) cs))
    (in_constant S visibility c.1 (sound_value S.facts c))
    ∙ in_constants S visibility cs

in_declared : (S : Scope) (n : ℕ) (f : Form) → flat_map procedures_in (declared_members S n f) ≡ []
in_declared S n (source.variables w declarators) = in_variables S (word_visibility w) (variables_of S.declarations S.file n)
in_declared S n (source.constants visibility items) = in_constants S (constant_visibility visibility) (constants_of S.declarations S.file n)
in_declared S n _ = refl

in_enum_constants : (S : Scope) (n : ℕ) (b : Bool) → flat_map procedures_in (cond b (map (module_constant S net_seen.Public) (constants_of S.declarations S.file n)) []) ≡ []
in_enum_constants S n true = in_constants S net_seen.Public (constants_of S.declarations S.file n)
in_enum_constants S n false = refl

in_enum : (S : Scope) (cs : List Comment) (n : ℕ) (ls : List source.Line) → flat_map procedures_in (enum_from S cs n ls) ≡ []
in_enum S cs n [] = ap {B = List net.Procedure} (flat_map procedures_in) (sym (append-nil (member_comments (texts cs)))) ∙ in_comments (texts cs) [] refl
in_enum S cs n (l ∷ ls) =
    let more = enum_from S (past l.place.line cs) (suc n) ls in
    in_comments (texts (up_to l.place.line cs)) (member_comments (statement_comments S n l) ++ (enum_constants S n ++ more))
    (in_comments (statement_comments S n l) (enum_constants S n ++ more)
    (in_both (enum_constants S n) more (in_enum_constants S n (is_standard S)) (in_enum S (past l.place.line cs) (suc n) ls)))

pub no_alone : (S : Scope) (p : Placed) (l : source.Line)
    → flat_map procedures_in (member_comments (texts p.earlier) ++ (member_comments (texts p.own) ++ line_members S p.at.statement l)) ≡ []
no_alone S p l =
    in_comments (texts p.earlier) (member_comments (texts p.own) ++ line_members S p.at.statement l)
    (in_comments (texts p.own) (line_members S p.at.statement l)
    (in_comments (statement_comments S p.at.statement l) (declared_members S p.at.statement l.form) (in_declared S p.at.statement l.form)))

pub no_group : (S : Scope) (p : Placed) (head : source.Line) (lines : List source.Line)
    → flat_map procedures_in (member_comments (texts p.earlier) ++ (member_comments (texts p.own) ++ group_members S p head lines)) ≡ []
no_group S p head lines =
    in_comments (texts p.earlier) (member_comments (texts p.own) ++ group_members S p head lines)
    (in_comments (texts p.own) (group_members S p head lines)
    (in_comments (upgrade_texts (group_rules S p head.form) head.text)
    (cond (is_type_head head.form) (structure_of S p lines ∷ []) (enum_from S p.inside (suc p.at.statement) lines)) (by (is_type_head head.form))))
  where
    by : (b : Bool) → flat_map procedures_in (cond b (structure_of S p lines ∷ []) (enum_from S p.inside (suc p.at.statement) lines)) ≡ []
    by true = refl
    by false = in_enum S p.inside (suc p.at.statement) lines
