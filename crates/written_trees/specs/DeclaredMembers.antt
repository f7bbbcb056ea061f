-- What is written in a module for variables, constants, Types and Enums, each with its comments.
use Rattle.std.specs.Prelude.{ℕ, suc, Bool, cond, List, [], ◌∷◌, ◌++◌, map, Option, Some, None, slice_get}
use Rattle.vb_tree.specs.declared.form_parts.VarWord.{VarWord}
use Rattle.vb_tree.specs.declared.form_parts.VarWord.TheVariants as var
use Rattle.vb_tree.specs.declared.form_parts.Visibility.{Visibility}
use Rattle.vb_tree.specs.declared.form_parts.Visibility.TheVariants as seen
use Rattle.vb_tree.specs.declared.value.Value6.{Value6}
use Rattle.vb_tree.specs.Tree.{Form}
use Rattle.vb_tree.specs.Tree as source
use Rattle.bound_tree.specs.declared.declared.TypeDecl.{TypeDecl}
use Rattle.bound_tree.specs.declared.rule_set.RuleSet.{RuleSet}
use Rattle.bound_tree.specs.Tree.{Variable, Constant}
use Rattle.net_tree.specs.declared.declaration.NetVisibility.{NetVisibility}
use Rattle.net_tree.specs.declared.declaration.NetVisibility.TheVariants as net_seen
use Rattle.net_tree.specs.Tree as net
use Rattle.net_tree.specs.Types as types
use Rattle.net_tree.specs.Types.{TypeName}
use Rattle.written_trees.specs.Facts.{set_at, is_flagged_variable}
use Rattle.written_trees.specs.Names.{Scope, module_at, is_standard_module}
use Rattle.written_trees.specs.Types.{variable_type}
use Rattle.written_trees.specs.Comments.{Comment, up_to, past, texts, upgrade_texts}
use Rattle.written_trees.specs.Placing.{Placed, is_type_head}
use Rattle.written_trees.specs.Prologues.{variables_of, constants_of, statement_set, written_variable, written_constant, object_variable, sound_value}

-- ---- comments as members, and as lines of a procedure

abbrev pub member_comments : List (List ℕ) → List net.Member
member_comments units = map net.member_comment units

abbrev pub line_comments : List (List ℕ) → List net.Line
line_comments units = map net.comment units

-- ---- variables, constants, Types and Enums

abbrev pub word_visibility : VarWord → NetVisibility
word_visibility var.Public = net_seen.Public
word_visibility var.Global = net_seen.Public
word_visibility var.Private = net_seen.Private
word_visibility var.Dim = net_seen.Private
word_visibility var.Static = net_seen.Private

-- a constant without a word is the module's own
abbrev pub constant_visibility : Option Visibility → NetVisibility
constant_visibility None = net_seen.Private
constant_visibility (Some seen.Public) = net_seen.Public
constant_visibility (Some seen.Global) = net_seen.Public
constant_visibility (Some seen.Friend) = net_seen.Private
constant_visibility (Some seen.Private) = net_seen.Private

abbrev pub module_variable : Scope → NetVisibility → ℕ × Variable → net.Member
module_variable S visibility v = net.variable visibility (written_variable S v)

abbrev pub constant_by : Scope → NetVisibility → Constant → Option Value6 → net.Member
constant_by S visibility c None = net.variable visibility (object_variable c.name)
constant_by S visibility c (Some x) = net.const_member visibility (written_constant S c x)

-- a constant that carries an issue is a variable
abbrev pub module_constant : Scope → NetVisibility → ℕ × Constant → net.Member
module_constant S visibility c = constant_by S visibility c.1 (sound_value S.facts c)

-- what a line declares
abbrev pub declared_members : Scope → (statement : ℕ) → Form → List net.Member
declared_members S n (source.variables w declarators) = map (module_variable S (word_visibility w)) (variables_of S.declarations S.file n)
declared_members S n (source.constants visibility items) = map (module_constant S (constant_visibility visibility)) (constants_of S.declarations S.file n)
declared_members S n _ = []

-- the comment on a line that breaks rules
abbrev pub statement_comments : Scope → (statement : ℕ) → source.Line → List (List ℕ)
statement_comments S n l = upgrade_texts (statement_set S.declarations S.facts S.file n) l.text

abbrev pub line_members : Scope → (statement : ℕ) → source.Line → List net.Member
line_members S n l = member_comments (statement_comments S n l) ++ declared_members S n l.form

-- a field that carries an issue is an Object
abbrev pub field_type : Scope → ℕ × Variable → TypeName
field_type S v = cond (is_flagged_variable S.facts v.0) types.object (variable_type S.declarations S.facts S.file v.0 v.1)

abbrev pub field_member : Scope → ℕ × Variable → net.Field
field_member S v = net.field v.1.name (field_type S v)

abbrev pub field_comments : List (List ℕ) → List net.Field
field_comments units = map net.field_comment units

abbrev pub line_fields : Scope → (statement : ℕ) → source.Line → List net.Field
line_fields S n l = field_comments (statement_comments S n l) ++ map (field_member S) (variables_of S.declarations S.file n)

-- the fields of lines that are numbered from n, and comments before each and behind the last
abbrev pub fields_from : Scope → List Comment → (statement : ℕ) → List source.Line → List net.Field
fields_from S cs n [] = field_comments (texts cs)
fields_from S cs n (l ∷ ls) = field_comments (texts (up_to l.place.line cs)) ++ (line_fields S n l ++ fields_from S (past l.place.line cs) (suc n) ls)

abbrev pub type_name : Option TypeDecl → List ℕ
type_name None = []
type_name (Some t) = t.name

abbrev pub structure_of : Scope → Placed → List source.Line → net.Member
structure_of S p lines = net.structure (record {
  name = type_name (slice_get S.declarations.types p.at.user_type);
  fields = fields_from S p.inside (suc p.at.statement) lines;
})

abbrev pub is_standard : Scope → Bool
is_standard S = is_standard_module (module_at S.declarations.project S.file)

-- the constants of an Enum; a class has none
abbrev pub enum_constants : Scope → (statement : ℕ) → List net.Member
enum_constants S n = cond (is_standard S) (map (module_constant S net_seen.Public) (constants_of S.declarations S.file n)) []

-- those of the lines of an Enum, which are numbered from n, with their comments
abbrev pub enum_from : Scope → List Comment → (statement : ℕ) → List source.Line → List net.Member
enum_from S cs n [] = member_comments (texts cs)
enum_from S cs n (l ∷ ls) =
    member_comments (texts (up_to l.place.line cs))
    ++ (member_comments (statement_comments S n l) ++ (enum_constants S n ++ enum_from S (past l.place.line cs) (suc n) ls))

abbrev pub group_rules : Scope → Placed → Form → RuleSet
group_rules S p f = cond (is_type_head f) (set_at S.facts.marks.types p.at.user_type) (set_at S.facts.marks.enums p.at.enum)

abbrev pub group_members : Scope → Placed → (head : source.Line) → List source.Line → List net.Member
group_members S p head lines =
    member_comments (upgrade_texts (group_rules S p head.form) head.text)
    ++ cond (is_type_head head.form) (structure_of S p lines ∷ []) (enum_from S p.inside (suc p.at.statement) lines)
