-- Types and Enums, line by line.
use Rattle.std.specs.Prelude.{ℕ, suc, Bool, cond, List, [], ◌∷◌, ◌++◌, map}
use Rattle.vb_tree.specs.Tree as source
use Rattle.net_tree.specs.declared.declaration.NetVisibility.TheVariants.{Public}
use Rattle.net_tree.specs.Tree as net
use Rattle.written_trees.specs.Comments.{Comment, up_to, past, texts}
use Rattle.written_trees.specs.DeclaredMembers.{enum_from, field_comments, line_fields, member_comments, module_constant, statement_comments, structure_of}
use Rattle.written_trees.specs.Names.{Scope}
use Rattle.written_trees.specs.Placing.{Placed, is_type_head}
use Rattle.written_trees.specs.Prologues.{constants_of}

abbrev pub field_line : Scope → List Comment → (statement : ℕ) → source.Line → List net.Field
field_line S cs n l = field_comments (texts (up_to l.place.line cs)) ++ line_fields S n l

abbrev pub enum_constants_if : Scope → (standard : Bool) → (statement : ℕ) → List net.Member
enum_constants_if S standard n = cond standard (map (module_constant S Public) (constants_of S.declarations S.file n)) []

abbrev pub enum_line : Scope → (standard : Bool) → List Comment → (statement : ℕ) → source.Line → List net.Member
enum_line S standard cs n l =
    member_comments (texts (up_to l.place.line cs)) ++ (member_comments (statement_comments S n l) ++ enum_constants_if S standard n)

abbrev pub enum_lines : Scope → (standard : Bool) → List Comment → (statement : ℕ) → List source.Line → List net.Member
enum_lines S standard cs n [] = member_comments (texts cs)
enum_lines S standard cs n (l ∷ ls) = enum_line S standard cs n l ++ enum_lines S standard (past l.place.line cs) (suc n) ls

abbrev pub group_of : Scope → Placed → (head : source.Line) → List source.Line → List net.Member
group_of S p head lines = cond (is_type_head head.form) (structure_of S p lines ∷ []) (enum_from S p.inside (suc p.at.statement) lines)
