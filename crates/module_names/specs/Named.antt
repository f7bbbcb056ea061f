-- Modules whose names are identifiers of Visual Basic .NET, and whose comments and lines can stand in comments.
use Rattle.std.specs.Prelude.{ℕ, Bool, true, ◌&&◌, List, [], ◌∷◌, map}
use Rattle.std.specs.List.{list_all, flat_map}
use Rattle.vb_tree.specs.FlatLines.{module_lines}
use Rattle.vb_tree.specs.Tree.{Declarator, Form, variables, sub_head, Line, Member, alone, group, proc, Module}
use Rattle.net_tree.specs.Comments.{is_comment}
use Rattle.net_tree.specs.Spelling.{is_identifier}

-- a comment with the first physical line of its logical line
abbrev pub Comment : Type 0
Comment = ℕ × List ℕ

abbrev pub are_comments : List Comment → Bool
are_comments cs = list_all (λ c. is_comment c.1) cs

-- a line whose text can stand in a comment
abbrev pub has_comment_text : Line → Bool
has_comment_text l = is_comment l.text

-- the name of a Sub is an identifier
abbrev pub names_sub : Form → Bool
names_sub (sub_head s) = is_identifier s.name
names_sub _ = true

abbrev pub variables_of : Form → List (List ℕ)
variables_of (variables w ds) = map (λ (d : Declarator). d.name) ds
variables_of _ = []

-- the head of the procedure that a member is, if it is one
abbrev pub heads_in : Member → List Line
heads_in (alone l) = []
heads_in (group head lines close) = []
heads_in (proc head body close) = head ∷ []

abbrev pub is_named_head : Line → Bool
is_named_head l = names_sub l.form

-- the names of the variables that a line declares are identifiers
abbrev pub names_variables : Line → Bool
names_variables l = list_all is_identifier (variables_of l.form)

-- a module whose name and the names of whose Subs and variables are identifiers, and whose comments and lines can stand in
-- comments
abbrev pub is_named_module : Module → Bool
is_named_module m =
    is_identifier m.name && are_comments m.comments && list_all has_comment_text (module_lines m)
    && list_all is_named_head (flat_map heads_in m.members) && list_all names_variables (module_lines m)
