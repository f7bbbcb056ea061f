-- How the file of a module is read: a line is taken where it is exactly what is written for what it says.
use Rattle.std.specs.Prelude.{ℕ, suc, ◌+◌, Bool, true, false, not, ◌&&◌, ◌||◌, cond, List, [], ◌∷◌, ◌++◌, length, drop, codes, Option, Some, None, is_some, is_none, option_map, option_and_then}
use Rattle.std.specs.List.{list_all}
use Rattle.net_tree.specs.declared.block.NetBlock.{NetBlock}
use Rattle.net_tree.specs.declared.declaration.NetClose.{NetClose}
use Rattle.net_tree.specs.declared.declaration.NetClose.TheVariants as close
use Rattle.net_tree.specs.declared.declaration.NetVisibility.{NetVisibility}
use Rattle.net_tree.specs.Blocks.{depth_at, fits_in, open_behind, role_of}
use Rattle.net_tree.specs.Comments.{comment_text, is_comment}
use Rattle.net_tree.specs.Declarations.{access_text, close_text, closes, dim_text, field_text, head_text, is_get, is_set, is_writable_dim, is_writable_field, is_writable_head, is_writable_member, is_writable_param, member_text, params_text, visibility_text}
use Rattle.net_tree.specs.Expressions.{is_writable_type, type_text}
use Rattle.net_tree.specs.Lines.{is_writable_line, line_text}
use Rattle.net_tree.specs.Spelling.{at_depth, is_identifier, is_same_text, name_text}
use Rattle.net_tree.specs.Text.{byte_order_mark, is_note, kind_text}
use Rattle.net_tree.specs.Tree.{Dim, Field, Head, Line, Member, Module, Procedure, Property, Structure, const_member, get_part, member_comment, proc, property, structure, variable}
use Rattle.net_exprs.specs.Ends.{begins_with}
use Rattle.net_exprs.specs.Fitting.{fits_name, fits_type}
use Rattle.net_exprs.specs.Names.{name_at}
use Rattle.net_exprs.specs.Readers.{after}
use Rattle.net_reader.specs.DeclarationReader.{close_at, constant_in, dim_at, field_at, function_in, property_in, set_in, sub_in, variable_in, visibility_of}
use Rattle.net_reader.specs.FileLines.{file_lines, text_of_line, units_in}
use Rattle.net_reader.specs.Fits.{fits_dim, fits_field, fits_head, fits_line, fits_member, fits_param, fits_text}
use Rattle.net_reader.specs.LineReader.{line_at}
use Rattle.net_reader.specs.Words as w
use Rattle.net_reader.specs.Words.{behind_word, keyword_at}

-- a module up to some line, and the comment at the head of its file
pub record NotedModule : Type 0 where
  pub note : Option (List ℕ)
  pub tree : Module

-- a procedure up to some line, with the blocks that are open there, from the innermost; its closing line is still to come
pub record Body : Type 0 where
  pub tree : Procedure
  pub blocks : List NetBlock

-- which parts a property has
pub data Access : Type 0 where
  both_parts : Access
  read_only : Access
  write_only : Access

abbrev pub gets : Access → Bool
gets both_parts = true
gets read_only = true
gets write_only = false

abbrev pub sets : Access → Bool
sets both_parts = true
sets read_only = false
sets write_only = true

-- a property up to some line, with the parts that its head asks for, and the comments that stand before the part to come
pub record Promised : Type 0 where
  pub access : Access
  pub tree : Property
  pub comments : List (List ℕ)

-- where in a file the next line stands, with what is read so far
pub data State : Type 0 where
  -- at the first line, where the comment at the head isn't known yet
  at_front : (name : List ℕ) → State
  -- before the module's head, with the lines that are still to come before it
  in_front : (note : Option (List ℕ)) → (name : List ℕ) → (texts : List (List ℕ)) → State
  among_members : NotedModule → State
  in_structure : NotedModule → Structure → State
  in_property : NotedModule → Promised → State
  in_procedure : NotedModule → Body → State
  in_part : NotedModule → Promised → Body → State
  ended : NotedModule → State

abbrev pub with_member : NotedModule → Member → NotedModule
with_member m member = record { note = m.note; tree = record { name = m.tree.name; class = m.tree.class; members = m.tree.members ++ member ∷ [] } }

abbrev pub with_field : Structure → Field → Structure
with_field s f = record { name = s.name; fields = s.fields ++ f ∷ [] }

-- a procedure behind its head
abbrev pub headed : Head → Body
headed head = record { tree = record { head = head; prologue = []; lines = []; close = close.EndSub }; blocks = [] }

abbrev pub with_dim : Body → Dim → Body
with_dim b d = record { tree = record { head = b.tree.head; prologue = b.tree.prologue ++ d ∷ []; lines = b.tree.lines; close = b.tree.close }; blocks = b.blocks }

abbrev pub with_line : Body → Line → Body
with_line b l = record {
  tree = record { head = b.tree.head; prologue = b.tree.prologue; lines = b.tree.lines ++ l ∷ []; close = b.tree.close };
  blocks = open_behind (role_of l) b.blocks;
}

abbrev pub closed_by : Body → NetClose → Procedure
closed_by b c = record { head = b.tree.head; prologue = b.tree.prologue; lines = b.tree.lines; close = c }

-- a property behind its head
abbrev pub promise : Access → Property → Promised
promise access p = record { access = access; tree = p; comments = [] }

abbrev pub with_comment : Promised → List ℕ → Promised
with_comment p units = record { access = p.access; tree = p.tree; comments = p.comments ++ units ∷ [] }

-- a part has the comments that stand right before it
abbrev pub with_get : Promised → Procedure → Promised
with_get p part = record {
  access = p.access;
  tree = record {
    visibility = p.tree.visibility;
    name = p.tree.name;
    params = p.tree.params;
    ty = p.tree.ty;
    get_comments = p.comments;
    get = Some part;
    set_comments = p.tree.set_comments;
    set = p.tree.set;
  };
  comments = [];
}

abbrev pub with_set : Promised → Procedure → Promised
with_set p part = record {
  access = p.access;
  tree = record {
    visibility = p.tree.visibility;
    name = p.tree.name;
    params = p.tree.params;
    ty = p.tree.ty;
    get_comments = p.tree.get_comments;
    get = p.tree.get;
    set_comments = p.comments;
    set = Some part;
  };
  comments = [];
}

abbrev pub with_part : Promised → Procedure → Promised
with_part p part = cond (is_get part.head) (with_get p part) (with_set p part)

-- what a line says is taken where it passes a test, and the line is what is written for it
abbrev pub taken : {A : Type 0} → (passes : A → Bool) → (written : A → List ℕ) → (line : List ℕ) → Option A → Option A
taken passes written line None = None
taken passes written line (Some x) = cond (passes x && is_same_text (written x) line) (Some x) None

-- whether a line is this text at a depth
abbrev pub is_line : (depth : ℕ) → (text line : List ℕ) → Bool
is_line depth text line = is_same_text (at_depth depth text) line

-- ---- procedures

abbrev pub has_no_blocks : List NetBlock → Bool
has_no_blocks [] = true
has_no_blocks (round ∷ outer) = false

abbrev pub has_no_lines : List Line → Bool
has_no_lines [] = true
has_no_lines (l ∷ lines) = false

-- what a line makes of a procedure
pub data Grown : Type 0 where
  going : Body → Grown
  closed : Procedure → Grown

-- the closing line of the head, where no block is open
abbrev pub close_taken : (depth : ℕ) → Body → List ℕ → NetClose → Option Grown
close_taken depth b line c =
    option_map (λ (c : NetClose). closed (closed_by b c))
    (taken (λ (c : NetClose). closes b.tree.head c && has_no_blocks b.blocks) (λ (c : NetClose). at_depth depth (close_text c)) line (Some c))

-- a declaration stands before all other lines
abbrev pub dim_taken : (depth : ℕ) → Body → List ℕ → Dim → Option Grown
dim_taken depth b line d =
    option_map (λ (d : Dim). going (with_dim b d))
    (taken (λ (d : Dim). has_no_lines b.tree.lines && is_writable_dim d && fits_dim d) (λ (d : Dim). at_depth (suc depth) (dim_text d)) line (Some d))

-- a line that fits among the blocks round it
abbrev pub line_taken : (depth : ℕ) → Body → List ℕ → Option Grown
line_taken depth b line =
    option_map (λ (l : Line). going (with_line b l))
    (taken (λ (l : Line). is_writable_line l && fits_line l && fits_in (role_of l) b.blocks)
    (λ (l : Line). at_depth (depth_at (role_of l) (suc depth + length b.blocks)) (line_text l)) line (line_at (text_of_line line)))

abbrev pub grown_by_line : (depth : ℕ) → Body → Option Dim → List ℕ → Option Grown
grown_by_line depth b (Some d) line = dim_taken depth b line d
grown_by_line depth b None line = line_taken depth b line

abbrev pub grown_by : (depth : ℕ) → Body → Option NetClose → List ℕ → Option Grown
grown_by depth b (Some c) line = close_taken depth b line c
grown_by depth b None line = grown_by_line depth b (dim_at (text_of_line line)) line

-- a line of a procedure whose head stands at a depth
abbrev pub grown : (depth : ℕ) → Body → List ℕ → Option Grown
grown depth b line = grown_by depth b (close_at (text_of_line line)) line

abbrev pub behind_procedure : NotedModule → Grown → State
behind_procedure m (going b) = in_procedure m b
behind_procedure m (closed p) = among_members (with_member m (proc p))

abbrev pub behind_part : NotedModule → Promised → Grown → State
behind_part m p (going b) = in_part m p b
behind_part m p (closed part) = in_property m (with_part p part)

-- ---- structures

abbrev pub structure_by : NotedModule → Structure → Option w.Word → List ℕ → Option State
structure_by m s (Some w.end_word) line = cond (is_line 1 (codes "End Structure") line) (Some (among_members (with_member m (structure s)))) None
structure_by m s _ line =
    option_map (λ (f : Field). in_structure m (with_field s f))
    (taken (λ (f : Field). is_writable_field f && fits_field f) (λ (f : Field). at_depth 2 (field_text f)) line (field_at (text_of_line line)))

-- ---- properties

-- the part that gets stands before the one that sets
abbrev pub get_taken : NotedModule → Promised → List ℕ → Option State
get_taken m p line =
    cond (gets p.access && is_none p.tree.get && is_none p.tree.set && is_line 2 (head_text get_part) line) (Some (in_part m p (headed get_part))) None

abbrev pub set_taken : NotedModule → Promised → List ℕ → Option State
set_taken m p line =
    option_map (λ (h : Head). in_part m p (headed h))
    (taken (λ (h : Head). sets p.access && is_none p.tree.set && (not (gets p.access) || is_some p.tree.get) && is_set h && is_writable_head h && fits_head h)
    (λ (h : Head). at_depth 2 (head_text h)) line (set_in (drop 3 (text_of_line line))))

-- whether a property has the parts that its head asks for
abbrev pub is_kept : Promised → Bool
is_kept p = (is_some p.tree.get || not (gets p.access)) && (is_some p.tree.set || not (sets p.access))

-- a comment stands before a part alone that is still to come
abbrev pub comment_taken : NotedModule → Promised → List ℕ → Option (List ℕ) → Option State
comment_taken m p line found =
    option_map (λ (units : List ℕ). in_property m (with_comment p units))
    (taken (λ (units : List ℕ). not (is_kept p) && is_comment units && fits_text units) (λ (units : List ℕ). at_depth 2 (comment_text units)) line found)

-- a line of a property, by the word that begins it
abbrev pub property_by : NotedModule → Promised → Option w.Word → List ℕ → Option State
property_by m p (Some w.get_word) line = get_taken m p line
property_by m p (Some w.set_word) line = set_taken m p line
property_by m p (Some w.end_word) line = cond (is_kept p && is_line 1 (codes "End Property") line) (Some (among_members (with_member m (property p.tree)))) None
property_by m p _ line = comment_taken m p line (units_in (drop 1 (text_of_line line)))

-- the head of a property, by the parts that it asks for
abbrev pub promised_text : Promised → List ℕ
promised_text p =
    visibility_text p.tree.visibility ++ access_text (gets p.access) (sets p.access) ++ codes "Property " ++ name_text p.tree.name ++ params_text p.tree.params
    ++ codes " As " ++ type_text p.tree.ty

abbrev pub is_fine_property : Property → Bool
is_fine_property p =
    is_identifier p.name && list_all is_writable_param p.params && is_writable_type p.ty
    && fits_name p.name && list_all fits_param p.params && fits_type p.ty

abbrev pub property_taken : NotedModule → Access → List ℕ → Option Property → Option State
property_taken m access line found =
    option_map (λ (p : Property). in_property m (promise access p))
    (taken is_fine_property (λ (p : Property). at_depth 1 (promised_text (promise access p))) line found)

-- ---- members

abbrev pub head_taken : NotedModule → List ℕ → Option Head → Option State
head_taken m line found =
    option_map (λ (h : Head). in_procedure m (headed h))
    (taken (λ (h : Head). not (is_get h || is_set h) && is_writable_head h && fits_head h) (λ (h : Head). at_depth 1 (head_text h)) line found)

abbrev pub structure_head_text : List ℕ → List ℕ
structure_head_text name = codes "Public Structure " ++ name_text name

abbrev pub structure_taken : NotedModule → List ℕ → Option (List ℕ × List ℕ) → Option State
structure_taken m line found =
    option_map (λ (name : List ℕ). in_structure m (record { name = name; fields = [] }))
    (taken (λ (name : List ℕ). is_identifier name && fits_name name) (λ (name : List ℕ). at_depth 1 (structure_head_text name)) line
    (option_map (λ (n : List ℕ × List ℕ). n.0) found))

abbrev pub module_end_text : (class : Bool) → List ℕ
module_end_text class = codes "End " ++ kind_text class

-- a member of one line
abbrev pub member_taken : NotedModule → List ℕ → Option Member → Option State
member_taken m line found =
    option_map (λ (member : Member). among_members (with_member m member))
    (taken (λ (member : Member). is_writable_member member && fits_member member) member_text line found)

-- a declaration behind its visibility, by the word there and the text from that word on
abbrev pub member_of : NotedModule → NetVisibility → Option w.Word → (text line : List ℕ) → Option State
member_of m visibility None text line = member_taken m line (option_map (variable visibility) (variable_in text))
member_of m visibility (Some w.const_word) text line = member_taken m line (option_map (const_member visibility) (constant_in (drop 6 text)))
member_of m visibility (Some w.structure_word) text line = structure_taken m line (name_at (drop 10 text))
member_of m visibility (Some w.sub_word) text line = head_taken m line (sub_in visibility (drop 4 text))
member_of m visibility (Some w.function_word) text line = head_taken m line (function_in visibility (drop 9 text))
member_of m visibility (Some w.property_word) text line = property_taken m both_parts line (property_in visibility (drop 9 text))
member_of m visibility (Some w.read_only_word) text line = property_taken m read_only line (property_in visibility (drop 18 text))
member_of m visibility (Some w.write_only_word) text line = property_taken m write_only line (property_in visibility (drop 19 text))
member_of m visibility (Some _) text line = None

abbrev pub member_by : NotedModule → Option w.Word → (text line : List ℕ) → Option State
member_by m (Some w.end_word) text line = cond (is_line 0 (module_end_text m.tree.class) line) (Some (ended m)) None
member_by m word text line = option_and_then (λ (visibility : NetVisibility). member_of m visibility (keyword_at text) text line) (visibility_of word)

-- a line among the members of a module, whose text is this
abbrev pub member_step : NotedModule → (text line : List ℕ) → Option State
member_step m text line = cond (begins_with 39 text) (member_taken m line (option_map member_comment (units_in (drop 1 text))))
    (member_by m (keyword_at text) (drop 1 (behind_word text)) line)

-- ---- the front of a file

abbrev pub option_lines : List (List ℕ)
option_lines = codes "Option Explicit On" ∷ codes "Option Strict Off" ∷ codes "Option Compare Binary" ∷ []

-- the lines before the head of a module
abbrev pub front_lines : Option (List ℕ) → List (List ℕ)
front_lines None = option_lines
front_lines (Some note) = (codes "' " ++ note) ∷ option_lines

-- a module behind its head
abbrev pub opened : Option (List ℕ) → (name : List ℕ) → (class : Bool) → NotedModule
opened note name class = record { note = note; tree = record { name = name; class = class; members = [] } }

abbrev pub module_head_text : (class : Bool) → (name : List ℕ) → List ℕ
module_head_text class name = codes "Public " ++ kind_text class ++ codes " " ++ name_text name

abbrev pub front_step : Option (List ℕ) → (name : List ℕ) → (texts : List (List ℕ)) → (line : List ℕ) → Option State
front_step note name (text ∷ texts) line = cond (is_line 0 text line) (Some (in_front note name texts)) None
front_step note name [] line = cond (is_line 0 (module_head_text false name) line) (Some (among_members (opened note name false)))
    (cond (is_line 0 (module_head_text true name) line) (Some (among_members (opened note name true))) None)

-- the comment at the head of a file, by its first line
abbrev pub note_in : (text : List ℕ) → Option (List ℕ)
note_in text = cond (begins_with 39 text) (Some (drop 2 text)) None

abbrev pub first_step : (name : List ℕ) → (note : Option (List ℕ)) → (line : List ℕ) → Option State
first_step name note line = cond (is_note note) (front_step note name (front_lines note) line) None

-- where a file with this comment at its head begins, or where any may stand
abbrev pub start : Option (Option (List ℕ)) → (name : List ℕ) → State
start None name = at_front name
start (Some note) name = in_front note name (front_lines note)

-- what is read of a file: its module, or the number of the first line that isn't taken
pub data Reading (X : Type 0) : Type 0 where
  complete : X → Reading X
  stuck : (line : ℕ) → Reading X

-- at the end of a file, where this would be the next line
abbrev pub at_end : State → (number : ℕ) → Reading NotedModule
at_end (ended m) number = complete m
at_end _ number = stuck number

-- behind the line of a number
abbrev pub behind_line : {S X : Type 0} → (number : ℕ) → Option S → (S → Reading X) → Reading X
behind_line number None go = stuck number
behind_line number (Some s) go = go s

-- where the line behind a line stands
abbrev pub step : State → (line : List ℕ) → Option State
step (at_front name) line = first_step name (note_in (text_of_line line)) line
step (in_front note name texts) line = front_step note name texts line
step (among_members m) line = member_step m (text_of_line line) line
step (in_structure m s) line = structure_by m s (keyword_at (text_of_line line)) line
step (in_property m p) line = property_by m p (keyword_at (text_of_line line)) line
step (in_procedure m b) line = option_map (behind_procedure m) (grown 1 b line)
step (in_part m p b) line = option_map (behind_part m p) (grown 2 b line)
step (ended m) line = None

abbrev pub run : State → (number : ℕ) → List (List ℕ) → Reading NotedModule
run s number [] = at_end s number
run s number (line ∷ lines) = behind_line number (step s line) (λ next. run next (suc number) lines)

-- the module of a file of a name, which begins with the mark of UTF-8
abbrev pub module_behind_mark : Option (Option (List ℕ)) → (name : List ℕ) → Option (List ℕ) → Reading NotedModule
module_behind_mark known name None = stuck 1
module_behind_mark known name (Some rest) = run (start known name) 1 (file_lines rest)

abbrev pub module_in : Option (Option (List ℕ)) → (name file : List ℕ) → Reading NotedModule
module_in known name file = module_behind_mark known name (after byte_order_mark file)
