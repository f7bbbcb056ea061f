-- What a line is taken as, of what is read of it: only where it can be written there, and the line is what is written for it.
use Rattle.std.specs.Prelude.{ℕ, suc, ◌+◌, Bool, true, false, not, ◌&&◌, ◌||◌, List, length, Option, Some, is_none, is_some}
use Rattle.net_tree.specs.declared.block.NetBlock.{NetBlock}
use Rattle.net_tree.specs.Blocks.{depth_at, fits_in, role_of}
use Rattle.net_tree.specs.Comments.{comment_text, is_comment}
use Rattle.net_tree.specs.Declarations.{dim_text, field_text, head_text, is_get, is_set, is_writable_dim, is_writable_field, is_writable_head, is_writable_member, member_text}
use Rattle.net_tree.specs.Lines.{is_writable_line, line_text}
use Rattle.net_tree.specs.Spelling.{at_depth, is_identifier}
use Rattle.net_tree.specs.Tree.{Dim, Field, Head, Line, Member, Property}
use Rattle.net_exprs.specs.Fitting.{fits_name}
use Rattle.net_reader.specs.Fits.{fits_dim, fits_field, fits_head, fits_line, fits_member, fits_text}
use Rattle.net_reader.specs.Words as w
use Rattle.net_reader.specs.ModuleReader.{Access, Body, Promised, gets, has_no_lines, is_fine_property, is_kept, promise, promised_text, sets, structure_head_text, taken}

-- a line of a procedure whose head stands at a depth
abbrev pub line_within : (depth : ℕ) → (blocks : List NetBlock) → (line : List ℕ) → Option Line → Option Line
line_within depth blocks line found =
    taken (λ (l : Line). is_writable_line l && fits_line l && fits_in (role_of l) blocks)
    (λ (l : Line). at_depth (depth_at (role_of l) (suc depth + length blocks)) (line_text l)) line found

-- a declaration in it
abbrev pub dim_within : (depth : ℕ) → Body → (line : List ℕ) → Option Dim → Option Dim
dim_within depth b line found =
    taken (λ (d : Dim). has_no_lines b.tree.lines && is_writable_dim d && fits_dim d) (λ (d : Dim). at_depth (suc depth) (dim_text d)) line found

-- what stands in a structure
abbrev pub field_within : (line : List ℕ) → Option Field → Option Field
field_within line found = taken (λ (f : Field). is_writable_field f && fits_field f) (λ (f : Field). at_depth 2 (field_text f)) line found

-- whether the part of a property that sets may stand at a line, behind the one that gets
abbrev pub may_set : Promised → Bool
may_set p = sets p.access && is_none p.tree.set && (not (gets p.access) || is_some p.tree.get)

-- the head of the part that sets
abbrev pub set_within : Promised → (line : List ℕ) → Option Head → Option Head
set_within p line found =
    taken (λ (h : Head). sets p.access && is_none p.tree.set && (not (gets p.access) || is_some p.tree.get) && is_set h && is_writable_head h && fits_head h)
    (λ (h : Head). at_depth 2 (head_text h)) line found

-- a comment before a part of a property that is still to come
abbrev pub comment_within : Promised → (line : List ℕ) → Option (List ℕ) → Option (List ℕ)
comment_within p line found =
    taken (λ (units : List ℕ). not (is_kept p) && is_comment units && fits_text units) (λ (units : List ℕ). at_depth 2 (comment_text units)) line found

-- the head of a property
abbrev pub property_within : Access → (line : List ℕ) → Option Property → Option Property
property_within access line found = taken is_fine_property (λ (p : Property). at_depth 1 (promised_text (promise access p))) line found

-- a member of one line
abbrev pub member_within : (line : List ℕ) → Option Member → Option Member
member_within line found = taken (λ (member : Member). is_writable_member member && fits_member member) member_text line found

-- the head of a procedure
abbrev pub head_within : (line : List ℕ) → Option Head → Option Head
head_within line found =
    taken (λ (h : Head). not (is_get h || is_set h) && is_writable_head h && fits_head h) (λ (h : Head). at_depth 1 (head_text h)) line found

-- the name of a structure
abbrev pub structure_within : (line : List ℕ) → Option (List ℕ) → Option (List ℕ)
structure_within line found =
    taken (λ (name : List ℕ). is_identifier name && fits_name name) (λ (name : List ℕ). at_depth 1 (structure_head_text name)) line found

-- whether a word begins a declaration
abbrev pub declares : Option w.Word → Bool
declares (Some w.dim_word) = true
declares (Some w.static_word) = true
declares (Some w.const_word) = true
declares _ = false
