-- What stands behind some lines of a file: the text of what is held is what was read.
use Rattle.std.proofs.Common.{◌≡◌, ℕ, suc, ◌+◌, Bool, true, not, ◌&&◌, ◌||◌, List, [], ◌++◌, length, Option, None}
use Rattle.std.specs.Prelude.{is_none, is_some}
use Rattle.std.specs.List.{flat_map, list_all}
use Rattle.net_tree.specs.Blocks.{nests, nests_in}
use Rattle.net_tree.specs.Comments.{is_comment}
use Rattle.net_tree.specs.Spelling.{at_depth}
use Rattle.net_tree.specs.Lines.{is_writable_line, lines_text}
use Rattle.net_tree.specs.Declarations.{comments_text, dim_text, field_text, has_no_comment, head_text, is_get, is_set, is_writable_dim, is_writable_head, is_writable_part, is_writable_procedure, is_writable_structure, member_text, part_text, procedure_text}
use Rattle.net_tree.specs.Text.{is_note, note_text, options_text}
use Rattle.net_tree.specs.Tree.{Head, Line, Procedure, Structure}
use Rattle.net_reader.specs.Fits.{fits_dim, fits_head, fits_line, fits_part, fits_procedure, fits_structure, fits_text}
use Rattle.net_reader.specs.Laws.{IsModuleOf, IsNoteKnown}
use Rattle.net_reader.specs.ModuleReader.{Body, Grown, NotedModule, Promised, State, among_members, at_front, closed, ended, gets, going, in_front, in_part, in_procedure, in_property, in_structure, is_fine_property, is_kept, module_end_text, module_head_text, promised_text, sets, structure_head_text}
use Rattle.net_reader.proofs.FileCuts.{ends_line}

-- ---- procedures

-- a procedure whose head stands at a depth, up to some line
abbrev pub body_text : (depth : ℕ) → Body → List ℕ
body_text depth b =
    at_depth depth (head_text b.tree.head) ++ flat_map (λ d. at_depth (suc depth) (dim_text d)) b.tree.prologue ++ lines_text (suc depth) b.tree.lines

-- Its parts can be written and held, and what is still to come stands in the blocks that are open.
pub record IsBody (b : Body) : Type 0 where
  pub head : is_writable_head b.tree.head ≡ true
  pub head_fits : fits_head b.tree.head ≡ true
  pub dims : list_all is_writable_dim b.tree.prologue ≡ true
  pub dims_fit : list_all fits_dim b.tree.prologue ≡ true
  pub lines : list_all is_writable_line b.tree.lines ≡ true
  pub lines_fit : list_all fits_line b.tree.lines ≡ true
  pub nest : (more : List Line) → nests (b.tree.lines ++ more) ≡ nests_in b.blocks more
  pub lay : (depth : ℕ) (more : List Line) → lines_text depth (b.tree.lines ++ more) ≡ lines_text depth b.tree.lines ++ lines_text (depth + length b.blocks) more

-- a line leads from a procedure to one with that line more
pub record Goes (depth : ℕ) (b : Body) (line : List ℕ) (c : Body) : Type 0 where
  pub body : IsBody c
  pub text : body_text depth c ≡ body_text depth b ++ line
  pub head : c.tree.head ≡ b.tree.head
  pub ends : ends_line line ≡ true

-- a line is the last of a procedure
pub record Closes (depth : ℕ) (b : Body) (line : List ℕ) (p : Procedure) : Type 0 where
  pub writable : is_writable_procedure p ≡ true
  pub fits : fits_procedure p ≡ true
  pub text : procedure_text depth p ≡ body_text depth b ++ line
  pub head : p.head ≡ b.tree.head
  pub ends : ends_line line ≡ true

abbrev pub GrowsTo : (depth : ℕ) → Body → (line : List ℕ) → Grown → Type 0
GrowsTo depth b line (going c) = Goes depth b line c
GrowsTo depth b line (closed p) = Closes depth b line p

-- ---- properties

-- a property up to some part, and the comments before the next
abbrev pub property_front : Promised → List ℕ
property_front p =
    at_depth 1 (promised_text p) ++ part_text p.tree.get_comments p.tree.get ++ part_text p.tree.set_comments p.tree.set ++ comments_text 2 p.comments

-- the part that sets stands behind the one that gets
abbrev pub is_in_order : Promised → Bool
is_in_order p = not (is_some p.tree.set) || not (gets p.access) || is_some p.tree.get

-- It has no part that its head doesn't ask for, and comments stand before a part alone that is still to come.
pub record IsPromised (p : Promised) : Type 0 where
  pub fine : is_fine_property p.tree ≡ true
  pub get : is_writable_part is_get p.tree.get_comments p.tree.get ≡ true
  pub get_fits : fits_part p.tree.get_comments p.tree.get ≡ true
  pub get_asked : not (is_some p.tree.get) || gets p.access ≡ true
  pub set : is_writable_part is_set p.tree.set_comments p.tree.set ≡ true
  pub set_fits : fits_part p.tree.set_comments p.tree.set ≡ true
  pub set_asked : not (is_some p.tree.set) || sets p.access ≡ true
  pub in_order : is_in_order p ≡ true
  pub comments : list_all is_comment p.comments ≡ true
  pub comments_fit : list_all fits_text p.comments ≡ true
  pub awaited : has_no_comment p.comments || not (is_kept p) ≡ true

-- whether a part that gets or sets may come next
abbrev pub may_get : Promised → Bool
may_get p = gets p.access && is_none p.tree.get && is_none p.tree.set

abbrev pub may_set : Promised → Bool
may_set p = sets p.access && is_none p.tree.set && (not (gets p.access) || is_some p.tree.get)

abbrev pub is_next_part : Promised → Head → Bool
is_next_part p head = (is_get head && may_get p) || (is_set head && may_set p)

-- ---- modules

-- a file before its module's head, without the mark of UTF-8
abbrev pub front_text : (note : Option (List ℕ)) → List ℕ
front_text note = note_text note ++ options_text

-- the same up to some member
abbrev pub open_text : NotedModule → List ℕ
open_text m = front_text m.note ++ at_depth 0 (module_head_text m.tree.class m.tree.name) ++ flat_map member_text m.tree.members

-- the whole
abbrev pub unmarked : NotedModule → List ℕ
unmarked m = open_text m ++ at_depth 0 (module_end_text m.tree.class)

abbrev pub structure_front : Structure → List ℕ
structure_front s = at_depth 1 (structure_head_text s.name) ++ flat_map (λ f. at_depth 2 (field_text f)) s.fields

module _ (known : Option (Option (List ℕ))) (name : List ℕ) where
  pub record IsAtFront (bytes : List ℕ) (named : List ℕ) : Type 0 where
    pub is_known : known ≡ None
    pub same : named ≡ name
    pub are : bytes ≡ []

  pub record IsInFront (bytes : List ℕ) (head : Option (List ℕ)) (named : List ℕ) (texts : List (List ℕ)) : Type 0 where
    pub is_known : IsNoteKnown known head
    pub note : is_note head ≡ true
    pub same : named ≡ name
    pub are : bytes ++ flat_map (at_depth 0) texts ≡ front_text head

  pub record IsAmongMembers (bytes : List ℕ) (m : NotedModule) : Type 0 where
    pub tree : IsModuleOf known name m
    pub are : bytes ≡ open_text m

  pub record IsInStructure (bytes : List ℕ) (m : NotedModule) (s : Structure) : Type 0 where
    pub tree : IsModuleOf known name m
    pub writable : is_writable_structure s ≡ true
    pub fits : fits_structure s ≡ true
    pub are : bytes ≡ open_text m ++ structure_front s

  pub record IsInProperty (bytes : List ℕ) (m : NotedModule) (p : Promised) : Type 0 where
    pub tree : IsModuleOf known name m
    pub promised : IsPromised p
    pub are : bytes ≡ open_text m ++ property_front p

  pub record IsInProcedure (bytes : List ℕ) (m : NotedModule) (b : Body) : Type 0 where
    pub tree : IsModuleOf known name m
    pub body : IsBody b
    pub no_part : not (is_get b.tree.head || is_set b.tree.head) ≡ true
    pub are : bytes ≡ open_text m ++ body_text 1 b

  pub record IsInPart (bytes : List ℕ) (m : NotedModule) (p : Promised) (b : Body) : Type 0 where
    pub tree : IsModuleOf known name m
    pub promised : IsPromised p
    pub body : IsBody b
    pub next : is_next_part p b.tree.head ≡ true
    pub are : bytes ≡ open_text m ++ (property_front p ++ body_text 2 b)

  pub record IsEnded (bytes : List ℕ) (m : NotedModule) : Type 0 where
    pub tree : IsModuleOf known name m
    pub are : bytes ≡ unmarked m

  -- the bytes that were read behind the mark of UTF-8 are the text of what is held
  abbrev pub Holds : (bytes : List ℕ) → State → Type 0
  Holds bytes (at_front named) = IsAtFront bytes named
  Holds bytes (in_front head named texts) = IsInFront bytes head named texts
  Holds bytes (among_members m) = IsAmongMembers bytes m
  Holds bytes (in_structure m s) = IsInStructure bytes m s
  Holds bytes (in_property m p) = IsInProperty bytes m p
  Holds bytes (in_procedure m b) = IsInProcedure bytes m b
  Holds bytes (in_part m p b) = IsInPart bytes m p b
  Holds bytes (ended m) = IsEnded bytes m

  -- a line leads from some bytes to a state
  pub record Grows (bytes line : List ℕ) (s : State) : Type 0 where
    pub holds : Holds (bytes ++ line) s
    pub ends : ends_line line ≡ true
