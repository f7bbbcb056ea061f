-- The module that logical lines are, or their first fault (MS-VBAL, Module Body Structure).
use Rattle.std.specs.Prelude.{◌≡◌, ◌⊎◌, ℕ, Bool, true, false, ◌&&◌, ◌||◌, if◌then◌else◌, List, [], ◌∷◌, ◌++◌, codes, Option, Some, None, Result, Ok, Err}
use Rattle.std.specs.List.{flat_map}
use Rattle.up_base.specs.declared.place.Fault.{Fault}
use Rattle.up_base.specs.declared.place.Place.{Place}
use Rattle.up_base.specs.declared.place.ReadFail.{ReadFail}
use Rattle.up_base.specs.declared.place.ReadFail.TheVariants as fail
use Rattle.vb_tree.specs.declared.block.BlockKind.{BlockKind}
use Rattle.vb_tree.specs.declared.block.BlockKind.TheVariants as block
use Rattle.vb_tree.specs.declared.module.Module6.{Module6}
use Rattle.vb_tree.specs.declared.project.Entry.{Entry}
use Rattle.vb_tree.specs.declared.token.Line.{Line}
use Rattle.vb_tree.specs.declared.token.Sign.TheVariants as sign
use Rattle.vb_tree.specs.declared.token.Token.{Token}
use Rattle.vb_tree.specs.declared.token.TokenKind.{TokenKind}
use Rattle.vb_tree.specs.declared.token.TokenKind.TheVariants as kind
use Rattle.vb_tree.specs.LogicalLines.{is_word}
use Rattle.vb_tree.specs.ModuleTree.{IsTreeOf}
use Rattle.vb_tree.specs.Tree as tree
use Rattle.vb_tree.specs.View.{module_of}
use Rattle.declaration_forms.specs.declared.starts.Spot.{Spot}
use Rattle.declaration_forms.specs.declared.starts.Spot.TheVariants as spot
use Rattle.vb_lines.specs.Nesting.{Open, open_after}
use Rattle.vb_lines.specs.Parts.{Part, all_parts, Outcome, gives, PartGives, lines_fault, outcome_fault}

-- ---- the code lines of parts

-- where a line stands, by the innermost block that is open
abbrev pub spot_in : BlockKind → Spot
spot_in block.Type = spot.TypeGroup
spot_in block.Enum = spot.EnumGroup
spot_in _ = spot.Procedure

abbrev pub spot_of : List Open → Spot
spot_of [] = spot.Module
spot_of (o ∷ opens) = spot_in o.kind

-- where these blocks are open, the parts have no fault, and give these lines
abbrev pub AreRead : List Open → List Part → List tree.Line → Type 0
AreRead opens [] lines = lines ≡ []
AreRead opens (p ∷ parts) lines =
    (new : List tree.Line) × (more : List tree.Line) × PartGives (spot_of opens) p (gives new) × (lines_fault opens new ≡ None)
    × AreRead (open_after opens new) parts more × (lines ≡ new ++ more)

-- a fault of a part, where these blocks are open
pub record IsPartFault (opens : List Open) (p : Part) (f : Fault) : Type 0 where
  pub outcome : Outcome
  pub given : PartGives (spot_of opens) p outcome
  pub kind : outcome_fault opens outcome ≡ Some f.kind
  pub place : f.place ≡ p.place

-- the fault is that of the first part that has one
abbrev pub HasFault : List Open → List Part → Fault → Type 0
HasFault opens [] f = ⊥
HasFault opens (p ∷ parts) f =
    IsPartFault opens p f
    ⊎ ((new : List tree.Line) × PartGives (spot_of opens) p (gives new) × (lines_fault opens new ≡ None) × HasFault (open_after opens new) parts f)

-- behind the last line a block is open: 12 at the line that opened the innermost one
abbrev pub IsUnclosed : List Open → Fault → Type 0
IsUnclosed [] f = ⊥
IsUnclosed (o ∷ opens) f = (f.place ≡ o.head.place) × (f.kind ≡ 12)

abbrev pub IsFirstFault : List Part → Fault → Type 0
IsFirstFault parts f = HasFault [] parts f ⊎ ((lines : List tree.Line) × AreRead [] parts lines × IsUnclosed (open_after [] lines) f)

-- ---- comments

abbrev pub comment_at : Place → Option (List ℕ) → List (ℕ × List ℕ)
comment_at place None = []
comment_at place (Some text) = (place.line, text) ∷ []

-- the comments of lines in order, each with the first physical line of its logical line
abbrev pub comments_of : List Line → List (ℕ × List ℕ)
comments_of lines = flat_map (λ l. comment_at l.place l.comment) lines

-- ---- the head of a class file: VERSION, BEGIN, lines `word = tokens`, END

abbrev pub is_equal : TokenKind → Bool
is_equal (kind.Sign sign.Equal) = true
is_equal _ = false

abbrev pub is_any_word : TokenKind → Bool
is_any_word (kind.Word name suffix) = true
is_any_word (kind.Bracketed name suffix) = true
is_any_word _ = false

abbrev pub begins_version : List Token → Bool
begins_version [] = false
begins_version (t ∷ ts) = is_word (codes "version") t.kind

abbrev pub is_one_word : List ℕ → List Token → Bool
is_one_word w (t ∷ []) = is_word w t.kind
is_one_word w _ = false

abbrev pub is_setting : List Token → Bool
is_setting (t ∷ u ∷ ts) = is_any_word t.kind && is_equal u.kind
is_setting _ = false

-- what stands behind the head, the first line that is not of its form, or that the head has no end
pub data Head : Type 0 where
  ended : List Line → Head
  malformed : Place → Head
  unended : Head

abbrev pub is_no_token : List Token → Bool
is_no_token [] = true
is_no_token (t ∷ ts) = false

abbrev pub is_blank_line : Line → Bool
is_blank_line l = is_no_token l.tokens

-- behind BEGIN
abbrev pub settings : List Line → Head
settings [] = unended
settings (l ∷ lines) =
    if is_one_word (codes "end") l.tokens then ended lines
    else if is_blank_line l || is_setting l.tokens then settings lines
    else malformed l.place

-- behind VERSION
abbrev pub begin_line : List Line → Head
begin_line [] = unended
begin_line (l ∷ lines) =
    if is_one_word (codes "begin") l.tokens then settings lines
    else if is_blank_line l then begin_line lines
    else malformed l.place

abbrev pub class_head : List Line → Head
class_head [] = unended
class_head (l ∷ lines) =
    if begins_version l.tokens then begin_line lines
    else if is_blank_line l then class_head lines
    else malformed l.place

-- the lines of a module behind the head of a class file
abbrev pub head_of : (class : Bool) → List Line → Head
head_of class lines = if class then class_head lines else ended lines

-- ---- the answer

pub record IsModuleOf (entry : Entry) (number : ℕ) (body : List Line) (m : tree.Module) : Type 0 where
  pub file : m.file ≡ number
  pub name : m.name ≡ entry.name
  pub class : m.class ≡ entry.class
  pub comments : m.comments ≡ comments_of body
  pub lines : List tree.Line
  pub read : AreRead [] (all_parts body) lines
  pub closed : open_after [] lines ≡ []
  pub tree : IsTreeOf m lines

-- the module that lines are whose head is this
abbrev pub IsModule : Entry → ℕ → Head → tree.Module → Type 0
IsModule entry file (ended body) m = IsModuleOf entry file body m
IsModule entry file (malformed place) m = ⊥
IsModule entry file unended m = ⊥

-- the first fault of lines whose head is this
abbrev pub IsModuleFault : ℕ → Head → Fault → Type 0
IsModuleFault file (ended body) f = IsFirstFault (all_parts body) f
IsModuleFault file (malformed place) f = (f.place ≡ place) × (f.kind ≡ 15)
IsModuleFault file unended f = (f.place ≡ record { file = file; line = 1 }) × (f.kind ≡ 12)

-- want of memory is the only answer that has no cause
abbrev pub IsAnswer : Entry → ℕ → Head → Result Module6 ReadFail → Type 0
IsAnswer entry file head (Ok m) = IsModule entry file head (module_of m)
IsAnswer entry file head (Err (fail.Fault f)) = IsModuleFault file head f
IsAnswer entry file head (Err fail.Mem) = Unit {0}

-- what lines are as a module, or their first fault
abbrev pub IsModuleAnswer : Entry → ℕ → List Line → Result Module6 ReadFail → Type 0
IsModuleAnswer entry file lines result = IsAnswer entry file (head_of entry.class lines) result
