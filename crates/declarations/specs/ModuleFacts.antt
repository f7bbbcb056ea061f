-- What the Option and Def lines of a module say for all its declarations. Statements are the lines of a module, numbered from 0.
use Rattle.std.specs.Prelude.{ℕ, ◌+◌, Bool, true, false, cond, ◌||◌, ◌&&◌, nat_eq, nat_le, Option, Some, None, List, [], ◌∷◌, length}
use Rattle.std.specs.List.{list_any}
use Rattle.vb_tree.specs.declared.form_parts.DefWord.{DefWord}
use Rattle.vb_tree.specs.declared.form_parts.LetterRange.{LetterRange}
use Rattle.vb_tree.specs.FlatLines.{member_lines}
use Rattle.vb_tree.specs.Tree.{Form, Member, alone, Module, option_explicit, def_type}

-- ---- Option Explicit

abbrev pub is_explicit_line : Form → Bool
is_explicit_line option_explicit = true
is_explicit_line _ = false

abbrev pub is_explicit_member : Member → Bool
is_explicit_member (alone l) = is_explicit_line l.form
is_explicit_member _ = false

-- ---- Def lines

-- what a Def line gives names with some first letters, and the number of its statement
pub record DefLine : Type 0 where
  pub word : DefWord
  pub ranges : List LetterRange
  pub statement : ℕ

-- what a Def line gives a name
pub record Letter : Type 0 where
  pub word : DefWord
  pub statement : ℕ

abbrev pub def_in : ℕ → Form → Option DefLine
def_in n (def_type w ranges) = Some (record { word = w; ranges = ranges; statement = n })
def_in n _ = None

abbrev pub member_def : ℕ → Member → Option DefLine
member_def n (alone l) = def_in n l.form
member_def n _ = None

abbrev pub with_def : Option DefLine → List DefLine → List DefLine
with_def None ds = ds
with_def (Some d) ds = d ∷ ds

-- the Def lines among members of which the first begins with the statement n
abbrev pub def_lines : ℕ → List Member → List DefLine
def_lines n [] = []
def_lines n (m ∷ ms) = with_def (member_def n m) (def_lines (n + length (member_lines m)) ms)

abbrev pub small : ℕ → ℕ
small c = cond (nat_le 65 c && nat_le c 90) (c + 32) c

-- both ends are included, in either order
abbrev pub is_between : ℕ → ℕ → ℕ → Bool
is_between c a b = (nat_le a c && nat_le c b) || (nat_le b c && nat_le c a)

abbrev pub is_in_range : ℕ → LetterRange → Bool
is_in_range c r = is_between (small c) (small r.from) (small r.to)

-- the first Def line with a letter
abbrev pub letter_in : ℕ → List DefLine → Option Letter
letter_in c [] = None
letter_in c (d ∷ ds) = cond (list_any (is_in_range c) d.ranges) (Some (record { word = d.word; statement = d.statement })) (letter_in c ds)

-- ---- all that modules say

pub record ModuleFacts : Type 0 where
  pub file : ℕ
  pub explicit : Bool
  pub defs : List DefLine

abbrev pub facts_in : Module → ModuleFacts
facts_in m = record { file = m.file; explicit = list_any is_explicit_member m.members; defs = def_lines 0 m.members }

abbrev pub facts_at : ℕ → List ModuleFacts → Option ModuleFacts
facts_at file [] = None
facts_at file (f ∷ fs) = cond (nat_eq f.file file) (Some f) (facts_at file fs)

abbrev pub is_explicit_at : Option ModuleFacts → Bool
is_explicit_at None = false
is_explicit_at (Some f) = f.explicit

-- whether each variable of the module of a file has to be declared
abbrev pub needs_declaration : ℕ → List ModuleFacts → Bool
needs_declaration file fs = is_explicit_at (facts_at file fs)

abbrev pub letter_by : ℕ → Option ModuleFacts → Option Letter
letter_by c None = None
letter_by c (Some f) = letter_in c f.defs

-- what names have that begin as this one, in the module of a file
abbrev pub letter_of : List ℕ → ℕ → List ModuleFacts → Option Letter
letter_of [] file fs = None
letter_of (c ∷ cs) file fs = letter_by c (facts_at file fs)
