-- Which module a text is, or which fault it has first.
use Rattle.std.specs.Prelude.{◌≡◌, ◌≢◌, ℕ, List, Some, None}
use Rattle.up_base.specs.declared.place.Fault.{Fault}
use Rattle.vb_tree.specs.declared.project.Entry.{Entry}
use Rattle.vb_tree.specs.declared.token.Line.{Line}
use Rattle.vb_tree.specs.Tree.{Module}
use Rattle.vb_lexer.specs.Answers.{Lexes}
use Rattle.vb_lines.specs.Modules.{IsModule, IsModuleFault, head_of}

-- the file of an entry, of this number, is a module: its text has no lexical fault, and its logical lines are that module
pub record TextIsModule (entry : Entry) (number : ℕ) (text : List ℕ) (m : Module) : Type 0 where
  pub lines : List Line
  pub lexed : Lexes number text None lines
  pub is : IsModule entry number (head_of entry.class lines) m

-- The first fault of such a text. Of the faults of lines those before the first lexical one come before it, but for 12,
-- that a block isn't closed, which only the end of a text tells.
pub data TextFault (entry : Entry) (number : ℕ) (text : List ℕ) (f : Fault) : Type 0 where
  -- of logical lines without a lexical fault
  of_lines : (lines : List Line) → Lexes number text None lines → IsModuleFault number (head_of entry.class lines) f → TextFault entry number text f
  -- of the logical lines before the first lexical fault
  before_lexical : (lexical : Fault) (lines : List Line) → Lexes number text (Some lexical) lines → IsModuleFault number (head_of entry.class lines) f → f.kind ≢ 12 → TextFault entry number text f
  -- the first lexical fault, where the lines before it have no other
  lexical : (lines : List Line) → Lexes number text (Some f) lines → ((g : Fault) → IsModuleFault number (head_of entry.class lines) g → g.kind ≡ 12) → TextFault entry number text f
