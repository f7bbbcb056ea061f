-- What the answer to a text is.
use Rattle.std.specs.Prelude.{◌≡◌, ℕ, List, Option, Some, None, Result, Ok, Err}
use Rattle.up_base.specs.declared.place.Fault.{Fault}
use Rattle.vb_tree.specs.declared.token.Line.{Line}
use Rattle.vb_tree.specs.LogicalLines.{readings, first_fault, lines_before_fault}
use Rattle.vb_lexer.specs.declared.lex_fail.LexFail.{LexFail}
use Rattle.vb_lexer.specs.declared.lex_fail.LexFail.TheVariants as fail

-- a text of a file has this first fault, and these lines before it
pub record Lexes (file : ℕ) (text : List ℕ) (fault : Option Fault) (lines : List Line) : Type 0 where
  pub first : first_fault (readings file text) ≡ fault
  pub before : lines_before_fault (readings file text) ≡ lines

-- all lines where there is no fault; the first fault and the lines before the one that holds it; memory may run out
abbrev pub Answers : ℕ → List ℕ → Result (List Line) LexFail → Type 0
Answers file text (Ok lines) = Lexes file text None lines
Answers file text (Err (fail.Fault fault lines)) = Lexes file text (Some fault) lines
Answers file text (Err fail.Mem) = Unit {0}
