-- The parts of a logical line in the code.
use Rattle.std.specs.Prelude.{◌≡◌, ◌≤◌, ℕ, Bool, List, ◌++◌, map, length}
use Rattle.vb_tree.specs.declared.token.Token.{Token}
use Rattle.vb_lines.specs.declared.cuts.Cut.{Cut}
use Rattle.vb_lines.specs.declared.cuts.Cut.TheVariants as c
use Rattle.vb_lines.specs.Statements as plain

abbrev pub cut_of : Cut → plain.Cut
cut_of (c.Label t) = plain.label_cut t.now
cut_of (c.Statement tokens) = plain.statement_cut tokens.now
cut_of (c.Head tokens) = plain.head_cut tokens.now
cut_of (c.Jump t) = plain.jump_cut t.now
cut_of (c.Else t) = plain.else_cut t.now
cut_of (c.Stray t) = plain.stray_cut t.now
cut_of c.End = plain.end_cut

abbrev pub cuts_of : List Cut → List plain.Cut
cuts_of cuts = map cut_of cuts

-- behind the cuts that were there, the statements of these tokens are cut up to those that are left
pub record HasCut (before : List plain.Cut) (tokens : List Token) (cuts : List plain.Cut) (ifs : List Bool) (rest : List Token) : Type 0 where
  pub fuel : ℕ
  pub room : length rest ≤ fuel
  pub joined : cuts ++ plain.statements fuel ifs rest ≡ before ++ plain.cut_statements tokens
