-- Where expressions end, without precedence: a machine that reads symbol by symbol.
use Rattle.std.specs.Prelude.{List, [], ◌∷◌, Option, Some, None, option_and_then, Bool, true, false}
use Rattle.vb_tree.specs.declared.expression.BinOp.{BinOp}
use Rattle.vb_tree.specs.declared.expression.BinOp.TheVariants.{Sub, Is}
use Rattle.vb_tree.specs.Expressions.{Symbol}
use Rattle.vb_exprs.specs.declared.token_class.Class.{Class}
use Rattle.vb_exprs.specs.declared.token_class.Class.TheVariants as c
use Rattle.vb_exprs.specs.declared.scan.Mode.{Mode}
use Rattle.vb_exprs.specs.declared.scan.Mode.TheVariants.{Operand, Value, Argument, Named, Word, Name, After}
use Rattle.vb_exprs.specs.declared.scan.Bracket.{Bracket}
use Rattle.vb_exprs.specs.declared.scan.Bracket.TheVariants.{Group, Arguments, TypeTest}
use Rattle.vb_exprs.specs.TokenClass.{class_of}

abbrev pub State : Type 0
State = Mode × List Bracket

-- a closing parenthesis
abbrev pub closed : List Bracket → Option State
closed (Group ∷ brackets) = Some (After, brackets)
closed (Arguments ∷ brackets) = Some (After, brackets)
closed _ = None

-- a comma
abbrev pub next_argument : List Bracket → Option State
next_argument (Arguments ∷ brackets) = Some (Argument, Arguments ∷ brackets)
next_argument _ = None

-- a minus or Not before an operand
abbrev pub prefix_step : List Bracket → Option State
prefix_step (TypeTest ∷ brackets) = None
prefix_step brackets = Some (Operand, brackets)

-- an operator behind an operand
abbrev pub operator_step : List Bracket → BinOp → Option State
operator_step (TypeTest ∷ brackets) Is = Some (Name, brackets)
operator_step (TypeTest ∷ brackets) _ = None
operator_step brackets _ = Some (Operand, brackets)

-- the state after a symbol where an operand begins
abbrev pub operand_step : List Bracket → Class → Option State
operand_step brackets c.Literal = Some (After, brackets)
operand_step brackets c.Naming = Some (After, brackets)
operand_step brackets c.Constant = Some (After, brackets)
operand_step brackets c.Me = Some (After, brackets)
operand_step brackets c.New = Some (Name, brackets)
operand_step brackets c.AddressOf = Some (Name, brackets)
operand_step brackets c.TypeOf = Some (Operand, TypeTest ∷ brackets)
operand_step brackets c.Not = prefix_step brackets
operand_step brackets (c.Operator Sub false) = prefix_step brackets
operand_step brackets (c.Access bang) = Some (Word, brackets)
operand_step brackets c.Opening = Some (Operand, Group ∷ brackets)
operand_step brackets _ = None

-- and where one has ended
abbrev pub after_step : List Bracket → Class → Option State
after_step brackets (c.Operator op w) = operator_step brackets op
after_step brackets (c.Access bang) = Some (Word, brackets)
after_step brackets c.Opening = Some (Argument, Arguments ∷ brackets)
after_step brackets c.Comma = next_argument brackets
after_step brackets c.Closing = closed brackets
after_step brackets _ = None

-- and behind `.` or `!`
abbrev pub word_step : List Bracket → Class → Option State
word_step brackets c.Naming = Some (After, brackets)
word_step brackets c.Constant = Some (After, brackets)
word_step brackets c.Me = Some (After, brackets)
word_step brackets c.New = Some (After, brackets)
word_step brackets c.TypeOf = Some (After, brackets)
word_step brackets c.AddressOf = Some (After, brackets)
word_step brackets c.ByVal = Some (After, brackets)
word_step brackets c.Not = Some (After, brackets)
word_step brackets (c.Operator op true) = Some (After, brackets)
word_step brackets c.Reserved = Some (After, brackets)
word_step brackets _ = None

-- the state after a symbol, if any expression can go on so
abbrev pub step_of : Mode → List Bracket → Class → Option State
step_of Operand brackets class = operand_step brackets class
step_of After brackets class = after_step brackets class
step_of Word brackets class = word_step brackets class
step_of Name brackets c.Naming = Some (After, brackets)
step_of Name brackets _ = None
step_of Value brackets c.ByVal = Some (Operand, brackets)
step_of Value brackets c.Hash = Some (Operand, brackets)
step_of Value brackets class = operand_step brackets class
step_of Argument brackets c.Naming = Some (Named, brackets)
step_of Argument brackets c.ByVal = Some (Operand, brackets)
step_of Argument brackets c.Hash = Some (Operand, brackets)
step_of Argument brackets c.Comma = next_argument brackets
step_of Argument brackets c.Closing = closed brackets
step_of Argument brackets class = operand_step brackets class
step_of Named brackets c.Assign = Some (Value, brackets)
step_of Named brackets class = after_step brackets class

abbrev pub run : Mode → List Bracket → List Symbol → Option State
run mode brackets [] = Some (mode, brackets)
run mode brackets (s ∷ more) = option_and_then (λ x. run x.0 x.1 more) (step_of mode brackets (class_of s))

-- whether what was read is an expression
abbrev pub ends : Mode → List Bracket → Bool
ends After [] = true
ends _ _ = false
