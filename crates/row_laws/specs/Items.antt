-- What is printed: the texts of items, one behind another.
use Rattle.std.specs.Prelude.{◌≡◌, ℕ, Bool, true, false, cond, List, [], ◌∷◌, ◌++◌}
use Rattle.vb_tree.specs.BoundTree as vb
use Rattle.vb_tree.specs.BoundTree.{Ty}
use Rattle.vb_tree.specs.declared.value.Value6.{Value6}
use Rattle.vb6_meaning.specs.Answers.{Answer, then_answer}
use Rattle.vb6_meaning.specs.Answers as value
use Rattle.vb6_meaning.specs.NumberTexts.{print_text}
use Rattle.net_tree.specs.Tree.{Exp}
use Rattle.net_tree.specs.Types as t
use Rattle.net_meaning.specs.declared.value.ValueN.{ValueN}
use Rattle.net_meaning.specs.declared.value.ValueN.TheVariants as n
use Rattle.net_meaning.specs.Conversions.{coerce_net}
use Rattle.net_meaning.specs.SameValues.{Agrees}
use Rattle.net_meaning.specs.Support.{print_num, print_var}
use Rattle.net_meaning.specs.ValueMatch.{Matches}
use Rattle.run_base.specs.Outcomes.{Output, printed, line_end, gives, outside, then, answered}
use Rattle.net_run.specs.Values.{Value, unknown, single, fields}
use Rattle.net_run.specs.Store.{Memory, Does}
use Rattle.net_run.specs.Names.{Scope}
use Rattle.net_run.specs.Making.{Jobs}
use Rattle.net_run.specs.Calls.{text_of}
use Rattle.net_run.specs.Expressions.{value_of}

-- the row of a printed item by its type
abbrev pub printed_row : Ty → ValueN → Answer ValueN
printed_row vb.boolean x = coerce_net x t.str
printed_row vb.byte x = then_answer (coerce_net x t.decimal) print_num
printed_row vb.integer x = then_answer (coerce_net x t.decimal) print_num
printed_row vb.long x = then_answer (coerce_net x t.decimal) print_num
printed_row vb.currency x = print_num x
printed_row vb.variant x = print_var x
printed_row _ x = value.gives x

-- ---- texts

-- a String is a text, and Nothing is the empty one
abbrev pub IsText : List ℕ → ValueN → Type 0
IsText units (n.Str u) = u ≡ units
IsText units n.Nothing = units ≡ []
IsText units _ = ⊥

-- the text that is printed of a value of a type, and what the row of the item gives on a value that matches
abbrev pub PrintsSame : (are_same : ℕ → ℕ → Bool) → Ty → Type 0
PrintsSame are_same ty = (a : Value6) (x : ValueN) → Matches are_same ty a x → Agrees IsText (print_text a) (printed_row ty x)

-- the types whose items are made to Strings, whatever their expressions give
abbrev pub is_made_text : Ty → Bool
is_made_text vb.boolean = true
is_made_text vb.byte = true
is_made_text vb.integer = true
is_made_text vb.long = true
is_made_text vb.currency = true
is_made_text vb.variant = true
is_made_text _ = false

-- the units of a String, of which Nothing is the empty one
abbrev pub text_in : Value → Does (List ℕ)
text_in (single x) w = answered (text_of x) w
text_in unknown w = outside []
text_in (fields vs) w = outside []

abbrev pub only_text : Value → Does Value
only_text v w = then (text_in v w) (λ units w. gives [] v w)

-- what is written gives Strings alone
abbrev pub GivesText : Scope → Jobs → Exp → Type 0
GivesText S oracle e = (w : Memory) → value_of S oracle e w ≡ then (value_of S oracle e w) only_text

abbrev pub AllGiveText : Scope → Jobs → List Exp → Type 0
AllGiveText S oracle [] = Unit {0}
AllGiveText S oracle (e ∷ es) = GivesText S oracle e × AllGiveText S oracle es

-- the texts of expressions from the left, one behind another
abbrev pub texts_of : Scope → Jobs → List Exp → Does (List ℕ)
texts_of S oracle [] w = gives [] [] w
texts_of S oracle (e ∷ es) w = then (then (value_of S oracle e w) text_in) (λ p w. then (texts_of S oracle es w) (λ q w. gives [] (p ++ q) w))

-- the output of a line, or of a part of one
abbrev pub print_output : (ended : Bool) → List ℕ → Output
print_output ended units = cond ended (printed units) (printed (units ++ line_end))
