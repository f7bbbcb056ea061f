-- Worked examples: unions, sets of statements and shapes, computed.
use Rattle.std.proofs.Common.{◌≡◌, ℕ, false, List, [], ◌∷◌, codes, refl, None}
use Rattle.std.specs.Prelude.{ℤ, pos}
use Rattle.vb_tree.specs.declared.declared.VarId.{VarId}
use Rattle.vb_tree.specs.declared.form_parts.Compare.TheVariants as compare
use Rattle.vb_tree.specs.declared.form_parts.DefWord.TheVariants as def
use Rattle.vb_tree.specs.declared.form_parts.VarWord.TheVariants as word
use Rattle.vb_tree.specs.declared.token.Suffix.TheVariants as ending
use Rattle.vb_tree.specs.Tree as source
use Rattle.vb_tree.specs.Tree.{Form, Line, Member, alone, group, proc, no_nodes, next_node, Module}
use Rattle.bound_tree.specs.declared.rule_set.RuleSet.{RuleSet}
use Rattle.bound_tree.specs.RuleSets.{both, none, with_rule}
use Rattle.written_facts.specs.Shapes.{no_shape, shape_of}
use Rattle.written_facts.specs.Statements.{file_sets, sets_by_file}
use Rattle.written_facts.specs.United.{united, united_lists}

abbrev one : ℕ → RuleSet
one rule = with_rule none rule

-- ---- unions

-- two passes, of which one has no set for the second declaration
of_two_passes : united ((one 1 ∷ []) ∷ (one 4 ∷ one 2 ∷ []) ∷ []) ≡ with_rule (one 4) 1 ∷ one 2 ∷ []
unfolding both none with_rule
of_two_passes = refl

no_pass : united [] ≡ []
no_pass = refl

-- of two passes over a procedure of two code lines, one knows a second procedure
of_two_procedures : united_lists (((one 1 ∷ none ∷ []) ∷ []) ∷ ((one 1 ∷ []) ∷ (one 5 ∷ []) ∷ []) ∷ []) ≡ (one 1 ∷ none ∷ []) ∷ (one 5 ∷ []) ∷ []
unfolding both none with_rule
of_two_procedures = refl

-- ---- statements

abbrev at : (line : ℕ) → Form → Line
at n form = record { place = record { file = 2; line = n }; text = []; form = form }

abbrev signature : source.Signature
signature = record { visibility = None; name = codes "Main"; suffix = ending.Absent; params = [] }

-- a DefSng line, an Enum with one member, a module variable, a procedure with a declaration and a code line, and an Option line
abbrev members : List Member
members =
    alone (at 1 (source.def_type def.Single []))
    ∷ group (at 2 (source.enum_head None (codes "E") ending.Absent)) (at 3 (source.enum_member (codes "A") ending.Absent None) ∷ []) (at 4 source.end_enum)
    ∷ alone (at 5 (source.variables word.Dim []))
    ∷ proc (at 6 (source.sub_head signature)) (next_node (source.line (at 7 (source.variables word.Dim []))) (next_node (source.line (at 8 (source.opaque []))) no_nodes)) (at 9 source.end_sub)
    ∷ alone (at 10 (source.option_compare compare.Text)) ∷ []

abbrev module_two : Module
module_two = record { file = 2; name = codes "Two"; class = false; members = members; comments = [] }

-- a code line breaks its rules by what is bound in it
of_a_module : file_sets 2 (module_two ∷ []) ≡ one 1 ∷ none ∷ none ∷ none ∷ none ∷ none ∷ none ∷ none ∷ none ∷ one 17 ∷ []
of_a_module = refl

-- of two modules with one file number the first counts
abbrev other : Module
other = record { file = 2; name = codes "Other"; class = false; members = []; comments = [] }

of_the_first : file_sets 2 (other ∷ module_two ∷ []) ≡ []
of_the_first = refl

by_number : sets_by_file (module_two ∷ []) ≡ [] ∷ [] ∷ file_sets 2 (module_two ∷ []) ∷ []
by_number = refl

-- ---- shapes

abbrev id : ℕ → VarId
id n = record { 0 = n }

-- the variables 1 and 3 are arrays
abbrev lows : List (VarId × ℤ × ℤ)
lows = (id 1, pos 1, pos 0) ∷ (id 3, pos 2, pos 5) ∷ []

abbrev ranks : List (VarId × ℕ)
ranks = (id 1, 1) ∷ (id 3, 2) ∷ []

an_array : shape_of lows ranks 3 ≡ record { low = pos 2; second = pos 5; rank = 2 }
an_array = refl

no_array : shape_of lows ranks 2 ≡ no_shape
no_array = refl
