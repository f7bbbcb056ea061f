-- Worked examples of local variables that no line declares.
use Rattle.std.proofs.Common.{◌≡◌, ℕ, false, List, [], ◌∷◌, None, refl, codes, map}
use Rattle.vb_tree.specs.BoundTree.{integer, unknown, variant}
use Rattle.vb_tree.specs.declared.token.Suffix.{Suffix}
use Rattle.vb_tree.specs.declared.token.Suffix.TheVariants as suffix
use Rattle.vb_tree.specs.Tree.{Nodes, assign, bracketed, given, index, member, next_arg, no_args, variables}
use Rattle.vb_tree.specs.declared.form_parts.VarWord.TheVariants as var_word
use Rattle.bound_tree.specs.declared.declared.Named.TheVariants as named
use Rattle.bound_tree.specs.declared.declared.Scope.TheVariants as scope
use Rattle.bound_tree.specs.RuleSets.{none, with_rule}
use Rattle.declared_names.specs.Rules.{reserved_names}
use Rattle.name_tables.specs.declared.uses.Spelling.TheVariants as spelling
use Rattle.typing_rows.specs.LibraryNames.{names_a_to_c, names_d_to_i, names_j_to_p, names_q_to_y}
use Rattle.expression_words.specs.Meanings.{type_words}
use Rattle.bound_exprs.specs.Resolved.{as_qualifier, as_value}
use Rattle.binder.specs.ImplicitLocals.{Implicit, entries_from, homes, placed, project_locals, rules_of, variable_of, with_new, words_in}
use Rattle.binder.proofs.Sample.{D, at, p, plain, body_from, w}

-- ---- words

-- a(b, True): with a list behind it a is no variable
behind_a_list : words_in as_value (index (plain (codes "a")) (next_arg None false (given (plain (codes "b"))) (next_arg None false (given (plain (codes "True"))) no_args)))
    ≡ record { lookup = as_value; spelling = spelling.Plain; name = codes "b"; suffix = suffix.Absent } ∷ []
unfolding type_words
behind_a_list = refl

-- c.d
before_a_stop : words_in as_value (member (plain (codes "c")) (codes "d")) ≡ record { lookup = as_qualifier; spelling = spelling.Plain; name = codes "c"; suffix = suffix.Absent } ∷ []
unfolding type_words
before_a_stop = refl

type_word : words_in as_value (plain (codes "Date")) ≡ []
unfolding type_words
type_word = refl

in_brackets : words_in as_value (bracketed (codes "Date") suffix.Absent) ≡ record { lookup = as_value; spelling = spelling.Bracketed; name = codes "Date"; suffix = suffix.Absent } ∷ []
unfolding type_words
in_brackets = refl

-- ---- variables

abbrev use_at : ℕ → List ℕ → Suffix → Implicit
use_at n name s = record { file = 1; procedure = p 0; place = at n; statement = n; name = name; suffix = s }

first_of_each_name : with_new [] (use_at 1 (codes "N") suffix.Integer ∷ use_at 2 (codes "k") suffix.Absent ∷ use_at 3 (codes "n") suffix.Absent ∷ [])
    ≡ use_at 1 (codes "N") suffix.Integer ∷ use_at 2 (codes "k") suffix.Absent ∷ []
first_of_each_name = refl

-- Dim d / n = Total / k = n
abbrev run : Nodes
run = body_from 11 (variables var_word.Dim [] ∷ assign (plain (codes "n")) (plain (codes "Total")) ∷ assign (plain (codes "k")) (plain (codes "N")) ∷ [])

-- the head is line 0 of the module
numbered_lines : map (λ h. map (λ l. l.statement) (placed h)) (homes (D run).project) ≡ (2 ∷ 3 ∷ []) ∷ []
numbered_lines = refl

-- six variables are declared; in the first line n is seen, in the second k too
found_in_run : project_locals (D run) ≡
    record {
      variables =
          record { file = 1; procedure = p 0; place = at 12; statement = 2; name = codes "n"; suffix = suffix.Absent }
          ∷ record { file = 1; procedure = p 0; place = at 13; statement = 3; name = codes "k"; suffix = suffix.Absent }
          ∷ [];
      laters = 7 ∷ 8 ∷ [];
    }
    ∷ []
unfolding type_words names_a_to_c names_d_to_i names_j_to_p names_q_to_y
found_in_run = refl

-- ---- declarations

a_variant : (variable_of (D run) (use_at 3 (codes "n") suffix.Absent)).ty ≡ variant
unfolding reserved_names
a_variant = refl

by_its_suffix : (variable_of (D run) (use_at 3 (codes "n") suffix.Integer)).ty ≡ integer
unfolding reserved_names
by_its_suffix = refl

-- a standard module's name
taken : (variable_of (D run) (use_at 3 (codes "main") suffix.Absent)).ty ≡ unknown
unfolding reserved_names
taken = refl

breaks_a_rule : rules_of (D run) (use_at 3 (codes "System") suffix.Absent) ≡ with_rule none 20
unfolding reserved_names
breaks_a_rule = refl

named_in_order : entries_from 6 (use_at 2 (codes "n") suffix.Absent ∷ use_at 3 (codes "k") suffix.Absent ∷ [])
    ≡ record { name = codes "n"; scope = scope.Local (p 0); named = named.Var (w 6) } ∷ record { name = codes "k"; scope = scope.Local (p 0); named = named.Var (w 7) } ∷ []
named_in_order = refl
