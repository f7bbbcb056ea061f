-- The plain values that those of the code stand for.
use Rattle.std.specs.Prelude.{ℕ, Option, Some, None, option_map, Result, Ok, Err, List, [], ◌∷◌, map, Box, Vec}
use Rattle.std.proofs.Common.{Global}
use Rattle.vb_tree.specs.BoundTree.{Ty}
use Rattle.vb_tree.specs.BoundView.{type_of}
use Rattle.bound_tree.specs.declared.expression.BoundExpr.{BoundExpr}
use Rattle.bound_tree.specs.declared.expression.BoundArg.{BoundArg}
use Rattle.bound_tree.specs.View.{expr_of, exprs_of, object_of, argument_of}
use Rattle.name_tables.specs.View.{shown_declarations}
use Rattle.name_tables.specs.Tables.{AreTables}
use Rattle.typing_rows.specs.declared.conversions.Conversion.{Conversion}
use Rattle.typing_rows.specs.Conversions.{converts, index, error_number, condition, printed, assigned, set_to, limit}
use Rattle.typing_rows.specs.Cases.{case_converts}
use Rattle.typing_rows.specs.Library.{argument}
use Rattle.expression_words.specs.declared.asks.Asks.{Asks}
use Rattle.expression_words.specs.declared.asks.Asks.TheVariants as a
use Rattle.expression_words.specs.declared.context.Context.{Context}
use Rattle.expression_words.specs.declared.context.Scope.{Scope}
use Rattle.expression_words.specs.declared.meaning.Kept.{Kept}
use Rattle.expression_words.specs.declared.meaning.Kept.TheVariants as kept
use Rattle.expression_words.specs.declared.meaning.Meaning.{Meaning}
use Rattle.expression_words.specs.declared.meaning.Meaning.TheVariants as m
use Rattle.expression_words.specs.declared.slots.Slot.{Slot}
use Rattle.expression_words.specs.declared.slots.Slot.TheVariants as s
use Rattle.expression_words.specs.declared.supplied.Supplied.{Supplied}
use Rattle.expression_words.specs.declared.typed.Flaw.{Flaw}
use Rattle.expression_words.specs.declared.typed.Typed.{Typed}
use Rattle.expression_words.specs.declared.typed.Typed.TheVariants as t
use Rattle.bound_tree.specs.Tree.{Declarations, Exprs, next_expr, Passed, next_passed}
use Rattle.expression_words.specs.Flaws as flaws
use Rattle.expression_words.specs.Meanings as meanings
use Rattle.expression_words.specs.MemberTables.{AreMemberTables}
use Rattle.expression_words.specs.Passing as passing

abbrev pub typed_of : Typed → flaws.Typed
typed_of (t.Known e) = flaws.known (expr_of e)
typed_of (t.Unknown f) = flaws.unknown f

-- expressions before others
abbrev pub exprs_before : List BoundExpr → Exprs → Exprs
exprs_before [] more = more
exprs_before (e ∷ rest) more = next_expr (expr_of e) (exprs_before rest more)

-- arguments before others
abbrev pub passed_before : List BoundArg → Passed → Passed
passed_before [] more = more
passed_before (a ∷ rest) more = next_passed (argument_of a) (passed_before rest more)

abbrev pub gathered_of : Result (Vec BoundExpr Global) Flaw → flaws.Gathered
gathered_of (Ok v) = flaws.all (exprs_of v.items)
gathered_of (Err f) = flaws.some f

abbrev pub value_of : Option Typed → passing.Value
value_of None = passing.left_out
value_of (Some x) = passing.given (typed_of x)

abbrev pub supplied_of : Supplied → passing.Supplied
supplied_of a = record { named = a.named; marked = a.marked; parenthesised = a.parenthesised; value = value_of a.value }

abbrev pub slot_of : Slot → passing.Slot
slot_of (s.Filled a) = passing.filled (argument_of a)
slot_of (s.Flawed f) = passing.flawed f

abbrev pub listed_of : Option (Vec Supplied Global) → meanings.Listed
listed_of None = meanings.no_list
listed_of (Some v) = meanings.listed (map supplied_of v.items)

abbrev pub meaning_of : Meaning → meanings.Meaning
meaning_of (m.Value x) = meanings.value (typed_of x)
meaning_of (m.Procedure p qualified of args) = meanings.procedure p.0 qualified (object_of of) (listed_of args)
meaning_of (m.Library f args) = meanings.library_word f (listed_of args)
meaning_of (m.Module file) = meanings.of_module file
meaning_of (m.Enum e) = meanings.of_enum e
meaning_of m.Err = meanings.err
meaning_of (m.ErrMember x args) = meanings.err_member x (listed_of args)

abbrev pub kept_of : Kept → meanings.Kept
kept_of kept.Nothing = meanings.no_with
kept_of (kept.Keeps ty r) = meanings.keeps (type_of ty) r
kept_of (kept.Unknown cause) = meanings.keeps_unknown cause

abbrev pub declared_in : Context → Declarations
declared_in c = shown_declarations c.declared

-- the tables of a context are those of its declarations
pub record IsContext (c : Context) : Type 0 where
  pub names : AreTables c.tables.now (shown_declarations c.declared)
  pub members : AreMemberTables c.members.now (shown_declarations c.declared)

-- and so are those of what stands in lines
pub record IsScope (s : Scope) : Type 0 where
  pub context : IsContext s.context
  pub written : AreTables s.written.tables.now (shown_declarations s.written.declared)

abbrev pub scope_of : Scope → meanings.Scope
scope_of s = record {
  declarations = declared_in s.context;
  written = shown_declarations s.written.declared;
  later = s.later;
  site = s.site;
  kept = kept_of s.kept.now;
  missing = s.missing;
}

-- what becomes of an expression of a type where one is wanted
abbrev pub asks_of : Asks → Ty → Conversion
asks_of (a.Type to) s = converts s (type_of to.now)
asks_of a.Index s = index s
asks_of (a.Argument f place) s = argument f place s
asks_of a.ErrorNumber s = error_number s
asks_of a.Condition s = condition s
asks_of a.Printed s = printed s
asks_of (a.Assigned to) s = assigned s (type_of to.now)
asks_of (a.SetTo to) s = set_to s (type_of to.now)
asks_of (a.Limit to) s = limit s (type_of to.now)
asks_of (a.Case common) s = case_converts common s
