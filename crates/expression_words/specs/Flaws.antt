-- What binding makes of an expression: a bound expression, or an expression without a type and why it has none.
use Rattle.std.specs.Prelude.{ℕ, Bool, true, false, cond, ◌&&◌, Option, Some, None, List, [], ◌∷◌}
use Rattle.bound_tree.specs.declared.body.Mention.{Mention}
use Rattle.bound_tree.specs.RuleSets.{none, with_rule, with_if, both}
use Rattle.bound_tree.specs.Tree.{Expr, Exprs, no_exprs, next_expr}
use Rattle.expression_words.specs.declared.typed.Flaw.{Flaw}

pub data Typed : Type 0 where
  known : Expr → Typed
  unknown : Flaw → Typed

-- ---- flaws

abbrev pub no_flaw : Flaw
no_flaw = record { rules = none; cause = None }

-- an expression that breaks a rule
abbrev pub breaks : ℕ → Flaw
breaks rule = record { rules = with_rule none rule; cause = None }

abbrev pub breaks_if : ℕ → Bool → Flaw
breaks_if rule test = record { rules = with_if none rule test; cause = None }

-- a use of a declaration without a type
abbrev pub lacks : Mention → Flaw
lacks m = record { rules = none; cause = Some m }

abbrev pub first_cause : Option Mention → Option Mention → Option Mention
first_cause (Some m) other = Some m
first_cause None other = other

-- the flaws of two parts
abbrev pub together : Flaw → Flaw → Flaw
together f g = record { rules = both f.rules g.rules; cause = first_cause f.cause g.cause }

-- ---- expressions

abbrev pub flaw_of : Typed → Flaw
flaw_of (known e) = no_flaw
flaw_of (unknown f) = f

abbrev pub is_known : Typed → Bool
is_known (known e) = true
is_known (unknown f) = false

abbrev pub on_known : (Expr → Typed) → Typed → Typed
on_known next (known e) = next e
on_known next (unknown f) = unknown f

-- over two parts; one without a type leaves the whole without one
abbrev pub on_both : (Expr → Expr → Typed) → Typed → Typed → Typed
on_both next (known a) t = on_known (next a) t
on_both next (unknown f) t = unknown (together f (flaw_of t))

-- the same with a further rule, which leaves it without a type
abbrev pub flawed_by : ℕ → Typed → Typed
flawed_by rule t = unknown (together (breaks rule) (flaw_of t))

-- ---- several expressions

abbrev pub all_known : List Typed → Bool
all_known [] = true
all_known (t ∷ ts) = is_known t && all_known ts

-- the flaws of all, after some
abbrev pub flaws_after : Flaw → List Typed → Flaw
flaws_after f [] = f
flaws_after f (t ∷ ts) = flaws_after (together f (flaw_of t)) ts

abbrev pub flaws_of : List Typed → Flaw
flaws_of ts = flaws_after no_flaw ts

-- those with a type
abbrev pub with_known : Typed → Exprs → Exprs
with_known (known e) es = next_expr e es
with_known (unknown f) es = es

abbrev pub exprs_in : List Typed → Exprs
exprs_in [] = no_exprs
exprs_in (t ∷ ts) = with_known t (exprs_in ts)

-- the expressions, or why some have no type
pub data Gathered : Type 0 where
  all : Exprs → Gathered
  some : Flaw → Gathered

abbrev pub gathered : List Typed → Gathered
gathered ts = cond (all_known ts) (all (exprs_in ts)) (some (flaws_of ts))

abbrev pub on_gathered : (Exprs → Typed) → Gathered → Typed
on_gathered next (all es) = next es
on_gathered next (some f) = unknown f

-- over all of them
abbrev pub on_all : (Exprs → Typed) → List Typed → Typed
on_all next ts = on_gathered next (gathered ts)
