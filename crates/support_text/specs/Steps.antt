-- What steps make.
use Rattle.std.specs.Prelude.{◌≡◌, ℕ, false, List, [], ◌∷◌, ◌++◌, map, Option, Some, None}
use Rattle.std.specs.List.{fold}
use Rattle.net_tree.specs.declared.declaration.NetClose.{NetClose}
use Rattle.net_tree.specs.declared.declaration.NetClose.TheVariants as close
use Rattle.net_tree.specs.declared.declaration.NetPassing.TheVariants as passing
use Rattle.net_tree.specs.declared.declaration.NetVisibility.TheVariants.{Public}
use Rattle.net_tree.specs.Tree.{Dim, Exp, Exps, Head, Line, Param, Procedure}
use Rattle.net_tree.specs.Tree as net
use Rattle.net_tree.specs.Types.{TypeName}
use Rattle.net_tree.specs.Types as types
use Rattle.support_text.specs.declared.step.Arguments.{Arguments}
use Rattle.support_text.specs.declared.step.Arguments.TheVariants.{Zero, One, Two}
use Rattle.support_text.specs.declared.step.Parameter.{Parameter}
use Rattle.support_text.specs.declared.step.Parameter.TheVariants.{ByVal, ByRef}
use Rattle.support_text.specs.declared.step.Routine.{Routine}
use Rattle.support_text.specs.declared.step.SimpleType.{SimpleType}
use Rattle.support_text.specs.declared.step.SimpleType.TheVariants as simple
use Rattle.support_text.specs.declared.step.Step.{Step}
use Rattle.support_text.specs.declared.step.Step.TheVariants as step

abbrev pub simple_type : SimpleType → TypeName
simple_type simple.Boolean = types.boolean
simple_type simple.Byte = types.byte
simple_type simple.Short = types.short
simple_type simple.Integer = types.integer
simple_type simple.Long = types.long
simple_type simple.Decimal = types.decimal
simple_type simple.Str = types.str
simple_type simple.Object = types.object
simple_type simple.SystemArray = types.system_array

-- What is made so far: a stack of expressions from its top, and the parts of a function in their order.
pub record Made : Type 0 where
  pub exps : List Exp
  pub prologue : List Dim
  pub lines : List Line

abbrev pub none_made : Made
none_made = record { exps = []; prologue = []; lines = [] }

abbrev pub pushed : Exp → Made → Made
pushed e m = record m { exps = e ∷ m.exps }

abbrev pub with_line : Line → Made → Made
with_line l m = record m { lines = m.lines ++ l ∷ [] }

abbrev pub with_dim : Dim → Made → Made
with_dim d m = record m { prologue = m.prologue ++ d ∷ [] }

-- what becomes of the top of a stack, and of the rest below it
abbrev pub from_stack : (Exp → Made → Option Made) → Made → List Exp → Option Made
from_stack go m [] = None
from_stack go m (e ∷ rest) = go e (record m { exps = rest })

abbrev pub popped : (Exp → Made → Option Made) → Made → Option Made
popped go m = from_stack go m m.exps

-- what becomes of the arguments on top, and of the rest below them
unfoldable pub with_arguments : Arguments → (Exps → Made → Option Made) → Made → Option Made
with_arguments Zero go m = go net.no_exps m
with_arguments One go m = popped (λ a. go (net.next_exp a net.no_exps)) m
with_arguments Two go m = popped (λ b. popped (λ a. go (net.next_exp a (net.next_exp b net.no_exps)))) m

-- These arguments stand on top, and this is what is made but for them.
abbrev pub Stand : Arguments → Made → Exps → Made → Type 0
Stand count m args rest = (go : Exps → Made → Option Made) → with_arguments count go m ≡ go args rest

unfoldable pub on_one : (Exp → Exp) → Made → Option Made
on_one f m = popped (λ a rest. Some (pushed (f a) rest)) m

unfoldable pub on_two : (Exp → Exp → Exp) → Made → Option Made
on_two f m = popped (λ b. popped (λ a rest. Some (pushed (f a b) rest))) m

unfoldable pub line_of_one : (Exp → Line) → Made → Option Made
line_of_one f m = popped (λ a rest. Some (with_line (f a) rest)) m

unfoldable pub called : Arguments → Made → Option Made
called count m = with_arguments count (λ args. popped (λ callee rest. Some (pushed (net.call_of callee args) rest))) m

unfoldable pub created : List (List ℕ) → Arguments → Made → Option Made
created class count m = with_arguments count (λ args rest. Some (pushed (net.new_object (types.named class) args) rest)) m

unfoldable pub call_line : Arguments → Made → Option Made
call_line count m = with_arguments count (λ args. popped (λ callee rest. Some (with_line (net.call callee args) rest))) m

unfoldable pub local_of : List ℕ → SimpleType → Made → Option Made
local_of name t m = popped (λ a rest. Some (with_dim (net.local (record { name = name; ty = simple_type t; value = Some a })) rest)) m

abbrev pub next : Step → Made → Option Made
next (step.Name name) m = Some (pushed (net.path (name.now ∷ [])) m)
next (step.Path names) m = Some (pushed (net.path (map (λ n. n.now) names.now)) m)
next (step.Number n) m = Some (pushed (net.lit (net.integer n false)) m)
next (step.LongNumber n) m = Some (pushed (net.lit (net.long n)) m)
next (step.Amount n) m = Some (pushed (net.lit (net.decimal n)) m)
next (step.Text ascii) m = Some (pushed (net.lit (net.str ascii.now)) m)
next step.Nothing m = Some (pushed net.nothing m)
next (step.Dot name) m = on_one (λ a. net.dot a name.now) m
next (step.Cast word) m = on_one (net.cast word) m
next (step.Unary op) m = on_one (net.unary op) m
next (step.Binary op) m = on_two (net.binary op) m
next (step.TypeOf t) m = on_one (λ a. net.type_of a (simple_type t)) m
next (step.Call count) m = called count m
next (step.New names count) m = created (map (λ n. n.now) names.now) count m
next (step.Assign name) m = line_of_one (net.assign (net.path (name.now ∷ []))) m
next (step.CallLine count) m = call_line count m
next step.If m = line_of_one net.if_head m
next step.ElseIf m = line_of_one net.else_if m
next step.Else m = Some (with_line net.else_line m)
next step.EndIf m = Some (with_line net.end_if m)
next (step.Local name t) m = local_of name.now t m

-- what one more step makes of what the steps before it made, if they were well formed
abbrev pub advanced : Option Made → Step → Option Made
advanced None s = None
advanced (Some m) s = next s m

abbrev pub made_by : List Step → Option Made
made_by steps = fold advanced (Some none_made) steps

abbrev pub parameter : Parameter → Param
parameter (ByVal name t) = record { passing = passing.Value; name = name.now; ty = simple_type t }
parameter (ByRef name t) = record { passing = passing.Reference; name = name.now; ty = simple_type t }

abbrev pub head_with : List ℕ → List Param → Option SimpleType → Head
head_with name params None = net.sub Public name params
head_with name params (Some t) = net.function Public name params (simple_type t)

abbrev pub close_with : Option SimpleType → NetClose
close_with None = close.EndSub
close_with (Some t) = close.EndFunction

abbrev pub finished : Routine → Option Made → Option Procedure
finished r None = None
finished r (Some m) = Some (record {
  head = head_with r.name.now (map parameter r.params.now) r.result;
  prologue = m.prologue;
  lines = m.lines;
  close = close_with r.result;
})

-- the function that a routine makes, if its steps are well formed
abbrev pub built : Routine → Option Procedure
built r = finished r (made_by r.steps.now)
