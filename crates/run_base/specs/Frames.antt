-- The frame of a procedure that runs, and its handling of errors.
use Rattle.std.specs.Prelude.{ℕ, Bool, true, false, cond, nat_eq, List, [], ◌∷◌, Option, Some, None}
use Rattle.run_base.specs.Positions.{updated_at}

-- an argument: a value, or the address of the variable that the parameter stands for
pub data Given (V A : Type 0) : Type 0 where
  by_value : V → Given V A
  by_address : A → Given V A

-- what an error in a procedure does: it leaves the procedure, the next line follows, or the line of a number
pub data Handler : Type 0 where
  none : Handler
  next_line : Handler
  at_line : ℕ → Handler

-- What the head of a block keeps: a For the address of its counter, its limit and its step; a Select Case its value; a With the object of
-- its expression or the address of a user type. It stays until the head keeps anew, also after control has left the block.
pub data Kept (V A : Type 0) : Type 0 where
  keeps_nothing : Kept V A
  keeps_limit : (counter : A) → (limit step : V) → Kept V A
  keeps_value : V → Kept V A
  keeps_address : A → Kept V A

-- A frame: the number of the line that comes next, counted from 1; the handler; whether it is active; the line of the error; the
-- addresses of its variables, each by a key of the kind K; its object, if any; what the heads of its blocks keep, by their lines; and what
-- is handed down from call to call, of the kind E.
pub record Frame (K V A E : Type 0) : Type 0 where
  pub line : ℕ
  pub handler : Handler
  pub active : Bool
  pub resume : ℕ
  pub vars : List (K × A)
  pub me : Option ℕ
  pub kept : ℕ → Kept V A
  pub env : E

abbrev pub first_frame : {K V A E : Type 0} → Option ℕ → E → List (K × A) → Frame K V A E
first_frame me env vars = record { line = 1; handler = none; active = false; resume = 0; vars = vars; me = me; kept = λ h. keeps_nothing; env = env }

abbrev pub to_line : {K V A E : Type 0} → ℕ → Frame K V A E → Frame K V A E
to_line n f = record f { line = n }

-- the frame with what its line keeps, going on at the line n
abbrev pub keeping : {K V A E : Type 0} → Kept V A → ℕ → Frame K V A E → Frame K V A E
keeping k n f = record f { line = n; kept = updated_at f.kept f.line k }

-- an On Error leaves the active flag as it is
abbrev pub with_handler : {K V A E : Type 0} → Handler → ℕ → Frame K V A E → Frame K V A E
with_handler h n f = record f { line = n; handler = h }

-- an error at the line of the frame is handled from the line n on
abbrev pub at_handler : {K V A E : Type 0} → ℕ → Frame K V A E → Frame K V A E
at_handler n f = record f { line = n; active = true; resume = f.line }

-- a Resume goes on at the line n
abbrev pub resumed_at : {K V A E : Type 0} → ℕ → Frame K V A E → Frame K V A E
resumed_at n f = record f { line = n; active = false }
