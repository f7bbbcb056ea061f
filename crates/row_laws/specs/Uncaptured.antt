-- Where the paths that are written for functions mean these functions.
use Rattle.std.specs.Prelude.{◌≡◌, ℕ, List, codes, None}
use Rattle.net_run.specs.Members.{member_named}
use Rattle.net_run.specs.Names.{Scope, var_in, support_name}
use Rattle.net_run.specs.Shapes.{module_at, members_of, module_named}

-- no variable of the frame, no member of the module and no module has the name
pub record IsFree (S : Scope) (name : List ℕ) : Type 0 where
  pub no_variable : var_in S.vars name ≡ None
  pub no_member : member_named name (members_of (module_at S.project S.home)) ≡ None
  pub no_module : module_named S.project name ≡ None

-- `UpgradeSupport.F` is a support function
abbrev pub IsUncaptured : Scope → Type 0
IsUncaptured S = IsFree S support_name

-- `Microsoft.VisualBasic.Strings.F` is a function of the run-time library
abbrev pub IsTextUncaptured : Scope → Type 0
IsTextUncaptured S = IsFree S (codes "Microsoft")

-- and so is `System.Math.F`
abbrev pub IsMathUncaptured : Scope → Type 0
IsMathUncaptured S = IsFree S (codes "System")
