-- What the code has read so far of an expression, how much room it leaves, and one suffix more.
use Rattle.std.specs.Prelude.{◌≡◌, ℕ, zero, suc, ◌+◌, Bool, true, false, ◌&&◌, List, reverse, Option, Some, None, is_some}
use Rattle.net_tree.specs.Types.{TypeName}
use Rattle.net_tree.specs.Tree.{Exp, Exps, call_of, dot, new_object, no_exps}
use Rattle.net_tree.specs.View.{exp_of, exps_of, type_name_of}
use Rattle.net_tree.specs.Depth.{depth_exp, depth_exps}
use Rattle.net_exprs.specs.declared.stages.Group as code_group
use Rattle.net_exprs.specs.declared.stages.Group.TheVariants as g
use Rattle.net_exprs.specs.declared.stages.Stage as code_stage
use Rattle.net_exprs.specs.declared.stages.Stage.TheVariants as s
use Rattle.net_exprs.specs.declared.stages.ReadExpr.{ReadExpr}
use Rattle.net_exprs.specs.declared.stages.ReadItems.{ReadItems}
use Rattle.net_exprs.specs.declared.starts.Front.{Front}
use Rattle.net_exprs.specs.declared.starts.Front.TheVariants as opens
use Rattle.net_exprs.specs.Readers.{behind}
use Rattle.net_exprs.specs.Names.{name_at}
use Rattle.net_exprs.specs.Types.{commas_from}
use Rattle.net_exprs.specs.Expressions.{Group, Stage, Suffix, array_made, bounded, braces, group, items, member, no_suffix, rank, ranked, suffix_of, value_of, whole, with_group}
use Rattle.net_exprs.specs.Fitting.{fits_exp, fits_exps, fits_room, fits_type}

abbrev pub read_view : ReadExpr → Exp
read_view read = exp_of read.expr

abbrev pub items_view : ReadItems → Exps
items_view read = exps_of read.items.items

-- the code has the ranks in the order in which they stand
abbrev pub stage_view : code_stage.Stage → Stage
stage_view (s.Whole e) = whole (read_view e)
stage_view (s.Ranked t ranks) = ranked (type_name_of t) (reverse ranks.items)
stage_view (s.Bounded t ranks bounds) = bounded (type_name_of t) (reverse ranks.items) (items_view bounds)

abbrev pub group_view : code_group.Group → Group
group_view (g.Rank r) = rank r
group_view (g.Items es) = items (items_view es)

abbrev pub fits_stage : Stage → Bool
fits_stage (whole e) = fits_exp e
fits_stage (ranked t ranks) = fits_type t
fits_stage (bounded t ranks bounds) = fits_type t && fits_exps bounds

abbrev pub fits_group : Group → Bool
fits_group (rank r) = true
fits_group (items es) = fits_exps es

-- ---- room

-- How deep an expression is that goes on from there, at the least: ranks may become those of an array.
abbrev pub stage_depth : Stage → ℕ
stage_depth (whole e) = depth_exp e
stage_depth (ranked t ranks) = 1
stage_depth (bounded t ranks bounds) = suc (depth_exps bounds)

abbrev pub group_depth : Group → ℕ
group_depth (rank r) = 0
group_depth (items es) = depth_exps es

-- whether a stage fits, where there is so much room for what is nested in it
abbrev pub fits_stage_in : (room : ℕ) → Stage → Bool
fits_stage_in room = fits_room fits_stage stage_depth (suc room)

abbrev pub fits_group_in : (room : ℕ) → Group → Bool
fits_group_in room = fits_room fits_group group_depth room

-- what is read with so much room leaves the rest of it
abbrev pub Leaves : (room : ℕ) → ReadExpr → Type 0
Leaves room read = read.room + depth_exp (read_view read) ≡ room

abbrev pub LeaveAll : (room : ℕ) → ReadItems → Type 0
LeaveAll room read = read.room + depth_exps (items_view read) ≡ room

abbrev pub StageLeaves : (room : ℕ) → code_stage.Stage → Type 0
StageLeaves room (s.Whole e) = Leaves (suc room) e
StageLeaves room (s.Ranked t ranks) = Unit {0}
StageLeaves room (s.Bounded t ranks bounds) = LeaveAll room bounds

abbrev pub GroupLeaves : (room : ℕ) → code_group.Group → Type 0
GroupLeaves room (g.Rank r) = Unit {0}
GroupLeaves room (g.Items es) = LeaveAll room es

-- an object without arguments, and so many calls of it
abbrev pub object_calls : TypeName → (calls : ℕ) → Exp
object_calls t zero = new_object t no_exps
object_calls t (suc calls) = call_of (object_calls t calls) no_exps

abbrev pub goes_on_by : Stage → Suffix → Bool
goes_on_by stage (member s) = true
goes_on_by stage (group s) = true
goes_on_by stage (braces s) = is_some (array_made stage)
goes_on_by stage no_suffix = false

-- whether a suffix follows
abbrev pub goes_on : Stage → List ℕ → Bool
goes_on stage s = goes_on_by stage (suffix_of s)

abbrev pub array_stage : List ℕ → Option Exp → Option (Stage × List ℕ)
array_stage rest None = None
array_stage rest (Some e) = Some (whole e, rest)

-- a member of what is read so far
abbrev pub member_step : Stage → List ℕ → Option (Stage × List ℕ)
member_step stage s = behind (name_at s) (λ name rest. Some (whole (dot (value_of stage) name), rest))

abbrev pub group_step : (read_group : List ℕ → Option (Group × List ℕ)) → Stage → List ℕ → Option (Stage × List ℕ)
group_step read_group stage s = behind (read_group s) (λ g rest. Some (with_group stage g, rest))

abbrev pub step_by : (read_group : List ℕ → Option (Group × List ℕ)) → Stage → Suffix → Option (Stage × List ℕ)
step_by read_group stage (member s) = member_step stage s
step_by read_group stage (group s) = group_step read_group stage s
step_by read_group stage (braces s) = array_stage s (array_made stage)
step_by read_group stage no_suffix = None

-- what is read so far with one suffix more
abbrev pub suffix_step : (read_group : List ℕ → Option (Group × List ℕ)) → Stage → List ℕ → Option (Stage × List ℕ)
suffix_step read_group stage s = step_by read_group stage (suffix_of s)

-- whether commas alone may stand up to a closing parenthesis
abbrev pub is_rank : Front → Bool
is_rank opens.Closing = true
is_rank opens.Comma = true
is_rank opens.Minus = false
is_rank opens.Negation = false
is_rank opens.TypeTest = false
is_rank opens.Operand = false

abbrev pub rank_group : List ℕ → Option (Group × List ℕ)
rank_group s = behind (commas_from 1 s) (λ r rest. Some (rank r, rest))
