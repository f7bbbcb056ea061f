-- The facts that rules and runs ask for: each a list that lines give, or what chains of calls or of passing on lead to in such a
-- list. Beside each fact as a test stands what it means in words of chains.
use Rattle.std.specs.Prelude.{◌≡◌, ◌↔◌, IsTrue, ℕ, Bool, true, false, not, nat_lt, ◌&&◌, ◌||◌, Option, Some, None, List, slice_get}
use Rattle.std.specs.List.{list_any}
use Rattle.vb_tree.specs.declared.declared.Owner.{Owner}
use Rattle.vb_tree.specs.declared.declared.Owner.TheVariants as owner
use Rattle.vb_tree.specs.Tree.{Form, on_error_resume_next, resume, resume_next}
use Rattle.bound_tree.specs.Tree.{Expr, Line, Variable, Declarations, Program}
use Rattle.bound_facts.specs.Calls.{Reaches, ReachesOne, initialized, count_procedures, count_variables}
use Rattle.bound_facts.specs.Effects.{outward, touched, resized, passes}
use Rattle.bound_facts.specs.Leading.{LeadsTo, is_in}
use Rattle.bound_facts.specs.Members.{initializer}
use Rattle.bound_facts.specs.Calls.{calls}
use Rattle.bound_facts.specs.Node.{called, asks}
use Rattle.bound_facts.specs.SelfMade.{unplain}

-- ---- the facts of a project as tests, which it determines
pub record Known : Type 0 where
  -- a procedure that isn't inward
  pub outward : ℕ → Bool
  -- a variable that is changed, or a part of which is, or that is passed on by reference
  pub touched : ℕ → Bool
  -- an array variable that is made anew, erased or assigned whole, or passed on to a parameter that is
  pub resized : ℕ → Bool
  -- a procedure with a line that may not stand in the initializer of a self-made class
  pub unplain : ℕ → Bool

-- a chain of calls leads from a procedure to one that does one of the four things
abbrev pub ReachesOutward : Program → ℕ → Type 0
ReachesOutward P p = ReachesOne P (outward P) p

-- a chain of passing on leads from a variable to one that a line makes anew, erases or assigns whole
abbrev pub IsResized : Program → ℕ → Type 0
IsResized P v = LeadsTo (count_variables P) (passes P) (resized P) v

pub record AreFacts (P : Program) (F : Known) : Type 0 where
  pub outward_are : (p : ℕ) → IsTrue (F.outward p) ↔ ReachesOutward P p
  pub touched_are : (v : ℕ) → F.touched v ≡ (nat_lt v (count_variables P) && is_in (touched P) v)
  pub resized_are : (v : ℕ) → IsTrue (F.resized v) ↔ IsResized P v
  pub unplain_are : (p : ℕ) → F.unplain p ≡ (nat_lt p (count_procedures P) && is_in (unplain P) p)

-- ---- what they mean

-- whether a procedure has a line that does one of the four things
abbrev pub acts : Program → ℕ → Bool
acts P q = nat_lt q (count_procedures P) && is_in (outward P) q

-- neither the procedure nor anything that it reaches has such a line
abbrev pub IsInward : Program → ℕ → Type 0
IsInward P p = (q : ℕ) → Reaches P p q → acts P q ≡ false

-- the procedure has no line that may not stand in the initializer of a self-made class
abbrev pub is_plain : Program → ℕ → Bool
is_plain P q = not (nat_lt q (count_procedures P) && is_in (unplain P) q)

abbrev pub IsPlainOne : Program → Option ℕ → Type 0
IsPlainOne P None = Unit {0}
IsPlainOne P (Some q) = is_plain P q ≡ true

-- a class without an initializer, or whose initializer is plain
abbrev pub IsSelfMade : Program → ℕ → Type 0
IsSelfMade P c = IsPlainOne P (initializer P.declarations c)

-- ---- tests on facts

abbrev pub some_is : (ℕ → Bool) → Option ℕ → Bool
some_is test None = false
some_is test (Some n) = test n

-- whether a use is stirring: it calls a procedure that isn't inward, makes an object of a class that isn't self-made, or asks
abbrev pub stirs : Declarations → Known → Expr → Bool
stirs D F e = some_is F.outward (called e) || (some_is F.unplain (initialized D e) || asks e)

abbrev pub is_quiet_owner : Known → Owner → Bool
is_quiet_owner F (owner.Reference p) = not (F.outward p.0)
is_quiet_owner F _ = false

abbrev pub is_quiet_variable : Known → Option Variable → Bool
is_quiet_variable F None = false
is_quiet_variable F (Some v) = is_quiet_owner F v.owner

-- whether a variable is a quiet parameter: one by reference of an inward procedure, which is neither changed nor passed on
abbrev pub is_quiet : Declarations → Known → ℕ → Bool
is_quiet D F w = is_quiet_variable F (slice_get D.vars w) && not (F.touched w)

-- ---- going on after an error

abbrev pub goes_on : Form → Bool
goes_on on_error_resume_next = true
goes_on resume = true
goes_on resume_next = true
goes_on _ = false

-- whether a procedure goes on at or behind the line of an error
abbrev pub is_resumable : List Line → Bool
is_resumable lines = list_any (λ l. goes_on l.source.form) lines
